-- The terms of statements: arguments and quoted texts, and their small form.
use Rattle.std.specs.Prelude.{◌≡◌, ℕ, ◌<◌, ⊤, List, [], Some, None, if◌then◌else◌, length, map, slice_index_or}
use Rattle.std.specs.List.{AllByRecursion}
use Rattle.vx_base.specs.Name.{is_name}
use Rattle.vx_base.specs.declared.call.Arg.{Arg}
use Rattle.vx_base.specs.declared.call.Arg.TheVariants as arg
use Rattle.vx_base.specs.declared.call.Operand.TheVariants as operand
use Rattle.vx_image.specs.declared.terms.Packed.{Packed}
use Rattle.vx_image.specs.declared.terms.Packed.TheVariants as packed

pub data Term : Type 0 where
  OfArg : (arg : Arg) → Term
  OfText : (text : List ℕ) → Term

-- a quoted text is no argument
abbrev pub arg_of : Term → Arg
arg_of (OfArg a) = a
arg_of (OfText text) = arg.Unused

abbrev pub text_of : Term → List ℕ
text_of (OfArg a) = []
text_of (OfText text) = text

-- past the last term there is no argument
abbrev pub term_in : List Term → ℕ → Term
term_in terms k = slice_index_or terms k (OfArg arg.Unused)

abbrev pub arg_in : List Term → ℕ → Arg
arg_in terms k = arg_of (term_in terms k)

abbrev pub text_in : List Term → ℕ → List ℕ
text_in terms k = text_of (term_in terms k)

-- The small form: a name or a quoted text is its place among texts.

abbrev pub named : List ℕ → Arg
named text = if is_name text then arg.Name text else arg.Unused

abbrev pub labelled : List ℕ → Arg
labelled text = if is_name text then arg.Label (Some text) else arg.Unused

abbrev pub term_of : List (List ℕ) → Packed → Term
term_of texts (packed.Num n) = OfArg (arg.Value (operand.Num n))
term_of texts (packed.Cond c) = OfArg (arg.Value (operand.Cond c))
term_of texts (packed.Var v) = OfArg (arg.Value (operand.Var v))
term_of texts packed.R0 = OfArg (arg.Value operand.R0)
term_of texts packed.Pid = OfArg (arg.Value operand.Pid)
term_of texts packed.Prm = OfArg (arg.Value operand.Prm)
term_of texts (packed.Target t) = OfArg (arg.Target t)
term_of texts (packed.Mode m) = OfArg (arg.Mode m)
term_of texts (packed.Name i) = OfArg (named (slice_index_or texts i []))
term_of texts (packed.Label i) = OfArg (labelled (slice_index_or texts i []))
term_of texts packed.NoLabel = OfArg (arg.Label None)
term_of texts (packed.Func f) = OfArg (arg.Func f)
term_of texts packed.Unused = OfArg arg.Unused
term_of texts (packed.Text i) = OfText (slice_index_or texts i [])

abbrev pub terms_in : List (List ℕ) → List Packed → List Term
terms_in texts items = map (term_of texts) items

-- the text of a term is there
abbrev pub IsThere : List (List ℕ) → Packed → Type 0
IsThere texts (packed.Name i) = i < length texts
IsThere texts (packed.Label i) = i < length texts
IsThere texts (packed.Text i) = i < length texts
IsThere texts _ = ⊤

abbrev pub AreThere : List (List ℕ) → List Packed → Type 0
AreThere texts items = AllByRecursion (IsThere texts) items

-- the small form of a term
abbrev pub IsPacked : List (List ℕ) → Packed → Term → Type 0
IsPacked texts p term = (term_of texts p ≡ term) × IsThere texts p
