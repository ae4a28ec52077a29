-- Which line of a text is the first faulty one: the first that no production fits, after the lines before it.
use Rattle.std.specs.Prelude.{◌≡◌, ℕ, ◌+◌, true, false, List, [], ◌∷◌, ◌++◌, length, fold, codes, Some, None, Result, Ok, Err}
use Rattle.std.specs.List.{AllByRecursion}
use Rattle.vx_image.specs.declared.image.Image.{Image}
use Rattle.vx_image.specs.declared.system.System.{System}
use Rattle.vx_text.specs.declared.token.Tok.{Tok}
use Rattle.vx_text.specs.declared.token.Tok.TheVariants.{Word}
use Rattle.vx_script.specs.declared.fault.FaultKind.TheVariants.{End, Unknown}
use Rattle.vx_script.specs.declared.fault.ScriptFail.{ScriptFail}
use Rattle.vx_script.specs.declared.fault.ScriptFail.TheVariants as fail
use Rattle.vx_script.specs.declared.fault.ScriptFault.{ScriptFault}
use Rattle.vx_grammar.specs.Declared.{DeclaredImage, Declared, nothing_declared, IsNew, and_item, IsNewIn, and_said}
use Rattle.vx_grammar.specs.Grammar.{Said, BodyLine, Item, OfImage, Line, IsLines, tokens_of}
use Rattle.vx_grammar.specs.LineFault.{line_fault}
use Rattle.vx_grammar.specs.UnknownName.{names_unknown}

-- A production fits a line behind lines that declare this, whatever the line names, and then this is declared.
pub data Fits (d : Declared) : List Tok → Declared → Type 0 where
  empty_fits : d.image ≡ None → Fits d [] d
  line_fits : (s : System) (tokens : List Tok) (item : Item) → d.image ≡ None → Line s tokens item → IsNew d item → Fits d tokens (and_item d item)
  opening_fits : (i : Image) → d.image ≡ None → IsNew d (OfImage i)
      → Fits d (Word (codes "IMAGE") ∷ Word i.name ∷ []) (record (and_item d (OfImage i)) { image = Some (record { name = i.name; labels = []; stmts = 0 }) })
  body_fits : (o : DeclaredImage) (decls : List (List ℕ)) (i : Image) (tokens : List Tok) (said : List Said) → d.image ≡ Some o → BodyLine decls i tokens said
      → AllByRecursion (IsNewIn o) said → Fits d tokens (record d { image = Some (fold and_said o said) })
  end_fits : (o : DeclaredImage) → d.image ≡ Some o → Fits d (Word (codes "END") ∷ []) (record d { ended = d.ended ++ o ∷ []; image = None })

-- Lines each of which fits behind those before it, and what they declare.
pub data Fit : List (List ℕ) → Declared → Type 0 where
  none_fit : Fit [] nothing_declared
  one_fits : (lines : List (List ℕ)) (line : List ℕ) (tokens : List Tok) (d e : Declared) → Fit lines d → tokens_of line ≡ Ok tokens → Fits d tokens e
      → Fit (lines ++ line ∷ []) e

abbrev pub AllFit : List (List ℕ) → Type 0
AllFit lines = (d : Declared) × Fit lines d

-- the lines before the line of this number all fit, and with it they do not
pub record FirstFaulty (lines : List (List ℕ)) (number : ℕ) : Type 0 where
  pub before : List (List ℕ)
  pub line : List ℕ
  pub behind : List (List ℕ)
  pub split : lines ≡ before ++ line ∷ behind
  pub place : number ≡ length before + 1
  pub declared : Declared
  pub fit : Fit before declared
  pub faulty : AllFit (before ++ line ∷ []) → ⊥

-- all lines fit, and an image is not ended
pub record NotEnded (lines : List (List ℕ)) (number : ℕ) : Type 0 where
  pub declared : Declared
  pub image : DeclaredImage
  pub fit : Fit lines declared
  pub not_ended : declared.image ≡ Some image
  pub place : number ≡ length lines + 1

-- Lines each of which fits behind those before it and names what is there, if lines declare all this.
pub data AllKnown (all : Declared) : List (List ℕ) → Declared → Type 0 where
  none_known : AllKnown all [] nothing_declared
  one_known : (lines : List (List ℕ)) (line : List ℕ) (tokens : List Tok) (d e : Declared) → AllKnown all lines d → tokens_of line ≡ Ok tokens → Fits d tokens e
      → names_unknown all d.image tokens ≡ false → AllKnown all (lines ++ line ∷ []) e

-- all lines fit, no image is not ended, and the line of this number is the first that names what is not there
pub record FirstUnknown (lines : List (List ℕ)) (number : ℕ) : Type 0 where
  pub all : Declared
  pub fit : Fit lines all
  pub ended : all.image ≡ None
  pub before : List (List ℕ)
  pub line : List ℕ
  pub behind : List (List ℕ)
  pub split : lines ≡ before ++ line ∷ behind
  pub place : number ≡ length before + 1
  pub declared : Declared
  pub known : AllKnown all before declared
  pub tokens : List Tok
  pub lexed : tokens_of line ≡ Ok tokens
  pub unknown : names_unknown all declared.image tokens ≡ true

-- What a fault tells of the lines of a text.
pub data TellsFault (lines : List (List ℕ)) (fault : ScriptFault) : Type 0 where
  of_a_line : (f : FirstFaulty lines fault.line) → line_fault f.declared f.line ≡ Err fault.kind → TellsFault lines fault
  of_the_end : NotEnded lines fault.line → fault.kind ≡ End → TellsFault lines fault
  of_a_name : FirstUnknown lines fault.line → fault.kind ≡ Unknown → TellsFault lines fault

-- the same of a text
abbrev pub Tells : List ℕ → ScriptFault → Type 0
Tells text fault = (lines : List (List ℕ)) × IsLines text lines × TellsFault lines fault

-- a fault of a script that is told is that of the text; want of memory tells nothing
abbrev pub TellsIfFault : List ℕ → Result System ScriptFail → Type 0
TellsIfFault text (Err (fail.Fault fault)) = Tells text fault
TellsIfFault text _ = Unit {0}
