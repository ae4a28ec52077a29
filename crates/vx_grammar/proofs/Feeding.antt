-- The lines of a text are read by their tokens.
use Rattle.std.proofs.Common.{◌≡◌, ℕ, ◌+◌, List, [], ◌∷◌, map, Option, Some, None, Result, Ok, Err, refl, ap, ◌∙◌}
use Rattle.std.proofs.lemmas.Result.{IfOk-at_ok}
use Rattle.vx_image.specs.declared.system.System.{System}
use Rattle.vx_text.specs.Lex.{lex}
use Rattle.vx_text.specs.declared.token.LexFail.{LexFail}
use Rattle.vx_text.specs.declared.token.Tok.{Tok}
use Rattle.vx_text.specs.declared.token.Token.{Token}
use Rattle.vx_table.specs.Back.{toks_of}
use Rattle.vx_table.specs.Reading.{toks}
use Rattle.vx_script.specs.Results.{◌>>=◌, at_line}
use Rattle.vx_script.specs.Reading.{accepted, take_line, closed, between_images, read_lines}
use Rattle.vx_script.specs.Fields.{with_kind}
use Rattle.vx_script.specs.Resolving.{resolve}
use Rattle.vx_script.specs.declared.draft.DraftImage.{DraftImage}
use Rattle.vx_script.specs.declared.fault.FaultKind.{FaultKind}
use Rattle.vx_script.specs.declared.parts.Parts.{Parts}
use Rattle.vx_script.specs.declared.parts.Reading.{Reading}
use Rattle.vx_script.proofs.KeptParts.{AreParts, IsRead, line_kept}
use Rattle.vx_grammar.specs.Grammar.{tokens_of}
use Rattle.vx_grammar.proofs.Fields.{bind_ok}

-- what is read in the end of lines that have these tokens
abbrev pub feeds : ℕ → Reading → List (List Tok) → Result Reading FaultKind
feeds line r [] = Ok r
feeds line r (ts ∷ tss) = accepted line r ts >>= λ s. feeds (line + 1) s tss

-- the lines have tokens, are read to their end, and name what is there
pub record Fed (line : ℕ) (r : Reading) (ls : List (List ℕ)) (s : System) : Type 0 where
  pub tss : List (List Tok)
  pub all : Parts
  pub lexed : map tokens_of ls ≡ map Ok tss
  pub fed : feeds line r tss ≡ Ok (between_images all)
  pub resolved : resolve all ≡ Ok s
  pub kept : AreParts all

pub kinds : (r : Result (List Token) LexFail) (ts : List Tok) → with_kind r ≡ Ok ts → toks_of r ≡ Ok ts
kinds (Ok tokens) ts h = ap Ok (let e : toks tokens ≡ ts = cc in e)
kinds (Err e) ts h = absurd (cc)

pub back_kinds : (r : Result (List Token) LexFail) (ts : List Tok) → toks_of r ≡ Ok ts → with_kind r ≡ Ok ts
back_kinds (Ok tokens) ts h = ap Ok (let e : toks tokens ≡ ts = cc in e)
back_kinds (Err e) ts h = absurd (cc)

at_line_ok : {A : Type 0} (line : ℕ) (r : Result A FaultKind) (x : A) → at_line line r ≡ Ok x → r ≡ Ok x
at_line_ok line (Ok y) x h = ap Ok (let e : y ≡ x = cc in e)
at_line_ok line (Err e) x h = absurd (cc)

closed_is : (line : ℕ) (r : Reading) (current : Option DraftImage) (s : System) → AreParts r.parts → r.current ≡ current → closed line r.parts current ≡ Ok s → Fed line r [] s
closed_is line r None s kept e h = record { tss = []; all = r.parts; lexed = refl; fed = ap (λ (c : Option DraftImage). Ok (record { parts = r.parts; current = c })) e; resolved = h; kept = kept }
closed_is line r (Some image) s kept e h = absurd (cc)

-- what is read of a text is read of tokens
pub fed : (line : ℕ) (r : Reading) (ls : List (List ℕ)) (s : System) → IsRead r → read_lines line r ls ≡ Ok s → Fed line r ls s
unfolding read_lines take_line
fed line r [] s is h = closed_is line r r.current s is.parts refl h
fed line r (l ∷ ls) s is h =
    let b = bind_ok (at_line line (take_line line r l)) _ s h in
    let t = at_line_ok line (take_line line r l) b.0 b.1 in
    let c = bind_ok (with_kind (lex l)) (accepted line r) b.0 t in
    let kept = IfOk-at_ok IsRead t (line_kept line r l is) in
    let rest = fed (line + 1) b.0 ls s kept b.2 in
    record {
      tss = c.0 ∷ rest.tss;
      all = rest.all;
      lexed = ap (λ (x : Result (List Tok) LexFail). x ∷ map tokens_of ls) (kinds (lex l) c.0 c.1) ∙ ap (λ (xs : List (Result (List Tok) LexFail)). Ok c.0 ∷ xs) rest.lexed;
      fed = ap (λ (x : Result Reading FaultKind). x >>= λ q. feeds (line + 1) q rest.tss) c.2 ∙ rest.fed;
      resolved = rest.resolved;
      kept = rest.kept;
    }

pub taken : (line : ℕ) (r : Reading) (l : List ℕ) (ts : List Tok) (s : Reading) → toks_of (lex l) ≡ Ok ts → accepted line r ts ≡ Ok s → take_line line r l ≡ Ok s
unfolding take_line
taken line r l ts s h k = ap (λ (x : Result (List Tok) FaultKind). x >>= accepted line r) (back_kinds (lex l) ts h) ∙ k

pub lines_end : (line : ℕ) (all : Parts) → read_lines line (between_images all) [] ≡ resolve all
unfolding read_lines
lines_end line all = refl

pub line_read : (line : ℕ) (r s : Reading) (l : List ℕ) (ls : List (List ℕ)) → take_line line r l ≡ Ok s → read_lines line r (l ∷ ls) ≡ read_lines (line + 1) s ls
unfolding read_lines
line_read line r s l ls h = rw h refl

-- what is read of tokens is read of a text
pub fed_back : (line : ℕ) (r : Reading) (ls : List (List ℕ)) (tss : List (List Tok)) (all : Parts) → map tokens_of ls ≡ map Ok tss → feeds line r tss ≡ Ok (between_images all)
    → read_lines line r ls ≡ resolve all
fed_back line r [] [] all e h = ap (λ (q : Reading). read_lines line q []) (let k : r ≡ between_images all = cc in k) ∙ lines_end line all
fed_back line r [] (ts ∷ tss) all e h = absurd (cc)
fed_back line r (l ∷ ls) [] all e h = absurd (cc)
fed_back line r (l ∷ ls) (ts ∷ tss) all e h =
    let first : tokens_of l ≡ Ok ts = cc in
    let rest : map tokens_of ls ≡ map Ok tss = cc in
    let b = bind_ok (accepted line r ts) _ (between_images all) h in
    line_read line r b.0 l ls (taken line r l ts b.0 first b.1) ∙ fed_back (line + 1) b.0 ls tss all rest b.2
