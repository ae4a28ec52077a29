-- What the reader accepts is well formed, but for the numbers of labels.
use Rattle.std.proofs.Common.{◌≡◌, ℕ, ◌+◌, List, [], ◌∷◌, Option, Some, None, Result, Ok, Err, IfOk, refl}
use Rattle.std.proofs.lemmas.Result.{IfOk-at_ok}
use Rattle.vx_image.specs.declared.system.System.{System}
use Rattle.vx_script.specs.Lines.{lines_of}
use Rattle.vx_script.specs.Reading.{take_line, closed, read_lines, nothing_read, read_script}
use Rattle.vx_script.specs.Resolving.{first_unknown, resolved}
use Rattle.vx_script.specs.Results.{at_line}
use Rattle.vx_script.specs.declared.draft.DraftImage.{DraftImage}
use Rattle.vx_script.specs.declared.fault.FaultKind.{FaultKind}
use Rattle.vx_script.specs.declared.parts.Parts.{Parts}
use Rattle.vx_script.specs.declared.parts.Reading.{Reading}
use Rattle.vx_script.proofs.Chains.{after_by}
use Rattle.vx_script.proofs.KeptParts.{AreParts, IsRead, line_kept, nothing_kept}
use Rattle.vx_script.proofs.ResolvedSystem.{IsFormed, well_formed}

resolved_is : (p : Parts) (unknown : Option ℕ) → AreParts p → first_unknown p ≡ unknown → IfOk (resolved p unknown) IsFormed
resolved_is p None h e = well_formed p h e
resolved_is p (Some line) h e = tt

closed_is : (line : ℕ) (p : Parts) (current : Option DraftImage) → AreParts p → IfOk (closed line p current) IsFormed
closed_is line p None h = resolved_is p (first_unknown p) h refl
closed_is line p (Some image) h = tt

with_line : (line : ℕ) (r : Result Reading FaultKind) → IfOk r IsRead → IfOk (at_line line r) IsRead
with_line line (Ok r) h = h
with_line line (Err kind) h = tt

lines_are : (line : ℕ) (r : Reading) (ls : List (List ℕ)) → IsRead r → IfOk (read_lines line r ls) IsFormed
unfolding read_lines
lines_are line r [] h = closed_is line r.parts r.current h.parts
lines_are line r (l ∷ ls) h =
    let next : IfOk (at_line line (take_line line r l)) IsRead = with_line line (take_line line r l) (line_kept line r l h) in
    after_by (at_line line (take_line line r l)) _ IsRead IsFormed next λ s k. lines_are (line + 1) s ls k

script_is : (text : List ℕ) → IfOk (read_script text) IsFormed
unfolding read_script
script_is text = lines_are 1 nothing_read (lines_of text) nothing_kept

-- the system that a text spells is well formed so
pub accepted : (text : List ℕ) (s : System) → read_script text ≡ Ok s → IsFormed s
accepted text s e = IfOk-at_ok IsFormed e (script_is text)
