-- What was read so far is in range, whatever line comes next.
use Rattle.std.proofs.Common.{ℕ, List, [], ◌∷◌, drop, codes, Option, Some, None, Result, Ok, IfOk, bytes_eq, refl}
use Rattle.vx_image.specs.declared.image.Image.{Image}
use Rattle.vx_text.specs.Lex.{lex}
use Rattle.vx_text.specs.declared.token.Tok.{Tok}
use Rattle.vx_text.specs.declared.token.Tok.TheVariants as tok
use Rattle.vx_script.specs.Fields.{begins_with_sign, end_at, with_kind}
use Rattle.vx_script.specs.Declarations.{unit_line, input_line, fault_line, image_line, process_line}
use Rattle.vx_script.specs.Resolving.{with_image}
use Rattle.vx_script.specs.Reading.{with_stmt, labelled, goes_on, going_on, word_line, first_word, by_word, between_images, outer_line, outside, by_place, take_line, nothing_read}
use Rattle.vx_script.specs.declared.draft.DraftImage.{DraftImage}
use Rattle.vx_script.specs.declared.fault.FaultKind.{FaultKind}
use Rattle.vx_script.specs.declared.parts.Parts.{Parts}
use Rattle.vx_script.specs.declared.parts.Reading.{Reading}
use Rattle.vx_script.proofs.Chains.{after, after_by}
use Rattle.vx_script.proofs.DeclLines.{AreDecls, WithDecl, decl_read}
use Rattle.vx_script.proofs.EndedImages.{AreImages, image_ended}
use Rattle.vx_script.proofs.FaultLines.{AreFaults, WithFault, fault_read}
use Rattle.vx_script.proofs.InputLines.{AreInputs, WithInput, input_read}
use Rattle.vx_script.proofs.OpenImages.{IsOpen, stmt_read, label_read, image_read}
use Rattle.vx_script.proofs.UnitLines.{AreUnits, WithUnit, unit_read}
use Rattle.vx_base.proofs.Bools.{either_by}

-- What was read, kind by kind.
pub record AreParts (p : Parts) : Type 0 where
  pub units : AreUnits p.units
  pub inputs : AreInputs p.inputs
  pub faults : AreFaults p.faults
  pub images : AreImages p.images p.creations p.unlabelled
  pub decls : AreDecls p.decls

abbrev pub IsOpenOr : List Image → Option DraftImage → Type 0
IsOpenOr images None = Unit {0}
IsOpenOr images (Some image) = IsOpen images image

-- The same, with the image that is not ended.
pub record IsRead (r : Reading) : Type 0 where
  pub parts : AreParts r.parts
  pub current : IsOpenOr r.parts.images r.current

abbrev IsReadOr : Result Reading FaultKind → Type 0
IsReadOr r = IfOk r IsRead

-- The line that ends an image.

ended_is : (p : Parts) (image : DraftImage) → AreParts p → IsOpen p.images image → AreParts (with_image p image)
ended_is p image h o =
    record
    { units = h.units; inputs = h.inputs; faults = h.faults; images = image_ended p.images p.creations p.unlabelled image h.images o; decls = h.decls }

-- A line in an image.

gone_on : (p : Parts) (r : Result DraftImage FaultKind) → AreParts p → IfOk r (IsOpen p.images) → IfOk (going_on p r) IsRead
gone_on p r h k = after_by r (λ i. Ok (goes_on p i)) (IsOpen p.images) IsRead k λ image o. record { parts = h; current = o }

word_kept : (line : ℕ) (p : Parts) (image : DraftImage) (word : List ℕ) (tokens : List Tok) → AreParts p → IsOpen p.images image
    → IfOk (word_line line p image word tokens) IsRead
word_kept line p image word tokens h o =
    either_by IsReadOr (begins_with_sign 58 (drop 1 tokens)) _ _
    (λ _. gone_on p (labelled line image word (drop 2 tokens)) h (label_read p.images line image word (drop 2 tokens) o)) (λ _.
    either_by IsReadOr (bytes_eq word (codes "END")) _ _ (λ _. after (end_at (drop 1 tokens)) _ IsRead λ _ _. record {
      parts =
          ended_is p image h o;
      current = tt;
    }) (λ _.
    gone_on p (with_stmt line image tokens) h (stmt_read p.images line image tokens o)))

by_word_kept : (line : ℕ) (p : Parts) (image : DraftImage) (tokens : List Tok) (word : Option (List ℕ)) → AreParts p → IsOpen p.images image
    → IfOk (by_word line p image tokens word) IsRead
by_word_kept line p image tokens None h o = gone_on p (with_stmt line image tokens) h (stmt_read p.images line image tokens o)
by_word_kept line p image tokens (Some word) h o = word_kept line p image word tokens h o

-- A line that stands in no image.

without_image : (p : Parts) → AreParts p → IsRead (between_images p)
without_image p h = record { parts = h; current = tt }

outer_kept : (line : ℕ) (p : Parts) (word : List ℕ) (tokens : List Tok) → AreParts p → IfOk (outer_line line p word tokens) IsRead
outer_kept line p word tokens h =
    either_by IsReadOr (bytes_eq word (codes "UNIT")) _ _
    (λ _. after_by (unit_line p.units tokens) _ (WithUnit p.units) IsRead (unit_read p.units tokens h.units) λ u k.
    without_image _ (record { units = k; inputs = h.inputs; faults = h.faults; images = h.images; decls = h.decls })) (λ _.
    either_by IsReadOr (bytes_eq word (codes "INPUT")) _ _
    (λ _. after_by (input_line line tokens) _ (WithInput p.inputs) IsRead (input_read line p.inputs tokens h.inputs) λ i k.
    without_image _ (record { units = h.units; inputs = k; faults = h.faults; images = h.images; decls = h.decls })) (λ _.
    either_by IsReadOr (bytes_eq word (codes "FAULT")) _ _
    (λ _. after_by (fault_line line p.faults tokens) _ (WithFault p.faults) IsRead (fault_read line p.faults tokens h.faults) λ f k.
    without_image _ (record { units = h.units; inputs = h.inputs; faults = k; images = h.images; decls = h.decls })) (λ _.
    either_by IsReadOr (bytes_eq word (codes "IMAGE")) _ _
    (λ _. after_by (image_line p.images tokens) _ (IsOpen p.images) IsRead (image_read p.images tokens) λ image o.
    record { parts = h; current = o }) (λ _.
    either_by IsReadOr (bytes_eq word (codes "PROCESS")) _ _
    (λ _. after_by (process_line line p.decls tokens) _ (WithDecl p.decls) IsRead (decl_read line p.decls tokens h.decls) λ d k.
    without_image _ (record { units = h.units; inputs = h.inputs; faults = h.faults; images = h.images; decls = k })) (λ _. tt)))))

outside_kept : (line : ℕ) (p : Parts) (tokens : List Tok) → AreParts p → IfOk (outside line p tokens) IsRead
unfolding outside
outside_kept line p [] h = without_image p h
outside_kept line p (tok.Word word ∷ tokens) h = outer_kept line p word tokens h
outside_kept line p (tok.Num n ∷ tokens) h = tt
outside_kept line p (_ ∷ tokens) h = tt

placed_kept : (line : ℕ) (p : Parts) (current : Option DraftImage) (tokens : List Tok) → AreParts p → IsOpenOr p.images current
    → IfOk (by_place line p current tokens) IsRead
placed_kept line p None tokens h o = outside_kept line p tokens h
placed_kept line p (Some image) tokens h o = by_word_kept line p image tokens (first_word tokens) h o

-- whatever line comes next
pub line_kept : (line : ℕ) (r : Reading) (bytes : List ℕ) → IsRead r → IfOk (take_line line r bytes) IsRead
unfolding take_line
line_kept line r bytes h = after (with_kind (lex bytes)) _ IsRead λ tokens _. placed_kept line r.parts r.current tokens h.parts h.current

-- before the first line
pub nothing_kept : IsRead nothing_read
nothing_kept = record {
  parts = record {
    units = record { few = refl; names = refl; blocks = refl };
    inputs = refl;
    faults = record { numbers = refl; apart = refl };
    images = record { few = refl; names = refl; formed = λ decls labels known. refl };
    decls = record { few = refl; names = refl; in_range = refl };
  };
  current = tt;
}
