-- Each line that stands in no image is read as its piece.
use Rattle.std.proofs.Common.{◌≡◌, ℕ, ◌+◌, ◌<◌, ◌^◌, ◌==◌, Bool, true, false, cond, List, [], ◌∷◌, ◌++◌, length, codes, nat_lt, nat_le, None, Ok, refl, sym, subst, ap, ◌∙◌, arith, append-nil}
use Rattle.std.specs.Prelude.{decimal}
use Rattle.std.specs.List.{list_all, list_any}
use Rattle.std.proofs.lemmas.Bool.{leb-true}
use Rattle.std.proofs.lemmas.Bool.Decides.{nat_tests}
use Rattle.vx_base.specs.Name.{is_name}
use Rattle.vx_image.specs.declared.unit.UnitDecl.{UnitDecl}
use Rattle.vx_text.specs.declared.token.Tok.{Tok}
use Rattle.vx_text.specs.declared.token.Tok.TheVariants as tok
use Rattle.vx_text.specs.Lex.{lex}
use Rattle.vx_text.specs.Quote.{quote_text, AreBytes}
use Rattle.vx_table.specs.Back.{toks_of}
use Rattle.vx_script.specs.Declarations as read
use Rattle.vx_script.specs.Places.{unit_place, image_place}
use Rattle.vx_script.specs.Reading.{take_line, accepted, outside, between_images, goes_on, read_lines}
use Rattle.vx_script.specs.Script as script
use Rattle.vx_script.specs.declared.draft.DraftImage.{DraftImage}
use Rattle.vx_script.specs.declared.parts.Parts.{Parts}
use Rattle.vx_script.specs.declared.parts.Reading.{Reading}
use Rattle.vx_roundtrip.proofs.Words.{Has, has_same, is_clean, has_piece, has_spaced, AreSpelled, spells_word, spells_number, spells_text, ends_spaced}
use Rattle.vx_grammar.proofs.Feeding.{back_kinds, line_read}

-- a line without feed or return is taken, and this is read then
pub record Taken (line : ℕ) (r : Reading) (text : List ℕ) (next : Reading) : Type 0 where
  pub takes : take_line line r text ≡ Ok next
  pub clean : is_clean text ≡ true

take_of : (line : ℕ) (r : Reading) (text : List ℕ) (toks : List Tok) → toks_of (lex text) ≡ Ok toks → take_line line r text ≡ accepted line r toks
unfolding take_line
take_of line r text toks h = rw (back_kinds (lex text) toks h) refl

-- a line is taken by its tokens
pub taken_by : (line : ℕ) (r next : Reading) (text : List ℕ) (toks : List Tok) → Has text toks → accepted line r toks ≡ Ok next → Taken line r text next
taken_by line r next text toks h e = record { takes = take_of line r text toks h.lexed ∙ e; clean = h.clean }

abbrev pub are_clean : List (List ℕ) → Bool
are_clean ls = list_all is_clean ls

-- lines are read one by one up to these that are left
pub record Steps (line : ℕ) (r : Reading) (ls : List (List ℕ)) (line2 : ℕ) (next : Reading) (rest : List (List ℕ)) : Type 0 where
  pub read : read_lines line r ls ≡ read_lines line2 next rest
  pub clean : are_clean rest ≡ true → are_clean ls ≡ true

pub stays : (line : ℕ) (r : Reading) (ls : List (List ℕ)) → Steps line r ls line r ls
stays line r ls = record { read = refl; clean = λ h. h }

-- a line that was taken, and those behind it
pub step : (line : ℕ) (r next : Reading) (l : List ℕ) (ls : List (List ℕ)) → Taken line r l next → Steps line r (l ∷ ls) (line + 1) next ls
step line r next l ls t = record { read = line_read line r next l ls t.takes; clean = λ h. rw (t.clean, h) refl }

pub and_then : {line line2 line3 : ℕ} {r s t : Reading} {ls ms ns : List (List ℕ)} → Steps line r ls line2 s ms → Steps line2 s ms line3 t ns → Steps line r ls line3 t ns
and_then one two = record { read = one.read ∙ two.read; clean = λ h. one.clean (two.clean h) }

pub shaped : {line line2 : ℕ} {r s : Reading} {ls ms ns : List (List ℕ)} → ls ≡ ms → Steps line r ms line2 s ns → Steps line r ls line2 s ns
shaped {line} {line2} {r} {s} {ls} {ms} {ns} e h = subst (λ (xs : List (List ℕ)). Steps line r xs line2 s ns) (sym e) h

-- a line of a word and more
pub has_line : (word : List ℕ) (words : List (List ℕ)) (toks : List Tok) → is_name word ≡ true → AreSpelled words toks → Has (word ++ script.spaced words) (tok.Word word ∷ toks)
has_line word words toks h are = has_piece word (tok.Word word) (script.spaced words) toks (spells_word word h) (ends_spaced words) (has_spaced words toks are)

-- UNIT

-- a unit that has neither lines nor faults yet
abbrev pub bare : UnitDecl → UnitDecl
bare u = record { name = u.name; blocks = u.blocks; inputs = []; faults = [] }

abbrev kind_toks : Bool → ℕ → List Tok
kind_toks true n = tok.Word (codes "LINE") ∷ []
kind_toks false n = tok.Word (codes "BLOCK") ∷ tok.Num n ∷ []

kinds_spelled : (t : Bool) (n : ℕ) → n < 2 ^ 32 → AreSpelled (cond t (codes "LINE" ∷ []) (codes "BLOCK" ∷ decimal n ∷ [])) (kind_toks t n)
kinds_spelled true n h = (spells_word (codes "LINE") refl, tt)
kinds_spelled false n h = (spells_word (codes "BLOCK") refl, (spells_number n h, tt))

unit_by : (units : List UnitDecl) (name : List ℕ) (n : ℕ) (t : Bool) → (n == 0) ≡ t → nat_le n 4096 ≡ true → unit_place name units ≡ None → nat_lt (length units) 32 ≡ true → read.unit_line units (tok.Word name ∷ kind_toks t n) ≡ Ok (record { name = name; blocks = n; inputs = []; faults = [] })
unfolding read.unit_line
unit_by units name n true e h new room =
    let none : 0 ≡ n = grind (arith, nat_tests, e) in
    rw (new, room) (ap (λ (b : ℕ). Ok (record { name = name; blocks = b; inputs = []; faults = [] })) none)
unit_by units name n false e h new room =
    let some : nat_le 1 n ≡ true = grind (arith, nat_tests, e) in
    rw (new, room, some, h) refl

pub take_unit : (line : ℕ) (parts : Parts) (u : UnitDecl) → is_name u.name ≡ true → nat_le u.blocks 4096 ≡ true → unit_place u.name parts.units ≡ None → nat_lt (length parts.units) 32 ≡ true → Taken line (between_images parts) (script.unit_line u) (between_images (record parts { units = parts.units ++ bare u ∷ [] }))
unfolding outside
take_unit line parts u name blocks new room =
    let few : u.blocks < 2 ^ 32 = omega (arith, leb-true _ _ blocks) in
    let toks = tok.Word u.name ∷ kind_toks (u.blocks == 0) u.blocks in
    taken_by line (between_images parts) _ (script.unit_line u) (tok.Word (codes "UNIT") ∷ toks) (has_line (codes "UNIT") (u.name ∷ script.kind_words u.blocks) toks refl (spells_word u.name name, kinds_spelled (u.blocks == 0) u.blocks few)) (rw (unit_by parts.units u.name u.blocks (u.blocks == 0) refl blocks new room) refl)

-- INPUT

pub take_input : (line : ℕ) (parts : Parts) (name bytes : List ℕ) → is_name name ≡ true → AreBytes bytes → nat_le (length bytes) 2048 ≡ true → Taken line (between_images parts) (script.input_line name bytes) (between_images (record parts { inputs = parts.inputs ++ record { line = line; unit = name; text = bytes } ∷ [] }))
unfolding outside read.input_line
take_input line parts name bytes named are short =
    let toks = tok.Word name ∷ tok.Quote bytes ∷ [] in
    taken_by line (between_images parts) _ (script.input_line name bytes) (tok.Word (codes "INPUT") ∷ toks) (has_line (codes "INPUT") (name ∷ quote_text bytes ∷ []) toks refl (spells_word name named, (spells_text bytes are, tt))) (rw short refl)

-- FAULT

pub take_fault : (line : ℕ) (parts : Parts) (name : List ℕ) (n : ℕ) → is_name name ≡ true → nat_le 1 n ≡ true → nat_le n 100000 ≡ true → list_any (read.is_fault_of name n) parts.faults ≡ false → Taken line (between_images parts) (script.fault_line name n) (between_images (record parts { faults = parts.faults ++ record { line = line; unit = name; number = n } ∷ [] }))
unfolding outside read.fault_line
take_fault line parts name n named low high new =
    let toks = tok.Word name ∷ tok.Num n ∷ [] in
    let few : n < 2 ^ 32 = omega (arith, leb-true _ _ high) in
    taken_by line (between_images parts) _ (script.fault_line name n) (tok.Word (codes "FAULT") ∷ toks) (has_line (codes "FAULT") (name ∷ decimal n ∷ []) toks refl (spells_word name named, (spells_number n few, tt))) (rw (low, high, new) refl)

-- IMAGE

abbrev pub empty_image : List ℕ → DraftImage
empty_image name = record { name = name; labels = []; lines = [] }

pub take_image : (line : ℕ) (parts : Parts) (name : List ℕ) → is_name name ≡ true → image_place name parts.images ≡ None → nat_lt (length parts.images) 256 ≡ true → Taken line (between_images parts) (codes "IMAGE " ++ name) (goes_on parts (empty_image name))
unfolding outside read.image_line
take_image line parts name named new room =
    let toks = tok.Word name ∷ [] in
    let has : Has (codes "IMAGE" ++ script.spaced (name ∷ [])) (tok.Word (codes "IMAGE") ∷ toks) = has_line (codes "IMAGE") (name ∷ []) toks refl (spells_word name named, tt) in
    let same : codes "IMAGE " ++ name ≡ codes "IMAGE" ++ script.spaced (name ∷ []) = ap (λ (bytes : List ℕ). codes "IMAGE " ++ bytes) (sym (append-nil name)) in
    taken_by line (between_images parts) _ (codes "IMAGE " ++ name) (tok.Word (codes "IMAGE") ∷ toks) (has_same _ _ _ same has) (rw (new, room) refl)
