-- A text is its first line, and the lines behind it.
use Rattle.std.proofs.Common.{◌≡◌, ℕ, zero, suc, ◌+◌, ◌<◌, ◌≤◌, ◌==◌, not, Bool, true, false, cond, List, [], ◌∷◌, length, take, drop, nat_lt, refl, sym, ap, ◌∙◌, arith, None, Some, Ok, Err}
use Rattle.std.proofs.lemmas.List.{length-take-le}
use borrow.Author.Tests.{ltb-false}
use Rattle.vx_image.specs.declared.unit.UnitDecl.{UnitDecl}
use Rattle.vx_lines.specs.Cutting.{line_len, fed_len}
use Rattle.vx_lines.specs.ReadRecords.{fed_lines, is_of_record, read_lines, read_line, or_bad, read_so_far, nothing_read, read_records}
use Rattle.vx_lines.specs.declared.read.Reading.{Reading}
use Rattle.std.specs.List.{onto_first}

-- how many bytes the first line has, by the first byte
abbrev len_more : ℕ → ℕ → ℕ
len_more len whole = cond (nat_lt len whole) (len + 1) len

more_by : (n whole : ℕ) (t : Bool) → nat_lt n whole ≡ t → len_more (1 + n) (suc whole) ≡ suc (len_more n whole)
more_by n whole t e = grind arith

one_len : (n : ℕ) → len_more 0 (suc n) ≡ 1
one_len n = grind arith

cut_step : (b : ℕ) (bytes : List ℕ) (t : Bool) → (0 < length bytes → fed_lines bytes ≡ take (fed_len bytes) bytes ∷ fed_lines (drop (fed_len bytes) bytes)) → cond t ((10 ∷ []) ∷ fed_lines bytes) (onto_first b (fed_lines bytes)) ≡ take (len_more (cond (not t) (1 + line_len bytes) 0) (suc (length bytes))) (cond t 10 b ∷ bytes) ∷ fed_lines (drop (len_more (cond (not t) (1 + line_len bytes) 0) (suc (length bytes))) (b ∷ bytes))
unfolding fed_lines
cut_step b bytes true ih = rw (one_len (length bytes)) refl
cut_step b [] false ih = refl
cut_step b (c ∷ bytes) false ih = rw (more_by (line_len (c ∷ bytes)) (length (c ∷ bytes)) _ refl) (ap (onto_first b) (ih (omega arith)))

ten : (b : ℕ) → (b == 10) ≡ true → b ≡ 10
ten b h = grind (arith, h)

same_by : (b : ℕ) (t : Bool) → (b == 10) ≡ t → cond t 10 b ≡ b
same_by b true h = sym (ten b h)
same_by b false h = refl

pub cut_line : (text : List ℕ) → 0 < length text → fed_lines text ≡ take (fed_len text) text ∷ fed_lines (drop (fed_len text) text)
unfolding fed_lines
cut_line [] h = absurd (omega arith)
cut_line (b ∷ bytes) h = cut_step b bytes (b == 10) (λ k. cut_line bytes k) ∙ ap (λ (x : ℕ). take (fed_len (b ∷ bytes)) (x ∷ bytes) ∷ fed_lines (drop (fed_len (b ∷ bytes)) (b ∷ bytes))) (same_by b (b == 10) refl)

some_by : (n whole : ℕ) (t : Bool) → nat_lt n whole ≡ t → 0 < whole → 0 < cond t (n + 1) n
some_by n whole true e h = omega arith
some_by n whole false e h = let l : whole ≤ n = ltb-false n whole e in omega (arith, l, h)

pub len_some : (text : List ℕ) → 0 < length text → 0 < fed_len text
len_some text h = some_by (line_len text) (length text) _ refl h

first_by : (n b : ℕ) (bytes : List ℕ) → 0 < n → is_of_record (take n (b ∷ bytes)) ≡ is_of_record (b ∷ bytes)
first_by zero b bytes h = absurd (omega (arith, h))
first_by (suc n) b bytes h = refl

first_of : (text : List ℕ) → 0 < length text → is_of_record (take (fed_len text) text) ≡ is_of_record text
first_of [] h = absurd (omega (arith, h))
first_of (b ∷ bytes) h = first_by (fed_len (b ∷ bytes)) b bytes (len_some (b ∷ bytes) h)

pub begun : (text : List ℕ) → is_of_record text ≡ true → 0 < length text
begun [] h = cc
begun (b ∷ bytes) h = omega arith

pub taken : (units : List UnitDecl) (line at : ℕ) (r : Reading) (l : List ℕ) (ls : List (List ℕ)) → is_of_record l ≡ true → read_lines units line at r (l ∷ ls) ≡ or_bad line (read_line units r l) (λ s. read_lines units (line + 1) (at + length l) s ls)
unfolding read_lines
taken units line at r l ls h = rw h refl

stopped : (units : List UnitDecl) (line at : ℕ) (r : Reading) (l : List ℕ) (ls : List (List ℕ)) → is_of_record l ≡ false → read_lines units line at r (l ∷ ls) ≡ Ok (record { recs = read_so_far r; line = line; len = at })
unfolding read_lines
stopped units line at r l ls h = rw h refl

over : (units : List UnitDecl) (line at : ℕ) (r : Reading) → read_lines units line at r (fed_lines []) ≡ Ok (record { recs = read_so_far r; line = line; len = at })
unfolding read_lines fed_lines
over units line at r = refl

-- a line of a record is read, and what follows it
first_line : (units : List UnitDecl) (line at : ℕ) (r : Reading) (text : List ℕ) → is_of_record text ≡ true → read_lines units line at r (fed_lines text) ≡ or_bad line (read_line units r (take (fed_len text) text)) (λ s. read_lines units (line + 1) (at + length (take (fed_len text) text)) s (fed_lines (drop (fed_len text) text)))
first_line units line at r text h =
    let some = begun text h in
    ap (read_lines units line at r) (cut_line text some) ∙ taken units line at r (take (fed_len text) text) (fed_lines (drop (fed_len text) text)) (first_of text some ∙ h)

-- the records end where a line begins otherwise
pub ended : (units : List UnitDecl) (line at : ℕ) (r : Reading) (text : List ℕ) → is_of_record text ≡ false → read_lines units line at r (fed_lines text) ≡ Ok (record { recs = read_so_far r; line = line; len = at })
ended units line at r [] h = over units line at r
ended units line at r (b ∷ bytes) h =
    let text = b ∷ bytes in
    let some : 0 < length text = omega arith in
    ap (read_lines units line at r) (cut_line text some) ∙ stopped units line at r (take (fed_len text) text) (fed_lines (drop (fed_len text) text)) (first_of text some ∙ h)

-- a bad line
pub bad : (units : List UnitDecl) (line at len : ℕ) (r : Reading) (text : List ℕ) → is_of_record text ≡ true → len ≡ fed_len text → None ≡ read_line units r (take len text) → read_lines units line at r (fed_lines text) ≡ Err line
bad units line at len r text h n e =
    let read : read_line units r (take (fed_len text) text) ≡ None = ap (λ (k : ℕ). read_line units r (take k text)) (sym n) ∙ sym e in
    first_line units line at r text h ∙ ap (λ o. or_bad line o (λ s. read_lines units (line + 1) (at + length (take (fed_len text) text)) s (fed_lines (drop (fed_len text) text)))) read

-- what is behind a line is read on
pub read_on : (units : List UnitDecl) (line at len : ℕ) (r next : Reading) (text : List ℕ) → is_of_record text ≡ true → len ≡ fed_len text → len ≤ length text → Some next ≡ read_line units r (take len text) → read_lines units (line + 1) (at + len) next (fed_lines (drop len text)) ≡ read_lines units line at r (fed_lines text)
read_on units line at len r next text h n within e =
    let size : length (take len text) ≡ len = length-take-le len text within in
    let here : read_lines units line at r (fed_lines text) ≡ or_bad line (read_line units r (take len text)) (λ s. read_lines units (line + 1) (at + length (take len text)) s (fed_lines (drop len text))) = rw n (first_line units line at r text h) in
    sym (here ∙ ap (λ o. or_bad line o (λ s. read_lines units (line + 1) (at + length (take len text)) s (fed_lines (drop len text)))) (sym e) ∙ ap (λ (k : ℕ). read_lines units (line + 1) (at + k) next (fed_lines (drop len text))) size)

pub begins : (units : List UnitDecl) (line : ℕ) (text : List ℕ) → read_records units line text ≡ read_lines units line 0 nothing_read (fed_lines text)
unfolding read_records
begins units line text = refl
