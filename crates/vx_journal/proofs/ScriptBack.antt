-- What stands before the line of the journal is the canonical script, of which no line begins with a dollar sign.
use Rattle.std.proofs.Common.{◌≡◌, ℕ, zero, suc, ◌+◌, ◌==◌, ◌&&◌, not, true, false, List, [], ◌∷◌, ◌++◌, length, take, drop, map, flat_map, nat_eq, nat_le, nat_lt, Ok, refl, ap, ◌∙◌, arith, append_assoc, length-append, codes}
use Rattle.std.specs.List.{AllByRecursion, list_all}
use Rattle.std.proofs.Math.Seq.{take-append_seam}
use Rattle.std.proofs.lemmas.Bool.Decides.{nat_tests}
use Rattle.vx_base.specs.Name.{is_name, is_capital, is_name_byte}
use Rattle.vx_image.specs.WellFormed.{IsWellFormed}
use Rattle.vx_record.specs.Types.{Image, Label, ProcDecl, Stmt, System, UnitDecl}
use Rattle.vx_lines.specs.ReadEffect.{is_no_feed}
use Rattle.vx_lines.specs.ReadRecords.{fed_lines}
use Rattle.vx_lines.proofs.RecordsLaw.{fed_line, front_line}
use Rattle.vx_script.specs.Script.{body_lines, decl_line, decl_names, ended_lines, fault_line, image_lines, input_line, label_line, labels_up_to, script, script_lines, stmt_line, unit_lines}
use Rattle.vx_roundtrip.specs.Held.{IsHeldImage, IsHeldLabelOf, IsHeldSystem}
use Rattle.vx_roundtrip.proofs.Back.{clean_lines}
use Rattle.vx_roundtrip.proofs.Outer.{are_clean}
use Rattle.vx_roundtrip.proofs.Words.{is_clean}
use Rattle.vx_journal.specs.ReadJournal.{header, is_journal_line, len_before, line_behind, next_line, script_len, script_part}
use Rattle.vx_journal.proofs.LineBehind.{same_byte}
use Rattle.vx_journal.proofs.ScriptPart.{at_line, begins, past_line}
use Rattle.std.proofs.lemmas.Bool.{and_parts}

-- Lines that begin otherwise.

-- it begins with another byte than a dollar sign
abbrev IsOther : List ℕ → Type 0
IsOther [] = Unit {0}
IsOther (b ∷ bs) = (b == 36) ≡ false

no_dollar : (b : ℕ) → (b == 36) ≡ false → nat_eq 36 b ≡ false
no_dollar b h = grind (arith, nat_tests, h)

other_line : (l : List ℕ) → IsOther l → is_journal_line (l ++ 10 ∷ []) ≡ false
other_line [] h = refl
other_line (b ∷ bs) h = rw (no_dollar b h) refl

abbrev AllOther : List (List ℕ) → Type 0
AllOther ls = AllByRecursion IsOther ls

both_other : (xs ys : List (List ℕ)) → AllOther xs → AllOther ys → AllOther (xs ++ ys)
both_other [] ys h k = k
both_other (x ∷ xs) ys h k = (h.0, both_other xs ys h.1 k)

mapped_other : {A : Type 0} (f : A → List ℕ) (P : A → Type 0) → ((x : A) → P x → IsOther (f x)) → (xs : List A) → AllByRecursion P xs → AllOther (map f xs)
mapped_other f P each [] h = tt
mapped_other f P each (x ∷ xs) h = (each x h.0, mapped_other f P each xs h.1)

all_other : {A : Type 0} (f : A → List ℕ) → ((x : A) → IsOther (f x)) → (xs : List A) → AllOther (map f xs)
all_other f each [] = tt
all_other f each (x ∷ xs) = (each x, all_other f each xs)

flat_other : {A : Type 0} (f : A → List (List ℕ)) (P : A → Type 0) → ((x : A) → P x → AllOther (f x)) → (xs : List A) → AllByRecursion P xs → AllOther (flat_map f xs)
flat_other f P each [] h = tt
flat_other f P each (x ∷ xs) h = both_other (f x) (flat_map f xs) (each x h.0) (flat_other f P each xs h.1)

any_other : {A : Type 0} (f : A → List (List ℕ)) → ((x : A) → AllOther (f x)) → (xs : List A) → AllOther (flat_map f xs)
any_other f each [] = tt
any_other f each (x ∷ xs) = both_other (f x) (flat_map f xs) (each x) (any_other f each xs)

-- Lines of scripts.

unit_other : (u : UnitDecl) → AllOther (unit_lines u)
unit_other u = (refl, both_other (map (input_line u.name) u.inputs) (map (fault_line u.name) u.faults) (all_other (input_line u.name) (λ bytes. refl) u.inputs) (all_other (fault_line u.name) (λ n. refl) u.faults))

capital_other : (b : ℕ) → is_capital b ≡ true → (b == 36) ≡ false
capital_other b h = grind (arith, nat_tests, h)

first_capital : (b : ℕ) (name : List ℕ) → is_name (b ∷ name) ≡ true → is_capital b ≡ true
first_capital b name h =
    let bytes = list_all is_name_byte (b ∷ name) in
    let p = and_parts (nat_lt 0 (length (b ∷ name))) (nat_le (length (b ∷ name)) 31 && (is_capital b && bytes)) h in
    let q = and_parts (nat_le (length (b ∷ name)) 31) (is_capital b && bytes) p.1 in
    (and_parts (is_capital b) bytes q.1).0

name_other : (name rest : List ℕ) → is_name name ≡ true → IsOther (name ++ rest)
name_other [] rest h = absurd (cc)
name_other (b ∷ name) rest h = capital_other b (first_capital b name h)

label_other : (l : Label) → IsHeldLabelOf l → IsOther (label_line l)
label_other l h = name_other l.name (58 ∷ []) h

front_held : (n : ℕ) (xs : List Label) → AllByRecursion IsHeldLabelOf xs → AllByRecursion IsHeldLabelOf (take n xs)
front_held zero [] h = tt
front_held zero (x ∷ xs) h = tt
front_held (suc n) [] h = tt
front_held (suc n) (x ∷ xs) h = (h.0, front_held n xs h.1)

rest_held : (n : ℕ) (xs : List Label) → AllByRecursion IsHeldLabelOf xs → AllByRecursion IsHeldLabelOf (drop n xs)
rest_held zero [] h = tt
rest_held zero (x ∷ xs) h = h
rest_held (suc n) [] h = tt
rest_held (suc n) (x ∷ xs) h = rest_held n xs h.1

body_other : (labels : List Label) (place : ℕ) (left : List Label) (stmts : List Stmt) → AllByRecursion IsHeldLabelOf left → AllOther (body_lines labels place left stmts)
body_other labels place left [] h = mapped_other label_line IsHeldLabelOf label_other left h
body_other labels place left (s ∷ stmts) h =
    let n : ℕ = labels_up_to place left in
    both_other (map label_line (take n left)) (stmt_line labels s ∷ body_lines labels (place + 1) (drop n left) stmts) (mapped_other label_line IsHeldLabelOf label_other (take n left) (front_held n left h)) (refl, body_other labels (place + 1) (drop n left) stmts (rest_held n left h))

image_other : (i : Image) → IsHeldImage i → AllOther (image_lines i)
image_other i h = (refl, both_other (body_lines i.labels 0 i.labels i.stmts) (codes "END" ∷ []) (body_other i.labels 0 i.labels i.stmts h.1) (refl, tt))

decl_other : (images : List Image) (d : ProcDecl) → IsOther (decl_line images d)
unfolding decl_line decl_names
decl_other images d = refl

script_other : (s : System) → IsHeldSystem s → AllOther (script_lines s)
script_other s held =
    let units = flat_map unit_lines s.units in
    let images = flat_map image_lines s.images in
    let decls = map (decl_line s.images) s.decls in
    both_other (units ++ images) decls (both_other units images (any_other unit_lines unit_other s.units) (flat_other image_lines IsHeldImage image_other s.images held.images)) (all_other (decl_line s.images) (decl_other s.images) s.decls)

-- The script part.

feedless_of : (l : List ℕ) → is_clean l ≡ true → list_all is_no_feed l ≡ true
feedless_of [] h = refl
feedless_of (b ∷ l) h =
    let p = and_parts (not (b == 10) && not (b == 13)) (is_clean l) h in
    let q = and_parts (not (b == 10)) (not (b == 13)) p.0 in
    rw (q.0, feedless_of l p.1) refl

before_journal : (at : ℕ) (ls : List (List ℕ)) (text : List ℕ) → are_clean ls ≡ true → AllOther ls → len_before at (fed_lines (ended_lines ls ++ text)) ≡ len_before (at + length (ended_lines ls)) (fed_lines text)
before_journal at [] text clean other = ap (λ (n : ℕ). len_before n (fed_lines text)) (omega arith)
before_journal at (l ∷ ls) text clean other =
    let p = and_parts (is_clean l) (are_clean ls) clean in
    let rest : List ℕ = ended_lines ls in
    let line : List ℕ = l ++ 10 ∷ [] in
    ap (λ z. len_before at (fed_lines z)) (append_assoc line rest text)
    ∙ ap (len_before at) (fed_line l (rest ++ text) (feedless_of l p.0))
    ∙ past_line at line (fed_lines (rest ++ text)) (other_line l other.0)
    ∙ before_journal (at + length line) ls text p.1 other.1
    ∙ ap (λ (n : ℕ). len_before n (fed_lines text)) (omega (arith, length-append line rest))

at_header : (at : ℕ) (rest : List ℕ) → len_before at (fed_lines (header ++ rest)) ≡ at
at_header at rest = ap (len_before at) (front_line (codes "$JOURNAL 1") rest refl) ∙ at_line at header (fed_lines rest) refl

pub script_part_back : (s : System) (rest : List ℕ) → IsWellFormed s → IsHeldSystem s → script_part (script s ++ (header ++ rest)) ≡ script s
script_part_back s rest formed held =
    let text : List ℕ = script s ++ (header ++ rest) in
    let len : script_len text ≡ length (script s) = begins text ∙ before_journal 0 (script_lines s) (header ++ rest) (clean_lines s formed held) (script_other s held) ∙ at_header (0 + length (script s)) rest ∙ omega arith in
    ap (λ (n : ℕ). take n text) len ∙ take-append_seam (script s) (header ++ rest)

-- the text goes on with the front that it is to begin with
pub front_read : (line : ℕ) (front rest : List ℕ) → (n : ℕ) × (line_behind line front (front ++ rest) ≡ Ok n)
unfolding line_behind
front_read line [] rest = (line, refl)
front_read line (f ∷ front) rest =
    let more = front_read (next_line line f) front rest in
    (more.0, same_byte line f front (front ++ rest) ∙ more.1)
