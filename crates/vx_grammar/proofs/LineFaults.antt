-- The fault of a line is that with which the reader refuses it.
use mathlib.Core.Bool.{and_comm}
use Rattle.std.proofs.Common.{◌≡◌, ℕ, not, Bool, true, false, cond, List, [], ◌∷◌, length, drop, map, codes, ◌||◌, ◌==◌, Option, Some, None, is_some, Result, Ok, Err, bytes_eq, refl, sym, ap, ◌∙◌}
use Rattle.std.specs.List.{list_any}
use Rattle.std.proofs.lemmas.List.{length-map}
use Rattle.vx_base.proofs.Any.{any_map}
use Rattle.vx_image.specs.declared.image.Image.{Image}
use Rattle.vx_image.specs.declared.image.Label.{Label}
use Rattle.vx_image.specs.declared.unit.UnitDecl.{UnitDecl}
use Rattle.vx_image.specs.WellFormed.{is_among}
use Rattle.vx_text.specs.Lex.{lex}
use Rattle.vx_text.specs.declared.token.Tok.{Tok}
use Rattle.vx_text.specs.declared.token.Tok.TheVariants as tok
use Rattle.vx_script.specs.Declarations.{decl_place, unused_name, is_fault_of, unit_line, input_line, fault_line, image_line, process_line}
use Rattle.vx_script.specs.Fields.{begins_with_sign, end_at, when, name_at, number_at, text_at, device_at, blocks_of, room_for, with_kind}
use Rattle.vx_script.specs.Keys.{no_keys, keys_from}
use Rattle.vx_script.specs.Places.{unit_place, image_place, label_place}
use Rattle.vx_script.specs.Reading.{with_stmt, with_label, labelled, going_on, word_line, inside, outer_line, outside, by_place, take_line}
use Rattle.vx_script.specs.Results.{◌>>=◌}
use Rattle.vx_script.specs.Statements.{stmt_of}
use Rattle.vx_script.specs.declared.draft.DraftImage.{DraftImage}
use Rattle.vx_script.specs.declared.fault.FaultKind.{FaultKind}
use Rattle.vx_script.specs.declared.fault.FaultKind.TheVariants as kind
use Rattle.vx_script.specs.declared.lines.DeclLine.{DeclLine}
use Rattle.vx_script.specs.declared.lines.FaultLine.{FaultLine}
use Rattle.vx_script.specs.declared.parts.Parts.{Parts}
use Rattle.vx_script.specs.declared.parts.Reading.{Reading}
use Rattle.vx_script.proofs.Places.{has_place}
use Rattle.vx_grammar.specs.LineFault.{Verdict, new_among, unit_fault, input_fault, number_fault, image_fault, process_fault, outer_fault, outside_fault, statement_fault, word_fault, inside_fault, fault_at, line_fault}
use Rattle.vx_grammar.proofs.LinesFit.{open_of, declared_by, declared}
use Rattle.vx_grammar.proofs.SaidSoFar.{fault_key}

-- what a reading refuses, without what it gives
abbrev pub verdict : {A : Type 0} → Result A FaultKind → Verdict
verdict (Ok x) = Ok tt
verdict (Err kind) = Err kind

-- Chains.

goes : {A B : Type 0} (r : Result A FaultKind) (f : A → Result B FaultKind) (g : A → Verdict) → ((x : A) → verdict (f x) ≡ g x) → verdict (r >>= f) ≡ (r >>= g)
goes (Ok x) f g h = h x
goes (Err kind) f g h = refl

-- what is made of a reading refuses nothing
made : {A B : Type 0} (r : Result A FaultKind) (f : A → B) → verdict (r >>= λ x. Ok (f x)) ≡ verdict r
made (Ok x) f = refl
made (Err kind) f = refl

last : {B : Type 0} (r : Verdict) (y : B) → verdict (r >>= λ _. Ok y) ≡ r
last (Ok x) y = refl
last (Err kind) y = refl

-- a name that is new has no place
new_by : {B : Type 0} (o : Option ℕ) (t : Bool) (name : List ℕ) (f : List ℕ → Result B FaultKind) (g : Verdict) → is_some o ≡ t → verdict (f name) ≡ g
    → verdict (unused_name o name >>= f) ≡ (when (not t) kind.Twice >>= λ _. g)
new_by None t name f g e h = rw (← e) h
new_by (Some k) t name f g e h = rw (← e) refl

new_name : {A B : Type 0} (name : A → List ℕ) (n : List ℕ) (xs : List A) (f : List ℕ → Result B FaultKind) (g : Verdict) (o : Option ℕ) → is_some o ≡ list_any (λ x. bytes_eq n (name x)) xs → verdict (f n) ≡ g
    → verdict (unused_name o n >>= f) ≡ (new_among (map name xs) n >>= λ _. g)
new_name name n xs f g o e h = new_by o (is_among n (map name xs)) n f g (e ∙ sym (any_map (bytes_eq n) name xs)) h

room_by : {A B : Type 0} (most : ℕ) (name : A → List ℕ) (xs : List A) (y : B) → verdict (room_for most (length xs) >>= λ _. Ok y) ≡ room_for most (length (map name xs))
room_by most name xs y = last (room_for most (length xs)) y ∙ ap (room_for most) (sym (length-map xs name))

-- Lines outside images.

unit_same : (parts : Parts) (ts : List Tok) → verdict (unit_line parts.units ts) ≡ unit_fault (declared_by parts None) ts
unfolding unit_line unit_fault
unit_same parts ts =
    let name = λ (u : UnitDecl). u.name in
    goes (name_at ts) _ _ λ n.
    new_name name n parts.units _ _ (unit_place n parts.units) (has_place (λ (u : UnitDecl). bytes_eq n u.name) parts.units) (
    goes (device_at (drop 1 ts)) _ _ λ device.
    goes (blocks_of device (drop 2 ts)) _ _ λ blocks.
    room_by 32 name parts.units _)

input_same : (line : ℕ) (ts : List Tok) → verdict (input_line line ts) ≡ input_fault ts
unfolding input_line input_fault
input_same line ts =
    goes (name_at ts) _ _ λ unit.
    goes (text_at (drop 1 ts)) _ _ λ text.
    last (end_at (drop 2 ts)) _

same_faults : (unit : List ℕ) (n : ℕ) (fs : List FaultLine) → list_any (is_fault_of unit n) fs ≡ is_among (n ∷ unit) (map fault_key fs)
same_faults unit n [] = refl
same_faults unit n (f ∷ fs) =
    ap (λ (t : Bool). t || list_any (is_fault_of unit n) fs) (and_comm (bytes_eq unit f.unit) (n == f.number))
    ∙ ap (λ (t : Bool). bytes_eq (n ∷ unit) (fault_key f) || t) (same_faults unit n fs)

number_by : {B : Type 0} (t u : Bool) (n : ℕ) (f : ℕ → Result B FaultKind) (g : Verdict) → t ≡ u → verdict (f n) ≡ g
    → verdict (cond t (Err kind.Twice) (Ok n) >>= f) ≡ (when (not u) kind.Twice >>= λ _. g)
number_by true u n f g e h = rw (← e) refl
number_by false u n f g e h = rw (← e) h

number_same : (line : ℕ) (parts : Parts) (ts : List Tok) → verdict (fault_line line parts.faults ts) ≡ number_fault (declared_by parts None) ts
unfolding fault_line number_fault
number_same line parts ts =
    goes (name_at ts) _ _ λ unit.
    goes (number_at 1 100000 (drop 1 ts)) _ _ λ n.
    number_by (list_any (is_fault_of unit n) parts.faults) (is_among (n ∷ unit) (map fault_key parts.faults)) n _ _ (same_faults unit n parts.faults) (last (end_at (drop 2 ts)) _)

image_same : (parts : Parts) (ts : List Tok) → verdict (image_line parts.images ts) ≡ image_fault (declared_by parts None) ts
unfolding image_line image_fault
image_same parts ts =
    let name = λ (i : Image). i.name in
    goes (name_at ts) _ _ λ n.
    new_name name n parts.images _ _ (image_place n parts.images) (has_place (λ (i : Image). bytes_eq n i.name) parts.images) (
    goes (end_at (drop 1 ts)) _ _ λ _.
    room_by 256 name parts.images _)

process_same : (line : ℕ) (parts : Parts) (ts : List Tok) → verdict (process_line line parts.decls ts) ≡ process_fault (declared_by parts None) ts
unfolding process_line process_fault
process_same line parts ts =
    let name = λ (d : DeclLine). d.name in
    goes (name_at ts) _ _ λ n.
    new_name name n parts.decls _ _ (decl_place n parts.decls) (has_place (λ (d : DeclLine). bytes_eq n d.name) parts.decls) (
    goes (name_at (drop 1 ts)) _ _ λ image.
    goes (keys_from 0 no_keys (drop 2 ts)) _ _ λ keys.
    room_by 1000 name parts.decls _)

branch : {A : Type 0} (b : Bool) (x y : Result A FaultKind) (u v : Verdict) → verdict x ≡ u → verdict y ≡ v → verdict (cond b x y) ≡ cond b u v
branch true x y u v h k = h
branch false x y u v h k = k

outer_same : (line : ℕ) (parts : Parts) (word : List ℕ) (ts : List Tok) → verdict (outer_line line parts word ts) ≡ outer_fault (declared_by parts None) word ts
outer_same line parts word ts =
    branch (bytes_eq word (codes "UNIT")) _ _ _ _ (made (unit_line parts.units ts) _ ∙ unit_same parts ts) (
    branch (bytes_eq word (codes "INPUT")) _ _ _ _ (made (input_line line ts) _ ∙ input_same line ts) (
    branch (bytes_eq word (codes "FAULT")) _ _ _ _ (made (fault_line line parts.faults ts) _ ∙ number_same line parts ts) (
    branch (bytes_eq word (codes "IMAGE")) _ _ _ _ (made (image_line parts.images ts) _ ∙ image_same parts ts) (
    branch (bytes_eq word (codes "PROCESS")) _ _ _ _ (made (process_line line parts.decls ts) _ ∙ process_same line parts ts) refl))))

outside_same : (line : ℕ) (parts : Parts) (ts : List Tok) → verdict (outside line parts ts) ≡ outside_fault (declared_by parts None) ts
unfolding outside
outside_same line parts [] = refl
outside_same line parts (tok.Word word ∷ ts) = outer_same line parts word ts
outside_same line parts (tok.Num n ∷ ts) = refl
outside_same line parts (tok.Cond c ∷ ts) = refl
outside_same line parts (tok.Sign c ∷ ts) = refl
outside_same line parts (tok.Service c ∷ ts) = refl
outside_same line parts (tok.Quote c ∷ ts) = refl

-- Lines of an image.

statement_same : (line : ℕ) (image : DraftImage) (ts : List Tok) → verdict (with_stmt line image ts) ≡ statement_fault (open_of image) ts
statement_same line image [] = refl
statement_same line image (t ∷ ts) = goes (stmt_of t ts) _ _ λ d. last (room_for 10000 (length image.lines)) _

alone_same : (line : ℕ) (parts : Parts) (image : DraftImage) (ts : List Tok) → verdict (going_on parts (with_stmt line image ts)) ≡ statement_fault (open_of image) ts
alone_same line parts image ts = made (with_stmt line image ts) _ ∙ statement_same line image ts

label_same : (line : ℕ) (image : DraftImage) (name : List ℕ) (ts : List Tok)
    → verdict (labelled line image name ts) ≡ (new_among (open_of image).labels name >>= λ _. statement_fault (open_of image) ts)
label_same line image name ts =
    new_name (λ (l : Label). l.name) name image.labels _ _ (label_place name image.labels) (has_place (λ (l : Label). bytes_eq name l.name) image.labels) (behind ts)
  where
    behind : (ts : List Tok) → verdict (with_stmt line (with_label image name) ts) ≡ statement_fault (open_of image) ts
    behind [] = refl
    behind (t ∷ ts) = goes (stmt_of t ts) _ _ λ d. last (room_for 10000 (length image.lines)) _

word_same : (line : ℕ) (parts : Parts) (image : DraftImage) (word : List ℕ) (ts : List Tok) → verdict (word_line line parts image word (tok.Word word ∷ ts)) ≡ word_fault (open_of image) word ts
word_same line parts image word ts =
    branch (begins_with_sign 58 ts) _ _ _ _ (made (labelled line image word (drop 1 ts)) _ ∙ label_same line image word (drop 1 ts)) (
    branch (bytes_eq word (codes "END")) _ _ _ _ (last (end_at ts) _) (alone_same line parts image (tok.Word word ∷ ts)))

inside_same : (line : ℕ) (parts : Parts) (image : DraftImage) (ts : List Tok) → verdict (inside line parts image ts) ≡ inside_fault (open_of image) ts
inside_same line parts image (tok.Word word ∷ ts) = word_same line parts image word ts
inside_same line parts image [] = refl
inside_same line parts image (tok.Num n ∷ ts) = alone_same line parts image (tok.Num n ∷ ts)
inside_same line parts image (tok.Cond n ∷ ts) = alone_same line parts image (tok.Cond n ∷ ts)
inside_same line parts image (tok.Sign n ∷ ts) = alone_same line parts image (tok.Sign n ∷ ts)
inside_same line parts image (tok.Service n ∷ ts) = alone_same line parts image (tok.Service n ∷ ts)
inside_same line parts image (tok.Quote n ∷ ts) = alone_same line parts image (tok.Quote n ∷ ts)

-- Lines.

placed_same : (line : ℕ) (parts : Parts) (current : Option DraftImage) (ts : List Tok) → verdict (by_place line parts current ts) ≡ fault_at (declared_by parts current) (declared_by parts current).image ts
placed_same line parts None ts = outside_same line parts ts
placed_same line parts (Some image) ts = inside_same line parts image ts

line_same : (line : ℕ) (r : Reading) (l : List ℕ) → verdict (take_line line r l) ≡ line_fault (declared r) l
unfolding take_line
line_same line r l = goes (with_kind (lex l)) _ _ λ ts. placed_same line r.parts r.current ts

-- the reader refuses a line with its fault
pub refused : (line : ℕ) (r : Reading) (l : List ℕ) (kind : FaultKind) → take_line line r l ≡ Err kind → line_fault (declared r) l ≡ Err kind
refused line r l kind h = sym (line_same line r l) ∙ ap verdict h
