-- Lines that are spelled are read.
use mathlib.Core.Bool.{and_comm}
use Rattle.std.proofs.Common.{◌≡◌, ℕ, ◌+◌, ◌≤◌, ◌==◌, not, Bool, true, false, cond, nat_le, nat_lt, List, [], ◌∷◌, ◌++◌, length, map, flat_map, find, codes, Option, Some, None, is_some, position, Result, Ok, bytes_eq, refl, sym, subst, ap, ◌∙◌, arith, append-nil, append_assoc, length-append, unwrap_or}
use Rattle.std.specs.List.{list_all, list_any}
use Rattle.std.proofs.lemmas.Bool.{and_parts, and_from, or_parts, or_from, not_from_false, le-leb, lt-ltb, not-true}
use Rattle.std.proofs.lemmas.List.{map-append, map_push, length-map}
use Rattle.std.proofs.lemmas.List.Folds.{list_all-append, list_any-append}
use Rattle.vx_base.proofs.Any.{all_push, any_map}
use Rattle.vx_base.proofs.Lists.{not_some}
use Rattle.vx_image.specs.declared.decl.ProcDecl.{ProcDecl}
use Rattle.vx_image.specs.declared.image.Image.{Image}
use Rattle.vx_image.specs.declared.image.Label.{Label}
use Rattle.vx_image.specs.declared.stmt.Stmt.{Stmt}
use Rattle.vx_image.specs.declared.system.System.{System}
use Rattle.vx_image.specs.declared.unit.UnitDecl.{UnitDecl}
use Rattle.vx_image.specs.WellFormed.{is_among, are_distinct, label_names, decl_names}
use Rattle.vx_text.specs.declared.token.Tok.{Tok}
use Rattle.vx_text.specs.declared.token.Tok.TheVariants as tok
use Rattle.vx_script.specs.Results.{◌>>=◌}
use Rattle.vx_script.specs.Keys.{no_keys}
use Rattle.vx_script.specs.Declarations.{decl_place, unused_name, unit_line, input_line, is_fault_of, fault_line, image_line, process_line}
use Rattle.vx_script.specs.Places.{unit_place, image_place, label_place}
use Rattle.vx_script.specs.Reading.{with_stmt, with_label, goes_on, going_on, inside, between_images, outside}
use Rattle.vx_script.specs.Resolving.{names_no_label, first_unlabelled, settled, image_of, with_image, creation_of, creations_of, decl_of}
use Rattle.vx_script.specs.Statements.{stmt_of}
use Rattle.vx_script.specs.declared.draft.Draft.{Draft}
use Rattle.vx_script.specs.declared.draft.DraftImage.{DraftImage}
use Rattle.vx_script.specs.declared.draft.DraftLine.{DraftLine}
use Rattle.vx_script.specs.declared.fault.FaultKind.{FaultKind}
use Rattle.vx_script.specs.declared.keys.Key.{Key}
use Rattle.vx_script.specs.declared.lines.DeclLine.{DeclLine}
use Rattle.vx_script.specs.declared.lines.FaultLine.{FaultLine}
use Rattle.vx_script.specs.declared.lines.InputLine.{InputLine}
use Rattle.vx_script.specs.declared.parts.Parts.{Parts}
use Rattle.vx_script.specs.declared.parts.Reading.{Reading}
use Rattle.vx_script.specs.declared.keys.Key.TheVariants as key
use Rattle.vx_script.specs.declared.keys.Limit.TheVariants as limit
use Rattle.vx_script.proofs.Appended.{same_back}
use Rattle.vx_script.proofs.EndedImages.{is_known}
use Rattle.vx_script.proofs.Places.{has_place}
use Rattle.vx_grammar.specs.Grammar.{Said, Names, Does, BodyLine, empty_line, statement_line, label_line, labelled_line, Body, no_lines, and_line, stmts_in, labels_in, ImageOf, plain_decl, Item, OfUnit, OfInput, OfFault, OfImage, OfProcess, Line, a_line_unit, a_block_unit, an_input, a_fault, a_process, Lines, none_left, an_empty_line, a_line, an_image, fault_in, colon}
use Rattle.vx_grammar.proofs.ReadStatements.{Reads, ReadsAs, stmt_reads}
use Rattle.vx_grammar.proofs.ProcessKeys.{has, decl_with, KeysRead, settings_read}
use Rattle.vx_grammar.proofs.SaidSoFar.{pushed, map_pushed, fault_key, Extends, nothing_added, and_unit, and_input, and_fault, and_decl, bare_unit, unit_added, input_added, fault_added, decl_added, image_added, Known, with_known_unit, with_known_input, with_known_fault, with_known_decl, with_known_image}
use Rattle.vx_grammar.proofs.Feeding.{feeds}
use Rattle.std.specs.Int.{IsInRange}

-- Names that differ.

-- in neither of two lists
absent_both : (x : List ℕ) (xs ys : List (List ℕ)) → not (is_among x (xs ++ ys)) ≡ true → (is_among x xs ≡ false) × (is_among x ys ≡ false)
absent_both x xs ys h = or_parts (is_among x xs) (is_among x ys) (sym (list_any-append (bytes_eq x) xs ys) ∙ not-true (is_among x (xs ++ ys)) h)

-- a name differs from those before it
pub here_new : (xs : List (List ℕ)) (n : List ℕ) (ys : List (List ℕ)) → are_distinct (xs ++ n ∷ ys) ≡ true → is_among n xs ≡ false
here_new [] n ys h = refl
here_new (x ∷ xs) n ys h =
    let p = and_parts (not (is_among x (xs ++ n ∷ ys))) (are_distinct (xs ++ n ∷ ys)) h in
    let q = or_parts (bytes_eq x n) (is_among x ys) (absent_both x xs (n ∷ ys) p.0).1 in
    or_from (bytes_eq n x) (is_among n xs) (same_back n x ∙ q.0) (here_new xs n ys p.1)

front_apart : (xs ys : List (List ℕ)) → are_distinct (xs ++ ys) ≡ true → are_distinct xs ≡ true
front_apart [] ys h = refl
front_apart (x ∷ xs) ys h =
    let p = and_parts (not (is_among x (xs ++ ys))) (are_distinct (xs ++ ys)) h in
    and_from (not (is_among x xs)) (are_distinct xs) (not_from_false (is_among x xs) (absent_both x xs ys p.0).0) (front_apart xs ys p.1)

-- these names, and those to come, differ, and are not too many
pub record Room (most : ℕ) (xs ys : List (List ℕ)) : Type 0 where
  pub apart : are_distinct (xs ++ ys) ≡ true
  pub few : length (xs ++ ys) ≤ most

room_next : (most : ℕ) (xs zs : List (List ℕ)) (n : List ℕ) (ys : List (List ℕ)) → zs ≡ xs ++ n ∷ [] → Room most xs (n ∷ ys) → Room most zs ys
room_next most xs zs n ys e r =
    let same : xs ++ n ∷ ys ≡ zs ++ ys = sym (pushed xs n ys) ∙ ap (λ (us : List (List ℕ)). us ++ ys) (sym e) in
    record { apart = subst (λ (us : List (List ℕ)). are_distinct us ≡ true) same r.apart; few = subst (λ (us : List (List ℕ)). length us ≤ most) same r.few }

room_left : {A : Type 0} (most : ℕ) (name : A → List ℕ) (xs : List A) (n : List ℕ) (ys : List (List ℕ)) → Room most (map name xs) (n ∷ ys) → nat_lt (length xs) most ≡ true
room_left most name xs n ys r =
    let few = r.few in
    let many : length (map name xs) ≡ length xs = length-map xs name in
    lt-ltb (length xs) most (omega (arith, few, many, length-append (map name xs) (n ∷ ys)))

pub no_place : {A : Type 0} (name : A → List ℕ) (n : List ℕ) (xs : List A) → is_among n (map name xs) ≡ false → position (λ x. bytes_eq n (name x)) xs ≡ None
no_place name n xs h = not_some (position (λ x. bytes_eq n (name x)) xs) (has_place (λ x. bytes_eq n (name x)) xs ∙ sym (any_map (bytes_eq n) name xs) ∙ h)

room_new : {A : Type 0} (most : ℕ) (name : A → List ℕ) (xs : List A) (n : List ℕ) (ys : List (List ℕ)) → Room most (map name xs) (n ∷ ys) → position (λ x. bytes_eq n (name x)) xs ≡ None
room_new most name xs n ys r = no_place name n xs (here_new (map name xs) n ys r.apart)

room_push : {A : Type 0} (most : ℕ) (name : A → List ℕ) (xs : List A) (x : A) (ys : List (List ℕ)) → Room most (map name xs) (name x ∷ ys) → Room most (map name (xs ++ x ∷ [])) ys
room_push most name xs x ys r = room_next most (map name xs) (map name (xs ++ x ∷ [])) (name x) ys (map_push name xs x) r

-- Inside an image.

-- the names of labels
abbrev names_in : List Said → List (List ℕ)
names_in [] = []
names_in (Names name ∷ said) = name ∷ names_in said
names_in (Does s ∷ said) = names_in said

labels_named : (k : ℕ) (said : List Said) → map (λ (l : Label). l.name) (labels_in k said) ≡ names_in said
labels_named k [] = refl
labels_named k (Names name ∷ said) = ap (λ (ns : List (List ℕ)). name ∷ ns) (labels_named k said)
labels_named k (Does s ∷ said) = labels_named (k + 1) said

names_both : (front said : List Said) → names_in (front ++ said) ≡ names_in front ++ names_in said
names_both [] said = refl
names_both (Names name ∷ front) said = ap (λ (ns : List (List ℕ)). name ∷ ns) (names_both front said)
names_both (Does s ∷ front) said = names_both front said

stmts_both : (front said : List Said) → stmts_in (front ++ said) ≡ stmts_in front ++ stmts_in said
stmts_both [] said = refl
stmts_both (Names name ∷ front) said = stmts_both front said
stmts_both (Does s ∷ front) said = ap (λ (ss : List Stmt). s ∷ ss) (stmts_both front said)

labels_both : (k : ℕ) (front said : List Said) → labels_in k (front ++ said) ≡ labels_in k front ++ labels_in (k + length (stmts_in front)) said
labels_both k [] said = let e : k ≡ k + 0 = omega arith in ap (λ (j : ℕ). labels_in j said) e
labels_both k (Names name ∷ front) said = ap (λ (ls : List Label). record { name = name; place = k } ∷ ls) (labels_both k front said)
labels_both k (Does s ∷ front) said =
    let e : k + 1 + length (stmts_in front) ≡ k + length (s ∷ stmts_in front) = omega arith in
    labels_both (k + 1) front said ∙ ap (λ (j : ℕ). labels_in (k + 1) front ++ labels_in j said) e

abbrev settle : Image → DraftLine → Stmt
settle i d = settled i.labels d.draft

-- an image to which all this is said becomes another, if it is to be this one
record Grows (decls : List (List ℕ)) (i : Image) (image more : DraftImage) (said : List Said) : Type 0 where
  name : more.name ≡ image.name
  labels : more.labels ≡ image.labels ++ labels_in (length image.lines) said
  stmts : map (settle i) more.lines ≡ map (settle i) image.lines ++ stmts_in said
  known : list_all (λ d. not (names_no_label i.labels d)) more.lines ≡ true
  made : list_all (is_known decls) (creations_of more.lines) ≡ true

-- what is so of the image so far
record Grown (decls : List (List ℕ)) (i : Image) (image : DraftImage) : Type 0 where
  known : list_all (λ d. not (names_no_label i.labels d)) image.lines ≡ true
  made : list_all (is_known decls) (creations_of image.lines) ≡ true

grows_nothing : (decls : List (List ℕ)) (i : Image) (image : DraftImage) → Grown decls i image → Grows decls i image image []
grows_nothing decls i image g = record { name = refl; labels = sym (append-nil image.labels); stmts = sym (append-nil (map (settle i) image.lines)); known = g.known; made = g.made }

as_long : (decls : List (List ℕ)) (i : Image) (image more : DraftImage) (said : List Said) → Grows decls i image more said → length more.lines ≡ length image.lines + length (stmts_in said)
as_long decls i image more said g =
    let a : length (map (settle i) more.lines) ≡ length more.lines = length-map more.lines (settle i) in
    let b : length (map (settle i) image.lines) ≡ length image.lines = length-map image.lines (settle i) in
    let c : length (map (settle i) more.lines) ≡ length (map (settle i) image.lines ++ stmts_in said) = ap (λ (ss : List Stmt). length ss) g.stmts in
    omega (arith, a, b, c, length-append (map (settle i) image.lines) (stmts_in said))

and_grows : (decls : List (List ℕ)) (i : Image) (image more last : DraftImage) (front said : List Said) → Grows decls i image more front → Grows decls i more last said → Grows decls i image last (front ++ said)
and_grows decls i image more last front said g h =
    let k = length image.lines in
    let long = as_long decls i image more front g in
    record {
      name = h.name ∙ g.name;
      labels = h.labels ∙ ap (λ (j : ℕ). more.labels ++ labels_in j said) long ∙ ap (λ (ls : List Label). ls ++ labels_in (k + length (stmts_in front)) said) g.labels
          ∙ append_assoc image.labels (labels_in k front) (labels_in (k + length (stmts_in front)) said) ∙ ap (λ (ls : List Label). image.labels ++ ls) (sym (labels_both k front said));
      stmts = h.stmts ∙ ap (λ (ss : List Stmt). ss ++ stmts_in said) g.stmts ∙ append_assoc (map (settle i) image.lines) (stmts_in front) (stmts_in said)
          ∙ ap (λ (ss : List Stmt). map (settle i) image.lines ++ ss) (sym (stmts_both front said));
      known = h.known;
      made = h.made;
    }

-- there is room for what is said
record HasRoom (image : DraftImage) (said : List Said) : Type 0 where
  apart : are_distinct (map (λ (l : Label). l.name) image.labels ++ names_in said) ≡ true
  few : length image.lines + length (stmts_in said) ≤ 10000

room_behind : (decls : List (List ℕ)) (i : Image) (image more : DraftImage) (front said : List Said) → Grows decls i image more front → HasRoom image (front ++ said) → HasRoom more said
room_behind decls i image more front said g r =
    let name = λ (l : Label). l.name in
    let few = r.few in
    let long = as_long decls i image more front g in
    let both : length (stmts_in (front ++ said)) ≡ length (stmts_in front ++ stmts_in said) = ap (λ (ss : List Stmt). length ss) (stmts_both front said) in
    let names : map name more.labels ≡ map name image.labels ++ names_in front = ap (map name) g.labels ∙ map-append name image.labels (labels_in (length image.lines) front) ∙ ap (λ (ns : List (List ℕ)). map name image.labels ++ ns) (labels_named (length image.lines) front) in
    let same : map name image.labels ++ names_in (front ++ said) ≡ map name more.labels ++ names_in said =
    ap (λ (ns : List (List ℕ)). map name image.labels ++ ns) (names_both front said) ∙ sym (append_assoc (map name image.labels) (names_in front) (names_in said))
    ∙ ap (λ (ns : List (List ℕ)). ns ++ names_in said) (sym names) in
    record {
      apart = subst (λ (ns : List (List ℕ)). are_distinct ns ≡ true) same r.apart;
      few = omega (arith, few, long, both, length-append (stmts_in front) (stmts_in said));
    }

-- one line is read
record LineRead (decls : List (List ℕ)) (i : Image) (line : ℕ) (parts : Parts) (image : DraftImage) (ts : List Tok) (said : List Said) : Type 0 where
  more : DraftImage
  read : inside line parts image ts ≡ Ok (goes_on parts more)
  grows : Grows decls i image more said

abbrev pub with_draft : ℕ → DraftImage → Draft → DraftImage
with_draft line image d = record image { lines = image.lines ++ record { line = line; draft = d } ∷ [] }

flat_both : (line : ℕ) (d : Draft) (ds : List DraftLine) → creations_of (ds ++ record { line = line; draft = d } ∷ []) ≡ creations_of ds ++ creation_of (record { line = line; draft = d })
flat_both line d [] = append-nil (creation_of (record { line = line; draft = d }))
flat_both line d (e ∷ ds) = ap (λ cs. creation_of e ++ cs) (flat_both line d ds) ∙ sym (append_assoc (creation_of e) (creations_of ds) (creation_of (record { line = line; draft = d })))

-- a statement more
grows_stmt : (decls : List (List ℕ)) (i : Image) (line : ℕ) (image : DraftImage) (t : Tok) (rest : List Tok) (s : Stmt) (r : Reads decls i t rest s) → Grown decls i image
    → Grows decls i image (with_draft line image r.drafted) (Does s ∷ [])
grows_stmt decls i line image t rest s r g =
    let one : DraftLine = record { line = line; draft = r.drafted } in
    record {
      name = refl;
      labels = sym (append-nil image.labels);
      stmts = map_push (settle i) image.lines one ∙ ap (λ (u : Stmt). map (settle i) image.lines ++ u ∷ []) r.settles;
      known = all_push (λ d. not (names_no_label i.labels d)) image.lines one g.known (ap not r.labels);
      made = ap (list_all (is_known decls)) (flat_both line r.drafted image.lines)
          ∙ list_all-append (is_known decls) (creations_of image.lines) (creation_of one) ∙ and_from (list_all (is_known decls) (creations_of image.lines)) _ g.made (r.made line);
    }

pub stmt_taken : (line : ℕ) (image : DraftImage) (t : Tok) (rest : List Tok) (d : Draft) → stmt_of t rest ≡ Ok d → nat_lt (length image.lines) 10000 ≡ true → with_stmt line image (t ∷ rest) ≡ Ok (with_draft line image d)
stmt_taken line image t rest d h room = rw (h, room) refl

statement_read : (decls : List (List ℕ)) (i : Image) (line : ℕ) (parts : Parts) (image : DraftImage) (ts : List Tok) (s : Stmt) → ReadsAs decls i ts s → Grown decls i image → HasRoom image (Does s ∷ [])
    → LineRead decls i line parts image ts (Does s ∷ [])
statement_read decls i line parts image [] s r g room = absurd r
statement_read decls i line parts image (t ∷ rest) s r g room =
    let few = room.few in
    let left : nat_lt (length image.lines) 10000 ≡ true = lt-ltb _ _ (omega (arith, few)) in
    record {
      more = with_draft line image r.drafted;
      read = r.alone line parts image ∙ ap (going_on parts) (stmt_taken line image t rest r.drafted r.read left);
      grows = grows_stmt decls i line image t rest s r g;
    }

grows_label : (decls : List (List ℕ)) (i : Image) (image : DraftImage) (name : List ℕ) → Grown decls i image → Grows decls i image (with_label image name) (Names name ∷ [])
grows_label decls i image name g = record { name = refl; labels = refl; stmts = sym (append-nil (map (settle i) image.lines)); known = g.known; made = g.made }

label_new : (image : DraftImage) (name : List ℕ) (said : List Said) → HasRoom image (Names name ∷ said) → label_place name image.labels ≡ None
label_new image name said r = no_place (λ (l : Label). l.name) name image.labels (here_new (map (λ (l : Label). l.name) image.labels) name (names_in said) r.apart)

pub label_taken : (line : ℕ) (parts : Parts) (image : DraftImage) (name : List ℕ) (ts : List Tok) (m : Result DraftImage FaultKind) → label_place name image.labels ≡ None → with_stmt line (with_label image name) ts ≡ m
    → inside line parts image (tok.Word name ∷ colon ∷ ts) ≡ going_on parts m
label_taken line parts image name ts m new h = ap (λ (o : Option ℕ). going_on parts (unused_name o name >>= λ _. with_stmt line (with_label image name) ts)) new ∙ ap (going_on parts) h

labelled_read : (decls : List (List ℕ)) (i : Image) (line : ℕ) (parts : Parts) (image : DraftImage) (name : List ℕ) (ts : List Tok) (s : Stmt) → ReadsAs decls i ts s → Grown decls i image
    → HasRoom image (Names name ∷ Does s ∷ []) → LineRead decls i line parts image (tok.Word name ∷ colon ∷ ts) (Names name ∷ Does s ∷ [])
labelled_read decls i line parts image name [] s r g room = absurd r
labelled_read decls i line parts image name (t ∷ rest) s r g room =
    let few = room.few in
    let left : nat_lt (length image.lines) 10000 ≡ true = lt-ltb _ _ (omega (arith, few)) in
    let first = grows_label decls i image name g in
    let second = grows_stmt decls i line (with_label image name) t rest s r (record { known = first.known; made = first.made }) in
    record {
      more = with_draft line (with_label image name) r.drafted;
      read = label_taken line parts image name (t ∷ rest) (Ok (with_draft line (with_label image name) r.drafted)) (label_new image name (Does s ∷ []) room) (stmt_taken line (with_label image name) t rest r.drafted r.read left);
      grows = and_grows decls i image (with_label image name) _ (Names name ∷ []) (Does s ∷ []) first second;
    }

line_read : (decls : List (List ℕ)) (i : Image) (ts : List Tok) (said : List Said) → BodyLine decls i ts said → (line : ℕ) (parts : Parts) (image : DraftImage) → Grown decls i image → HasRoom image said
    → LineRead decls i line parts image ts said
line_read decls i _ _ empty_line line parts image g room = record { more = image; read = refl; grows = grows_nothing decls i image g }
line_read decls i _ _ (statement_line ts s h) line parts image g room = statement_read decls i line parts image ts s (stmt_reads decls i ts s h) g room
line_read decls i _ _ (label_line name) line parts image g room =
    record { more = with_label image name; read = label_taken line parts image name [] (Ok (with_label image name)) (label_new image name [] room) refl; grows = grows_label decls i image name g }
line_read decls i _ _ (labelled_line name ts s h) line parts image g room = labelled_read decls i line parts image name ts s (stmt_reads decls i ts s h) g room

-- the lines are read
record BodyRead (decls : List (List ℕ)) (i : Image) (line : ℕ) (parts : Parts) (image : DraftImage) (lines : List (List Tok)) (said : List Said) : Type 0 where
  next : ℕ
  last : DraftImage
  read : (rest : List (List Tok)) → feeds line (goes_on parts image) (lines ++ rest) ≡ feeds next (goes_on parts last) rest
  grows : Grows decls i image last said

front_room : (image : DraftImage) (front said : List Said) → HasRoom image (front ++ said) → HasRoom image front
front_room image front said r =
    let few = r.few in
    let both : length (stmts_in (front ++ said)) ≡ length (stmts_in front ++ stmts_in said) = ap (λ (ss : List Stmt). length ss) (stmts_both front said) in
    let name = λ (l : Label). l.name in
    let same : map name image.labels ++ names_in (front ++ said) ≡ (map name image.labels ++ names_in front) ++ names_in said =
    ap (λ (ns : List (List ℕ)). map name image.labels ++ ns) (names_both front said) ∙ sym (append_assoc (map name image.labels) (names_in front) (names_in said)) in
    record {
      apart = front_apart (map name image.labels ++ names_in front) (names_in said) (subst (λ (ns : List (List ℕ)). are_distinct ns ≡ true) same r.apart);
      few = omega (arith, few, both, length-append (stmts_in front) (stmts_in said));
    }

fed_line : (line : ℕ) (parts : Parts) (image more : DraftImage) (ts : List Tok) (tss : List (List Tok)) → inside line parts image ts ≡ Ok (goes_on parts more)
    → feeds line (goes_on parts image) (ts ∷ tss) ≡ feeds (line + 1) (goes_on parts more) tss
fed_line line parts image more ts tss h = ap (λ (r : Result Reading FaultKind). r >>= λ q. feeds (line + 1) q tss) h

body_read : (decls : List (List ℕ)) (i : Image) (lines : List (List Tok)) (said : List Said) → Body decls i lines said → (line : ℕ) (parts : Parts) (image : DraftImage) → Grown decls i image → HasRoom image said
    → BodyRead decls i line parts image lines said
body_read decls i _ _ no_lines line parts image g room = record { next = line; last = image; read = λ rest. refl; grows = grows_nothing decls i image g }
body_read decls i _ _ (and_line ts lines front said first more) line parts image g room =
    let l = line_read decls i ts front first line parts image g (front_room image front said room) in
    let b = body_read decls i lines said more (line + 1) parts l.more (record { known = l.grows.known; made = l.grows.made }) (room_behind decls i image l.more front said l.grows room) in
    record {
      next = b.next;
      last = b.last;
      read = λ rest. fed_line line parts image l.more ts (lines ++ rest) l.read ∙ b.read rest;
      grows = and_grows decls i image l.more b.last front said l.grows b.grows;
    }

-- Outside images.

abbrev pub unit_name_in : Item → List (List ℕ)
unit_name_in (OfUnit name blocks) = name ∷ []
unit_name_in _ = []

abbrev pub image_name_in : Item → List (List ℕ)
image_name_in (OfImage i) = i.name ∷ []
image_name_in _ = []

abbrev pub decl_name_in : Item → List (List ℕ)
decl_name_in (OfProcess d) = d.name ∷ []
decl_name_in _ = []

-- there is room for what is said
pub record Rooms (parts : Parts) (items : List Item) : Type 0 where
  pub units : Room 32 (map (λ u. u.name) parts.units) (flat_map unit_name_in items)
  pub images : Room 256 (map (λ i. i.name) parts.images) (flat_map image_name_in items)
  pub decls : Room 1000 (map (λ d. d.name) parts.decls) (flat_map decl_name_in items)
  pub faults : are_distinct (map fault_key parts.faults ++ flat_map fault_in items) ≡ true

-- lines are read to their end
pub record AllRead (s : System) (line : ℕ) (parts : Parts) (tss : List (List Tok)) (items : List Item) : Type 0 where
  pub all : Parts
  pub fed : feeds line (between_images parts) tss ≡ Ok (between_images all)
  pub adds : Extends s all parts items
  pub known : Known s all

unit_room : (s : System) (parts : Parts) (name : List ℕ) (blocks : ℕ) (items : List Item) → Rooms parts (OfUnit name blocks ∷ items) → Rooms (and_unit parts (bare_unit name blocks)) items
unit_room s parts name blocks items r = record { units = room_push 32 (λ (u : UnitDecl). u.name) parts.units (bare_unit name blocks) (flat_map unit_name_in items) r.units; images = r.images; decls = r.decls; faults = r.faults }

input_room : (parts : Parts) (i : InputLine) (items : List Item) → Rooms parts (OfInput i.unit i.text ∷ items) → Rooms (and_input parts i) items
input_room parts i items r = record { units = r.units; images = r.images; decls = r.decls; faults = r.faults }

fault_room : (parts : Parts) (f : FaultLine) (items : List Item) → Rooms parts (OfFault f.unit f.number ∷ items) → Rooms (and_fault parts f) items
fault_room parts f items r = record {
  units = r.units;
  images = r.images;
  decls = r.decls;
  faults = subst (λ (ns : List (List ℕ)). are_distinct ns ≡ true) (sym (map_pushed fault_key parts.faults f (flat_map fault_in items))) r.faults;
}

decl_room : (parts : Parts) (d : DeclLine) (p : ProcDecl) (items : List Item) → p.name ≡ d.name → Rooms parts (OfProcess p ∷ items) → Rooms (and_decl parts d) items
decl_room parts d p items e r = record {
  units = r.units;
  images = r.images;
  faults = r.faults;
  decls = room_push 1000 (λ (d : DeclLine). d.name) parts.decls d (flat_map decl_name_in items) (subst (λ (n : List ℕ). Room 1000 (map (λ (d : DeclLine). d.name) parts.decls) (n ∷ flat_map decl_name_in items)) e r.decls);
}

image_room : (parts : Parts) (image : DraftImage) (i : Image) (items : List Item) → i.name ≡ image.name → Rooms parts (OfImage i ∷ items) → Rooms (with_image parts image) items
image_room parts image i items e r = record {
  units = r.units;
  decls = r.decls;
  faults = r.faults;
  images = room_push 256 (λ (i : Image). i.name) parts.images (image_of image) (flat_map image_name_in items) (subst (λ (n : List ℕ). Room 256 (map (λ (i : Image). i.name) parts.images) (n ∷ flat_map image_name_in items)) e r.images);
}

-- Each line.

pub line_unit_read : (line : ℕ) (parts : Parts) (name : List ℕ) → unit_place name parts.units ≡ None → nat_lt (length parts.units) 32 ≡ true
    → outside line parts (tok.Word (codes "UNIT") ∷ tok.Word name ∷ tok.Word (codes "LINE") ∷ []) ≡ Ok (between_images (and_unit parts (bare_unit name 0)))
unfolding outside unit_line
line_unit_read line parts name new room = rw (new, room) refl

pub block_unit_read : (line : ℕ) (parts : Parts) (name : List ℕ) (n : ℕ) → IsInRange 1 4096 n → unit_place name parts.units ≡ None → nat_lt (length parts.units) 32 ≡ true
    → outside line parts (tok.Word (codes "UNIT") ∷ tok.Word name ∷ tok.Word (codes "BLOCK") ∷ tok.Num n ∷ []) ≡ Ok (between_images (and_unit parts (bare_unit name n)))
unfolding outside unit_line
block_unit_read line parts name n h new room =
    let low : nat_le 1 n ≡ true = le-leb _ _ h.0 in
    let high : nat_le n 4096 ≡ true = le-leb _ _ h.1 in
    rw (new, low, high, room) refl

pub an_input_read : (line : ℕ) (parts : Parts) (unit text : List ℕ) → length text ≤ 2048
    → outside line parts (tok.Word (codes "INPUT") ∷ tok.Word unit ∷ tok.Quote text ∷ []) ≡ Ok (between_images (and_input parts (record { line = line; unit = unit; text = text })))
unfolding outside input_line
an_input_read line parts unit text h =
    let few : nat_le (length text) 2048 ≡ true = le-leb _ _ h in
    rw few refl

pub fault_new : (unit : List ℕ) (n : ℕ) (faults : List FaultLine) → is_among (n ∷ unit) (map fault_key faults) ≡ false → list_any (is_fault_of unit n) faults ≡ false
fault_new unit n [] h = refl
fault_new unit n (f ∷ faults) h =
    let p = or_parts (bytes_eq (n ∷ unit) (fault_key f)) (is_among (n ∷ unit) (map fault_key faults)) h in
    or_from (is_fault_of unit n f) (list_any (is_fault_of unit n) faults) (and_comm (bytes_eq unit f.unit) (n == f.number) ∙ p.0) (fault_new unit n faults p.1)

pub a_fault_read : (line : ℕ) (parts : Parts) (unit : List ℕ) (n : ℕ) → IsInRange 1 100000 n → list_any (is_fault_of unit n) parts.faults ≡ false
    → outside line parts (tok.Word (codes "FAULT") ∷ tok.Word unit ∷ tok.Num n ∷ []) ≡ Ok (between_images (and_fault parts (record { line = line; unit = unit; number = n })))
unfolding outside fault_line
a_fault_read line parts unit n h new =
    let low : nat_le 1 n ≡ true = le-leb _ _ h.0 in
    let high : nat_le n 100000 ≡ true = le-leb _ _ h.1 in
    rw (low, high, new) refl

pub a_process_read : (line : ℕ) (parts : Parts) (name image : List ℕ) (ts : List Tok) (set : ProcDecl → ProcDecl) (k : KeysRead no_keys ts set) → decl_place name parts.decls ≡ None → nat_lt (length parts.decls) 1000 ≡ true
    → outside line parts (tok.Word (codes "PROCESS") ∷ tok.Word name ∷ tok.Word image ∷ ts) ≡ Ok (between_images (and_decl parts (record { line = line; name = name; image = image; keys = k.all })))
unfolding outside process_line
a_process_read line parts name image ts set k new room = rw (new, k.read, room) refl

pub opened_read : (line : ℕ) (parts : Parts) (name : List ℕ) → image_place name parts.images ≡ None → nat_lt (length parts.images) 256 ≡ true
    → outside line parts (tok.Word (codes "IMAGE") ∷ tok.Word name ∷ []) ≡ Ok (goes_on parts (record { name = name; labels = []; lines = [] }))
unfolding outside image_line
opened_read line parts name new room = rw (new, room) refl

pub nothing_outside : (line : ℕ) (parts : Parts) → outside line parts [] ≡ Ok (between_images parts)
unfolding outside
nothing_outside line parts = refl

fed_outside : (line : ℕ) (parts : Parts) (r : Reading) (ts : List Tok) (tss : List (List Tok)) → outside line parts ts ≡ Ok r → feeds line (between_images parts) (ts ∷ tss) ≡ feeds (line + 1) r tss
fed_outside line parts r ts tss h = ap (λ (x : Result Reading FaultKind). x >>= λ q. feeds (line + 1) q tss) h

-- Images.

image_same : (image : DraftImage) (i : Image) → image.name ≡ i.name → image.labels ≡ i.labels → map (λ d. settled i.labels d.draft) image.lines ≡ i.stmts → image_of image ≡ i
image_same image i n l s =
    let stmts : map (λ d. settled image.labels d.draft) image.lines ≡ i.stmts = ap (λ (ls : List Label). map (λ d. settled ls d.draft) image.lines) l ∙ s in
    ap (λ (x : List ℕ). record { name = x; labels = image.labels; stmts = map (λ d. settled image.labels d.draft) image.lines }) n
    ∙ ap (λ (x : List Label). record { name = i.name; labels = x; stmts = map (λ d. settled image.labels d.draft) image.lines }) l
    ∙ ap (λ (x : List Stmt). record { name = i.name; labels = i.labels; stmts = x }) stmts

pub none_by : {A : Type 0} (p : A → Bool) (x : A) (xs : List A) (t : Bool) → not t ≡ true → find p xs ≡ None → cond t (Some x) (find p xs) ≡ None
none_by p x xs true h more = absurd (cc)
none_by p x xs false h more = more

pub none_found : {A : Type 0} (p : A → Bool) (xs : List A) → list_all (λ x. not (p x)) xs ≡ true → find p xs ≡ None
none_found p [] h = refl
none_found p (x ∷ xs) h =
    let q = and_parts (not (p x)) (list_all (λ x. not (p x)) xs) h in
    none_by p x xs (p x) q.0 (none_found p xs q.1)

end_read : (line : ℕ) (parts : Parts) (image : DraftImage) (tss : List (List Tok)) → feeds line (goes_on parts image) ((tok.Word (codes "END") ∷ []) ∷ tss) ≡ feeds (line + 1) (between_images (with_image parts image)) tss
end_read line parts image tss = refl

-- an image from its IMAGE line to its END
record ImageRead (s : System) (i : Image) (line : ℕ) (parts : Parts) (body : List (List Tok)) : Type 0 where
  last : DraftImage
  next : ℕ
  fed : (tss : List (List Tok)) → feeds line (between_images parts) ((tok.Word (codes "IMAGE") ∷ tok.Word i.name ∷ []) ∷ (body ++ (tok.Word (codes "END") ∷ []) ∷ tss)) ≡ feeds next (between_images (with_image parts last)) tss
  same : image_of last ≡ i
  known : first_unlabelled last ≡ None
  made : list_all (is_known (decl_names s)) (creations_of last.lines) ≡ true

image_read : (s : System) (i : Image) (line : ℕ) (parts : Parts) (body : List (List Tok)) → ImageOf (decl_names s) body i → image_place i.name parts.images ≡ None → nat_lt (length parts.images) 256 ≡ true
    → ImageRead s i line parts body
image_read s i line parts body is new room =
    let opened : DraftImage = record { name = i.name; labels = []; lines = [] } in
    let few = is.few in
    let many : length i.stmts ≡ length (stmts_in is.said) = ap (λ (ss : List Stmt). length ss) is.stmts in
    let names : label_names i ≡ names_in is.said = ap (map (λ (l : Label). l.name)) is.labels ∙ labels_named 0 is.said in
    let has : HasRoom opened is.said = record { apart = sym (ap are_distinct names) ∙ is.once; few = omega (arith, few, many) } in
    let b = body_read (decl_names s) i body is.said is.body (line + 1) parts opened (record { known = refl; made = refl }) has in
    let labels : b.last.labels ≡ i.labels = b.grows.labels ∙ sym is.labels in
    let known : list_all (λ d. not (names_no_label b.last.labels d)) b.last.lines ≡ true = subst (λ (ls : List Label). list_all (λ d. not (names_no_label ls d)) b.last.lines ≡ true) (sym labels) b.grows.known in
    record {
      last = b.last;
      next = b.next + 1;
      fed = λ tss. fed_outside line parts (goes_on parts opened) _ (body ++ (tok.Word (codes "END") ∷ []) ∷ tss) (opened_read line parts i.name new room)
          ∙ b.read ((tok.Word (codes "END") ∷ []) ∷ tss) ∙ end_read b.next parts b.last tss;
      same = image_same b.last i b.grows.name labels (b.grows.stmts ∙ sym is.stmts);
      known = ap (λ (o : Option DraftLine). first_line o) (none_found (names_no_label b.last.labels) b.last.lines known);
      made = b.grows.made;
    }
  where
    first_line : Option DraftLine → Option ℕ
    first_line None = None
    first_line (Some d) = Some d.line

-- All lines.

read_on : (s : System) (line next : ℕ) (parts more : Parts) (ts : List (List Tok)) (tss : List (List Tok)) (item : Item) (items : List Item) (r : AllRead s next more tss items)
    → feeds line (between_images parts) ts ≡ feeds next (between_images more) tss → Extends s r.all parts (item ∷ items) → AllRead s line parts ts (item ∷ items)
read_on s line next parts more ts tss item items r e adds = record { all = r.all; fed = e ∙ r.fed; adds = adds; known = r.known }

no_key_has : (k : Key) → has no_keys k ≡ false
no_key_has (key.Limit limit.Ast) = refl
no_key_has _ = refl

pub none_has : (ks : List Key) → list_any (has no_keys) ks ≡ false
none_has [] = refl
none_has (k ∷ ks) = or_from (has no_keys k) (list_any (has no_keys) ks) (no_key_has k) (none_has ks)

-- one line
a_line_read : (s : System) (ts : List Tok) (item : Item) → Line s ts item → (tss : List (List Tok)) (items : List Item) → ((line : ℕ) (parts : Parts) → Known s parts → Rooms parts items → AllRead s line parts tss items)
    → (line : ℕ) (parts : Parts) → Known s parts → Rooms parts (item ∷ items) → AllRead s line parts (ts ∷ tss) (item ∷ items)
a_line_read s _ _ (a_line_unit name) tss items more line parts known rooms =
    let u = bare_unit name 0 in
    let r = more (line + 1) (and_unit parts u) (with_known_unit s parts u known) (unit_room s parts name 0 items rooms) in
    let new = room_new 32 (λ (u : UnitDecl). u.name) parts.units name (flat_map unit_name_in items) rooms.units in
    let room = room_left 32 (λ (u : UnitDecl). u.name) parts.units name (flat_map unit_name_in items) rooms.units in
    read_on s line (line + 1) parts (and_unit parts u) _ tss (OfUnit name 0) items r (fed_outside line parts (between_images (and_unit parts u)) _ tss (line_unit_read line parts name new room)) (unit_added s r.all parts name 0 items r.adds)
a_line_read s _ _ (a_block_unit name n h) tss items more line parts known rooms =
    let u = bare_unit name n in
    let r = more (line + 1) (and_unit parts u) (with_known_unit s parts u known) (unit_room s parts name n items rooms) in
    let new = room_new 32 (λ (u : UnitDecl). u.name) parts.units name (flat_map unit_name_in items) rooms.units in
    let room = room_left 32 (λ (u : UnitDecl). u.name) parts.units name (flat_map unit_name_in items) rooms.units in
    read_on s line (line + 1) parts (and_unit parts u) _ tss (OfUnit name n) items r (fed_outside line parts (between_images (and_unit parts u)) _ tss (block_unit_read line parts name n h new room)) (unit_added s r.all parts name n items r.adds)
a_line_read s _ _ (an_input unit text h there) tss items more line parts known rooms =
    let i : InputLine = record { line = line; unit = unit; text = text } in
    let r = more (line + 1) (and_input parts i) (with_known_input s parts i known there) (input_room parts i items rooms) in
    read_on s line (line + 1) parts (and_input parts i) _ tss (OfInput unit text) items r (fed_outside line parts (between_images (and_input parts i)) _ tss (an_input_read line parts unit text h)) (input_added s r.all parts i items r.adds)
a_line_read s _ _ (a_fault unit n h there) tss items more line parts known rooms =
    let f : FaultLine = record { line = line; unit = unit; number = n } in
    let r = more (line + 1) (and_fault parts f) (with_known_fault s parts f known there) (fault_room parts f items rooms) in
    let new = fault_new unit n parts.faults (here_new (map fault_key parts.faults) (n ∷ unit) (flat_map fault_in items) rooms.faults) in
    read_on s line (line + 1) parts (and_fault parts f) _ tss (OfFault unit n) items r (fed_outside line parts (between_images (and_fault parts f)) _ tss (a_fault_read line parts unit n h new)) (fault_added s r.all parts f items r.adds)
a_line_read s _ _ (a_process name image k ts keys set place settings once) tss items more line parts known rooms =
    let read = settings_read ts keys set settings no_keys (record { none = none_has keys; apart = once }) in
    let d : DeclLine = record { line = line; name = name; image = image; keys = read.all } in
    let p = set (plain_decl name k) in
    let is : decl_of s.images d ≡ p = ap (λ (o : Option ℕ). decl_with name (unwrap_or o 0) read.all) place ∙ read.sets name k in
    let named : p.name ≡ name = ap (λ (q : ProcDecl). q.name) (sym is) in
    let there : is_some (image_place image s.images) ≡ true = ap (λ (o : Option ℕ). is_some o) place in
    let r = more (line + 1) (and_decl parts d) (with_known_decl s parts d known there) (decl_room parts d p items named rooms) in
    let here : Room 1000 (map (λ (d : DeclLine). d.name) parts.decls) (name ∷ flat_map decl_name_in items) =
    subst (λ (n : List ℕ). Room 1000 (map (λ (d : DeclLine). d.name) parts.decls) (n ∷ flat_map decl_name_in items)) named rooms.decls in
    let new = room_new 1000 (λ (d : DeclLine). d.name) parts.decls name (flat_map decl_name_in items) here in
    let room = room_left 1000 (λ (d : DeclLine). d.name) parts.decls name (flat_map decl_name_in items) here in
    read_on s line (line + 1) parts (and_decl parts d) _ tss (OfProcess p) items r (fed_outside line parts (between_images (and_decl parts d)) _ tss (a_process_read line parts name image ts set read new room))
    (decl_added s r.all parts d p items is r.adds)

-- lines that are spelled are read
pub lines_read : (s : System) (tss : List (List Tok)) (items : List Item) → Lines s tss items → (line : ℕ) (parts : Parts) → Known s parts → Rooms parts items → AllRead s line parts tss items
lines_read s _ _ none_left line parts known rooms = record { all = parts; fed = refl; adds = nothing_added s parts; known = known }
lines_read s _ _ (an_empty_line tss items more) line parts known rooms =
    let r = lines_read s tss items more (line + 1) parts known rooms in
    record { all = r.all; fed = fed_outside line parts (between_images parts) [] tss (nothing_outside line parts) ∙ r.fed; adds = r.adds; known = r.known }
lines_read s _ _ (a_line ts tss item items one more) line parts known rooms = a_line_read s ts item one tss items (lines_read s tss items more) line parts known rooms
lines_read s _ _ (an_image i body tss items is more) line parts known rooms =
    let new = room_new 256 (λ (i : Image). i.name) parts.images i.name (flat_map image_name_in items) rooms.images in
    let room = room_left 256 (λ (i : Image). i.name) parts.images i.name (flat_map image_name_in items) rooms.images in
    let m = image_read s i line parts body is new room in
    let name : i.name ≡ m.last.name = ap (λ (j : Image). j.name) (sym m.same) in
    let r = lines_read s tss items more m.next (with_image parts m.last) (with_known_image s parts m.last known m.known m.made) (image_room parts m.last i items name rooms) in
    read_on s line m.next parts (with_image parts m.last) _ tss (OfImage i) items r (m.fed tss) (image_added s r.all parts m.last i items m.same r.adds)
