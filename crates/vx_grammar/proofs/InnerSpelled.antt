-- What is read of lines is what the grammar says, from the last line back to the first.
use Rattle.std.proofs.Common.{◌≡◌, ℕ, ◌+◌, ◌&&◌, not, Bool, true, cond, nat_le, List, [], ◌∷◌, ◌++◌, length, drop, map, flat_map, find, codes, Option, Some, None, Result, Ok, Err, bytes_eq, refl, sym, subst, ap, ◌∙◌, append-nil, length-append}
use Rattle.std.specs.List.{list_all}
use Rattle.std.proofs.lemmas.Bool.{and_parts, and_from, leb-true, not-true}
use Rattle.vx_image.specs.declared.image.Image.{Image}
use Rattle.vx_image.specs.declared.stmt.Stmt.{Stmt}
use Rattle.vx_image.specs.declared.system.System.{System}
use Rattle.vx_image.specs.declared.unit.UnitDecl.{UnitDecl}
use Rattle.vx_image.specs.WellFormed.{are_distinct, falls_nowhere, label_names, label_places, decl_names, is_stmt}
use Rattle.vx_text.specs.declared.token.Tok.{Tok}
use Rattle.vx_text.specs.declared.token.Tok.TheVariants as tok
use Rattle.vx_script.specs.Fields.{begins_with_sign, end_at, room_for}
use Rattle.vx_script.specs.Declarations.{unused_name, unit_line, input_line, fault_line, image_line, process_line}
use Rattle.vx_script.specs.Places.{label_place}
use Rattle.vx_script.specs.Reading.{with_stmt, with_label, labelled, goes_on, going_on, word_line, inside, between_images, outer_line, outside, by_place, accepted}
use Rattle.vx_script.specs.Resolving.{names_no_label, settled, image_of, with_image}
use Rattle.vx_script.specs.Statements.{stmt_of}
use Rattle.vx_script.specs.declared.draft.Draft.{Draft}
use Rattle.vx_script.specs.declared.draft.DraftImage.{DraftImage}
use Rattle.vx_script.specs.declared.draft.DraftLine.{DraftLine}
use Rattle.vx_script.specs.declared.fault.FaultKind.{FaultKind}
use Rattle.vx_script.specs.declared.parts.Parts.{Parts}
use Rattle.vx_script.specs.declared.parts.Reading.{Reading}
use Rattle.vx_script.proofs.Appended.{all_both, unfound}
use Rattle.vx_script.proofs.EndedImages.{is_formed}
use Rattle.vx_grammar.specs.Grammar.{Said, Names, Does, Statement, BodyLine, empty_line, statement_line, label_line, labelled_line, Body, no_lines, and_line, stmts_in, labels_in, ImageOf, Item, OfUnit, OfInput, OfFault, OfImage, OfProcess, Line, Lines, none_left, an_empty_line, a_line, an_image, image_in, colon}
use Rattle.vx_grammar.proofs.Fields.{bind_ok, end_is, sign_token}
use Rattle.vx_grammar.proofs.Statements.{stmt_spelled}
use Rattle.vx_grammar.proofs.SaidSoFar.{pushed, map_pushed, Extends, nothing_added, and_unit, and_input, and_fault, and_decl, bare_unit, unit_added, input_added, fault_added, decl_added, image_added, Known, known_unit, known_input, known_fault, known_decl, known_image, all_front}
use Rattle.vx_grammar.proofs.Feeding.{feeds}
use Rattle.vx_grammar.proofs.OuterSpelled.{unit_spelled, input_spelled, fault_spelled, image_spelled, process_spelled}
use Rattle.vx_grammar.proofs.LinesBack.{with_draft}
use Rattle.vx_base.proofs.Texts.{bytes_are}
use Rattle.vx_base.proofs.Lists.{none_mapped}
use Rattle.vx_base.proofs.Bools.{either_by}

-- what the system is to have
pub record Sound (s : System) (all : Parts) : Type 0 where
  pub images : s.images ≡ all.images
  pub formed : list_all (is_formed (decl_names s)) s.images ≡ true

-- From a line on, outside images.
pub record Outer (s : System) (all parts : Parts) (tss : List (List Tok)) : Type 0 where
  pub items : List Item
  pub lines : Lines s tss items
  pub adds : Extends s all parts items
  pub known : Known s parts

-- Statements of an image that is to end as last.

abbrev pub settle : DraftImage → DraftLine → Stmt
settle last d = settled last.labels d.draft

abbrev pub is_fine : System → DraftImage → DraftLine → Bool
is_fine s last d = not (names_no_label last.labels d) && is_stmt (decl_names s) (image_of last) (settle last d)

-- an image to which all this is said ends as last
pub record Becomes (s : System) (image last : DraftImage) (said : List Said) : Type 0 where
  pub name : last.name ≡ image.name
  pub labels : last.labels ≡ image.labels ++ labels_in (length image.lines) said
  pub stmts : map (settle last) last.lines ≡ map (settle last) image.lines ++ stmts_in said
  pub fine : list_all (is_fine s last) image.lines ≡ true

-- From a line on, inside an image.
pub record Inner (s : System) (all parts : Parts) (image : DraftImage) (tss : List (List Tok)) : Type 0 where
  pub last : DraftImage
  pub body : List (List Tok)
  pub rest : List (List Tok)
  pub said : List Said
  pub split : tss ≡ body ++ (tok.Word (codes "END") ∷ []) ∷ rest
  pub is : Body (decl_names s) (image_of last) body said
  pub becomes : Becomes s image last said
  pub formed : is_formed (decl_names s) (image_of last) ≡ true
  pub outer : Outer s all (with_image parts last) rest

-- The lines of an image.

becomes_stmt : (s : System) (line : ℕ) (image last : DraftImage) (d : Draft) (said : List Said) → Becomes s (with_draft line image d) last said → Becomes s image last (Does (settled last.labels d) ∷ said)
becomes_stmt s line image last d said b =
    let one : DraftLine = record { line = line; draft = d } in
    let more : length (image.lines ++ one ∷ []) ≡ length image.lines + 1 = length-append image.lines (one ∷ []) in
    record {
      name = b.name;
      labels = b.labels ∙ ap (λ (k : ℕ). image.labels ++ labels_in k said) more;
      stmts = b.stmts ∙ map_pushed (settle last) image.lines one (stmts_in said);
      fine = (all_front (is_fine s last) image.lines one b.fine).0;
    }

stmt_fine : (s : System) (line : ℕ) (image last : DraftImage) (t : Tok) (ts : List Tok) (d : Draft) (said : List Said) → Becomes s (with_draft line image d) last said → stmt_of t ts ≡ Ok d
    → Statement (decl_names s) (image_of last) (t ∷ ts) (settled last.labels d)
stmt_fine s line image last t ts d said b h =
    let one : DraftLine = record { line = line; draft = d } in
    let f = (all_front (is_fine s last) image.lines one b.fine).1 in
    let p = and_parts (not (names_no_label last.labels one)) (is_stmt (decl_names s) (image_of last) (settle last one)) f in
    stmt_spelled (decl_names s) (image_of last) t ts d h (not-true (names_no_label last.labels one) p.0) p.1

becomes_label : (s : System) (image last : DraftImage) (name : List ℕ) (said : List Said) → Becomes s (with_label image name) last said → Becomes s image last (Names name ∷ said)
becomes_label s image last name said b = record {
  name = b.name;
  labels = b.labels ∙ pushed image.labels (record { name = name; place = length image.lines }) (labels_in (length image.lines) said);
  stmts = b.stmts;
  fine = b.fine;
}

-- one line more
inner_line : (s : System) (all parts : Parts) (image more : DraftImage) (ts : List Tok) (tss : List (List Tok)) (front : List Said) (i : Inner s all parts more tss)
    → BodyLine (decl_names s) (image_of i.last) ts front → Becomes s image i.last (front ++ i.said) → Inner s all parts image (ts ∷ tss)
inner_line s all parts image more ts tss front i line b = record {
  last = i.last;
  body = ts ∷ i.body;
  rest = i.rest;
  said = front ++ i.said;
  split = ap (λ (us : List (List Tok)). ts ∷ us) i.split;
  is = and_line ts i.body front i.said line i.is;
  becomes = b;
  formed = i.formed;
  outer = i.outer;
}

inner_as : (s : System) (all parts : Parts) (image : DraftImage) (ts us : List Tok) (tss : List (List Tok)) → us ≡ ts → Inner s all parts image (us ∷ tss) → Inner s all parts image (ts ∷ tss)
inner_as s all parts image ts us tss e h = subst (λ (vs : List Tok). Inner s all parts image (vs ∷ tss)) e h

-- a statement alone
plain_line : (s : System) (all parts : Parts) (line : ℕ) (image more : DraftImage) (ts : List Tok) (tss : List (List Tok)) → with_stmt line image ts ≡ Ok more → Inner s all parts more tss
    → Inner s all parts image (ts ∷ tss)
plain_line s all parts line image more [] tss h i =
    let e : more ≡ image = cc in
    inner_line s all parts image more [] tss [] i empty_line (subst (λ (m : DraftImage). Becomes s m i.last i.said) e i.becomes)
plain_line s all parts line image more (t ∷ ts) tss h i =
    let d = bind_ok (stmt_of t ts) _ more h in
    let r = bind_ok (room_for 10000 (length image.lines)) _ more d.2 in
    let e : more ≡ with_draft line image d.0 = cc (r.2) in
    let b = subst (λ (m : DraftImage). Becomes s m i.last i.said) e i.becomes in
    let st = stmt_fine s line image i.last t ts d.0 i.said b d.1 in
    inner_line s all parts image more (t ∷ ts) tss (Does (settled i.last.labels d.0) ∷ []) i (statement_line (t ∷ ts) (settled i.last.labels d.0) st) (becomes_stmt s line image i.last d.0 i.said b)

-- a statement behind a label, or a label alone
behind_label : (s : System) (all parts : Parts) (line : ℕ) (image more : DraftImage) (name : List ℕ) (ts : List Tok) (tss : List (List Tok)) → with_stmt line (with_label image name) ts ≡ Ok more
    → Inner s all parts more tss → Inner s all parts image ((tok.Word name ∷ colon ∷ ts) ∷ tss)
behind_label s all parts line image more name [] tss h i =
    let e : more ≡ with_label image name = cc in
    inner_line s all parts image more (tok.Word name ∷ colon ∷ []) tss (Names name ∷ []) i (label_line name)
    (becomes_label s image i.last name i.said (subst (λ (m : DraftImage). Becomes s m i.last i.said) e i.becomes))
behind_label s all parts line image more name (t ∷ ts) tss h i =
    let d = bind_ok (stmt_of t ts) _ more h in
    let r = bind_ok (room_for 10000 (length image.lines)) _ more d.2 in
    let e : more ≡ with_draft line (with_label image name) d.0 = cc (r.2) in
    let b = subst (λ (m : DraftImage). Becomes s m i.last i.said) e i.becomes in
    let st = stmt_fine s line (with_label image name) i.last t ts d.0 i.said b d.1 in
    inner_line s all parts image more (tok.Word name ∷ colon ∷ t ∷ ts) tss (Names name ∷ Does (settled i.last.labels d.0) ∷ []) i (labelled_line name (t ∷ ts) (settled i.last.labels d.0) st)
    (becomes_label s image i.last name (Does (settled i.last.labels d.0) ∷ i.said) (becomes_stmt s line (with_label image name) i.last d.0 i.said b))

label_spelled : (s : System) (all parts : Parts) (line : ℕ) (image more : DraftImage) (name : List ℕ) (ts : List Tok) (tss : List (List Tok)) → labelled line image name ts ≡ Ok more
    → Inner s all parts more tss → Inner s all parts image ((tok.Word name ∷ colon ∷ ts) ∷ tss)
label_spelled s all parts line image more name ts tss h i =
    let f = bind_ok (unused_name (label_place name image.labels) name) _ more h in
    behind_label s all parts line image more name ts tss f.2 i

-- END

all_fine : (s : System) (last : DraftImage) (ds : List DraftLine) → list_all (λ d. not (names_no_label last.labels d)) ds ≡ true → list_all (is_stmt (decl_names s) (image_of last)) (map (settle last) ds) ≡ true
    → list_all (is_fine s last) ds ≡ true
all_fine s last [] h k = refl
all_fine s last (d ∷ ds) h k =
    let p = and_parts (not (names_no_label last.labels d)) (list_all (λ d. not (names_no_label last.labels d)) ds) h in
    let q = and_parts (is_stmt (decl_names s) (image_of last) (settle last d)) (list_all (is_stmt (decl_names s) (image_of last)) (map (settle last) ds)) k in
    and_from (is_fine s last d) (list_all (is_fine s last) ds) (and_from (not (names_no_label last.labels d)) _ p.0 q.0) (all_fine s last ds p.1 q.1)

-- an image that is well formed, part by part
record Formed (decls : List (List ℕ)) (i : Image) : Type 0 where
  few : nat_le (length i.stmts) 10000 ≡ true
  names : are_distinct (label_names i) ≡ true
  stmts : list_all (is_stmt decls i) i.stmts ≡ true

formed_parts : (decls : List (List ℕ)) (i : Image) → is_formed decls i ≡ true → Formed decls i
formed_parts decls i h =
    let a = and_parts (nat_le (length i.stmts) 10000) _ h in
    let b = and_parts (are_distinct (label_names i)) _ a.1 in
    let c = and_parts (falls_nowhere 0 (label_places i)) _ b.1 in
    let d = and_parts (list_all (λ place. nat_le place (length i.stmts)) (label_places i)) _ c.1 in
    record { few = a.0; names = b.0; stmts = d.1 }

end_spelled : (s : System) (all parts : Parts) (image : DraftImage) (tss : List (List Tok)) → Sound s all → Outer s all (with_image parts image) tss → Inner s all parts image ((tok.Word (codes "END") ∷ []) ∷ tss)
end_spelled s all parts image tss sound o =
    let k = known_image s parts image o.known in
    let there = unfound (names_no_label image.labels) image.lines (none_mapped (λ (d : DraftLine). d.line) (find (names_no_label image.labels) image.lines) k.1) in
    let images = subst (λ (is : List Image). list_all (is_formed (decl_names s)) is ≡ true) (sound.images ∙ o.adds.images) sound.formed in
    let here = all_both (is_formed (decl_names s)) (parts.images ++ image_of image ∷ []) (flat_map image_in o.items) images in
    let formed = (all_front (is_formed (decl_names s)) parts.images (image_of image) here.0).1 in
    let f = formed_parts (decl_names s) (image_of image) formed in
    record {
      last = image;
      body = [];
      rest = tss;
      said = [];
      split = refl;
      is = no_lines;
      becomes = record { name = refl; labels = sym (append-nil image.labels); stmts = sym (append-nil (map (settle image) image.lines)); fine = all_fine s image image.lines there f.stmts };
      formed = formed;
      outer = o;
    }

-- Any line.

abbrev pub Back : System → Parts → Parts → Option DraftImage → List (List Tok) → Type 0
Back s all parts None tss = Outer s all parts tss
Back s all parts (Some image) tss = Inner s all parts image tss

abbrev pub Behind : System → Parts → Reading → List (List Tok) → Type 0
Behind s all r tss = Back s all r.parts r.current tss

going : (s : System) (all parts : Parts) (image : DraftImage) (ts : List Tok) (tss : List (List Tok)) (m : Result DraftImage FaultKind) (r : Reading) → going_on parts m ≡ Ok r → Behind s all r tss
    → ((more : DraftImage) → m ≡ Ok more → Inner s all parts more tss → Inner s all parts image (ts ∷ tss)) → Inner s all parts image (ts ∷ tss)
going s all parts image ts tss (Ok more) r h b k = k more refl (subst (λ (q : Reading). Behind s all q tss) (let e : r ≡ goes_on parts more = cc in e) b)
going s all parts image ts tss (Err e) r h b k = absurd (cc)

pub colon_by : (ts : List Tok) → begins_with_sign 58 ts ≡ true → ts ≡ colon ∷ drop 1 ts
colon_by [] h = absurd (cc)
colon_by (t ∷ ts) h = ap (λ (u : Tok). u ∷ ts) (sign_token 58 t h)

word_spelled : (s : System) (all parts : Parts) (line : ℕ) (image : DraftImage) (word : List ℕ) (ts : List Tok) (tss : List (List Tok)) (r : Reading) → Sound s all
    → word_line line parts image word (tok.Word word ∷ ts) ≡ Ok r → Behind s all r tss → Inner s all parts image ((tok.Word word ∷ ts) ∷ tss)
word_spelled s all parts line image word ts tss r sound h b =
    either_by {A = Result Reading FaultKind} (λ q. q ≡ Ok r → Inner s all parts image ((tok.Word word ∷ ts) ∷ tss)) (begins_with_sign 58 ts) _ _
    (λ e k. going s all parts image (tok.Word word ∷ ts) tss (labelled line image word (drop 1 ts)) r k b λ more m i.
    inner_as s all parts image _ (tok.Word word ∷ colon ∷ drop 1 ts) tss (ap (λ (us : List Tok). tok.Word word ∷ us) (sym (colon_by ts e))) (label_spelled s all parts line image more word (drop 1 ts) tss m i))
    (λ _. either_by {A = Result Reading FaultKind} (λ q. q ≡ Ok r → Inner s all parts image ((tok.Word word ∷ ts) ∷ tss)) (bytes_eq word (codes "END")) _ _
    (λ e k.
    let end = bind_ok (end_at ts) _ r k in
    let none = end_is 0 ts end.0 end.1 in
    let is : r ≡ between_images (with_image parts image) = cc (end.2) in
    let shape : tok.Word (codes "END") ∷ [] ≡ tok.Word word ∷ ts = ap (λ (w : List ℕ). tok.Word w ∷ []) (sym (bytes_are word (codes "END") e)) ∙ ap (λ (us : List Tok). tok.Word word ∷ us) (sym none) in
    inner_as s all parts image _ (tok.Word (codes "END") ∷ []) tss shape (end_spelled s all parts image tss sound (subst (λ (q : Reading). Behind s all q tss) is b)))
    (λ _ k. going s all parts image (tok.Word word ∷ ts) tss (with_stmt line image (tok.Word word ∷ ts)) r k b λ more m i. plain_line s all parts line image more (tok.Word word ∷ ts) tss m i)) h

inside_spelled : (s : System) (all parts : Parts) (line : ℕ) (image : DraftImage) (ts : List Tok) (tss : List (List Tok)) (r : Reading) → Sound s all → inside line parts image ts ≡ Ok r
    → Behind s all r tss → Inner s all parts image (ts ∷ tss)
inside_spelled s all parts line image (tok.Word word ∷ ts) tss r sound h b = word_spelled s all parts line image word ts tss r sound h b
inside_spelled s all parts line image [] tss r sound h b = going s all parts image [] tss (with_stmt line image []) r h b λ more m i. plain_line s all parts line image more [] tss m i
inside_spelled s all parts line image (tok.Num n ∷ ts) tss r sound h b = going s all parts image (tok.Num n ∷ ts) tss (with_stmt line image (tok.Num n ∷ ts)) r h b λ more m i. plain_line s all parts line image more (tok.Num n ∷ ts) tss m i
inside_spelled s all parts line image (tok.Cond c ∷ ts) tss r sound h b = going s all parts image (tok.Cond c ∷ ts) tss (with_stmt line image (tok.Cond c ∷ ts)) r h b λ more m i. plain_line s all parts line image more (tok.Cond c ∷ ts) tss m i
inside_spelled s all parts line image (tok.Sign c ∷ ts) tss r sound h b = going s all parts image (tok.Sign c ∷ ts) tss (with_stmt line image (tok.Sign c ∷ ts)) r h b λ more m i. plain_line s all parts line image more (tok.Sign c ∷ ts) tss m i
inside_spelled s all parts line image (tok.Service c ∷ ts) tss r sound h b = going s all parts image (tok.Service c ∷ ts) tss (with_stmt line image (tok.Service c ∷ ts)) r h b λ more m i. plain_line s all parts line image more (tok.Service c ∷ ts) tss m i
inside_spelled s all parts line image (tok.Quote c ∷ ts) tss r sound h b = going s all parts image (tok.Quote c ∷ ts) tss (with_stmt line image (tok.Quote c ∷ ts)) r h b λ more m i. plain_line s all parts line image more (tok.Quote c ∷ ts) tss m i

-- Lines outside images.

outer_one : (s : System) (all parts more : Parts) (ts : List Tok) (tss : List (List Tok)) (item : Item) (o : Outer s all more tss) → Line s ts item → Extends s all parts (item ∷ o.items) → Known s parts → Outer s all parts (ts ∷ tss)
outer_one s all parts more ts tss item o line adds known = record { items = item ∷ o.items; lines = a_line ts tss item o.items line o.lines; adds = adds; known = known }

open_spelled : (s : System) (all parts : Parts) (name : List ℕ) (tss : List (List Tok)) → Inner s all parts (record { name = name; labels = []; lines = [] }) tss
    → Outer s all parts ((tok.Word (codes "IMAGE") ∷ tok.Word name ∷ []) ∷ tss)
open_spelled s all parts name tss i =
    let image = image_of i.last in
    let f = formed_parts (decl_names s) image i.formed in
    let is : ImageOf (decl_names s) i.body image = record { said = i.said; body = i.is; stmts = i.becomes.stmts; labels = i.becomes.labels; few = leb-true _ _ f.few; once = f.names } in
    let lines = an_image image i.body i.rest i.outer.items is i.outer.lines in
    let shape : (tok.Word (codes "IMAGE") ∷ tok.Word i.last.name ∷ []) ∷ (i.body ++ (tok.Word (codes "END") ∷ []) ∷ i.rest) ≡ (tok.Word (codes "IMAGE") ∷ tok.Word name ∷ []) ∷ tss =
    ap (λ (n : List ℕ). (tok.Word (codes "IMAGE") ∷ tok.Word n ∷ []) ∷ (i.body ++ (tok.Word (codes "END") ∷ []) ∷ i.rest)) i.becomes.name
    ∙ ap (λ (us : List (List Tok)). (tok.Word (codes "IMAGE") ∷ tok.Word name ∷ []) ∷ us) (sym i.split) in
    record {
      items = OfImage image ∷ i.outer.items;
      lines = subst (λ (us : List (List Tok)). Lines s us (OfImage image ∷ i.outer.items)) shape lines;
      adds = image_added s all parts i.last image i.outer.items refl i.outer.adds;
      known = (known_image s parts i.last i.outer.known).0;
    }

outer_as : (s : System) (all parts : Parts) (ts us : List Tok) (tss : List (List Tok)) → us ≡ ts → Outer s all parts (us ∷ tss) → Outer s all parts (ts ∷ tss)
outer_as s all parts ts us tss e h = subst (λ (vs : List Tok). Outer s all parts (vs ∷ tss)) e h

by_keyword : (s : System) (all parts : Parts) (word keyword : List ℕ) (ts : List Tok) (tss : List (List Tok)) (r : Reading) (x y : Result Reading FaultKind)
    → (x ≡ Ok r → Outer s all parts ((tok.Word keyword ∷ ts) ∷ tss)) → (y ≡ Ok r → Outer s all parts ((tok.Word word ∷ ts) ∷ tss))
    → cond (bytes_eq word keyword) x y ≡ Ok r → Outer s all parts ((tok.Word word ∷ ts) ∷ tss)
by_keyword s all parts word keyword ts tss r x y h k =
    either_by {A = Result Reading FaultKind} (λ q. q ≡ Ok r → Outer s all parts ((tok.Word word ∷ ts) ∷ tss)) (bytes_eq word keyword) x y
    (λ e ok. outer_as s all parts _ (tok.Word keyword ∷ ts) tss (ap (λ (w : List ℕ). tok.Word w ∷ ts) (sym (bytes_are word keyword e))) (h ok)) (λ _ ok. k ok)

with_unit_spelled : (s : System) (all parts more : Parts) (u : UnitDecl) (ts : List Tok) (tss : List (List Tok)) → unit_line parts.units ts ≡ Ok u → Outer s all (and_unit parts u) tss
    → Outer s all parts ((tok.Word (codes "UNIT") ∷ ts) ∷ tss)
with_unit_spelled s all parts more u ts tss h o =
    let l = unit_spelled parts.units ts u h in
    let p : Outer s all (and_unit parts (bare_unit l.name l.blocks)) tss = subst (λ (v : UnitDecl). Outer s all (and_unit parts v) tss) (sym l.is) o in
    outer_one s all parts (and_unit parts (bare_unit l.name l.blocks)) _ tss (OfUnit l.name l.blocks) p (l.line s) (unit_added s all parts l.name l.blocks p.items p.adds) (known_unit s parts (bare_unit l.name l.blocks) p.known)

word_outside : (s : System) (all parts : Parts) (line : ℕ) (word : List ℕ) (ts : List Tok) (tss : List (List Tok)) (r : Reading) → outer_line line parts word ts ≡ Ok r → Behind s all r tss
    → Outer s all parts ((tok.Word word ∷ ts) ∷ tss)
word_outside s all parts line word ts tss r h b =
    by_keyword s all parts word (codes "UNIT") ts tss r _ _ (λ k.
    let u = bind_ok (unit_line parts.units ts) _ r k in
    let is : r ≡ between_images (and_unit parts u.0) = cc (u.2) in
    with_unit_spelled s all parts parts u.0 ts tss u.1 (subst (λ (q : Reading). Behind s all q tss) is b)) (
    by_keyword s all parts word (codes "INPUT") ts tss r _ _ (λ k.
    let i = bind_ok (input_line line ts) _ r k in
    let is : r ≡ between_images (and_input parts i.0) = cc (i.2) in
    let o : Outer s all (and_input parts i.0) tss = subst (λ (q : Reading). Behind s all q tss) is b in
    let n = known_input s parts i.0 o.known in
    outer_one s all parts (and_input parts i.0) _ tss (OfInput i.0.unit i.0.text) o (input_spelled line ts i.0 i.1 s n.1) (input_added s all parts i.0 o.items o.adds) n.0) (
    by_keyword s all parts word (codes "FAULT") ts tss r _ _ (λ k.
    let f = bind_ok (fault_line line parts.faults ts) _ r k in
    let is : r ≡ between_images (and_fault parts f.0) = cc (f.2) in
    let o : Outer s all (and_fault parts f.0) tss = subst (λ (q : Reading). Behind s all q tss) is b in
    let n = known_fault s parts f.0 o.known in
    outer_one s all parts (and_fault parts f.0) _ tss (OfFault f.0.unit f.0.number) o (fault_spelled line parts.faults ts f.0 f.1 s n.1) (fault_added s all parts f.0 o.items o.adds) n.0) (
    by_keyword s all parts word (codes "IMAGE") ts tss r _ _ (λ k.
    let i = bind_ok (image_line parts.images ts) _ r k in
    let is : r ≡ goes_on parts i.0 = cc (i.2) in
    let n = image_spelled parts.images ts i.0 i.1 in
    let o : Inner s all parts i.0 tss = subst (λ (q : Reading). Behind s all q tss) is b in
    outer_as s all parts _ (tok.Word (codes "IMAGE") ∷ tok.Word n.0 ∷ []) tss (ap (λ (us : List Tok). tok.Word (codes "IMAGE") ∷ us) (sym n.1))
    (open_spelled s all parts n.0 tss (subst (λ (j : DraftImage). Inner s all parts j tss) (sym n.2) o))) (
    by_keyword s all parts word (codes "PROCESS") ts tss r _ _ (λ k.
    let d = bind_ok (process_line line parts.decls ts) _ r k in
    let is : r ≡ between_images (and_decl parts d.0) = cc (d.2) in
    let o : Outer s all (and_decl parts d.0) tss = subst (λ (q : Reading). Behind s all q tss) is b in
    let n = known_decl s parts d.0 o.known in
    let p = process_spelled line parts.decls ts d.0 d.1 s n.1 in
    outer_one s all parts (and_decl parts d.0) _ tss (OfProcess p.decl) o p.line (decl_added s all parts d.0 p.decl o.items p.is o.adds) n.0)
    (λ k. absurd (cc)))))) h

outside_spelled : (s : System) (all parts : Parts) (line : ℕ) (ts : List Tok) (tss : List (List Tok)) (r : Reading) → outside line parts ts ≡ Ok r → Behind s all r tss → Outer s all parts (ts ∷ tss)
unfolding outside
outside_spelled s all parts line [] tss r h b =
    let is : r ≡ between_images parts = cc in
    let o : Outer s all parts tss = subst (λ (q : Reading). Behind s all q tss) is b in
    record { items = o.items; lines = an_empty_line tss o.items o.lines; adds = o.adds; known = o.known }
outside_spelled s all parts line (tok.Word word ∷ ts) tss r h b = word_outside s all parts line word ts tss r h b
outside_spelled s all parts line (tok.Num n ∷ ts) tss r h b = absurd (cc)
outside_spelled s all parts line (tok.Cond c ∷ ts) tss r h b = absurd (cc)
outside_spelled s all parts line (tok.Sign c ∷ ts) tss r h b = absurd (cc)
outside_spelled s all parts line (tok.Service c ∷ ts) tss r h b = absurd (cc)
outside_spelled s all parts line (tok.Quote c ∷ ts) tss r h b = absurd (cc)

line_spelled : (s : System) (all parts : Parts) (line : ℕ) (current : Option DraftImage) (ts : List Tok) (tss : List (List Tok)) (r : Reading) → Sound s all → by_place line parts current ts ≡ Ok r
    → Behind s all r tss → Back s all parts current (ts ∷ tss)
line_spelled s all parts line None ts tss r sound h b = outside_spelled s all parts line ts tss r h b
line_spelled s all parts line (Some image) ts tss r sound h b = inside_spelled s all parts line image ts tss r sound h b

end_back : (s : System) (all : Parts) (r : Reading) → r ≡ between_images all → Known s all → Behind s all r []
end_back s all r e known = subst (λ (q : Reading). Behind s all q []) (sym e) (record { items = []; lines = none_left; adds = nothing_added s all; known = known })

-- lines that are read to their end are spelled
pub back : (s : System) (all : Parts) (line : ℕ) (r : Reading) (tss : List (List Tok)) → Sound s all → Known s all → feeds line r tss ≡ Ok (between_images all) → Behind s all r tss
back s all line r [] sound known h = end_back s all r (let e : r ≡ between_images all = cc in e) known
back s all line r (ts ∷ tss) sound known h =
    let b = bind_ok (accepted line r ts) _ (between_images all) h in
    line_spelled s all r.parts line r.current ts tss b.0 sound b.1 (back s all (line + 1) b.0 tss sound known b.2)
