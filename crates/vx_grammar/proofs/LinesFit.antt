-- A line is read exactly where a production fits it behind the lines before it.
use Rattle.std.proofs.Common.{◌≡◌, ℕ, ◌+◌, ◌<◌, ◌==◌, ◌&&◌, true, false, cond, nat_le, nat_lt, List, [], ◌∷◌, ◌++◌, length, drop, map, flat_map, fold, codes, Option, Some, None, is_some, Result, Ok, Err, bytes_eq, refl, sym, subst, ap, ◌∙◌, arith, append-nil, length-append}
use Rattle.std.specs.List.{AllByRecursion}
use Rattle.std.proofs.lemmas.Bool.{leb-true, lt-ltb, ltb-true, or_left, and_from}
use Rattle.vx_image.specs.declared.decl.ProcDecl.{ProcDecl}
use Rattle.vx_image.specs.declared.image.Image.{Image}
use Rattle.vx_image.specs.declared.image.Label.{Label}
use Rattle.vx_image.specs.declared.stmt.Stmt.{Stmt}
use Rattle.vx_image.specs.declared.system.System.{System}
use Rattle.vx_image.specs.declared.unit.UnitDecl.{UnitDecl}
use Rattle.vx_image.specs.WellFormed.{is_among, are_distinct}
use Rattle.vx_text.specs.declared.token.Tok.{Tok}
use Rattle.vx_text.specs.declared.token.Tok.TheVariants as tok
use Rattle.vx_script.specs.Fields.{begins_with_sign, end_at, room_for}
use Rattle.vx_script.specs.Keys.{no_keys}
use Rattle.vx_script.specs.Declarations.{unused_name, unit_line, input_line, fault_line, image_line, process_line}
use Rattle.vx_script.specs.Places.{image_place, label_place}
use Rattle.vx_script.specs.Reading.{with_stmt, with_label, labelled, goes_on, going_on, word_line, inside, between_images, outer_line, outside, by_place}
use Rattle.vx_script.specs.Resolving.{settled, image_of, with_image}
use Rattle.vx_script.specs.Statements.{stmt_of}
use Rattle.vx_script.specs.declared.draft.Draft.{Draft}
use Rattle.vx_script.specs.declared.draft.DraftImage.{DraftImage}
use Rattle.vx_script.specs.declared.draft.DraftLine.{DraftLine}
use Rattle.vx_script.specs.declared.fault.FaultKind.{FaultKind}
use Rattle.vx_script.specs.declared.lines.DeclLine.{DeclLine}
use Rattle.vx_script.specs.declared.lines.FaultLine.{FaultLine}
use Rattle.vx_script.specs.declared.lines.InputLine.{InputLine}
use Rattle.vx_script.specs.declared.parts.Parts.{Parts}
use Rattle.vx_script.specs.declared.parts.Reading.{Reading}
use Rattle.vx_script.proofs.KeptParts.{AreParts, IsRead}
use Rattle.vx_script.proofs.OpenImages.{IsOpen}
use Rattle.vx_script.proofs.Places.{has_place}
use Rattle.vx_grammar.specs.Grammar.{Said, Names, Does, BodyLine, empty_line, statement_line, label_line, labelled_line, plain_decl, Item, OfUnit, OfInput, OfFault, OfImage, OfProcess, Line, a_line_unit, a_block_unit, an_input, a_fault, a_process, colon}
use Rattle.vx_grammar.specs.Declared.{DeclaredImage, Declared, IsNew, line_name, and_item, IsNewIn, and_said}
use Rattle.vx_grammar.specs.FirstFault.{Fits, empty_fits, line_fits, opening_fits, body_fits, end_fits}
use Rattle.vx_grammar.proofs.Fields.{bind_ok, end_is}
use Rattle.vx_grammar.proofs.ReadStatements.{ReadsAs, stmt_reads}
use Rattle.vx_grammar.proofs.ProcessKeys.{settings_read}
use Rattle.vx_grammar.proofs.SaidSoFar.{flat_pushed, fault_key, and_unit, and_input, and_fault, and_decl, bare_unit}
use Rattle.vx_grammar.proofs.InnerSpelled.{colon_by}
use Rattle.vx_grammar.proofs.LinesBack.{here_new, no_place, with_draft, stmt_taken, label_taken, line_unit_read, block_unit_read, an_input_read, fault_new, a_fault_read, none_has, a_process_read, opened_read, nothing_outside}
use Rattle.vx_grammar.proofs.Looking.{faults_differ}
use Rattle.vx_grammar.proofs.OuterSpelled.{unit_spelled, input_spelled, fault_spelled, image_spelled, process_spelled}
use Rattle.vx_grammar.proofs.Somewhere.{some_statement}
use Rattle.std.proofs.lemmas.List.{map_push, length-map}
use Rattle.vx_base.proofs.Texts.{same_bytes, bytes_are}
use Rattle.vx_base.proofs.Bools.{either_by}

-- what was read declares this

abbrev pub open_of : DraftImage → DeclaredImage
open_of image = record { name = image.name; labels = map (λ l. l.name) image.labels; stmts = length image.lines }

abbrev pub ended_of : Image → DeclaredImage
ended_of i = record { name = i.name; labels = map (λ l. l.name) i.labels; stmts = length i.stmts }

abbrev pub line_of : UnitDecl → List (List ℕ)
line_of u = line_name u.name u.blocks

abbrev pub declared_by : Parts → Option DraftImage → Declared
declared_by parts None = record {
  units = map (λ u. u.name) parts.units;
  line_units = flat_map line_of parts.units;
  images = map (λ i. i.name) parts.images;
  processes = map (λ d. d.name) parts.decls;
  faults = map fault_key parts.faults;
  ended = map ended_of parts.images;
  image = None;
}
declared_by parts (Some image) = record {
  units = map (λ u. u.name) parts.units;
  line_units = flat_map line_of parts.units;
  images = map (λ i. i.name) parts.images ++ image.name ∷ [];
  processes = map (λ d. d.name) parts.decls;
  faults = map fault_key parts.faults;
  ended = map ended_of parts.images;
  image = Some (open_of image);
}

abbrev pub declared : Reading → Declared
declared r = declared_by r.parts r.current

unit_more : (parts : Parts) (u : UnitDecl) → declared_by (and_unit parts u) None ≡ and_item (declared_by parts None) (OfUnit u.name u.blocks)
unit_more parts u =
    let name = λ (u : UnitDecl). u.name in
    let lines : flat_map line_of (parts.units ++ u ∷ []) ≡ flat_map line_of parts.units ++ line_of u = sym (append-nil _) ∙ flat_pushed line_of parts.units u [] ∙ ap (λ ls. flat_map line_of parts.units ++ ls) (append-nil (line_of u)) in
    ap (λ (us : List (List ℕ)). record (declared_by parts None) { units = us; line_units = flat_map line_of (parts.units ++ u ∷ []) }) (map_push name parts.units u)
    ∙ ap (λ (ls : List (List ℕ)). record (declared_by parts None) { units = map name parts.units ++ u.name ∷ []; line_units = ls }) lines

ended_more : (parts : Parts) (image : DraftImage) → declared_by (with_image parts image) None
    ≡ record (declared_by parts (Some image)) { ended = map ended_of parts.images ++ open_of image ∷ []; image = None }
ended_more parts image =
    ap (λ (ns : List (List ℕ)). record (declared_by parts None) { images = ns; ended = map ended_of (parts.images ++ image_of image ∷ []) }) (map_push (λ (i : Image). i.name) parts.images (image_of image))
    ∙ ap (λ (os : List DeclaredImage). record (declared_by parts None) { images = map (λ (i : Image). i.name) parts.images ++ image.name ∷ []; ended = os }) (map_push ended_of parts.images (image_of image))
    ∙ ap (λ (n : ℕ). record (declared_by parts None) { images = map (λ (i : Image). i.name) parts.images ++ image.name ∷ []; ended = map ended_of parts.images ++ record (open_of image) { stmts = n } ∷ [] })
    (length-map image.lines (λ (d : DraftLine). settled image.labels d.draft))

-- What fits is read.

-- a line is read, and then this is declared
pub record ReadAs (line : ℕ) (parts : Parts) (current : Option DraftImage) (ts : List Tok) (d : Declared) : Type 0 where
  pub next : Reading
  pub read : by_place line parts current ts ≡ Ok next
  pub same : declared next ≡ d

room_in : {A : Type 0} (most : ℕ) (name : A → List ℕ) (xs : List A) → length (map name xs) < most → nat_lt (length xs) most ≡ true
room_in most name xs h = let e : length (map name xs) ≡ length xs = length-map xs name in lt-ltb (length xs) most (omega (arith, e, h))

item_read : (line : ℕ) (parts : Parts) (s : System) (ts : List Tok) (item : Item) → Line s ts item → IsNew (declared_by parts None) item → ReadAs line parts None ts (and_item (declared_by parts None) item)
item_read line parts s _ _ (a_line_unit name) new = record {
  next = between_images (and_unit parts (bare_unit name 0));
  read = line_unit_read line parts name (no_place (λ (u : UnitDecl). u.name) name parts.units new.0) (room_in 32 (λ (u : UnitDecl). u.name) parts.units new.1);
  same = unit_more parts (bare_unit name 0);
}
item_read line parts s _ _ (a_block_unit name n h) new = record {
  next = between_images (and_unit parts (bare_unit name n));
  read = block_unit_read line parts name n h (no_place (λ (u : UnitDecl). u.name) name parts.units new.0) (room_in 32 (λ (u : UnitDecl). u.name) parts.units new.1);
  same = unit_more parts (bare_unit name n);
}
item_read line parts s _ _ (an_input unit text h there) new = record {
  next = between_images (and_input parts (record { line = line; unit = unit; text = text }));
  read = an_input_read line parts unit text h;
  same = refl;
}
item_read line parts s _ _ (a_fault unit n h there) new =
    let f : FaultLine = record { line = line; unit = unit; number = n } in
    record {
      next = between_images (and_fault parts f);
      read = a_fault_read line parts unit n h (fault_new unit n parts.faults new);
      same = ap (λ (fs : List (List ℕ)). record (declared_by parts None) { faults = fs }) (map_push fault_key parts.faults f);
    }
item_read line parts s _ _ (a_process name image k ts keys set place settings once) new =
    let read = settings_read ts keys set settings no_keys (record { none = none_has keys; apart = once }) in
    let d : DeclLine = record { line = line; name = name; image = image; keys = read.all } in
    let named : (set (plain_decl name k)).name ≡ name = ap (λ (q : ProcDecl). q.name) (sym (read.sets name k)) in
    record {
      next = between_images (and_decl parts d);
      read = a_process_read line parts name image ts set read
          (no_place (λ (d : DeclLine). d.name) name parts.decls (subst (λ (n : List ℕ). is_among n (map (λ (d : DeclLine). d.name) parts.decls) ≡ false) named new.0))
          (room_in 1000 (λ (d : DeclLine). d.name) parts.decls new.1);
      same = ap (λ (ds : List (List ℕ)). record (declared_by parts None) { processes = ds }) (map_push (λ (d : DeclLine). d.name) parts.decls d)
          ∙ ap (λ (n : List ℕ). record (declared_by parts None) { processes = map (λ (d : DeclLine). d.name) parts.decls ++ n ∷ [] }) (sym named);
    }

-- a line of an image is read
record BodyAs (line : ℕ) (parts : Parts) (image : DraftImage) (ts : List Tok) (said : List Said) : Type 0 where
  more : DraftImage
  read : inside line parts image ts ≡ Ok (goes_on parts more)
  name : more.name ≡ image.name
  grown : open_of more ≡ fold and_said (open_of image) said

one_longer : (image : DraftImage) (line : ℕ) (d : Draft) → open_of (with_draft line image d) ≡ record (open_of image) { stmts = length image.lines + 1 }
one_longer image line d = ap (λ (n : ℕ). record (open_of image) { stmts = n }) (length-append image.lines (record { line = line; draft = d } ∷ []))

label_more : (image : DraftImage) (name : List ℕ) → open_of (with_label image name) ≡ and_said (open_of image) (Names name)
label_more image name = ap (λ (ls : List (List ℕ)). record (open_of image) { labels = ls }) (map_push (λ (l : Label). l.name) image.labels (record { name = name; place = length image.lines }))

statement_as : (line : ℕ) (parts : Parts) (image : DraftImage) (decls : List (List ℕ)) (i : Image) (ts : List Tok) (s : Stmt) → ReadsAs decls i ts s → length image.lines < 10000 → BodyAs line parts image ts (Does s ∷ [])
statement_as line parts image decls i [] s r room = absurd r
statement_as line parts image decls i (t ∷ rest) s r room = record {
  more = with_draft line image r.drafted;
  read = r.alone line parts image ∙ ap (going_on parts) (stmt_taken line image t rest r.drafted r.read (lt-ltb _ _ room));
  name = refl;
  grown = one_longer image line r.drafted;
}

labelled_as : (line : ℕ) (parts : Parts) (image : DraftImage) (decls : List (List ℕ)) (i : Image) (name : List ℕ) (ts : List Tok) (s : Stmt) → ReadsAs decls i ts s → label_place name image.labels ≡ None
    → length image.lines < 10000 → BodyAs line parts image (tok.Word name ∷ colon ∷ ts) (Names name ∷ Does s ∷ [])
labelled_as line parts image decls i name [] s r new room = absurd r
labelled_as line parts image decls i name (t ∷ rest) s r new room = record {
  more = with_draft line (with_label image name) r.drafted;
  read = label_taken line parts image name (t ∷ rest) (Ok (with_draft line (with_label image name) r.drafted)) new (stmt_taken line (with_label image name) t rest r.drafted r.read (lt-ltb _ _ room));
  name = refl;
  grown = one_longer (with_label image name) line r.drafted ∙ ap (λ (o : DeclaredImage). and_said o (Does s)) (label_more image name);
}

new_label : (image : DraftImage) (name : List ℕ) → is_among name (open_of image).labels ≡ false → label_place name image.labels ≡ None
new_label image name h = no_place (λ (l : Label). l.name) name image.labels h

body_as : (line : ℕ) (parts : Parts) (image : DraftImage) (decls : List (List ℕ)) (i : Image) (ts : List Tok) (said : List Said) → BodyLine decls i ts said → AllByRecursion (IsNewIn (open_of image)) said
    → BodyAs line parts image ts said
body_as line parts image decls i _ _ empty_line new = record { more = image; read = refl; name = refl; grown = refl }
body_as line parts image decls i _ _ (statement_line ts s h) new = statement_as line parts image decls i ts s (stmt_reads decls i ts s h) new.0
body_as line parts image decls i _ _ (label_line name) new = record {
  more = with_label image name;
  read = label_taken line parts image name [] (Ok (with_label image name)) (new_label image name new.0) refl;
  name = refl;
  grown = label_more image name;
}
body_as line parts image decls i _ _ (labelled_line name ts s h) new = labelled_as line parts image decls i name ts s (stmt_reads decls i ts s h) (new_label image name new.0) new.1.0

as_declared : (line : ℕ) (parts : Parts) (current : Option DraftImage) (ts : List Tok) (d e : Declared) → d ≡ e → ReadAs line parts current ts d → ReadAs line parts current ts e
as_declared line parts current ts d e same r = record { next = r.next; read = r.read; same = r.same ∙ same }

-- no image, if one is not ended, and the other way round
not_both : (image : DraftImage) (parts : Parts) (d : Declared) → declared_by parts (Some image) ≡ d → d.image ≡ None → ⊥
not_both image parts d e h = let k : Some (open_of image) ≡ None = ap (λ (x : Declared). x.image) e ∙ h in cc

not_open : (parts : Parts) (o : DeclaredImage) (d : Declared) → declared_by parts None ≡ d → d.image ≡ Some o → ⊥
not_open parts o d e h = let k : None ≡ Some o = ap (λ (x : Declared). x.image) e ∙ h in cc

-- what fits is read
pub fits_read : (d : Declared) (ts : List Tok) (e : Declared) → Fits d ts e → (line : ℕ) (parts : Parts) (current : Option DraftImage) → declared_by parts current ≡ d → ReadAs line parts current ts e
fits_read d _ _ (empty_fits none) line parts None same = record { next = between_images parts; read = nothing_outside line parts; same = same }
fits_read d _ _ (empty_fits none) line parts (Some image) same = absurd (not_both image parts d same none)
fits_read d _ _ (line_fits s ts item none h new) line parts None same =
    as_declared line parts None ts (and_item (declared_by parts None) item) (and_item d item) (ap (λ (x : Declared). and_item x item) same)
    (item_read line parts s ts item h (subst (λ (x : Declared). IsNew x item) (sym same) new))
fits_read d _ _ (line_fits s ts item none h new) line parts (Some image) same = absurd (not_both image parts d same none)
fits_read d _ _ (opening_fits i none new) line parts None same =
    let fresh : IsNew (declared_by parts None) (OfImage i) = subst (λ (x : Declared). IsNew x (OfImage i)) (sym same) new in
    record {
      next = goes_on parts (record { name = i.name; labels = []; lines = [] });
      read = opened_read line parts i.name (no_place (λ (i : Image). i.name) i.name parts.images fresh.0) (room_in 256 (λ (i : Image). i.name) parts.images fresh.1);
      same = ap (λ (x : Declared). record (and_item x (OfImage i)) { image = Some (record { name = i.name; labels = []; stmts = 0 }) }) same;
    }
fits_read d _ _ (opening_fits i none new) line parts (Some image) same = absurd (not_both image parts d same none)
fits_read d _ _ (body_fits o decls i ts said some h new) line parts None same = absurd (not_open parts o d same some)
fits_read d _ _ (body_fits o decls i ts said some h new) line parts (Some image) same =
    let both : Some (open_of image) ≡ Some o = ap (λ (x : Declared). x.image) same ∙ some in
    let here : o ≡ open_of image = cc in
    let b = body_as line parts image decls i ts said h (subst (λ (x : DeclaredImage). AllByRecursion (IsNewIn x) said) here new) in
    record {
      next = goes_on parts b.more;
      read = b.read;
      same = ap (λ (n : List ℕ). record (declared_by parts (Some image)) { images = map (λ i. i.name) parts.images ++ n ∷ []; image = Some (open_of b.more) }) b.name
          ∙ ap (λ (x : DeclaredImage). record (declared_by parts (Some image)) { image = Some x }) (b.grown ∙ ap (λ (x : DeclaredImage). fold and_said x said) (sym here))
          ∙ ap (λ (x : Declared). record x { image = Some (fold and_said o said) }) same;
    }
fits_read d _ _ (end_fits o some) line parts None same = absurd (not_open parts o d same some)
fits_read d _ _ (end_fits o some) line parts (Some image) same =
    let both : Some (open_of image) ≡ Some o = ap (λ (x : Declared). x.image) same ∙ some in
    let here : open_of image ≡ o = cc in
    record {
      next = between_images (with_image parts image);
      read = refl;
      same = ended_more parts image
          ∙ ap (λ (x : DeclaredImage). record (declared_by parts (Some image)) { ended = map ended_of parts.images ++ x ∷ []; image = None }) here
          ∙ ap (λ (x : Declared). record x { ended = x.ended ++ o ∷ []; image = None }) same;
    }

-- What is read fits.

fits_as : (d : Declared) (ts us : List Tok) (e f : Declared) → us ≡ ts → e ≡ f → Fits d us e → Fits d ts f
fits_as d ts us e f same more h = subst (λ (x : Declared). Fits d ts x) more (subst (λ (x : List Tok). Fits d x e) same h)

pushed_new : {A : Type 0} (name : A → List ℕ) (xs : List A) (x : A) → are_distinct (map name (xs ++ x ∷ [])) ≡ true → is_among (name x) (map name xs) ≡ false
pushed_new name xs x h = here_new (map name xs) (name x) [] (sym (ap are_distinct (map_push name xs x)) ∙ h)

pushed_room : {A : Type 0} (most : ℕ) (name : A → List ℕ) (xs : List A) (x : A) → nat_le (length (xs ++ x ∷ [])) most ≡ true → length (map name xs) < most
pushed_room most name xs x h =
    let e : length (map name xs) ≡ length xs = length-map xs name in
    omega (arith, e, leb-true (length (xs ++ x ∷ [])) most h, length-append xs (x ∷ []))

abbrev bare : System
bare = record { units = []; images = []; decls = [] }

abbrev FitsTo : Parts → Option DraftImage → List Tok → Reading → Type 0
FitsTo parts current ts r = Fits (declared_by parts current) ts (declared r)

unit_fits : (parts : Parts) (u : UnitDecl) (ts : List Tok) → unit_line parts.units ts ≡ Ok u → AreParts (and_unit parts u) → FitsTo parts None (tok.Word (codes "UNIT") ∷ ts) (between_images (and_unit parts u))
unit_fits parts u ts h k =
    let s = unit_spelled parts.units ts u h in
    let name = λ (u : UnitDecl). u.name in
    let same : s.name ≡ u.name = ap name s.is in
    let new = subst (λ (n : List ℕ). is_among n (map name parts.units) ≡ false) (sym same) (pushed_new name parts.units u k.units.names) in
    fits_as (declared_by parts None) _ (tok.Word (codes "UNIT") ∷ ts) (and_item (declared_by parts None) (OfUnit s.name s.blocks)) (declared_by (and_unit parts u) None) refl
    (ap (λ (v : UnitDecl). and_item (declared_by parts None) (OfUnit v.name v.blocks)) s.is ∙ sym (unit_more parts u))
    (line_fits bare _ (OfUnit s.name s.blocks) refl (s.line bare) (new, pushed_room 32 name parts.units u k.units.few))

input_fits : (line : ℕ) (parts : Parts) (i : InputLine) (ts : List Tok) → input_line line ts ≡ Ok i → FitsTo parts None (tok.Word (codes "INPUT") ∷ ts) (between_images (and_input parts i))
input_fits line parts i ts h =
    let s : System = record { units = bare_unit i.unit 0 ∷ []; images = []; decls = [] } in
    line_fits s _ (OfInput i.unit i.text) refl (input_spelled line ts i h s (or_left ((bytes_eq i.unit i.unit) && (0 == 0)) false (and_from (bytes_eq i.unit i.unit) true (same_bytes i.unit) refl))) tt

fault_fits : (line : ℕ) (parts : Parts) (f : FaultLine) (ts : List Tok) → fault_line line parts.faults ts ≡ Ok f → AreParts (and_fault parts f) → FitsTo parts None (tok.Word (codes "FAULT") ∷ ts) (between_images (and_fault parts f))
fault_fits line parts f ts h k =
    let s : System = record { units = bare_unit f.unit 0 ∷ []; images = []; decls = [] } in
    let new = pushed_new fault_key parts.faults f (faults_differ (parts.faults ++ f ∷ []) k.faults.apart) in
    fits_as (declared_by parts None) _ (tok.Word (codes "FAULT") ∷ ts) (and_item (declared_by parts None) (OfFault f.unit f.number)) (declared_by (and_fault parts f) None) refl
    (ap (λ (fs : List (List ℕ)). record (declared_by parts None) { faults = fs }) (sym (map_push fault_key parts.faults f)))
    (line_fits s _ (OfFault f.unit f.number) refl (fault_spelled line parts.faults ts f h s (or_left (bytes_eq f.unit f.unit) false (same_bytes f.unit))) new)

process_fits : (line : ℕ) (parts : Parts) (d : DeclLine) (ts : List Tok) → process_line line parts.decls ts ≡ Ok d → AreParts (and_decl parts d) → FitsTo parts None (tok.Word (codes "PROCESS") ∷ ts) (between_images (and_decl parts d))
process_fits line parts d ts h k =
    let i : Image = record { name = d.image; labels = []; stmts = [] } in
    let s : System = record { units = []; images = i ∷ []; decls = [] } in
    let there : is_some (image_place d.image (i ∷ [])) ≡ true = has_place (λ (i : Image). bytes_eq d.image i.name) (i ∷ []) ∙ or_left (bytes_eq d.image d.image) false (same_bytes d.image) in
    let p = process_spelled line parts.decls ts d h s there in
    let name = λ (d : DeclLine). d.name in
    let same : p.decl.name ≡ d.name = ap (λ (q : ProcDecl). q.name) (sym p.is) in
    let new = subst (λ (n : List ℕ). is_among n (map name parts.decls) ≡ false) (sym same) (pushed_new name parts.decls d k.decls.names) in
    fits_as (declared_by parts None) _ (tok.Word (codes "PROCESS") ∷ ts) (and_item (declared_by parts None) (OfProcess p.decl)) (declared_by (and_decl parts d) None) refl
    (ap (λ (n : List ℕ). record (declared_by parts None) { processes = map name parts.decls ++ n ∷ [] }) same
    ∙ ap (λ (ds : List (List ℕ)). record (declared_by parts None) { processes = ds }) (sym (map_push name parts.decls d)))
    (line_fits s _ (OfProcess p.decl) refl p.line (new, pushed_room 1000 name parts.decls d k.decls.few))

image_fits : (parts : Parts) (image : DraftImage) (ts : List Tok) → image_line parts.images ts ≡ Ok image → IsOpen parts.images image → FitsTo parts None (tok.Word (codes "IMAGE") ∷ ts) (goes_on parts image)
image_fits parts image ts h o =
    let n = image_spelled parts.images ts image h in
    let i : Image = record { name = n.0; labels = []; stmts = [] } in
    let name = λ (i : Image). i.name in
    let new : is_among n.0 (map name parts.images) ≡ false = subst (λ (j : DraftImage). is_among j.name (map name parts.images) ≡ false) (sym n.2) o.new in
    let e : length (map name parts.images) ≡ length parts.images = length-map parts.images name in
    let room = o.room in
    fits_as (declared_by parts None) _ (tok.Word (codes "IMAGE") ∷ tok.Word n.0 ∷ []) _ (declared_by parts (Some image)) (ap (λ (us : List Tok). tok.Word (codes "IMAGE") ∷ us) (sym n.1))
    (ap (λ (j : DraftImage). declared_by parts (Some j)) n.2) (opening_fits i refl (new, omega (arith, e, ltb-true (length parts.images) 256 room)))

by_keyword : (parts : Parts) (word keyword : List ℕ) (ts : List Tok) (r : Reading) (x y : Result Reading FaultKind)
    → (x ≡ Ok r → FitsTo parts None (tok.Word keyword ∷ ts) r) → (y ≡ Ok r → FitsTo parts None (tok.Word word ∷ ts) r) → cond (bytes_eq word keyword) x y ≡ Ok r → FitsTo parts None (tok.Word word ∷ ts) r
by_keyword parts word keyword ts r x y h k =
    either_by {A = Result Reading FaultKind} (λ q. q ≡ Ok r → FitsTo parts None (tok.Word word ∷ ts) r) (bytes_eq word keyword) x y
    (λ e ok. subst (λ (w : List ℕ). FitsTo parts None (tok.Word w ∷ ts) r) (sym (bytes_are word keyword e)) (h ok)) (λ _ ok. k ok)

word_fits : (line : ℕ) (parts : Parts) (word : List ℕ) (ts : List Tok) (r : Reading) → outer_line line parts word ts ≡ Ok r → IsRead r → FitsTo parts None (tok.Word word ∷ ts) r
word_fits line parts word ts r h is =
    by_keyword parts word (codes "UNIT") ts r _ _ (λ k.
    let u = bind_ok (unit_line parts.units ts) _ r k in
    let same : between_images (and_unit parts u.0) ≡ r = cc (u.2) in
    subst (λ (q : Reading). FitsTo parts None (tok.Word (codes "UNIT") ∷ ts) q) same (unit_fits parts u.0 ts u.1 (subst IsRead (sym same) is).parts)) (
    by_keyword parts word (codes "INPUT") ts r _ _ (λ k.
    let i = bind_ok (input_line line ts) _ r k in
    let same : between_images (and_input parts i.0) ≡ r = cc (i.2) in
    subst (λ (q : Reading). FitsTo parts None (tok.Word (codes "INPUT") ∷ ts) q) same (input_fits line parts i.0 ts i.1)) (
    by_keyword parts word (codes "FAULT") ts r _ _ (λ k.
    let f = bind_ok (fault_line line parts.faults ts) _ r k in
    let same : between_images (and_fault parts f.0) ≡ r = cc (f.2) in
    subst (λ (q : Reading). FitsTo parts None (tok.Word (codes "FAULT") ∷ ts) q) same (fault_fits line parts f.0 ts f.1 (subst IsRead (sym same) is).parts)) (
    by_keyword parts word (codes "IMAGE") ts r _ _ (λ k.
    let i = bind_ok (image_line parts.images ts) _ r k in
    let same : goes_on parts i.0 ≡ r = cc (i.2) in
    subst (λ (q : Reading). FitsTo parts None (tok.Word (codes "IMAGE") ∷ ts) q) same (image_fits parts i.0 ts i.1 (subst IsRead (sym same) is).current)) (
    by_keyword parts word (codes "PROCESS") ts r _ _ (λ k.
    let d = bind_ok (process_line line parts.decls ts) _ r k in
    let same : between_images (and_decl parts d.0) ≡ r = cc (d.2) in
    subst (λ (q : Reading). FitsTo parts None (tok.Word (codes "PROCESS") ∷ ts) q) same (process_fits line parts d.0 ts d.1 (subst IsRead (sym same) is).parts))
    (λ k. absurd (cc)))))) h

outside_fits : (line : ℕ) (parts : Parts) (ts : List Tok) (r : Reading) → outside line parts ts ≡ Ok r → IsRead r → FitsTo parts None ts r
unfolding outside
outside_fits line parts [] r h is = subst (λ (q : Reading). FitsTo parts None [] q) (let e : between_images parts ≡ r = cc in e) (empty_fits refl)
outside_fits line parts (tok.Word word ∷ ts) r h is = word_fits line parts word ts r h is
outside_fits line parts (tok.Num n ∷ ts) r h is = absurd (cc)
outside_fits line parts (tok.Cond c ∷ ts) r h is = absurd (cc)
outside_fits line parts (tok.Sign c ∷ ts) r h is = absurd (cc)
outside_fits line parts (tok.Service c ∷ ts) r h is = absurd (cc)
outside_fits line parts (tok.Quote c ∷ ts) r h is = absurd (cc)

-- Lines of an image.

stmt_room : (image : DraftImage) (line : ℕ) (d : Draft) → nat_le (length (image.lines ++ record { line = line; draft = d } ∷ [])) 10000 ≡ true → length image.lines < 10000
stmt_room image line d h = let one : DraftLine = record { line = line; draft = d } in omega (arith, leb-true (length (image.lines ++ one ∷ [])) 10000 h, length-append image.lines (one ∷ []))

-- a statement alone
plain_fits : (line : ℕ) (parts : Parts) (image more : DraftImage) (ts : List Tok) → with_stmt line image ts ≡ Ok more → IsOpen parts.images more → FitsTo parts (Some image) ts (goes_on parts more)
plain_fits line parts image more [] h o =
    subst (λ (m : DraftImage). FitsTo parts (Some image) [] (goes_on parts m)) (let e : image ≡ more = cc in e) (body_fits (open_of image) [] (record { name = []; labels = []; stmts = [] }) [] [] refl empty_line tt)
plain_fits line parts image more (t ∷ ts) h o =
    let d = bind_ok (stmt_of t ts) _ more h in
    let r = bind_ok (room_for 10000 (length image.lines)) _ more d.2 in
    let e : with_draft line image d.0 ≡ more = cc (r.2) in
    let p = subst (λ (m : DraftImage). IsOpen parts.images m) (sym e) o in
    let s = some_statement t ts d.0 d.1 in
    subst (λ (m : DraftImage). FitsTo parts (Some image) (t ∷ ts) (goes_on parts m)) e (
    fits_as (declared_by parts (Some image)) _ (t ∷ ts) _ (declared_by parts (Some (with_draft line image d.0))) refl
    (ap (λ (x : DeclaredImage). record (declared_by parts (Some image)) { image = Some x }) (sym (one_longer image line d.0)))
    (body_fits (open_of image) s.decls s.image (t ∷ ts) (Does s.s ∷ []) refl (statement_line (t ∷ ts) s.s s.is) (stmt_room image line d.0 p.few, tt)))

label_fresh : (images : List Image) (image : DraftImage) (name : List ℕ) → are_distinct (map (λ (l : Label). l.name) (image.labels ++ record { name = name; place = length image.lines } ∷ [])) ≡ true
    → is_among name (map (λ (l : Label). l.name) image.labels) ≡ false
label_fresh images image name h = pushed_new (λ (l : Label). l.name) image.labels (record { name = name; place = length image.lines }) h

behind_label : (line : ℕ) (parts : Parts) (image more : DraftImage) (name : List ℕ) (ts : List Tok) → with_stmt line (with_label image name) ts ≡ Ok more → IsOpen parts.images more
    → FitsTo parts (Some image) (tok.Word name ∷ colon ∷ ts) (goes_on parts more)
behind_label line parts image more name [] h o =
    let e : with_label image name ≡ more = cc in
    let p = subst (λ (m : DraftImage). IsOpen parts.images m) (sym e) o in
    subst (λ (m : DraftImage). FitsTo parts (Some image) (tok.Word name ∷ colon ∷ []) (goes_on parts m)) e (
    fits_as (declared_by parts (Some image)) _ (tok.Word name ∷ colon ∷ []) _ (declared_by parts (Some (with_label image name))) refl
    (ap (λ (x : DeclaredImage). record (declared_by parts (Some image)) { image = Some x }) (sym (label_more image name)))
    (body_fits (open_of image) [] (record { name = []; labels = []; stmts = [] }) _ (Names name ∷ []) refl (label_line name) (label_fresh parts.images image name p.names, tt)))
behind_label line parts image more name (t ∷ ts) h o =
    let d = bind_ok (stmt_of t ts) _ more h in
    let r = bind_ok (room_for 10000 (length image.lines)) _ more d.2 in
    let e : with_draft line (with_label image name) d.0 ≡ more = cc (r.2) in
    let p = subst (λ (m : DraftImage). IsOpen parts.images m) (sym e) o in
    let s = some_statement t ts d.0 d.1 in
    subst (λ (m : DraftImage). FitsTo parts (Some image) (tok.Word name ∷ colon ∷ t ∷ ts) (goes_on parts m)) e (
    fits_as (declared_by parts (Some image)) _ (tok.Word name ∷ colon ∷ t ∷ ts) _ (declared_by parts (Some (with_draft line (with_label image name) d.0))) refl
    (ap (λ (x : DeclaredImage). record (declared_by parts (Some image)) { image = Some x }) (sym (one_longer (with_label image name) line d.0 ∙ ap (λ (o : DeclaredImage). and_said o (Does s.s)) (label_more image name))))
    (body_fits (open_of image) s.decls s.image _ (Names name ∷ Does s.s ∷ []) refl (labelled_line name (t ∷ ts) s.s s.is)
    (label_fresh parts.images image name p.names, (stmt_room image line d.0 p.few, tt))))

going_fits : (parts : Parts) (image : DraftImage) (ts : List Tok) (m : Result DraftImage FaultKind) (r : Reading) → going_on parts m ≡ Ok r → IsRead r
    → ((more : DraftImage) → m ≡ Ok more → IsOpen parts.images more → FitsTo parts (Some image) ts (goes_on parts more)) → FitsTo parts (Some image) ts r
going_fits parts image ts (Ok more) r h is k =
    let e : goes_on parts more ≡ r = cc in
    subst (λ (q : Reading). FitsTo parts (Some image) ts q) e (k more refl (subst IsRead (sym e) is).current)
going_fits parts image ts (Err kind) r h is k = absurd (cc)

label_fits : (line : ℕ) (parts : Parts) (image more : DraftImage) (name : List ℕ) (ts : List Tok) → labelled line image name ts ≡ Ok more → IsOpen parts.images more
    → FitsTo parts (Some image) (tok.Word name ∷ colon ∷ ts) (goes_on parts more)
label_fits line parts image more name ts h o = let f = bind_ok (unused_name (label_place name image.labels) name) _ more h in behind_label line parts image more name ts f.2 o

tokens_as : (parts : Parts) (current : Option DraftImage) (ts us : List Tok) (r : Reading) → us ≡ ts → FitsTo parts current us r → FitsTo parts current ts r
tokens_as parts current ts us r e h = subst (λ (vs : List Tok). FitsTo parts current vs r) e h

word_inside : (line : ℕ) (parts : Parts) (image : DraftImage) (word : List ℕ) (ts : List Tok) (r : Reading) → word_line line parts image word (tok.Word word ∷ ts) ≡ Ok r → IsRead r
    → FitsTo parts (Some image) (tok.Word word ∷ ts) r
word_inside line parts image word ts r h is =
    either_by {A = Result Reading FaultKind} (λ q. q ≡ Ok r → FitsTo parts (Some image) (tok.Word word ∷ ts) r) (begins_with_sign 58 ts) _ _
    (λ e k. tokens_as parts (Some image) _ (tok.Word word ∷ colon ∷ drop 1 ts) r (ap (λ (us : List Tok). tok.Word word ∷ us) (sym (colon_by ts e)))
    (going_fits parts image (tok.Word word ∷ colon ∷ drop 1 ts) (labelled line image word (drop 1 ts)) r k is λ more m o. label_fits line parts image more word (drop 1 ts) m o))
    (λ _. either_by {A = Result Reading FaultKind} (λ q. q ≡ Ok r → FitsTo parts (Some image) (tok.Word word ∷ ts) r) (bytes_eq word (codes "END")) _ _
    (λ e k.
    let end = bind_ok (end_at ts) _ r k in
    let none = end_is 0 ts end.0 end.1 in
    let same : between_images (with_image parts image) ≡ r = cc (end.2) in
    let shape : tok.Word (codes "END") ∷ [] ≡ tok.Word word ∷ ts = ap (λ (w : List ℕ). tok.Word w ∷ []) (sym (bytes_are word (codes "END") e)) ∙ ap (λ (us : List Tok). tok.Word word ∷ us) (sym none) in
    subst (λ (q : Reading). FitsTo parts (Some image) (tok.Word word ∷ ts) q) same (
    fits_as (declared_by parts (Some image)) _ (tok.Word (codes "END") ∷ []) _ (declared_by (with_image parts image) None) shape
    (sym (ended_more parts image)) (end_fits (open_of image) refl)))
    (λ _ k. going_fits parts image (tok.Word word ∷ ts) (with_stmt line image (tok.Word word ∷ ts)) r k is λ more m o. plain_fits line parts image more (tok.Word word ∷ ts) m o)) h

inside_fits : (line : ℕ) (parts : Parts) (image : DraftImage) (ts : List Tok) (r : Reading) → inside line parts image ts ≡ Ok r → IsRead r → FitsTo parts (Some image) ts r
inside_fits line parts image (tok.Word word ∷ ts) r h is = word_inside line parts image word ts r h is
inside_fits line parts image [] r h is = going_fits parts image [] (with_stmt line image []) r h is λ more m o. plain_fits line parts image more [] m o
inside_fits line parts image (tok.Num n ∷ ts) r h is = going_fits parts image (tok.Num n ∷ ts) (with_stmt line image (tok.Num n ∷ ts)) r h is λ more m o. plain_fits line parts image more (tok.Num n ∷ ts) m o
inside_fits line parts image (tok.Cond n ∷ ts) r h is = going_fits parts image (tok.Cond n ∷ ts) (with_stmt line image (tok.Cond n ∷ ts)) r h is λ more m o. plain_fits line parts image more (tok.Cond n ∷ ts) m o
inside_fits line parts image (tok.Sign n ∷ ts) r h is = going_fits parts image (tok.Sign n ∷ ts) (with_stmt line image (tok.Sign n ∷ ts)) r h is λ more m o. plain_fits line parts image more (tok.Sign n ∷ ts) m o
inside_fits line parts image (tok.Service n ∷ ts) r h is = going_fits parts image (tok.Service n ∷ ts) (with_stmt line image (tok.Service n ∷ ts)) r h is λ more m o. plain_fits line parts image more (tok.Service n ∷ ts) m o
inside_fits line parts image (tok.Quote n ∷ ts) r h is = going_fits parts image (tok.Quote n ∷ ts) (with_stmt line image (tok.Quote n ∷ ts)) r h is λ more m o. plain_fits line parts image more (tok.Quote n ∷ ts) m o

-- what is read fits
pub read_fits : (line : ℕ) (parts : Parts) (current : Option DraftImage) (ts : List Tok) (r : Reading) → by_place line parts current ts ≡ Ok r → IsRead r → Fits (declared_by parts current) ts (declared r)
read_fits line parts None ts r h is = outside_fits line parts ts r h is
read_fits line parts (Some image) ts r h is = inside_fits line parts image ts r h is
