-- What a line that is read adds to the names that are looked up in the end.
use mathlib.Core.Bool.{or-false}
use Rattle.std.proofs.Common.{◌≡◌, ℕ, ◌==◌, ◌&&◌, ◌||◌, not, Bool, true, false, cond, if◌then◌else◌, List, [], ◌∷◌, ◌++◌, length, drop, map, flat_map, find, codes, Option, Some, None, is_some, is_none, option_map, Result, Ok, Err, bytes_eq, refl, sym, subst, ap, ◌∙◌, append-nil, append_assoc}
use Rattle.std.specs.List.{list_any}
use Rattle.std.proofs.lemmas.Bool.{or_parts}
use Rattle.vx_base.proofs.Any.{any_map}
use Rattle.vx_base.specs.Services.{args_list}
use Rattle.vx_base.specs.declared.call.Arg.{Arg}
use Rattle.vx_base.specs.declared.call.Arg.TheVariants as arg
use Rattle.vx_base.specs.declared.service.Service.{Service}
use Rattle.vx_base.specs.declared.service.Service.TheVariants.{CrePrc}
use Rattle.vx_image.specs.WellFormed.{is_among, has_its_decl}
use Rattle.vx_image.specs.declared.image.Image.{Image}
use Rattle.vx_image.specs.declared.image.Label.{Label}
use Rattle.vx_image.specs.declared.stmt.Stmt.TheVariants as stmt
use Rattle.vx_image.specs.declared.unit.UnitDecl.{UnitDecl}
use Rattle.vx_text.specs.declared.token.Tok.{Tok}
use Rattle.vx_text.specs.declared.token.Tok.TheVariants as tok
use Rattle.vx_script.specs.Declarations.{decl_place, unused_name, fresh_fault, unit_line, input_line, fault_line, image_line, process_line}
use Rattle.vx_script.specs.Fields.{begins_with_sign, end_at, name_at, number_at, text_at, room_for}
use Rattle.vx_script.specs.Keys.{no_keys, keys_from}
use Rattle.vx_script.specs.Places.{unit_place, image_place, label_place, is_line_unit}
use Rattle.vx_script.specs.Reading.{with_stmt, with_label, labelled, goes_on, going_on, word_line, inside, between_images, outer_line, outside, by_place}
use Rattle.vx_script.specs.Resolving.{is_label, arg_names_none, call_names_none, draft_names_none, names_no_label, image_of, created_by, created_in, creation_of, creations_of, least_line, with_image, names_no_decl, names_no_image, names_no_line_unit, names_no_unit}
use Rattle.vx_script.specs.Statements.{stmt_of, local_stmt}
use Rattle.vx_script.specs.declared.draft.Draft.{Draft}
use Rattle.vx_script.specs.declared.draft.Draft.TheVariants as draft
use Rattle.vx_script.specs.declared.draft.DraftImage.{DraftImage}
use Rattle.vx_script.specs.declared.draft.DraftLine.{DraftLine}
use Rattle.vx_script.specs.declared.fault.FaultKind.{FaultKind}
use Rattle.vx_script.specs.declared.lines.Creation.{Creation}
use Rattle.vx_script.specs.declared.lines.DeclLine.{DeclLine}
use Rattle.vx_script.specs.declared.lines.FaultLine.{FaultLine}
use Rattle.vx_script.specs.declared.lines.InputLine.{InputLine}
use Rattle.vx_script.specs.declared.parts.Parts.{Parts}
use Rattle.vx_script.specs.declared.parts.Reading.{Reading}
use Rattle.vx_script.proofs.KeptParts.{IsOpenOr}
use Rattle.vx_script.proofs.OpenImages.{IsOpen}
use Rattle.vx_script.proofs.Places.{has_place}
use Rattle.vx_grammar.specs.Declared.{Declared}
use Rattle.vx_grammar.specs.UnknownName.{outside_unknown, label_unknown, draft_unknown, labels_of, statement_unknown, inside_unknown, names_unknown}
use Rattle.vx_grammar.proofs.Fields.{bind_ok, name_found, end_is}
use Rattle.vx_grammar.proofs.Least.{mark, marked, any_of, Moves, marks, ends}
use Rattle.vx_grammar.proofs.LinesBack.{with_draft}
use Rattle.vx_grammar.proofs.LinesFit.{open_of, ended_of, line_of, declared_by}
use Rattle.vx_grammar.proofs.SaidSoFar.{and_unit, and_input, and_fault, and_decl, flat_pushed}
use Rattle.vx_base.proofs.Texts.{same_bytes, bytes_are}
use Rattle.vx_base.proofs.Bools.{either_by}

-- What is unknown of the names looked up in the end.

-- the labels of the image of a name
abbrev pub final : List Image → List ℕ → List Label
final [] name = []
final (i ∷ images) name = if bytes_eq name i.name then i.labels else final images name

abbrev made_at : Parts → List Creation → Option ℕ
made_at fin cs = option_map (λ (c : Creation). c.line) (find (names_no_decl fin.decls) cs)

abbrev run_at : Parts → List DeclLine → Option ℕ
run_at fin ds = option_map (λ (d : DeclLine). d.line) (find (names_no_image fin.images) ds)

abbrev fed_at : Parts → List InputLine → Option ℕ
fed_at fin is = option_map (λ (i : InputLine). i.line) (find (names_no_line_unit fin.units) is)

abbrev failed_at : Parts → List FaultLine → Option ℕ
failed_at fin fs = option_map (λ (f : FaultLine). f.line) (find (names_no_unit fin.units) fs)

abbrev gone_to : List Label → List DraftLine → Option ℕ
gone_to labels ds = option_map (λ (d : DraftLine). d.line) (find (names_no_label labels) ds)

-- the first lines that name what is not there, kind by kind, if this is all that is read
abbrev pub firsts : Parts → Parts → Option DraftImage → List (Option ℕ)
firsts fin p None = p.unlabelled ∷ None ∷ made_at fin p.creations ∷ run_at fin p.decls ∷ fed_at fin p.inputs ∷ failed_at fin p.faults ∷ []
firsts fin p (Some image) =
    p.unlabelled ∷ gone_to (final fin.images image.name) image.lines ∷ made_at fin (p.creations ++ creations_of image.lines) ∷ run_at fin p.decls ∷ fed_at fin p.inputs ∷ failed_at fin p.faults ∷ []

abbrev pub firsts_of : Parts → Reading → List (Option ℕ)
firsts_of fin r = firsts fin r.parts r.current

-- what a line does to them, and the images that it ends
pub record Stepped (fin : Parts) (line : ℕ) (p : Parts) (current : Option DraftImage) (s : Reading) (t : Bool) : Type 0 where
  pub images : (more : List Image) × (s.parts.images ≡ p.images ++ more)
  pub moves : (rest : List Image) → fin.images ≡ s.parts.images ++ rest → Moves line t (firsts fin p current) (firsts_of fin s)

-- Lists with one more.

push_by : {A : Type 0} (number : A → ℕ) (x : A) (t : Bool) → option_map number (cond t (Some x) None) ≡ mark (number x) t None
push_by number x true = refl
push_by number x false = refl

keeps : (n k : ℕ) (t : Bool) → Some k ≡ mark n t (Some k)
keeps n k true = refl
keeps n k false = refl

push_behind : {A : Type 0} (p : A → Bool) (number : A → ℕ) (y : A) (more ys : List A) (x : A) (t : Bool) → option_map number (find p more) ≡ mark (number x) (p x) (option_map number (find p ys))
    → option_map number (cond t (Some y) (find p more)) ≡ mark (number x) (p x) (option_map number (cond t (Some y) (find p ys)))
push_behind p number y more ys x true h = keeps (number x) (number y) (p x)
push_behind p number y more ys x false h = h

found_push : {A : Type 0} (p : A → Bool) (number : A → ℕ) (xs : List A) (x : A) → option_map number (find p (xs ++ x ∷ [])) ≡ mark (number x) (p x) (option_map number (find p xs))
found_push p number [] x = push_by number x (p x)
found_push p number (y ∷ ys) x = push_behind p number y (ys ++ x ∷ []) ys x (p y) (found_push p number ys x)

none_some : (o : Option ℕ) → is_none o ≡ not (is_some o)
none_some None = refl
none_some (Some k) = refl

-- a name has no place if it is not among the names
nowhere : {A : Type 0} (name : A → List ℕ) (n : List ℕ) (xs : List A) (o : Option ℕ) → is_some o ≡ list_any (λ x. bytes_eq n (name x)) xs → not (is_among n (map name xs)) ≡ is_none o
nowhere name n xs o e = ap not (any_map (bytes_eq n) name xs ∙ sym e) ∙ sym (none_some o)

unchanged : (fin : Parts) (line : ℕ) (p : Parts) (current : Option DraftImage) (s : Reading) (t : Bool) → s.parts.images ≡ p.images → firsts fin p current ≡ firsts_of fin s → false ≡ t → Stepped fin line p current s t
unchanged fin line p current s t e h u = record {
  images = ([], e ∙ sym (append-nil p.images));
  moves = λ rest all. subst (λ (b : Bool). Moves line b (firsts fin p current) (firsts_of fin s)) u (subst (λ (os : List (Option ℕ)). Moves line false (firsts fin p current) os) h (marks [] (firsts fin p current) tt));
}

-- Lines outside images.

abbrev all_of : Parts → Declared
all_of fin = declared_by fin None

unit_flag : (fin : Parts) (ts : List Tok) → false ≡ outside_unknown (all_of fin) (tok.Word (codes "UNIT") ∷ ts)
unit_flag fin [] = refl
unit_flag fin (tok.Word name ∷ ts) = refl
unit_flag fin (_ ∷ ts) = refl

image_flag : (fin : Parts) (ts : List Tok) → false ≡ outside_unknown (all_of fin) (tok.Word (codes "IMAGE") ∷ ts)
image_flag fin [] = refl
image_flag fin (tok.Word name ∷ ts) = refl
image_flag fin (_ ∷ ts) = refl

line_unit : (name : List ℕ) (u : UnitDecl) (t : Bool) (us : List (List ℕ)) (b : Bool) → (u.blocks == 0) ≡ t → is_among name us ≡ b → is_among name (cond t (u.name ∷ []) [] ++ us) ≡ (bytes_eq name u.name && t) || b
line_unit name u true us b e h = by (bytes_eq name u.name)
  where
    by : (c : Bool) → c || is_among name us ≡ (c && true) || b
    by true = refl
    by false = h
line_unit name u false us b e h = h ∙ by (bytes_eq name u.name)
  where
    by : (c : Bool) → b ≡ (c && false) || b
    by true = refl
    by false = refl

line_units : (name : List ℕ) (us : List UnitDecl) → is_among name (flat_map line_of us) ≡ list_any (is_line_unit name) us
line_units name [] = refl
line_units name (u ∷ us) = line_unit name u (u.blocks == 0) (flat_map line_of us) (list_any (is_line_unit name) us) refl (line_units name us)

record Input (line : ℕ) (ts : List Tok) (i : InputLine) : Type 0 where
  rest : List Tok
  shape : ts ≡ tok.Word i.unit ∷ rest
  place : i.line ≡ line

input_is : (line : ℕ) (ts : List Tok) (i : InputLine) → input_line line ts ≡ Ok i → Input line ts i
unfolding input_line
input_is line ts i h =
    let unit = bind_ok (name_at ts) _ i h in
    let text = bind_ok (text_at (drop 1 ts)) _ i unit.2 in
    let end = bind_ok (end_at (drop 2 ts)) _ i text.2 in
    let is : record { line = line; unit = unit.0; text = text.0 } ≡ i = cc (end.2) in
    record {
      rest = drop 1 ts;
      shape = name_found 0 ts unit.0 unit.1 ∙ ap (λ (j : InputLine). tok.Word j.unit ∷ drop 1 ts) is;
      place = ap (λ (j : InputLine). j.line) (sym is);
    }

input_stepped : (fin : Parts) (line : ℕ) (p : Parts) (ts : List Tok) (i : InputLine) → input_line line ts ≡ Ok i
    → Stepped fin line p None (between_images (and_input p i)) (outside_unknown (all_of fin) (tok.Word (codes "INPUT") ∷ ts))
input_stepped fin line p ts i h =
    let n = input_is line ts i h in
    let t = names_no_line_unit fin.units i in
    let os = firsts fin p None in
    let flag : any_of (false ∷ false ∷ false ∷ false ∷ t ∷ []) ≡ outside_unknown (all_of fin) (tok.Word (codes "INPUT") ∷ ts) =
    or-false t ∙ ap not (sym (line_units i.unit fin.units)) ∙ ap (λ (us : List Tok). outside_unknown (all_of fin) (tok.Word (codes "INPUT") ∷ us)) (sym n.shape) in
    let same : marked line (false ∷ false ∷ false ∷ false ∷ t ∷ []) os ≡ firsts fin (and_input p i) None =
    ap (λ (o : Option ℕ). p.unlabelled ∷ None ∷ made_at fin p.creations ∷ run_at fin p.decls ∷ o ∷ failed_at fin p.faults ∷ [])
    (ap (λ (k : ℕ). mark k t (fed_at fin p.inputs)) (sym n.place) ∙ sym (found_push (names_no_line_unit fin.units) (λ (i : InputLine). i.line) p.inputs i)) in
    record {
      images = ([], sym (append-nil p.images));
      moves = λ rest all. subst (λ (b : Bool). Moves line b os (firsts fin (and_input p i) None)) flag (subst (λ (qs : List (Option ℕ)). Moves line (any_of (false ∷ false ∷ false ∷ false ∷ t ∷ [])) os qs) same (marks (false ∷ false ∷ false ∷ false ∷ t ∷ []) os tt));
    }

record Numbered (line : ℕ) (ts : List Tok) (f : FaultLine) : Type 0 where
  rest : List Tok
  shape : ts ≡ tok.Word f.unit ∷ rest
  place : f.line ≡ line

fault_is : (line : ℕ) (fs : List FaultLine) (ts : List Tok) (f : FaultLine) → fault_line line fs ts ≡ Ok f → Numbered line ts f
unfolding fault_line
fault_is line fs ts f h =
    let unit = bind_ok (name_at ts) _ f h in
    let n = bind_ok (number_at 1 100000 (drop 1 ts)) _ f unit.2 in
    let new = bind_ok (fresh_fault unit.0 n.0 fs) _ f n.2 in
    let end = bind_ok (end_at (drop 2 ts)) _ f new.2 in
    let is : record { line = line; unit = unit.0; number = new.0 } ≡ f = cc (end.2) in
    record {
      rest = drop 1 ts;
      shape = name_found 0 ts unit.0 unit.1 ∙ ap (λ (g : FaultLine). tok.Word g.unit ∷ drop 1 ts) is;
      place = ap (λ (g : FaultLine). g.line) (sym is);
    }

fault_stepped : (fin : Parts) (line : ℕ) (p : Parts) (ts : List Tok) (f : FaultLine) → fault_line line p.faults ts ≡ Ok f
    → Stepped fin line p None (between_images (and_fault p f)) (outside_unknown (all_of fin) (tok.Word (codes "FAULT") ∷ ts))
fault_stepped fin line p ts f h =
    let n = fault_is line p.faults ts f h in
    let t = names_no_unit fin.units f in
    let os = firsts fin p None in
    let ms = false ∷ false ∷ false ∷ false ∷ false ∷ t ∷ [] in
    let flag : any_of ms ≡ outside_unknown (all_of fin) (tok.Word (codes "FAULT") ∷ ts) =
    or-false t ∙ sym (nowhere (λ (u : UnitDecl). u.name) f.unit fin.units (unit_place f.unit fin.units) (has_place (λ (u : UnitDecl). bytes_eq f.unit u.name) fin.units))
    ∙ ap (λ (us : List Tok). outside_unknown (all_of fin) (tok.Word (codes "FAULT") ∷ us)) (sym n.shape) in
    let same : marked line ms os ≡ firsts fin (and_fault p f) None =
    ap (λ (o : Option ℕ). p.unlabelled ∷ None ∷ made_at fin p.creations ∷ run_at fin p.decls ∷ fed_at fin p.inputs ∷ o ∷ [])
    (ap (λ (k : ℕ). mark k t (failed_at fin p.faults)) (sym n.place) ∙ sym (found_push (names_no_unit fin.units) (λ (f : FaultLine). f.line) p.faults f)) in
    record {
      images = ([], sym (append-nil p.images));
      moves = λ rest all. subst (λ (b : Bool). Moves line b os (firsts fin (and_fault p f) None)) flag (subst (λ (qs : List (Option ℕ)). Moves line (any_of ms) os qs) same (marks ms os tt));
    }

record Process (line : ℕ) (ts : List Tok) (d : DeclLine) : Type 0 where
  name : List ℕ
  rest : List Tok
  shape : ts ≡ tok.Word name ∷ tok.Word d.image ∷ rest
  place : d.line ≡ line

process_is : (line : ℕ) (ds : List DeclLine) (ts : List Tok) (d : DeclLine) → process_line line ds ts ≡ Ok d → Process line ts d
unfolding process_line
process_is line ds ts d h =
    let word = bind_ok (name_at ts) _ d h in
    let name = bind_ok (unused_name (decl_place word.0 ds) word.0) _ d word.2 in
    let image = bind_ok (name_at (drop 1 ts)) _ d name.2 in
    let keys = bind_ok (keys_from 0 no_keys (drop 2 ts)) _ d image.2 in
    let room = bind_ok (room_for 1000 (length ds)) _ d keys.2 in
    let is : record { line = line; name = name.0; image = image.0; keys = keys.0 } ≡ d = cc (room.2) in
    record {
      name = word.0;
      rest = drop 2 ts;
      shape = name_found 0 ts word.0 word.1 ∙ ap (λ (us : List Tok). tok.Word word.0 ∷ us) (name_found 1 ts image.0 image.1) ∙ ap (λ (e : DeclLine). tok.Word word.0 ∷ tok.Word e.image ∷ drop 2 ts) is;
      place = ap (λ (e : DeclLine). e.line) (sym is);
    }

process_stepped : (fin : Parts) (line : ℕ) (p : Parts) (ts : List Tok) (d : DeclLine) → process_line line p.decls ts ≡ Ok d
    → Stepped fin line p None (between_images (and_decl p d)) (outside_unknown (all_of fin) (tok.Word (codes "PROCESS") ∷ ts))
process_stepped fin line p ts d h =
    let n = process_is line p.decls ts d h in
    let t = names_no_image fin.images d in
    let os = firsts fin p None in
    let ms = false ∷ false ∷ false ∷ t ∷ [] in
    let flag : any_of ms ≡ outside_unknown (all_of fin) (tok.Word (codes "PROCESS") ∷ ts) =
    or-false t ∙ sym (nowhere (λ (i : Image). i.name) d.image fin.images (image_place d.image fin.images) (has_place (λ (i : Image). bytes_eq d.image i.name) fin.images))
    ∙ ap (λ (us : List Tok). outside_unknown (all_of fin) (tok.Word (codes "PROCESS") ∷ us)) (sym n.shape) in
    let same : marked line ms os ≡ firsts fin (and_decl p d) None =
    ap (λ (o : Option ℕ). p.unlabelled ∷ None ∷ made_at fin p.creations ∷ o ∷ fed_at fin p.inputs ∷ failed_at fin p.faults ∷ [])
    (ap (λ (k : ℕ). mark k t (run_at fin p.decls)) (sym n.place) ∙ sym (found_push (names_no_image fin.images) (λ (d : DeclLine). d.line) p.decls d)) in
    record {
      images = ([], sym (append-nil p.images));
      moves = λ rest all. subst (λ (b : Bool). Moves line b os (firsts fin (and_decl p d) None)) flag (subst (λ (qs : List (Option ℕ)). Moves line (any_of ms) os qs) same (marks ms os tt));
    }

opened_is : (images : List Image) (ts : List Tok) (image : DraftImage) → image_line images ts ≡ Ok image → image.lines ≡ []
unfolding image_line
opened_is images ts image h =
    let word = bind_ok (name_at ts) _ image h in
    let name = bind_ok (unused_name (image_place word.0 images) word.0) _ image word.2 in
    let end = bind_ok (end_at (drop 1 ts)) _ image name.2 in
    let room = bind_ok (room_for 256 (length images)) _ image end.2 in
    let is : record { name = name.0; labels = []; lines = [] } ≡ image = cc (room.2) in
    ap (λ (i : DraftImage). i.lines) (sym is)

image_stepped : (fin : Parts) (line : ℕ) (p : Parts) (ts : List Tok) (image : DraftImage) → image_line p.images ts ≡ Ok image
    → Stepped fin line p None (goes_on p image) (outside_unknown (all_of fin) (tok.Word (codes "IMAGE") ∷ ts))
image_stepped fin line p ts image h =
    let empty = opened_is p.images ts image h in
    unchanged fin line p None (goes_on p image) _ refl
    (ap (λ (cs : List Creation). p.unlabelled ∷ None ∷ made_at fin cs ∷ run_at fin p.decls ∷ fed_at fin p.inputs ∷ failed_at fin p.faults ∷ []) (sym (append-nil p.creations))
    ∙ ap (λ (ds : List DraftLine). p.unlabelled ∷ gone_to (final fin.images image.name) ds ∷ made_at fin (p.creations ++ creations_of ds) ∷ run_at fin p.decls ∷ fed_at fin p.inputs ∷ failed_at fin p.faults ∷ []) (sym empty)) (image_flag fin ts)

abbrev OutStep : Parts → ℕ → Parts → Reading → List Tok → Type 0
OutStep fin line p s ts = Stepped fin line p None s (outside_unknown (all_of fin) ts)

by_keyword : (fin : Parts) (line : ℕ) (p : Parts) (word keyword : List ℕ) (ts : List Tok) (s : Reading) (x y : Result Reading FaultKind)
    → (x ≡ Ok s → OutStep fin line p s (tok.Word keyword ∷ ts)) → (y ≡ Ok s → OutStep fin line p s (tok.Word word ∷ ts)) → cond (bytes_eq word keyword) x y ≡ Ok s → OutStep fin line p s (tok.Word word ∷ ts)
by_keyword fin line p word keyword ts s x y h k =
    either_by {A = Result Reading FaultKind} (λ q. q ≡ Ok s → OutStep fin line p s (tok.Word word ∷ ts)) (bytes_eq word keyword) x y
    (λ e ok. subst (λ (w : List ℕ). OutStep fin line p s (tok.Word w ∷ ts)) (sym (bytes_are word keyword e)) (h ok)) (λ _ ok. k ok)

word_stepped : (fin : Parts) (line : ℕ) (p : Parts) (word : List ℕ) (ts : List Tok) (s : Reading) → outer_line line p word ts ≡ Ok s → OutStep fin line p s (tok.Word word ∷ ts)
word_stepped fin line p word ts s h =
    by_keyword fin line p word (codes "UNIT") ts s _ _ (λ k.
    let u = bind_ok (unit_line p.units ts) _ s k in
    let same : between_images (and_unit p u.0) ≡ s = cc (u.2) in
    subst (λ (q : Reading). OutStep fin line p q (tok.Word (codes "UNIT") ∷ ts)) same (unchanged fin line p None (between_images (and_unit p u.0)) _ refl refl (unit_flag fin ts))) (
    by_keyword fin line p word (codes "INPUT") ts s _ _ (λ k.
    let i = bind_ok (input_line line ts) _ s k in
    let same : between_images (and_input p i.0) ≡ s = cc (i.2) in
    subst (λ (q : Reading). OutStep fin line p q (tok.Word (codes "INPUT") ∷ ts)) same (input_stepped fin line p ts i.0 i.1)) (
    by_keyword fin line p word (codes "FAULT") ts s _ _ (λ k.
    let f = bind_ok (fault_line line p.faults ts) _ s k in
    let same : between_images (and_fault p f.0) ≡ s = cc (f.2) in
    subst (λ (q : Reading). OutStep fin line p q (tok.Word (codes "FAULT") ∷ ts)) same (fault_stepped fin line p ts f.0 f.1)) (
    by_keyword fin line p word (codes "IMAGE") ts s _ _ (λ k.
    let i = bind_ok (image_line p.images ts) _ s k in
    let same : goes_on p i.0 ≡ s = cc (i.2) in
    subst (λ (q : Reading). OutStep fin line p q (tok.Word (codes "IMAGE") ∷ ts)) same (image_stepped fin line p ts i.0 i.1)) (
    by_keyword fin line p word (codes "PROCESS") ts s _ _ (λ k.
    let d = bind_ok (process_line line p.decls ts) _ s k in
    let same : between_images (and_decl p d.0) ≡ s = cc (d.2) in
    subst (λ (q : Reading). OutStep fin line p q (tok.Word (codes "PROCESS") ∷ ts)) same (process_stepped fin line p ts d.0 d.1))
    (λ k. absurd (cc)))))) h

outside_stepped : (fin : Parts) (line : ℕ) (p : Parts) (ts : List Tok) (s : Reading) → outside line p ts ≡ Ok s → OutStep fin line p s ts
unfolding outside
outside_stepped fin line p [] s h =
    let same : between_images p ≡ s = cc in
    subst (λ (q : Reading). OutStep fin line p q []) same (unchanged fin line p None (between_images p) false refl refl refl)
outside_stepped fin line p (tok.Word word ∷ ts) s h = word_stepped fin line p word ts s h
outside_stepped fin line p (tok.Num n ∷ ts) s h = absurd (cc)
outside_stepped fin line p (tok.Cond c ∷ ts) s h = absurd (cc)
outside_stepped fin line p (tok.Sign c ∷ ts) s h = absurd (cc)
outside_stepped fin line p (tok.Service c ∷ ts) s h = absurd (cc)
outside_stepped fin line p (tok.Quote c ∷ ts) s h = absurd (cc)

-- Lines of an image.

as_flag : (fin : Parts) (line : ℕ) (p : Parts) (current : Option DraftImage) (s : Reading) (t u : Bool) → t ≡ u → Stepped fin line p current s t → Stepped fin line p current s u
as_flag fin line p current s t u e h = subst (λ (b : Bool). Stepped fin line p current s b) e h

labels_same : (name : List ℕ) (images : List Image) → labels_of name (map ended_of images) ≡ map (λ (l : Label). l.name) (final images name)
labels_same name [] = refl
labels_same name (i ∷ images) = by (bytes_eq name i.name) (labels_same name images)
  where
    by : (t : Bool) → labels_of name (map ended_of images) ≡ map (λ (l : Label). l.name) (final images name)
        → cond t (map (λ (l : Label). l.name) i.labels) (labels_of name (map ended_of images)) ≡ map (λ (l : Label). l.name) (cond t i.labels (final images name))
    by true h = refl
    by false h = h

label_there : (labels : List Label) (name : List ℕ) → is_label labels name ≡ is_among name (map (λ (l : Label). l.name) labels)
label_there labels name = has_place (λ (l : Label). bytes_eq name l.name) labels ∙ sym (any_map (bytes_eq name) (λ (l : Label). l.name) labels)

arg_flag : (labels : List Label) (a : Arg) → arg_names_none labels a ≡ label_unknown (map (λ (l : Label). l.name) labels) a
arg_flag labels (arg.Label (Some name)) = ap not (label_there labels name)
arg_flag labels (arg.Label None) = refl
arg_flag labels _ = refl

args_flag : (labels : List Label) (args : List Arg) → list_any (arg_names_none labels) args ≡ list_any (label_unknown (map (λ (l : Label). l.name) labels)) args
args_flag labels [] = refl
args_flag labels (a ∷ args) =
    ap (λ (t : Bool). t || list_any (arg_names_none labels) args) (arg_flag labels a)
    ∙ ap (λ (t : Bool). label_unknown (map (λ (l : Label). l.name) labels) a || t) (args_flag labels args)

made_flag : (decls : List DeclLine) (line : ℕ) (service : Service) (a : Arg) → list_any (names_no_decl decls) (created_by line service a) || false ≡ not (has_its_decl (map (λ (d : DeclLine). d.name) decls) service a)
made_flag decls line CrePrc (arg.Name name) =
    or-false (is_none (decl_place name decls) || false) ∙ or-false (is_none (decl_place name decls))
    ∙ sym (nowhere (λ (d : DeclLine). d.name) name decls (decl_place name decls) (has_place (λ (d : DeclLine). bytes_eq name d.name) decls))
made_flag decls line CrePrc _ = refl
made_flag decls line _ a = refl

goes_flag : (labels : List Label) (label : List ℕ) → not (is_label labels label) || false ≡ not (is_among label (map (λ (l : Label). l.name) labels))
goes_flag labels label = or-false (not (is_label labels label)) ∙ ap not (label_there labels label)

draft_flag : (fin : Parts) (line : ℕ) (labels : List Label) (d : Draft) → draft_names_none labels d || (list_any (names_no_decl fin.decls) (created_in line d) || false)
    ≡ draft_unknown (all_of fin) (map (λ (l : Label). l.name) labels) (Ok d)
draft_flag fin line labels (draft.Goto label) = goes_flag labels label
draft_flag fin line labels (draft.If x r y label) = goes_flag labels label
draft_flag fin line labels (draft.Plain (stmt.Service c)) =
    ap (λ (t : Bool). call_names_none labels c || t) (made_flag fin.decls line c.service c.args.a1)
    ∙ ap (λ (t : Bool). t || not (has_its_decl (map (λ (d : DeclLine). d.name) fin.decls) c.service c.args.a1)) (args_flag labels (args_list c.args))
draft_flag fin line labels (draft.Plain (stmt.Let v x)) = refl
draft_flag fin line labels (draft.Plain (stmt.Add v x y)) = refl
draft_flag fin line labels (draft.Plain (stmt.Sub v x y)) = refl
draft_flag fin line labels (draft.Plain (stmt.Goto k)) = refl
draft_flag fin line labels (draft.Plain (stmt.If x r y k)) = refl
draft_flag fin line labels (draft.Plain (stmt.Put b text)) = refl
draft_flag fin line labels (draft.Plain (stmt.Byte v b x)) = refl
draft_flag fin line labels (draft.Plain (stmt.Iosb v i f)) = refl
draft_flag fin line labels (draft.Plain stmt.Return) = refl

made_nothing : (fin : Parts) (xs : List Creation) → made_at fin (xs ++ []) ≡ made_at fin xs
made_nothing fin xs = ap (made_at fin) (append-nil xs)

made_push : (fin : Parts) (xs : List Creation) (line : ℕ) (service : Service) (a : Arg) → made_at fin (xs ++ created_by line service a) ≡ mark line (list_any (names_no_decl fin.decls) (created_by line service a)) (made_at fin xs)
made_push fin xs line CrePrc (arg.Name name) =
    let c : Creation = record { line = line; name = name } in
    found_push (names_no_decl fin.decls) (λ (c : Creation). c.line) xs c ∙ ap (λ (t : Bool). mark line t (made_at fin xs)) (sym (or-false (names_no_decl fin.decls c)))
made_push fin xs line CrePrc _ = made_nothing fin xs
made_push fin xs line _ a = made_nothing fin xs

draft_push : (fin : Parts) (xs : List Creation) (line : ℕ) (d : Draft) → made_at fin (xs ++ created_in line d) ≡ mark line (list_any (names_no_decl fin.decls) (created_in line d)) (made_at fin xs)
draft_push fin xs line (draft.Plain (stmt.Service c)) = made_push fin xs line c.service c.args.a1
draft_push fin xs line (draft.Plain (stmt.Let v x)) = made_nothing fin xs
draft_push fin xs line (draft.Plain (stmt.Add v x y)) = made_nothing fin xs
draft_push fin xs line (draft.Plain (stmt.Sub v x y)) = made_nothing fin xs
draft_push fin xs line (draft.Plain (stmt.Goto k)) = made_nothing fin xs
draft_push fin xs line (draft.Plain (stmt.If x r y k)) = made_nothing fin xs
draft_push fin xs line (draft.Plain (stmt.Put b text)) = made_nothing fin xs
draft_push fin xs line (draft.Plain (stmt.Byte v b x)) = made_nothing fin xs
draft_push fin xs line (draft.Plain (stmt.Iosb v i f)) = made_nothing fin xs
draft_push fin xs line (draft.Plain stmt.Return) = made_nothing fin xs
draft_push fin xs line (draft.Goto label) = made_nothing fin xs
draft_push fin xs line (draft.If x r y label) = made_nothing fin xs

one_draft : (fin : Parts) (line : ℕ) (p : Parts) (image : DraftImage) (d : Draft)
    → Stepped fin line p (Some image) (goes_on p (with_draft line image d)) (draft_unknown (all_of fin) (labels_of image.name (map ended_of fin.images)) (Ok d))
one_draft fin line p image d =
    let labels = final fin.images image.name in
    let one : DraftLine = record { line = line; draft = d } in
    let t = draft_names_none labels d in
    let u = list_any (names_no_decl fin.decls) (created_in line d) in
    let os = firsts fin p (Some image) in
    let qs = firsts fin p (Some (with_draft line image d)) in
    let ms = false ∷ t ∷ u ∷ [] in
    let old = creations_of image.lines in
    let made : creations_of (image.lines ++ one ∷ []) ≡ old ++ created_in line d =
    sym (append-nil _) ∙ flat_pushed creation_of image.lines one [] ∙ ap (λ (cs : List Creation). old ++ cs) (append-nil (created_in line d)) in
    let all : p.creations ++ creations_of (image.lines ++ one ∷ []) ≡ (p.creations ++ old) ++ created_in line d =
    ap (λ (cs : List Creation). p.creations ++ cs) made ∙ sym (append_assoc p.creations old (created_in line d)) in
    let creations : made_at fin (p.creations ++ creations_of (image.lines ++ one ∷ [])) ≡ mark line u (made_at fin (p.creations ++ old)) =
    ap (made_at fin) all ∙ draft_push fin (p.creations ++ old) line d in
    let gone : gone_to labels (image.lines ++ one ∷ []) ≡ mark line t (gone_to labels image.lines) = found_push (names_no_label labels) (λ (d : DraftLine). d.line) image.lines one in
    let same : marked line ms os ≡ qs =
    ap (λ (o : Option ℕ). p.unlabelled ∷ o ∷ mark line u (made_at fin (p.creations ++ old)) ∷ run_at fin p.decls ∷ fed_at fin p.inputs ∷ failed_at fin p.faults ∷ []) (sym gone)
    ∙ ap (λ (o : Option ℕ). p.unlabelled ∷ gone_to labels (image.lines ++ one ∷ []) ∷ o ∷ run_at fin p.decls ∷ fed_at fin p.inputs ∷ failed_at fin p.faults ∷ []) (sym creations) in
    let flag : any_of ms ≡ draft_unknown (all_of fin) (labels_of image.name (map ended_of fin.images)) (Ok d) =
    draft_flag fin line labels d ∙ ap (λ (ns : List (List ℕ)). draft_unknown (all_of fin) ns (Ok d)) (sym (labels_same image.name fin.images)) in
    record {
      images = ([], sym (append-nil p.images));
      moves = λ rest all. subst (λ (b : Bool). Moves line b os qs) flag (subst (λ (qs : List (Option ℕ)). Moves line (any_of ms) os qs) same (marks ms os tt));
    }

statement_stepped : (fin : Parts) (line : ℕ) (p : Parts) (image more : DraftImage) (ts : List Tok) → with_stmt line image ts ≡ Ok more
    → Stepped fin line p (Some image) (goes_on p more) (statement_unknown (all_of fin) (open_of image) ts)
statement_stepped fin line p image more [] h =
    subst (λ (m : DraftImage). Stepped fin line p (Some image) (goes_on p m) false) (let e : image ≡ more = cc in e) (unchanged fin line p (Some image) (goes_on p image) false refl refl refl)
statement_stepped fin line p image more (t ∷ ts) h =
    let d = bind_ok (stmt_of t ts) _ more h in
    let r = bind_ok (room_for 10000 (length image.lines)) _ more d.2 in
    let e : with_draft line image d.0 ≡ more = cc (r.2) in
    subst (λ (m : DraftImage). Stepped fin line p (Some image) (goes_on p m) (statement_unknown (all_of fin) (open_of image) (t ∷ ts))) e (
    as_flag fin line p (Some image) (goes_on p (with_draft line image d.0)) _ _ (ap (draft_unknown (all_of fin) (labels_of image.name (map ended_of fin.images))) (sym d.1)) (one_draft fin line p image d.0))

behind_label : (fin : Parts) (line : ℕ) (p : Parts) (image more : DraftImage) (name : List ℕ) (ts : List Tok) → labelled line image name ts ≡ Ok more
    → Stepped fin line p (Some image) (goes_on p more) (statement_unknown (all_of fin) (open_of image) ts)
behind_label fin line p image more name ts h =
    let f = bind_ok (unused_name (label_place name image.labels) name) _ more h in
    let st = statement_stepped fin line p (with_label image name) more ts f.2 in
    record { images = st.images; moves = st.moves }

going : (fin : Parts) (line : ℕ) (p : Parts) (image : DraftImage) (m : Result DraftImage FaultKind) (s : Reading) (t : Bool) → going_on p m ≡ Ok s
    → ((more : DraftImage) → m ≡ Ok more → Stepped fin line p (Some image) (goes_on p more) t) → Stepped fin line p (Some image) s t
going fin line p image (Ok more) s t h k =
    let e : goes_on p more ≡ s = cc in
    subst (λ (q : Reading). Stepped fin line p (Some image) q t) e (k more refl)
going fin line p image (Err kind) s t h k = absurd (cc)

-- END

final_is : (images : List Image) (i : Image) (rest : List Image) → is_among i.name (map (λ (i : Image). i.name) images) ≡ false → final ((images ++ i ∷ []) ++ rest) i.name ≡ i.labels
final_is [] i rest h = ap (λ (t : Bool). cond t i.labels (final rest i.name)) (same_bytes i.name)
final_is (j ∷ images) i rest h =
    let p = or_parts (bytes_eq i.name j.name) _ h in
    ap (λ (t : Bool). cond t j.labels (final ((images ++ i ∷ []) ++ rest) i.name)) p.0 ∙ final_is images i rest p.1

end_stepped : (fin : Parts) (line : ℕ) (p : Parts) (image : DraftImage) → IsOpen p.images image → Stepped fin line p (Some image) (between_images (with_image p image)) false
end_stepped fin line p image o = record {
  images = (image_of image ∷ [], refl);
  moves = λ rest all.
      let labels : final fin.images image.name ≡ image.labels = ap (λ (is : List Image). final is image.name) all ∙ final_is p.images (image_of image) rest o.new in
      let lines = made_at fin (p.creations ++ creations_of image.lines) ∷ run_at fin p.decls ∷ fed_at fin p.inputs ∷ failed_at fin p.faults ∷ [] in
      subst (λ (ls : List Label). Moves line false (firsts fin p (Some image)) (least_line p.unlabelled (gone_to ls image.lines) ∷ None ∷ lines)) labels
      (ends p.unlabelled (gone_to (final fin.images image.name) image.lines) lines);
}

end_flag : (fin : Parts) (image : DraftImage) → false ≡ inside_unknown (all_of fin) (open_of image) (tok.Word (codes "END") ∷ [])
unfolding local_stmt
end_flag fin image = refl

word_inside : (fin : Parts) (line : ℕ) (p : Parts) (image : DraftImage) (word : List ℕ) (ts : List Tok) (s : Reading) → IsOpen p.images image → word_line line p image word (tok.Word word ∷ ts) ≡ Ok s
    → Stepped fin line p (Some image) s (inside_unknown (all_of fin) (open_of image) (tok.Word word ∷ ts))
word_inside fin line p image word ts s o h =
    let all = all_of fin in
    let i = open_of image in
    either_by {A = Result Reading FaultKind} (λ q. q ≡ Ok s → Stepped fin line p (Some image) s (inside_unknown all i (tok.Word word ∷ ts))) (begins_with_sign 58 ts) _ _
    (λ e k. as_flag fin line p (Some image) s _ _ (ap (λ (t : Bool). cond t (statement_unknown all i (drop 1 ts)) (statement_unknown all i (tok.Word word ∷ ts))) (sym e))
    (going fin line p image (labelled line image word (drop 1 ts)) s _ k λ more m. behind_label fin line p image more word (drop 1 ts) m))
    (λ none. either_by {A = Result Reading FaultKind} (λ q. q ≡ Ok s → Stepped fin line p (Some image) s (inside_unknown all i (tok.Word word ∷ ts))) (bytes_eq word (codes "END")) _ _
    (λ e k.
    let end = bind_ok (end_at ts) _ s k in
    let nothing = end_is 0 ts end.0 end.1 in
    let same : between_images (with_image p image) ≡ s = cc (end.2) in
    let shape : tok.Word (codes "END") ∷ [] ≡ tok.Word word ∷ ts = ap (λ (w : List ℕ). tok.Word w ∷ []) (sym (bytes_are word (codes "END") e)) ∙ ap (λ (us : List Tok). tok.Word word ∷ us) (sym nothing) in
    subst (λ (q : Reading). Stepped fin line p (Some image) q (inside_unknown all i (tok.Word word ∷ ts))) same (
    as_flag fin line p (Some image) _ false _ (end_flag fin image ∙ ap (inside_unknown all i) shape) (end_stepped fin line p image o)))
    (λ _ k. as_flag fin line p (Some image) s _ _ (ap (λ (t : Bool). cond t (statement_unknown all i (drop 1 ts)) (statement_unknown all i (tok.Word word ∷ ts))) (sym none))
    (going fin line p image (with_stmt line image (tok.Word word ∷ ts)) s _ k λ more m. statement_stepped fin line p image more (tok.Word word ∷ ts) m))) h

alone : (fin : Parts) (line : ℕ) (p : Parts) (image : DraftImage) (ts : List Tok) (s : Reading) → going_on p (with_stmt line image ts) ≡ Ok s → Stepped fin line p (Some image) s (statement_unknown (all_of fin) (open_of image) ts)
alone fin line p image ts s h = going fin line p image (with_stmt line image ts) s _ h λ more m. statement_stepped fin line p image more ts m

inside_stepped : (fin : Parts) (line : ℕ) (p : Parts) (image : DraftImage) (ts : List Tok) (s : Reading) → IsOpen p.images image → inside line p image ts ≡ Ok s
    → Stepped fin line p (Some image) s (inside_unknown (all_of fin) (open_of image) ts)
inside_stepped fin line p image (tok.Word word ∷ ts) s o h = word_inside fin line p image word ts s o h
inside_stepped fin line p image [] s o h = alone fin line p image [] s h
inside_stepped fin line p image (tok.Num n ∷ ts) s o h = alone fin line p image (tok.Num n ∷ ts) s h
inside_stepped fin line p image (tok.Cond n ∷ ts) s o h = alone fin line p image (tok.Cond n ∷ ts) s h
inside_stepped fin line p image (tok.Sign n ∷ ts) s o h = alone fin line p image (tok.Sign n ∷ ts) s h
inside_stepped fin line p image (tok.Service n ∷ ts) s o h = alone fin line p image (tok.Service n ∷ ts) s h
inside_stepped fin line p image (tok.Quote n ∷ ts) s o h = alone fin line p image (tok.Quote n ∷ ts) s h

-- any line that is read
pub stepped : (fin : Parts) (line : ℕ) (p : Parts) (current : Option DraftImage) (ts : List Tok) (s : Reading) → IsOpenOr p.images current → by_place line p current ts ≡ Ok s
    → Stepped fin line p current s (names_unknown (declared_by fin None) (declared_by p current).image ts)
stepped fin line p None ts s o h = outside_stepped fin line p ts s h
stepped fin line p (Some image) ts s o h = inside_stepped fin line p image ts s o h
