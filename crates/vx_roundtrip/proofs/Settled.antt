-- The drafts of an image's statements settle to the statements.
use Rattle.std.proofs.Common.{◌≡◌, ℕ, Bool, true, false, not, List, [], ◌∷◌, length, map, nat_lt, Some, None, refl, sym, subst, ap, ◌∙◌}
use Rattle.std.specs.List.{AllByRecursion, list_all}
use Rattle.std.proofs.lemmas.Bool.{ltb-true, and_parts}
use Rattle.std.proofs.lemmas.List.Folds.{list_all-append, list_all-map}
use Rattle.vx_base.specs.Services.{is_call, is_operand, args_list}
use Rattle.vx_base.specs.declared.call.Arg.{Arg}
use Rattle.vx_base.specs.declared.call.Arg.TheVariants as arg
use Rattle.vx_base.specs.declared.service.Service.{Service}
use Rattle.vx_base.specs.declared.service.Service.TheVariants.{CrePrc}
use Rattle.vx_image.specs.Local.{no_label}
use Rattle.vx_image.specs.WellFormed.{is_among, are_distinct, is_stmt, label_names, has_its_label, has_its_decl}
use Rattle.vx_image.specs.declared.image.Image.{Image}
use Rattle.vx_image.specs.declared.image.Label.{Label}
use Rattle.vx_image.specs.declared.stmt.Stmt.{Stmt}
use Rattle.vx_image.specs.declared.stmt.Stmt.TheVariants as stmt
use Rattle.vx_script.specs.Resolving.{is_label, draft_names_none, names_no_label, first_unlabelled, settled, created_by, created_in, creation_of, creations_of}
use Rattle.vx_script.specs.Places.{label_place}
use Rattle.vx_script.specs.Script.{label_name}
use Rattle.vx_script.specs.declared.draft.Draft.{Draft}
use Rattle.vx_script.specs.declared.draft.DraftLine.{DraftLine}
use Rattle.vx_script.specs.declared.lines.Creation.{Creation}
use Rattle.vx_roundtrip.proofs.Bodies.{drafts_of}
use Rattle.vx_roundtrip.proofs.Names.{placed_at, placed_somewhere}
use Rattle.vx_roundtrip.proofs.Stmts.{draft_of}
use Rattle.vx_roundtrip.proofs.Told.{are_created}
use Rattle.vx_grammar.proofs.LinesBack.{none_found}
use Rattle.vx_grammar.proofs.ReadStatements.{labels_there}

-- a label is found at its place
label_found : (labels : List Label) (k : ℕ) → nat_lt k (length labels) ≡ true → are_distinct (map (λ l. l.name) labels) ≡ true → label_place (label_name labels k) labels ≡ Some k
label_found labels k h apart = placed_at (λ (l : Label). l.name) labels k no_label (ltb-true _ _ h) apart

settled_one : (decls : List (List ℕ)) (image : Image) (s : Stmt) → are_distinct (label_names image) ≡ true → is_stmt decls image s ≡ true → settled image.labels (draft_of image.labels s) ≡ s
settled_one decls image (stmt.Goto k) apart h = rw (label_found image.labels k h apart) refl
settled_one decls image (stmt.If x r y k) apart h = rw (label_found image.labels k (and_parts (is_operand y) _ (and_parts (is_operand x) _ h).1).1 apart) refl
settled_one decls image (stmt.Let t x) apart h = refl
settled_one decls image (stmt.Add t x y) apart h = refl
settled_one decls image (stmt.Sub t x y) apart h = refl
settled_one decls image (stmt.Put b bytes) apart h = refl
settled_one decls image (stmt.Byte t b x) apart h = refl
settled_one decls image (stmt.Iosb t i f) apart h = refl
settled_one decls image stmt.Return apart h = refl
settled_one decls image (stmt.Service c) apart h = refl

settled_all : (decls : List (List ℕ)) (image : Image) (stmts : List Stmt) → are_distinct (label_names image) ≡ true → list_all (is_stmt decls image) stmts ≡ true → map (settled image.labels) (map (draft_of image.labels) stmts) ≡ stmts
settled_all decls image [] apart h = refl
settled_all decls image (s ∷ stmts) apart h =
    let p = and_parts (is_stmt decls image s) _ h in
    rw (settled_one decls image s apart p.0, settled_all decls image stmts apart p.1) refl

settled_through : (labels : List Label) (lines : List DraftLine) → map (λ d. settled labels d.draft) lines ≡ map (settled labels) (drafts_of lines)
settled_through labels [] = refl
settled_through labels (d ∷ lines) = ap (λ (ss : List Stmt). settled labels d.draft ∷ ss) (settled_through labels lines)

pub settled_back : (decls : List (List ℕ)) (image : Image) (lines : List DraftLine) → are_distinct (label_names image) ≡ true → list_all (is_stmt decls image) image.stmts ≡ true → drafts_of lines ≡ map (draft_of image.labels) image.stmts → map (λ d. settled image.labels d.draft) lines ≡ image.stmts
settled_back decls image lines apart h e = settled_through image.labels lines ∙ ap (map (settled image.labels)) e ∙ settled_all decls image image.stmts apart h

-- No statement names a label that is not there.

is_there : (labels : List Label) (name : List ℕ) → is_among name (map (λ l. l.name) labels) ≡ true → is_label labels name ≡ true
is_there labels name h = rw (placed_somewhere (λ (l : Label). l.name) name labels h) refl

stmt_named : (decls : List (List ℕ)) (image : Image) (s : Stmt) → are_distinct (label_names image) ≡ true → is_stmt decls image s ≡ true → draft_names_none image.labels (draft_of image.labels s) ≡ false
stmt_named decls image (stmt.Goto k) apart h = rw (label_found image.labels k h apart) refl
stmt_named decls image (stmt.If x r y k) apart h = rw (label_found image.labels k (and_parts (is_operand y) _ (and_parts (is_operand x) _ h).1).1 apart) refl
stmt_named decls image (stmt.Let t x) apart h = refl
stmt_named decls image (stmt.Add t x y) apart h = refl
stmt_named decls image (stmt.Sub t x y) apart h = refl
stmt_named decls image (stmt.Put b bytes) apart h = refl
stmt_named decls image (stmt.Byte t b x) apart h = refl
stmt_named decls image (stmt.Iosb t i f) apart h = refl
stmt_named decls image stmt.Return apart h = refl
stmt_named decls image (stmt.Service c) apart h = labels_there image (args_list c.args) (and_parts (list_all (has_its_label image) (args_list c.args)) _ (and_parts (is_call c) _ h).1).0

abbrev names_one : List Label → Draft → Bool
names_one labels d = not (draft_names_none labels d)

all_named : (decls : List (List ℕ)) (image : Image) (stmts : List Stmt) → are_distinct (label_names image) ≡ true → list_all (is_stmt decls image) stmts ≡ true → list_all (names_one image.labels) (map (draft_of image.labels) stmts) ≡ true
all_named decls image [] apart h = refl
all_named decls image (s ∷ stmts) apart h =
    let p = and_parts (is_stmt decls image s) _ h in
    rw (stmt_named decls image s apart p.0, all_named decls image stmts apart p.1) refl

pub none_unlabelled : (decls : List (List ℕ)) (image : Image) (lines : List DraftLine) → are_distinct (label_names image) ≡ true → list_all (is_stmt decls image) image.stmts ≡ true → drafts_of lines ≡ map (draft_of image.labels) image.stmts → first_unlabelled (record { name = image.name; labels = image.labels; lines = lines }) ≡ None
none_unlabelled decls image lines apart h e =
    let all = sym (list_all-map (names_one image.labels) (λ (d : DraftLine). d.draft) lines) ∙ ap (list_all (names_one image.labels)) e ∙ all_named decls image image.stmts apart h in
    rw (none_found (names_no_label image.labels) lines all) refl

-- What statements create is declared.

abbrev is_made : List (List ℕ) → List Creation → Bool
is_made names creations = list_all (λ c. is_among c.name names) creations

made_by : (names : List (List ℕ)) (s : Service) (a : Arg) → has_its_decl names s a ≡ true → (line : ℕ) → is_made names (created_by line s a) ≡ true
made_by names CrePrc (arg.Name name) h line = rw h refl
made_by names CrePrc (arg.Value x) h line = refl
made_by names CrePrc (arg.Target t) h line = refl
made_by names CrePrc (arg.Mode m) h line = refl
made_by names CrePrc (arg.Label l) h line = refl
made_by names CrePrc (arg.Func f) h line = refl
made_by names CrePrc arg.Unused h line = refl
made_by names _ a h line = refl

abbrev makes : List (List ℕ) → Draft → Type 0
makes names d = (line : ℕ) → is_made names (created_in line d) ≡ true

stmt_makes : (names : List (List ℕ)) (image : Image) (s : Stmt) → is_stmt names image s ≡ true → makes names (draft_of image.labels s)
stmt_makes names image (stmt.Service c) h = made_by names c.service c.args.a1 (and_parts (list_all (has_its_label image) (args_list c.args)) _ (and_parts (is_call c) _ h).1).1
stmt_makes names image (stmt.Goto k) h = λ line. refl
stmt_makes names image (stmt.If x r y k) h = λ line. refl
stmt_makes names image (stmt.Let t x) h = λ line. refl
stmt_makes names image (stmt.Add t x y) h = λ line. refl
stmt_makes names image (stmt.Sub t x y) h = λ line. refl
stmt_makes names image (stmt.Put b bytes) h = λ line. refl
stmt_makes names image (stmt.Byte t b x) h = λ line. refl
stmt_makes names image (stmt.Iosb t i f) h = λ line. refl
stmt_makes names image stmt.Return h = λ line. refl

all_make : (names : List (List ℕ)) (image : Image) (stmts : List Stmt) → list_all (is_stmt names image) stmts ≡ true → AllByRecursion (makes names) (map (draft_of image.labels) stmts)
all_make names image [] h = tt
all_make names image (s ∷ stmts) h =
    let p = and_parts (is_stmt names image s) _ h in
    (stmt_makes names image s p.0, all_make names image stmts p.1)

lines_make : (names : List (List ℕ)) (lines : List DraftLine) → AllByRecursion (makes names) (drafts_of lines) → is_made names (creations_of lines) ≡ true
lines_make names [] h = refl
lines_make names (d ∷ lines) h = list_all-append (λ c. is_among c.name names) (creation_of d) (creations_of lines) ∙ rw (h.0 d.line, lines_make names lines h.1) refl

pub made_back : (names : List (List ℕ)) (image : Image) (lines : List DraftLine) → list_all (is_stmt names image) image.stmts ≡ true → drafts_of lines ≡ map (draft_of image.labels) image.stmts → are_created names (creations_of lines)
made_back names image lines h e = lines_make names lines (subst (λ (ds : List Draft). AllByRecursion (makes names) ds) (sym e) (all_make names image image.stmts h))
