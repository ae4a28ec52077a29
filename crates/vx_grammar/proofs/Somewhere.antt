-- What is read as a statement is spelled as one of some image, which has the labels that it names.
use Rattle.std.proofs.Common.{◌≡◌, ℕ, ◌||◌, not, true, false, nat_lt, List, [], ◌∷◌, ◌++◌, map, Some, None, Ok, bytes_eq, refl, ap, ◌∙◌, unwrap_or}
use Rattle.std.specs.List.{list_all}
use Rattle.std.proofs.lemmas.Bool.{and_parts, and_from, or_right, or_left}
use Rattle.std.proofs.lemmas.Result.{IfOk-at_ok}
use Rattle.std.proofs.lemmas.List.Folds.{list_any-append}
use Rattle.std.proofs.lemmas.List.{map-append}
use Rattle.vx_base.specs.declared.call.Arg.{Arg}
use Rattle.vx_base.specs.declared.call.Arg.TheVariants as arg
use Rattle.vx_base.specs.declared.call.Call.{Call}
use Rattle.vx_base.specs.declared.service.Service.{Service}
use Rattle.vx_base.specs.declared.service.Service.TheVariants.{CrePrc}
use Rattle.vx_base.specs.Services.{is_call, is_operand, args_list}
use Rattle.vx_image.specs.declared.image.Image.{Image}
use Rattle.vx_image.specs.declared.image.Label.{Label}
use Rattle.vx_image.specs.declared.stmt.Stmt.{Stmt}
use Rattle.vx_image.specs.declared.stmt.Stmt.TheVariants as stmt
use Rattle.vx_image.specs.WellFormed.{is_among, has_its_label, has_its_decl, is_stmt, label_names}
use Rattle.vx_text.specs.declared.token.Tok.{Tok}
use Rattle.vx_script.specs.Resolving.{is_label, settled, draft_names_none}
use Rattle.vx_script.specs.Places.{label_place}
use Rattle.vx_script.specs.Statements.{stmt_of}
use Rattle.vx_script.specs.declared.draft.Draft.{Draft}
use Rattle.vx_script.specs.declared.draft.Draft.TheVariants as draft
use Rattle.vx_script.proofs.InRange.{is_plain, is_draft, IsDraft, statement}
use Rattle.vx_script.proofs.Places.{has_place, placed}
use Rattle.vx_grammar.specs.Grammar.{Statement}
use Rattle.vx_grammar.proofs.ReadStatements.{labels_there}
use Rattle.vx_grammar.proofs.Statements.{stmt_spelled}
use Rattle.vx_base.proofs.Texts.{same_bytes}

-- an image with these labels
abbrev with_labels : List Label → Image
with_labels labels = record { name = []; labels = labels; stmts = [] }

abbrev label_of : List ℕ → Label
label_of name = record { name = name; place = 0 }

-- tokens are a statement, of some image
pub record SomeStatement (ts : List Tok) : Type 0 where
  pub decls : List (List ℕ)
  pub image : Image
  pub s : Stmt
  pub is : Statement decls image ts s

-- One label.

its_label : (name : List ℕ) → is_label (label_of name ∷ []) name ≡ true
its_label name = has_place (λ (l : Label). bytes_eq name l.name) (label_of name ∷ []) ∙ or_left (bytes_eq name name) false (same_bytes name)

goes_there : (name : List ℕ) → nat_lt (unwrap_or (label_place name (label_of name ∷ [])) 0) 1 ≡ true
goes_there name = placed (λ (l : Label). bytes_eq name l.name) (label_of name ∷ []) (its_label name)

-- The labels of a call.

abbrev label_in : Arg → List Label
label_in (arg.Label (Some name)) = label_of name ∷ []
label_in _ = []

abbrev labels_in_args : List Arg → List Label
labels_in_args [] = []
labels_in_args (a ∷ args) = label_in a ++ labels_in_args args

among_both : (name : List ℕ) (xs ys : List Label) → is_among name (label_names (with_labels (xs ++ ys))) ≡ (is_among name (label_names (with_labels xs)) || is_among name (label_names (with_labels ys)))
among_both name xs ys = ap (is_among name) (map-append (λ (l : Label). l.name) xs ys) ∙ list_any-append (bytes_eq name) (map (λ (l : Label). l.name) xs) (map (λ (l : Label). l.name) ys)

-- labels in front of others change nothing
still_has : (xs ys : List Label) (a : Arg) → has_its_label (with_labels ys) a ≡ true → has_its_label (with_labels (xs ++ ys)) a ≡ true
still_has xs ys (arg.Label (Some name)) h = among_both name xs ys ∙ or_right (is_among name (label_names (with_labels xs))) (is_among name (label_names (with_labels ys))) h
still_has xs ys (arg.Label None) h = refl
still_has xs ys (arg.Value x) h = refl
still_has xs ys _ h = refl

all_still_have : (xs ys : List Label) (args : List Arg) → list_all (has_its_label (with_labels ys)) args ≡ true → list_all (has_its_label (with_labels (xs ++ ys))) args ≡ true
all_still_have xs ys [] h = refl
all_still_have xs ys (a ∷ args) h =
    let p = and_parts (has_its_label (with_labels ys) a) (list_all (has_its_label (with_labels ys)) args) h in
    and_from (has_its_label (with_labels (xs ++ ys)) a) (list_all (has_its_label (with_labels (xs ++ ys))) args) (still_has xs ys a p.0) (all_still_have xs ys args p.1)

first_has : (a : Arg) (ys : List Label) → has_its_label (with_labels (label_in a ++ ys)) a ≡ true
first_has (arg.Label (Some name)) ys = or_left (bytes_eq name name) (is_among name (label_names (with_labels ys))) (same_bytes name)
first_has (arg.Label None) ys = refl
first_has (arg.Value x) ys = refl
first_has _ ys = refl

all_have : (args : List Arg) → list_all (has_its_label (with_labels (labels_in_args args))) args ≡ true
all_have [] = refl
all_have (a ∷ args) =
    and_from (has_its_label (with_labels (label_in a ++ labels_in_args args)) a) (list_all (has_its_label (with_labels (label_in a ++ labels_in_args args))) args)
    (first_has a (labels_in_args args)) (all_still_have (label_in a) (labels_in_args args) args (all_have args))

abbrev decl_in_arg : Arg → List (List ℕ)
decl_in_arg (arg.Name name) = name ∷ []
decl_in_arg _ = []

has_decl : (service : Service) (a : Arg) → has_its_decl (decl_in_arg a) service a ≡ true
has_decl CrePrc (arg.Name name) = or_left (bytes_eq name name) false (same_bytes name)
has_decl CrePrc _ = refl
has_decl _ a = refl

-- Any statement.

some_stmt : (t : Tok) (ts : List Tok) (d : Draft) (decls : List (List ℕ)) (labels : List Label) → stmt_of t ts ≡ Ok d → draft_names_none labels d ≡ false
    → is_stmt decls (with_labels labels) (settled labels d) ≡ true → SomeStatement (t ∷ ts)
some_stmt t ts d decls labels h k range = record { decls = decls; image = with_labels labels; s = settled labels d; is = stmt_spelled decls (with_labels labels) t ts d h k range }

some_call : (t : Tok) (ts : List Tok) (c : Call) → stmt_of t ts ≡ Ok (draft.Plain (stmt.Service c)) → is_call c ≡ true → SomeStatement (t ∷ ts)
some_call t ts c h call =
    let args = args_list c.args in
    let labels = labels_in_args args in
    let all = all_have args in
    some_stmt t ts (draft.Plain (stmt.Service c)) (decl_in_arg c.args.a1) labels h (labels_there (with_labels labels) args all)
    (and_from (is_call c) _ call (and_from (list_all (has_its_label (with_labels labels)) args) (has_its_decl (decl_in_arg c.args.a1) c.service c.args.a1) all (has_decl c.service c.args.a1)))

some_plain : (t : Tok) (ts : List Tok) (s : Stmt) → stmt_of t ts ≡ Ok (draft.Plain s) → is_plain s ≡ true → SomeStatement (t ∷ ts)
some_plain t ts (stmt.Service c) h range = some_call t ts c h range
some_plain t ts (stmt.Goto k) h range = absurd (cc)
some_plain t ts (stmt.If x r y k) h range = absurd (cc)
some_plain t ts (stmt.Let v x) h range = some_stmt t ts (draft.Plain (stmt.Let v x)) [] [] h refl range
some_plain t ts (stmt.Add v x y) h range = some_stmt t ts (draft.Plain (stmt.Add v x y)) [] [] h refl range
some_plain t ts (stmt.Sub v x y) h range = some_stmt t ts (draft.Plain (stmt.Sub v x y)) [] [] h refl range
some_plain t ts (stmt.Put b bytes) h range = some_stmt t ts (draft.Plain (stmt.Put b bytes)) [] [] h refl range
some_plain t ts (stmt.Byte v b x) h range = some_stmt t ts (draft.Plain (stmt.Byte v b x)) [] [] h refl range
some_plain t ts (stmt.Iosb v i f) h range = some_stmt t ts (draft.Plain (stmt.Iosb v i f)) [] [] h refl range
some_plain t ts stmt.Return h range = some_stmt t ts (draft.Plain stmt.Return) [] [] h refl refl

some_draft : (t : Tok) (ts : List Tok) (d : Draft) → stmt_of t ts ≡ Ok d → is_draft d ≡ true → SomeStatement (t ∷ ts)
some_draft t ts (draft.Goto name) h range = some_stmt t ts (draft.Goto name) [] (label_of name ∷ []) h (ap not (its_label name)) (goes_there name)
some_draft t ts (draft.If x r y name) h range =
    let p = and_parts (is_operand x) (is_operand y) range in
    some_stmt t ts (draft.If x r y name) [] (label_of name ∷ []) h (ap not (its_label name)) (and_from (is_operand x) _ p.0 (and_from (is_operand y) _ p.1 (goes_there name)))
some_draft t ts (draft.Plain s) h range = some_plain t ts s h range

-- what is read as a statement is spelled as one, of some image
pub some_statement : (t : Tok) (ts : List Tok) (d : Draft) → stmt_of t ts ≡ Ok d → SomeStatement (t ∷ ts)
some_statement t ts d h = some_draft t ts d h (IfOk-at_ok IsDraft h (statement t ts))
