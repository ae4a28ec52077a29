-- Statements: what is read of their tokens is what the grammar says, and the other way round.
use Rattle.std.proofs.Common.{◌≡◌, ℕ, not, true, false, cond, nat_lt, List, [], ◌∷◌, drop, codes, Option, Some, None, is_some, Result, Ok, Err, bytes_eq, refl, sym, subst, ap, ◌∙◌, unwrap_or}
use Rattle.std.specs.List.{list_all}
use Rattle.std.proofs.lemmas.Bool.{and_parts}
use Rattle.vx_base.specs.declared.call.Call.{Call}
use Rattle.vx_base.specs.declared.call.Operand.{Operand}
use Rattle.vx_base.specs.declared.call.Target.{Target}
use Rattle.vx_base.specs.Services.{service_name, service_rows, is_call, is_operand, is_target, args_list}
use Rattle.vx_image.specs.declared.image.Image.{Image}
use Rattle.vx_image.specs.declared.stmt.Field.{Field}
use Rattle.vx_image.specs.declared.stmt.Field.TheVariants as field
use Rattle.vx_image.specs.declared.stmt.Rel.{Rel}
use Rattle.vx_image.specs.declared.stmt.Rel.TheVariants as rel
use Rattle.vx_image.specs.declared.stmt.Stmt.TheVariants as stmt
use Rattle.vx_image.specs.WellFormed.{has_its_label, is_stmt}
use Rattle.vx_text.specs.declared.token.Tok.{Tok}
use Rattle.vx_text.specs.declared.token.Tok.TheVariants as tok
use Rattle.vx_table.specs.declared.fail.CallFail.{CallFail}
use Rattle.vx_table.specs.Reading.{read_call, pieces}
use Rattle.vx_table.specs.Spelling.{operand_token, target_token}
use Rattle.vx_script.specs.Fields.{end_at, is_sign, sign_at, word_at, name_at, number_at, text_at, operand_at, target_at}
use Rattle.vx_script.specs.Resolving.{settled, draft_names_none}
use Rattle.vx_script.specs.Places.{label_place}
use Rattle.vx_script.specs.Statements.{let_rest, let_stmt, goto_stmt, rel_name, rel_in, rel_at, if_stmt, put_stmt, byte_stmt, field_name, field_in, field_at, iosb_stmt, return_stmt, local_stmt, called, stmt_of}
use Rattle.vx_script.specs.declared.draft.Draft.{Draft}
use Rattle.vx_script.specs.declared.draft.Draft.TheVariants as draft
use Rattle.vx_script.specs.declared.fault.FaultKind.{FaultKind}
use Rattle.vx_script.specs.declared.fault.FaultKind.TheVariants as kind
use Rattle.vx_grammar.specs.Grammar.{between_commas, Statement, let_value, let_sum, let_difference, goto_label, if_goto, put_text, get_byte, get_iosb, returns, call_service}
use Rattle.vx_grammar.proofs.Fields.{bind_ok, found_name, end_is, sign_token, sign_found, word_found, name_found, number_found, text_found, operand_found, target_found, choice_found}
use Rattle.vx_grammar.proofs.Calls.{call_spelled, joined_pieces}
use Rattle.vx_base.proofs.Texts.{bytes_are}
use Rattle.vx_base.proofs.Bools.{either_by}

-- What is read is spelled: if the names are there, and the statement is in range.

abbrev Spelled : List (List ℕ) → Image → List Tok → Draft → Type 0
Spelled decls image ts d = draft_names_none image.labels d ≡ false → is_stmt decls image (settled image.labels d) ≡ true → Statement decls image ts (settled image.labels d)

abbrev drafted : Draft → Result Draft FaultKind
drafted d = Ok d

spelled : (decls : List (List ℕ)) (image : Image) (ts us : List Tok) (d e : Draft) → us ≡ ts → drafted d ≡ drafted e → Spelled decls image us d → Spelled decls image ts e
spelled decls image ts us d e same ok h =
    let drafts : d ≡ e = cc in
    subst (λ (x : Draft). Spelled decls image ts x) drafts (subst (λ (x : List Tok). Spelled decls image x d) same h)

-- LET

rest_spelled : (decls : List (List ℕ)) (image : Image) (tokens rest : List Tok) (v : Target) (x : Operand) (d : Draft)
    → tokens ≡ target_token v ∷ tok.Sign 61 ∷ operand_token x ∷ rest → let_rest v x rest ≡ Ok d → Spelled decls image (tok.Word (codes "LET") ∷ tokens) d
rest_spelled decls image tokens [] v x d e h =
    spelled decls image _ (tok.Word (codes "LET") ∷ target_token v ∷ tok.Sign 61 ∷ operand_token x ∷ []) (draft.Plain (stmt.Let v x)) d (ap (λ ts. tok.Word (codes "LET") ∷ ts) (sym e)) h
    λ _ range. let p = and_parts (is_target v) (is_operand x) range in let_value v x p.0 p.1
rest_spelled decls image tokens (t ∷ rest) v x d e h =
    either_by {A = Result Draft FaultKind} (λ r. r ≡ Ok d → Spelled decls image (tok.Word (codes "LET") ∷ tokens) d) (is_sign 43 t) _ _
    (λ sign k.
    let y = bind_ok (operand_at rest) _ d k in
    let end = bind_ok (end_at (drop 1 rest)) _ d y.2 in
    let a = operand_found 0 rest y.0 y.1 in
    let b = end_is 1 rest end.0 end.1 in
    let s = sign_token 43 t sign in
    let shape : rest ≡ operand_token y.0 ∷ [] = cc in
    spelled decls image _ (tok.Word (codes "LET") ∷ target_token v ∷ tok.Sign 61 ∷ operand_token x ∷ tok.Sign 43 ∷ operand_token y.0 ∷ []) (draft.Plain (stmt.Add v x y.0)) d (cc) end.2
    λ _ range. let p = and_parts (is_target v) _ range in let q = and_parts (is_operand x) (is_operand y.0) p.1 in let_sum v x y.0 p.0 q.0 q.1)
    (λ _. either_by {A = Result Draft FaultKind} (λ r. r ≡ Ok d → Spelled decls image (tok.Word (codes "LET") ∷ tokens) d) (is_sign 45 t) _ _
    (λ sign k.
    let y = bind_ok (operand_at rest) _ d k in
    let end = bind_ok (end_at (drop 1 rest)) _ d y.2 in
    let a = operand_found 0 rest y.0 y.1 in
    let b = end_is 1 rest end.0 end.1 in
    let s = sign_token 45 t sign in
    let shape : rest ≡ operand_token y.0 ∷ [] = cc in
    spelled decls image _ (tok.Word (codes "LET") ∷ target_token v ∷ tok.Sign 61 ∷ operand_token x ∷ tok.Sign 45 ∷ operand_token y.0 ∷ []) (draft.Plain (stmt.Sub v x y.0)) d (cc) end.2
    λ _ range. let p = and_parts (is_target v) _ range in let q = and_parts (is_operand x) (is_operand y.0) p.1 in let_difference v x y.0 p.0 q.0 q.1)
    (λ _ k. absurd (cc))) h

let_spelled : (decls : List (List ℕ)) (image : Image) (tokens : List Tok) (d : Draft) → let_stmt tokens ≡ Ok d → Spelled decls image (tok.Word (codes "LET") ∷ tokens) d
unfolding let_stmt
let_spelled decls image tokens d h =
    let v = bind_ok (target_at tokens) _ d h in
    let q = bind_ok (sign_at 61 (drop 1 tokens)) _ d v.2 in
    let x = bind_ok (operand_at (drop 2 tokens)) _ d q.2 in
    let a = target_found 0 tokens v.0 v.1 in
    let b = sign_found 1 61 tokens q.0 q.1 in
    let c = operand_found 2 tokens x.0 x.1 in
    rest_spelled decls image tokens (drop 3 tokens) v.0 x.0 d (cc) x.2

-- GOTO and IF

is_there : (o : Option ℕ) → not (is_some o) ≡ false → o ≡ Some (unwrap_or o 0)
is_there None h = absurd (cc)
is_there (Some k) h = refl

goto_spelled : (decls : List (List ℕ)) (image : Image) (tokens : List Tok) (d : Draft) → goto_stmt tokens ≡ Ok d → Spelled decls image (tok.Word (codes "GOTO") ∷ tokens) d
unfolding goto_stmt
goto_spelled decls image tokens d h =
    let l = bind_ok (name_at tokens) _ d h in
    let end = bind_ok (end_at (drop 1 tokens)) _ d l.2 in
    let a = name_found 0 tokens l.0 l.1 in
    let b = end_is 1 tokens end.0 end.1 in
    let shape : tokens ≡ tok.Word l.0 ∷ [] = cc in
    spelled decls image _ (tok.Word (codes "GOTO") ∷ tok.Word l.0 ∷ []) (draft.Goto l.0) d (cc) end.2
    λ known _. goto_label l.0 _ (is_there (label_place l.0 image.labels) known)

rel_token : (t : Tok) (r : Rel) → rel_in t ≡ Some r → t ≡ tok.Word (rel_name r)
rel_token (tok.Word w) r h = ap tok.Word (found_name rel_name (rel.Eq ∷ rel.Ne ∷ rel.Lt ∷ rel.Ge ∷ []) w r h)
rel_token (tok.Num n) r h = absurd (cc)
rel_token (tok.Cond c) r h = absurd (cc)
rel_token (tok.Sign s) r h = absurd (cc)
rel_token (tok.Service m) r h = absurd (cc)
rel_token (tok.Quote b) r h = absurd (cc)

if_spelled : (decls : List (List ℕ)) (image : Image) (tokens : List Tok) (d : Draft) → if_stmt tokens ≡ Ok d → Spelled decls image (tok.Word (codes "IF") ∷ tokens) d
unfolding if_stmt
if_spelled decls image tokens d h =
    let x = bind_ok (operand_at tokens) _ d h in
    let r = bind_ok (rel_at (drop 1 tokens)) _ d x.2 in
    let y = bind_ok (operand_at (drop 2 tokens)) _ d r.2 in
    let g = bind_ok (word_at (codes "GOTO") (drop 3 tokens)) _ d y.2 in
    let l = bind_ok (name_at (drop 4 tokens)) _ d g.2 in
    let end = bind_ok (end_at (drop 5 tokens)) _ d l.2 in
    let a0 = operand_found 0 tokens x.0 x.1 in
    let a1 = choice_found 1 kind.Word tokens rel_name rel_in r.0 (λ t. rel_token t r.0) r.1 in
    let a2 = operand_found 2 tokens y.0 y.1 in
    let a3 = word_found 3 (codes "GOTO") tokens g.0 g.1 in
    let a4 = name_found 4 tokens l.0 l.1 in
    let a5 = end_is 5 tokens end.0 end.1 in
    let shape : tokens ≡ operand_token x.0 ∷ tok.Word (rel_name r.0) ∷ operand_token y.0 ∷ tok.Word (codes "GOTO") ∷ tok.Word l.0 ∷ [] = cc in
    spelled decls image _ (tok.Word (codes "IF") ∷ operand_token x.0 ∷ tok.Word (rel_name r.0) ∷ operand_token y.0 ∷ tok.Word (codes "GOTO") ∷ tok.Word l.0 ∷ []) (draft.If x.0 r.0 y.0 l.0) d
    (ap (λ ts. tok.Word (codes "IF") ∷ ts) (sym shape)) end.2
    λ known range.
    let p = and_parts (is_operand x.0) _ range in
    let q = and_parts (is_operand y.0) _ p.1 in
    if_goto x.0 r.0 y.0 l.0 _ p.0 q.0 (is_there (label_place l.0 image.labels) known)

-- PUT, BYTE, IOSB and RETURN

put_spelled : (decls : List (List ℕ)) (image : Image) (tokens : List Tok) (d : Draft) → put_stmt tokens ≡ Ok d → Spelled decls image (tok.Word (codes "PUT") ∷ tokens) d
unfolding put_stmt
put_spelled decls image tokens d h =
    let b = bind_ok (number_at 0 31 tokens) _ d h in
    let x = bind_ok (text_at (drop 1 tokens)) _ d b.2 in
    let end = bind_ok (end_at (drop 2 tokens)) _ d x.2 in
    let a0 = number_found 0 0 31 tokens b.0 b.1 in
    let a1 = text_found 1 tokens x.0 x.1 in
    let a2 = end_is 2 tokens end.0 end.1 in
    let f0 = a0.0 in
    let f1 = a1.0 in
    let shape : tokens ≡ tok.Num b.0 ∷ tok.Quote x.0 ∷ [] = cc in
    spelled decls image _ (tok.Word (codes "PUT") ∷ tok.Num b.0 ∷ tok.Quote x.0 ∷ []) (draft.Plain (stmt.Put b.0 x.0)) d (ap (λ ts. tok.Word (codes "PUT") ∷ ts) (sym shape)) end.2
    λ _ _. put_text b.0 x.0 a0.1 a1.1

byte_spelled : (decls : List (List ℕ)) (image : Image) (tokens : List Tok) (d : Draft) → byte_stmt tokens ≡ Ok d → Spelled decls image (tok.Word (codes "BYTE") ∷ tokens) d
unfolding byte_stmt
byte_spelled decls image tokens d h =
    let v = bind_ok (target_at tokens) _ d h in
    let b = bind_ok (number_at 0 31 (drop 1 tokens)) _ d v.2 in
    let x = bind_ok (operand_at (drop 2 tokens)) _ d b.2 in
    let end = bind_ok (end_at (drop 3 tokens)) _ d x.2 in
    let a0 = target_found 0 tokens v.0 v.1 in
    let a1 = number_found 1 0 31 tokens b.0 b.1 in
    let a2 = operand_found 2 tokens x.0 x.1 in
    let a3 = end_is 3 tokens end.0 end.1 in
    let f1 = a1.0 in
    let shape : tokens ≡ target_token v.0 ∷ tok.Num b.0 ∷ operand_token x.0 ∷ [] = cc in
    spelled decls image _ (tok.Word (codes "BYTE") ∷ target_token v.0 ∷ tok.Num b.0 ∷ operand_token x.0 ∷ []) (draft.Plain (stmt.Byte v.0 b.0 x.0)) d (ap (λ ts. tok.Word (codes "BYTE") ∷ ts) (sym shape)) end.2
    λ _ range.
    let p = and_parts (is_target v.0) _ range in
    let q = and_parts (nat_lt b.0 32) (is_operand x.0) p.1 in
    get_byte v.0 b.0 x.0 p.0 a1.1 q.1

field_token : (t : Tok) (r : Field) → field_in t ≡ Some r → t ≡ tok.Word (field_name r)
field_token (tok.Word w) r h = ap tok.Word (found_name field_name (field.Status ∷ field.Count ∷ field.Info ∷ []) w r h)
field_token (tok.Num n) r h = absurd (cc)
field_token (tok.Cond c) r h = absurd (cc)
field_token (tok.Sign s) r h = absurd (cc)
field_token (tok.Service m) r h = absurd (cc)
field_token (tok.Quote b) r h = absurd (cc)

iosb_spelled : (decls : List (List ℕ)) (image : Image) (tokens : List Tok) (d : Draft) → iosb_stmt tokens ≡ Ok d → Spelled decls image (tok.Word (codes "IOSB") ∷ tokens) d
unfolding iosb_stmt
iosb_spelled decls image tokens d h =
    let v = bind_ok (target_at tokens) _ d h in
    let i = bind_ok (number_at 1 32 (drop 1 tokens)) _ d v.2 in
    let f = bind_ok (field_at (drop 2 tokens)) _ d i.2 in
    let end = bind_ok (end_at (drop 3 tokens)) _ d f.2 in
    let a0 = target_found 0 tokens v.0 v.1 in
    let a1 = number_found 1 1 32 tokens i.0 i.1 in
    let a2 = choice_found 2 kind.Word tokens field_name field_in f.0 (λ t. field_token t f.0) f.1 in
    let a3 = end_is 3 tokens end.0 end.1 in
    let f1 = a1.0 in
    let shape : tokens ≡ target_token v.0 ∷ tok.Num i.0 ∷ tok.Word (field_name f.0) ∷ [] = cc in
    spelled decls image _ (tok.Word (codes "IOSB") ∷ target_token v.0 ∷ tok.Num i.0 ∷ tok.Word (field_name f.0) ∷ []) (draft.Plain (stmt.Iosb v.0 i.0 f.0)) d (ap (λ ts. tok.Word (codes "IOSB") ∷ ts) (sym shape)) end.2
    λ _ range. get_iosb v.0 i.0 f.0 (and_parts (is_target v.0) _ range).0 a1.1

return_spelled : (decls : List (List ℕ)) (image : Image) (tokens : List Tok) (d : Draft) → return_stmt tokens ≡ Ok d → Spelled decls image (tok.Word (codes "RETURN") ∷ tokens) d
unfolding return_stmt
return_spelled decls image tokens d h =
    let end = bind_ok (end_at tokens) _ d h in
    let a0 = end_is 0 tokens end.0 end.1 in
    let shape : tokens ≡ [] = a0 in
    spelled decls image _ (tok.Word (codes "RETURN") ∷ []) (draft.Plain stmt.Return) d (ap (λ ts. tok.Word (codes "RETURN") ∷ ts) (sym shape)) end.2 λ _ _. returns

-- Any statement.

by_keyword : (decls : List (List ℕ)) (image : Image) (word keyword : List ℕ) (tokens : List Tok) (d : Draft) (x y : Result Draft FaultKind)
    → (x ≡ Ok d → Spelled decls image (tok.Word keyword ∷ tokens) d) → (y ≡ Ok d → Spelled decls image (tok.Word word ∷ tokens) d)
    → cond (bytes_eq word keyword) x y ≡ Ok d → Spelled decls image (tok.Word word ∷ tokens) d
by_keyword decls image word keyword tokens d x y h k =
    either_by {A = Result Draft FaultKind} (λ r. r ≡ Ok d → Spelled decls image (tok.Word word ∷ tokens) d) (bytes_eq word keyword) x y
    (λ e ok. subst (λ (w : List ℕ). Spelled decls image (tok.Word w ∷ tokens) d) (sym (bytes_are word keyword e)) (h ok)) (λ _ ok. k ok)

local_spelled : (decls : List (List ℕ)) (image : Image) (word : List ℕ) (tokens : List Tok) (d : Draft) → local_stmt word tokens ≡ Ok d → Spelled decls image (tok.Word word ∷ tokens) d
unfolding local_stmt
local_spelled decls image word tokens d =
    by_keyword decls image word (codes "LET") tokens d _ _ (let_spelled decls image tokens d) (
    by_keyword decls image word (codes "GOTO") tokens d _ _ (goto_spelled decls image tokens d) (
    by_keyword decls image word (codes "IF") tokens d _ _ (if_spelled decls image tokens d) (
    by_keyword decls image word (codes "PUT") tokens d _ _ (put_spelled decls image tokens d) (
    by_keyword decls image word (codes "BYTE") tokens d _ _ (byte_spelled decls image tokens d) (
    by_keyword decls image word (codes "IOSB") tokens d _ _ (iosb_spelled decls image tokens d) (
    by_keyword decls image word (codes "RETURN") tokens d _ _ (return_spelled decls image tokens d) (λ h. absurd (cc))))))))

called_ok : (r : Result Call CallFail) (d : Draft) → called r ≡ Ok d → (c : Call) × (r ≡ Ok c) × (draft.Plain (stmt.Service c) ≡ d)
called_ok (Ok c) d h = (c, refl, (let e : draft.Plain (stmt.Service c) ≡ d = cc in e))
called_ok (Err e) d h = absurd (cc)

service_spelled : (decls : List (List ℕ)) (image : Image) (name : List ℕ) (tokens : List Tok) (d : Draft) → called (read_call service_rows (tok.Service name ∷ tokens)) ≡ Ok d → Spelled decls image (tok.Service name ∷ tokens) d
service_spelled decls image name tokens d h =
    let k = called_ok (read_call service_rows (tok.Service name ∷ tokens)) d h in
    let c = k.0 in
    let s = call_spelled name tokens c k.1 in
    let shape : tok.Service (service_name c.service) ∷ between_commas (pieces tokens) ≡ tok.Service name ∷ tokens = ap (λ n. tok.Service n ∷ between_commas (pieces tokens)) (sym s.service) ∙ ap (λ ts. tok.Service name ∷ ts) (joined_pieces tokens) in
    spelled decls image _ (tok.Service (service_name c.service) ∷ between_commas (pieces tokens)) (draft.Plain (stmt.Service c)) d shape (ap Ok k.2)
    λ _ range.
    let p = and_parts (is_call c) _ range in
    let q = and_parts (list_all (has_its_label image) (args_list c.args)) _ p.1 in
    call_service c (pieces tokens) s.args s.are s.same q.0 q.1

-- what is read as a statement is spelled as one
pub stmt_spelled : (decls : List (List ℕ)) (image : Image) (t : Tok) (tokens : List Tok) (d : Draft) → stmt_of t tokens ≡ Ok d → Spelled decls image (t ∷ tokens) d
stmt_spelled decls image (tok.Word word) tokens d h = local_spelled decls image word tokens d h
stmt_spelled decls image (tok.Service name) tokens d h = service_spelled decls image name tokens d h
stmt_spelled decls image (tok.Num n) tokens d h = absurd (cc)
stmt_spelled decls image (tok.Cond c) tokens d h = absurd (cc)
stmt_spelled decls image (tok.Sign s) tokens d h = absurd (cc)
stmt_spelled decls image (tok.Quote b) tokens d h = absurd (cc)
