-- Statements that are spelled are read.
use Rattle.std.proofs.Common.{◌≡◌, ℕ, ◌≤◌, not, true, false, nat_le, List, [], ◌∷◌, length, codes, Option, Some, None, is_some, Ok, bytes_eq, refl, sym, ap, ◌∙◌, unwrap_or}
use Rattle.std.specs.List.{list_all, list_any}
use Rattle.std.proofs.lemmas.Bool.{and_parts, and_from, le-leb}
use Rattle.vx_base.proofs.Any.{any_map}
use Rattle.vx_base.specs.declared.call.Arg.{Arg}
use Rattle.vx_base.specs.declared.call.Operand.{Operand}
use Rattle.vx_base.specs.declared.call.Target.{Target}
use Rattle.vx_base.specs.declared.service.Service.{Service}
use Rattle.vx_base.specs.declared.call.Arg.TheVariants as arg
use Rattle.vx_base.specs.declared.call.Operand.TheVariants as operand
use Rattle.vx_base.specs.declared.call.Target.TheVariants as target
use Rattle.vx_base.specs.declared.service.Service.TheVariants.{CrePrc}
use Rattle.vx_base.specs.Services.{is_operand, is_target, args_list}
use Rattle.vx_image.specs.declared.image.Image.{Image}
use Rattle.vx_image.specs.declared.image.Label.{Label}
use Rattle.vx_image.specs.declared.stmt.Field.{Field}
use Rattle.vx_image.specs.declared.stmt.Rel.{Rel}
use Rattle.vx_image.specs.declared.stmt.Stmt.{Stmt}
use Rattle.vx_image.specs.declared.stmt.Field.TheVariants as field
use Rattle.vx_image.specs.declared.stmt.Rel.TheVariants as rel
use Rattle.vx_image.specs.declared.stmt.Stmt.TheVariants as stmt
use Rattle.vx_image.specs.WellFormed.{is_among, has_its_label, has_its_decl}
use Rattle.vx_text.specs.declared.token.Tok.{Tok}
use Rattle.vx_text.specs.declared.token.Tok.TheVariants as tok
use Rattle.vx_table.specs.Reading.{operand_of}
use Rattle.vx_table.specs.Spelling.{operand_token, target_token}
use Rattle.vx_script.specs.Fields.{is_sign, begins_with_sign, target_in}
use Rattle.vx_script.specs.Reading.{with_stmt, going_on, inside}
use Rattle.vx_script.specs.Resolving.{is_label, settled, draft_names_none, arg_names_none, created_by, created_in}
use Rattle.vx_script.specs.Places.{label_place}
use Rattle.vx_script.specs.Statements.{let_rest, let_stmt, goto_stmt, rel_name, rel_word, if_stmt, put_stmt, byte_stmt, field_name, field_word, iosb_stmt, return_stmt, local_stmt, called, stmt_of}
use Rattle.vx_script.specs.declared.draft.Draft.{Draft}
use Rattle.vx_script.specs.declared.draft.DraftImage.{DraftImage}
use Rattle.vx_script.specs.declared.parts.Parts.{Parts}
use Rattle.vx_script.specs.declared.draft.Draft.TheVariants as draft
use Rattle.vx_script.proofs.EndedImages.{is_known}
use Rattle.vx_script.proofs.Places.{has_place}
use Rattle.vx_grammar.specs.Grammar.{Statement, let_value, let_sum, let_difference, goto_label, if_goto, put_text, get_byte, get_iosb, returns, call_service}
use Rattle.vx_grammar.proofs.Calls.{call_read}
use Rattle.std.specs.Int.{IsInRange}

-- The words of a statement, read back.

pub operand_back : (x : Operand) → is_operand x ≡ true → operand_of (operand_token x) ≡ Some x
operand_back (operand.Num n) h = refl
operand_back (operand.Cond c) h = refl
operand_back (operand.Var v) h = rw h refl
operand_back operand.R0 h = refl
operand_back operand.Pid h = refl
operand_back operand.Prm h = refl

pub target_back : (t : Target) → is_target t ≡ true → target_in (target_token t) ≡ Ok t
target_back (target.Var v) h = rw h refl
target_back target.R0 h = refl

pub target_no_colon : (t : Target) → is_sign 58 (target_token t) ≡ false
target_no_colon (target.Var v) = refl
target_no_colon target.R0 = refl

pub operand_no_colon : (x : Operand) → is_sign 58 (operand_token x) ≡ false
operand_no_colon (operand.Num n) = refl
operand_no_colon (operand.Cond c) = refl
operand_no_colon (operand.Var v) = refl
operand_no_colon operand.R0 = refl
operand_no_colon operand.Pid = refl
operand_no_colon operand.Prm = refl

pub rel_back : (r : Rel) → rel_word (rel_name r) ≡ Some r
rel_back rel.Eq = refl
rel_back rel.Ne = refl
rel_back rel.Lt = refl
rel_back rel.Ge = refl

pub field_back : (f : Field) → field_word (field_name f) ≡ Some f
field_back field.Status = refl
field_back field.Count = refl
field_back field.Info = refl

abbrev pub let_toks : Target → Operand → List Tok → List Tok
let_toks t x toks = target_token t ∷ tok.Sign 61 ∷ operand_token x ∷ toks

pub let_back : (t : Target) (x : Operand) (toks : List Tok) → is_target t ≡ true → is_operand x ≡ true → local_stmt (codes "LET") (let_toks t x toks) ≡ let_rest t x toks
unfolding local_stmt let_stmt
let_back t x toks h k = rw (target_back t h, operand_back x k) refl

pub add_back : (t : Target) (x y : Operand) → is_operand y ≡ true → let_rest t x (tok.Sign 43 ∷ operand_token y ∷ []) ≡ Ok (draft.Plain (stmt.Add t x y))
add_back t x y h = rw (operand_back y h) refl

pub sub_back : (t : Target) (x y : Operand) → is_operand y ≡ true → let_rest t x (tok.Sign 45 ∷ operand_token y ∷ []) ≡ Ok (draft.Plain (stmt.Sub t x y))
sub_back t x y h = rw (operand_back y h) refl

goto_back : (name : List ℕ) → local_stmt (codes "GOTO") (tok.Word name ∷ []) ≡ Ok (draft.Goto name)
unfolding local_stmt goto_stmt
goto_back name = refl

if_back : (x : Operand) (r : Rel) (y : Operand) (name : List ℕ) → is_operand x ≡ true → is_operand y ≡ true
    → local_stmt (codes "IF") (operand_token x ∷ tok.Word (rel_name r) ∷ operand_token y ∷ tok.Word (codes "GOTO") ∷ tok.Word name ∷ []) ≡ Ok (draft.If x r y name)
unfolding local_stmt if_stmt
if_back x r y name h k = rw (operand_back x h, rel_back r, operand_back y k) refl

put_back : (b : ℕ) (bytes : List ℕ) → IsInRange 0 31 b → length bytes ≤ 2048 → local_stmt (codes "PUT") (tok.Num b ∷ tok.Quote bytes ∷ []) ≡ Ok (draft.Plain (stmt.Put b bytes))
unfolding local_stmt put_stmt
put_back b bytes h k =
    let low : nat_le 0 b ≡ true = le-leb _ _ h.0 in
    let high : nat_le b 31 ≡ true = le-leb _ _ h.1 in
    let few : nat_le (length bytes) 2048 ≡ true = le-leb _ _ k in
    rw (low, high, few) refl

byte_back : (t : Target) (b : ℕ) (x : Operand) → is_target t ≡ true → IsInRange 0 31 b → is_operand x ≡ true
    → local_stmt (codes "BYTE") (target_token t ∷ tok.Num b ∷ operand_token x ∷ []) ≡ Ok (draft.Plain (stmt.Byte t b x))
unfolding local_stmt byte_stmt
byte_back t b x h k l =
    let low : nat_le 0 b ≡ true = le-leb _ _ k.0 in
    let high : nat_le b 31 ≡ true = le-leb _ _ k.1 in
    rw (target_back t h, low, high, operand_back x l) refl

iosb_back : (t : Target) (i : ℕ) (f : Field) → is_target t ≡ true → IsInRange 1 32 i
    → local_stmt (codes "IOSB") (target_token t ∷ tok.Num i ∷ tok.Word (field_name f) ∷ []) ≡ Ok (draft.Plain (stmt.Iosb t i f))
unfolding local_stmt iosb_stmt
iosb_back t i f h k =
    let low : nat_le 1 i ≡ true = le-leb _ _ k.0 in
    let high : nat_le i 32 ≡ true = le-leb _ _ k.1 in
    rw (target_back t h, low, high, field_back f) refl

pub return_back : local_stmt (codes "RETURN") [] ≡ Ok (draft.Plain stmt.Return)
unfolding local_stmt return_stmt
return_back = refl

-- What is read of a statement's tokens: a draft, which settles as the statement and names what is there.
pub record Reads (decls : List (List ℕ)) (image : Image) (t : Tok) (rest : List Tok) (s : Stmt) : Type 0 where
  pub drafted : Draft
  pub read : stmt_of t rest ≡ Ok drafted
  pub settles : settled image.labels drafted ≡ s
  pub labels : draft_names_none image.labels drafted ≡ false
  pub made : (line : ℕ) → list_all (is_known decls) (created_in line drafted) ≡ true
  pub alone : (line : ℕ) (parts : Parts) (i : DraftImage) → inside line parts i (t ∷ rest) ≡ going_on parts (with_stmt line i (t ∷ rest))

abbrev pub ReadsAs : List (List ℕ) → Image → List Tok → Stmt → Type 0
ReadsAs decls image [] s = ⊥
ReadsAs decls image (t ∷ rest) s = Reads decls image t rest s

pub no_label : (word : List ℕ) (rest : List Tok) → begins_with_sign 58 rest ≡ false → bytes_eq word (codes "END") ≡ false
    → (line : ℕ) (parts : Parts) (i : DraftImage) → inside line parts i (tok.Word word ∷ rest) ≡ going_on parts (with_stmt line i (tok.Word word ∷ rest))
no_label word rest h k line parts i = rw (h, k) refl

there : (name : List ℕ) (labels : List Label) (k : ℕ) → label_place name labels ≡ Some k → not (is_label labels name) ≡ false
there name labels k h = ap (λ (o : Option ℕ). not (is_some o)) h

-- The labels and the process declaration of a call.

pub label_there : (image : Image) (a : Arg) → has_its_label image a ≡ true → arg_names_none image.labels a ≡ false
label_there image (arg.Label (Some name)) h =
    let p = λ (l : Label). bytes_eq name l.name in
    ap not (has_place p image.labels ∙ sym (any_map (bytes_eq name) (λ (l : Label). l.name) image.labels) ∙ h)
label_there image (arg.Label None) h = refl
label_there image (arg.Value x) h = refl
label_there image _ h = refl

pub labels_there : (image : Image) (args : List Arg) → list_all (has_its_label image) args ≡ true → list_any (arg_names_none image.labels) args ≡ false
labels_there image [] h = refl
labels_there image (a ∷ args) h =
    let p = and_parts (has_its_label image a) (list_all (has_its_label image) args) h in
    rw (label_there image a p.0, labels_there image args p.1) refl

decl_there : (decls : List (List ℕ)) (line : ℕ) (service : Service) (a : Arg) → has_its_decl decls service a ≡ true → list_all (is_known decls) (created_by line service a) ≡ true
decl_there decls line CrePrc (arg.Name name) h = and_from (is_among name decls) true h refl
decl_there decls line CrePrc _ h = refl
decl_there decls line _ a h = refl

-- what is spelled as a statement is read so
pub stmt_reads : (decls : List (List ℕ)) (image : Image) (tokens : List Tok) (s : Stmt) → Statement decls image tokens s → ReadsAs decls image tokens s
stmt_reads decls image _ _ (let_value v x h k) = record {
  drafted = draft.Plain (stmt.Let v x);
  read = let_back v x [] h k;
  settles = refl;
  labels = refl;
  made = λ line. refl;
  alone = no_label (codes "LET") (let_toks v x []) (target_no_colon v) refl;
}
stmt_reads decls image _ _ (let_sum v x y h k l) = record {
  drafted = draft.Plain (stmt.Add v x y);
  read = let_back v x _ h k ∙ add_back v x y l;
  settles = refl;
  labels = refl;
  made = λ line. refl;
  alone = no_label (codes "LET") (let_toks v x (tok.Sign 43 ∷ operand_token y ∷ [])) (target_no_colon v) refl;
}
stmt_reads decls image _ _ (let_difference v x y h k l) = record {
  drafted = draft.Plain (stmt.Sub v x y);
  read = let_back v x _ h k ∙ sub_back v x y l;
  settles = refl;
  labels = refl;
  made = λ line. refl;
  alone = no_label (codes "LET") (let_toks v x (tok.Sign 45 ∷ operand_token y ∷ [])) (target_no_colon v) refl;
}
stmt_reads decls image _ _ (goto_label name k h) = record {
  drafted = draft.Goto name;
  read = goto_back name;
  settles = ap (λ (o : Option ℕ). stmt.Goto (unwrap_or o 0)) h;
  labels = there name image.labels k h;
  made = λ line. refl;
  alone = no_label (codes "GOTO") (tok.Word name ∷ []) refl refl;
}
stmt_reads decls image _ _ (if_goto x r y name k h l p) = record {
  drafted = draft.If x r y name;
  read = if_back x r y name h l;
  settles = ap (λ (o : Option ℕ). stmt.If x r y (unwrap_or o 0)) p;
  labels = there name image.labels k p;
  made = λ line. refl;
  alone = no_label (codes "IF") (operand_token x ∷ tok.Word (rel_name r) ∷ operand_token y ∷ tok.Word (codes "GOTO") ∷ tok.Word name ∷ []) (operand_no_colon x) refl;
}
stmt_reads decls image _ _ (put_text b bytes h k) = record {
  drafted = draft.Plain (stmt.Put b bytes);
  read = put_back b bytes h k;
  settles = refl;
  labels = refl;
  made = λ line. refl;
  alone = no_label (codes "PUT") (tok.Num b ∷ tok.Quote bytes ∷ []) refl refl;
}
stmt_reads decls image _ _ (get_byte v b x h k l) = record {
  drafted = draft.Plain (stmt.Byte v b x);
  read = byte_back v b x h k l;
  settles = refl;
  labels = refl;
  made = λ line. refl;
  alone = no_label (codes "BYTE") (target_token v ∷ tok.Num b ∷ operand_token x ∷ []) (target_no_colon v) refl;
}
stmt_reads decls image _ _ (get_iosb v i f h k) = record {
  drafted = draft.Plain (stmt.Iosb v i f);
  read = iosb_back v i f h k;
  settles = refl;
  labels = refl;
  made = λ line. refl;
  alone = no_label (codes "IOSB") (target_token v ∷ tok.Num i ∷ tok.Word (field_name f) ∷ []) (target_no_colon v) refl;
}
stmt_reads decls image _ _ returns = record {
  drafted = draft.Plain stmt.Return;
  read = return_back;
  settles = refl;
  labels = refl;
  made = λ line. refl;
  alone = no_label (codes "RETURN") [] refl refl;
}
stmt_reads decls image _ _ (call_service c ps args are same labels decl) = record {
  drafted = draft.Plain (stmt.Service c);
  read = ap called (call_read c ps args are same);
  settles = refl;
  labels = labels_there image (args_list c.args) labels;
  made = λ line. decl_there decls line c.service c.args.a1 decl;
  alone = λ line parts i. refl;
}
