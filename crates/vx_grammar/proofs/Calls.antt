-- Calls: what is read of their tokens is what the grammar says, and the other way round.
use Rattle.std.proofs.Common.{◌≡◌, ℕ, ◌+◌, ◌==◌, Bool, true, false, cond, List, [], ◌∷◌, ◌++◌, map, Option, Some, None, Result, Ok, Err, bytes_eq, refl, sym, subst, ap, ◌∙◌}
use Rattle.std.proofs.lemmas.Bool.{eqb-true}
use Rattle.vx_base.proofs.Lists.{some_mapped}
use Rattle.vx_base.specs.declared.call.Arg.{Arg}
use Rattle.vx_base.specs.declared.call.Args.{Args}
use Rattle.vx_base.specs.declared.call.Call.{Call}
use Rattle.vx_base.specs.declared.call.Operand.{Operand}
use Rattle.vx_base.specs.declared.call.Target.{Target}
use Rattle.vx_base.specs.declared.cond.Cond.{Cond}
use Rattle.vx_base.specs.declared.service.Kind.{Kind}
use Rattle.vx_base.specs.declared.service.Param.{Param}
use Rattle.vx_base.specs.declared.service.Service.{Service}
use Rattle.vx_base.specs.declared.call.Arg.TheVariants as arg
use Rattle.vx_base.specs.declared.call.Operand.TheVariants as operand
use Rattle.vx_base.specs.declared.mode.Mode.TheVariants.{Kernel, Exec, Super, User}
use Rattle.vx_base.specs.declared.request.Func.TheVariants.{Read, ReadNow, Write, WriteNow, Eof, EofNow, ReadAttn, WrtAttn}
use Rattle.vx_base.specs.declared.service.Kind.TheVariants as kind
use Rattle.vx_base.specs.declared.service.Param.TheVariants.{Required, Optional}
use Rattle.vx_base.specs.Services.{service_name, service_rows, service_row, all_services, params_of, args_of, is_of_kind, is_operand, is_target, kind_of}
use Rattle.vx_text.specs.declared.token.Tok.{Tok}
use Rattle.vx_text.specs.declared.token.Tok.TheVariants as tok
use Rattle.vx_table.specs.declared.fail.CallFail.{CallFail}
use Rattle.vx_table.specs.Reading.{operand_word, target_word, mode_word, func_word, word_arg, token_arg, arg_or, default_of, read_arg, is_comma, cut, pieces, and_args, read_args, as_args, call_with, read_row, read_named, read_call}
use Rattle.vx_table.specs.Spelling.{mode_name, func_name, arg_token, comma}
use Rattle.vx_table.proofs.Back.{no_comma, kind_used, token_back, named_back}
use Rattle.vx_table.proofs.Calls.{IsOperandOr, IsTargetOr, operand_is, target_is}
use Rattle.vx_grammar.specs.Grammar.{Argument, stands, left_out, Arguments, no_params, by_piece, with_no_piece, between_commas}
use Rattle.vx_grammar.proofs.Fields.{found_name, operand_name, target_name}
use Rattle.vx_base.proofs.Texts.{bytes_are}
use Rattle.vx_base.proofs.Bools.{either_by}
use Rattle.std.specs.List.{onto_first}

-- Pieces.

comma_is : (t : Tok) → is_comma t ≡ true → comma ≡ t
comma_is (tok.Sign s) h = ap tok.Sign (sym (eqb-true s 44 h))
comma_is (tok.Word w) h = absurd (cc)
comma_is (tok.Num n) h = absurd (cc)
comma_is (tok.Cond c) h = absurd (cc)
comma_is (tok.Service n) h = absurd (cc)
comma_is (tok.Quote b) h = absurd (cc)

more_in_front : (t : Tok) (piece : List Tok) (more : List (List Tok)) → between_commas ((t ∷ piece) ∷ more) ≡ t ∷ between_commas (piece ∷ more)
more_in_front t piece [] = refl
more_in_front t piece (q ∷ more) = refl

joined_by : (t : Tok) (ts : List Tok) (ps : List (List Tok)) (b : Bool) → is_comma t ≡ b → cut ts ≡ ps → between_commas ps ≡ ts → between_commas (cond b ([] ∷ ps) (onto_first t ps)) ≡ t ∷ ts
joined_by t ts [] b e c h = let none : cut [] ≡ [] = ap cut h ∙ c in absurd (cc)
joined_by t ts (piece ∷ more) true e c h = ap (λ u. u ∷ between_commas (piece ∷ more)) (comma_is t e) ∙ ap (λ us. t ∷ us) h
joined_by t ts (piece ∷ more) false e c h = more_in_front t piece more ∙ ap (λ us. t ∷ us) h

joined_cut : (ts : List Tok) → between_commas (cut ts) ≡ ts
joined_cut [] = refl
joined_cut (t ∷ ts) = joined_by t ts (cut ts) (is_comma t) refl refl (joined_cut ts)

-- the pieces of tokens, with commas between them, are the tokens
pub joined_pieces : (ts : List Tok) → between_commas (pieces ts) ≡ ts
joined_pieces [] = refl
joined_pieces (t ∷ ts) = joined_cut (t ∷ ts)

-- a piece with no comma
record Whole (piece : List Tok) : Type 0 where
  alone : cut piece ≡ piece ∷ []
  more : (rest : List Tok) → cut (piece ++ comma ∷ rest) ≡ piece ∷ cut rest

whole_piece : (p : Param) (piece : List Tok) (a : Arg) → Argument p piece a → Whole piece
whole_piece _ _ _ (stands p a h) = let none = no_comma a (kind_used (kind_of p) a h) in record { alone = rw none refl; more = λ rest. rw none refl }
whole_piece _ _ _ (left_out k d) = record { alone = refl; more = λ rest. refl }

cut_again : (params : List Param) (ps : List (List Tok)) (args : List Arg) → Arguments params ps args → (piece : List Tok) → Whole piece → cut (between_commas (piece ∷ ps)) ≡ piece ∷ ps
cut_again _ _ _ no_params piece w = w.alone
cut_again _ _ _ (with_no_piece p params a args h more) piece w = w.alone
cut_again _ _ _ (by_piece p params second ps a args h more) piece w =
    w.more (between_commas (second ∷ ps)) ∙ ap (λ qs. piece ∷ qs) (cut_again params ps args more second (whole_piece p second a h))

-- Arguments, read.

argument_read : (k : ℕ) (p : Param) (piece : List Tok) (a : Arg) → Argument p piece a → read_arg k p piece ≡ Ok a
argument_read k _ _ _ (stands p a h) = rw (token_back (kind_of p) a h) refl
argument_read k _ _ _ (left_out j d) = refl

arguments_read : (params : List Param) (ps : List (List Tok)) (args : List Arg) → Arguments params ps args → (k : ℕ) → read_args k params ps ≡ Ok args
arguments_read _ _ _ no_params k = refl
arguments_read _ _ _ (by_piece p params piece ps a args h more) k = rw (argument_read k p piece a h, arguments_read params ps args more (k + 1)) refl
arguments_read _ _ _ (with_no_piece p params a args h more) k = rw (argument_read k p [] a h, arguments_read params [] args more (k + 1)) refl

as_cut : (k : ℕ) (p : Param) (params : List Param) (ts : List Tok) → read_args k (p ∷ params) (pieces ts) ≡ read_args k (p ∷ params) (cut ts)
as_cut k p params [] = refl
as_cut k p params (t ∷ ts) = refl

joined_read : (params : List Param) (ps : List (List Tok)) (args : List Arg) → Arguments params ps args → (k : ℕ) → read_args k params (pieces (between_commas ps)) ≡ Ok args
joined_read _ _ _ no_params k = refl
joined_read _ _ _ (with_no_piece p params a args h more) k = arguments_read (p ∷ params) [] (a ∷ args) (with_no_piece p params a args h more) k
joined_read _ _ _ (by_piece p params piece ps a args h more) k =
    as_cut k p params (between_commas (piece ∷ ps)) ∙ ap (read_args k (p ∷ params)) (cut_again params ps args more piece (whole_piece p piece a h))
    ∙ arguments_read (p ∷ params) (piece ∷ ps) (a ∷ args) (by_piece p params piece ps a args h more) k

-- what is spelled as a call is read as the call
pub call_read : (c : Call) (ps : List (List Tok)) (args : List Arg) → Arguments (params_of c.service) ps args → c.args ≡ args_of args
    → read_call service_rows (tok.Service (service_name c.service) ∷ between_commas ps) ≡ Ok c
call_read c ps args h e =
    named_back c.service (between_commas ps) ∙ ap (λ (r : Result (List Arg) CallFail). call_with c.service (as_args r)) (joined_read (params_of c.service) ps args h 1)
    ∙ ap (λ (a : Args). Ok (record { service = c.service; args = a })) (sym e)

-- Arguments, spelled.

-- a token is that of an argument of a kind
abbrev IsTokenOf : Kind → Tok → Arg → Type 0
IsTokenOf k t a = (t ≡ arg_token a) × (is_of_kind k a ≡ true)

known_operand : (o : Option Operand) (x : Operand) → IsOperandOr o → o ≡ Some x → is_operand x ≡ true
known_operand o x h e = subst IsOperandOr e h

known_target : (o : Option Target) (x : Target) → IsTargetOr o → o ≡ Some x → is_target x ≡ true
known_target o x h e = subst IsTargetOr e h

word_spelled : (k : Kind) (w : List ℕ) (a : Arg) → word_arg k w ≡ Some a → IsTokenOf k (tok.Word w) a
word_spelled kind.Value w a h =
    let m = some_mapped arg.Value (operand_word w) a h in
    subst (λ (b : Arg). IsTokenOf kind.Value (tok.Word w) b) m.2 (operand_name w m.0 m.1, known_operand (operand_word w) m.0 (operand_is w) m.1)
word_spelled kind.Target w a h =
    let m = some_mapped arg.Target (target_word w) a h in
    subst (λ (b : Arg). IsTokenOf kind.Target (tok.Word w) b) m.2 (target_name w m.0 m.1, known_target (target_word w) m.0 (target_is w) m.1)
word_spelled kind.Mode w a h =
    let m = some_mapped arg.Mode (mode_word w) a h in
    subst (λ (b : Arg). IsTokenOf kind.Mode (tok.Word w) b) m.2 (ap tok.Word (found_name mode_name (Kernel ∷ Exec ∷ Super ∷ User ∷ []) w m.0 m.1), refl)
word_spelled kind.Func w a h =
    let m = some_mapped arg.Func (func_word w) a h in
    subst (λ (b : Arg). IsTokenOf kind.Func (tok.Word w) b) m.2 (ap tok.Word (found_name func_name (Read ∷ ReadNow ∷ Write ∷ WriteNow ∷ Eof ∷ EofNow ∷ ReadAttn ∷ WrtAttn ∷ []) w m.0 m.1), refl)
word_spelled kind.Name w a h = subst (λ (b : Arg). IsTokenOf kind.Name (tok.Word w) b) (let e : arg.Name w ≡ a = cc in e) (refl, refl)
word_spelled kind.Label w a h = subst (λ (b : Arg). IsTokenOf kind.Label (tok.Word w) b) (let e : arg.Label (Some w) ≡ a = cc in e) (refl, refl)
word_spelled kind.LabelOrNone w a h = subst (λ (b : Arg). IsTokenOf kind.LabelOrNone (tok.Word w) b) (let e : arg.Label (Some w) ≡ a = cc in e) (refl, refl)

number_spelled : (k : Kind) (n : ℕ) (a : Arg) → token_arg k (tok.Num n) ≡ Some a → IsTokenOf k (tok.Num n) a
number_spelled kind.Value n a h = subst (λ (b : Arg). IsTokenOf kind.Value (tok.Num n) b) (let e : arg.Value (operand.Num n) ≡ a = cc in e) (refl, refl)
number_spelled _ n a h = absurd (cc)

cond_spelled : (k : Kind) (c : Cond) (a : Arg) → token_arg k (tok.Cond c) ≡ Some a → IsTokenOf k (tok.Cond c) a
cond_spelled kind.Value c a h = subst (λ (b : Arg). IsTokenOf kind.Value (tok.Cond c) b) (let e : arg.Value (operand.Cond c) ≡ a = cc in e) (refl, refl)
cond_spelled _ c a h = absurd (cc)

sign_spelled : (k : Kind) (s : ℕ) (a : Arg) → token_arg k (tok.Sign s) ≡ Some a → IsTokenOf k (tok.Sign s) a
sign_spelled kind.LabelOrNone s a h =
    either_by {A = Option Arg} (λ o. o ≡ Some a → IsTokenOf kind.LabelOrNone (tok.Sign s) a) (s == 45) (Some (arg.Label None)) None
    (λ e h. subst (λ (b : Arg). IsTokenOf kind.LabelOrNone (tok.Sign s) b) (let e : arg.Label None ≡ a = cc in e) (ap tok.Sign (eqb-true s 45 e), refl))
    (λ _ h. absurd (cc)) h
sign_spelled _ s a h = absurd (cc)

token_spelled : (k : Kind) (t : Tok) (a : Arg) → token_arg k t ≡ Some a → IsTokenOf k t a
token_spelled k (tok.Word w) a h = word_spelled k w a h
token_spelled k (tok.Num n) a h = number_spelled k n a h
token_spelled k (tok.Cond c) a h = cond_spelled k c a h
token_spelled k (tok.Sign s) a h = sign_spelled k s a h
token_spelled k (tok.Service n) a h = absurd (cc)
token_spelled k (tok.Quote b) a h = absurd (cc)

or_ok : (k : ℕ) (o : Option Arg) (a : Arg) → arg_or k o ≡ Ok a → o ≡ Some a
or_ok k (Some b) a h = cc
or_ok k None a h = absurd (cc)

default_spelled : (k : ℕ) (p : Param) (a : Arg) → default_of k p ≡ Ok a → Argument p [] a
default_spelled k (Required j) a h = absurd (cc)
default_spelled k (Optional j d) a h = subst (λ (b : Arg). Argument (Optional j d) [] b) (let e : d ≡ a = cc in e) (left_out j d)

argument_spelled : (k : ℕ) (p : Param) (piece : List Tok) (a : Arg) → read_arg k p piece ≡ Ok a → Argument p piece a
argument_spelled k p [] a h = default_spelled k p a h
argument_spelled k p (t ∷ []) a h =
    let s = token_spelled (kind_of p) t a (or_ok k (token_arg (kind_of p) t) a h) in
    subst (λ (u : Tok). Argument p (u ∷ []) a) (sym s.0) (stands p a s.1)
argument_spelled k p (t ∷ u ∷ more) a h = absurd (cc)

both : (r : Result Arg CallFail) (rest : Result (List Arg) CallFail) (args : List Arg) → and_args r rest ≡ Ok args
    → (a : Arg) × (more : List Arg) × (r ≡ Ok a) × (rest ≡ Ok more) × (a ∷ more ≡ args)
both (Ok a) (Ok more) args h = (a, more, refl, refl, (let e : a ∷ more ≡ args = cc in e))
both (Ok a) (Err e) args h = absurd (cc)
both (Err e) rest args h = absurd (cc)

arguments_spelled : (k : ℕ) (params : List Param) (ps : List (List Tok)) (args : List Arg) → read_args k params ps ≡ Ok args → Arguments params ps args
arguments_spelled k [] [] args h = subst (λ (bs : List Arg). Arguments [] [] bs) (let e : [] ≡ args = cc in e) no_params
arguments_spelled k [] (piece ∷ ps) args h = absurd (cc)
arguments_spelled k (p ∷ params) [] args h =
    let b = both (read_arg k p []) (read_args (k + 1) params []) args h in
    subst (λ (bs : List Arg). Arguments (p ∷ params) [] bs) b.4 (with_no_piece p params b.0 b.1 (argument_spelled k p [] b.0 b.2) (arguments_spelled (k + 1) params [] b.1 b.3))
arguments_spelled k (p ∷ params) (piece ∷ ps) args h =
    let b = both (read_arg k p piece) (read_args (k + 1) params ps) args h in
    subst (λ (bs : List Arg). Arguments (p ∷ params) (piece ∷ ps) bs) b.4 (by_piece p params piece ps b.0 b.1 (argument_spelled k p piece b.0 b.2) (arguments_spelled (k + 1) params ps b.1 b.3))

-- a call is spelled by this name and these tokens
pub record SpellsCall (name : List ℕ) (ts : List Tok) (c : Call) : Type 0 where
  pub service : name ≡ service_name c.service
  pub args : List Arg
  pub are : Arguments (params_of c.service) (pieces ts) args
  pub same : c.args ≡ args_of args

with_args : (s : Service) (r : Result (List Arg) CallFail) (c : Call) → call_with s (as_args r) ≡ Ok c
    → (args : List Arg) × (r ≡ Ok args) × (record { service = s; args = args_of args } ≡ c)
with_args s (Ok args) c h = (args, refl, (let e : record { service = s; args = args_of args } ≡ c = cc in e))
with_args s (Err e) c h = absurd (cc)

row_spelled : (s : Service) (name : List ℕ) (ts : List Tok) (c : Call) → name ≡ service_name s → read_row (service_row s) ts ≡ Ok c → SpellsCall name ts c
row_spelled s name ts c e h =
    let w = with_args s (read_args 1 (params_of s) (pieces ts)) c h in
    subst (λ (d : Call). SpellsCall name ts d) w.2 (record { service = e; args = w.0; are = arguments_spelled 1 (params_of s) (pieces ts) w.0 w.1; same = refl })

named_spelled : (services : List Service) (name : List ℕ) (ts : List Tok) (c : Call) → read_named (map service_row services) name ts ≡ Ok c → SpellsCall name ts c
named_spelled [] name ts c h = absurd (cc)
named_spelled (s ∷ services) name ts c h =
    either_by {A = Result Call CallFail} (λ r. r ≡ Ok c → SpellsCall name ts c) (bytes_eq (service_name s) name) _ _
    (λ e h. row_spelled s name ts c (sym (bytes_are (service_name s) name e)) h)
    (λ _ h. named_spelled services name ts c h) h

-- what is read as a call is spelled as the call
pub call_spelled : (name : List ℕ) (ts : List Tok) (c : Call) → read_call service_rows (tok.Service name ∷ ts) ≡ Ok c → SpellsCall name ts c
call_spelled name ts c h = named_spelled all_services name ts c h
