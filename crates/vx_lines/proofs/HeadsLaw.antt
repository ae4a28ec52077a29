-- Each head that has a spelling is read back from it.
use Rattle.std.proofs.Common.{◌≡◌, ℕ, ◌<◌, ◌^◌, Bool, true, false, cond, List, [], ◌∷◌, ◌++◌, drop, codes, bytes_eq, Option, Some, None, option_map, refl, sym, ap, ◌∙◌, arith, append-nil}
use Rattle.std.specs.Prelude.{decimal}
use Rattle.std.specs.List.{list_all}
use Rattle.std.proofs.lemmas.Bool.Decides.{nat_tests}
use Rattle.vx_base.proofs.Any.{both_pass}
use Rattle.vx_base.specs.Cond.{name_of}
use Rattle.vx_base.specs.Name.{is_digit}
use Rattle.vx_base.specs.Services.{service_name, params_of, is_of_kind, is_unused, are_args, kind_of, args_list, is_operand}
use Rattle.vx_base.specs.declared.call.Arg.{Arg}
use Rattle.vx_base.specs.declared.call.Arg.TheVariants as arg
use Rattle.vx_base.specs.declared.call.Call.{Call}
use Rattle.vx_base.specs.declared.call.Operand.{Operand}
use Rattle.vx_base.specs.declared.call.Operand.TheVariants as operand
use Rattle.vx_base.specs.declared.call.Target.TheVariants.{Var}
use Rattle.vx_base.specs.declared.cond.Cond.{Cond}
use Rattle.vx_base.specs.declared.number.Id.{Id}
use Rattle.vx_base.specs.declared.number.Pid.{Pid}
use Rattle.vx_base.specs.declared.number.UnitNo.{UnitNo}
use Rattle.vx_base.specs.declared.record.Answer.{Answer}
use Rattle.vx_base.specs.declared.record.Answer.TheVariants as answer
use Rattle.vx_base.specs.declared.record.Event.{Event}
use Rattle.vx_base.specs.declared.record.Event.TheVariants as event
use Rattle.vx_base.specs.declared.record.Rec.{Rec}
use Rattle.vx_base.specs.declared.request.Func.{Func}
use Rattle.vx_base.specs.declared.request.Func.TheVariants.{Read}
use Rattle.vx_base.specs.declared.service.Kind.{Kind}
use Rattle.vx_base.specs.declared.service.Kind.TheVariants as kind
use Rattle.vx_base.specs.declared.service.Param.{Param}
use Rattle.vx_base.specs.declared.service.Service.{Service}
use Rattle.vx_base.specs.declared.service.Service.TheVariants.{SetEf}
use Rattle.vx_image.specs.declared.unit.UnitDecl.{UnitDecl}
use Rattle.vx_text.specs.First.{cond_named}
use Rattle.vx_table.specs.Back.{IsHeld, IsHeldOperand, AreHeld, held_unless}
use Rattle.vx_table.specs.Spelling.{mode_name, func_name, arg_text, args_text, operand_text, target_text, call_text}
use Rattle.vx_lines.specs.Fields.{unit_of}
use Rattle.vx_lines.specs.Numbers.{value_up_to}
use Rattle.vx_lines.specs.ReadEffect.{is_no_feed, unfed}
use Rattle.vx_lines.specs.ReadHead.{as_head, ran_in, down_in, run_in, ast_in, rdn_in, beg_in, don_in, other_head, head_of, from_space, if_head, read_head}
use Rattle.vx_lines.specs.Records.{id_text, pid_text, unit_name, event_text, answer_text, head_line}
use Rattle.vx_lines.specs.Spelled.{IsWord}
use Rattle.vx_lines.specs.SpelledHead.{IsSpelledCall, IsSpelledHead, IsSpelledUnit, HeadsReadBack}
use Rattle.vx_lines.specs.Words.{◌>>=◌, is_inner, first_word, second_word, third_word, fourth_word, behind_word}
use Rattle.vx_lines.proofs.WordsBack.{Whole, run_first, run_behind, first_back, value_back, number_all}
use Rattle.vx_lines.proofs.EffectsBack.{whole, feedless, tight_cond, tight_id, tight_name, tight_number, tight_mode, tight_target, id_back, pid_back}
use Rattle.vx_lines.proofs.HeadsBack.{two_words, run_head, ran_call, served_back, waits_back, first_two, second_two, third_two, behind_two}
use Rattle.std.proofs.lemmas.Bool.{and_parts}
use Rattle.vx_text.proofs.Conditions.{named_by}
use Rattle.vx_base.proofs.Texts.{same_bytes}

-- No line feed stands in a head.

service_feed : (s : Service) → list_all is_no_feed (service_name s) ≡ true
service_feed SetEf = refl
service_feed _ = refl

func_feed : (f : Func) → list_all is_no_feed (func_name f) ≡ true
func_feed Read = refl
func_feed _ = refl

operand_feed : (x : Operand) → is_operand x ≡ true → IsHeldOperand x → list_all is_no_feed (operand_text x) ≡ true
operand_feed (operand.Num n) h held = feedless (decimal n) (tight_number n held)
operand_feed (operand.Cond c) h held = feedless (name_of c) (tight_cond c)
operand_feed (operand.Var v) h held = feedless (v ∷ []) (tight_target (Var v) h)
operand_feed operand.R0 h held = refl
operand_feed operand.Pid h held = refl
operand_feed operand.Prm h held = refl

arg_feed : (k : Kind) (a : Arg) → is_of_kind k a ≡ true → IsHeld a → list_all is_no_feed (arg_text a) ≡ true
arg_feed kind.Value (arg.Value x) h held = operand_feed x h held
arg_feed kind.Target (arg.Target t) h held = feedless (target_text t) (tight_target t h)
arg_feed kind.Mode (arg.Mode m) h held = feedless (mode_name m) (tight_mode m)
arg_feed kind.Name (arg.Name name) h held = feedless name (tight_name name held)
arg_feed kind.Label (arg.Label (Some label)) h held = feedless label (tight_name label held)
arg_feed kind.LabelOrNone (arg.Label (Some label)) h held = feedless label (tight_name label held)
arg_feed kind.LabelOrNone (arg.Label None) h held = refl
arg_feed kind.Func (arg.Func f) h held = func_feed f
arg_feed _ _ h held = absurd (cc)

args_by : (before : ℕ) (k : Kind) (a : Arg) (args : List Arg) (u : Bool) → is_no_feed before ≡ true → is_of_kind k a ≡ true → held_unless u a (AreHeld args) → (AreHeld args → list_all is_no_feed (args_text 44 args) ≡ true) → list_all is_no_feed (cond u [] (before ∷ (arg_text a ++ args_text 44 args))) ≡ true
args_by before k a args true c h held more = refl
args_by before k a args false c h held more = rw (c, both_pass is_no_feed (arg_text a) (args_text 44 args) (arg_feed k a h held.0) (more held.1)) refl

none_by : (u : Bool) (text : List ℕ) → u ≡ true → list_all is_no_feed (cond u [] text) ≡ true
none_by true text h = refl
none_by false text h = absurd (cc)

args_feed : (before : ℕ) (params : List Param) (args : List Arg) → is_no_feed before ≡ true → are_args params args ≡ true → AreHeld args → list_all is_no_feed (args_text before args) ≡ true
args_feed before [] [] c h held = refl
args_feed before [] (a ∷ args) c h held = none_by (is_unused a) _ (and_parts (is_unused a) _ h).0
args_feed before (p ∷ params) [] c h held = absurd (cc)
args_feed before (p ∷ params) (a ∷ args) c h held =
    let parts = and_parts (is_of_kind (kind_of p) a) (are_args params args) h in
    args_by before (kind_of p) a args (is_unused a) c parts.0 held (λ more. args_feed 44 params args refl parts.1 more)

call_feed : (c : Call) → IsSpelledCall c → list_all is_no_feed (call_text c) ≡ true
call_feed c h = both_pass is_no_feed (service_name c.service) (args_text 32 (args_list c.args)) (service_feed c.service) (args_feed 32 (params_of c.service) (args_list c.args) refl h.0 h.1)

digit_feed : (b : ℕ) → is_digit b ≡ true → is_no_feed b ≡ true
digit_feed b h = grind (arith, nat_tests, h)

digit_inner : (b : ℕ) → is_digit b ≡ true → is_inner b ≡ true
digit_inner b h = grind (arith, nat_tests, h)

-- What is read behind the number.

record Behind (units : List UnitDecl) (e : Event) (a : Answer) : Type 0 where
  read : head_of units (32 ∷ (event_text units e ++ 32 ∷ answer_text a)) ≡ Some (as_head e a)
  feed : list_all is_no_feed (event_text units e ++ 32 ∷ answer_text a) ≡ true

if_same : (units : List UnitDecl) (n : ℕ) (r : Rec) → if_head units n (head_line units n r ++ 10 ∷ []) r ≡ Some r
if_same units n r = rw (same_bytes (head_line units n r ++ 10 ∷ [])) refl

whole_head : (units : List UnitDecl) (n : ℕ) (e : Event) (a : Answer) → n < 2 ^ 64 → Behind units e a → read_head units n (head_line units n (as_head e a) ++ 10 ∷ []) ≡ Some (as_head e a)
unfolding read_head
whole_head units n e a h is =
    let rest : List ℕ = event_text units e ++ 32 ∷ answer_text a in
    let line : List ℕ = decimal n ++ 32 ∷ rest in
    let clean : list_all is_no_feed line ≡ true = both_pass is_no_feed (decimal n) (32 ∷ rest) (number_all is_no_feed n digit_feed h) is.feed in
    let cut : unfed (line ++ 10 ∷ []) ≡ line = run_first is_no_feed line (10 ∷ []) clean refl in
    let behind : from_space line ≡ 32 ∷ rest = run_behind is_inner (decimal n) (32 ∷ rest) (number_all is_inner n digit_inner h) refl in
    ap (λ (z : List ℕ). head_of units (from_space z) >>= if_head units n (line ++ 10 ∷ [])) cut
    ∙ ap (λ (z : List ℕ). head_of units z >>= if_head units n (line ++ 10 ∷ [])) behind
    ∙ ap (λ (o : Option Rec). o >>= if_head units n (line ++ 10 ∷ [])) is.read
    ∙ if_same units n (as_head e a)

-- RUN and what it came to.

run_behind_number : (units : List UnitDecl) (p : Pid) (a : Answer) → IsWord p.0 → ran_in (third_word (two_words (codes "RUN") (decimal p.0) (answer_text a))) (two_words (codes "RUN") (decimal p.0) (answer_text a)) ≡ Some a → list_all is_no_feed (answer_text a) ≡ true → Behind units (event.Run p) a
run_behind_number units p a h is feed =
    let number = tight_number p.0 h in
    let rest : List ℕ = answer_text a in
    record {
      read = run_head units p (two_words (codes "RUN") (decimal p.0) rest) (Some a) (first_two (codes "RUN") (decimal p.0) rest refl) (second_two (codes "RUN") (decimal p.0) rest refl (whole (decimal p.0) number)) h is;
      feed = both_pass is_no_feed (decimal p.0) (32 ∷ rest) (feedless (decimal p.0) number) feed;
    }

-- RUN and a fixed word
run_word : (units : List UnitDecl) (p : Pid) (a : Answer) → IsWord p.0 → ((line : List ℕ) → ran_in (first_word (32 ∷ answer_text a)) line ≡ Some a) → list_all is_no_feed (answer_text a) ≡ true → Behind units (event.Run p) a
run_word units p a h is feed =
    let line : List ℕ = two_words (codes "RUN") (decimal p.0) (answer_text a) in
    run_behind_number units p a h (ap (λ (z : List ℕ). ran_in z line) (third_two (codes "RUN") (decimal p.0) (answer_text a) refl (whole (decimal p.0) (tight_number p.0 h))) ∙ is line) feed

run_call : (units : List UnitDecl) (p : Pid) (c : Call) (cond : Cond) → IsWord p.0 → IsSpelledCall c → Behind units (event.Run p) (answer.Service c cond)
run_call units p c cond h k = run_behind_number units p (answer.Service c cond) h (ran_call p.0 (drop 1 (call_text c)) (name_of cond) h (whole (name_of cond) (tight_cond cond)) ∙ served_back c cond k.0 k.1 k.2) (both_pass is_no_feed (call_text c) (32 ∷ name_of cond) (call_feed c k) (feedless (name_of cond) (tight_cond cond)))

run_wait : (units : List UnitDecl) (p : Pid) (c : Call) → IsWord p.0 → IsSpelledCall c → Behind units (event.Run p) (answer.Wait c)
run_wait units p c h k = run_behind_number units p (answer.Wait c) h (ran_call p.0 (drop 1 (call_text c)) (codes "WAIT") h refl ∙ waits_back c k.0 k.1 k.2) (both_pass is_no_feed (call_text c) (codes " WAIT") (call_feed c k) refl)

-- one word behind two
alone : (word : List ℕ) → Whole word → first_word (32 ∷ word) ≡ word
alone word h = ap (λ (z : List ℕ). first_word (32 ∷ z)) (sym (append-nil word)) ∙ first_back word [] h

fourth_word_of : (line word : List ℕ) → behind_word (behind_word line) ≡ 32 ∷ (codes "RESUME" ++ 32 ∷ word) → Whole word → fourth_word line ≡ word
fourth_word_of line word e h = ap second_word e ∙ ap first_word (run_behind is_inner (codes "RESUME") (32 ∷ word) refl refl) ∙ alone word h

run_resume : (units : List UnitDecl) (p : Pid) (cond : Cond) → IsWord p.0 → Behind units (event.Run p) (answer.Resume cond)
run_resume units p cond h =
    let name = name_of cond in
    let rest : List ℕ = codes "RESUME " ++ name in
    let line : List ℕ = two_words (codes "RUN") (decimal p.0) rest in
    let number = whole (decimal p.0) (tight_number p.0 h) in
    let own = whole name (tight_cond cond) in
    let third : third_word line ≡ codes "RESUME" = third_two (codes "RUN") (decimal p.0) rest refl number ∙ run_first is_inner (codes "RESUME") (32 ∷ name) refl refl in
    let fourth : fourth_word line ≡ name = fourth_word_of line name (behind_two (codes "RUN") (decimal p.0) rest refl number) own in
    run_behind_number units p (answer.Resume cond) h (ap (λ (z : List ℕ). ran_in z line) third ∙ ap (λ (z : List ℕ). option_map answer.Resume (cond_named z)) fourth ∙ ap (option_map answer.Resume) (named_by cond)) (feedless name (tight_cond cond))

-- The other events.

-- an event's word, one word behind it, and the answer's
other : (units : List UnitDecl) (word b rest : List ℕ) → Whole word → bytes_eq word (codes "RUN") ≡ false → head_of units (two_words word b rest) ≡ other_head units word (two_words word b rest)
other units word b rest h no_run =
    let line : List ℕ = two_words word b rest in
    ap (λ (z : List ℕ). cond (bytes_eq z (codes "RUN")) (run_in line) (other_head units z line)) (first_two word b rest h) ∙ rw no_run refl

ast_words : (line : List ℕ) (p : Pid) (id : Id) → IsWord p.0 → IsWord id.0 → second_word line ≡ pid_text p → third_word line ≡ id_text id → ast_in line ≡ Some (as_head (event.Ast p) (answer.Ast id))
ast_words line p id h k b c = rw (b, c, pid_back p h, id_back id k) refl

rdn_words : (line word : List ℕ) (p : Pid) (a : Answer) → IsWord p.0 → second_word line ≡ pid_text p → third_word line ≡ word → down_in word ≡ Some a → rdn_in line ≡ Some (as_head (event.Rdn p) a)
rdn_words line word p a h b c d = rw (b, c, pid_back p h, d) refl

beg_words : (units : List UnitDecl) (line : List ℕ) (u : UnitNo) (id : Id) → unit_of units (unit_name units u) ≡ Some u → IsWord id.0 → second_word line ≡ unit_name units u → third_word line ≡ id_text id → beg_in units line ≡ Some (as_head (event.Beg u) (answer.Unit id))
beg_words units line u id h k b c = rw (b, c, h, id_back id k) refl

don_words : (units : List UnitDecl) (line : List ℕ) (u : UnitNo) (id : Id) → unit_of units (unit_name units u) ≡ Some u → IsWord id.0 → second_word line ≡ unit_name units u → third_word line ≡ id_text id → don_in units line ≡ Some (as_head (event.Don u) (answer.Unit id))
don_words units line u id h k b c = rw (b, c, h, id_back id k) refl

third_alone : (word b c : List ℕ) → Whole word → Whole b → Whole c → third_word (two_words word b c) ≡ c
third_alone word b c h k l = third_two word b c h k ∙ alone c l

ast_behind : (units : List UnitDecl) (p : Pid) (id : Id) → IsWord p.0 → IsWord id.0 → Behind units (event.Ast p) (answer.Ast id)
ast_behind units p id h k =
    let number = whole (decimal p.0) (tight_number p.0 h) in
    let own = whole (id_text id) (tight_id id k) in
    record {
      read = other units (codes "AST") (decimal p.0) (id_text id) refl refl ∙ ast_words (two_words (codes "AST") (decimal p.0) (id_text id)) p id h k (second_two (codes "AST") (decimal p.0) (id_text id) refl number) (third_alone (codes "AST") (decimal p.0) (id_text id) refl number own);
      feed = both_pass is_no_feed (decimal p.0) (32 ∷ id_text id) (feedless (decimal p.0) (tight_number p.0 h)) (feedless (id_text id) (tight_id id k));
    }

rdn_behind : (units : List UnitDecl) (p : Pid) (a : Answer) → IsWord p.0 → Whole (answer_text a) → down_in (answer_text a) ≡ Some a → list_all is_no_feed (answer_text a) ≡ true → Behind units (event.Rdn p) a
rdn_behind units p a h own is feed =
    let number = whole (decimal p.0) (tight_number p.0 h) in
    let word : List ℕ = answer_text a in
    record {
      read = other units (codes "RDN") (decimal p.0) word refl refl ∙ rdn_words (two_words (codes "RDN") (decimal p.0) word) word p a h (second_two (codes "RDN") (decimal p.0) word refl number) (third_alone (codes "RDN") (decimal p.0) word refl number own) is;
      feed = both_pass is_no_feed (decimal p.0) (32 ∷ word) (feedless (decimal p.0) (tight_number p.0 h)) feed;
    }

beg_behind : (units : List UnitDecl) (u : UnitNo) (id : Id) → IsSpelledUnit units u → IsWord id.0 → Behind units (event.Beg u) (answer.Unit id)
beg_behind units u id h k =
    let name = unit_name units u in
    let named = tight_name name h.0 in
    let own = whole (id_text id) (tight_id id k) in
    record {
      read = other units (codes "BEG") name (id_text id) refl refl ∙ beg_words units (two_words (codes "BEG") name (id_text id)) u id h.1 k (second_two (codes "BEG") name (id_text id) refl (whole name named)) (third_alone (codes "BEG") name (id_text id) refl (whole name named) own);
      feed = both_pass is_no_feed name (32 ∷ id_text id) (feedless name named) (feedless (id_text id) (tight_id id k));
    }

don_behind : (units : List UnitDecl) (u : UnitNo) (id : Id) → IsSpelledUnit units u → IsWord id.0 → Behind units (event.Don u) (answer.Unit id)
don_behind units u id h k =
    let name = unit_name units u in
    let named = tight_name name h.0 in
    let own = whole (id_text id) (tight_id id k) in
    record {
      read = other units (codes "DON") name (id_text id) refl refl ∙ don_words units (two_words (codes "DON") name (id_text id)) u id h.1 k (second_two (codes "DON") name (id_text id) refl (whole name named)) (third_alone (codes "DON") name (id_text id) refl (whole name named) own);
      feed = both_pass is_no_feed name (32 ∷ id_text id) (feedless name named) (feedless (id_text id) (tight_id id k));
    }

tick_behind : (units : List UnitDecl) (t : ℕ) → t < 2 ^ 64 → Behind units event.Tick (answer.Time t)
tick_behind units t h =
    let line : List ℕ = 32 ∷ (codes "TICK" ++ 32 ∷ decimal t) in
    let own = number_all is_inner t digit_inner h in
    let first : first_word line ≡ codes "TICK" = run_first is_inner (codes "TICK") (32 ∷ decimal t) refl refl in
    let second : second_word line ≡ decimal t = ap first_word (run_behind is_inner (codes "TICK") (32 ∷ decimal t) refl refl) ∙ alone (decimal t) own in
    let value : value_up_to 18446744073709551615 (decimal t) ≡ Some t = value_back 18446744073709551615 t (omega (arith, h)) h in
    record {
      read = ap (λ (z : List ℕ). cond (bytes_eq z (codes "RUN")) (run_in line) (other_head units z line)) first ∙ ap (λ (z : List ℕ). value_up_to 18446744073709551615 z >>= λ u. Some (as_head event.Tick (answer.Time u))) second ∙ ap (λ (o : Option ℕ). o >>= λ u. Some (as_head event.Tick (answer.Time u))) value;
      feed = number_all is_no_feed t digit_feed h;
    }

behind_of : (units : List UnitDecl) (e : Event) (a : Answer) → IsSpelledHead units e a → Behind units e a
behind_of units (event.Run p) (answer.Service c cond) h = run_call units p c cond h.0 h.1
behind_of units (event.Run p) (answer.Wait c) h = run_wait units p c h.0 h.1
behind_of units (event.Run p) (answer.Resume cond) h = run_resume units p cond h
behind_of units (event.Run p) answer.Return h = run_word units p answer.Return h (λ line. refl) refl
behind_of units (event.Run p) answer.End h = run_word units p answer.End h (λ line. refl) refl
behind_of units (event.Run p) answer.Local h = run_word units p answer.Local h (λ line. refl) refl
behind_of units (event.Ast p) (answer.Ast id) h = ast_behind units p id h.0 h.1
behind_of units (event.Rdn p) answer.Handler h = rdn_behind units p answer.Handler h refl refl refl
behind_of units (event.Rdn p) answer.Busy h = rdn_behind units p answer.Busy h refl refl refl
behind_of units (event.Rdn p) answer.Gone h = rdn_behind units p answer.Gone h refl refl refl
behind_of units (event.Beg u) (answer.Unit id) h = beg_behind units u id h.0 h.1
behind_of units (event.Don u) (answer.Unit id) h = don_behind units u id h.0 h.1
behind_of units event.Tick (answer.Time t) h = tick_behind units t h
behind_of units _ _ h = absurd h

pub heads_back : HeadsReadBack
heads_back units n e a m h = whole_head units n e a m (behind_of units e a h)

pub head_feed : (units : List UnitDecl) (n : ℕ) (e : Event) (a : Answer) → n < 2 ^ 64 → IsSpelledHead units e a → list_all is_no_feed (head_line units n (as_head e a)) ≡ true
head_feed units n e a m h = both_pass is_no_feed (decimal n) (32 ∷ (event_text units e ++ 32 ∷ answer_text a)) (number_all is_no_feed n digit_feed m) (behind_of units e a h).feed
