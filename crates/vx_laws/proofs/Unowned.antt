-- If nothing stands in the lists for a process, no id of it is open in the records.
use Rattle.std.proofs.Common.{◌≡◌, ◌∙◌, ℕ, List, Bool, true, false, cond, not, ◌==◌, ◌||◌, Option, Some, None, refl, sym, ap, subst}
use Rattle.std.specs.List.{AllByRecursion, list_any}
use Rattle.std.proofs.lemmas.Bool.{and_parts, eqb-true, false_from_ne_true}
use Rattle.vx_record.specs.Types.{Attention, Id, Opened, Pid, Request, Timer}
use Rattle.vx_base.specs.declared.effects.Opened.TheVariants as opened
use Rattle.vx_record.specs.Charges.{is_same}
use Rattle.vx_record.specs.Rundown.{this_handler}
use Rattle.vx_record.specs.State.{State}
use Rattle.vx_record.proofs.Lists.{all_weaker, all_both}
use Rattle.vx_laws.specs.Items.{Item}
use Rattle.vx_laws.specs.Leftovers.{is_open_of}
use Rattle.vx_laws.specs.Lives.{Life, life, is_open}
use Rattle.vx_laws.proofs.Calm.{Still}
use Rattle.vx_laws.proofs.Leftover.{Cleared}
use Rattle.vx_laws.proofs.Listed.{holds, holds_in, Listed, this_ast}
use Rattle.vx_laws.proofs.Opens.{any_told}
use Rattle.vx_laws.proofs.Right.{lives_more}
use Rattle.vx_laws.proofs.Seats.{seat, body_seat, routine_seat, request_life, timer_life, attention_life, RequestLives, TimerLives, AttentionLives}
use Rattle.vx_laws.proofs.Stands.{Stands}
use Rattle.vx_base.specs.Lists.{is_some_and}

abbrev pub is_not_of : Pid → Life → Bool
is_not_of p l = not (is_same l.p p)

pub pid_of : (a b : Pid) → is_same a b ≡ true → a ≡ b
pid_of a b e = ap (λ (n : ℕ). let x : Pid = record { 0 = n } in x) (eqb-true a.0 b.0 e)

other_owner : (p r : Pid) (l : Life) → is_same r p ≡ false → is_same l.p r ≡ true → is_not_of p l ≡ true
other_owner p r l e k = subst (λ (q : Pid). not (is_same q p) ≡ true) (sym (pid_of l.p r k)) (rw e refl)

requests_not : (p : Pid) (past : List Item) (rs : List Request) → AllByRecursion (RequestLives past) rs → AllByRecursion (λ r. is_same r.req.p p ≡ false) rs → AllByRecursion (λ r. is_some_and (is_not_of p) (life past r.req.id) ≡ true) rs
requests_not p past rs h k = all_weaker (λ r. RequestLives past r × (is_same r.req.p p ≡ false)) (λ r. is_some_and (is_not_of p) (life past r.req.id) ≡ true) (λ r e. lives_more 1 (request_life r) (is_not_of p) (life past r.req.id) (λ l x y. other_owner p r.req.p l e.1 (and_parts (is_same l.p r.req.p) _ y).0) e.0) rs (all_both (RequestLives past) (λ r. is_same r.req.p p ≡ false) rs h k)

timers_not : (p : Pid) (past : List Item) (ts : List Timer) → AllByRecursion (TimerLives past) ts → AllByRecursion (λ t. is_same t.p p ≡ false) ts → AllByRecursion (λ t. is_some_and (is_not_of p) (life past t.id) ≡ true) ts
timers_not p past ts h k = all_weaker (λ t. TimerLives past t × (is_same t.p p ≡ false)) (λ t. is_some_and (is_not_of p) (life past t.id) ≡ true) (λ t e. lives_more 2 (timer_life t) (is_not_of p) (life past t.id) (λ l x y. other_owner p t.p l e.1 (and_parts (is_same l.p t.p) _ y).0) e.0) ts (all_both (TimerLives past) (λ t. is_same t.p p ≡ false) ts h k)

attention_not : (p : Pid) (past : List Item) (xs : List Attention) → AllByRecursion (AttentionLives past) xs → AllByRecursion (λ a. is_same a.p p ≡ false) xs → AllByRecursion (λ a. is_some_and (is_not_of p) (life past a.id) ≡ true) xs
attention_not p past xs h k = all_weaker (λ a. AttentionLives past a × (is_same a.p p ≡ false)) (λ a. is_some_and (is_not_of p) (life past a.id) ≡ true) (λ a e. lives_more 3 (attention_life a) (is_not_of p) (life past a.id) (λ l x y. other_owner p a.p l e.1 (and_parts (is_same l.p a.p) _ y).0) e.0) xs (all_both (AttentionLives past) (λ a. is_same a.p p ≡ false) xs h k)

-- an id of p is in none of the seats

owned_seat : (s : State) (past : List Item) (p : Pid) (id : Id) (n : ℕ) → Cleared p s → Still s p → Stands s None past → is_some_and (is_not_of p) (life past id) ≡ false → holds_in s None id p n ≡ true → (n == 0) ≡ true
owned_seat s past p id n c w g own =
    by_cond (n == 1) _ _ (λ e. absurd_by (any_told (λ (r : Request). r.req.id) (is_not_of p) past id s.requests (requests_not p past s.requests g.requests c.emptied.requests) e))
    (by_cond (n == 2) _ _ (λ e. absurd_by (any_told (λ (t : Timer). t.id) (is_not_of p) past id s.timers (timers_not p past s.timers g.timers c.emptied.timers) e))
    (by_cond (n == 3) _ _ (λ e. absurd_by (any_told (λ (a : Attention). a.id) (is_not_of p) past id s.attention (attention_not p past s.attention g.attention c.emptied.attention) e))
    (by_cond (n == 4) _ _ (λ e. let never : false ≡ true = sym (ap (list_any (this_handler id)) w.1.1) ∙ e in absurd (cc))
    (by_cond (n == 5) _ _ (λ e. let never : false ≡ true = sym (ap (list_any (this_ast id)) c.emptied.asts) ∙ e in absurd (cc))
    (by_cond (n == 6) _ _ (λ e. let never : false ≡ true = e in absurd (cc)) (λ e. e))))))
  where
    by_cond : (b x y : Bool) → (x ≡ true → (n == 0) ≡ true) → (y ≡ true → (n == 0) ≡ true) → cond b x y ≡ true → (n == 0) ≡ true
    by_cond true x y f h e = f e
    by_cond false x y f h e = h e

    absurd_by : is_some_and (is_not_of p) (life past id) ≡ true → (n == 0) ≡ true
    absurd_by e = let never : true ≡ false = sym e ∙ own in absurd (cc)

pub open_seated : (b r q : Bool) (k : Opened) → (b || r) ≡ true → ((cond b (body_seat k) (cond r (routine_seat q) 0)) == 0) ≡ false
open_seated true r q opened.Bio e = refl
open_seated true r q opened.Dio e = refl
open_seated true r q opened.Timer e = refl
open_seated true r q opened.Wake e = refl
open_seated true r q opened.Attn e = refl
open_seated true r q opened.Exh e = refl
open_seated true r q k e = refl
open_seated false true true k e = refl
open_seated false true false k e = refl
open_seated false false q k e = absurd (let never : false ≡ true = e in cc)

pub nothing_owned : (s : State) (past : List Item) (p : Pid) (id : Id) → Cleared p s → Still s p → Stands s None past → Listed s None past → is_some_and (is_open_of p) (life past id) ≡ false
nothing_owned s past p id c w g h = by_life (life past id) refl (h id)
  where
    by_life : (o : Option Life) → life past id ≡ o → holds s None id o ≡ true → is_some_and (is_open_of p) o ≡ false
    by_life None is k = refl
    by_life (Some l) is k =
        false_from_ne_true (is_open_of p l) (λ e.
        let parts = and_parts (is_open l) (is_same l.p p) e in
        let there : holds_in s None id p (seat l) ≡ true = subst (λ (q : Pid). holds_in s None id q (seat l) ≡ true) (pid_of l.p p parts.1) k in
        let own : is_some_and (is_not_of p) (life past id) ≡ false = ap (is_some_and (is_not_of p)) is ∙ ap not parts.1 in
        let zero_seat = owned_seat s past p id (seat l) c w g own there in
        let never : false ≡ true = sym (open_seated l.body l.routine l.queued l.kind parts.0) ∙ zero_seat in cc)
