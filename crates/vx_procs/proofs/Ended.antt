-- Timers and wakes that end, the first of them at a time.
use Rattle.std.proofs.Common.{◌≡◌, ◌<◌, [], ◌∷◌, List, Bool, length, Some, None, option_map, ap, sym, subst, ◌∙◌, arith}
use Rattle.std.specs.List.{filter, find}
use Rattle.vx_base.proofs.Lists.{none_mapped, some_mapped}
use Rattle.vx_base.specs.Lists.{less}
use Rattle.vx_base.proofs.First.{less_none}
use Rattle.vx_record.specs.Types.{Id, Timer}
use Rattle.vx_base.specs.declared.effects.Effect.TheVariants as effect
use Rattle.vx_record.specs.State.{State}
use Rattle.vx_record.specs.Parts.{Part, tells, and_then, each}
use Rattle.vx_record.specs.Sound.{AreOrdered, timer_id}
use Rattle.vx_record.specs.Timers.{drop_timer, drop_timers}
use Rattle.vx_record.proofs.Lists.{ordered_less}
use Rattle.vx_procs.specs.Kernel.{Acts, Fits, Kernel, told, with_state}
use Rattle.vx_procs.specs.Words.{without_timer}
use Rattle.vx_procs.proofs.Booked.{length-less}
use Rattle.vx_procs.proofs.Firsts.{filter_found, filter_none, less_same}
use Rattle.vx_procs.proofs.Rest.{IsDoing, acted, doing_begun, doing_end, doing_on, doing_room}

-- What was found, by its id.

timer_first : (s : State) (test : Timer → Bool) (t : Timer) → AreOrdered timer_id 0 s.next s.timers → find test s.timers ≡ Some t → drop_timers test s ≡ and_then (tells (effect.Drop t.id) (without_timer test s)) (drop_timers test)
timer_first s test t order found =
    let rest = filter test (less test s.timers) in
    let told : State → Part = λ u. and_then (tells (effect.Drop t.id) u) (each drop_timer rest) in
    ap (λ ts. each drop_timer ts s) (filter_found test s.timers t found)
    ∙ ap (λ (ts : List Timer). told (record s { timers = ts })) (less_same timer_id test 0 s.next s.timers t order found)

-- The loop: what is left to end, of entries in id order.
pub record IsEnding (test : Timer → Bool) (first k : Kernel) : Type 0 where
  pub order : AreOrdered timer_id 0 k.state.next k.state.timers
  pub doing : IsDoing (drop_timers test first.state) first (drop_timers test k.state) k

pub ending_begun : (test : Timer → Bool) (k : Kernel) → AreOrdered timer_id 0 k.state.next k.state.timers → Fits k (drop_timers test k.state).effects → IsEnding test k k
ending_begun test k order room = record { order = order; doing = doing_begun (drop_timers test k.state) k room }

pub ending_room : (test : Timer → Bool) (first k l : Kernel) (id : Id) → IsEnding test first k → Some id ≡ option_map (λ t. t.id) (find test k.state.timers) → l ≡ with_state k (without_timer test k.state) → Fits l (effect.Drop id ∷ [])
ending_room test first k l id h given there =
    let found = some_mapped (λ (t : Timer). t.id) (find test k.state.timers) id (sym given) in
    let room = doing_room (drop_timers test first.state) first k (drop_timers test k.state) (tells (effect.Drop found.0.id) (without_timer test k.state)) (drop_timers test) (timer_first k.state test found.0 h.order found.1) h.doing in
    rw there room

pub ending_more : (test : Timer → Bool) (first k l n : Kernel) (id : Id) → IsEnding test first k → Some id ≡ option_map (λ t. t.id) (find test k.state.timers) → l ≡ with_state k (without_timer test k.state) → n ≡ told l (effect.Drop id ∷ []) → IsEnding test first n
ending_more test first k l n id h given there tells_it =
    let found = some_mapped (λ (t : Timer). t.id) (find test k.state.timers) id (sym given) in
    let a : Part = tells (effect.Drop found.0.id) (without_timer test k.state) in
    let did : n ≡ acted k a = tells_it ∙ (ap (λ (x : Kernel). told x (effect.Drop id ∷ [])) there ∙ ap (λ (i : Id). told (with_state k (without_timer test k.state)) (effect.Drop i ∷ [])) (sym found.2)) in
    record {
      order = subst (λ (x : Kernel). AreOrdered timer_id 0 x.state.next x.state.timers) (sym did) (ordered_less timer_id test 0 k.state.next k.state.timers h.order);
      doing = doing_on (drop_timers test first.state) first k n (drop_timers test k.state) a (drop_timers test) (timer_first k.state test found.0 h.order found.1) did h.doing;
    }

pub ending_fewer : (test : Timer → Bool) (k l : Kernel) (id : Id) → Some id ≡ option_map (λ t. t.id) (find test k.state.timers) → l ≡ with_state k (without_timer test k.state) → length l.state.timers < length k.state.timers
ending_fewer test k l id given there =
    let found = some_mapped (λ (t : Timer). t.id) (find test k.state.timers) id (sym given) in
    let fewer = length-less test k.state.timers found.0 found.1 in
    rw there (omega (arith, fewer))

pub ending_end : (test : Timer → Bool) (first k l : Kernel) → IsEnding test first k → None ≡ option_map (λ t. t.id) (find test k.state.timers) → l ≡ with_state k (without_timer test k.state) → Acts (drop_timers test first.state) first l
ending_end test first k l h given there =
    let none = none_mapped (λ (t : Timer). t.id) (find test k.state.timers) (sym given) in
    doing_end (drop_timers test first.state) first k l (drop_timers test k.state) (ap (λ ts. each drop_timer ts k.state) (filter_none test k.state.timers none)) (there ∙ ap (λ (ts : List Timer). with_state k (record k.state { timers = ts })) (less_none test k.state.timers none)) h.doing
