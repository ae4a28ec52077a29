-- Each record of a run has a spelling.
use Rattle.std.proofs.Common.{◌≡◌, ℕ, zero, suc, ◌<◌, not, nat_lt, true, false, List, [], ◌∷◌, length, map, get_or, bytes_eq, refl, sym, subst, ◌∙◌, arith}
use Rattle.std.specs.List.{AllByRecursion, position_or_len}
use Rattle.std.proofs.lemmas.Bool.{and_parts, lt-ltb, not-true, or_parts}
use Rattle.vx_base.specs.Name.{is_name}
use Rattle.vx_record.specs.Types.{Answer, Cell, Effect, Event, Rec, System, UnitDecl, UnitNo}
use Rattle.vx_base.specs.declared.effects.Cell.TheVariants.{Local, Common}
use Rattle.vx_base.specs.declared.effects.Effect.TheVariants as effect
use Rattle.vx_base.specs.declared.record.Answer.TheVariants as answer
use Rattle.vx_base.specs.declared.record.Event.TheVariants as event
use Rattle.vx_image.specs.WellFormed.{IsWellFormed, are_distinct, is_among}
use Rattle.vx_lines.specs.Spelled.{IsSpelled, IsSpelledCell}
use Rattle.vx_lines.specs.SpelledHead.{IsSpelledHead, IsSpelledUnit}
use Rattle.vx_lines.specs.SpelledRecords.{AreSpelled, IsSpelledRec}
use Rattle.vx_record.proofs.Lists.{all_at}
use Rattle.vx_record.proofs.SoundSteps.{first_sound, step_sound}
use Rattle.vx_record.proofs.Fixed.{step_keeps_system}
use Rattle.vx_record.specs.Events.{step}
use Rattle.vx_record.specs.Runs.{AreSteps, IsStep, first}
use Rattle.vx_record.specs.Sound.{IsSound}
use Rattle.vx_record.specs.State.{State}
use Rattle.vx_spelled.specs.Held.{AreHeldRecs, AreNamed, IsHeldAnswer, IsHeldCell, IsHeldEffect, IsHeldEvent, IsHeldRec}
use Rattle.vx_spelled.specs.Law.{RunsAreSpelled}
use Rattle.vx_spelled.proofs.Fine.{AreFine, IsFine, IsFineCell}
use Rattle.vx_spelled.proofs.Heads.{IsAnswerOf, IsDue, enabled_due, step_good}
use Rattle.vx_base.proofs.Texts.{same_bytes}
use Rattle.vx_image.specs.Absent.{no_unit_decl}

-- Effects.

cell_spelled : (c : Cell) → IsHeldCell c → IsFineCell c → IsSpelledCell c
cell_spelled (Local p n) h k = h
cell_spelled (Common group name n) h k = (h.0, h.1, k)

effect_spelled : (e : Effect) → IsHeldEffect e → IsFine e → IsSpelled e
effect_spelled (effect.Flag c on) h k = cell_spelled c h k
effect_spelled (effect.Var p v n) h k = (h.0, k, h.1)
effect_spelled (effect.Clu p n cluster) h k = (h.0, k.0, k.1, h.1)
effect_spelled _ h k = h

effects_spelled : (es : List Effect) → AllByRecursion IsHeldEffect es → AreFine es → AllByRecursion IsSpelled es
effects_spelled [] h k = tt
effects_spelled (e ∷ es) h k = (effect_spelled e h.0 k.0, effects_spelled es h.1 k.1)

-- Units.

among_at : (a : List ℕ) (us : List UnitDecl) (k : ℕ) → is_among a (map (λ u. u.name) us) ≡ false → k < length us → bytes_eq a (get_or us k no_unit_decl).name ≡ false
among_at a [] k h lt = absurd (omega arith)
among_at a (u ∷ us) zero h lt = (or_parts (bytes_eq a u.name) (is_among a (map (λ u. u.name) us)) h).0
among_at a (u ∷ us) (suc k) h lt = among_at a us k (or_parts (bytes_eq a u.name) (is_among a (map (λ u. u.name) us)) h).1 (omega arith)

place_len : (us : List UnitDecl) (k : ℕ) → k < length us → are_distinct (map (λ u. u.name) us) ≡ true → position_or_len (λ u. bytes_eq u.name (get_or us k no_unit_decl).name) us ≡ k
place_len [] k lt h = absurd (omega arith)
place_len (u ∷ us) zero lt h = rw (same_bytes u.name) refl
place_len (u ∷ us) (suc k) lt h =
    let parts = and_parts (not (is_among u.name (map (λ u. u.name) us))) (are_distinct (map (λ u. u.name) us)) h in
    let within : k < length us = omega arith in
    let other = among_at u.name us k (not-true (is_among u.name (map (λ u. u.name) us)) parts.0) within in
    rw (other, place_len us k within parts.1) (omega arith)

-- a unit of the script has a spelling
pub unit_spelled : (us : List UnitDecl) (u : UnitNo) → u.0 < length us → are_distinct (map (λ u. u.name) us) ≡ true → AreNamed us → IsSpelledUnit us u
unit_spelled us u lt h named =
    let is : nat_lt u.0 (length us) ≡ true = lt-ltb _ _ lt in
    (all_at (λ (x : UnitDecl). is_name x.name ≡ true) us u.0 no_unit_decl named lt, rw (place_len us u.0 lt h, is) refl)

-- Heads.

head_spelled : (s : State) (e : Event) (a : Answer) → are_distinct (map (λ u. u.name) s.system.units) ≡ true → AreNamed s.system.units → length s.units ≡ length s.system.units → IsDue s e → IsHeldEvent e → IsHeldAnswer a → IsAnswerOf e a → IsSpelledHead s.system.units e a
head_spelled s (event.Run p) (answer.Service c cond) distinct named units due h k good = (h, (good.0, k, good.1))
head_spelled s (event.Run p) (answer.Wait c) distinct named units due h k good = (h, (good.0, k, good.1))
head_spelled s (event.Run p) (answer.Resume cond) distinct named units due h k good = h
head_spelled s (event.Run p) answer.Return distinct named units due h k good = h
head_spelled s (event.Run p) answer.End distinct named units due h k good = h
head_spelled s (event.Run p) answer.Local distinct named units due h k good = h
head_spelled s (event.Ast p) (answer.Ast id) distinct named units due h k good = (h, k)
head_spelled s (event.Rdn p) answer.Handler distinct named units due h k good = h
head_spelled s (event.Rdn p) answer.Busy distinct named units due h k good = h
head_spelled s (event.Rdn p) answer.Gone distinct named units due h k good = h
head_spelled s (event.Beg u) (answer.Unit id) distinct named units due h k good = (unit_spelled s.system.units u (omega (arith, due.0, units)) distinct named, k)
head_spelled s (event.Don u) (answer.Unit id) distinct named units due h k good = (unit_spelled s.system.units u (omega (arith, due.0, units)) distinct named, k)
head_spelled s event.Tick (answer.Time t) distinct named units due h k good = k
head_spelled s _ _ distinct named units due h k good = absurd good

-- Records.

record_spelled : (s : State) (r : Rec) → IsWellFormed s.system → IsSound s → AreNamed s.system.units → IsStep s r → IsHeldRec r → IsSpelledRec s.system.units r
record_spelled s r formed sound named is held =
    let due = enabled_due s r.event is.enabled in
    let good = step_good s r.event formed due in
    let answered : IsAnswerOf r.event r.answer = subst (IsAnswerOf r.event) (sym is.answer) good.0 in
    let fine : AreFine r.effects = subst AreFine (sym is.effects) good.1 in
    (head_spelled s r.event r.answer formed.unit_names named sound.units due held.event held.answer answered, effects_spelled r.effects held.effects fine)

steps_spelled : (system : System) (s : State) (recs : List Rec) → s.system ≡ system → IsWellFormed system → AreNamed system.units → IsSound s → AreSteps s recs → AreHeldRecs recs → AreSpelled system.units recs
steps_spelled system s [] same formed named sound steps held = tt
steps_spelled system s (r ∷ rs) same formed named sound steps held =
    let own : IsWellFormed s.system = subst IsWellFormed (sym same) formed in
    let units : AreNamed s.system.units = subst (λ (x : System). AreNamed x.units) (sym same) named in
    let here : IsSpelledRec s.system.units r = record_spelled s r own sound units steps.0 held.0 in
    (subst (λ (x : System). IsSpelledRec x.units r) same here, steps_spelled system (step s r.event).after rs (step_keeps_system s r.event ∙ same) formed named (step_sound s r.event own sound steps.0.enabled) steps.1 held.1)

pub runs_spelled : RunsAreSpelled
runs_spelled system recs formed named run held = steps_spelled system (first system) recs refl formed named (first_sound system) run.steps held
