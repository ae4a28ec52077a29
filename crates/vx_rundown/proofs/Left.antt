-- What rundown relies on stays, as its process changes, and the timers, the attention entries, the mailboxes and the common clusters.
use Rattle.std.proofs.Common.{◌≡◌, ◌≤◌, ℕ, ◌-◌, List, [], ◌∷◌, Bool, true, None, length, length-set, refl, arith}
use Rattle.std.specs.List.{filter}
use Rattle.vx_base.specs.Clusters.{dissociated}
use Rattle.vx_record.specs.Types.{Attention, Effect, Handler, Mode, Phase, Pid, Queued, Timer}
use Rattle.vx_base.specs.declared.frame.Phase.TheVariants as phase
use Rattle.vx_record.proofs.Apart.{dissociated_only}
use Rattle.vx_record.proofs.Cancelled.{drop_timers_moves}
use Rattle.vx_record.proofs.Fits.{field_same}
use Rattle.vx_record.proofs.Ground.{at_set}
use Rattle.vx_record.proofs.Moves.{MovesBy, PartBy, clusters, dissociates, end_asts, end_handlers, quiet}
use Rattle.vx_record.proofs.SoundFlags.{dissociated_stands}
use Rattle.vx_record.proofs.Steps.{handling_silent}
use Rattle.vx_record.specs.Cancel.{drop_attention}
use Rattle.vx_record.specs.Charges.{charged_timer, is_attention_of}
use Rattle.vx_record.specs.Mailboxes.{this_attention}
use Rattle.vx_record.specs.Parts.{Part, each}
use Rattle.vx_record.specs.Rundown.{drop_ast, drop_asts, drop_handler, drop_handlers, in_phase, is_ast_reached, part_with, without_ast, without_handler}
use Rattle.vx_record.specs.State.{Process, State, IsProcess, change, nobody, process_at}
use Rattle.vx_record.specs.Timers.{drop_timer, drop_timers, this_timer}
use Rattle.vx_procs.specs.Kernel.{Acts, Kernel, changed, with_state}
use Rattle.vx_procs.specs.Ready.{owed}
use Rattle.vx_procs.proofs.Firsts.{less_few}
use Rattle.vx_rundown.specs.Leaving.{IsLeaving}
use Rattle.vx_rundown.proofs.Standing.{base_of, sound_moved}
use Rattle.vx_record.proofs.OwnIds.{tally_less}

-- The processes are those that were there, with their declarations and frames, and no more ASTs are owed to them; and if rows is
-- true, the channels are those that were there.
pub record Follows (rows : Bool) (s t : State) : Type 0 where
  pub system : t.system ≡ s.system
  pub many : length t.procs ≡ length s.procs
  pub decl : (q : Pid) → (process_at t q).decl ≡ (process_at s q).decl
  pub frames : (q : Pid) → (process_at t q).frames ≡ (process_at s q).frames
  pub channels : rows ≡ true → (q : Pid) → (process_at t q).channels ≡ (process_at s q).channels
  pub owed : (q : Pid) → IsProcess s q → owed t q ≤ owed s q

pub made_then : {rows : Bool} {s t : State} {q : Pid} → Follows rows s t → IsProcess s q → IsProcess t q
made_then h made = record { above = made.above; within = omega (arith, made.within, h.many) }

-- the processes are as they were
pub others_follow : {rows : Bool} {s t : State} → t.system ≡ s.system → t.procs ≡ s.procs → ((q : Pid) → owed t q ≤ owed s q) → Follows rows s t
others_follow system same owes = grind arith

pub follows_still : {rows : Bool} {s : State} → Follows rows s s
follows_still = others_follow refl refl (λ q. omega arith)

pub follows_then : {rows : Bool} {s t u : State} → Follows rows s t → Follows rows t u → Follows rows s u
follows_then a b = grind arith

pub each_follows : {A : Type 0} {rows : Bool} (f : State → A → Part) → ((s : State) (x : A) → Follows rows s (f s x).after) → (xs : List A) (s : State) → Follows rows s (each f xs s).after
each_follows f one [] s = follows_still
each_follows f one (x ∷ xs) s = follows_then (one s x) (each_follows f one xs (f s x).after)

-- a process that is changed, and has no more ASTs
pub record IsLess (rows : Bool) (x y : Process) : Type 0 where
  pub decl : y.decl ≡ x.decl
  pub frames : y.frames ≡ x.frames
  pub channels : rows ≡ true → y.channels ≡ x.channels
  pub asts : length y.asts ≤ length x.asts

pub change_follows : {rows : Bool} (s : State) (p : Pid) (f : Process → Process) → IsLess rows (process_at s p) (f (process_at s p)) → Follows rows s (change s p f)
change_follows s p f h = record {
  system = refl;
  many = length-set s.procs (p.0 - 1) (f (process_at s p));
  decl = λ q. field_same (λ (pr : Process). pr.decl) f s p q h.decl;
  frames = λ q. field_same (λ (pr : Process). pr.frames) f s p q h.frames;
  channels = λ e q. field_same (λ (pr : Process). pr.channels) f s p q (h.channels e);
  owed = λ q made.
      let few = at_set (λ (x y : Process). length y.asts ≤ length x.asts) (λ x. omega arith) s.procs (p.0 - 1) (q.0 - 1) (f (process_at s p)) nobody h.asts in
      omega (arith, few);
}

-- What rundown relies on, after moves of the machine.
pub leaving_by : {rows : Bool} {k : Kernel} {p : Pid} {es : List Effect} {t : State} → MovesBy true k.state None es t None → Follows rows k.state t → IsLeaving k p → IsLeaving (with_state k t) p
leaving_by {rows} {k} {p} {es} {t} moves f h = grind (arith, made_then, sound_moved)

-- the state after a part, whatever it told
pub leaving_acted : (k : Kernel) {l : Kernel} {p : Pid} (part : Part) → Acts part k l → IsLeaving (with_state k part.after) p → IsLeaving l p
leaving_acted k part did h = grind arith

-- In another phase.

pub phase_follows : (s : State) (p : Pid) (ph : Phase) → Follows true s (change s p (in_phase ph))
phase_follows s p ph = change_follows s p (in_phase ph) (record { decl = refl; frames = refl; channels = λ e. refl; asts = omega arith })

pub leaving_handling : (k : Kernel) (p : Pid) (m : Mode) → IsLeaving k p → IsLeaving (changed k p (in_phase (phase.Handlers m))) p
leaving_handling k p m h = leaving_by (quiet k.state None p (in_phase (phase.Handlers m)) (handling_silent k.state p m)) (phase_follows k.state p (phase.Handlers m)) h

-- Without the ASTs of a mode, without exit handlers, without timers and attention entries, and without associations.

ast_follows : (p : Pid) (s : State) (q : Queued) → Follows true s (drop_ast p s q).after
ast_follows p s q = change_follows s p (without_ast q.id) (record { decl = refl; frames = refl; channels = λ e. refl; asts = less_few _ (process_at s p).asts })

pub leaving_asts : (p : Pid) (m : Mode) (k : Kernel) → IsLeaving k p → IsLeaving (with_state k (drop_asts p m k.state).after) p
leaving_asts p m k h = leaving_by (end_asts k.state p m h.made) (each_follows (drop_ast p) (ast_follows p) (filter (is_ast_reached m) (process_at k.state p).asts) k.state) h

pub handler_follows : (p : Pid) (s : State) (d : Handler) → Follows true s (drop_handler p s d).after
handler_follows p s d = change_follows s p (without_handler d.id) (record { decl = refl; frames = refl; channels = λ e. refl; asts = omega arith })

pub leaving_handlers : (p : Pid) (test : Handler → Bool) (k : Kernel) → IsLeaving k p → IsLeaving (with_state k (drop_handlers k.state p test).after) p
leaving_handlers p test k h = leaving_by (end_handlers k.state p test h.made) (each_follows (drop_handler p) (handler_follows p) (filter test (process_at k.state p).handlers) k.state) h

timer_follows : (s : State) (t : Timer) → Follows true s (drop_timer s t).after
timer_follows s t = others_follow refl refl (λ q. let few = tally_less (charged_timer q) (this_timer t.id) s.timers in omega (arith, few))

pub timers_follow : (test : Timer → Bool) (s : State) → Follows true s (drop_timers test s).after
timers_follow test s = each_follows drop_timer timer_follows (filter test s.timers) s

-- an entry gives the place of its AST back
pub attention_follows : (s : State) (a : Attention) → Follows true s (drop_attention s a).after
attention_follows s a = others_follow refl refl (λ q. let few = tally_less (is_attention_of q) (this_attention a.id) s.attention in omega (arith, few))

pub leaving_timers : (test : Timer → Bool) {p : Pid} {k : Kernel} → IsLeaving k p → IsLeaving (with_state k (drop_timers test k.state).after) p
leaving_timers test {p} {k} h = leaving_by (drop_timers_moves k.state test (base_of k.state h.sound)) (timers_follow test k.state) h

pub leaving_parted : (p : Pid) (n : ℕ) (k : Kernel) → IsLeaving k p → IsLeaving (with_state k (part_with p n k.state).after) p
leaving_parted p n k h =
    let s = k.state in
    let moves : PartBy true s (part_with p n s) = clusters s None (dissociated s.common p n) (dissociated_only s.common p n) tt (dissociates s.common p n) (λ e i. dissociated_stands (length s.procs) s.common p n i.associations) in
    leaving_by {rows = true} moves (others_follow refl refl (λ q. omega arith)) h
