-- An event flag that is set or cleared leaves processes, their rooms and charges, and timers as they were.
use Rattle.std.proofs.Common.{◌≡◌, ℕ, ◌+◌, ◌-◌, List, [], ◌∷◌, Bool, length, length-set, not, slice_index_or, refl, ap, sym, subst, ◌∙◌, arith}
use Rattle.vx_base.specs.Lists.{tally}
use Rattle.vx_record.specs.Types.{Cell, Effect, Need, Pid, Queued}
use Rattle.vx_base.specs.Quotas.{is_within, together}
use Rattle.vx_base.specs.declared.effects.Cell.TheVariants.{Local, Common}
use Rattle.vx_base.specs.declared.effects.Effect.TheVariants as effect
use Rattle.vx_record.specs.Charges.{bears_ast, charge, charged_timer, exceeds, is_attention_of, is_charged}
use Rattle.vx_record.specs.Flags.{flag_part, with_cell, with_local_flag}
use Rattle.vx_record.specs.State.{State, IsProcess, change, limits_of, no_decl, nobody, process_at}
use Rattle.vx_record.proofs.Ground.{at_set}
use Rattle.vx_procs.specs.Kernel.{Acts, Kernel, told, with_state}
use Rattle.vx_procs.specs.Ready.{HasSpares}
use Rattle.vx_procs.proofs.Changed.{IsQuiet}
use Rattle.vx_procs.proofs.Quiet.{flag_quiet}

-- each process with a flag of one of them put
flag_at : (s : State) (q p : Pid) (n : ℕ) (on : Bool) → IsQuiet (process_at s p) (process_at (change s q (with_local_flag n on)) p)
flag_at s q p n on =
    at_set IsQuiet (λ x. record { decl = refl; asts = refl; frames = omega arith }) s.procs (q.0 - 1) (p.0 - 1) (with_local_flag n on (process_at s q)) nobody (flag_quiet n on (process_at s q))

pub flagged_made : (s : State) (c : Cell) (on : Bool) (p : Pid) → IsProcess s p → IsProcess (with_cell s c on) p
flagged_made s (Local q n) on p made = record { above = made.above; within = omega (arith, made.within, length-set s.procs (q.0 - 1) (with_local_flag n on (process_at s q))) }
flagged_made s (Common group name n) on p made = record { above = made.above; within = made.within }

spares_by : (k : Kernel) (c : Cell) (on : Bool) (told_of : List Effect) → HasSpares k → HasSpares (told (with_state k (with_cell k.state c on)) told_of)
spares_by k (Local q n) on told_of spares = λ p made.
    let s = k.state in
    let was : IsProcess s p = record { above = made.above; within = omega (arith, made.within, length-set s.procs (q.0 - 1) (with_local_flag n on (process_at s q))) } in
    let has = spares p was in
    let quiet = flag_at s q p n on in
    record { frame = omega (arith, has.frame, quiet.frames); ast = omega (arith, has.ast, ap (λ (qs : List Queued). length qs) quiet.asts) }
spares_by k (Common group name n) on told_of spares = λ p made.
    let has = spares p (record { above = made.above; within = made.within }) in
    record { frame = has.frame; ast = has.ast }

pub flagged_spares : (k l : Kernel) (c : Cell) (on : Bool) → HasSpares k → Acts (flag_part k.state c on) k l → HasSpares l
flagged_spares k l c on spares did = subst HasSpares (sym did) (spares_by k c on (effect.Flag c on ∷ []) spares)

pub flagged_exceeds : (s : State) (c : Cell) (on : Bool) (p : Pid) (need : Need) → exceeds (with_cell s c on) p need ≡ exceeds s p need
flagged_exceeds s (Local q n) on p need =
    let quiet = flag_at s q p n on in
    let with_asts : List Queued → Need = λ xs. record (charge s p) { ast = tally (bears_ast p) s.requests + (tally (is_attention_of p) s.attention + (tally (charged_timer p) s.timers + tally is_charged xs)) } in
    let limits : ℕ → Need = λ i. (slice_index_or s.system.decls i no_decl).limits in
    ap (λ (xs : List Queued). not (is_within (together (with_asts xs) need) (limits_of (with_cell s (Local q n) on) p))) quiet.asts
    ∙ ap (λ (i : ℕ). not (is_within (together (charge s p) need) (limits i))) quiet.decl
flagged_exceeds s (Common group name n) on p need = refl
