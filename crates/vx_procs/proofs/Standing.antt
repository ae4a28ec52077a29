-- A process of the state stands in the table.
use Rattle.std.proofs.Common.{◌≡◌, length, subst, sym}
use Rattle.std.proofs.lemmas.List.{length-map}
use Rattle.vx_record.specs.Types.{Pid}
use Rattle.vx_record.specs.State.{IsProcess, IsWithin}
use Rattle.vx_procs.specs.View.{process, state}
use Rattle.vx_procs.specs.declared.procs.Core.TheInside.{Inside}

pub standing : {R : Type 0} (c : Inside R) (p q : Pid) → q ≡ p → IsProcess (state c) p → IsWithin (length c.procs.items) q
standing c p q is made = subst (λ (x : Pid). IsWithin (length c.procs.items) x) (sym is) (subst (λ n. IsWithin n p) (length-map c.procs.items process) made)
