-- What a process alone tells of its event, in examples.
use Rattle.std.proofs.Common.{◌≡◌, [], ◌∷◌, true, false, Option, Some, None, refl}
use Rattle.vx_base.specs.declared.frame.FrameKind.TheVariants as kind
use Rattle.vx_base.specs.declared.frame.Phase.TheVariants as phase
use Rattle.vx_record.specs.Types.{Wait}
use Rattle.vx_base.specs.declared.frame.Wait.TheVariants as wait
use Rattle.vx_base.specs.declared.mode.Mode.TheVariants as mode
use Rattle.vx_record.specs.Asts.{charged_ast}
use Rattle.vx_record.specs.State.{Process, nobody}
use Rattle.vx_base.specs.declared.routine.Entry.TheVariants as entry
use Rattle.vx_procs.specs.Own.{AreOwn, own_event}

-- a process in user mode that waits so, with flags 1 and 34 set
abbrev waiting : Option Wait → Process
waiting w = record nobody { frames = record { kind = kind.Main; mode = mode.User; pc = 0; prm = 0; saved_r0 = 0; wait = w } ∷ []; cluster_0 = 2; cluster_1 = 4; phase = phase.Alive }

runs : own_event (waiting None) ≡ Some true
runs = refl

flag_set : own_event (waiting (Some (wait.Flags 34 4 false))) ≡ Some true
flag_set = refl

flags_missing : own_event (waiting (Some (wait.Flags 34 5 true))) ≡ Some false
flags_missing = refl

common_flag : own_event (waiting (Some (wait.Flags 64 1 false))) ≡ None
common_flag = refl

block_empty : own_event (waiting (Some (wait.Synch 1 3))) ≡ Some false
block_empty = refl

no_block : own_event (waiting (Some (wait.Synch 1 0))) ≡ Some true
no_block = refl

asleep : own_event (waiting (Some wait.Hiber)) ≡ Some false
asleep = refl

woken : own_event (record (waiting (Some wait.Hiber)) { wake_pending = true }) ≡ Some true
woken = refl

suspended : own_event (record (waiting None) { suspended = true }) ≡ Some false
suspended = refl

interrupted : own_event (record (waiting (Some wait.Hiber)) { asts = charged_ast (record { 0 = 7 }) mode.User (entry.Host 0) ∷ [] }) ≡ Some true
interrupted = refl

draining : own_event (record nobody { phase = phase.Draining mode.User }) ≡ None
draining = refl

deleted : own_event nobody ≡ Some false
deleted = refl

two_of_three : AreOwn 2 (waiting None ∷ nobody ∷ waiting (Some (wait.Flags 1 2 false)) ∷ [])
two_of_three = record { own = (refl, (refl, (refl, tt))); count = refl }
