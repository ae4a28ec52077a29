-- The state as a number, by which equal states are looked up: the time, the next id, and how many requests and timers there are;
-- of each process R0, the variables, the status blocks, the event flags, the frames, the ASTs, and how it stands; of each unit its
-- services; and which requests and messages there are.
use Rattle.std.specs.Prelude.{ℕ, ◌+◌, List, [], ◌∷◌, Option, Some, None, length}
use Rattle.vx_base.specs.Flags.{one}
use Rattle.vx_base.specs.Modes.{rank}
use Rattle.vx_record.specs.Types.{DeviceUnit, Frame, Phase}
use Rattle.vx_base.specs.declared.frame.Phase.TheVariants as phase
use Rattle.vx_image.specs.Digest.{mix_stored}
use Rattle.vx_record.specs.State.{Process, State}
use Rattle.vx_mailbox.specs.Digest.{mix_boxes}
use Rattle.vx_reqs.specs.Digest.{mix_requests}
use Rattle.vx_same.specs.Mix.{mix}
use Rattle.vx_base.specs.Lists.{first}

-- the statement of a frame, 0 if there is none
abbrev pub place_in : Option Frame → ℕ
place_in None = 0
place_in (Some f) = f.pc

-- how far a process is on its way out
abbrev pub phase_number : Phase → ℕ
phase_number phase.Alive = 0
phase_number (phase.Handlers mode) = rank mode + 1
phase_number (phase.Draining mode) = rank mode + 5
phase_number phase.Deleted = 9

-- a digest with what a process stores and its event flags
abbrev pub mix_values : ℕ → Process → ℕ
mix_values digest pr = mix (mix (mix_stored digest pr.store) pr.cluster_0) pr.cluster_1

-- a digest with its frames and ASTs
abbrev pub mix_work : ℕ → Process → ℕ
mix_work digest pr = mix (mix (mix digest (length pr.frames)) (place_in (first pr.frames))) (length pr.asts)

-- a digest with how it stands
abbrev pub mix_standing : ℕ → Process → ℕ
mix_standing digest pr = mix (mix (mix digest (one pr.wake_pending)) (one pr.suspended)) (phase_number pr.phase)

abbrev pub mix_processes : ℕ → List Process → ℕ
mix_processes digest [] = digest
mix_processes digest (pr ∷ prs) = mix_processes (mix_standing (mix_work (mix_values digest pr) pr) pr) prs

abbrev pub mix_units : ℕ → List DeviceUnit → ℕ
mix_units digest [] = digest
mix_units digest (u ∷ us) = mix_units (mix digest u.services) us

-- the time, the next id, and how many requests and timers there are
abbrev pub counts_of : State → ℕ
counts_of s = mix (mix (mix s.time s.next) (length s.requests)) (length s.timers)

abbrev pub digest_of : State → ℕ
digest_of s = mix_boxes (mix_requests (mix_units (mix_processes (counts_of s) s.procs) s.units) s.requests) s.boxes
