-- The outstanding requests.
use Rattle.std.specs.Prelude.{ℕ, List, Bool, ◌&&◌, ◌==◌, not, if◌then◌else◌}
use Rattle.std.specs.List.{list_any}
use Rattle.vx_base.specs.Lists.{amend}
use Rattle.vx_base.specs.Modes.{reaches}
use Rattle.vx_record.specs.Types.{Entry, Mode, Pid, Promised, Request, UnitNo}
use Rattle.vx_base.specs.Queues.{is_served_by, waits_for}
use Rattle.vx_base.specs.Roomy.{Roomy}
use Rattle.vx_record.specs.Requests.{taken_up}

-- The requests in order of acceptance, and how many there is room for in all.
abbrev pub Requests : Type 0
Requests = Roomy Request

-- an AST that is promised, its tag in place of its routine
abbrev pub promised_of : {R : Type 0} → (R → Entry) → (Mode × R) → Promised
promised_of tag ast = record { mode = ast.0; tag = tag ast.1 }

-- the request is of process p
abbrev pub is_of : Pid → Request → Bool
is_of p r = r.req.p.0 == p.0

-- a request of process p on that channel that waits, or is in service and not yet marked
abbrev pub is_to_cancel : Pid → ℕ → Request → Bool
is_to_cancel p chan r = (is_of p r && (r.req.chan == chan)) && not (r.served && r.marked)

-- a request of process p on a channel of that mode or an outer one
abbrev pub keeps_open : Pid → Mode → Request → Bool
keeps_open p m r = is_of p r && reaches r.req.chan_mode m

-- the list after a unit has taken the request that it takes next, if there is one
abbrev pub begun : UnitNo → List Request → List Request
begun u requests = if list_any (is_served_by u) requests then requests else amend (waits_for u) taken_up requests
