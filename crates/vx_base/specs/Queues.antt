-- What comes first: the AST that may start, the front request of a unit, the least due timer; and what messages take.
use Rattle.std.specs.Prelude.{ℕ, ◌+◌, length, List, [], ◌∷◌, Bool, true, false, ◌&&◌, ◌==◌, not, nat_le, Option, Some, None, if◌then◌else◌}
use Rattle.std.specs.List.{find, list_any}
use Rattle.vx_base.specs.Modes.{rank, is_inner, reaches}
use Rattle.vx_base.specs.Pieces.{Queued, Enables, is_enabled_in, Request, Timer}
use Rattle.vx_base.specs.declared.mode.Mode.{Mode}
use Rattle.vx_base.specs.declared.mode.Mode.TheVariants.{Kernel, Exec, Super, User}
use Rattle.vx_base.specs.declared.number.UnitNo.{UnitNo}
use Rattle.vx_base.specs.declared.request.Body.{Body}
use Rattle.vx_base.specs.declared.request.Body.TheVariants as body
use Rattle.vx_base.specs.declared.request.Msg.{Msg}
use Rattle.vx_base.specs.declared.request.Device.{Device}
use Rattle.std.specs.Option.{option_or}
use Rattle.vx_base.specs.declared.request.Device.TheVariants as device

-- ASTs.

-- no AST of this mode or an inner one is active, if the innermost mode with an active AST is given
abbrev pub is_free : Option Mode → Mode → Bool
is_free None m = true
is_free (Some active) m = is_inner m active

-- an AST of mode m may start: delivery is enabled, the process does not run further in, and no such AST is active
abbrev pub may_start : Enables → Mode → Option Mode → Mode → Bool
may_start enables current active m = is_enabled_in enables m && (reaches current m && is_free active m)

abbrev pub is_of_mode : Mode → Queued → Bool
is_of_mode m q = rank q.mode == rank m

-- it is of mode m or an outer one
abbrev pub is_ast_reached : Mode → Queued → Bool
is_ast_reached m q = reaches q.mode m

-- the first of a mode, if one of that mode may start
abbrev pub first_of_mode : Enables → Mode → Option Mode → List Queued → Mode → Option Queued
first_of_mode enables current active asts m = if may_start enables current active m then find (is_of_mode m) asts else None

-- the AST that may start: of the innermost mode that has one, the first
abbrev pub deliverable : Enables → Mode → Option Mode → List Queued → Option Queued
deliverable enables current active asts =
    option_or (first_of_mode enables current active asts Kernel) (
    option_or (first_of_mode enables current active asts Exec) (
    option_or (first_of_mode enables current active asts Super) (
    first_of_mode enables current active asts User)))

-- Requests.

abbrev pub is_unit : UnitNo → Device → Bool
is_unit u (device.Unit v) = u.0 == v.0
is_unit u (device.Mailbox b) = false

abbrev pub is_on : UnitNo → Request → Bool
is_on u r = is_unit u r.req.device

abbrev pub is_served_by : UnitNo → Request → Bool
is_served_by u r = is_on u r && r.served

abbrev pub waits_for : UnitNo → Request → Bool
waits_for u r = is_on u r && not r.served

-- the request that a unit serves
abbrev pub in_service : UnitNo → List Request → Option Request
in_service u requests = find (is_served_by u) requests

-- the request that a unit would take next: the first that waits for it, and none if it serves one
abbrev pub front : UnitNo → List Request → Option Request
front u requests = if list_any (is_served_by u) requests then None else find (waits_for u) requests

-- Timers.

-- of two that are due at one moment the earlier in the list goes first
abbrev pub sooner : Timer → Option Timer → Timer
sooner t None = t
sooner t (Some other) = if nat_le t.due other.due then t else other

-- the least due of a list in id order, by due time and then by id
abbrev pub least_due : List Timer → Option Timer
least_due [] = None
least_due (t ∷ ts) = Some (sooner t (least_due ts))

-- Messages.

-- an end of file has no bytes
abbrev pub body_bytes : Body → List ℕ
body_bytes (body.Text bytes) = bytes
body_bytes body.Eof = []

-- how many bytes messages have together
abbrev pub stored_bytes : List Msg → ℕ
stored_bytes [] = 0
stored_bytes (m ∷ ms) = length (body_bytes m.body) + stored_bytes ms
