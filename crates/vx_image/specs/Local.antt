-- Local statements: what each does to the store, and a run of them up to a service.
use Rattle.std.specs.Prelude.{ℕ, zero, suc, ◌+◌, ◌-◌, ◌%◌, Bool, true, ◌==◌, ◌&&◌, not, nat_lt, nat_le, length, [], Option, Some, None, if◌then◌else◌, slice_get, slice_index, slice_index_or}
use Rattle.vx_base.specs.Cond.{number_of}
use Rattle.vx_base.specs.Pieces.{Status}
use Rattle.vx_base.specs.declared.call.Arg.{Arg}
use Rattle.vx_base.specs.declared.call.Arg.TheVariants as arg
use Rattle.vx_base.specs.declared.call.Call.{Call}
use Rattle.vx_base.specs.declared.call.Operand.{Operand}
use Rattle.vx_base.specs.declared.call.Operand.TheVariants as operand
use Rattle.vx_base.specs.declared.call.Target.{Target}
use Rattle.vx_base.specs.declared.call.Target.TheVariants as target
use Rattle.vx_base.specs.declared.cond.Cond.{Cond}
use Rattle.vx_base.specs.declared.number.Pid.{Pid}
use Rattle.vx_image.specs.Storage.{Storage, stored_in, with_target, status_at, buffer_at, with_bytes}
use Rattle.vx_image.specs.declared.image.Image.{Image}
use Rattle.vx_image.specs.declared.image.Label.{Label}
use Rattle.vx_image.specs.declared.stop.Stop.{Stop}
use Rattle.vx_image.specs.declared.stop.Stop.TheVariants as stop
use Rattle.vx_image.specs.declared.stmt.Field.{Field}
use Rattle.vx_image.specs.declared.stmt.Field.TheVariants as field
use Rattle.vx_image.specs.declared.stmt.Rel.{Rel}
use Rattle.vx_image.specs.declared.stmt.Rel.TheVariants as rel
use Rattle.vx_image.specs.declared.stmt.Stmt.{Stmt}
use Rattle.vx_image.specs.declared.stmt.Stmt.TheVariants as stmt

-- what a value is read from besides the store: the top frame's parameter and the process's number
pub record Reader : Type 0 where
  pub prm : ℕ
  pub p : Pid

abbrev pub value_of : Reader → Storage → Operand → ℕ
value_of who store (operand.Num n) = n
value_of who store (operand.Cond c) = number_of c
value_of who store (operand.Var v) = stored_in store (target.Var v)
value_of who store operand.R0 = store.r0
value_of who store operand.Pid = who.p.0
value_of who store operand.Prm = who.prm

-- arithmetic is modulo 2^32
abbrev pub sum_of : ℕ → ℕ → ℕ
sum_of a b = (a + b) % 4294967296

abbrev pub difference_of : ℕ → ℕ → ℕ
difference_of a b = (a + (4294967296 - b)) % 4294967296

abbrev pub compares : Rel → ℕ → ℕ → Bool
compares rel.Eq a b = a == b
compares rel.Ne a b = not (a == b)
compares rel.Lt a b = nat_lt a b
compares rel.Ge a b = not (nat_lt a b)

-- the number of a condition, 0 for none
abbrev pub status_number : Option Cond → ℕ
status_number None = 0
status_number (Some c) = number_of c

abbrev pub field_of : Status → Field → ℕ
field_of status field.Status = status_number status.cond
field_of status field.Count = status.count
field_of status field.Info = status.info

-- the place that a label names
abbrev pub no_label : Label
no_label = record { name = []; place = 0 }

abbrev pub place_of : Image → ℕ → ℕ
place_of image k = (slice_index_or image.labels k no_label).place

-- One statement at a place.

-- the store after a local statement, and the place where it goes on
pub record Moved : Type 0 where
  pub store : Storage
  pub place : ℕ

-- a target takes a number, and the next statement follows
abbrev pub set_to : Storage → ℕ → Target → ℕ → Moved
set_to store place t n = record { store = with_target store t n; place = place + 1 }

abbrev pub goes : Storage → ℕ → Moved
goes store place = record { store = store; place = place }

-- what a local statement does; RETURN and the services are not local
abbrev pub local : Image → Reader → Storage → ℕ → Stmt → Option Moved
local image who store place (stmt.Let t x) = Some (set_to store place t (value_of who store x))
local image who store place (stmt.Add t x y) = Some (set_to store place t (sum_of (value_of who store x) (value_of who store y)))
local image who store place (stmt.Sub t x y) = Some (set_to store place t (difference_of (value_of who store x) (value_of who store y)))
local image who store place (stmt.Goto k) = Some (goes store (place_of image k))
local image who store place (stmt.If x r y k) = Some (goes store (if compares r (value_of who store x) (value_of who store y) then place_of image k else place + 1))
local image who store place (stmt.Put b bytes) = Some (goes (with_bytes store b bytes) (place + 1))
local image who store place (stmt.Byte t b x) = Some (set_to store place t (slice_index (buffer_at store b) (value_of who store x)))
local image who store place (stmt.Iosb t i f) = Some (set_to store place t (field_of (status_at store i) f))
local image who store place stmt.Return = None
local image who store place (stmt.Service c) = None

-- the buffer, the status block and the text of a statement are ones for which a store has room
abbrev pub is_storable : Stmt → Bool
is_storable (stmt.Put b bytes) = nat_lt b 32 && nat_le (length bytes) 2048
is_storable (stmt.Byte t b x) = nat_lt b 32
is_storable (stmt.Iosb t i f) = nat_le 1 i && nat_le i 32
is_storable _ = true

-- A run of local statements.

-- an argument with its value computed
abbrev pub computed_arg : Reader → Storage → Arg → Arg
computed_arg who store (arg.Value x) = arg.Value (operand.Num (value_of who store x))
computed_arg who store a = a

abbrev pub computed : Reader → Storage → Call → Call
computed who store c = record {
  service = c.service;
  args = record {
    a0 = computed_arg who store c.args.a0;
    a1 = computed_arg who store c.args.a1;
    a2 = computed_arg who store c.args.a2;
    a3 = computed_arg who store c.args.a3;
    a4 = computed_arg who store c.args.a4;
    a5 = computed_arg who store c.args.a5;
    a6 = computed_arg who store c.args.a6;
    a7 = computed_arg who store c.args.a7;
    a8 = computed_arg who store c.args.a8;
  };
}

-- why a run of local statements stops, in the words of `Stop`: at a service, at RETURN, past the last statement, or after as
-- many statements as it may run
pub record Advanced : Type 0 where
  pub store : Storage
  pub place : ℕ
  pub stop : Stop

abbrev pub stopped : Storage → ℕ → Stop → Advanced
stopped store place s = record { store = store; place = place; stop = s }

-- what stops at a statement that is not local
abbrev pub stop_at : Reader → Storage → Option Stmt → Stop
stop_at who store None = stop.End
stop_at who store (Some (stmt.Service c)) = stop.Call (computed who store c)
stop_at who store (Some s) = stop.Return

-- goes on after a local statement, and stops at any other
abbrev pub go_on : Reader → Storage → ℕ → Option Stmt → Option Moved → (Moved → Advanced) → Advanced
go_on who store place s None on = stopped store place (stop_at who store s)
go_on who store place s (Some moved) on = on moved

abbrev pub local_at : Image → Reader → Storage → ℕ → Option Stmt → Option Moved
local_at image who store place None = None
local_at image who store place (Some s) = local image who store place s

-- at most n local statements
abbrev pub run_local : ℕ → Image → Reader → Storage → ℕ → Advanced
run_local zero image who store place = stopped store place stop.Local
run_local (suc n) image who store place =
    go_on who store place (slice_get image.stmts place) (local_at image who store place (slice_get image.stmts place)) (λ moved. run_local n image who moved.store moved.place)

-- the local statements up to and without the next service, at most 1,000
abbrev pub advanced : Image → Reader → Storage → ℕ → Advanced
advanced image who store place = run_local 1000 image who store place
