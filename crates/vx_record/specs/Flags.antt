-- Event flags and waits: the cell that a number names, and the services on flags and common clusters.
use Rattle.std.specs.Prelude.{ℕ, ◌-◌, ◌%◌, ◌^◌, List, Bool, true, false, ◌&&◌, ◌||◌, ◌==◌, not, nat_lt, if◌then◌else◌, is_some, Option, Some, None, Result, Ok}
use Rattle.std.specs.List.{find}
use Rattle.vx_base.specs.Clusters.{is_association, is_cluster, cluster_number, stands, associated, dissociated, marked}
pub use Rattle.vx_base.specs.Clusters.{is_common}
use Rattle.vx_base.specs.Flags.{is_set, with_flag, any_set, all_set}
use Rattle.vx_base.specs.Lists.{amend}
use Rattle.vx_record.specs.Types.{Association, Cell, Cluster, Cond, Pid, Status, Wait}
use Rattle.vx_base.specs.declared.cond.Cond.TheVariants.{Normal, WasClr, WasSet, IllEfc, UnasEfc, NoPriv}
use Rattle.vx_base.specs.declared.effects.Cell.TheVariants.{Local, Common}
use Rattle.vx_base.specs.declared.effects.Effect.TheVariants as effect
use Rattle.vx_base.specs.declared.frame.Wait.TheVariants as wait
use Rattle.vx_image.specs.Storage.{status_at}
use Rattle.vx_record.specs.State.{Process, State, process_at, change, with_top}
use Rattle.vx_record.specs.Parts.{Part, Outcome, nothing, tells, answered, refused, refused_value, commonly}
use Rattle.vx_record.specs.declared.served.Served.{Served}
use Rattle.vx_record.specs.declared.served.Served.TheVariants.{Answered, Waits}

-- Cells.

abbrev pub common_cell : ℕ → Option Association → Option Cell
common_cell n None = None
common_cell n (Some a) = Some (Common a.group a.name n)

-- the flag that a number names now: 0 to 63 the process's own, 64 to 127 one of the cluster that it has associated as 2 or 3
abbrev pub cell : State → Pid → ℕ → Option Cell
cell s p efn = if nat_lt efn 64 then Some (Local p efn) else common_cell (efn % 32) (find (is_association p (cluster_number efn)) s.common.associations)

abbrev pub cluster_flags : Option Cluster → ℕ
cluster_flags None = 0
cluster_flags (Some cl) = cl.flags

abbrev pub local_flags : Process → ℕ → ℕ
local_flags pr n = if nat_lt n 32 then pr.cluster_0 else pr.cluster_1

-- the 32 flags of a cell's cluster
abbrev pub flags_of : State → Cell → ℕ
flags_of s (Local p n) = local_flags (process_at s p) n
flags_of s (Common group name n) = cluster_flags (find (is_cluster group name) s.common.clusters)

-- a cell's place among them
abbrev pub place_in : Cell → ℕ
place_in (Local p n) = n % 32
place_in (Common group name n) = n

abbrev pub is_set_in : State → Cell → Bool
is_set_in s c = is_set (flags_of s c) (place_in c)

abbrev pub with_local_flag : ℕ → Bool → Process → Process
with_local_flag n on pr = if nat_lt n 32 then record pr { cluster_0 = with_flag pr.cluster_0 n on } else record pr { cluster_1 = with_flag pr.cluster_1 (n - 32) on }

abbrev pub with_cluster_flag : ℕ → Bool → Cluster → Cluster
with_cluster_flag n on cl = record cl { flags = with_flag cl.flags n on }

abbrev pub with_cell : State → Cell → Bool → State
with_cell s (Local p n) on = change s p (with_local_flag n on)
with_cell s (Common group name n) on = record s { common = record s.common { clusters = amend (is_cluster group name) (with_cluster_flag n on) s.common.clusters } }

abbrev pub flag_part : State → Cell → Bool → Part
flag_part s c on = tells (effect.Flag c on) (with_cell s c on)

-- a flag set or cleared if its number names a cell
abbrev pub flag_where_named : State → Option Cell → Bool → Part
flag_where_named s None on = nothing s
flag_where_named s (Some c) on = flag_part s c on

-- Flag test: ILLEFC above 127, UNASEFC if no cell is named.

abbrev pub at_named : {A : Type 0} → (Cond → Outcome A) → (Cell → Outcome A) → Option Cell → Outcome A
at_named refuse go None = refuse UnasEfc
at_named refuse go (Some c) = go c

abbrev pub at_flag : {A : Type 0} → State → Pid → ℕ → (Cond → Outcome A) → (Cell → Outcome A) → Outcome A
at_flag s p efn refuse go = if nat_lt 127 efn then refuse IllEfc else at_named refuse go (cell s p efn)

-- the condition that tells how a flag, or an enable, was
abbrev pub how_it_was : Bool → Cond
how_it_was on = if on then WasSet else WasClr

-- $SETEF and $CLREF

abbrev pub put_flag_at : State → Bool → Cell → Outcome Cond
put_flag_at s on c = answered (how_it_was (is_set_in s c)) (flag_part s c on)

abbrev pub setef : State → Pid → ℕ → Outcome Cond
setef s p efn = at_flag s p efn (refused s) (put_flag_at s true)

abbrev pub clref : State → Pid → ℕ → Outcome Cond
clref s p efn = at_flag s p efn (refused s) (put_flag_at s false)

-- $READEF: the condition, and the flags of the cluster

abbrev pub readef_at : State → Cell → Outcome (Result (Cond × ℕ) Cond)
readef_at s c = answered (Ok (how_it_was (is_set_in s c), flags_of s c)) (nothing s)

abbrev pub readef : State → Pid → ℕ → Outcome (Result (Cond × ℕ) Cond)
readef s p efn = at_flag s p efn (refused_value s) (readef_at s)

-- Waits.

abbrev pub is_filled : Status → Bool
is_filled status = is_some status.cond

abbrev pub flags_hold : State → ℕ → Bool → Cell → Bool
flags_hold s mask all c = if all then all_set (flags_of s c) mask else any_set (flags_of s c) mask

abbrev pub normal_if : Bool → Option Cond
normal_if true = Some Normal
normal_if false = None

-- a wait on a number that names no cell ends with UNASEFC
abbrev pub where_named : (Cell → Bool) → Option Cell → Option Cond
where_named holds None = Some UnasEfc
where_named holds (Some c) = normal_if (holds c)

abbrev pub is_synchronized : State → Pid → ℕ → Cell → Bool
is_synchronized s p iosb c = is_set_in s c && ((iosb == 0) || is_filled (status_at (process_at s p).store iosb))

-- the condition with which a wait ends now, None if it is not satisfied
abbrev pub wait_condition : State → Pid → Wait → Option Cond
wait_condition s p (wait.Flags efn mask all) = where_named (flags_hold s mask all) (cell s p efn)
wait_condition s p (wait.Synch efn iosb) = where_named (is_synchronized s p iosb) (cell s p efn)
wait_condition s p wait.Hiber = normal_if (process_at s p).wake_pending

abbrev pub with_wait : Option Wait → Process → Process
with_wait w pr = record pr { frames = with_top (λ f. record f { wait = w }) pr.frames }

abbrev pub refused_wait : State → Cond → Outcome Served
refused_wait s c = answered (Answered c) (nothing s)

-- a service that waits answers at once if its wait is satisfied, and else leaves the wait in the top frame
abbrev pub awaited_at : State → Pid → Wait → Option Cond → Outcome Served
awaited_at s p w None = answered Waits (nothing (change s p (with_wait (Some w))))
awaited_at s p w (Some c) = answered (Answered c) (nothing s)

abbrev pub awaited : State → Pid → Wait → Outcome Served
awaited s p w = awaited_at s p w (wait_condition s p w)

abbrev pub waits_on : State → Pid → Wait → Cell → Outcome Served
waits_on s p w c = awaited s p w

-- $WAITFR: the flag
abbrev pub waitfr : State → Pid → ℕ → Outcome Served
waitfr s p efn = at_flag s p efn (refused_wait s) (waits_on s p (wait.Flags efn (2 ^ (efn % 32)) false))

-- $WFLOR: any flag of a mask
abbrev pub wflor : State → Pid → ℕ → ℕ → Outcome Served
wflor s p efn mask = at_flag s p efn (refused_wait s) (waits_on s p (wait.Flags efn mask false))

-- $WFLAND: all flags of a mask
abbrev pub wfland : State → Pid → ℕ → ℕ → Outcome Served
wfland s p efn mask = at_flag s p efn (refused_wait s) (waits_on s p (wait.Flags efn mask true))

-- Common clusters.

-- a new permanent cluster wants PRMCEB
abbrev pub wants_prmceb : State → Process → List ℕ → ℕ → Bool
wants_prmceb s pr name perm = not (stands s.common pr.group name) && (not (perm == 0) && not pr.privs.prmceb)

-- $ASCEFC
abbrev pub ascefc : State → Pid → ℕ → List ℕ → ℕ → Outcome Cond
ascefc s p efn name perm =
    if not (is_common efn) then refused s IllEfc else (
    if wants_prmceb s (process_at s p) name perm then refused s NoPriv else
    answered Normal (commonly s (associated s.common p (cluster_number efn) (process_at s p).group name (not (perm == 0)))))

-- $DACEFC
abbrev pub dacefc : State → Pid → ℕ → Outcome Cond
dacefc s p efn =
    if not (is_common efn) then refused s IllEfc else
    answered Normal (commonly s (dissociated s.common p (cluster_number efn)))

-- $DLCEFC
abbrev pub dlcefc : State → Pid → List ℕ → Outcome Cond
dlcefc s p name =
    if not (process_at s p).privs.prmceb then refused s NoPriv else
    answered Normal (commonly s (marked s.common (process_at s p).group name))
