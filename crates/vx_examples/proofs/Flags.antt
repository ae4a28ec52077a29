-- Event flags: the services that set, clear, read and await them. RunFlags and RunFlagTest show whole runs.
use Rattle.std.specs.Prelude.{◌≡◌, ◌∷◌, [], ℕ, None, Some, codes, false, refl, true}
use Rattle.vx_base.specs.Pieces.{cleared}
use Rattle.vx_base.specs.declared.cond.Cond.TheVariants as cond
use Rattle.vx_base.specs.declared.frame.Wait.TheVariants as wait
use Rattle.vx_base.specs.declared.service.Service.TheVariants as service
use Rattle.vx_examples.specs.Script.{call, common_flag, flag, in_r0, process, puts, puts_r0, value, variable}
use Rattle.vx_examples.specs.Small.{Answers, Refuses, Suspends, alone, association, both, cluster, sharing, small_store, somebody, waiting, with}
use Rattle.vx_record.specs.Flags.{wait_condition}
use Rattle.vx_record.specs.State.{Process, State}

-- $SETEF: the answer says how the flag was.

pub setef-clear :
    Answers alone (call service.SetEf (value 5 ∷ [])) cond.WasClr (flag 1 5 true ∷ [])
    (with (record somebody { cluster_0 = 32 }))
setef-clear = refl

pub setef-set :
    Answers (with (record somebody { cluster_0 = 33 })) (call service.SetEf (value 5 ∷ [])) cond.WasSet
    (flag 1 5 true ∷ [])
    (with (record somebody { cluster_0 = 33 }))
setef-set = refl

-- flag 63 is the last of the process's second word
pub setef-63 :
    Answers alone (call service.SetEf (value 63 ∷ [])) cond.WasClr (flag 1 63 true ∷ [])
    (with (record somebody { cluster_1 = 2147483648 }))
setef-63 = refl

-- a common flag: 70 is flag 6 of the cluster that is associated as 2
pub setef-common :
    Answers (sharing alone (cluster (codes "C") false false 1 ∷ []) (association 1 2 (codes "C") ∷ []))
    (call service.SetEf (value 70 ∷ [])) cond.WasClr
    (common_flag 1 (codes "C") 6 true ∷ [])
    (sharing alone (cluster (codes "C") false false 65 ∷ []) (association 1 2 (codes "C") ∷ []))
setef-common = refl

-- a cluster of another group than the process's number: its flag is told by group, name and number
abbrev of_group : ℕ → State
of_group flags =
    record (with (record somebody { group = 3 })) {
      common = record {
        clusters = record (cluster (codes "C") false false flags) { group = 3 } ∷ [];
        associations = record (association 1 3 (codes "C")) { group = 3 } ∷ [];
      };
    }

pub setef-group :
    Answers (of_group 0) (call service.SetEf (value 127 ∷ [])) cond.WasClr (common_flag 3 (codes "C") 31 true ∷ [])
    (of_group 2147483648)
setef-group = refl

pub setef-above : Refuses alone (call service.SetEf (value 128 ∷ [])) cond.IllEfc
setef-above = refl

pub setef-unnamed : Refuses alone (call service.SetEf (value 64 ∷ [])) cond.UnasEfc
setef-unnamed = refl

-- the cluster is another process's, or is associated as 3
pub setef-other :
    Refuses (sharing both (cluster (codes "C") false false 0 ∷ []) (association 2 2 (codes "C") ∷ []))
    (call service.SetEf (value 95 ∷ [])) cond.UnasEfc
setef-other = refl

pub setef-other_number :
    Refuses (sharing alone (cluster (codes "C") false false 0 ∷ []) (association 1 3 (codes "C") ∷ []))
    (call service.SetEf (value 95 ∷ [])) cond.UnasEfc
setef-other_number = refl

-- $CLREF

pub clref-set :
    Answers (with (record somebody { cluster_0 = 33 })) (call service.ClrEf (value 5 ∷ [])) cond.WasSet
    (flag 1 5 false ∷ [])
    (with (record somebody { cluster_0 = 1 }))
clref-set = refl

pub clref-clear : Answers alone (call service.ClrEf (value 32 ∷ [])) cond.WasClr (flag 1 32 false ∷ []) alone
clref-clear = refl

pub clref-above : Refuses alone (call service.ClrEf (value 4294967295 ∷ [])) cond.IllEfc
clref-above = refl

pub clref-unnamed : Refuses alone (call service.ClrEf (value 127 ∷ [])) cond.UnasEfc
clref-unnamed = refl

-- $READEF: the 32 flags of the cluster

pub readef-own :
    Answers (with (record somebody { cluster_0 = 33; cluster_1 = 6 }))
    (call service.ReadEf (value 33 ∷ variable (codes "B") ∷ []))
    cond.WasSet (puts 1 (codes "B") 6 ∷ [])
    (with (record somebody { cluster_0 = 33; cluster_1 = 6; store = record small_store { vars = 0 ∷ 6 ∷ [] } }))
readef-own = refl

pub readef-common :
    Answers (sharing alone (cluster (codes "C") false false 65 ∷ []) (association 1 3 (codes "C") ∷ []))
    (call service.ReadEf (value 97 ∷ in_r0 ∷ [])) cond.WasClr
    (puts_r0 1 65 ∷ [])
    (sharing (with (record somebody { store = record small_store { r0 = 65 } }))
    (cluster (codes "C") false false 65 ∷ []) (association 1 3 (codes "C") ∷ []))
readef-common = refl

pub readef-above : Refuses alone (call service.ReadEf (value 128 ∷ in_r0 ∷ [])) cond.IllEfc
readef-above = refl

pub readef-unnamed : Refuses alone (call service.ReadEf (value 64 ∷ in_r0 ∷ [])) cond.UnasEfc
readef-unnamed = refl

-- $WAITFR: one flag

pub waitfr-set :
    Answers (with (record somebody { cluster_0 = 32 })) (call service.WaitFr (value 5 ∷ [])) cond.Normal []
    (with (record somebody { cluster_0 = 32 }))
waitfr-set = refl

pub waitfr-clear :
    Suspends (with (record somebody { cluster_0 = 223 })) (call service.WaitFr (value 5 ∷ [])) []
    (with (record (waiting (wait.Flags 5 32 false)) { cluster_0 = 223 }))
waitfr-clear = refl

-- flag 40 is flag 8 of its word
pub waitfr-high :
    Suspends alone (call service.WaitFr (value 40 ∷ [])) [] (with (waiting (wait.Flags 40 256 false)))
waitfr-high = refl

pub waitfr-above : Refuses alone (call service.WaitFr (value 128 ∷ [])) cond.IllEfc
waitfr-above = refl

pub waitfr-unnamed : Refuses alone (call service.WaitFr (value 64 ∷ [])) cond.UnasEfc
waitfr-unnamed = refl

-- $WFLOR: any flag of a mask

pub wflor-one :
    Answers (with (record somebody { cluster_1 = 2 })) (call service.WflOr (value 40 ∷ value 3 ∷ [])) cond.Normal []
    (with (record somebody { cluster_1 = 2 }))
wflor-one = refl

pub wflor-none :
    Suspends (with (record somebody { cluster_0 = 3; cluster_1 = 4 })) (call service.WflOr (value 40 ∷ value 3 ∷ [])) []
    (with (record (waiting (wait.Flags 40 3 false)) { cluster_0 = 3; cluster_1 = 4 }))
wflor-none = refl

pub wflor-above : Refuses alone (call service.WflOr (value 128 ∷ value 1 ∷ [])) cond.IllEfc
wflor-above = refl

pub wflor-unnamed : Refuses alone (call service.WflOr (value 64 ∷ value 1 ∷ [])) cond.UnasEfc
wflor-unnamed = refl

-- $WFLAND: all flags of a mask

pub wfland-all :
    Answers (with (record somebody { cluster_0 = 7 })) (call service.WflAnd (value 31 ∷ value 3 ∷ [])) cond.Normal []
    (with (record somebody { cluster_0 = 7 }))
wfland-all = refl

pub wfland-one :
    Suspends (with (record somebody { cluster_0 = 5 })) (call service.WflAnd (value 31 ∷ value 3 ∷ [])) []
    (with (record (waiting (wait.Flags 31 3 true)) { cluster_0 = 5 }))
wfland-one = refl

pub wfland-above : Refuses alone (call service.WflAnd (value 128 ∷ value 1 ∷ [])) cond.IllEfc
wfland-above = refl

pub wfland-unnamed : Refuses alone (call service.WflAnd (value 96 ∷ value 1 ∷ [])) cond.UnasEfc
wfland-unnamed = refl

-- When a wait ends, and with which condition.

pub wait_condition-set :
    wait_condition (with (record somebody { cluster_0 = 32 })) (process 1) (wait.Flags 5 32 false) ≡ Some cond.Normal
wait_condition-set = refl

pub wait_condition-clear : wait_condition alone (process 1) (wait.Flags 5 32 false) ≡ None
wait_condition-clear = refl

pub wait_condition-all :
    wait_condition (with (record somebody { cluster_0 = 3 })) (process 1) (wait.Flags 5 3 true) ≡ Some cond.Normal
wait_condition-all = refl

pub wait_condition-not_all : wait_condition (with (record somebody { cluster_0 = 2 })) (process 1) (wait.Flags 5 3 true) ≡ None
wait_condition-not_all = refl

-- the number names no cell any more
pub wait_condition-unnamed : wait_condition alone (process 1) (wait.Flags 64 1 true) ≡ Some cond.UnasEfc
wait_condition-unnamed = refl

pub synchronized-unnamed : wait_condition alone (process 1) (wait.Synch 64 1) ≡ Some cond.UnasEfc
synchronized-unnamed = refl

-- a flag alone, if no status block is named
pub synchronized-flag :
    wait_condition (with (record somebody { cluster_0 = 32 })) (process 1) (wait.Synch 5 0) ≡ Some cond.Normal
synchronized-flag = refl

pub synchronized-clear : wait_condition alone (process 1) (wait.Synch 5 0) ≡ None
synchronized-clear = refl

-- the flag is set, and the status block is cleared: set by another request
pub synchronized-status : wait_condition (with (record somebody { cluster_0 = 32 })) (process 1) (wait.Synch 5 1) ≡ None
synchronized-status = refl

abbrev filled : Process
filled = record somebody {
  store = record small_store
      { statuses = cleared ∷ record { cond = Some cond.Abort; count = 0; info = 0 } ∷ [] };
}

pub synchronized-both :
    wait_condition (with (record filled { cluster_0 = 32 })) (process 1) (wait.Synch 5 2) ≡ Some cond.Normal
synchronized-both = refl

-- the status block is filled, and the flag is clear
pub synchronized-no_flag : wait_condition (with filled) (process 1) (wait.Synch 5 2) ≡ None
synchronized-no_flag = refl

pub wait_condition-wake : wait_condition (with (record somebody { wake_pending = true })) (process 1) wait.Hiber ≡ Some cond.Normal
wait_condition-wake = refl

pub wait_condition-no_wake : wait_condition alone (process 1) wait.Hiber ≡ None
wait_condition-no_wake = refl
