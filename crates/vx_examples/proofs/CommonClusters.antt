-- Common event flag clusters: associating, dissociating and marking. RunCommonFlags shows a whole run.
use Rattle.std.specs.Prelude.{◌∷◌, [], codes, false, refl, true}
use Rattle.vx_record.specs.Types.{Cluster}
use Rattle.vx_base.specs.declared.cond.Cond.TheVariants as cond
use Rattle.vx_base.specs.declared.service.Service.TheVariants as service
use Rattle.vx_examples.specs.Script.{call, cef, clu, named, no_clu, no_privs, value}
use Rattle.vx_examples.specs.Small.{Answers, Refuses, alone, association, both, cluster, sharing, somebody, with}
use Rattle.vx_record.specs.State.{Process}

-- $ASCEFC: only the numbers 64 to 127.

pub ascefc-below : Refuses alone (call service.AscEfc (value 63 ∷ named (codes "C") ∷ value 0 ∷ [])) cond.IllEfc
ascefc-below = refl

pub ascefc-above : Refuses alone (call service.AscEfc (value 128 ∷ named (codes "C") ∷ value 0 ∷ [])) cond.IllEfc
ascefc-above = refl

-- a new permanent cluster wants PRMCEB
pub ascefc-permanent : Refuses alone (call service.AscEfc (value 64 ∷ named (codes "C") ∷ value 1 ∷ [])) cond.NoPriv
ascefc-permanent = refl

abbrev privileged : Process
privileged = record somebody { privs = record no_privs { prmceb = true } }

pub ascefc-made_permanent :
    Answers (with privileged) (call service.AscEfc (value 95 ∷ named (codes "C") ∷ value 2 ∷ [])) cond.Normal
    (cef 1 (codes "C") true ∷ clu 1 2 1 (codes "C") ∷ [])
    (sharing (with privileged) (cluster (codes "C") true false 0 ∷ []) (association 1 2 (codes "C") ∷ []))
ascefc-made_permanent = refl

-- a cluster that another process of the group made: with its flags, and no privilege is asked for
pub ascefc-found :
    Answers (sharing both (cluster (codes "C") false false 5 ∷ []) (association 2 2 (codes "C") ∷ []))
    (call service.AscEfc (value 127 ∷ named (codes "C") ∷ value 1 ∷ [])) cond.Normal
    (clu 1 3 1 (codes "C") ∷ [])
    (sharing both (cluster (codes "C") false false 5 ∷ [])
    (association 2 2 (codes "C") ∷ association 1 3 (codes "C") ∷ []))
ascefc-found = refl

-- another group has a cluster of this name: a new one is made for this group
abbrev of_group_2 : Cluster
of_group_2 = record (cluster (codes "C") false false 5) { group = 2 }

pub ascefc-other_group :
    Answers (sharing alone (of_group_2 ∷ []) []) (call service.AscEfc (value 64 ∷ named (codes "C") ∷ value 0 ∷ []))
    cond.Normal
    (cef 1 (codes "C") true ∷ clu 1 2 1 (codes "C") ∷ [])
    (sharing alone (of_group_2 ∷ cluster (codes "C") false false 0 ∷ []) (association 1 2 (codes "C") ∷ []))
ascefc-other_group = refl

-- it is there already
pub ascefc-already :
    Answers (sharing alone (cluster (codes "C") false false 5 ∷ []) (association 1 2 (codes "C") ∷ []))
    (call service.AscEfc (value 64 ∷ named (codes "C") ∷ value 0 ∷ [])) cond.Normal []
    (sharing alone (cluster (codes "C") false false 5 ∷ []) (association 1 2 (codes "C") ∷ []))
ascefc-already = refl

-- what was there goes first
pub ascefc-replaces :
    Answers (sharing alone (cluster (codes "C") false false 5 ∷ []) (association 1 2 (codes "C") ∷ []))
    (call service.AscEfc (value 64 ∷ named (codes "D") ∷ value 0 ∷ [])) cond.Normal
    (no_clu 1 2 ∷ cef 1 (codes "C") false ∷ cef 1 (codes "D") true ∷ clu 1 2 1 (codes "D") ∷ [])
    (sharing alone (cluster (codes "D") false false 0 ∷ []) (association 1 2 (codes "D") ∷ []))
ascefc-replaces = refl

-- a marked cluster that is used is found by its name
pub ascefc-marked :
    Answers (sharing both (cluster (codes "C") true true 5 ∷ []) (association 2 2 (codes "C") ∷ []))
    (call service.AscEfc (value 64 ∷ named (codes "C") ∷ value 0 ∷ [])) cond.Normal
    (clu 1 2 1 (codes "C") ∷ [])
    (sharing both (cluster (codes "C") true true 5 ∷ [])
    (association 2 2 (codes "C") ∷ association 1 2 (codes "C") ∷ []))
ascefc-marked = refl

-- $DACEFC

pub dacefc-below : Refuses alone (call service.DacEfc (value 63 ∷ [])) cond.IllEfc
dacefc-below = refl

pub dacefc-above : Refuses alone (call service.DacEfc (value 128 ∷ [])) cond.IllEfc
dacefc-above = refl

-- nothing is associated there
pub dacefc-nothing : Answers alone (call service.DacEfc (value 64 ∷ [])) cond.Normal [] alone
dacefc-nothing = refl

-- the last association of a temporary cluster
pub dacefc-last :
    Answers (sharing alone (cluster (codes "C") false false 5 ∷ []) (association 1 3 (codes "C") ∷ []))
    (call service.DacEfc (value 100 ∷ [])) cond.Normal
    (no_clu 1 3 ∷ cef 1 (codes "C") false ∷ []) alone
dacefc-last = refl

-- another process has it still
pub dacefc-not_last :
    Answers (sharing both (cluster (codes "C") false false 5 ∷ [])
    (association 1 3 (codes "C") ∷ association 2 2 (codes "C") ∷ [])) (call service.DacEfc (value 100 ∷ []))
    cond.Normal
    (no_clu 1 3 ∷ []) (sharing both (cluster (codes "C") false false 5 ∷ []) (association 2 2 (codes "C") ∷ []))
dacefc-not_last = refl

-- a permanent one stays with its flags, and a marked one goes
pub dacefc-permanent :
    Answers (sharing alone (cluster (codes "C") true false 5 ∷ []) (association 1 3 (codes "C") ∷ []))
    (call service.DacEfc (value 100 ∷ [])) cond.Normal
    (no_clu 1 3 ∷ []) (sharing alone (cluster (codes "C") true false 5 ∷ []) [])
dacefc-permanent = refl

pub dacefc-marked :
    Answers (sharing alone (cluster (codes "C") true true 5 ∷ []) (association 1 3 (codes "C") ∷ []))
    (call service.DacEfc (value 100 ∷ [])) cond.Normal
    (no_clu 1 3 ∷ cef 1 (codes "C") false ∷ []) alone
dacefc-marked = refl

-- $DLCEFC

pub dlcefc-without :
    Refuses (sharing alone (cluster (codes "C") true false 5 ∷ []) [])
    (call service.DlcEfc (named (codes "C") ∷ []))
    cond.NoPriv
dlcefc-without = refl

-- a permanent cluster that is used is marked; one that nobody uses goes at once
pub dlcefc-used :
    Answers (sharing (with privileged) (cluster (codes "C") true false 5 ∷ []) (association 1 2 (codes "C") ∷ []))
    (call service.DlcEfc (named (codes "C") ∷ [])) cond.Normal []
    (sharing (with privileged) (cluster (codes "C") true true 5 ∷ []) (association 1 2 (codes "C") ∷ []))
dlcefc-used = refl

pub dlcefc-unused :
    Answers (sharing (with privileged) (cluster (codes "C") true false 5 ∷ []) [])
    (call service.DlcEfc (named (codes "C") ∷ [])) cond.Normal (cef 1 (codes "C") false ∷ []) (with privileged)
dlcefc-unused = refl

-- nothing for a temporary one, and for a name that no cluster has
pub dlcefc-temporary :
    Answers (sharing (with privileged) (cluster (codes "C") false false 5 ∷ []) (association 1 2 (codes "C") ∷ []))
    (call service.DlcEfc (named (codes "C") ∷ [])) cond.Normal []
    (sharing (with privileged) (cluster (codes "C") false false 5 ∷ []) (association 1 2 (codes "C") ∷ []))
dlcefc-temporary = refl

pub dlcefc-no_cluster :
    Answers (with privileged) (call service.DlcEfc (named (codes "C") ∷ [])) cond.Normal [] (with privileged)
dlcefc-no_cluster = refl
