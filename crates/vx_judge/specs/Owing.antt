-- What completions owe to the calls that opened their requests, and the clusters that processes have, in tables.
use Rattle.std.specs.Prelude.{◌≡◌, ℕ, List, Option, option_map, nat_eq}
use Rattle.std.specs.HashMap.{get}
use Rattle.vx_record.specs.Types.{Id, Pid}
use Rattle.vx_record.specs.Services.{number}
use Rattle.vx_laws.specs.Items.{Item, Calling}
use Rattle.vx_laws.specs.Lives.{Life, life}
use Rattle.vx_laws.specs.Values.{cluster_by}
use Rattle.vx_judge.specs.Pairs.{pair_eq}
use Rattle.vx_judge.specs.declared.clusters.Clusters.{Clusters}
use Rattle.vx_judge.specs.declared.debts.Debts.{Debts}
use Rattle.vx_judge.specs.declared.joined.Joined.{Joined}
use Rattle.vx_judge.specs.declared.owed.Owed.{Owed}

abbrev pub owed : Calling → Owed
owed c = record { p = c.p; efn = number c.call.args.a0; iosb = number c.call.args.a3 }

-- None if no call opened the id
abbrev pub owed_by : Life → Option Owed
owed_by l = option_map owed l.by

abbrev pub AreOwed : Debts → List Item → Type 0
AreOwed t past = (id : Id) → get nat_eq t.map id.0 ≡ option_map owed_by (life past id)

abbrev pub cluster_of : Joined → ℕ × List ℕ
cluster_of x = (x.group, x.name)

abbrev pub cluster_in : Clusters → Pid → ℕ → Option (ℕ × List ℕ)
cluster_in t p k = option_map cluster_of (get pair_eq t.map (p.0, k))

-- they are those that the past tells
abbrev pub AreJoined : Clusters → List Item → Type 0
AreJoined t past = (p : Pid) (k : ℕ) → cluster_in t p k ≡ cluster_by past p k
