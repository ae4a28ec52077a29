-- A process's cluster is what the last effect on it tells.
use Rattle.std.proofs.Common.{◌≡◌, ℕ, Bool, true, false, cond, List, Option, option_map, ap, ◌∙◌}
use Rattle.vx_judge.specs.Owing.{cluster_of}
use Rattle.vx_judge.specs.declared.joined.Joined.{Joined}

pub joined_on : (b : Bool) (new old put : Option Joined) (now was : Option (ℕ × List ℕ)) → new ≡ cond b put old → option_map cluster_of put ≡ now → option_map cluster_of old ≡ was →
    option_map cluster_of new ≡ cond b now was
joined_on true new old put now was e h k = ap (option_map cluster_of) e ∙ h
joined_on false new old put now was e h k = ap (option_map cluster_of) e ∙ k
