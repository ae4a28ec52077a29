-- A process's quotas: how much of each account is used, and how much may be.
use Rattle.std.specs.Prelude.{Bool, if◌then◌else◌}
use Rattle.vx_base.specs.Quotas.{together, without, is_within}
use Rattle.vx_base.specs.declared.quota.Need.{Need}

pub record Quotas : Type 0 where
  pub used : Need
  pub limits : Need

-- an amount more is within the limits, in each account
abbrev pub has_left : Quotas → Need → Bool
has_left q need = is_within (together q.used need) q.limits

-- the amount charged in each account, if that is within the limits, and else in none
abbrev pub charged : Quotas → Need → Quotas
charged q need = if has_left q need then record q { used = together q.used need } else q

-- the amount given back in each account
abbrev pub released : Quotas → Need → Quotas
released q need = record q { used = without q.used need }
