-- Quotas and privileges: amounts of five accounts, and a process that holds no privilege.
use Rattle.std.specs.Prelude.{◌+◌, ◌-◌, Bool, false, ◌&&◌, nat_le}
use Rattle.vx_base.specs.declared.quota.Need.{Need}
use Rattle.vx_base.specs.declared.quota.Privs.{Privs}

abbrev pub no_need : Need
no_need = record { ast = 0; bio = 0; dio = 0; byt = 0; tqe = 0 }

-- amounts together, in each account
abbrev pub together : Need → Need → Need
together a b = record { ast = a.ast + b.ast; bio = a.bio + b.bio; dio = a.dio + b.dio; byt = a.byt + b.byt; tqe = a.tqe + b.tqe }

-- what is left of the first without the second
abbrev pub without : Need → Need → Need
without a b = record { ast = a.ast - b.ast; bio = a.bio - b.bio; dio = a.dio - b.dio; byt = a.byt - b.byt; tqe = a.tqe - b.tqe }

-- none is above its limit
abbrev pub is_within : Need → Need → Bool
is_within a limits = nat_le a.ast limits.ast && (nat_le a.bio limits.bio && (nat_le a.dio limits.dio && (nat_le a.byt limits.byt && nat_le a.tqe limits.tqe)))

-- no privilege
abbrev pub no_privs : Privs
no_privs = record { cmexec = false; cmkrnl = false; group = false; prmceb = false; prmmbx = false; world = false }
