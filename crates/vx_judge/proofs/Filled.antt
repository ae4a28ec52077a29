-- A status block is filled by the last effect on it.
use Rattle.std.proofs.Common.{◌≡◌, Bool, true, false, cond, Option, Some, unwrap_or}
use Rattle.vx_record.specs.Types.{Status}
use Rattle.vx_record.specs.Flags.{is_filled}

pub filled_on : (b : Bool) (new old : Option Bool) (v : Bool) (s t : Status) → new ≡ cond b (Some v) old → v ≡ is_filled s → unwrap_or old false ≡ is_filled t → unwrap_or new false ≡ is_filled (cond b s t)
filled_on true new old v s t e h k = rw e h
filled_on false new old v s t e h k = rw e k
