-- What an id asks is changed in two tables.
use Rattle.std.proofs.Common.{◌≡◌, ℕ, Bool, true, false, cond, List, Option, Some, refl}
use Rattle.vx_judge.specs.Requests.{asked_with}
use Rattle.vx_judge.specs.declared.asked.Asking.{Asking}

pub asked_set : (b : Bool) (device new old : Option (List ℕ)) (a : Asking) (now was : Option Asking) → new ≡ cond b device old → now ≡ cond b (Some a) was →
    asked_with new now ≡ cond b (asked_with device (Some a)) (asked_with old was)
asked_set true device new old a now was d e = rw (d, e) refl
asked_set false device new old a now was d e = rw (d, e) refl
