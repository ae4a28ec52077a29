-- What holds of all that a chain of readings may give.
use Rattle.std.proofs.Common.{◌≡◌, Result, Ok, Err, IfOk, refl}
use Rattle.vx_script.specs.Results.{◌>>=◌}

-- the rest is looked at behind what the first reading gave
pub after : {A B E : Type 0} (r : Result A E) (f : A → Result B E) (Q : B → Type 0) → ((x : A) → r ≡ Ok x → IfOk (f x) Q) → IfOk (r >>= f) Q
after (Ok x) f Q k = k x refl
after (Err e) f Q k = tt

-- the same, if something is known of what the first reading gives
pub after_by : {A B E : Type 0} (r : Result A E) (f : A → Result B E) (P : A → Type 0) (Q : B → Type 0) → IfOk r P
    → ((x : A) → P x → IfOk (f x) Q) → IfOk (r >>= f) Q
after_by (Ok x) f P Q h k = k x h
after_by (Err e) f P Q h k = tt
