-- How many bytes are stored, as messages come and go.
use Rattle.std.proofs.Common.{◌≡◌, ℕ, ◌+◌, List, [], ◌∷◌, ◌++◌, Bool, true, false, cond, Option, Some, None, IfSome, length, refl, ap, sym, subst, arith, ◌∙◌}
use Rattle.std.specs.List.{find}
use Rattle.vx_base.proofs.First.{less_none}
use Rattle.vx_base.specs.Lists.{less}
use Rattle.vx_base.specs.Queues.{body_bytes, stored_bytes}
use Rattle.vx_record.specs.Types.{Msg}
use Rattle.vx_record.proofs.Lists.{all_append, all_less}
use Rattle.vx_mailbox.specs.Boxes.{IsShort}
use Rattle.vx_mailbox.specs.Places.{AreStored}

stored_more : (xs : List Msg) (m : Msg) → stored_bytes (xs ++ m ∷ []) ≡ stored_bytes xs + length (body_bytes m.body)
stored_more [] m = omega arith
stored_more (x ∷ xs) m = omega (arith, stored_more xs m)

-- the bytes of a message that was found, none if there is none
abbrev bytes_of : Option Msg → ℕ
bytes_of None = 0
bytes_of (Some m) = length (body_bytes m.body)

stored_less : (p : Msg → Bool) (xs : List Msg) → stored_bytes xs ≡ bytes_of (find p xs) + stored_bytes (less p xs)
stored_less p [] = refl
stored_less p (x ∷ xs) = elim (p x) as (λ b. stored_bytes (x ∷ xs) ≡ bytes_of (cond b (Some x) (find p xs)) + stored_bytes (cond b xs (x ∷ less p xs))) [ true ↦ refl | false ↦ omega (arith, stored_less p xs) ]

pub stored_put : (xs : List Msg) (m : Msg) (old new : Option ℕ) → AreStored xs old → IsShort m → ((n : ℕ) → IfSome old (λ bytes. bytes ≡ n) → IfSome new (λ bytes. bytes ≡ n + length (body_bytes m.body))) → AreStored (xs ++ m ∷ []) new
stored_put xs m old new stored short more = record {
  short = all_append IsShort xs (m ∷ []) stored.short (short, tt);
  counted = subst (λ (n : ℕ). IfSome new (λ bytes. bytes ≡ n)) (sym (stored_more xs m)) (more (stored_bytes xs) stored.counted);
}

pub stored_taken : (p : Msg → Bool) (xs : List Msg) (m : Msg) (old new : Option ℕ) → find p xs ≡ Some m → AreStored xs old → ((n : ℕ) → IfSome old (λ bytes. bytes ≡ length (body_bytes m.body) + n) → IfSome new (λ bytes. bytes ≡ n)) → AreStored (less p xs) new
stored_taken p xs m old new found stored fewer = record {
  short = all_less IsShort p xs stored.short;
  counted = fewer (stored_bytes (less p xs)) (subst (λ (n : ℕ). IfSome old (λ bytes. bytes ≡ n)) (stored_less p xs ∙ ap (λ (o : Option Msg). bytes_of o + stored_bytes (less p xs)) found) stored.counted);
}

pub stored_still : (p : Msg → Bool) (xs : List Msg) (old : Option ℕ) → find p xs ≡ None → AreStored xs old → AreStored (less p xs) old
stored_still p xs old none stored = subst (λ (ys : List Msg). AreStored ys old) (sym (less_none p xs none)) stored
