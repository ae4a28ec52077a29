-- What the tests of a request come to.
use Rattle.std.proofs.Common.{◌≡◌, ℕ, ◌-◌, arith, List, [], ◌∷◌, Bool, true, false, cond, not, ◌||◌, nat_le, nat_lt, if◌then◌else◌, Option, Some, None, Result, Ok, Err, is_none, is_some, option_map, refl, subst, sym}
use Rattle.std.specs.List.{AllByRecursion, find, list_any}
use Rattle.vx_base.specs.Channels.{channel_at, is_channel_number}
use Rattle.vx_base.specs.Modes.{is_inner}
use Rattle.vx_record.specs.Types.{Cell, Channel, Cond, Mode, Pid}
use Rattle.vx_base.specs.declared.cond.Cond.TheVariants.{IvChan, NoPriv}
use Rattle.vx_record.specs.Channels.{channel_test, usable_in}
use Rattle.vx_record.specs.Requests.{Asked, device_test, is_bad, request_test}
use Rattle.vx_record.specs.Sound.{ChannelStands, DeviceStands, Ground, ground}
use Rattle.vx_record.specs.State.{State, current, process_at}
use Rattle.vx_ctl.specs.Answers.{named_flag}
use Rattle.std.proofs.lemmas.Bool.{leb-false, leb-true, lt-ltb, ltb-true, false_from_ne_true}
use Rattle.vx_record.proofs.Lists.{all_get}
pub use Rattle.vx_record.proofs.Lists.{mapped_some}

pub mapped_none : {A B : Type 0} (f : A → B) (o : Option A) → is_none (option_map f o) ≡ is_none o
mapped_none f None = refl
mapped_none f (Some x) = refl

-- A channel that may be used is to a device that stands.

usable_stands : (g : Ground) (mode : Mode) (row : Option Channel) (ch : Channel) → ChannelStands g row → usable_in mode row ≡ Ok ch → DeviceStands g ch.device
usable_stands g mode None ch h e = absurd (cc)
usable_stands g mode (Some c) ch h e = by_mode (is_inner c.mode mode) e
  where
    by_mode : (b : Bool) → (let r : Result Channel Cond = if b then Err NoPriv else Ok c in r) ≡ Ok ch → DeviceStands g ch.device
    by_mode true e = absurd (cc)
    by_mode false e = subst (λ (x : Channel). DeviceStands g x.device) (let same : c ≡ ch = cc in same) h

pub channel_stands : (s : State) (p : Pid) (n : ℕ) (ch : Channel) → AllByRecursion (ChannelStands (ground s)) (process_at s p).channels → channel_test s p n ≡ Ok ch → DeviceStands (ground s) ch.device
channel_stands s p n ch h e = by_number (is_channel_number n) e
  where
    by_number : (b : Bool) → (if b then usable_in (current s p) (channel_at (process_at s p).channels n) else Err IvChan) ≡ Ok ch → DeviceStands (ground s) ch.device
    by_number true e = usable_stands (ground s) (current s p) (channel_at (process_at s p).channels n) ch (all_get (ChannelStands (ground s)) (process_at s p).channels (n - 1) None tt h) e
    by_number false e = absurd (cc)

-- Reads that wait, and room for bytes.

pub none_waits : {A B : Type 0} (f : A → B) (p : A → Bool) (xs : List A) → is_none (option_map f (find p xs)) ≡ not (list_any p xs)
none_waits f p [] = refl
none_waits f p (x ∷ xs) = elim (p x) as (λ b. is_none (option_map f (cond b (Some x) (find p xs))) ≡ not (b || list_any p xs)) [
  | true ↦ refl
  | false ↦ none_waits f p xs
]

pub some_waits : {A B : Type 0} (f : A → B) (p : A → Bool) (xs : List A) → is_some (option_map f (find p xs)) ≡ list_any p xs
some_waits f p [] = refl
some_waits f p (x ∷ xs) = elim (p x) as (λ b. is_some (option_map f (cond b (Some x) (find p xs))) ≡ (b || list_any p xs)) [
  | true ↦ refl
  | false ↦ some_waits f p xs
]

pub not_within : (a b : ℕ) → not (nat_le a b) ≡ nat_lt b a
not_within a b =
    elim (nat_le a b) as (λ x. nat_le a b ≡ x → not x ≡ nat_lt b a) [
      | true ↦ λ within. let e = leb-true a b within in sym (false_from_ne_true (nat_lt b a) (λ above. let f = ltb-true b a above in omega (arith, e, f)))
      | false ↦ λ beyond. let e = leb-false a b beyond in sym (lt-ltb b a (omega (arith, e)))
    ] refl

-- The tests up to the channel's passed.
pub tested : (s : State) (p : Pid) (q : Asked) (c : Cell) (ch : Channel) → is_bad q ≡ false → Ok c ≡ named_flag s p q.efn → channel_test s p q.chan ≡ Ok ch → request_test s p q ≡ device_test s p q c ch
tested s p q c ch good named chan = grind arith
