-- Mailboxes without the numbers behind the last one.
use Rattle.std.proofs.Common.{◌≡◌, ℕ, zero, suc, ◌-◌, ◌≤◌, List, [], ◌∷◌, ◌++◌, Option, Some, None, length, map, replicate, is_none, true, false, ap, refl, ◌∙◌, arith}
use Rattle.std.proofs.lemmas.List.{length-map, map-append}
use Rattle.vx_record.specs.Types.{Mailbox}
use Rattle.vx_record.specs.Mailboxes.{or_no_box}
use Rattle.vx_mailbox.specs.Digest.{mix_boxes, mix_messages}
use Rattle.vx_mailbox.specs.Places.{Place, box_at}
use Rattle.vx_same.specs.Trimmed.{filled_to, trimmed}
use Rattle.vx_same.proofs.Trimmed.{filled_same, none_last, same_trimmed, shorter, some_last, trimmed_same}

free_end : {A : Type 0} (xs : List (Option A)) (o : Option A) → is_none o ≡ true → trimmed (xs ++ o ∷ []) ≡ trimmed xs
free_end xs None e = none_last xs
free_end xs (Some a) e = absurd (cc)

used_end : {A : Type 0} (xs : List (Option A)) (o : Option A) → is_none o ≡ false → trimmed (xs ++ o ∷ []) ≡ xs ++ o ∷ []
used_end xs None e = absurd (cc)
used_end xs (Some a) e = some_last xs a

boxes_and_last : (front places : List Place) (last : Place) → places ≡ front ++ last ∷ [] → map box_at places ≡ map box_at front ++ last.box ∷ []
boxes_and_last front places last is = ap (map box_at) is ∙ map-append box_at front (last ∷ [])

-- a place without a mailbox at the end is left out
pub free_last : (front places : List Place) (last : Place) → places ≡ front ++ last ∷ [] → is_none last.box ≡ true → trimmed (map box_at places) ≡ trimmed (map box_at front)
free_last front places last is free = rw (boxes_and_last front places last is) (free_end (map box_at front) last.box free)

-- nothing is left out before a mailbox
pub used_last : (front places : List Place) (last : Place) → places ≡ front ++ last ∷ [] → is_none last.box ≡ false → trimmed (map box_at places) ≡ map box_at places
used_last front places last is used = rw (boxes_and_last front places last is) (used_end (map box_at front) last.box used)

-- no more are left
pub trimmed_few : (places : List Place) → length places ≤ 64 → length (trimmed (map box_at places)) ≤ 64
trimmed_few places few = omega (arith, shorter (map box_at places), length-map places box_at, few)

-- all come back
pub boxes_again : (places : List Place) → length places ≤ 64 → filled_to 64 None (trimmed (map box_at places)) ≡ filled_to 64 None (map box_at places)
boxes_again places few = filled_same 64 (map box_at places) (omega (arith, few, length-map places box_at))

-- what is not there adds nothing to a digest

mix_none : (k digest : ℕ) → mix_boxes digest (replicate k None) ≡ digest
mix_none zero digest = refl
mix_none (suc k) digest = mix_none k digest

mix_front : (boxes : List (Option Mailbox)) (k digest : ℕ) → mix_boxes digest (boxes ++ replicate k None) ≡ mix_boxes digest boxes
mix_front [] k digest = mix_none k digest
mix_front (box ∷ boxes) k digest = mix_front boxes k (mix_messages digest (or_no_box box).messages)

pub mix_filled : (boxes : List (Option Mailbox)) (digest : ℕ) → mix_boxes digest (filled_to 64 None boxes) ≡ mix_boxes digest boxes
mix_filled boxes digest = mix_front boxes (64 - length boxes) digest

-- what was put away is what the places have exactly where it is that up to the last mailbox

pub boxes_same : (boxes : List (Option Mailbox)) (places : List Place) → length places ≤ 64 → boxes ≡ trimmed (map box_at places) → filled_to 64 None boxes ≡ filled_to 64 None (map box_at places)
boxes_same boxes places few is = trimmed_same 64 boxes (map box_at places) (omega (arith, few, length-map places box_at)) is

pub same_boxes : (boxes : List (Option Mailbox)) (places : List Place) → trimmed boxes ≡ boxes → length places ≤ 64 → filled_to 64 None boxes ≡ filled_to 64 None (map box_at places) → boxes ≡ trimmed (map box_at places)
same_boxes boxes places own few same = same_trimmed 64 boxes (map box_at places) own (omega (arith, few, length-map places box_at)) same
