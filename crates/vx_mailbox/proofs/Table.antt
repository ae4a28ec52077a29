-- The mailboxes of the table, as one place changes.
use Rattle.std.proofs.Common.{◌≡◌, ◌≢◌, ℕ, replicate, ◌-◌, ◌+◌, ◌<◌, ◌≤◌, List, [], ◌∷◌, Bool, true, Option, Some, None, IfSome, IsTrue, is_some, is_none, option_map, length, map, position, slice_index_or, slice_set, take, ◌++◌, inl, inr, refl, ap, sym, subst, arith, ◌∙◌, drop, max}
use Rattle.std.proofs.Math.Nat.{le-max_left, le-max_right}
use Rattle.std.proofs.lemmas.List.{get_or_default, drop_at, take-append-drop, take-map, get_or-map, get_or_past, get_or-set_same, get_or-set_other, length-map, length-set, map-set, take_more, take_more_set}
use Rattle.std.proofs.lemmas.Bool.{cases_eq, cases_lt, false≢true}
use Rattle.std.proofs.lemmas.List.Quantifiers.{position-Some}
use Rattle.std.proofs.Math.Seq.{map-set_same}
use Rattle.vx_base.proofs.Lists.{none_there}
use Rattle.vx_base.proofs.First.{place_map}
use Rattle.vx_record.specs.Types.{BoxNo, Mailbox}
use Rattle.vx_record.specs.Channels.{is_box_of}
use Rattle.vx_record.specs.Mailboxes.{or_no_box}
use Rattle.vx_same.specs.Trimmed.{filled_to}
use Rattle.vx_same.proofs.Trimmed.{behind_set, front, further, there_before}
use Rattle.vx_mailbox.specs.Boxes.{Boxes, HaveRoom, StandsIn, with_box_in}
use Rattle.vx_mailbox.specs.Places.{Place, HasRoomFor, IsTable, box_at, no_place, room_at, table_of, with_box}

-- What is found.

-- the number of the first place that passes
pub number_is : (test : Option Mailbox → Bool) (places slice : List Place) (k : Boxes) (place : Option ℕ) (b : Option BoxNo) → table_of places ≡ k → slice ≡ places → option_map (λ b. b.0) b ≡ place → place ≡ position (λ x. test x.box) slice → option_map (λ b. b.0) b ≡ position test k.boxes
number_is test places slice k place b view same number is =
    number ∙ (is ∙ (ap (position (λ (x : Place). test x.box)) same ∙ (place_map test box_at places ∙ ap (λ (x : Boxes). position test x.boxes) view)))

box_stands : (name : List ℕ) (box : Option Mailbox) → is_box_of name box ≡ true → IsTrue (is_some box)
box_stands name None e = absurd (cc)
box_stands name (Some box) e = refl

-- the mailbox of a name stands
pub named_stands : (name : List ℕ) (boxes : List (Option Mailbox)) (b : Option BoxNo) → option_map (λ b. b.0) b ≡ position (is_box_of name) boxes → IfSome b (StandsIn boxes)
named_stands name boxes None e = tt
named_stands name boxes (Some b) e = box_stands name (slice_index_or boxes b.0 None) (position-Some (is_box_of name) boxes b.0 None (sym e)).1

-- there is no mailbox of a number that is free
pub free_there : (boxes : List (Option Mailbox)) (b : Option BoxNo) → option_map (λ b. b.0) b ≡ position is_none boxes → IfSome b (λ b. slice_index_or boxes b.0 None ≡ None)
free_there boxes None e = tt
free_there boxes (Some b) e = none_there (slice_index_or boxes b.0 None) (position-Some is_none boxes b.0 None (sym e)).1

-- Places.

-- what is read of a place
place_read : (places : List Place) (i : ℕ) (r : Place) → i < length places → r ≡ slice_index_or places i r → r.box ≡ slice_index_or (map box_at places) i None
place_read places i r within is = ap box_at is ∙ sym (get_or-map box_at places i r None within)

-- if a mailbox stands, there is a place
stands_within : (places : List Place) (b : BoxNo) → StandsIn (map box_at places) b → b.0 < length places
stands_within places b stands =
    elim (cases_lt b.0 (length places)) [
      | inl within ↦ within
      | inr past ↦ let none : slice_index_or (map box_at places) b.0 None ≡ None = get_or_past (map box_at places) b.0 None (omega (arith, past, length-map places box_at)) in absurd (false≢true (sym (ap is_some none) ∙ stands))
    ]

pub stands_in : (places : List Place) (k : Boxes) (b : BoxNo) → table_of places ≡ k → StandsIn k.boxes b → b.0 < length places
stands_in places k b view stands = stands_within places b (subst (λ (x : Boxes). StandsIn x.boxes b) (sym view) stands)

-- a place whose mailbox is changed, in the same room
pub changed_at : (g : Option Mailbox → Option Mailbox) (places : List Place) (k : Boxes) (b : BoxNo) (r new : Place) → table_of places ≡ k → b.0 < length places → r ≡ slice_index_or places b.0 r → new ≡ with_box r (g r.box) → table_of (slice_set places b.0 new) ≡ record k { boxes = with_box_in k.boxes b (g (slice_index_or k.boxes b.0 None)) }
changed_at g places k b r new view within is e =
    let boxes : map box_at (slice_set places b.0 new) ≡ slice_set (map box_at places) b.0 (g (slice_index_or (map box_at places) b.0 None)) = map-set box_at places b.0 new ∙ ap (slice_set (map box_at places) b.0) (ap box_at e ∙ ap g (place_read places b.0 r within is)) in
    let rooms : map room_at (slice_set places b.0 new) ≡ map room_at places = map-set_same room_at places b.0 new r (ap room_at e ∙ ap room_at is) in
    ap (λ (bs : List (Option Mailbox)). record { boxes = bs; rooms = map room_at (slice_set places b.0 new) }) boxes
    ∙ ap (λ (ns : List ℕ). record { boxes = slice_set (map box_at places) b.0 (g (slice_index_or (map box_at places) b.0 None)); rooms = ns }) rooms
    ∙ ap (λ (x : Boxes). record x { boxes = with_box_in x.boxes b (g (slice_index_or x.boxes b.0 None)) }) view

pub changed_there : (g : Option Mailbox → Option Mailbox) (places : List Place) (k : Boxes) (b : BoxNo) (r new : Place) → table_of places ≡ k → StandsIn k.boxes b → r ≡ slice_index_or places b.0 r → new ≡ with_box r (g r.box) → table_of (slice_set places b.0 new) ≡ record k { boxes = with_box_in k.boxes b (g (slice_index_or k.boxes b.0 None)) }
changed_there g places k b r new view stands is e = changed_at g places k b r new view (stands_in places k b view stands) is e

-- Rooms.

-- every mailbox has room, but perhaps the one that was set
rooms_set : (places : List Place) (i : ℕ) (new : Place) (short : ℕ) → ((k : ℕ) → k < 64 → k ≢ short → k ≢ i → HasRoomFor (slice_index_or places k no_place)) → (i ≢ short → HasRoomFor new) → length places ≡ 64 → (k : ℕ) → k < 64 → k ≢ short → HasRoomFor (slice_index_or (slice_set places i new) k no_place)
rooms_set places i new short others here count k lt apart =
    elim (cases_eq k i) [
      | inl same ↦ subst HasRoomFor (sym (ap (λ n. slice_index_or (slice_set places i new) n no_place) same ∙ get_or-set_same places i new no_place (omega (arith, same, lt, count)))) (here (λ is. apart (same ∙ is)))
      | inr other ↦ subst HasRoomFor (sym (get_or-set_other places i k new no_place other)) (others k lt apart other)
    ]

-- what the table says of a place, and what a place says of the table

box_seen : (places : List Place) (k : ℕ) → k < length places → slice_index_or (map box_at places) k None ≡ (slice_index_or places k no_place).box
box_seen places k within = get_or-map box_at places k no_place None within

room_seen : (places : List Place) (k : ℕ) → k < length places → slice_index_or (map room_at places) k 0 ≡ (slice_index_or places k no_place).room
room_seen places k within = get_or-map room_at places k no_place 0 within

-- room of the place k, as the table says it
abbrev HasRoomIn : List Place → ℕ → Type 0
HasRoomIn places k = IsTrue (is_some (slice_index_or (map box_at places) k None)) → length (or_no_box (slice_index_or (map box_at places) k None)).messages + 1 ≤ slice_index_or (map room_at places) k 0

room_in : (places : List Place) (k : ℕ) → k < length places → HasRoomIn places k → HasRoomFor (slice_index_or places k no_place)
room_in places k within room there =
    let has = room (ap is_some (box_seen places k within) ∙ there) in
    omega (arith, has, ap (λ (o : Option Mailbox). length (or_no_box o).messages) (box_seen places k within), room_seen places k within)

room_of : (places : List Place) (k : ℕ) → k < length places → HasRoomFor (slice_index_or places k no_place) → HasRoomIn places k
room_of places k within room there =
    let has = room (sym (ap is_some (box_seen places k within)) ∙ there) in
    omega (arith, has, ap (λ (o : Option Mailbox). length (or_no_box o).messages) (box_seen places k within), room_seen places k within)

-- the table after a mailbox was made, or a message was put, if there was room in each
pub table_put : (places : List Place) (short used i after : ℕ) (k : Boxes) (new : Place) → table_of places ≡ k → IsTable places short used → HaveRoom k.boxes k.rooms → i < length places
    → after ≤ 64 → drop after (map box_at (slice_set places i new)) ≡ replicate (64 - after) None → IsTable (slice_set places i new) i after
table_put places short used i after k new view t rooms within most behind =
    let old : HaveRoom (map box_at places) (map room_at places) = subst (λ (x : Boxes). HaveRoom x.boxes x.rooms) (sym view) rooms in
    record {
      count = length-set places i new ∙ t.count;
      within = omega (arith, within, t.count);
      rooms = rooms_set places i new i (λ j lt _ _. room_in places j (omega (arith, lt, t.count)) (old (record { 0 = j }) lt)) (λ apart. absurd (apart refl)) t.count;
      most = most;
      behind = behind;
    }

-- the table after room was made in the place that may be short of it
pub table_full : (places : List Place) (short used : ℕ) (new : Place) → IsTable places short used → HasRoomFor new → HaveRoom (map box_at (slice_set places short new)) (map room_at (slice_set places short new))
table_full places short used new t room b lt =
    let after = slice_set places short new in
    let full : HasRoomFor (slice_index_or after b.0 no_place) = elim (cases_eq b.0 short) [
      | inl same ↦ subst HasRoomFor (sym (ap (λ n. slice_index_or after n no_place) same ∙ get_or-set_same places short new no_place (omega (arith, t.within, t.count)))) room
      | inr other ↦ subst HasRoomFor (sym (get_or-set_other places short b.0 new no_place other)) (t.rooms b.0 lt other)
    ] in
    room_of after b.0 (omega (arith, lt, t.count, length-set places short new)) full

-- the table after a place was changed that has room still
pub table_changed : (places : List Place) (short used i : ℕ) (new : Place) → IsTable places short used → (i ≢ short → HasRoomFor new) → drop used (map box_at (slice_set places i new)) ≡ replicate (64 - used) None → IsTable (slice_set places i new) short used
table_changed places short used i new t room behind = record {
  count = length-set places i new ∙ t.count;
  within = t.within;
  rooms = rooms_set places i new short (λ j lt apart _. t.rooms j lt apart) room t.count;
  most = t.most;
  behind = behind;
}

-- if there is room in each, any place may be the one that is named as short of it
pub table_any : (places : List Place) (short used i : ℕ) (k : Boxes) → table_of places ≡ k → IsTable places short used → HaveRoom k.boxes k.rooms → i < 64 → IsTable places i used
table_any places short used i k view t rooms within =
    let old : HaveRoom (map box_at places) (map room_at places) = subst (λ (x : Boxes). HaveRoom x.boxes x.rooms) (sym view) rooms in
    record {
      count = t.count;
      within = within;
      rooms = λ j lt _. room_in places j (omega (arith, lt, t.count)) (old (record { 0 = j }) lt);
      most = t.most;
      behind = t.behind;
    }

-- the mailboxes as one place has another
pub boxes_set : (places : List Place) (i : ℕ) (k : Boxes) (new : Place) → table_of places ≡ k → map box_at (slice_set places i new) ≡ slice_set k.boxes i new.box
boxes_set places i k new view = map-set box_at places i new ∙ ap (λ (x : Boxes). slice_set x.boxes i new.box) view

-- one mailbox more is as it was put away
pub same_more : (xs ys : List (Option Mailbox)) (i : ℕ) → i < length xs → i < length ys → take i xs ≡ take i ys → take (i + 1) (slice_set xs i (slice_index_or ys i None)) ≡ take (i + 1) ys
same_more xs ys i here there front =
    take_more_set xs i (slice_index_or ys i None) here
    ∙ (ap (λ (zs : List (Option Mailbox)). zs ++ slice_index_or ys i None ∷ []) front
    ∙ sym (take_more ys i None there))

-- Behind the used places.

-- a place is set, and used from then on
pub used_made : (places : List Place) (used i : ℕ) (new : Place) → drop used (map box_at places) ≡ replicate (64 - used) None → drop (max used (i + 1)) (map box_at (slice_set places i new)) ≡ replicate (64 - max used (i + 1)) None
used_made places used i new behind =
    let past = le-max_right used (i + 1) in
    ap (drop (max used (i + 1))) (map-set box_at places i new) ∙ behind_set 64 None new.box (map box_at places) used i (max used (i + 1)) (le-max_left used (i + 1)) (omega (arith, past)) behind

-- the place of a mailbox is one that is used
pub used_there : (places : List Place) (k : Boxes) (b : BoxNo) (used : ℕ) (new : Place) → table_of places ≡ k → StandsIn k.boxes b → drop used (map box_at places) ≡ replicate (64 - used) None → drop used (map box_at (slice_set places b.0 new)) ≡ replicate (64 - used) None
used_there places k b used new view stands behind =
    let there : StandsIn (map box_at places) b = subst (λ (x : Boxes). StandsIn x.boxes b) (sym view) stands in
    ap (drop used) (map-set box_at places b.0 new) ∙ behind_set 64 None new.box (map box_at places) used b.0 used (omega arith) (there_before 64 (map box_at places) used b.0 there behind) behind

-- a place has the same mailbox
pub used_same : (places : List Place) (used i : ℕ) (old new : Place) → new.box ≡ old.box → old ≡ slice_index_or places i old → drop used (map box_at places) ≡ replicate (64 - used) None → drop used (map box_at (slice_set places i new)) ≡ replicate (64 - used) None
used_same places used i old new same is behind = ap (drop used) (map-set_same box_at places i new old (same ∙ ap box_at is)) ∙ behind

-- nor behind more
pub reach_behind : (places : List Place) (k : Boxes) (used least n : ℕ) → table_of places ≡ k → n ≡ max used least → drop used (map box_at places) ≡ replicate (64 - used) None → drop n k.boxes ≡ replicate (64 - n) None
reach_behind places k used least n view is behind =
    subst (λ (m : ℕ). drop m k.boxes ≡ replicate (64 - m) None) (sym is) (further 64 None k.boxes used (max used least) (le-max_left used least) (subst (λ (x : Boxes). drop used x.boxes ≡ replicate (64 - used) None) view behind))

-- the used places have all mailboxes
pub used_front : (places : List Place) (k : Boxes) (used : ℕ) → table_of places ≡ k → length places ≡ 64 → used ≤ 64 → drop used (map box_at places) ≡ replicate (64 - used) None → filled_to 64 None (map box_at (take used places)) ≡ k.boxes
used_front places k used view count most behind =
    ap (filled_to {A = Option Mailbox} 64 None) (sym (take-map box_at used places))
    ∙ (front 64 None (map box_at places) used (length-map places box_at ∙ count) most behind ∙ ap (λ (x : Boxes). x.boxes) view)

-- all are as they were put away, if the first are, and there is none behind
pub all_as : (bs new : List (Option Mailbox)) (reach : ℕ) → length bs ≤ reach → take reach new ≡ take reach (filled_to 64 None bs) → drop reach new ≡ replicate (64 - reach) None → new ≡ filled_to 64 None bs
all_as bs new reach long same behind =
    let all : List (Option Mailbox) = filled_to 64 None bs in
    let rest : drop reach all ≡ replicate (64 - reach) None = further 64 None all (length bs) reach long (drop_at bs (replicate (64 - length bs) None) (length bs) refl) in
    sym (take-append-drop reach new)
    ∙ (ap (λ (ys : List (Option Mailbox)). ys ++ drop reach new) same
    ∙ (ap (λ (ys : List (Option Mailbox)). take reach all ++ ys) (behind ∙ sym rest) ∙ take-append-drop reach all))

-- The table after a mailbox was changed, in the same room.

changed_room : (places : List Place) (short used : ℕ) (k : Boxes) (b : BoxNo) (old new : Place) (box : Option Mailbox) → table_of places ≡ k → StandsIn k.boxes b → IsTable places short used → old ≡ slice_index_or places b.0 old
    → new ≡ with_box old box → length (or_no_box box).messages ≤ length (or_no_box old.box).messages → b.0 ≢ short → HasRoomFor new
changed_room places short used k b old new box view stands t is put fewer apart there =
    let within = stands_in places k b view stands in
    let had : HasRoomFor old = subst HasRoomFor (get_or_default places b.0 no_place old within ∙ sym is) (t.rooms b.0 (omega (arith, within, t.count)) apart) in
    let stood : IsTrue (is_some old.box) = subst (λ (o : Option Mailbox). IsTrue (is_some o)) (sym (place_read places b.0 old within is)) (subst (λ (x : Boxes). StandsIn x.boxes b) (sym view) stands) in
    let has = had stood in
    omega (arith, has, fewer, ap (λ (x : Place). length (or_no_box x.box).messages) put, ap room_at put)

-- it has no more messages
pub table_kept : (places : List Place) (short used : ℕ) (k : Boxes) (b : BoxNo) (old new : Place) (box : Option Mailbox) → table_of places ≡ k → StandsIn k.boxes b → IsTable places short used → old ≡ slice_index_or places b.0 old
    → new ≡ with_box old box → length (or_no_box box).messages ≤ length (or_no_box old.box).messages → IsTable (slice_set places b.0 new) short used
table_kept places short used k b old new box view stands t is put fewer =
    table_changed places short used b.0 new t (changed_room places short used k b old new box view stands t is put fewer) (used_there places k b used new view stands t.behind)
