-- An image that is being read, line by line.
use Rattle.std.proofs.Common.{◌≡◌, ◌∙◌, ℕ, ◌≤◌, Bool, true, false, nat_le, nat_lt, List, [], ◌∷◌, ◌++◌, length, map, drop, Option, Some, None, IfOk, bytes_eq, refl, ap, arith, length-append, le_refl}
use Rattle.std.specs.List.{list_all}
use Rattle.std.proofs.lemmas.Bool.{leb-true, le-leb}
use Rattle.vx_image.specs.declared.image.Image.{Image}
use Rattle.vx_image.specs.declared.image.Label.{Label}
use Rattle.vx_image.specs.WellFormed.{is_among, are_distinct, falls_nowhere}
use Rattle.vx_text.specs.declared.token.Tok.{Tok}
use Rattle.vx_script.specs.Fields.{name_at, end_at, when, room_for}
use Rattle.vx_script.specs.Declarations.{unused_name, image_line}
use Rattle.vx_script.specs.Places.{image_place, label_place}
use Rattle.vx_script.specs.Statements.{stmt_of}
use Rattle.vx_script.specs.Reading.{with_stmt, with_label, labelled}
use Rattle.vx_script.specs.declared.draft.DraftImage.{DraftImage}
use Rattle.vx_script.specs.declared.draft.DraftLine.{DraftLine}
use Rattle.vx_script.specs.declared.fault.FaultKind.TheVariants as kind
use Rattle.vx_script.proofs.Appended.{few_push, distinct_push, falls_push}
use Rattle.vx_script.proofs.Chains.{after, after_by}
use Rattle.vx_script.proofs.InRange.{is_draft, IsDraft, statement}
use Rattle.std.proofs.lemmas.List.{map_push}
use Rattle.vx_base.proofs.Any.{no_position, all_weaker, all_push, any_map}

-- the image is new among those that have ended, and its lines are in range
pub record IsOpen (images : List Image) (image : DraftImage) : Type 0 where
  pub room : nat_lt (length images) 256 ≡ true
  pub new : is_among image.name (map (λ i. i.name) images) ≡ false
  pub few : nat_le (length image.lines) 10000 ≡ true
  pub names : are_distinct (map (λ l. l.name) image.labels) ≡ true
  pub places : falls_nowhere 0 (map (λ l. l.place) image.labels) ≡ true
  pub within : list_all (λ place. nat_le place (length image.lines)) (map (λ l. l.place) image.labels) ≡ true
  pub drafts : list_all (λ d. is_draft d.draft) image.lines ≡ true

-- Small readings.

abbrev pub IsFresh : Option ℕ → List ℕ → List ℕ → Type 0
IsFresh place word name = (name ≡ word) × (place ≡ None)

pub is_fresh : (place : Option ℕ) (word : List ℕ) → IfOk (unused_name place word) (IsFresh place word)
is_fresh None word = (refl, refl)
is_fresh (Some k) word = tt

has_room_by : (few : Bool) → IfOk (when few kind.Size) (λ _. few ≡ true)
has_room_by true = refl
has_room_by false = tt

pub has_room : (most count : ℕ) → IfOk (room_for most count) (λ _. nat_lt count most ≡ true)
has_room most count = has_room_by (nat_lt count most)

-- Lines.

-- places up to a number are up to a larger one
no_farther : (m n : ℕ) (places : List ℕ) → m ≤ n → list_all (λ place. nat_le place m) places ≡ true → list_all (λ place. nat_le place n) places ≡ true
no_farther m n places h =
    all_weaker (λ place. nat_le place m) (λ place. nat_le place n) (λ place k. le-leb place n (omega (arith, h, leb-true place m k))) places

abbrev with_line : DraftImage → DraftLine → DraftImage
with_line image d = record image { lines = image.lines ++ d ∷ [] }

one_line_more : (images : List Image) (image : DraftImage) (d : DraftLine) → IsOpen images image → is_draft d.draft ≡ true
    → nat_lt (length image.lines) 10000 ≡ true → IsOpen images (with_line image d)
one_line_more images image d h k room = record {
  room = h.room;
  new = h.new;
  few = few_push 10000 image.lines d room;
  names = h.names;
  places = h.places;
  within =
      no_farther (length image.lines) (length (image.lines ++ d ∷ [])) (map (λ l. l.place) image.labels)
      (omega (arith, length-append image.lines (d ∷ []))) h.within;
  drafts = all_push (λ d. is_draft d.draft) image.lines d h.drafts k;
}

pub stmt_read : (images : List Image) (line : ℕ) (image : DraftImage) (tokens : List Tok) → IsOpen images image
    → IfOk (with_stmt line image tokens) (IsOpen images)
stmt_read images line image [] h = h
stmt_read images line image (t ∷ tokens) h =
    after_by (stmt_of t tokens) _ IsDraft (IsOpen images) (statement t tokens) λ d k.
    after_by (room_for 10000 (length image.lines)) _ (λ _. nat_lt (length image.lines) 10000 ≡ true) (IsOpen images)
    (has_room 10000 (length image.lines)) λ _ room.
    one_line_more images image (record { line = line; draft = d }) h k room

one_label_more : (images : List Image) (image : DraftImage) (name : List ℕ) → IsOpen images image → label_place name image.labels ≡ None
    → IsOpen images (with_label image name)
one_label_more images image name h new =
    let n = length image.lines in
    let l : Label = record { name = name; place = n } in
    let places = map (λ (l : Label). l.place) image.labels in
    let names = map (λ (l : Label). l.name) image.labels in
    let more_names : map (λ (l : Label). l.name) (image.labels ++ l ∷ []) ≡ names ++ name ∷ [] = map_push (λ (l : Label). l.name) image.labels l in
    let more_places : map (λ (l : Label). l.place) (image.labels ++ l ∷ []) ≡ places ++ n ∷ [] = map_push (λ (l : Label). l.place) image.labels l in
    let absent : is_among name names ≡ false =
    any_map (bytes_eq name) (λ (l : Label). l.name) image.labels ∙ no_position (λ (l : Label). bytes_eq name l.name) image.labels new in
    record {
      room = h.room;
      new = h.new;
      few = h.few;
      names = ap are_distinct more_names ∙ distinct_push names name h.names absent;
      places = ap (falls_nowhere 0) more_places ∙ falls_push 0 places n h.places (le-leb 0 n (omega arith)) h.within;
      within = ap (list_all (λ place. nat_le place n)) more_places ∙ all_push (λ place. nat_le place n) places n h.within (le-leb n n (le_refl n));
      drafts = h.drafts;
    }

pub label_read : (images : List Image) (line : ℕ) (image : DraftImage) (name : List ℕ) (tokens : List Tok) → IsOpen images image
    → IfOk (labelled line image name tokens) (IsOpen images)
label_read images line image name tokens h =
    after_by (unused_name (label_place name image.labels) name) _ (IsFresh (label_place name image.labels) name) (IsOpen images)
    (is_fresh (label_place name image.labels) name) λ _ k.
    stmt_read images line (with_label image name) tokens (one_label_more images image name h k.1)

-- the line that opens an image

nothing_in : (images : List Image) (name : List ℕ) → nat_lt (length images) 256 ≡ true → image_place name images ≡ None
    → IsOpen images (record { name = name; labels = []; lines = [] })
nothing_in images name room new = record {
  room = room;
  new = any_map (bytes_eq name) (λ (i : Image). i.name) images ∙ no_position (λ (i : Image). bytes_eq name i.name) images new;
  few = refl;
  names = refl;
  places = refl;
  within = refl;
  drafts = refl;
}

pub image_read : (images : List Image) (tokens : List Tok) → IfOk (image_line images tokens) (IsOpen images)
unfolding image_line
image_read images tokens =
    after (name_at tokens) _ (IsOpen images) λ word _.
    after_by (unused_name (image_place word images) word) _ (IsFresh (image_place word images) word) (IsOpen images)
    (is_fresh (image_place word images) word) λ name k.
    after (end_at (drop 1 tokens)) _ (IsOpen images) λ _ _.
    after_by (room_for 256 (length images)) _ (λ _. nat_lt (length images) 256 ≡ true) (IsOpen images) (has_room 256 (length images)) λ _ room.
    nothing_in images name room (rw k.0 k.1)
