-- A text beside the front that it is to begin with, a byte at a time.
use Rattle.std.proofs.Common.{◌≡◌, ℕ, suc, ◌+◌, ◌==◌, ◌<◌, ◌≤◌, Bool, true, false, cond, List, [], ◌∷◌, length, drop, slice_index_or, Ok, Err, refl, sym, ap, subst, ◌∙◌, arith}
use Rattle.std.proofs.Math.Seq.{drop-cons}
use Rattle.std.proofs.lemmas.List.{drop_all}
use Rattle.std.proofs.lemmas.Bool.Decides.{nat_tests}
use Rattle.vx_journal.specs.ReadJournal.{line_behind, next_line}
use Rattle.vx_lines.proofs.EffectsBack.{nat_same}

pub same_byte : (line b : ℕ) (front text : List ℕ) → line_behind line (b ∷ front) (b ∷ text) ≡ line_behind (next_line line b) front text
unfolding line_behind
same_byte line b front text = rw (nat_same b) refl

other_by : (line f b : ℕ) (front text : List ℕ) (t : Bool) → (f == b) ≡ t → (b ≡ f → ⊥) → cond t (line_behind (next_line line f) front text) (Err line) ≡ Err line
other_by line f b front text true is h = absurd (h (grind (arith, nat_tests, is)))
other_by line f b front text false is h = refl

other_byte : (line f b : ℕ) (front text : List ℕ) → (b ≡ f → ⊥) → line_behind line (f ∷ front) (b ∷ text) ≡ Err line
unfolding line_behind
other_byte line f b front text h = other_by line f b front text (f == b) refl h

no_byte : (line f : ℕ) (front : List ℕ) → line_behind line (f ∷ front) [] ≡ Err line
unfolding line_behind
no_byte line f front = refl

no_front : (line : ℕ) (text : List ℕ) → line_behind line [] text ≡ Ok line
unfolding line_behind
no_front line text = refl

here : (line i : ℕ) (front text : List ℕ) → i < length front → i < length text → slice_index_or text i 0 ≡ slice_index_or front i 0 → line_behind (next_line line (slice_index_or front i 0)) (drop (suc i) front) (drop (suc i) text) ≡ line_behind line (drop i front) (drop i text)
here line i front text h k same =
    let b : ℕ = slice_index_or front i 0 in
    let cut : drop i text ≡ b ∷ drop (suc i) text = drop-cons text i 0 k ∙ ap (λ (z : ℕ). z ∷ drop (suc i) text) same in
    sym (ap (λ z. line_behind line z (drop i text)) (drop-cons front i 0 h) ∙ ap (λ z. line_behind line (b ∷ drop (suc i) front) z) cut ∙ same_byte line b (drop (suc i) front) (drop (suc i) text))

-- the byte is the front's
pub on : (line i : ℕ) (front text : List ℕ) → i < length front → i < length text → slice_index_or text i 0 ≡ slice_index_or front i 0 → line_behind (next_line line (slice_index_or front i 0)) (drop (i + 1) front) (drop (i + 1) text) ≡ line_behind line (drop i front) (drop i text)
on line i front text h k same =
    let one : suc i ≡ i + 1 = omega arith in
    subst (λ (n : ℕ). line_behind (next_line line (slice_index_or front i 0)) (drop n front) (drop n text) ≡ line_behind line (drop i front) (drop i text)) one (here line i front text h k same)

-- it is another
pub apart : (line i : ℕ) (front text : List ℕ) → i < length front → i < length text → (slice_index_or text i 0 ≡ slice_index_or front i 0 → ⊥) → line_behind line (drop i front) (drop i text) ≡ Err line
apart line i front text h k other =
    ap (λ z. line_behind line z (drop i text)) (drop-cons front i 0 h) ∙ ap (λ z. line_behind line (slice_index_or front i 0 ∷ drop (suc i) front) z) (drop-cons text i 0 k) ∙ other_byte line (slice_index_or front i 0) (slice_index_or text i 0) (drop (suc i) front) (drop (suc i) text) other

-- there is none
pub short : (line i : ℕ) (front text : List ℕ) → i < length front → length text ≤ i → line_behind line (drop i front) (drop i text) ≡ Err line
short line i front text h k =
    ap (λ z. line_behind line z (drop i text)) (drop-cons front i 0 h) ∙ ap (λ z. line_behind line (slice_index_or front i 0 ∷ drop (suc i) front) z) (drop_all i text k) ∙ no_byte line (slice_index_or front i 0) (drop (suc i) front)

-- the front is over
pub over : (line i : ℕ) (front text : List ℕ) → length front ≤ i → line_behind line (drop i front) (drop i text) ≡ Ok line
over line i front text h = ap (λ z. line_behind line z (drop i text)) (drop_all i front h) ∙ no_front line (drop i text)

feed_by : (line b : ℕ) (t : Bool) → (b == 10) ≡ t → b ≡ 10 → cond t (line + 1) line ≡ line + 1
feed_by line b true is h = refl
feed_by line b false is h = grind (arith, nat_tests, is, h)

pub fed : (line b next : ℕ) → b ≡ 10 → next ≡ line + 1 → next ≡ next_line line b
fed line b next h is = is ∙ sym (feed_by line b (b == 10) refl h)

no_feed_by : (line b : ℕ) (t : Bool) → (b == 10) ≡ t → (b ≡ 10 → ⊥) → cond t (line + 1) line ≡ line
no_feed_by line b true is h = absurd (h (grind (arith, nat_tests, is)))
no_feed_by line b false is h = refl

pub unfed : (line b next : ℕ) → (b ≡ 10 → ⊥) → next ≡ line → next ≡ next_line line b
unfed line b next h is = is ∙ sym (no_feed_by line b (b == 10) refl h)

at_most_by : (line : ℕ) (t : Bool) → cond t (line + 1) line ≤ line + 1
at_most_by line true = omega arith
at_most_by line false = omega arith

pub one_line : (line b : ℕ) → next_line line b ≤ line + 1
one_line line b = at_most_by line (b == 10)
