-- What stands in a list stays as the list grows.
use Rattle.std.proofs.Common.{◌≡◌, ℕ, ◌-◌, List, [], ◌∷◌, ◌++◌, drop, length, take, ap, refl, sym, ◌∙◌, arith}
use Rattle.std.specs.List.{AllByRecursion}
use Rattle.std.proofs.Math.Seq.{drop-append_seam, take-append_seam}
use Rattle.std.proofs.lemmas.List.{drop-append-le, length-append, length-drop, map-append, take-append-le, append-nil}
use Rattle.vx_image.specs.Packed.{piece, IsWithin, texts_in, AreWithin}
use Rattle.vx_image.specs.declared.texts.Span.{Span}

-- a piece stays
pub piece_kept : {A : Type 0} (start len : ℕ) (items more : List A) → IsWithin start len items → piece start len (items ++ more) ≡ piece start len items
piece_kept {A} start len items more within =
    let left : length (drop start items) ≡ length items - start = length-drop start items in
    ap (λ (xs : List A). take len xs) (drop-append-le start items more (omega (arith, within))) ∙ take-append-le len (drop start items) more (omega (arith, within, left))

-- a piece at the end
pub piece_last : {A : Type 0} (start len : ℕ) (items more : List A) → start ≡ length items → len ≡ length more → piece start len (items ++ more) ≡ more
piece_last {A} start len items more at long =
    rw (at, long, drop-append_seam items more) (ap (λ (xs : List A). take (length more) xs) (sym (append-nil more)) ∙ take-append_seam more [])

pub within_more : {A : Type 0} (start len : ℕ) (items more : List A) → IsWithin start len items → IsWithin start len (items ++ more)
within_more start len items more within = let long = length-append items more in omega (arith, within, long)

-- one item more, and something weaker of the others
pub all_and_one : {A : Type 0} (P Q : A → Type 0) → ((x : A) → P x → Q x) → (xs : List A) (x : A) → AllByRecursion P xs → Q x → AllByRecursion Q (xs ++ x ∷ [])
all_and_one P Q weaker [] x all one = (one, tt)
all_and_one P Q weaker (y ∷ xs) x all one = (weaker y all.0, all_and_one P Q weaker xs x all.1 one)

-- texts whose bytes are followed by more
pub texts_kept : (bytes all more : List ℕ) (spans : List Span) → AreWithin bytes spans → all ≡ bytes ++ more → texts_in all spans ≡ texts_in bytes spans
texts_kept bytes all more [] within longer = refl
texts_kept bytes all more (s ∷ spans) within longer =
    ap (λ (t : List ℕ). t ∷ texts_in all spans) (rw longer (piece_kept s.start s.len bytes more within.0))
    ∙ ap (λ (ts : List (List ℕ)). piece s.start s.len bytes ∷ ts) (texts_kept bytes all more spans within.1 longer)

pub still_within : (bytes all more : List ℕ) (spans : List Span) → AreWithin bytes spans → all ≡ bytes ++ more → AreWithin all spans
still_within bytes all more [] within longer = tt
still_within bytes all more (s ∷ spans) within longer = (rw longer (within_more s.start s.len bytes more within.0), still_within bytes all more spans within.1 longer)

-- and one text more
pub texts_and_one : (bytes all text : List ℕ) (spans : List Span) (s : Span) → AreWithin bytes spans → all ≡ bytes ++ text → s.start ≡ length bytes → s.len ≡ length text →
    texts_in all (spans ++ s ∷ []) ≡ texts_in bytes spans ++ text ∷ []
texts_and_one bytes all text spans s within longer at long =
    map-append (λ (s : Span). piece s.start s.len all) spans (s ∷ [])
    ∙ ap (λ (ts : List (List ℕ)). ts ++ piece s.start s.len all ∷ []) (texts_kept bytes all text spans within longer)
    ∙ ap (λ (t : List ℕ). texts_in bytes spans ++ t ∷ []) (rw longer (piece_last s.start s.len bytes text at long))

pub within_and_one : (bytes all text : List ℕ) (spans : List Span) (s : Span) → AreWithin bytes spans → all ≡ bytes ++ text → s.start ≡ length bytes → s.len ≡ length text → AreWithin all (spans ++ s ∷ [])
within_and_one bytes all text spans s within longer at long =
    let both = length-append bytes text in
    all_and_one (λ (s : Span). IsWithin s.start s.len bytes) (λ (s : Span). IsWithin s.start s.len all) (λ (s : Span) (h : IsWithin s.start s.len bytes). rw longer (within_more s.start s.len bytes text h)) spans s within (rw longer (omega (arith, at, long, both)))
