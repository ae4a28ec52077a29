-- Terms in their small form stay as their texts get more.
use Rattle.std.proofs.Common.{◌≡◌, ℕ, ◌<◌, List, [], ◌∷◌, ◌++◌, drop, length, slice_index_or, ap, refl, sym, ◌∙◌, arith}
use Rattle.std.proofs.Math.Seq.{get_or-append_seam, take-append_seam}
use Rattle.std.proofs.lemmas.List.{get_or_append_left, length-append, map-append, take-append-drop}
use Rattle.vx_image.proofs.Packed.{all_and_one}
use Rattle.vx_image.specs.Packed.{Begins}
use Rattle.vx_image.specs.Terms.{Term, term_of, terms_in, IsThere, AreThere, IsPacked}
use Rattle.vx_image.specs.declared.terms.Packed.{Packed}
use Rattle.vx_image.specs.declared.terms.Packed.TheVariants as packed

pub last_text : (texts all : List (List ℕ)) (text : List ℕ) → all ≡ texts ++ text ∷ [] → slice_index_or all (length texts) [] ≡ text
last_text texts all text more = rw more (get_or-append_seam texts text [] [])

pub begins_longer : {A : Type 0} (front all more : List A) → all ≡ front ++ more → Begins front all
begins_longer front all more longer = rw longer (take-append_seam front more)

pub parts : {A : Type 0} (front all : List A) → Begins front all → all ≡ front ++ drop (length front) all
parts {A} front all begins = sym (take-append-drop (length front) all) ∙ ap (λ (xs : List A). xs ++ drop (length front) all) begins

text_kept : (texts all : List (List ℕ)) (i : ℕ) → Begins texts all → i < length texts → slice_index_or all i [] ≡ slice_index_or texts i []
text_kept texts all i begins there =
    ap (λ (ts : List (List ℕ)). slice_index_or ts i []) (parts texts all begins) ∙ get_or_append_left texts (drop (length texts) all) [] i there

longer : (texts all : List (List ℕ)) (i : ℕ) → Begins texts all → i < length texts → i < length all
longer texts all i begins there =
    let long : length all ≡ length (texts ++ drop (length texts) all) = ap (λ (ts : List (List ℕ)). length ts) (parts texts all begins) in
    let both = length-append texts (drop (length texts) all) in
    omega (arith, there, long, both)

term_kept : (texts all : List (List ℕ)) (p : Packed) → Begins texts all → IsThere texts p → term_of all p ≡ term_of texts p
term_kept texts all (packed.Name i) begins there = rw (text_kept texts all i begins there) refl
term_kept texts all (packed.Label i) begins there = rw (text_kept texts all i begins there) refl
term_kept texts all (packed.Text i) begins there = rw (text_kept texts all i begins there) refl
term_kept texts all (packed.Num n) begins there = refl
term_kept texts all (packed.Cond c) begins there = refl
term_kept texts all (packed.Var v) begins there = refl
term_kept texts all packed.R0 begins there = refl
term_kept texts all packed.Pid begins there = refl
term_kept texts all packed.Prm begins there = refl
term_kept texts all (packed.Target t) begins there = refl
term_kept texts all (packed.Mode m) begins there = refl
term_kept texts all packed.NoLabel begins there = refl
term_kept texts all (packed.Func f) begins there = refl
term_kept texts all packed.Unused begins there = refl

there_kept : (texts all : List (List ℕ)) (p : Packed) → Begins texts all → IsThere texts p → IsThere all p
there_kept texts all (packed.Name i) begins there = longer texts all i begins there
there_kept texts all (packed.Label i) begins there = longer texts all i begins there
there_kept texts all (packed.Text i) begins there = longer texts all i begins there
there_kept texts all (packed.Num n) begins there = tt
there_kept texts all (packed.Cond c) begins there = tt
there_kept texts all (packed.Var v) begins there = tt
there_kept texts all packed.R0 begins there = tt
there_kept texts all packed.Pid begins there = tt
there_kept texts all packed.Prm begins there = tt
there_kept texts all (packed.Target t) begins there = tt
there_kept texts all (packed.Mode m) begins there = tt
there_kept texts all packed.NoLabel begins there = tt
there_kept texts all (packed.Func f) begins there = tt
there_kept texts all packed.Unused begins there = tt

pub terms_kept : (texts all : List (List ℕ)) (items : List Packed) → AreThere texts items → Begins texts all → terms_in all items ≡ terms_in texts items
terms_kept texts all [] there begins = refl
terms_kept texts all (p ∷ items) there begins =
    ap (λ (t : Term). t ∷ terms_in all items) (term_kept texts all p begins there.0)
    ∙ ap (λ (ts : List Term). term_of texts p ∷ ts) (terms_kept texts all items there.1 begins)

pub still_there : (texts all : List (List ℕ)) (items : List Packed) → AreThere texts items → Begins texts all → AreThere all items
still_there texts all [] there begins = tt
still_there texts all (p ∷ items) there begins = (there_kept texts all p begins there.0, still_there texts all items there.1 begins)

pub terms_and_one : (texts all : List (List ℕ)) (items : List Packed) (p : Packed) (term : Term) → AreThere texts items → Begins texts all → IsPacked all p term →
    terms_in all (items ++ p ∷ []) ≡ terms_in texts items ++ term ∷ []
terms_and_one texts all items p term there begins is =
    map-append (term_of all) items (p ∷ [])
    ∙ ap (λ (ts : List Term). ts ++ term_of all p ∷ []) (terms_kept texts all items there begins)
    ∙ ap (λ (t : Term). terms_in texts items ++ t ∷ []) is.0

pub there_and_one : (texts all : List (List ℕ)) (items : List Packed) (p : Packed) (term : Term) → AreThere texts items → Begins texts all → IsPacked all p term → AreThere all (items ++ p ∷ [])
there_and_one texts all items p term there begins is = all_and_one (IsThere texts) (IsThere all) (λ q h. there_kept texts all q begins h) items p there is.1
