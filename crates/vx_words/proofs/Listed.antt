-- The places of a list are read if each of its parts is a place.
use Rattle.std.proofs.Common.{◌≡◌, ℕ, List, [], ◌∷◌, Bool, true, false, ◌&&◌, if◌then◌else◌, Option, Some, None, Result, Ok, Err, map, option_map, unwrap_or, refl, sym, ap, ◌∙◌}
use Rattle.std.specs.List.{list_all, slice_split}
use Rattle.std.specs.Option.{IsSome, is_some}
use Rattle.std.specs.Result.{IfErr}
use Rattle.vx_words.specs.Listing.{is_place, place_of}
use Rattle.vx_words.specs.Places.{all_of, is_comma, place_in, places_in}

one_more : (o : Option ℕ) (ns : List (Option ℕ)) (there : Bool) (ms : List ℕ) → all_of ns ≡ (if there then Some ms else None) → all_of (o ∷ ns) ≡ (if is_some o && there then Some (unwrap_or o 0 ∷ ms) else None)
one_more None ns there ms h = refl
one_more (Some n) ns true ms h = ap (option_map (λ ks. n ∷ ks)) h
one_more (Some n) ns false ms h = ap (option_map (λ ks. n ∷ ks)) h

listed : (parts : List (List ℕ)) → all_of (map place_in parts) ≡ (if list_all is_place parts then Some (map place_of parts) else None)
listed [] = refl
listed (part ∷ parts) = one_more (place_in part) (map place_in parts) (list_all is_place parts) (map place_of parts) (listed parts)

chosen : (there answer : Bool) (ms : List ℕ) → answer ≡ there → answer ≡ true → (if there then Some ms else None) ≡ Some ms
chosen true answer ms h k = refl
chosen false answer ms h k = absurd (cc)

passed : (there answer : Bool) (ms : List ℕ) → answer ≡ there → answer ≡ false → None ≡ (if there then Some ms else None)
passed true answer ms h k = absurd (cc)
passed false answer ms h k = refl

pub all_read : (list : List ℕ) (answer : Bool) (places : List ℕ) → answer ≡ list_all is_place (slice_split is_comma list) → answer ≡ true → places ≡ map place_of (slice_split is_comma list) → Some places ≡ places_in list
all_read list answer places tested passes are = ap (λ ns. Some ns) are ∙ sym (listed (slice_split is_comma list) ∙ chosen (list_all is_place (slice_split is_comma list)) answer (map place_of (slice_split is_comma list)) tested passes)

pub none_read : (list : List ℕ) (answer : Bool) → answer ≡ list_all is_place (slice_split is_comma list) → answer ≡ false → None ≡ places_in list
none_read list answer tested fails = passed (list_all is_place (slice_split is_comma list)) answer (map place_of (slice_split is_comma list)) tested fails ∙ sym (listed (slice_split is_comma list))

unless_read : {A E : Type 0} (list : List ℕ) (r : Result A E) → IsSome (places_in list) → IfErr r (λ e. IsSome (places_in list))
unless_read list (Ok x) h = tt
unless_read list (Err e) h = h

-- a word that passes is a list
pub is_read : {A E : Type 0} (list : List ℕ) (answer : Bool) (r : Result A E) → answer ≡ list_all is_place (slice_split is_comma list) → answer ≡ true → IfErr r (λ e. IsSome (places_in list))
is_read list answer r tested passes = unless_read list r (ap is_some (sym (all_read list answer (map place_of (slice_split is_comma list)) tested passes refl)))
