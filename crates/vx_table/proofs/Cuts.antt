-- Tokens that are cut at the commas, piece by piece.
use Rattle.std.proofs.Common.{◌≡◌, ℕ, suc, ◌+◌, ◌-◌, ◌<◌, ◌≤◌, Bool, true, false, List, [], ◌∷◌, length, take, drop, nat_lt, refl, sym, ap, ◌∙◌, arith, rules, inl, inr}
use Rattle.std.specs.List.{prefix_len}
use Rattle.std.proofs.Math.Seq.{drop-cons}
use Rattle.std.proofs.lemmas.List.{drop-drop, drop_all, length-drop, take_rest}
use Rattle.std.proofs.lemmas.List.Sums.{prefix_len-le-length}
use Rattle.std.proofs.lemmas.Bool.{cases_lt}
use Rattle.vx_text.specs.declared.token.Tok.{Tok}
use Rattle.vx_text.specs.declared.token.Token.{Token}
use Rattle.vx_table.specs.Spelling.{comma}
use Rattle.vx_table.specs.Reading.{toks, is_comma, cut, first_piece}
use Rattle.vx_table.specs.Cutting.{stays, left}
use Rattle.vx_base.specs.Lists.{rest}

-- what is left behind a comma
abbrev pub behind_comma : List Token → List (List Tok)
behind_comma [] = []
behind_comma (t ∷ more) = cut (toks more)

abbrev pub lead : List Token → ℕ
lead tokens = prefix_len stays tokens

cut_at : (t : Token) (more : List Token) (c : Bool) → is_comma t.tok ≡ c → cut (toks more) ≡ toks (take (lead more) more) ∷ behind_comma (drop (lead more) more) → cut (toks (t ∷ more)) ≡ toks (take (lead (t ∷ more)) (t ∷ more)) ∷ behind_comma (drop (lead (t ∷ more)) (t ∷ more))
cut_at t more true h rest = rw h refl
cut_at t more false h rest =
    let n = lead more in
    let one : 1 + n ≡ suc n = omega arith in
    rw (h, rest, one) refl

pub cut_first : (tokens : List Token) → cut (toks tokens) ≡ toks (take (lead tokens) tokens) ∷ behind_comma (drop (lead tokens) tokens)
cut_first [] = refl
cut_first (t ∷ more) = cut_at t more (is_comma t.tok) refl (cut_first more)

pub left_at : (at : ℕ) (tokens : List Token) → at ≤ length tokens → left at tokens ≡ cut (toks (drop at tokens))
left_at at tokens h =
    let within : nat_lt (length tokens) at ≡ false = search (rules, arith) in
    rw within refl

pub left_none : (at : ℕ) (tokens : List Token) → length tokens < at → left at tokens ≡ []
left_none at tokens h =
    let past : nat_lt (length tokens) at ≡ true = search (rules, arith) in
    rw past refl

some_token : Token
some_token = record { tok = comma; start = 0; end = 0 }

behind_within : (m : ℕ) (tokens : List Token) → m < length tokens → behind_comma (drop m tokens) ≡ left (m + 1) tokens
behind_within m tokens h =
    let one : m + 1 ≡ suc m = omega arith in
    rw (drop-cons tokens m some_token h, one) (sym (left_at (suc m) tokens (omega arith)))

behind_past : (m : ℕ) (tokens : List Token) → length tokens ≤ m → behind_comma (drop m tokens) ≡ left (m + 1) tokens
behind_past m tokens h = rw (drop_all m tokens h) (sym (left_none (m + 1) tokens (omega arith)))

-- what is left behind the comma at a place
pub behind_left : (m : ℕ) (tokens : List Token) → behind_comma (drop m tokens) ≡ left (m + 1) tokens
behind_left m tokens = elim (cases_lt m (length tokens)) [ inl h ↦ behind_within m tokens h | inr h ↦ behind_past m tokens h ]

-- the first piece that is left at a place, and what is left behind it
pub left_first : (at n : ℕ) (tokens : List Token) → at ≤ length tokens → n ≡ lead (take (length tokens - at) (drop at tokens)) → toks (take n (take (length tokens - at) (drop at tokens))) ≡ first_piece (left at tokens)
left_first at n tokens h e = rw (e, take_rest tokens at, left_at at tokens h, cut_first (drop at tokens)) refl

pub left_more : (at n : ℕ) (tokens : List Token) → at ≤ length tokens → n ≡ lead (take (length tokens - at) (drop at tokens)) → left (at + n + 1) tokens ≡ rest (left at tokens)
left_more at n tokens h e =
    let is : n ≡ lead (drop at tokens) = e ∙ ap lead (take_rest tokens at) in
    let place : drop n (drop at tokens) ≡ drop (at + n) tokens = drop-drop n at tokens in
    sym (behind_left (at + n) tokens) ∙ ap behind_comma (sym place) ∙ ap (λ (k : ℕ). behind_comma (drop k (drop at tokens))) is ∙ ap rest (sym (left_at at tokens h ∙ cut_first (drop at tokens)))

-- a piece ends within the tokens
pub lead_within : (at n : ℕ) (tokens : List Token) → n ≡ lead (take (length tokens - at) (drop at tokens)) → at ≤ length tokens → at + n ≤ length tokens
lead_within at n tokens e h =
    let is : n ≡ lead (drop at tokens) = e ∙ ap lead (take_rest tokens at) in
    omega (arith, prefix_len-le-length stays (drop at tokens), length-drop at tokens)
