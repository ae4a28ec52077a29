-- The lines of a text are those that the reader cuts.
use mathlib.Core.Bool.{and-false}
use Rattle.std.proofs.Common.{◌≡◌, ◌≢◌, ℕ, ◌==◌, ◌&&◌, not, Bool, true, false, cond, List, [], ◌∷◌, ◌++◌, refl, sym, subst, ap, ◌∙◌}
use Rattle.std.specs.List.{list_all, onto_first}
use Rattle.std.proofs.lemmas.Bool.{and_parts, and_from, not_from_false, eqb-true, eq-eqb, not-true}
use Rattle.vx_script.specs.Lines.{begins_with, lines_of}
use Rattle.vx_grammar.specs.Grammar.{IsFeedless, IsLines, no_text, last_line, fed_line, returned_line}

abbrev no_feed : ℕ → Bool
no_feed b = not (b == 10)

-- how a byte is cut
cut_byte : (b : ℕ) (bytes : List ℕ) → lines_of (b ∷ bytes) ≡ cond (b == 10) ([] ∷ lines_of bytes) (cond ((b == 13) && begins_with 10 bytes) (lines_of bytes) (onto_first b (lines_of bytes)))
unfolding lines_of
cut_byte b bytes = refl

pub cut_nothing : lines_of [] ≡ []
unfolding lines_of
cut_nothing = refl

-- a byte of a line
kept : (b : ℕ) (bytes : List ℕ) → (b == 10) ≡ false → ((b == 13) && begins_with 10 bytes) ≡ false → lines_of (b ∷ bytes) ≡ onto_first b (lines_of bytes)
kept b bytes h k = cut_byte b bytes ∙ rw (h, k) refl

feed_cut : (bytes : List ℕ) → lines_of (10 ∷ bytes) ≡ [] ∷ lines_of bytes
feed_cut bytes = cut_byte 10 bytes

return_cut : (bytes : List ℕ) → lines_of (13 ∷ 10 ∷ bytes) ≡ [] ∷ lines_of bytes
return_cut bytes = cut_byte 13 (10 ∷ bytes) ∙ feed_cut bytes

-- a line goes on behind a byte
goes_on : (b c : ℕ) (bytes : List ℕ) → (b == 10) ≡ false → (c == 10) ≡ false → lines_of (b ∷ c ∷ bytes) ≡ onto_first b (lines_of (c ∷ bytes))
goes_on b c bytes h k = kept b (c ∷ bytes) h (ap (λ t. (b == 13) && t) k ∙ and-false (b == 13))

front_of : (b : ℕ) (line : List ℕ) → IsFeedless (b ∷ line) → ((b == 10) ≡ false) × IsFeedless line
front_of b line h = let p = and_parts (no_feed b) (list_all no_feed line) h in (not-true (b == 10) p.0, p.1)

is_return : (b : ℕ) (t : Bool) → (b == 13) ≡ t → ((front : List ℕ) → b ∷ [] ≢ front ++ 13 ∷ []) → t ≡ false
is_return b true e h = absurd (h [] (ap (λ (c : ℕ). c ∷ []) (eqb-true b 13 e)))
is_return b false e h = refl

-- Each kind of line is cut.

last_cut : (line : List ℕ) → IsFeedless line → line ≢ [] → lines_of line ≡ line ∷ []
last_cut [] h some = absurd (some refl)
last_cut (b ∷ []) h some = kept b [] (front_of b [] h).0 (and-false (b == 13)) ∙ ap (onto_first b) cut_nothing
last_cut (b ∷ c ∷ line) h some =
    let p = front_of b (c ∷ line) h in
    goes_on b c line p.0 (front_of c line p.1).0 ∙ ap (onto_first b) (last_cut (c ∷ line) p.1 (λ e. cc))

fed_cut : (line text : List ℕ) → IsFeedless line → ((front : List ℕ) → line ≢ front ++ 13 ∷ []) → lines_of (line ++ 10 ∷ text) ≡ line ∷ lines_of text
fed_cut [] text h unreturned = feed_cut text
fed_cut (b ∷ []) text h unreturned =
    let return = is_return b (b == 13) refl unreturned in
    kept b (10 ∷ text) (front_of b [] h).0 (ap (λ t. t && true) return) ∙ ap (onto_first b) (feed_cut text)
fed_cut (b ∷ c ∷ line) text h unreturned =
    let p = front_of b (c ∷ line) h in
    goes_on b c (line ++ 10 ∷ text) p.0 (front_of c line p.1).0 ∙ ap (onto_first b) (fed_cut (c ∷ line) text p.1 (λ front e. unreturned (b ∷ front) (ap (λ (bs : List ℕ). b ∷ bs) e)))

returned_cut : (line text : List ℕ) → IsFeedless line → lines_of (line ++ 13 ∷ 10 ∷ text) ≡ line ∷ lines_of text
returned_cut [] text h = return_cut text
returned_cut (b ∷ []) text h = goes_on b 13 (10 ∷ text) (front_of b [] h).0 refl ∙ ap (onto_first b) (return_cut text)
returned_cut (b ∷ c ∷ line) text h =
    let p = front_of b (c ∷ line) h in
    goes_on b c (line ++ 13 ∷ 10 ∷ text) p.0 (front_of c line p.1).0 ∙ ap (onto_first b) (returned_cut (c ∷ line) text p.1)

-- the lines of a text are those that are cut
pub lines_cut : (text : List ℕ) (lines : List (List ℕ)) → IsLines text lines → lines_of text ≡ lines
lines_cut _ _ no_text = cut_nothing
lines_cut _ _ (last_line line h some) = last_cut line h some
lines_cut _ _ (fed_line line text lines h unreturned more) = fed_cut line text h unreturned ∙ ap (λ (ls : List (List ℕ)). line ∷ ls) (lines_cut text lines more)
lines_cut _ _ (returned_line line text lines h more) = returned_cut line text h ∙ ap (λ (ls : List (List ℕ)). line ∷ ls) (lines_cut text lines more)

-- What is cut are the text's lines.

one_byte : (b : ℕ) (line : List ℕ) → (b == 10) ≡ false → IsFeedless line → IsFeedless (b ∷ line)
one_byte b line h k = and_from (no_feed b) (list_all no_feed line) (not_from_false (b == 10) h) k

-- if a byte is put in front, the line still ends in no return
still_no : (b : ℕ) (line text : List ℕ) → ((b == 13) && begins_with 10 (line ++ 10 ∷ text)) ≡ false → ((front : List ℕ) → line ≢ front ++ 13 ∷ []) → (front : List ℕ) → b ∷ line ≢ front ++ 13 ∷ []
still_no b [] text h unreturned [] e =
    let b_is : b ≡ 13 = cc in
    let return : (b == 13) ≡ true = eq-eqb b 13 b_is in
    let both : ((b == 13) && true) ≡ true = ap (λ t. t && true) return in
    cc
still_no b [] text h unreturned (c ∷ []) e = cc
still_no b [] text h unreturned (c ∷ d ∷ front) e = cc
still_no b (c ∷ line) text h unreturned [] e = cc
still_no b (c ∷ line) text h unreturned (d ∷ front) e = unreturned front (let k : c ∷ line ≡ front ++ 13 ∷ [] = cc in k)

in_front : (b : ℕ) (text : List ℕ) (lines : List (List ℕ)) → IsLines text lines → (b == 10) ≡ false → ((b == 13) && begins_with 10 text) ≡ false → IsLines (b ∷ text) (onto_first b lines)
in_front b _ _ no_text h k = last_line (b ∷ []) (one_byte b [] h refl) (λ e. cc)
in_front b _ _ (last_line line f some) h k = last_line (b ∷ line) (one_byte b line h f) (λ e. cc)
in_front b _ _ (fed_line line text lines f unreturned more) h k = fed_line (b ∷ line) text lines (one_byte b line h f) (still_no b line text k unreturned) more
in_front b _ _ (returned_line line text lines f more) h k = returned_line (b ∷ line) text lines (one_byte b line h f) more

no_return_in_nothing : (front : List ℕ) → [] ≢ front ++ 13 ∷ []
no_return_in_nothing [] e = cc
no_return_in_nothing (b ∷ front) e = cc

-- a line feed, a return in front of one, or another byte
by_byte : (b c : ℕ) (bytes : List ℕ) (feed return : Bool) → (b == 10) ≡ feed → ((b == 13) && (c == 10)) ≡ return → IsLines (c ∷ bytes) (lines_of (c ∷ bytes)) → IsLines bytes (lines_of bytes)
    → IsLines (b ∷ c ∷ bytes) (cond feed ([] ∷ lines_of (c ∷ bytes)) (cond return (lines_of (c ∷ bytes)) (onto_first b (lines_of (c ∷ bytes)))))
by_byte b c bytes true return h k more rest =
    subst (λ (x : ℕ). IsLines (x ∷ c ∷ bytes) ([] ∷ lines_of (c ∷ bytes))) (sym (eqb-true b 10 h)) (fed_line [] (c ∷ bytes) (lines_of (c ∷ bytes)) refl no_return_in_nothing more)
by_byte b c bytes false true h k more rest =
    let p = and_parts (b == 13) (c == 10) k in
    let ten : c ≡ 10 = eqb-true c 10 p.1 in
    let lines : lines_of (c ∷ bytes) ≡ [] ∷ lines_of bytes = ap (λ (x : ℕ). lines_of (x ∷ bytes)) ten ∙ feed_cut bytes in
    let shape : 13 ∷ 10 ∷ bytes ≡ b ∷ c ∷ bytes = ap (λ (x : ℕ). x ∷ 10 ∷ bytes) (sym (eqb-true b 13 p.0)) ∙ ap (λ (x : ℕ). b ∷ x ∷ bytes) (sym ten) in
    subst (λ (ls : List (List ℕ)). IsLines (b ∷ c ∷ bytes) ls) (sym lines) (subst (λ (bs : List ℕ). IsLines bs ([] ∷ lines_of bytes)) shape (returned_line [] bytes (lines_of bytes) refl rest))
by_byte b c bytes false false h k more rest = in_front b (c ∷ bytes) (lines_of (c ∷ bytes)) more h k

last_byte : (b : ℕ) (feed : Bool) → (b == 10) ≡ feed → IsLines (b ∷ []) (cond feed ([] ∷ []) ((b ∷ []) ∷ []))
last_byte b true h = subst (λ (x : ℕ). IsLines (x ∷ []) ([] ∷ [])) (sym (eqb-true b 10 h)) (fed_line [] [] [] refl no_return_in_nothing no_text)
last_byte b false h = last_line (b ∷ []) (one_byte b [] h refl) (λ e. cc)

last_lines : (b : ℕ) (feed : Bool) → (b == 10) ≡ feed → lines_of (b ∷ []) ≡ cond feed ([] ∷ []) ((b ∷ []) ∷ [])
last_lines b true h = cut_byte b [] ∙ rw h (ap (λ (ls : List (List ℕ)). [] ∷ ls) cut_nothing)
last_lines b false h = kept b [] h (and-false (b == 13)) ∙ ap (onto_first b) cut_nothing

-- what is cut are the text's lines
pub cut_lines : (text : List ℕ) → IsLines text (lines_of text)
cut_lines [] = subst (λ (ls : List (List ℕ)). IsLines [] ls) (sym cut_nothing) no_text
cut_lines (b ∷ []) = subst (λ (ls : List (List ℕ)). IsLines (b ∷ []) ls) (sym (last_lines b (b == 10) refl)) (last_byte b (b == 10) refl)
cut_lines (b ∷ c ∷ bytes) =
    subst (λ (ls : List (List ℕ)). IsLines (b ∷ c ∷ bytes) ls) (sym (cut_byte b (c ∷ bytes))) (by_byte b c bytes (b == 10) ((b == 13) && (c == 10)) refl refl (cut_lines (c ∷ bytes)) (cut_lines bytes))
