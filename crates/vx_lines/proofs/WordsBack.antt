-- Words that were printed one behind another are read back one by one.
use Rattle.std.proofs.Common.{◌≡◌, ℕ, ◌+◌, ◌<◌, ◌≤◌, ◌^◌, Bool, true, List, [], ◌∷◌, ◌++◌, take, drop, nat_le, Some, refl, ap, ◌∙◌}
use Rattle.std.specs.Prelude.{decimal}
use Rattle.std.specs.List.{list_all, prefix_len}
use Rattle.std.proofs.Math.Seq.{take-append_seam, drop-append_seam}
use Rattle.std.proofs.lemmas.Bool.{le-leb}
use Rattle.vx_base.proofs.Any.{all_weaker}
use Rattle.vx_base.specs.Name.{is_name, is_digit, is_name_byte}
use Rattle.vx_text.proofs.Runs.{stops, run_len}
use Rattle.vx_text.proofs.Lexing.{name_bytes}
use Rattle.vx_lines.specs.Numbers.{value_up_to}
use Rattle.vx_lines.specs.Records.{spaced}
use Rattle.vx_lines.specs.Words.{is_inner, first_word, behind_word, second_word, third_word, fourth_word, fifth_word, sixth_word}
use Rattle.vx_text.proofs.Numbers.{spells}

pub run_first : (p : ℕ → Bool) (run rest : List ℕ) → list_all p run ≡ true → stops p rest → take (prefix_len p (run ++ rest)) (run ++ rest) ≡ run
run_first p run rest h s = rw (run_len p run rest h s) (take-append_seam run rest)

pub run_behind : (p : ℕ → Bool) (run rest : List ℕ) → list_all p run ≡ true → stops p rest → drop (prefix_len p (run ++ rest)) (run ++ rest) ≡ rest
run_behind p run rest h s = rw (run_len p run rest h s) (drop-append_seam run rest)

-- a word has no space in it
abbrev pub Whole : List ℕ → Type 0
Whole word = list_all is_inner word ≡ true

spaced_stops : (words : List (List ℕ)) → stops is_inner (spaced words)
spaced_stops [] = tt
spaced_stops (word ∷ words) = refl

pub first_back : (a : List ℕ) (words : List (List ℕ)) → Whole a → first_word (spaced (a ∷ words)) ≡ a
first_back a words h = run_first is_inner a (spaced words) h (spaced_stops words)

pub behind_back : (a : List ℕ) (words : List (List ℕ)) → Whole a → behind_word (spaced (a ∷ words)) ≡ spaced words
behind_back a words h = run_behind is_inner a (spaced words) h (spaced_stops words)

pub second_back : (a b : List ℕ) (words : List (List ℕ)) → Whole a → Whole b → second_word (spaced (a ∷ b ∷ words)) ≡ b
second_back a b words h i = ap first_word (behind_back a (b ∷ words) h) ∙ first_back b words i

pub third_back : (a b c : List ℕ) (words : List (List ℕ)) → Whole a → Whole b → Whole c → third_word (spaced (a ∷ b ∷ c ∷ words)) ≡ c
third_back a b c words h i j = ap second_word (behind_back a (b ∷ c ∷ words) h) ∙ second_back b c words i j

pub fourth_back : (a b c d : List ℕ) (words : List (List ℕ)) → Whole a → Whole b → Whole c → Whole d → fourth_word (spaced (a ∷ b ∷ c ∷ d ∷ words)) ≡ d
fourth_back a b c d words h i j k = ap third_word (behind_back a (b ∷ c ∷ d ∷ words) h) ∙ third_back b c d words i j k

pub fifth_back : (a b c d e : List ℕ) (words : List (List ℕ)) → Whole a → Whole b → Whole c → Whole d → Whole e → fifth_word (spaced (a ∷ b ∷ c ∷ d ∷ e ∷ words)) ≡ e
fifth_back a b c d e words h i j k l = ap fourth_word (behind_back a (b ∷ c ∷ d ∷ e ∷ words) h) ∙ fourth_back b c d e words i j k l

pub sixth_back : (a b c d e f : List ℕ) (words : List (List ℕ)) → Whole a → Whole b → Whole c → Whole d → Whole e → Whole f → sixth_word (spaced (a ∷ b ∷ c ∷ d ∷ e ∷ f ∷ words)) ≡ f
sixth_back a b c d e f words h i j k l m = ap fifth_word (behind_back a (b ∷ c ∷ d ∷ e ∷ f ∷ words) h) ∙ fifth_back b c d e f words i j k l m

-- Numbers.

pub value_back : (most n : ℕ) → n ≤ most → n < 2 ^ 64 → value_up_to most (decimal n) ≡ Some n
value_back most n h k =
    let s = spells n k in
    let small : nat_le n most ≡ true = le-leb n most h in
    rw (s.digits, s.value, small) refl

-- a test that digits pass is passed by a number
pub number_all : (p : ℕ → Bool) (n : ℕ) → ((b : ℕ) → is_digit b ≡ true → p b ≡ true) → n < 2 ^ 64 → list_all p (decimal n) ≡ true
number_all p n q h = all_weaker is_digit p q (decimal n) (spells n h).digits

-- and one that the bytes of names pass, by a name
pub name_all : (p : ℕ → Bool) (name : List ℕ) → ((b : ℕ) → is_name_byte b ≡ true → p b ≡ true) → is_name name ≡ true → list_all p name ≡ true
name_all p name q h = all_weaker is_name_byte p q name (name_bytes name h)
