-- The words of a line: each stands behind a space.
use Rattle.std.specs.Prelude.{ℕ, ◌-◌, ◌==◌, not, Bool, List, length, drop, take, reverse, Option, Some, None}
use Rattle.std.specs.List.{prefix_len}

infixl 10 ◌>>=◌
-- what follows from what is there
abbrev pub ◌>>=◌ : {A B : Type 0} → Option A → (A → Option B) → Option B
None >>= f = None
(Some x) >>= f = f x

abbrev pub is_inner : ℕ → Bool
is_inner b = not (b == 32)

-- how many bytes stand before the next space
abbrev pub word_len : List ℕ → ℕ
word_len bytes = prefix_len is_inner bytes

-- the word behind the space that stands first
abbrev pub first_word : List ℕ → List ℕ
first_word line = take (word_len (drop 1 line)) (drop 1 line)

-- the line behind that word
abbrev pub behind_word : List ℕ → List ℕ
behind_word line = drop (word_len (drop 1 line)) (drop 1 line)

abbrev pub second_word : List ℕ → List ℕ
second_word line = first_word (behind_word line)

abbrev pub third_word : List ℕ → List ℕ
third_word line = second_word (behind_word line)

abbrev pub fourth_word : List ℕ → List ℕ
fourth_word line = third_word (behind_word line)

abbrev pub fifth_word : List ℕ → List ℕ
fifth_word line = fourth_word (behind_word line)

abbrev pub sixth_word : List ℕ → List ℕ
sixth_word line = fifth_word (behind_word line)

-- how many bytes stand behind the last space
abbrev pub last_len : List ℕ → ℕ
last_len line = prefix_len is_inner (reverse line)

abbrev pub last_word : List ℕ → List ℕ
last_word line = drop (length line - last_len line) line

-- the line before its last space
abbrev pub before_last : List ℕ → List ℕ
before_last line = take (length line - last_len line - 1) line

-- Words of two or three parts, with a colon between them.

abbrev pub is_no_colon : ℕ → Bool
is_no_colon b = not (b == 58)

-- how many bytes stand before the next colon
abbrev pub part_len : List ℕ → ℕ
part_len word = prefix_len is_no_colon word

abbrev pub first_part : List ℕ → List ℕ
first_part word = take (part_len word) word

-- the word from its first colon on
abbrev pub from_colon : List ℕ → List ℕ
from_colon word = drop (part_len word) word

-- the word behind its first colon
abbrev pub behind_part : List ℕ → List ℕ
behind_part word = drop 1 (from_colon word)
