-- The flags of a cluster as 32 bits, and one more bit that says whether a higher flag is set.
use Rattle.std.specs.Prelude.{◌≡◌, ◌<◌, ℕ, false, nat_lt}
use Rattle.std.specs.Int.{bit_at}
use Rattle.vx_judge.specs.declared.word.Word.{Word}

abbrev pub clear_word : Word
clear_word = record { bits = 0; beyond = false }

-- they have the same lowest 32 bits
abbrev pub AreBits : ℕ → ℕ → Type 0
AreBits bits flags = (i : ℕ) → i < 32 → bit_at bits i ≡ bit_at flags i

abbrev pub IsWord : Word → ℕ → Type 0
IsWord w flags = AreBits w.bits flags × (w.beyond ≡ nat_lt 4294967295 flags)
