-- The flags of all clusters, in tables: the own clusters of processes by process, common clusters by group and name.
use Rattle.std.specs.Prelude.{ℕ, List, Bool, ◌&&◌, ◌==◌, bytes_eq, nat_lt, if◌then◌else◌, Option, Some, None, unwrap_or, nat_eq}
use Rattle.std.specs.HashMap.{get}
use Rattle.std.specs.List.{find}
use Rattle.vx_record.specs.Types.{Cell}
use Rattle.vx_base.specs.declared.effects.Cell.TheVariants.{Local, Common}
use Rattle.vx_laws.specs.Items.{Item}
use Rattle.vx_laws.specs.Values.{flags_by}
use Rattle.vx_judge.specs.Words.{IsWord, clear_word}
use Rattle.vx_judge.specs.declared.cells.Cells.{Cells}
use Rattle.vx_judge.specs.declared.common_word.CommonWord.{CommonWord}
use Rattle.vx_judge.specs.declared.word.Word.{Word}

abbrev pub is_word_of : ℕ → List ℕ → CommonWord → Bool
is_word_of group name x = (x.group == group) && bytes_eq x.name name

abbrev pub word_found : Option CommonWord → Word
word_found None = clear_word
word_found (Some x) = x.word

abbrev pub word_in : Cells → Cell → Word
word_in t (Local p n) = if nat_lt n 32 then unwrap_or (get nat_eq t.lower p.0) clear_word else unwrap_or (get nat_eq t.upper p.0) clear_word
word_in t (Common group name n) = word_found (find (is_word_of group name) t.common.items)

-- they are those that the past tells
abbrev pub AreCells : Cells → List Item → Type 0
AreCells t past = (c : Cell) → IsWord (word_in t c) (flags_by past c)
