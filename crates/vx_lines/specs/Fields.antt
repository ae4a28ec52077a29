-- What a word of a line is. A number may have zeros in front here: a line is read only if it is spelled as what was read.
use Rattle.std.specs.Prelude.{ℕ, ◌==◌, nat_le, Bool, List, [], ◌∷◌, length, codes, bytes_eq, if◌then◌else◌, Option, Some, None, option_map, position, Result, Ok}
use Rattle.vx_base.specs.Name.{is_name}
use Rattle.vx_base.specs.declared.cond.Cond.{Cond}
use Rattle.vx_base.specs.declared.effects.Cell.{Cell}
use Rattle.vx_base.specs.declared.effects.Cell.TheVariants.{Local, Common}
use Rattle.vx_base.specs.declared.effects.Opened.{Opened}
use Rattle.vx_base.specs.declared.effects.Opened.TheVariants.{Bio, Dio, Attn, Timer, Wake, Ast, Force, Exh}
use Rattle.vx_base.specs.declared.mode.Mode.{Mode}
use Rattle.vx_base.specs.declared.number.Id.{Id}
use Rattle.vx_base.specs.declared.number.Pid.{Pid}
use Rattle.vx_base.specs.declared.number.UnitNo.{UnitNo}
use Rattle.vx_image.specs.declared.unit.UnitDecl.{UnitDecl}
use Rattle.vx_text.specs.First.{cond_named}
use Rattle.vx_text.specs.Lex.{lex}
use Rattle.vx_text.specs.declared.token.LexFail.{LexFail}
use Rattle.vx_text.specs.declared.token.Tok.{Tok}
use Rattle.vx_text.specs.declared.token.Tok.TheVariants as tok
use Rattle.vx_table.specs.Back.{toks_of}
use Rattle.vx_table.specs.Reading.{mode_word}
use Rattle.vx_lines.specs.Numbers.{value_up_to}
use Rattle.vx_lines.specs.Words.{◌>>=◌, first_part, from_colon, behind_part}

abbrev pub number_of : List ℕ → Option ℕ
number_of word = value_up_to 4294967295 word

abbrev pub as_id : ℕ → Id
as_id n = record { 0 = n }

abbrev pub as_pid : ℕ → Pid
as_pid n = record { 0 = n }

-- '#' and a number
abbrev pub id_of : List ℕ → Option Id
id_of [] = None
id_of (b ∷ digits) = if b == 35 then option_map as_id (number_of digits) else None

abbrev pub pid_of : List ℕ → Option Pid
pid_of word = option_map as_pid (number_of word)

abbrev pub is_one : ℕ → Bool
is_one n = n == 1

-- 0 or 1
abbrev pub bit_of : List ℕ → Option Bool
bit_of word = option_map is_one (value_up_to 1 word)

abbrev pub name_in : List ℕ → Option (List ℕ)
name_in word = if is_name word then Some word else None

abbrev pub kind_of : List ℕ → Option Opened
kind_of word =
    if bytes_eq word (codes "BIO") then Some Bio else (
    if bytes_eq word (codes "DIO") then Some Dio else (
    if bytes_eq word (codes "ATTN") then Some Attn else (
    if bytes_eq word (codes "TIMER") then Some Timer else (
    if bytes_eq word (codes "WAKE") then Some Wake else (
    if bytes_eq word (codes "AST") then Some Ast else (
    if bytes_eq word (codes "FORCE") then Some Force else (
    if bytes_eq word (codes "EXH") then Some Exh else None)))))))

-- a mode, or a dash for none
abbrev pub mode_or_none : List ℕ → Option (Option Mode)
mode_or_none word = if bytes_eq word (codes "-") then Some None else option_map Some (mode_word word)

-- a condition, or a dash for none
abbrev pub cond_or_none : List ℕ → Option (Option Cond)
cond_or_none word = if bytes_eq word (codes "-") then Some None else option_map Some (cond_named word)

-- process:flag
abbrev pub local_of : List ℕ → List ℕ → Option Cell
local_of first second = pid_of first >>= λ p. number_of second >>= λ n. Some (Local p n)

-- a flag's number in its cluster, 0 to 31
abbrev pub small_of : List ℕ → Option ℕ
small_of word = value_up_to 31 word

-- group:name:flag
abbrev pub common_of : List ℕ → List ℕ → List ℕ → Option Cell
common_of first second third = number_of first >>= λ group. name_in second >>= λ name. small_of third >>= λ n. Some (Common group name n)

-- one colon, or two
abbrev pub cell_by : List ℕ → List ℕ → Option Cell
cell_by first rest = if length (from_colon rest) == 0 then local_of first rest else common_of first (first_part rest) (behind_part rest)

abbrev pub cell_of : List ℕ → Option Cell
cell_of word = cell_by (first_part word) (behind_part word)

-- group:name
abbrev pub cluster_of : List ℕ → Option (ℕ × List ℕ)
cluster_of word = number_of (first_part word) >>= λ group. name_in (behind_part word) >>= λ name. Some (group, name)

-- a cluster, or a dash for none
abbrev pub cluster_or_none : List ℕ → Option (Option (ℕ × List ℕ))
cluster_or_none word = if bytes_eq word (codes "-") then Some None else option_map Some (cluster_of word)

abbrev pub if_common : ℕ → Option ℕ
if_common n = if nat_le 2 n then Some n else None

-- 2 or 3
abbrev pub common_number : List ℕ → Option ℕ
common_number word = value_up_to 3 word >>= if_common

-- the unit of a name, by its place
abbrev pub as_unit : ℕ → UnitNo
as_unit n = record { 0 = n }

abbrev pub unit_of : List UnitDecl → List ℕ → Option UnitNo
unit_of units word = option_map as_unit (position (λ u. bytes_eq u.name word) units)

-- a quoted text alone
abbrev pub text_among : Result (List Tok) LexFail → Option (List ℕ)
text_among (Ok (tok.Quote bytes ∷ [])) = Some bytes
text_among _ = None

abbrev pub text_of : List ℕ → Option (List ℕ)
text_of line = text_among (toks_of (lex line))
