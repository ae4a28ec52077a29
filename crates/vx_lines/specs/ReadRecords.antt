-- How the lines of records are read.
use Rattle.std.specs.Prelude.{◌≡◌, ℕ, ◌+◌, ◌==◌, ◌||◌, Bool, true, false, List, [], ◌∷◌, ◌++◌, length, if◌then◌else◌, Option, Some, None, Result, Ok, Err, option_to_list}
use Rattle.vx_base.specs.Name.{is_digit}
use Rattle.vx_base.specs.declared.effects.Effect.{Effect}
use Rattle.vx_base.specs.declared.record.Rec.{Rec}
use Rattle.vx_image.specs.declared.unit.UnitDecl.{UnitDecl}
use Rattle.vx_lines.specs.ReadEffect.{read_effect}
use Rattle.vx_lines.specs.ReadHead.{read_head}
use Rattle.vx_lines.specs.Words.{◌>>=◌}
use Rattle.vx_lines.specs.declared.read.LinesFail.{LinesFail}
use Rattle.vx_lines.specs.declared.read.LinesFail.TheVariants as fail
use Rattle.vx_lines.specs.declared.read.Reading.{Reading}
use Rattle.vx_lines.specs.declared.read.Records.{Records}
use Rattle.std.specs.List.{onto_first}

-- The lines of a text, each with its line feed, which the last may lack.

unfoldable pub fed_lines : List ℕ → List (List ℕ)
fed_lines [] = []
fed_lines (b ∷ bytes) = if b == 10 then (10 ∷ []) ∷ fed_lines bytes else onto_first b (fed_lines bytes)

-- Records.

-- a head begins with a digit, and an effect with a space
abbrev pub is_of_record : List ℕ → Bool
is_of_record [] = false
is_of_record (b ∷ bytes) = is_digit b || (b == 32)

abbrev pub begins_with_space : List ℕ → Bool
begins_with_space [] = false
begins_with_space (b ∷ bytes) = b == 32

-- the records so far
abbrev pub read_so_far : Reading → List Rec
read_so_far r = r.recs ++ option_to_list r.current

-- one more effect of the last record
abbrev pub with_effect : Reading → Option Effect → Option Reading
with_effect r e = r.current >>= λ rec. e >>= λ effect. Some (record r { current = Some (record rec { effects = rec.effects ++ effect ∷ [] }) })

-- one more record
abbrev pub with_head : Reading → Option Rec → Option Reading
with_head r head = head >>= λ rec. Some (record { recs = read_so_far r; current = Some rec })

abbrev pub effect_line : Reading → List ℕ → Option Reading
effect_line r line = with_effect r (read_effect line)

abbrev pub head_line : List UnitDecl → Reading → List ℕ → Option Reading
head_line units r line = with_head r (read_head units (length (read_so_far r) + 1) line)

-- an effect under a head, or the head with the next number
unfoldable pub read_line : List UnitDecl → Reading → List ℕ → Option Reading
read_line units r line = if begins_with_space line then effect_line r line else head_line units r line

-- what follows a line, or that it is bad
abbrev pub or_bad : {A : Type 0} → ℕ → Option Reading → (Reading → Result A ℕ) → Result A ℕ
or_bad line None f = Err line
or_bad line (Some r) f = f r

-- the lines of records from a line on, up to the first that begins otherwise; `at` bytes stand before them
unfoldable pub read_lines : List UnitDecl → ℕ → ℕ → Reading → List (List ℕ) → Result Records ℕ
read_lines units line at r [] = Ok (record { recs = read_so_far r; line = line; len = at })
read_lines units line at r (l ∷ ls) =
    if is_of_record l
    then or_bad line (read_line units r l) (λ s. read_lines units (line + 1) (at + length l) s ls)
    else Ok (record { recs = read_so_far r; line = line; len = at })

abbrev pub nothing_read : Reading
nothing_read = record { recs = []; current = None }

-- the records that a text begins with, whose first line has this number, or its first bad line
unfoldable pub read_records : List UnitDecl → ℕ → List ℕ → Result Records ℕ
read_records units line text = read_lines units line 0 nothing_read (fed_lines text)

-- A line may stand there, and the reader is left as it was read; or it may not.
abbrev pub Leaves : Bool → Reading → Option Reading → Type 0
Leaves true new read = read ≡ Some new
Leaves false new read = read ≡ None

-- What a function returned is what reading gives, unless memory ran out.

abbrev pub Fails : {A : Type 0} → LinesFail → Result A ℕ → Type 0
Fails fail.NoMemory read = Unit {0}
Fails (fail.Bad line) read = read ≡ Err line

abbrev pub Reads : {A : Type 0} → Result A LinesFail → Result A ℕ → Type 0
Reads (Ok x) read = read ≡ Ok x
Reads (Err e) read = Fails e read
