-- The classes of bytes, and numbers by their digits.
use Rattle.std.specs.Prelude.{ℕ, ◌+◌, ◌-◌, ◌*◌, Bool, not, ◌&&◌, ◌||◌, ◌==◌, nat_le, nat_lt, List, length, if◌then◌else◌, Option, Some, None, fold}
use Rattle.std.specs.List.{list_all}
pub use Rattle.vx_base.specs.Name.{is_digit}

abbrev pub is_lower : ℕ → Bool
is_lower b = nat_le 97 b && nat_le b 122

-- letters as capitals
abbrev pub to_upper : ℕ → ℕ
to_upper b = if is_lower b then b - 32 else b

abbrev pub is_letter : ℕ → Bool
is_letter b = (nat_le 65 b && nat_le b 90) || is_lower b

-- 0 to 9, and A to F of either case
abbrev pub is_hex_digit : ℕ → Bool
is_hex_digit b = is_digit b || (nat_le 65 (to_upper b) && nat_le (to_upper b) 70)

abbrev pub is_alphanumeric : ℕ → Bool
is_alphanumeric b = is_letter b || is_digit b

-- what stands in a word: letters, digits, '_' and '$'
abbrev pub is_word_byte : ℕ → Bool
is_word_byte b = is_alphanumeric b || ((b == 95) || (b == 36))

-- what stands in a service's name: letters, digits and '_'
abbrev pub is_service_byte : ℕ → Bool
is_service_byte b = is_alphanumeric b || (b == 95)

abbrev pub is_gap : ℕ → Bool
is_gap b = (b == 32) || (b == 9)

-- ',' '=' '+' '-' ':'
abbrev pub is_sign : ℕ → Bool
is_sign b = (b == 44) || ((b == 61) || ((b == 43) || ((b == 45) || (b == 58))))

-- what stands for itself in a quoted text: 32 to 126, but not '"' and '\'
abbrev pub is_plain : ℕ → Bool
is_plain b = nat_le 32 b && (nat_le b 126 && (not (b == 34) && not (b == 92)))

abbrev pub hex_value : ℕ → ℕ
hex_value b = if is_digit b then b - 48 else to_upper b - 55

abbrev pub with_digit : ℕ → ℕ → ℕ
with_digit n d = n * 10 + (d - 48)

-- the number that decimal digits spell
abbrev pub digits_value : List ℕ → ℕ
digits_value ds = fold with_digit 0 ds

-- a run of digits of value at most 4294967295
abbrev pub decimal_of : List ℕ → Option ℕ
decimal_of run = if list_all is_digit run && nat_le (digits_value run) 4294967295 then Some (digits_value run) else None

abbrev pub with_hex_digit : ℕ → ℕ → ℕ
with_hex_digit n d = n * 16 + hex_value d

-- the number that hexadecimal digits spell
abbrev pub hex_digits_value : List ℕ → ℕ
hex_digits_value ds = fold with_hex_digit 0 ds

-- a run of one or more hexadecimal digits of value at most 4294967295
abbrev pub hex_of : List ℕ → Option ℕ
hex_of run = if nat_lt 0 (length run) && (list_all is_hex_digit run && nat_le (hex_digits_value run) 4294967295) then Some (hex_digits_value run) else None
