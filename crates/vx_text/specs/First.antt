-- What stands first in bytes: a gap, a comment or the end, a token with its length, or a fault.
use Rattle.std.specs.Prelude.{ℕ, ◌+◌, ◌==◌, List, length, map, drop, slice_index, nat_lt, nat_eq, codes, bytes_eq, if◌then◌else◌, Option, Some, None, option_map}
use Rattle.std.specs.List.{take_while, starts_with, find}
use Rattle.vx_base.specs.Name.{is_name}
use Rattle.vx_base.specs.Cond.{name_of, all_conds}
use Rattle.vx_base.specs.declared.cond.Cond.{Cond}
use Rattle.vx_text.specs.declared.token.Tok.{Tok}
use Rattle.vx_text.specs.declared.token.Tok.TheVariants as tok
use Rattle.vx_text.specs.declared.token.LexFail.{LexFail}
use Rattle.vx_text.specs.declared.token.LexFail.TheVariants as fail
use Rattle.vx_text.specs.declared.first.First.{First}
use Rattle.vx_text.specs.declared.first.First.TheVariants.{End, Gap, Found, Bad}
use Rattle.vx_text.specs.Bytes.{to_upper, is_letter, is_digit, is_hex_digit, is_alphanumeric, is_word_byte, is_service_byte, is_gap, is_sign, decimal_of, hex_of}
use Rattle.vx_text.specs.declared.quoted.Text.{Text}
use Rattle.vx_text.specs.Quoted.{quoted_text}

-- the condition of a name
abbrev pub cond_named : List ℕ → Option Cond
cond_named text = find (λ c. bytes_eq (name_of c) text) all_conds

abbrev pub cond_of : List ℕ → Option Tok
cond_of text = option_map tok.Cond (cond_named text)

abbrev pub word_named : List ℕ → Option Tok
word_named text = if is_name text then Some (tok.Word text) else None

-- the word that a run of its bytes is: a condition behind SS$_, or a name; none is longer than 31
abbrev pub word_of : List ℕ → Option Tok
word_of text = if nat_lt 31 (length text) then None else (if starts_with nat_eq text (codes "SS$_") then cond_of (drop 4 text) else word_named text)

-- a token of this length, or the fault of its kind
abbrev pub found_or : LexFail → Option Tok → ℕ → First
found_or kind None len = Bad kind
found_or kind (Some t) len = Found t len

abbrev pub word : List ℕ → First
word bytes = found_or fail.Name (word_of (map to_upper (take_while is_word_byte bytes))) (length (take_while is_word_byte bytes))

-- a name of at most 30 behind a '$'
abbrev pub service_of : List ℕ → Option Tok
service_of text = if nat_lt 30 (length text) then None else (if is_name text then Some (tok.Service text) else None)

-- '$' and the name of a service
abbrev pub service : List ℕ → First
service bytes = found_or fail.Name (service_of (map to_upper (take_while is_service_byte (drop 1 bytes)))) (1 + length (take_while is_service_byte (drop 1 bytes)))

-- a run of letters and digits that is a decimal number
abbrev pub number : List ℕ → First
number bytes = found_or fail.Number (option_map tok.Num (decimal_of (take_while is_alphanumeric bytes))) (length (take_while is_alphanumeric bytes))

-- '%X' and hexadecimal digits
abbrev pub hex_number : List ℕ → First
hex_number bytes = if to_upper (slice_index bytes 1) == 88 then found_or fail.Number (option_map tok.Num (hex_of (take_while is_hex_digit (drop 2 bytes)))) (2 + length (take_while is_hex_digit (drop 2 bytes))) else Bad fail.Number

abbrev pub text_found : Option Text → First
text_found None = Bad fail.Quote
text_found (Some t) = Found (tok.Quote t.bytes) (1 + t.len)

-- '"', a text and a closing '"'
abbrev pub quote : List ℕ → First
quote bytes = text_found (quoted_text (drop 1 bytes))

abbrev pub unquoted : ℕ → List ℕ → First
unquoted b bytes = if is_gap b then Gap else (if b == 33 then End else (if b == 37 then hex_number bytes else (if b == 36 then service bytes else (if is_letter b then word bytes else (if is_digit b then number bytes else (if is_sign b then Found (tok.Sign b) 1 else Bad fail.Byte))))))

-- by the first byte
abbrev pub first_by : ℕ → List ℕ → First
first_by b bytes = if b == 34 then quote bytes else unquoted b bytes

abbrev pub first : List ℕ → First
first bytes = if length bytes == 0 then End else first_by (slice_index bytes 0) bytes
