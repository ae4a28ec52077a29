-- Quoted texts as they are read: between '"', each byte for itself or by '\' and two hexadecimal digits.
use Rattle.std.specs.Prelude.{ℕ, ◌+◌, ◌*◌, ◌<◌, ◌≤◌, ◌==◌, length, List, [], ◌∷◌, ◌++◌, if◌then◌else◌, Option, Some, None}
use Rattle.vx_text.specs.declared.quoted.Place.{Place}
use Rattle.vx_text.specs.declared.quoted.Place.TheVariants.{Plain, Escaped, Half}
use Rattle.vx_text.specs.declared.quoted.Step.{Step}
use Rattle.vx_text.specs.declared.quoted.Step.TheVariants.{Close, Byte, Into, Fault}
use Rattle.vx_text.specs.declared.quoted.Text.{Text}
use Rattle.vx_text.specs.Bytes.{is_plain, is_hex_digit, hex_value}

-- what a byte does at its place: it closes the text, spells a byte, spells some of one, or may not stand there
abbrev pub step_of : Place → ℕ → Step
step_of Plain b = if b == 34 then Close else (if b == 92 then Into Escaped else (if is_plain b then Byte b else Fault))
step_of Escaped b = if is_hex_digit b then Into (Half (hex_value b)) else Fault
step_of (Half high) b = if is_hex_digit b then Byte (16 * high + hex_value b) else Fault

-- a text behind these bytes, which so many bytes spell
abbrev pub behind : List ℕ → ℕ → Option Text → Option Text
behind front n None = None
behind front n (Some t) = Some (record { bytes = front ++ t.bytes; len = n + t.len })

-- by what a byte does, and what the rest spells from a place on
abbrev pub by_step : Step → (Place → Option Text) → Option Text
by_step Close rest = Some (record { bytes = []; len = 1 })
by_step (Byte b) rest = behind (b ∷ []) 1 (rest Plain)
by_step (Into at) rest = behind [] 1 (rest at)
by_step Fault rest = None

-- the text that bytes spell up to the closing quote; none if a byte may not stand, or nothing closes it
abbrev pub quoted : Place → List ℕ → Option Text
quoted at [] = None
quoted at (b ∷ bytes) = by_step (step_of at b) (λ next. quoted next bytes)

-- the text behind an opening quote
abbrev pub quoted_text : List ℕ → Option Text
quoted_text bytes = quoted Plain bytes

-- a digit that was read is below 16
abbrev pub IsPlace : Place → Type 0
IsPlace Plain = Unit {0}
IsPlace Escaped = Unit {0}
IsPlace (Half high) = high < 16

abbrev pub LeadsOn : Step → Type 0
LeadsOn (Into at) = IsPlace at
LeadsOn _ = Unit {0}

-- a text ends within these bytes
abbrev pub EndsWithin : List ℕ → Option Text → Type 0
EndsWithin bytes None = Unit {0}
EndsWithin bytes (Some t) = t.len ≤ length bytes
