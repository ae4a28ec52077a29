-- A text of at most 31 bytes, in 31 bytes.
use Rattle.std.specs.Prelude.{◌≡◌, ℕ, List, length}
use Rattle.vx_base.specs.Padded.{text_of, padded}

pub record IsText (len : ℕ) (bytes : List ℕ) : Type 0 where
  pub fits : length (text_of len bytes) ≡ len
  pub zeros : padded (text_of len bytes) ≡ bytes
