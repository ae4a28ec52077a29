-- What is stored as a number: R0, all variables, and the numbers of the I/O status blocks that have any.
use Rattle.std.specs.Prelude.{ℕ, List, [], ◌∷◌, ◌&&◌, ◌==◌, if◌then◌else◌}
use Rattle.vx_base.specs.Pieces.{Status}
use Rattle.vx_image.specs.Storage.{Storage}
use Rattle.vx_same.specs.Mix.{mix}

-- a digest with numbers more
abbrev pub mix_all : ℕ → List ℕ → ℕ
mix_all digest [] = digest
mix_all digest (n ∷ ns) = mix_all (mix digest n) ns

-- a digest with the count and the information of an I/O status block, if they are not both 0
abbrev pub mix_status : ℕ → Status → ℕ
mix_status digest s = if (s.count == 0) && (s.info == 0) then digest else mix (mix digest s.count) s.info

-- a digest with those of I/O status blocks
abbrev pub mix_statuses : ℕ → List Status → ℕ
mix_statuses digest [] = digest
mix_statuses digest (s ∷ ss) = mix_statuses (mix_status digest s) ss

-- a digest with what is stored
abbrev pub mix_stored : ℕ → Storage → ℕ
mix_stored digest store = mix_statuses (mix_all (mix digest store.r0) store.vars) store.statuses
