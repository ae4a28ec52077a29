-- Clear I/O status blocks add nothing to a digest.
use Rattle.std.proofs.Common.{◌≡◌, ℕ, zero, suc, ◌-◌, List, [], ◌∷◌, ◌++◌, length, replicate, refl}
use Rattle.vx_base.specs.Pieces.{Status, cleared}
use Rattle.vx_image.specs.Digest.{mix_status, mix_statuses}
use Rattle.vx_image.specs.Filled.{all_statuses}

mix_clear : (k digest : ℕ) → mix_statuses digest (replicate k cleared) ≡ digest
mix_clear zero digest = refl
mix_clear (suc k) digest = mix_clear k digest

mix_front : (blocks : List Status) (k digest : ℕ) → mix_statuses digest (blocks ++ replicate k cleared) ≡ mix_statuses digest blocks
mix_front [] k digest = mix_clear k digest
mix_front (block ∷ blocks) k digest = mix_front blocks k (mix_status digest block)

pub mix_filled : (blocks : List Status) (digest : ℕ) → mix_statuses digest (all_statuses blocks) ≡ mix_statuses digest blocks
mix_filled blocks digest = mix_front blocks (32 - length blocks) digest
