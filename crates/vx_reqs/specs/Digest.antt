-- Requests as a number.
use Rattle.std.specs.Prelude.{ℕ, List, [], ◌∷◌}
use Rattle.vx_record.specs.Types.{Request}
use Rattle.vx_same.specs.Mix.{mix}

-- a digest with the id and the process of each request
abbrev pub mix_requests : ℕ → List Request → ℕ
mix_requests digest [] = digest
mix_requests digest (r ∷ rs) = mix_requests (mix (mix digest r.req.id.0) r.req.p.0) rs
