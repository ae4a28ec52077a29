-- Which effects have a spelling: what the program's types hold, and the ranges of their numbers.
use Rattle.std.specs.Prelude.{◌≡◌, ℕ, ◌<◌, ◌≤◌, ◌^◌, IsTrue, List, [], ◌∷◌, ◌++◌, Option, Some, None}
use Rattle.vx_base.specs.Name.{is_name}
use Rattle.vx_base.specs.Services.{is_target}
use Rattle.vx_base.specs.declared.effects.Cell.{Cell}
use Rattle.vx_base.specs.declared.effects.Cell.TheVariants.{Local, Common}
use Rattle.vx_base.specs.declared.effects.Effect.{Effect}
use Rattle.vx_base.specs.declared.effects.Effect.TheVariants as effect
use Rattle.vx_base.specs.declared.request.Body.{Body}
use Rattle.vx_base.specs.declared.request.Body.TheVariants as body
use Rattle.vx_text.specs.Quote.{AreBytes}
use Rattle.vx_lines.specs.ReadEffect.{read_effect}
use Rattle.vx_lines.specs.Records.{effect_line}

abbrev pub IsWord : ℕ → Type 0
IsWord n = n < 2 ^ 32

abbrev pub IsSpelledCell : Cell → Type 0
IsSpelledCell (Local p efn) = IsWord p.0 × IsWord efn
IsSpelledCell (Common group name n) = IsWord group × IsTrue (is_name name) × (n ≤ 31)

abbrev pub IsSpelledBody : Body → Type 0
IsSpelledBody (body.Text bytes) = AreBytes bytes
IsSpelledBody body.Eof = Unit {0}

abbrev pub IsSpelledCluster : Option (ℕ × List ℕ) → Type 0
IsSpelledCluster None = Unit {0}
IsSpelledCluster (Some (group, name)) = IsWord group × IsTrue (is_name name)

abbrev pub IsSpelled : Effect → Type 0
IsSpelled (effect.Open id kind p mode n) = IsWord id.0 × IsWord p.0 × IsWord n
IsSpelled (effect.Fin id cond) = IsWord id.0
IsSpelled (effect.Mark id) = IsWord id.0
IsSpelled (effect.Que id) = IsWord id.0
IsSpelled (effect.Fire id) = IsWord id.0
IsSpelled (effect.Drop id) = IsWord id.0
IsSpelled (effect.Enter id) = IsWord id.0
IsSpelled (effect.Leave id) = IsWord id.0
IsSpelled (effect.Flag cell bit) = IsSpelledCell cell
IsSpelled (effect.Iosb p i cond count info) = IsWord p.0 × IsWord i × IsWord count × IsWord info
IsSpelled (effect.Buf p b bytes) = IsWord p.0 × IsWord b × AreBytes bytes
IsSpelled (effect.Var p v n) = IsWord p.0 × IsTrue (is_target v) × IsWord n
IsSpelled (effect.MPut name id body) = IsTrue (is_name name) × IsWord id.0 × IsSpelledBody body
IsSpelled (effect.MGet name w r) = IsTrue (is_name name) × IsWord w.0 × IsWord r.0
IsSpelled (effect.MCut name w) = IsTrue (is_name name) × IsWord w.0
IsSpelled (effect.Mbx name bit) = IsTrue (is_name name)
IsSpelled (effect.Cef group name bit) = IsWord group × IsTrue (is_name name)
IsSpelled (effect.Clu p k cluster) = IsWord p.0 × (2 ≤ k) × (k ≤ 3) × IsSpelledCluster cluster
IsSpelled (effect.Enb p mode bit) = IsWord p.0
IsSpelled (effect.New p name) = IsWord p.0 × IsTrue (is_name name)
IsSpelled (effect.Gone p) = IsWord p.0

-- each effect that has a spelling is read back from it
abbrev pub ReadsBack : Type 0
ReadsBack = (e : Effect) → IsSpelled e → read_effect (effect_line e ++ 10 ∷ []) ≡ Some e
