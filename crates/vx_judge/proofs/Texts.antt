-- A text and zeros after it, cut again.
use Rattle.std.proofs.Common.{◌≡◌, ℕ, ◌-◌, List, ◌++◌, length, drop, replicate, ap, sym}
use Rattle.std.proofs.Math.Seq.{take-append_seam}
use Rattle.std.proofs.lemmas.List.{drop-replicate}
use Rattle.vx_judge.specs.Texts.{IsText}

text_from : (text rest : List ℕ) → rest ≡ replicate (31 - length text) 0 → IsText (length text) (text ++ rest)
text_from text rest e = record {
  fits = ap length (take-append_seam text rest);
  zeros = rw (take-append_seam text rest) (ap (λ z. text ++ z) (sym e));
}

pub text_padded : (text : List ℕ) → IsText (length text) (text ++ drop (length text) (replicate 31 0))
text_padded text = text_from text _ (drop-replicate (length text) 31 0)
