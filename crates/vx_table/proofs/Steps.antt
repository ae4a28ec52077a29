-- The arguments one by one, as the reader goes over them.
use Rattle.std.proofs.Common.{◌≡◌, ℕ, zero, suc, ◌+◌, ◌-◌, ◌<◌, ◌≤◌, List, [], ◌∷◌, ◌++◌, length, take, drop, get_or, replicate, Option, None, Some, Result, Ok, refl, sym, ap, ◌∙◌, arith, append-nil, add-one}
use Rattle.std.proofs.Math.Seq.{drop-cons}
use Rattle.std.proofs.Math.ListN.{set}
use Rattle.std.proofs.lemmas.List.{drop-drop, drop_all, drop-replicate, drop-set-lt, take-append-drop}
use Rattle.vx_base.specs.declared.call.Arg.{Arg}
use Rattle.vx_base.specs.declared.service.Param.{Param}
use Rattle.vx_base.specs.declared.call.Arg.TheVariants as arg
use Rattle.vx_base.specs.Services.{args_of}
use Rattle.vx_text.specs.declared.token.Tok.{Tok}
use Rattle.vx_table.specs.declared.fail.CallFail.{CallFail}
use Rattle.vx_table.specs.declared.slot.Slot.{Slot}
use Rattle.vx_table.specs.Rows.{param_of, params_in}
use Rattle.vx_table.specs.Reading.{and_args, read_arg, read_args, as_args, first_piece}
use Rattle.vx_table.specs.Cutting.{finish}
use Rattle.vx_table.proofs.Back.{firsts}
use Rattle.vx_base.specs.Lists.{rest}
use Rattle.vx_text.specs.Lex.{with_front}
use Rattle.vx_text.proofs.Turns.{with_front-front}

firsts_padded : (m n : ℕ) (front : List Arg) → firsts m (front ++ replicate n arg.Unused) ≡ firsts m front
firsts_padded zero n front = refl
firsts_padded (suc m) zero [] = refl
firsts_padded (suc m) (suc n) [] = ap (λ (more : List Arg). arg.Unused ∷ more) (firsts_padded m n [])
firsts_padded (suc m) n (a ∷ front) = ap (λ (more : List Arg). a ∷ more) (firsts_padded m n front)

-- arguments that are not used change nothing
args_of-padded : (n : ℕ) (front : List Arg) → args_of (front ++ replicate n arg.Unused) ≡ args_of front
args_of-padded n front = ap args_of (firsts_padded 9 n front)

pub args_of-front : (k n : ℕ) (args : List Arg) → drop k args ≡ replicate n arg.Unused → args_of args ≡ args_of (take k args)
args_of-front k n args e = ap args_of (sym (take-append-drop k args) ∙ ap (λ (rest : List Arg). take k args ++ rest) e) ∙ args_of-padded n (take k args)

pub finished : (args front : List Arg) (k : ℕ) (left : List (List Tok)) (whole : Result (List Arg) CallFail) → args_of args ≡ args_of front → with_front front (read_args k [] left) ≡ whole → finish args left ≡ as_args whole
finished args front k [] whole same e = ap Ok (same ∙ ap args_of (sym (append-nil front))) ∙ ap as_args e
finished args front k (piece ∷ more) whole same e = ap as_args e

pub no_param : (params : List (Option Slot)) (k : ℕ) → k < length params → get_or params k None ≡ None → params_in (drop k params) ≡ []
no_param params k h none = rw (drop-cons params k None h, none) refl

pub a_param : (params : List (Option Slot)) (k : ℕ) (slot : Slot) (p : Param) → k < length params → get_or params k None ≡ Some slot → p ≡ param_of slot → params_in (drop k params) ≡ p ∷ params_in (drop (k + 1) params)
a_param params k slot p h some is = rw (drop-cons params k None h, some, add-one, is) refl

pub params_end : (params : List (Option Slot)) (k : ℕ) → length params ≤ k → params_in (drop k params) ≡ []
params_end params k h = ap params_in (drop_all k params h)

-- an argument that was read is the next one
pub stepped : (front : List Arg) (a : Arg) (k : ℕ) (p : Param) (params all : List Param) (here next : List (List Tok)) (piece : List Tok) (whole : Result (List Arg) CallFail) → Ok a ≡ read_arg (k + 1) p piece → piece ≡ first_piece here → next ≡ rest here → all ≡ p ∷ params → with_front front (read_args (k + 1) all here) ≡ whole → with_front (front ++ a ∷ []) (read_args (k + 1 + 1) params next) ≡ whole
stepped front a k p params all here next piece whole read is more params_are e =
    let others = read_args (k + 1 + 1) params (rest here) in
    let first : and_args (read_arg (k + 1) p (first_piece here)) others ≡ with_front (a ∷ []) others = ap (λ (r : Result Arg CallFail). and_args r others) (ap (read_arg (k + 1) p) (sym is) ∙ sym read) in
    ap (λ (n : List (List Tok)). with_front (front ++ a ∷ []) (read_args (k + 1 + 1) params n)) more ∙ with_front-front front (a ∷ []) others ∙ ap (with_front front) (sym first) ∙ ap (λ (ps : List Param). with_front front (read_args (k + 1) ps here)) (sym params_are) ∙ e

pub still_unused : (args : List Arg) (k : ℕ) (a : Arg) → drop k args ≡ replicate (9 - k) arg.Unused → drop (k + 1) (set args k a) ≡ replicate (9 - (k + 1)) arg.Unused
still_unused args k a e =
    let less : 9 - k - 1 ≡ 9 - (k + 1) = omega arith in
    drop-set-lt (k + 1) args k a (omega arith) ∙ sym (drop-drop 1 k args) ∙ ap (drop 1) e ∙ drop-replicate 1 (9 - k) arg.Unused ∙ ap (λ (n : ℕ). replicate n arg.Unused) less
