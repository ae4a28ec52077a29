-- The keys of a PROCESS line are in range.
use Rattle.std.proofs.Common.{◌≡◌, ℕ, zero, suc, Bool, true, ◌&&◌, nat_le, List, [], ◌∷◌, drop, IfOk, refl, unwrap_or}
use Rattle.std.proofs.lemmas.Bool.{and_from, le-leb}
use Rattle.std.proofs.lemmas.Result.{IfOk-weaker}
use Rattle.vx_image.specs.WellFormed.{are_limits}
use Rattle.vx_text.specs.declared.token.Tok.{Tok}
use Rattle.vx_script.specs.Results.{given}
use Rattle.vx_script.specs.Fields.{sign_at, number_at}
use Rattle.vx_script.specs.Keys.{uic_at, mode_at, limit_at, privs_at, start_at, key_in, no_keys, once, limit_in, with_limit_in, with_uic, with_mode, with_limit, with_privs, with_start, with_key, taken_key, keys_from, first_uic, limits_of}
use Rattle.vx_script.specs.declared.fault.FaultKind.TheVariants as kind
use Rattle.vx_script.specs.declared.keys.Key.{Key}
use Rattle.vx_script.specs.declared.keys.Keys.{Keys}
use Rattle.vx_script.specs.declared.keys.Limit.{Limit}
use Rattle.vx_script.specs.declared.keys.TakenKey.{TakenKey}
use Rattle.vx_script.specs.declared.keys.Uic.{Uic}
use Rattle.vx_script.specs.declared.keys.Key.TheVariants as key
use Rattle.vx_script.specs.declared.keys.Limit.TheVariants as limit
use Rattle.vx_script.proofs.Chains.{after, after_by}
use Rattle.vx_script.proofs.InRange.{number}
use Rattle.std.specs.Int.{IsInRange}

-- what a process declaration with these keys has in range
abbrev pub are_keys : Keys → Bool
are_keys k =
    nat_le 1 (unwrap_or k.uic first_uic).group &&
    (nat_le (unwrap_or k.uic first_uic).group 16382 && (nat_le (unwrap_or k.uic first_uic).member 65534 && are_limits (limits_of k)))

abbrev IsLimit : ℕ → Type 0
IsLimit n = nat_le n 1000000 ≡ true

pub record IsUic (u : Uic) : Type 0 where
  pub first : nat_le 1 u.group ≡ true
  pub group : nat_le u.group 16382 ≡ true
  pub member : nat_le u.member 65534 ≡ true

-- the same, number by number
pub record AreKeys (k : Keys) : Type 0 where
  pub uic : IsUic (unwrap_or k.uic first_uic)
  pub ast : IsLimit (unwrap_or k.ast 24)
  pub bio : IsLimit (unwrap_or k.bio 18)
  pub dio : IsLimit (unwrap_or k.dio 18)
  pub byt : IsLimit (unwrap_or k.byt 8192)
  pub tqe : IsLimit (unwrap_or k.tqe 10)

pub all_in_range : (k : Keys) → AreKeys k → are_keys k ≡ true
all_in_range k h =
    let l = limits_of k in
    and_from (nat_le 1 (unwrap_or k.uic first_uic).group) _ h.uic.first (
    and_from (nat_le (unwrap_or k.uic first_uic).group 16382) _ h.uic.group (
    and_from (nat_le (unwrap_or k.uic first_uic).member 65534) _ h.uic.member (
    and_from (nat_le l.ast 1000000) _ h.ast (
    and_from (nat_le l.bio 1000000) _ h.bio (
    and_from (nat_le l.dio 1000000) _ h.dio (
    and_from (nat_le l.byt 1000000) (nat_le l.tqe 1000000) h.byt h.tqe))))))

pub none_taken : AreKeys no_keys
none_taken = record { uic = record { first = refl; group = refl; member = refl }; ast = refl; bio = refl; dio = refl; byt = refl; tqe = refl }

uic_is : (tokens : List Tok) → IfOk (uic_at tokens) IsUic
unfolding uic_at
uic_is tokens =
    after (sign_at 61 tokens) _ IsUic λ _ _.
    after_by (number_at 1 16382 (drop 1 tokens)) _ (IsInRange 1 16382) IsUic (number 1 16382 (drop 1 tokens)) λ group h.
    after (sign_at 58 (drop 2 tokens)) _ IsUic λ _ _.
    after_by (number_at 0 65534 (drop 3 tokens)) _ (IsInRange 0 65534) IsUic (number 0 65534 (drop 3 tokens)) λ member k.
    record { first = le-leb 1 group h.0; group = le-leb group 16382 h.1; member = le-leb member 65534 k.1 }

limit_is : (tokens : List Tok) → IfOk (limit_at tokens) IsLimit
unfolding limit_at
limit_is tokens =
    after (sign_at 61 tokens) _ IsLimit λ _ _.
    IfOk-weaker (number_at 0 1000000 (drop 1 tokens)) (IsInRange 0 1000000) IsLimit (λ n h. le-leb n 1000000 h.1) (number 0 1000000 (drop 1 tokens))

abbrev IsTaken : TakenKey → Type 0
IsTaken taken = AreKeys taken.keys

with_uic_is : (keys : Keys) (tokens : List Tok) → AreKeys keys → IfOk (with_uic keys tokens) IsTaken
with_uic_is keys tokens h =
    after (once keys.uic) _ IsTaken λ _ _.
    after_by (uic_at tokens) _ IsUic IsTaken (uic_is tokens) λ uic k.
    record { uic = k; ast = h.ast; bio = h.bio; dio = h.dio; byt = h.byt; tqe = h.tqe }

with_mode_is : (keys : Keys) (tokens : List Tok) → AreKeys keys → IfOk (with_mode keys tokens) IsTaken
with_mode_is keys tokens h =
    after (once keys.mode) _ IsTaken λ _ _.
    after (mode_at tokens) _ IsTaken λ mode _.
    record { uic = h.uic; ast = h.ast; bio = h.bio; dio = h.dio; byt = h.byt; tqe = h.tqe }

limited_is : (keys : Keys) (l : Limit) (n : ℕ) → AreKeys keys → IsLimit n → AreKeys (with_limit_in keys l n)
limited_is keys limit.Ast n h k = record { uic = h.uic; ast = k; bio = h.bio; dio = h.dio; byt = h.byt; tqe = h.tqe }
limited_is keys limit.Bio n h k = record { uic = h.uic; ast = h.ast; bio = k; dio = h.dio; byt = h.byt; tqe = h.tqe }
limited_is keys limit.Dio n h k = record { uic = h.uic; ast = h.ast; bio = h.bio; dio = k; byt = h.byt; tqe = h.tqe }
limited_is keys limit.Byt n h k = record { uic = h.uic; ast = h.ast; bio = h.bio; dio = h.dio; byt = k; tqe = h.tqe }
limited_is keys limit.Tqe n h k = record { uic = h.uic; ast = h.ast; bio = h.bio; dio = h.dio; byt = h.byt; tqe = k }

with_limit_is : (keys : Keys) (l : Limit) (tokens : List Tok) → AreKeys keys → IfOk (with_limit keys l tokens) IsTaken
with_limit_is keys l tokens h =
    after (once (limit_in keys l)) _ IsTaken λ _ _.
    after_by (limit_at tokens) _ IsLimit IsTaken (limit_is tokens) λ n k.
    limited_is keys l n h k

with_privs_is : (keys : Keys) (tokens : List Tok) → AreKeys keys → IfOk (with_privs keys tokens) IsTaken
with_privs_is keys tokens h =
    after (once keys.privs) _ IsTaken λ _ _.
    after (privs_at tokens) _ IsTaken λ taken _.
    record { uic = h.uic; ast = h.ast; bio = h.bio; dio = h.dio; byt = h.byt; tqe = h.tqe }

with_start_is : (keys : Keys) (tokens : List Tok) → AreKeys keys → IfOk (with_start keys tokens) IsTaken
with_start_is keys tokens h =
    after (once keys.start) _ IsTaken λ _ _.
    after (start_at tokens) _ IsTaken λ start _.
    record { uic = h.uic; ast = h.ast; bio = h.bio; dio = h.dio; byt = h.byt; tqe = h.tqe }

with_key_is : (keys : Keys) (k : Key) (tokens : List Tok) → AreKeys keys → IfOk (with_key keys k tokens) IsTaken
unfolding with_key
with_key_is keys key.Uic tokens h = with_uic_is keys tokens h
with_key_is keys key.Mode tokens h = with_mode_is keys tokens h
with_key_is keys (key.Limit l) tokens h = with_limit_is keys l tokens h
with_key_is keys key.Priv tokens h = with_privs_is keys tokens h
with_key_is keys key.Start tokens h = with_start_is keys tokens h

pub keys : (skip : ℕ) (taken : Keys) (tokens : List Tok) → AreKeys taken → IfOk (keys_from skip taken tokens) AreKeys
unfolding keys_from
keys skip taken [] h = h
keys (suc skip) taken (t ∷ tokens) h = keys skip taken tokens h
keys zero taken (t ∷ tokens) h =
    after_by (taken_key taken t tokens) _ IsTaken AreKeys (after (given kind.Word (key_in t)) _ IsTaken λ k _. with_key_is taken k tokens h) λ more k.
    keys more.used more.keys tokens k
