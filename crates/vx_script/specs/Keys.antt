-- The keys of a PROCESS line.
use Rattle.std.specs.Prelude.{ℕ, zero, suc, ◌+◌, ◌==◌, Bool, true, false, List, [], ◌∷◌, drop, codes, Option, Some, None, Result, Ok, Err, bytes_eq, if◌then◌else◌, unwrap_or}
use Rattle.std.specs.List.{find}
use Rattle.vx_base.specs.declared.mode.Mode.{Mode}
use Rattle.vx_base.specs.declared.quota.Need.{Need}
use Rattle.vx_base.specs.declared.quota.Privs.{Privs}
use Rattle.vx_text.specs.declared.token.Tok.{Tok}
use Rattle.vx_text.specs.declared.token.Tok.TheVariants as tok
use Rattle.vx_table.specs.Reading.{mode_word}
use Rattle.vx_script.specs.Results.{◌>>=◌, given}
use Rattle.vx_script.specs.Fields.{first_of, is_word, is_sign, sign_at, number_at}
use Rattle.vx_script.specs.declared.fault.FaultKind.{FaultKind}
use Rattle.vx_script.specs.declared.fault.FaultKind.TheVariants as kind
use Rattle.vx_script.specs.declared.keys.Key.{Key}
use Rattle.vx_script.specs.declared.keys.Key.TheVariants as key
use Rattle.vx_script.specs.declared.keys.Keys.{Keys}
use Rattle.vx_script.specs.declared.keys.Limit.{Limit}
use Rattle.vx_script.specs.declared.keys.Limit.TheVariants as limit
use Rattle.vx_script.specs.declared.keys.TakenKey.{TakenKey}
use Rattle.vx_script.specs.declared.keys.Uic.{Uic}
use Rattle.vx_script.specs.declared.privileges.Privilege.{Privilege}
use Rattle.vx_script.specs.declared.privileges.Privilege.TheVariants as privilege
use Rattle.vx_script.specs.declared.privileges.TakenPrivs.{TakenPrivs}
pub use Rattle.vx_base.specs.Quotas.{no_privs}

-- Privileges: NONE, or names joined by +.

abbrev pub privilege_name : Privilege → List ℕ
privilege_name privilege.CmExec = codes "CMEXEC"
privilege_name privilege.CmKrnl = codes "CMKRNL"
privilege_name privilege.Group = codes "GROUP"
privilege_name privilege.PrmCeb = codes "PRMCEB"
privilege_name privilege.PrmMbx = codes "PRMMBX"
privilege_name privilege.World = codes "WORLD"

abbrev pub privileges : List Privilege
privileges = privilege.CmExec ∷ privilege.CmKrnl ∷ privilege.Group ∷ privilege.PrmCeb ∷ privilege.PrmMbx ∷ privilege.World ∷ []

abbrev pub privilege_word : List ℕ → Option Privilege
privilege_word word = find (λ p. bytes_eq word (privilege_name p)) privileges

abbrev pub privilege_in : Tok → Option Privilege
privilege_in (tok.Word word) = privilege_word word
privilege_in _ = None

abbrev pub holds : Privs → Privilege → Bool
holds privs privilege.CmExec = privs.cmexec
holds privs privilege.CmKrnl = privs.cmkrnl
holds privs privilege.Group = privs.group
holds privs privilege.PrmCeb = privs.prmceb
holds privs privilege.PrmMbx = privs.prmmbx
holds privs privilege.World = privs.world

abbrev pub granted : Privs → Privilege → Privs
granted privs privilege.CmExec = record privs { cmexec = true }
granted privs privilege.CmKrnl = record privs { cmkrnl = true }
granted privs privilege.Group = record privs { group = true }
granted privs privilege.PrmCeb = record privs { prmceb = true }
granted privs privilege.PrmMbx = record privs { prmmbx = true }
granted privs privilege.World = record privs { world = true }

-- one more, each once
abbrev pub with_privilege : Privs → Privilege → Result Privs FaultKind
with_privilege privs p = if holds privs p then Err kind.Twice else Ok (granted privs p)

abbrev pub with_token : Privs → Tok → Result Privs FaultKind
with_token privs t = given kind.Word (privilege_in t) >>= with_privilege privs

-- Names joined by +, and how many tokens they take: a name stands first, or behind a name a + or the end.

abbrev pub no_more : Privs → TakenPrivs
no_more privs = record { privs = privs; used = 0 }

abbrev pub one_more : TakenPrivs → TakenPrivs
one_more taken = record { privs = taken.privs; used = taken.used + 1 }

abbrev pub privs_from : Bool → Privs → List Tok → Result TakenPrivs FaultKind
privs_from false privs [] = Err kind.Missing
privs_from true privs [] = Ok (no_more privs)
privs_from false privs (t ∷ tokens) = with_token privs t >>= λ held. privs_from true held tokens >>= λ taken. Ok (one_more taken)
privs_from true privs (s ∷ tokens) = if is_sign 43 s then (privs_from false privs tokens >>= λ taken. Ok (one_more taken)) else Ok (no_more privs)

abbrev pub privs_of : List Tok → Result TakenPrivs FaultKind
privs_of [] = Err kind.Missing
privs_of (t ∷ tokens) = if is_word (codes "NONE") t then Ok (record { privs = no_privs; used = 1 }) else privs_from false no_privs (t ∷ tokens)

unfoldable pub privs_at : List Tok → Result TakenPrivs FaultKind
privs_at tokens = sign_at 61 tokens >>= λ _. privs_of (drop 1 tokens)

-- The other values, each behind its =.

unfoldable pub uic_at : List Tok → Result Uic FaultKind
uic_at tokens = do
  _ ← sign_at 61 tokens
  group ← number_at 1 16382 (drop 1 tokens)
  _ ← sign_at 58 (drop 2 tokens)
  member ← number_at 0 65534 (drop 3 tokens)
  Ok (record { group = group; member = member })

abbrev pub mode_in : Tok → Option Mode
mode_in (tok.Word word) = mode_word word
mode_in _ = None

abbrev pub mode_of : List Tok → Result Mode FaultKind
mode_of tokens = first_of tokens >>= λ t. given kind.Word (mode_in t)

unfoldable pub mode_at : List Tok → Result Mode FaultKind
mode_at tokens = sign_at 61 tokens >>= λ _. mode_of (drop 1 tokens)

unfoldable pub limit_at : List Tok → Result ℕ FaultKind
limit_at tokens = sign_at 61 tokens >>= λ _. number_at 0 1000000 (drop 1 tokens)

unfoldable pub start_at : List Tok → Result Bool FaultKind
start_at tokens = sign_at 61 tokens >>= λ _. number_at 0 1 (drop 1 tokens) >>= λ n. Ok (n == 1)

-- Keys: each once, in any order.

abbrev pub limit_name : Limit → List ℕ
limit_name limit.Ast = codes "ASTLM"
limit_name limit.Bio = codes "BIOLM"
limit_name limit.Dio = codes "DIOLM"
limit_name limit.Byt = codes "BYTLM"
limit_name limit.Tqe = codes "TQELM"

abbrev pub key_name : Key → List ℕ
key_name key.Uic = codes "UIC"
key_name key.Mode = codes "MODE"
key_name (key.Limit l) = limit_name l
key_name key.Priv = codes "PRIV"
key_name key.Start = codes "START"

abbrev pub all_keys : List Key
all_keys = key.Uic ∷ key.Mode ∷ key.Limit limit.Ast ∷ key.Limit limit.Bio ∷ key.Limit limit.Dio ∷ key.Limit limit.Byt ∷ key.Limit limit.Tqe ∷ key.Priv ∷ key.Start ∷ []

abbrev pub key_word : List ℕ → Option Key
key_word word = find (λ k. bytes_eq word (key_name k)) all_keys

abbrev pub key_in : Tok → Option Key
key_in (tok.Word word) = key_word word
key_in _ = None

-- no key stands
abbrev pub no_keys : Keys
no_keys = record { uic = None; mode = None; ast = None; bio = None; dio = None; byt = None; tqe = None; privs = None; start = None }

-- the limit that stands
abbrev pub limit_in : Keys → Limit → Option ℕ
limit_in keys limit.Ast = keys.ast
limit_in keys limit.Bio = keys.bio
limit_in keys limit.Dio = keys.dio
limit_in keys limit.Byt = keys.byt
limit_in keys limit.Tqe = keys.tqe

abbrev pub with_limit_in : Keys → Limit → ℕ → Keys
with_limit_in keys limit.Ast n = record keys { ast = Some n }
with_limit_in keys limit.Bio n = record keys { bio = Some n }
with_limit_in keys limit.Dio n = record keys { dio = Some n }
with_limit_in keys limit.Byt n = record keys { byt = Some n }
with_limit_in keys limit.Tqe n = record keys { tqe = Some n }

abbrev pub once : {A : Type 0} → Option A → Result (Unit {0}) FaultKind
once None = Ok tt
once (Some x) = Err kind.Twice

-- the keys with one more, and how many tokens stand behind its name

abbrev pub with_uic : Keys → List Tok → Result TakenKey FaultKind
with_uic keys tokens = once keys.uic >>= λ _. uic_at tokens >>= λ uic. Ok (record { keys = record keys { uic = Some uic }; used = 4 })

abbrev pub with_mode : Keys → List Tok → Result TakenKey FaultKind
with_mode keys tokens = once keys.mode >>= λ _. mode_at tokens >>= λ mode. Ok (record { keys = record keys { mode = Some mode }; used = 2 })

abbrev pub with_limit : Keys → Limit → List Tok → Result TakenKey FaultKind
with_limit keys l tokens = once (limit_in keys l) >>= λ _. limit_at tokens >>= λ n. Ok (record { keys = with_limit_in keys l n; used = 2 })

abbrev pub with_privs : Keys → List Tok → Result TakenKey FaultKind
with_privs keys tokens = once keys.privs >>= λ _. privs_at tokens >>= λ taken. Ok (record { keys = record keys { privs = Some taken.privs }; used = taken.used + 1 })

abbrev pub with_start : Keys → List Tok → Result TakenKey FaultKind
with_start keys tokens = once keys.start >>= λ _. start_at tokens >>= λ start. Ok (record { keys = record keys { start = Some start }; used = 2 })

unfoldable pub with_key : Keys → Key → List Tok → Result TakenKey FaultKind
with_key keys key.Uic tokens = with_uic keys tokens
with_key keys key.Mode tokens = with_mode keys tokens
with_key keys (key.Limit l) tokens = with_limit keys l tokens
with_key keys key.Priv tokens = with_privs keys tokens
with_key keys key.Start tokens = with_start keys tokens

-- the key that begins with a token
abbrev pub taken_key : Keys → Tok → List Tok → Result TakenKey FaultKind
taken_key keys t tokens = given kind.Word (key_in t) >>= λ k. with_key keys k tokens

-- the keys of the tokens behind so many that are taken already
unfoldable pub keys_from : ℕ → Keys → List Tok → Result Keys FaultKind
keys_from skip keys [] = Ok keys
keys_from (suc skip) keys (t ∷ tokens) = keys_from skip keys tokens
keys_from zero keys (t ∷ tokens) = taken_key keys t tokens >>= λ taken. keys_from taken.used taken.keys tokens

-- The settings that keys give, each with its default.

abbrev pub first_uic : Uic
first_uic = record { group = 1; member = 1 }

abbrev pub limits_of : Keys → Need
limits_of keys = record { ast = unwrap_or keys.ast 24; bio = unwrap_or keys.bio 18; dio = unwrap_or keys.dio 18; byt = unwrap_or keys.byt 8192; tqe = unwrap_or keys.tqe 10 }
