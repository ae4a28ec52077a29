-- The keys of a PROCESS line: what is read of them is what the grammar says, and the other way round.
use Rattle.std.proofs.Common.{◌≡◌, ℕ, zero, suc, ◌+◌, ◌==◌, ◌||◌, Bool, true, false, nat_le, List, [], ◌∷◌, ◌++◌, drop, fold, codes, Option, Some, None, is_some, Result, Ok, bytes_eq, refl, sym, subst, ap, ◌∙◌, arith, add-one, unwrap_or}
use Rattle.std.specs.List.{list_any}
use Rattle.std.proofs.lemmas.Bool.{le-leb}
use Rattle.std.proofs.lemmas.List.{drop-drop}
use Rattle.vx_base.specs.declared.mode.Mode.{Mode}
use Rattle.vx_base.specs.declared.quota.Privs.{Privs}
use Rattle.vx_base.specs.declared.mode.Mode.TheVariants.{Kernel, Exec, Super, User}
use Rattle.vx_image.specs.declared.decl.ProcDecl.{ProcDecl}
use Rattle.vx_text.specs.declared.token.Tok.{Tok}
use Rattle.vx_text.specs.declared.token.Tok.TheVariants as tok
use Rattle.vx_table.specs.Spelling.{mode_name}
use Rattle.vx_script.specs.Results.{◌>>=◌, given}
use Rattle.vx_script.specs.Fields.{is_word, begins_with_sign, sign_at, number_at}
use Rattle.vx_script.specs.Keys.{privilege_name, holds, granted, no_privs, privs_from, privs_of, privs_at, uic_at, mode_in, mode_at, limit_at, start_at, key_name, all_keys, key_word, key_in, once, limit_in, with_limit_in, with_uic, with_mode, with_limit, with_privs, with_start, with_key, taken_key, keys_from, first_uic, limits_of}
use Rattle.vx_script.specs.declared.fault.FaultKind.{FaultKind}
use Rattle.vx_script.specs.declared.keys.Key.{Key}
use Rattle.vx_script.specs.declared.keys.Keys.{Keys}
use Rattle.vx_script.specs.declared.keys.Limit.{Limit}
use Rattle.vx_script.specs.declared.keys.TakenKey.{TakenKey}
use Rattle.vx_script.specs.declared.keys.Uic.{Uic}
use Rattle.vx_script.specs.declared.privileges.Privilege.{Privilege}
use Rattle.vx_script.specs.declared.privileges.TakenPrivs.{TakenPrivs}
use Rattle.vx_script.specs.declared.fault.FaultKind.TheVariants as kind
use Rattle.vx_script.specs.declared.keys.Key.TheVariants as key
use Rattle.vx_script.specs.declared.keys.Limit.TheVariants as limit
use Rattle.vx_script.specs.declared.privileges.Privilege.TheVariants as privilege
use Rattle.vx_script.proofs.Taking.{keys_behind}
use Rattle.vx_grammar.specs.Grammar.{Privileges, one_name, and_name, Setting, uic_is, mode_is, limit_is, limited, no_priv_is, priv_is, start_is, Settings, no_settings, and_setting, colon, equals, plus}
use Rattle.vx_grammar.proofs.Fields.{bind_ok, given_ok, found_name, sign_found, word_token, number_found, choice_found}
use Rattle.vx_grammar.proofs.Once.{OneMore, AreNew, and_new, first_new, rest_new}
use Rattle.vx_grammar.proofs.PrivilegeNames.{names_read, names_stand}
use Rattle.vx_table.proofs.Back.{mode_back}
use Rattle.vx_base.proofs.Bools.{either_by}
use Rattle.std.specs.Int.{IsInRange}

-- a key stands already
abbrev pub has : Keys → Key → Bool
has keys key.Uic = is_some keys.uic
has keys key.Mode = is_some keys.mode
has keys (key.Limit l) = is_some (limit_in keys l)
has keys key.Priv = is_some keys.privs
has keys key.Start = is_some keys.start

-- the process declaration of keys
abbrev pub decl_with : List ℕ → ℕ → Keys → ProcDecl
decl_with name image keys = record {
  name = name;
  image = image;
  group = (unwrap_or keys.uic first_uic).group;
  member = (unwrap_or keys.uic first_uic).member;
  mode = unwrap_or keys.mode User;
  limits = limits_of keys;
  privs = unwrap_or keys.privs no_privs;
  start = unwrap_or keys.start true;
}

abbrev One : Key → Keys → Keys → Type 0
One k keys more = OneMore key_name (has keys) (has more) k

-- a key is set
pub record IsSet (k : Key) (set : ProcDecl → ProcDecl) (keys more : Keys) : Type 0 where
  pub new : has keys k ≡ false
  pub sets : (name : List ℕ) (image : ℕ) → decl_with name image more ≡ set (decl_with name image keys)
  pub one : One k keys more

has_uic : (keys : Keys) (x : Uic) (k : Key) → has (record keys { uic = Some x }) k ≡ (bytes_eq (key_name key.Uic) (key_name k) || has keys k)
has_uic keys x key.Uic = refl
has_uic keys x (key.Limit limit.Ast) = refl
has_uic keys x _ = refl

has_mode : (keys : Keys) (x : Mode) (k : Key) → has (record keys { mode = Some x }) k ≡ (bytes_eq (key_name key.Mode) (key_name k) || has keys k)
has_mode keys x key.Mode = refl
has_mode keys x (key.Limit limit.Ast) = refl
has_mode keys x _ = refl

has_limit : (keys : Keys) (l : Limit) (x : ℕ) (k : Key) → has (with_limit_in keys l x) k ≡ (bytes_eq (key_name (key.Limit l)) (key_name k) || has keys k)
has_limit keys limit.Ast x (key.Limit limit.Ast) = refl
has_limit keys limit.Ast x _ = refl
has_limit keys limit.Bio x (key.Limit limit.Bio) = refl
has_limit keys limit.Bio x _ = refl
has_limit keys limit.Dio x (key.Limit limit.Dio) = refl
has_limit keys limit.Dio x _ = refl
has_limit keys limit.Byt x (key.Limit limit.Byt) = refl
has_limit keys limit.Byt x _ = refl
has_limit keys limit.Tqe x (key.Limit limit.Tqe) = refl
has_limit keys limit.Tqe x _ = refl

has_privs : (keys : Keys) (x : Privs) (k : Key) → has (record keys { privs = Some x }) k ≡ (bytes_eq (key_name key.Priv) (key_name k) || has keys k)
has_privs keys x key.Priv = refl
has_privs keys x (key.Limit limit.Ast) = refl
has_privs keys x _ = refl

has_start : (keys : Keys) (x : Bool) (k : Key) → has (record keys { start = Some x }) k ≡ (bytes_eq (key_name key.Start) (key_name k) || has keys k)
has_start keys x key.Start = refl
has_start keys x (key.Limit limit.Ast) = refl
has_start keys x _ = refl

-- Spelled, and so read.

-- a key's value is read, and the tokens behind it are left
pub record Takes (keys : Keys) (k : Key) (set : ProcDecl → ProcDecl) (value rest : List Tok) : Type 0 where
  pub more : Keys
  pub used : ℕ
  pub read : with_key keys k (equals ∷ (value ++ rest)) ≡ Ok (record { keys = more; used = used })
  pub behind : drop used (equals ∷ (value ++ rest)) ≡ rest
  pub is_set : IsSet k set keys more

absent : {A : Type 0} (o : Option A) → is_some o ≡ false → once o ≡ Ok tt
absent None h = refl
absent (Some x) h = absurd (cc)

uic_takes : (keys : Keys) (g m : ℕ) (rest : List Tok) → IsInRange 1 16382 g → IsInRange 0 65534 m → is_some keys.uic ≡ false
    → with_uic keys (equals ∷ tok.Num g ∷ colon ∷ tok.Num m ∷ rest) ≡ Ok (record { keys = record keys { uic = Some (record { group = g; member = m }) }; used = 4 })
unfolding uic_at
uic_takes keys g m rest h k new =
    let a : nat_le 1 g ≡ true = le-leb _ _ h.0 in
    let b : nat_le g 16382 ≡ true = le-leb _ _ h.1 in
    let c : nat_le 0 m ≡ true = le-leb _ _ k.0 in
    let d : nat_le m 65534 ≡ true = le-leb _ _ k.1 in
    rw (absent keys.uic new, a, b, c, d) refl

mode_takes : (keys : Keys) (m : Mode) (rest : List Tok) → is_some keys.mode ≡ false
    → with_mode keys (equals ∷ tok.Word (mode_name m) ∷ rest) ≡ Ok (record { keys = record keys { mode = Some m }; used = 2 })
unfolding mode_at
mode_takes keys m rest new = rw (absent keys.mode new, mode_back m) refl

start_takes : (keys : Keys) (n : ℕ) (rest : List Tok) → IsInRange 0 1 n → is_some keys.start ≡ false
    → with_start keys (equals ∷ tok.Num n ∷ rest) ≡ Ok (record { keys = record keys { start = Some (n == 1) }; used = 2 })
unfolding start_at
start_takes keys n rest h new =
    let a : nat_le 0 n ≡ true = le-leb _ _ h.0 in
    let b : nat_le n 1 ≡ true = le-leb _ _ h.1 in
    rw (absent keys.start new, a, b) refl

none_takes : (keys : Keys) (rest : List Tok) → is_some keys.privs ≡ false
    → with_privs keys (equals ∷ tok.Word (codes "NONE") ∷ rest) ≡ Ok (record { keys = record keys { privs = Some no_privs }; used = 2 })
unfolding privs_at
none_takes keys rest new = rw (absent keys.privs new) refl

-- no privilege is named NONE
named_not_none : (p : Privilege) → bytes_eq (privilege_name p) (codes "NONE") ≡ false
named_not_none privilege.CmExec = refl
named_not_none _ = refl

names_of_by : (p : Privilege) (ts : List Tok) → privs_of (tok.Word (privilege_name p) ∷ ts) ≡ privs_from false no_privs (tok.Word (privilege_name p) ∷ ts)
names_of_by p ts = rw (named_not_none p) refl

names_of : (names : List Tok) (ps : List Privilege) → Privileges names ps → (rest : List Tok) → privs_of (names ++ rest) ≡ privs_from false no_privs (names ++ rest)
names_of _ _ (one_name p) rest = names_of_by p rest
names_of _ _ (and_name p names ps more) rest = names_of_by p (plus ∷ (names ++ rest))

names_take : (keys : Keys) (names rest : List Tok) (taken : TakenPrivs) → is_some keys.privs ≡ false → privs_of (names ++ rest) ≡ Ok taken
    → with_privs keys (equals ∷ (names ++ rest)) ≡ Ok (record { keys = record keys { privs = Some taken.privs }; used = taken.used + 1 })
unfolding privs_at
names_take keys names rest taken new h = rw (absent keys.privs new, h) refl

none_held : (ps : List Privilege) → list_any (holds no_privs) ps ≡ false
none_held [] = refl
none_held (privilege.CmExec ∷ ps) = none_held ps
none_held (_ ∷ ps) = none_held ps

dropped_one : (used : ℕ) (t : Tok) (ts rest : List Tok) → drop used ts ≡ rest → drop (used + 1) (t ∷ ts) ≡ rest
dropped_one used t ts rest h = rw add-one h

limit_takes : (keys : Keys) (l : Limit) (n : ℕ) (rest : List Tok) → IsInRange 0 1000000 n → is_some (limit_in keys l) ≡ false
    → with_limit keys l (equals ∷ tok.Num n ∷ rest) ≡ Ok (record { keys = with_limit_in keys l n; used = 2 })
unfolding limit_at
limit_takes keys l n rest h new =
    let a : nat_le 0 n ≡ true = le-leb _ _ h.0 in
    let b : nat_le n 1000000 ≡ true = le-leb _ _ h.1 in
    rw (absent (limit_in keys l) new, a, b) refl

limit_sets : (name : List ℕ) (image : ℕ) (keys : Keys) (l : Limit) (n : ℕ)
    → decl_with name image (with_limit_in keys l n) ≡ record (decl_with name image keys) { limits = limited (limits_of keys) l n }
limit_sets name image keys limit.Ast n = refl
limit_sets name image keys limit.Bio n = refl
limit_sets name image keys limit.Dio n = refl
limit_sets name image keys limit.Byt n = refl
limit_sets name image keys limit.Tqe n = refl

-- what is spelled as a key's value is read so
pub setting_takes : (k : Key) (value : List Tok) (set : ProcDecl → ProcDecl) → Setting k value set → (keys : Keys) (rest : List Tok) → has keys k ≡ false → begins_with_sign 43 rest ≡ false
    → Takes keys k set value rest
unfolding with_key
setting_takes _ _ _ (uic_is g m h k) keys rest new ends = record {
  more = record keys { uic = Some (record { group = g; member = m }) };
  used = 4;
  read = uic_takes keys g m rest h k new;
  behind = refl;
  is_set = record { new = new; sets = λ name image. refl; one = record { each = has_uic keys (record { group = g; member = m }) } };
}
setting_takes _ _ _ (mode_is m) keys rest new ends = record {
  more = record keys { mode = Some m };
  used = 2;
  read = mode_takes keys m rest new;
  behind = refl;
  is_set = record { new = new; sets = λ name image. refl; one = record { each = has_mode keys m } };
}
setting_takes _ _ _ (limit_is l n h) keys rest new ends = record {
  more = with_limit_in keys l n;
  used = 2;
  read = limit_takes keys l n rest h new;
  behind = refl;
  is_set = record { new = new; sets = λ name image. limit_sets name image keys l n; one = record { each = has_limit keys l n } };
}
setting_takes _ _ _ no_priv_is keys rest new ends = record {
  more = record keys { privs = Some no_privs };
  used = 2;
  read = none_takes keys rest new;
  behind = refl;
  is_set = record { new = new; sets = λ name image. refl; one = record { each = has_privs keys no_privs } };
}
setting_takes _ _ _ (priv_is names ps are apart) keys rest new ends =
    let held = fold granted no_privs ps in
    let r = names_read names ps are no_privs rest (record { none = none_held ps; apart = apart }) ends in
    record {
      more = record keys { privs = Some held };
      used = r.used + 1;
      read = names_take keys names rest (record { privs = held; used = r.used }) new (names_of names ps are rest ∙ r.read);
      behind = dropped_one r.used equals (names ++ rest) rest r.behind;
      is_set = record { new = new; sets = λ name image. refl; one = record { each = has_privs keys held } };
    }
setting_takes _ _ _ (start_is n h) keys rest new ends = record {
  more = record keys { start = Some (n == 1) };
  used = 2;
  read = start_takes keys n rest h new;
  behind = refl;
  is_set = record { new = new; sets = λ name image. refl; one = record { each = has_start keys (n == 1) } };
}

key_back : (k : Key) → key_word (key_name k) ≡ Some k
key_back key.Uic = refl
key_back key.Mode = refl
key_back (key.Limit limit.Ast) = refl
key_back (key.Limit limit.Bio) = refl
key_back (key.Limit limit.Dio) = refl
key_back (key.Limit limit.Byt) = refl
key_back (key.Limit limit.Tqe) = refl
key_back key.Priv = refl
key_back key.Start = refl

one_key : (keys : Keys) (t : Tok) (tokens : List Tok) (taken : TakenKey) → taken_key keys t tokens ≡ Ok taken → keys_from 0 keys (t ∷ tokens) ≡ keys_from taken.used taken.keys tokens
unfolding keys_from
one_key keys t tokens taken h = rw h refl

no_key : (keys : Keys) → keys_from 0 keys [] ≡ Ok keys
unfolding keys_from
no_key keys = refl

settings_end : (tokens : List Tok) (ks : List Key) (set : ProcDecl → ProcDecl) → Settings tokens ks set → begins_with_sign 43 tokens ≡ false
settings_end _ _ _ no_settings = refl
settings_end _ _ _ (and_setting k value tokens ks set more h rest) = refl

-- keys are read, and what they set is what they give
pub record KeysRead (keys : Keys) (tokens : List Tok) (set : ProcDecl → ProcDecl) : Type 0 where
  pub all : Keys
  pub read : keys_from 0 keys tokens ≡ Ok all
  pub sets : (name : List ℕ) (image : ℕ) → decl_with name image all ≡ set (decl_with name image keys)

pub settings_read : (tokens : List Tok) (ks : List Key) (set : ProcDecl → ProcDecl) → Settings tokens ks set → (keys : Keys) → AreNew key_name (has keys) ks → KeysRead keys tokens set
settings_read _ _ _ no_settings keys new = record { all = keys; read = no_key keys; sets = λ name image. refl }
settings_read _ _ _ (and_setting k value tokens ks set more h rest) keys new =
    let t = setting_takes k value set h keys tokens (first_new key_name (has keys) k ks new) (settings_end tokens ks more rest) in
    let r = settings_read tokens ks more rest t.more (rest_new key_name (has keys) (has t.more) k ks t.is_set.one new) in
    let first : taken_key keys (tok.Word (key_name k)) (equals ∷ (value ++ tokens)) ≡ Ok (record { keys = t.more; used = t.used }) =
    ap (λ (o : Option Key). given kind.Word o >>= λ j. with_key keys j (equals ∷ (value ++ tokens))) (key_back k) ∙ t.read in
    record {
      all = r.all;
      read = one_key keys (tok.Word (key_name k)) (equals ∷ (value ++ tokens)) (record { keys = t.more; used = t.used }) first
          ∙ keys_behind t.used t.more (equals ∷ (value ++ tokens)) ∙ ap (keys_from 0 t.more) t.behind ∙ r.read;
      sets = λ name image. r.sets name image ∙ ap more (t.is_set.sets name image);
    }

-- Read, and so spelled.

-- a key's value stands first, and the tokens behind it are left
pub record Stands (keys : Keys) (k : Key) (tokens : List Tok) (taken : TakenKey) : Type 0 where
  pub value : List Tok
  pub set : ProcDecl → ProcDecl
  pub is : Setting k value set
  pub split : tokens ≡ equals ∷ (value ++ drop taken.used tokens)
  pub is_set : IsSet k set keys taken.keys

absent_is : {A : Type 0} (o : Option A) (u : Unit {0}) → once o ≡ Ok u → is_some o ≡ false
absent_is None u h = refl
absent_is (Some x) u h = absurd (cc)

record UicStands (tokens : List Tok) (u : Uic) : Type 0 where
  split : tokens ≡ equals ∷ tok.Num u.group ∷ colon ∷ tok.Num u.member ∷ drop 4 tokens
  group : IsInRange 1 16382 u.group
  member : IsInRange 0 65534 u.member

uic_stands : (tokens : List Tok) (u : Uic) → uic_at tokens ≡ Ok u → UicStands tokens u
unfolding uic_at
uic_stands tokens u h =
    let a = bind_ok (sign_at 61 tokens) _ u h in
    let b = bind_ok (number_at 1 16382 (drop 1 tokens)) _ u a.2 in
    let c = bind_ok (sign_at 58 (drop 2 tokens)) _ u b.2 in
    let d = bind_ok (number_at 0 65534 (drop 3 tokens)) _ u c.2 in
    let e0 = sign_found 0 61 tokens a.0 a.1 in
    let e1 = number_found 1 1 16382 tokens b.0 b.1 in
    let e2 = sign_found 2 58 tokens c.0 c.1 in
    let e3 = number_found 3 0 65534 tokens d.0 d.1 in
    let f1 = e1.0 in
    let f3 = e3.0 in
    let shape : tokens ≡ equals ∷ tok.Num b.0 ∷ colon ∷ tok.Num d.0 ∷ drop 4 tokens = cc in
    let is : record { group = b.0; member = d.0 } ≡ u = cc (d.2) in
    subst (λ (v : Uic). UicStands tokens v) is (record { split = shape; group = e1.1; member = e3.1 })

number_stands : (high : ℕ) (tokens : List Tok) (u : Unit {0}) (n : ℕ) → sign_at 61 tokens ≡ Ok u → number_at 0 high (drop 1 tokens) ≡ Ok n
    → (tokens ≡ equals ∷ tok.Num n ∷ drop 2 tokens) × IsInRange 0 high n
number_stands high tokens u n h k =
    let e0 = sign_found 0 61 tokens u h in
    let e1 = number_found 1 0 high tokens n k in
    let f1 = e1.0 in
    ((let shape : tokens ≡ equals ∷ tok.Num n ∷ drop 2 tokens = cc in shape), e1.1)

limit_stands : (tokens : List Tok) (n : ℕ) → limit_at tokens ≡ Ok n → (tokens ≡ equals ∷ tok.Num n ∷ drop 2 tokens) × IsInRange 0 1000000 n
unfolding limit_at
limit_stands tokens n h = let a = bind_ok (sign_at 61 tokens) _ n h in number_stands 1000000 tokens a.0 n a.1 a.2

start_stands : (tokens : List Tok) (b : Bool) → start_at tokens ≡ Ok b → (n : ℕ) × (tokens ≡ equals ∷ tok.Num n ∷ drop 2 tokens) × IsInRange 0 1 n × ((n == 1) ≡ b)
unfolding start_at
start_stands tokens b h =
    let a = bind_ok (sign_at 61 tokens) _ b h in
    let n = bind_ok (number_at 0 1 (drop 1 tokens)) _ b a.2 in
    let s = number_stands 1 tokens a.0 n.0 a.1 n.1 in
    (n.0, s.0, s.1, (let e : (n.0 == 1) ≡ b = cc (n.2) in e))

mode_token : (t : Tok) (m : Mode) → mode_in t ≡ Some m → t ≡ tok.Word (mode_name m)
mode_token (tok.Word w) m h = ap tok.Word (found_name mode_name (Kernel ∷ Exec ∷ Super ∷ User ∷ []) w m h)
mode_token (tok.Num n) m h = absurd (cc)
mode_token (tok.Cond c) m h = absurd (cc)
mode_token (tok.Sign s) m h = absurd (cc)
mode_token (tok.Service n) m h = absurd (cc)
mode_token (tok.Quote b) m h = absurd (cc)

mode_stands : (tokens : List Tok) (m : Mode) → mode_at tokens ≡ Ok m → tokens ≡ equals ∷ tok.Word (mode_name m) ∷ drop 2 tokens
unfolding mode_at
mode_stands tokens m h =
    let a = bind_ok (sign_at 61 tokens) _ m h in
    let e0 = sign_found 0 61 tokens a.0 a.1 in
    let e1 = choice_found 1 kind.Word tokens mode_name mode_in m (λ t. mode_token t m) a.2 in
    cc

-- what stands for privileges
record PrivsStand (tokens : List Tok) (taken : TakenPrivs) : Type 0 where
  value : List Tok
  set : ProcDecl → ProcDecl
  is : Setting key.Priv value set
  split : tokens ≡ value ++ drop taken.used tokens
  sets : (d : ProcDecl) → record d { privs = taken.privs } ≡ set d

privs_stand : (tokens : List Tok) (taken : TakenPrivs) → privs_of tokens ≡ Ok taken → PrivsStand tokens taken
privs_stand [] taken h = absurd (cc)
privs_stand (t ∷ tokens) taken h =
    either_by {A = Result TakenPrivs FaultKind} (λ r. r ≡ Ok taken → PrivsStand (t ∷ tokens) taken) (is_word (codes "NONE") t) _ _
    (λ none k. subst (λ (u : TakenPrivs). PrivsStand (t ∷ tokens) u) (let e : record { privs = no_privs; used = 1 } ≡ taken = cc in e) (record {
      value = tok.Word (codes "NONE") ∷ [];
      set = λ d. record d { privs = no_privs };
      is = no_priv_is;
      split = ap (λ (u : Tok). u ∷ tokens) (word_token (codes "NONE") t none);
      sets = λ d. refl;
    }))
    (λ _ k. let n = names_stand no_privs (t ∷ tokens) taken k in record {
      value = n.names;
      set = λ d. record d { privs = fold granted no_privs n.ps };
      is = priv_is n.names n.ps n.are n.new.apart;
      split = n.split;
      sets = λ d. ap (λ (p : Privs). record d { privs = p }) (sym n.privs);
    }) h

privs_at_stand : (tokens : List Tok) (taken : TakenPrivs) → privs_at tokens ≡ Ok taken
    → (p : PrivsStand (drop 1 tokens) taken) × (tokens ≡ equals ∷ (p.value ++ drop (taken.used + 1) tokens))
unfolding privs_at
privs_at_stand tokens taken h =
    let a = bind_ok (sign_at 61 tokens) _ taken h in
    let e0 = sign_found 0 61 tokens a.0 a.1 in
    let p = privs_stand (drop 1 tokens) taken a.2 in
    let n : 1 + taken.used ≡ taken.used + 1 = omega arith in
    let d : drop taken.used (drop 1 tokens) ≡ drop (taken.used + 1) tokens = drop-drop taken.used 1 tokens ∙ ap (λ (k : ℕ). drop k tokens) n in
    (p, e0 ∙ ap (λ (ts : List Tok). equals ∷ ts) (p.split ∙ ap (λ (ts : List Tok). p.value ++ ts) d))

abbrev taken_as : Keys → ℕ → Result TakenKey FaultKind
taken_as keys used = Ok (record { keys = keys; used = used })

abbrev read_as : TakenKey → Result TakenKey FaultKind
read_as taken = Ok taken

stands_as : (keys : Keys) (k : Key) (tokens : List Tok) (more : Keys) (used : ℕ) (taken : TakenKey) → taken_as more used ≡ read_as taken → Stands keys k tokens (record { keys = more; used = used }) → Stands keys k tokens taken
stands_as keys k tokens more used taken e h = subst (λ (t : TakenKey). Stands keys k tokens t) (let f : record { keys = more; used = used } ≡ taken = cc in f) h

uic_key : (keys : Keys) (tokens : List Tok) (taken : TakenKey) → with_uic keys tokens ≡ Ok taken → Stands keys key.Uic tokens taken
uic_key keys tokens taken h =
    let o = bind_ok (once keys.uic) _ taken h in
    let u = bind_ok (uic_at tokens) _ taken o.2 in
    let s = uic_stands tokens u.0 u.1 in
    stands_as keys key.Uic tokens (record keys { uic = Some u.0 }) 4 taken u.2 (record {
      value = tok.Num u.0.group ∷ colon ∷ tok.Num u.0.member ∷ [];
      set = λ d. record d { group = u.0.group; member = u.0.member };
      is = uic_is u.0.group u.0.member s.group s.member;
      split = s.split;
      is_set = record { new = absent_is keys.uic o.0 o.1; sets = λ name image. refl; one = record { each = has_uic keys u.0 } };
    })

mode_key : (keys : Keys) (tokens : List Tok) (taken : TakenKey) → with_mode keys tokens ≡ Ok taken → Stands keys key.Mode tokens taken
mode_key keys tokens taken h =
    let o = bind_ok (once keys.mode) _ taken h in
    let m = bind_ok (mode_at tokens) _ taken o.2 in
    stands_as keys key.Mode tokens (record keys { mode = Some m.0 }) 2 taken m.2 (record {
      value = tok.Word (mode_name m.0) ∷ [];
      set = λ d. record d { mode = m.0 };
      is = mode_is m.0;
      split = mode_stands tokens m.0 m.1;
      is_set = record { new = absent_is keys.mode o.0 o.1; sets = λ name image. refl; one = record { each = has_mode keys m.0 } };
    })

limit_key : (keys : Keys) (l : Limit) (tokens : List Tok) (taken : TakenKey) → with_limit keys l tokens ≡ Ok taken → Stands keys (key.Limit l) tokens taken
limit_key keys l tokens taken h =
    let o = bind_ok (once (limit_in keys l)) _ taken h in
    let n = bind_ok (limit_at tokens) _ taken o.2 in
    let s = limit_stands tokens n.0 n.1 in
    stands_as keys (key.Limit l) tokens (with_limit_in keys l n.0) 2 taken n.2 (record {
      value = tok.Num n.0 ∷ [];
      set = λ d. record d { limits = limited d.limits l n.0 };
      is = limit_is l n.0 s.1;
      split = s.0;
      is_set = record { new = absent_is (limit_in keys l) o.0 o.1; sets = λ name image. limit_sets name image keys l n.0; one = record { each = has_limit keys l n.0 } };
    })

privs_key : (keys : Keys) (tokens : List Tok) (taken : TakenKey) → with_privs keys tokens ≡ Ok taken → Stands keys key.Priv tokens taken
privs_key keys tokens taken h =
    let o = bind_ok (once keys.privs) _ taken h in
    let p = bind_ok (privs_at tokens) _ taken o.2 in
    let s = privs_at_stand tokens p.0 p.1 in
    stands_as keys key.Priv tokens (record keys { privs = Some p.0.privs }) (p.0.used + 1) taken p.2 (record {
      value = s.0.value;
      set = s.0.set;
      is = s.0.is;
      split = s.1;
      is_set = record { new = absent_is keys.privs o.0 o.1; sets = λ name image. s.0.sets (decl_with name image keys); one = record { each = has_privs keys p.0.privs } };
    })

start_key : (keys : Keys) (tokens : List Tok) (taken : TakenKey) → with_start keys tokens ≡ Ok taken → Stands keys key.Start tokens taken
start_key keys tokens taken h =
    let o = bind_ok (once keys.start) _ taken h in
    let b = bind_ok (start_at tokens) _ taken o.2 in
    let s = start_stands tokens b.0 b.1 in
    stands_as keys key.Start tokens (record keys { start = Some b.0 }) 2 taken b.2 (record {
      value = tok.Num s.0 ∷ [];
      set = λ d. record d { start = s.0 == 1 };
      is = start_is s.0 s.2;
      split = s.1;
      is_set = record { new = absent_is keys.start o.0 o.1; sets = λ name image. ap (λ (x : Bool). record (decl_with name image keys) { start = x }) (sym s.3); one = record { each = has_start keys b.0 } };
    })

pub key_stands : (keys : Keys) (k : Key) (tokens : List Tok) (taken : TakenKey) → with_key keys k tokens ≡ Ok taken → Stands keys k tokens taken
unfolding with_key
key_stands keys key.Uic tokens taken h = uic_key keys tokens taken h
key_stands keys key.Mode tokens taken h = mode_key keys tokens taken h
key_stands keys (key.Limit l) tokens taken h = limit_key keys l tokens taken h
key_stands keys key.Priv tokens taken h = privs_key keys tokens taken h
key_stands keys key.Start tokens taken h = start_key keys tokens taken h

key_token : (t : Tok) (k : Key) → key_in t ≡ Some k → t ≡ tok.Word (key_name k)
key_token (tok.Word w) k h = ap tok.Word (found_name key_name all_keys w k h)
key_token (tok.Num n) k h = absurd (cc)
key_token (tok.Cond c) k h = absurd (cc)
key_token (tok.Sign s) k h = absurd (cc)
key_token (tok.Service n) k h = absurd (cc)
key_token (tok.Quote b) k h = absurd (cc)

-- tokens are keys, which give this if those stand already
pub record KeysStand (keys : Keys) (tokens : List Tok) (all : Keys) : Type 0 where
  pub ks : List Key
  pub set : ProcDecl → ProcDecl
  pub are : Settings tokens ks set
  pub new : AreNew key_name (has keys) ks
  pub sets : (name : List ℕ) (image : ℕ) → decl_with name image all ≡ set (decl_with name image keys)

nothing_stands : (keys all : Keys) → keys ≡ all → KeysStand keys [] all
nothing_stands keys all e = subst (λ (k : Keys). KeysStand keys [] k) e (record { ks = []; set = λ d. d; are = no_settings; new = record { none = refl; apart = refl }; sets = λ name image. refl })

and_stands : (keys : Keys) (t : Tok) (k : Key) (tokens : List Tok) (taken : TakenKey) (all : Keys) → t ≡ tok.Word (key_name k) → Stands keys k tokens taken
    → KeysStand taken.keys (drop taken.used tokens) all → KeysStand keys (t ∷ tokens) all
and_stands keys t k tokens taken all e s r =
    let shape : t ∷ tokens ≡ tok.Word (key_name k) ∷ equals ∷ (s.value ++ drop taken.used tokens) = ap (λ (u : Tok). u ∷ tokens) e ∙ ap (λ (us : List Tok). tok.Word (key_name k) ∷ us) s.split in
    record {
      ks = k ∷ r.ks;
      set = λ d. r.set (s.set d);
      are = subst (λ (us : List Tok). Settings us (k ∷ r.ks) (λ d. r.set (s.set d))) (sym shape) (and_setting k s.value (drop taken.used tokens) r.ks s.set r.set s.is r.are);
      new = and_new key_name (has keys) (has taken.keys) k r.ks s.is_set.one s.is_set.new r.new;
      sets = λ name image. r.sets name image ∙ ap r.set (s.is_set.sets name image);
    }

keys_by : (skip : ℕ) (keys : Keys) (tokens : List Tok) (all : Keys) → keys_from skip keys tokens ≡ Ok all → KeysStand keys (drop skip tokens) all
unfolding keys_from
keys_by zero keys [] all h = nothing_stands keys all (let e : keys ≡ all = cc in e)
keys_by (suc skip) keys [] all h = nothing_stands keys all (let e : keys ≡ all = cc in e)
keys_by (suc skip) keys (t ∷ tokens) all h = keys_by skip keys tokens all h
keys_by zero keys (t ∷ tokens) all h =
    let b = bind_ok (taken_key keys t tokens) _ all h in
    let k = bind_ok (given kind.Word (key_in t)) _ b.0 b.1 in
    and_stands keys t k.0 tokens b.0 all (key_token t k.0 (given_ok kind.Word (key_in t) k.0 k.1)) (key_stands keys k.0 tokens b.0 k.2) (keys_by b.0.used b.0.keys tokens all b.2)

-- what is read as keys is spelled so
pub keys_stand : (keys : Keys) (tokens : List Tok) (all : Keys) → keys_from 0 keys tokens ≡ Ok all → KeysStand keys tokens all
keys_stand keys tokens all h = keys_by 0 keys tokens all h
