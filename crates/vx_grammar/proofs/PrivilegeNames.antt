-- Names of privileges, joined by +: what is read of them is what the grammar says, and the other way round.
use Rattle.std.proofs.Common.{◌≡◌, ℕ, ◌+◌, ◌||◌, true, false, List, [], ◌∷◌, ◌++◌, drop, fold, Some, Result, Ok, Err, bytes_eq, refl, sym, subst, ap, ◌∙◌, add-one}
use Rattle.vx_base.specs.declared.quota.Privs.{Privs}
use Rattle.vx_text.specs.declared.token.Tok.{Tok}
use Rattle.vx_text.specs.declared.token.Tok.TheVariants as tok
use Rattle.vx_script.specs.Results.{given}
use Rattle.vx_script.specs.Fields.{is_sign, begins_with_sign}
use Rattle.vx_script.specs.Keys.{privilege_name, privileges, privilege_word, privilege_in, holds, granted, with_privilege, with_token, no_more, one_more, privs_from}
use Rattle.vx_script.specs.declared.fault.FaultKind.{FaultKind}
use Rattle.vx_script.specs.declared.fault.FaultKind.TheVariants as kind
use Rattle.vx_script.specs.declared.privileges.Privilege.{Privilege}
use Rattle.vx_script.specs.declared.privileges.Privilege.TheVariants as privilege
use Rattle.vx_script.specs.declared.privileges.TakenPrivs.{TakenPrivs}
use Rattle.vx_grammar.specs.Grammar.{Privileges, one_name, and_name, plus}
use Rattle.vx_grammar.proofs.Fields.{bind_ok, given_ok, found_name, sign_token}
use Rattle.vx_grammar.proofs.Once.{OneMore, AreNew, and_new, first_new, rest_new}
use Rattle.vx_base.proofs.Bools.{either_by}

holds_granted : (held : Privs) (p q : Privilege) → holds (granted held p) q ≡ (bytes_eq (privilege_name p) (privilege_name q) || holds held q)
holds_granted held privilege.CmExec privilege.CmExec = refl
holds_granted held privilege.CmExec _ = refl
holds_granted held privilege.CmKrnl privilege.CmKrnl = refl
holds_granted held privilege.CmKrnl _ = refl
holds_granted held privilege.Group privilege.Group = refl
holds_granted held privilege.Group _ = refl
holds_granted held privilege.PrmCeb privilege.PrmCeb = refl
holds_granted held privilege.PrmCeb _ = refl
holds_granted held privilege.PrmMbx privilege.PrmMbx = refl
holds_granted held privilege.PrmMbx _ = refl
holds_granted held privilege.World privilege.World = refl
holds_granted held privilege.World _ = refl

one_granted : (held : Privs) (p : Privilege) → OneMore privilege_name (holds held) (holds (granted held p)) p
one_granted held p = record { each = holds_granted held p }

abbrev New : Privs → List Privilege → Type 0
New held ps = AreNew privilege_name (holds held) ps

-- Spelled, and so read.

privilege_back : (p : Privilege) → privilege_word (privilege_name p) ≡ Some p
privilege_back privilege.CmExec = refl
privilege_back privilege.CmKrnl = refl
privilege_back privilege.Group = refl
privilege_back privilege.PrmCeb = refl
privilege_back privilege.PrmMbx = refl
privilege_back privilege.World = refl

token_read : (held : Privs) (p : Privilege) → holds held p ≡ false → with_token held (tok.Word (privilege_name p)) ≡ Ok (granted held p)
token_read held p h = rw (privilege_back p, h) refl

none_more : (held : Privs) (rest : List Tok) → begins_with_sign 43 rest ≡ false → privs_from true held rest ≡ Ok (no_more held)
none_more held [] h = refl
none_more held (s ∷ rest) h = rw h refl

-- the names are taken, and the tokens behind them are left
pub record NamesRead (held : Privs) (names rest : List Tok) (ps : List Privilege) : Type 0 where
  pub used : ℕ
  pub read : privs_from false held (names ++ rest) ≡ Ok (record { privs = fold granted held ps; used = used })
  pub behind : drop used (names ++ rest) ≡ rest

dropped_two : (used : ℕ) (a b : Tok) (ts rest : List Tok) → drop used ts ≡ rest → drop (used + 1 + 1) (a ∷ b ∷ ts) ≡ rest
dropped_two used a b ts rest h = rw (add-one, add-one) h

pub names_read : (names : List Tok) (ps : List Privilege) → Privileges names ps → (held : Privs) (rest : List Tok) → New held ps → begins_with_sign 43 rest ≡ false
    → NamesRead held names rest ps
names_read _ _ (one_name p) held rest new h = record {
  used = 1;
  read = rw (token_read held p (first_new privilege_name (holds held) p [] new), none_more (granted held p) rest h) refl;
  behind = refl;
}
names_read _ _ (and_name p names ps more) held rest new h =
    let inner = names_read names ps more (granted held p) rest (rest_new privilege_name (holds held) (holds (granted held p)) p ps (one_granted held p) new) h in
    record {
      used = inner.used + 1 + 1;
      read = rw (token_read held p (first_new privilege_name (holds held) p ps new), inner.read) refl;
      behind = dropped_two inner.used (tok.Word (privilege_name p)) plus (names ++ rest) rest inner.behind;
    }

-- Read, and so spelled.

privilege_token : (t : Tok) (p : Privilege) → privilege_in t ≡ Some p → t ≡ tok.Word (privilege_name p)
privilege_token (tok.Word w) p h = ap tok.Word (found_name privilege_name privileges w p h)
privilege_token (tok.Num n) p h = absurd (cc)
privilege_token (tok.Cond c) p h = absurd (cc)
privilege_token (tok.Sign s) p h = absurd (cc)
privilege_token (tok.Service m) p h = absurd (cc)
privilege_token (tok.Quote b) p h = absurd (cc)

with_ok : (held : Privs) (p : Privilege) (more : Privs) → with_privilege held p ≡ Ok more → (holds held p ≡ false) × (granted held p ≡ more)
with_ok held p more =
    either_by {A = Result Privs FaultKind} (λ r. r ≡ Ok more → (holds held p ≡ false) × (granted held p ≡ more)) (holds held p) (Err kind.Twice) (Ok (granted held p))
    (λ _ h. absurd (cc)) (λ e h. (e, (let k : granted held p ≡ more = cc in k)))

-- a token names a privilege that is not held
record OneRead (held : Privs) (t : Tok) (more : Privs) : Type 0 where
  p : Privilege
  token : t ≡ tok.Word (privilege_name p)
  new : holds held p ≡ false
  more_is : granted held p ≡ more

one_read : (held : Privs) (t : Tok) (more : Privs) → with_token held t ≡ Ok more → OneRead held t more
one_read held t more h =
    let b = bind_ok (given kind.Word (privilege_in t)) (with_privilege held) more h in
    let w = with_ok held b.0 more b.2 in
    record { p = b.0; token = privilege_token t b.0 (given_ok kind.Word (privilege_in t) b.0 b.1); new = w.0; more_is = w.1 }

-- names stand first, and the tokens behind them are left
pub record NamesStand (held : Privs) (tokens : List Tok) (taken : TakenPrivs) : Type 0 where
  pub names : List Tok
  pub ps : List Privilege
  pub are : Privileges names ps
  pub new : New held ps
  pub privs : fold granted held ps ≡ taken.privs
  pub split : tokens ≡ names ++ drop taken.used tokens

last_stands : (held : Privs) (t : Tok) (tokens : List Tok) (more : Privs) (taken : TakenPrivs) → OneRead held t more → one_more (no_more more) ≡ taken → NamesStand held (t ∷ tokens) taken
last_stands held t tokens more taken o e =
    subst (λ (u : TakenPrivs). NamesStand held (t ∷ tokens) u) e (record {
      names = tok.Word (privilege_name o.p) ∷ [];
      ps = o.p ∷ [];
      are = one_name o.p;
      new = and_new privilege_name (holds held) (holds (granted held o.p)) o.p [] (one_granted held o.p) o.new (record { none = refl; apart = refl });
      privs = o.more_is;
      split = ap (λ (u : Tok). u ∷ tokens) o.token;
    })

next_stands : (held : Privs) (t s : Tok) (tokens : List Tok) (more : Privs) (inner taken : TakenPrivs) → OneRead held t more → s ≡ plus → NamesStand more tokens inner
    → one_more (one_more inner) ≡ taken → NamesStand held (t ∷ s ∷ tokens) taken
next_stands held t s tokens more inner taken o sign n e =
    let p = o.p in
    let m : NamesStand (granted held p) tokens inner = subst (λ (x : Privs). NamesStand x tokens inner) (sym o.more_is) n in
    let left : drop (inner.used + 1 + 1) (t ∷ s ∷ tokens) ≡ drop inner.used tokens = dropped_two inner.used t s tokens _ refl in
    subst (λ (u : TakenPrivs). NamesStand held (t ∷ s ∷ tokens) u) e (record {
      names = tok.Word (privilege_name p) ∷ plus ∷ m.names;
      ps = p ∷ m.ps;
      are = and_name p m.names m.ps m.are;
      new = and_new privilege_name (holds held) (holds (granted held p)) p m.ps (one_granted held p) o.new m.new;
      privs = m.privs;
      split = ap (λ (u : Tok). u ∷ s ∷ tokens) o.token ∙ ap (λ (u : Tok). tok.Word (privilege_name p) ∷ u ∷ tokens) sign
          ∙ ap (λ (us : List Tok). tok.Word (privilege_name p) ∷ plus ∷ us) (m.split ∙ ap (λ (us : List Tok). m.names ++ us) (sym left));
    })

pub names_stand : (held : Privs) (tokens : List Tok) (taken : TakenPrivs) → privs_from false held tokens ≡ Ok taken → NamesStand held tokens taken
names_stand held [] taken h = absurd (cc)
names_stand held (t ∷ []) taken h =
    let b = bind_ok (with_token held t) _ taken h in
    last_stands held t [] b.0 taken (one_read held t b.0 b.1) (let e : one_more (no_more b.0) ≡ taken = cc (b.2) in e)
names_stand held (t ∷ s ∷ tokens) taken h =
    let b = bind_ok (with_token held t) _ taken h in
    let o = one_read held t b.0 b.1 in
    let c = bind_ok (privs_from true b.0 (s ∷ tokens)) _ taken b.2 in
    either_by {A = Result TakenPrivs FaultKind} (λ r. r ≡ Ok c.0 → NamesStand held (t ∷ s ∷ tokens) taken) (is_sign 43 s) _ _
    (λ sign k.
    let i = bind_ok (privs_from false b.0 tokens) _ c.0 k in
    let e : one_more i.0 ≡ c.0 = cc (i.2) in
    let f : one_more c.0 ≡ taken = cc (c.2) in
    next_stands held t s tokens b.0 i.0 taken o (sign_token 43 s sign) (names_stand b.0 tokens i.0 i.1) (ap one_more e ∙ f))
    (λ _ k.
    let e : no_more b.0 ≡ c.0 = cc in
    let f : one_more c.0 ≡ taken = cc (c.2) in
    last_stands held t (s ∷ tokens) b.0 taken o (ap one_more e ∙ f)) c.1
