-- What requests are charged, as they come and go.
use Rattle.std.proofs.Common.{◌≡◌, ◌≢◌, ℕ, ◌+◌, List, [], ◌∷◌, ◌++◌, Bool, true, false, cond, not, ◌&&◌, Option, Some, is_some, arith, refl, sym, ap, ◌∙◌}
use Rattle.std.specs.List.{find}
use Rattle.std.proofs.lemmas.Bool.{eq-eqb, eqb-true, false_from_ne_true}
use Rattle.vx_base.proofs.Lists.{total_push}
use Rattle.vx_base.specs.Flags.{one}
use Rattle.vx_base.specs.Lists.{amend, less, tally, total}
use Rattle.vx_record.specs.Types.{Need, Pid, Promised, Req, Request}
use Rattle.vx_base.specs.Quotas.{no_need}
use Rattle.vx_record.specs.Charges.{ast_need, bears_ast, buffered_bytes, buffered_need, direct_need, is_attention, is_buffered_of, is_direct, is_direct_of, is_same, moved_bytes, request_need}
use Rattle.vx_record.specs.State.{State}
use Rattle.vx_procs.proofs.Booked.{tally-append, tally-less}
use Rattle.vx_record.proofs.OwnIds.{tally_amend, total_amend}

-- Totals.

total-less : {A : Type 0} (f : A → ℕ) (test : A → Bool) (xs : List A) (x : A) → find test xs ≡ Some x → total f (less test xs) + f x ≡ total f xs
total-less f test [] x e = absurd (cc)
total-less f test (y ∷ ys) x e =
    elim (test y) as (λ b. cond b (Some y) (find test ys) ≡ Some x → total f (cond b ys (y ∷ less test ys)) + f x ≡ f y + total f ys) [
      | true ↦ λ found. let same : y ≡ x = cc in let e = ap f same in omega (arith, e)
      | false ↦ λ found. let rest = total-less f test ys x found in omega (arith, rest)
    ] e

-- What one request is charged to a process: what it needs if it is that process's, and else nothing.

abbrev bill : (same direct ast : Bool) → ℕ → Need
bill same direct ast bytes = record { ast = one (same && ast); bio = one (same && not direct); dio = one (same && direct); byt = cond (same && not direct) bytes 0; tqe = 0 }

abbrev pub its_charge : State → Pid → Request → Need
its_charge s p r = bill (is_same r.req.p p) (is_direct s r.req.device) (is_some r.ast) (moved_bytes r.req.func r.req.len)

own_bill : (direct ast : Bool) (bytes : ℕ) → bill true direct ast bytes ≡ cond direct (direct_need ast) (buffered_need ast bytes)
own_bill true true bytes = refl
own_bill true false bytes = refl
own_bill false true bytes = refl
own_bill false false bytes = refl

pub own_charge : (s : State) (p : Pid) (r : Request) → r.req.p ≡ p → is_attention r.req.func ≡ false → its_charge s p r ≡ request_need s r.req.device r.req.func (is_some r.ast) r.req.len
own_charge s p r own transfer =
    let same : is_same r.req.p p ≡ true = ap (λ (x : Pid). is_same x p) own ∙ eq-eqb p.0 p.0 refl in
    let need : Need = cond (is_direct s r.req.device) (direct_need (is_some r.ast)) (buffered_need (is_some r.ast) (moved_bytes r.req.func r.req.len)) in
    ap (λ b. bill b (is_direct s r.req.device) (is_some r.ast) (moved_bytes r.req.func r.req.len)) same
    ∙ (own_bill (is_direct s r.req.device) (is_some r.ast) (moved_bytes r.req.func r.req.len)
    ∙ ap (λ b. cond b (ast_need (is_some r.ast)) need) (sym transfer))

pub other_charge : (s : State) (q : Pid) (r : Request) → q.0 ≢ r.req.p.0 → its_charge s q r ≡ no_need
other_charge s q r other =
    let none : is_same r.req.p q ≡ false = false_from_ne_true (is_same r.req.p q) (λ same. other (sym (eqb-true r.req.p.0 q.0 same))) in
    ap (λ b. bill b (is_direct s r.req.device) (is_some r.ast) (moved_bytes r.req.func r.req.len)) none

-- The one list is charged so much more than the other.
pub record IsMore (s : State) (p : Pid) (n : Need) (fewer more : List Request) : Type 0 where
  pub ast : tally (bears_ast p) fewer + n.ast ≡ tally (bears_ast p) more
  pub bio : tally (is_buffered_of s p) fewer + n.bio ≡ tally (is_buffered_of s p) more
  pub dio : tally (is_direct_of s p) fewer + n.dio ≡ tally (is_direct_of s p) more
  pub byt : total (buffered_bytes s p) fewer + n.byt ≡ total (buffered_bytes s p) more

-- no request is charged
pub record HasNone (s : State) (p : Pid) (rs : List Request) : Type 0 where
  pub ast : tally (bears_ast p) rs ≡ 0
  pub bio : tally (is_buffered_of s p) rs ≡ 0
  pub dio : tally (is_direct_of s p) rs ≡ 0
  pub byt : total (buffered_bytes s p) rs ≡ 0

pub one_more : (s : State) (p : Pid) (rs : List Request) (r : Request) → IsMore s p (its_charge s p r) rs (rs ++ r ∷ [])
one_more s p rs r = record {
  ast = let e = tally-append (bears_ast p) rs (r ∷ []) in omega (arith, e);
  bio = let e = tally-append (is_buffered_of s p) rs (r ∷ []) in omega (arith, e);
  dio = let e = tally-append (is_direct_of s p) rs (r ∷ []) in omega (arith, e);
  byt = sym (total_push (buffered_bytes s p) rs r);
}

pub one_less : (s : State) (p : Pid) (test : Request → Bool) (rs : List Request) (r : Request) → find test rs ≡ Some r → IsMore s p (its_charge s p r) (less test rs) rs
one_less s p test rs r found = record {
  ast = tally-less (bears_ast p) test rs r found;
  bio = tally-less (is_buffered_of s p) test rs r found;
  dio = tally-less (is_direct_of s p) test rs r found;
  byt = total-less (buffered_bytes s p) test rs r found;
}

-- The two lists are charged alike.
pub record IsAlike (s : State) (p : Pid) (xs ys : List Request) : Type 0 where
  pub ast : tally (bears_ast p) xs ≡ tally (bears_ast p) ys
  pub bio : tally (is_buffered_of s p) xs ≡ tally (is_buffered_of s p) ys
  pub dio : tally (is_direct_of s p) xs ≡ tally (is_direct_of s p) ys
  pub byt : total (buffered_bytes s p) xs ≡ total (buffered_bytes s p) ys

pub alike_more : (s : State) (q : Pid) (rs : List Request) (r : Request) → q.0 ≢ r.req.p.0 → IsAlike s q (rs ++ r ∷ []) rs
alike_more s q rs r other =
    let more = one_more s q rs r in
    let none = other_charge s q r other in
    record {
      ast = omega (arith, more.ast, ap (λ (n : Need). n.ast) none);
      bio = omega (arith, more.bio, ap (λ (n : Need). n.bio) none);
      dio = omega (arith, more.dio, ap (λ (n : Need). n.dio) none);
      byt = omega (arith, more.byt, ap (λ (n : Need). n.byt) none);
    }

pub alike_less : (s : State) (q : Pid) (test : Request → Bool) (rs : List Request) (r : Request) → find test rs ≡ Some r → q.0 ≢ r.req.p.0 → IsAlike s q (less test rs) rs
alike_less s q test rs r found other =
    let more = one_less s q test rs r found in
    let none = other_charge s q r other in
    record {
      ast = omega (arith, more.ast, ap (λ (n : Need). n.ast) none);
      bio = omega (arith, more.bio, ap (λ (n : Need). n.bio) none);
      dio = omega (arith, more.dio, ap (λ (n : Need). n.dio) none);
      byt = omega (arith, more.byt, ap (λ (n : Need). n.byt) none);
    }

-- if one is changed in nothing that is charged
pub alike_amend : (s : State) (q : Pid) (test : Request → Bool) (g : Request → Request) → ((r : Request) → (g r).req ≡ r.req) → ((r : Request) → (g r).ast ≡ r.ast) → (rs : List Request) → IsAlike s q (amend test g rs) rs
alike_amend s q test g same_req same_ast rs = record {
  ast = tally_amend (bears_ast q) test g (λ r. ap (λ (x : Req). is_same x.p q && is_some (g r).ast) (same_req r) ∙ ap (λ (x : Option Promised). is_same r.req.p q && is_some x) (same_ast r)) rs;
  bio = tally_amend (is_buffered_of s q) test g (λ r. ap (λ (x : Req). is_same x.p q && not (is_direct s x.device)) (same_req r)) rs;
  dio = tally_amend (is_direct_of s q) test g (λ r. ap (λ (x : Req). is_same x.p q && is_direct s x.device) (same_req r)) rs;
  byt = total_amend (buffered_bytes s q) test g rs (λ r. ap (λ (x : Req). cond (is_same x.p q && not (is_direct s x.device)) (moved_bytes x.func x.len) 0) (same_req r));
}
