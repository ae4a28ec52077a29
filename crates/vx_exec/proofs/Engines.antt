-- Where the contents of units are, as an event is taken.
use Rattle.std.proofs.Common.{◌≡◌, ℕ, zero, suc, List, [], ◌∷◌, Option, Some, None, Result, Ok, Err, OnOk, OnErr, OnSome, IsSome, map, slice_index_or, slice_set, false, refl, ap, sym, subst, ◌∙◌}
use Rattle.std.proofs.lemmas.List.{map-set}
use Rattle.vx_record.specs.Types.{Event, UnitNo}
use Rattle.vx_base.specs.declared.record.Event.TheVariants as event
use Rattle.vx_units.specs.Leases.{Stand, Home, Out, Back, is_out}
use Rattle.vx_procs.specs.Kernel.{Kernel, ending_for, stand_for, stands, with_stand}
use Rattle.vx_procs.specs.Units.{Ending, stand_of, stood}
use Rattle.vx_procs.proofs.Inside.{stand_here}
use Rattle.vx_exec.specs.Engines.{IsHomeFor, leasing, stands_prepared}
use Rattle.vx_exec.specs.Leases.{AreIn, IsInFor, Leasing, leasing_after, stand_at, stands_after, with_stand as lent}
use Rattle.vx_exec.specs.Ready.{opened_for}
use Rattle.vx_exec.specs.declared.engine.Engine.{Engine}
use Rattle.vx_record.specs.Events.{is_don}

-- a unit was prepared: its contents are home
pub prepared_stands : (k l n : Kernel) (u : UnitNo) → l.ends ≡ k.ends → n.ends ≡ slice_set l.ends u.0 (ending_for n u) → stand_for n u ≡ Home → stands n ≡ slice_set (stands k) u.0 Home
prepared_stands k l n u begun after home =
    ap (map stand_of) after
    ∙ (map-set stand_of l.ends u.0 (ending_for n u)
    ∙ (ap (λ (s : Stand). slice_set (stands l) u.0 s) (sym (stand_here n.ends u.0) ∙ home)
    ∙ ap (λ (es : List (Option Ending)). slice_set (map stand_of es) u.0 Home) begun))

-- room was made for an event, and it was taken
pub stepped_stands : (k m n : Kernel) (e : Event) → stands m ≡ stands_prepared e (stands k) → n.ends ≡ (opened_for m e).ends → stands n ≡ stands_after e (stands k)
stepped_stands k m n (event.Run p) made after = ap (map stand_of) after ∙ made
stepped_stands k m n (event.Ast p) made after = ap (map stand_of) after ∙ made
stepped_stands k m n (event.Rdn p) made after = ap (map stand_of) after ∙ made
stepped_stands k m n event.Tick made after = ap (map stand_of) after ∙ made
stepped_stands k m n (event.Beg u) made after = ap (map stand_of) after ∙ made
stepped_stands k m n (event.Don u) made after = ap (map stand_of) after ∙ (map-set stand_of m.ends u.0 None ∙ ap (λ (ss : List Stand). slice_set ss u.0 Home) made)

-- the unit of a DON is still home once room was made
pub home_kept : (k m : Kernel) (e : Event) → stands m ≡ stands_prepared e (stands k) → IsHomeFor k e → IsHomeFor m e
home_kept k m (event.Run p) made h = tt
home_kept k m (event.Ast p) made h = tt
home_kept k m (event.Rdn p) made h = tt
home_kept k m event.Tick made h = tt
home_kept k m (event.Beg u) made h = tt
home_kept k m (event.Don u) made h = subst (λ (ss : List Stand). is_out (slice_index_or ss u.0 Home) ≡ false) (sym made) h

-- No unit is out.

-- so is none after an event
set_in : (ss : List Stand) (i : ℕ) → ((j : ℕ) → is_out (slice_index_or ss j Home) ≡ false) → (j : ℕ) → is_out (slice_index_or (slice_set ss i Home) j Home) ≡ false
set_in [] i h j = h j
set_in (s ∷ ss) zero h zero = refl
set_in (s ∷ ss) zero h (suc j) = h (suc j)
set_in (s ∷ ss) (suc i) h zero = h zero
set_in (s ∷ ss) (suc i) h (suc j) = set_in ss i (λ n. h (suc n)) j

still_in : (e : Event) (l : Leasing) → AreIn l → AreIn (leasing_after l e)
still_in (event.Run p) l h = h
still_in (event.Ast p) l h = h
still_in (event.Rdn p) l h = h
still_in event.Tick l h = h
still_in (event.Beg u) l h = λ v. set_in l.stands u.0 (λ j. h (record { 0 = j })) v.0
still_in (event.Don u) l h = λ v. set_in l.stands u.0 (λ j. h (record { 0 = j })) v.0

pub in_for : {R : Type 0} (e : Engine R) (ev : Event) → AreIn (leasing e) → IsHomeFor e.core ev
in_for e (event.Run p) h = tt
in_for e (event.Ast p) h = tt
in_for e (event.Rdn p) h = tt
in_for e event.Tick h = tt
in_for e (event.Beg u) h = tt
in_for e (event.Don u) h = h u

pub in_after : {R A E : Type 0} (e f : Engine R) (ev : Event) (r : Result A E) → OnOk r (leasing f ≡ leasing_after (leasing e) ev) → OnErr r ((is_don ev ≡ false) × (leasing f ≡ leasing e)) → AreIn (leasing e) → AreIn (leasing f)
in_after e f ev (Ok x) ok err h = subst AreIn (sym ok) (still_in ev (leasing e) h)
in_after e f ev (Err x) ok err h = subst AreIn (sym err.1) h

-- An executive that lends.

pub lends_for : (l : Leasing) (k : Kernel) (e : Event) → l.stands ≡ stands k → IsInFor l e → IsHomeFor k e
lends_for l k (event.Run p) same h = tt
lends_for l k (event.Ast p) same h = tt
lends_for l k (event.Rdn p) same h = tt
lends_for l k event.Tick same h = tt
lends_for l k (event.Beg u) same h = tt
lends_for l k (event.Don u) same h = subst (λ (ss : List Stand). is_out (slice_index_or ss u.0 Home) ≡ false) same h

-- What leaves, and comes back.

stand_stood : (stand : Stand) (o : Option Ending) → IsSome o → stand_of (stood stand o) ≡ stand
stand_stood stand None h = absurd (cc)
stand_stood stand (Some e) h = refl

out_there : (o : Option Ending) → stand_of o ≡ Out → IsSome o
out_there None h = absurd (cc)
out_there (Some e) h = refl

-- an executive that keeps this
abbrev pub lending : ℕ → ℕ → Kernel → Leasing
lending limit taken k = record { exec = record { state = k.state; limit = limit; taken = taken }; stands = stands k }

stood_lending : (limit taken : ℕ) (k n : Kernel) (l : Leasing) (u : UnitNo) (stand : Stand) → lending limit taken k ≡ l → IsSome (ending_for k u) → n ≡ with_stand k u stand → lending limit taken n ≡ lent l u stand
stood_lending limit taken k n l u stand view there after =
    ap (lending limit taken) after
    ∙ (ap (λ (ss : List Stand). let y : Leasing = record (lending limit taken k) { stands = ss } in y) (map-set stand_of k.ends u.0 (stood stand (ending_for k u)) ∙ ap (λ (s : Stand). slice_set (stands k) u.0 s) (stand_stood stand (ending_for k u) there))
    ∙ ap (λ (x : Leasing). lent x u stand) view)

-- a unit was taken out
pub taken_out : {A : Type 0} (o : Option A) (limit taken : ℕ) (k n : Kernel) (l : Leasing) (u : UnitNo) → lending limit taken k ≡ l → OnSome o (IsSome (ending_for k u) × (n ≡ with_stand k u Out)) → OnSome o (lending limit taken n ≡ lent l u Out)
taken_out None limit taken k n l u view after = tt
taken_out (Some x) limit taken k n l u view after = stood_lending limit taken k n l u Out view after.0 after.1

-- a unit came back that was out
pub given_back : (limit taken : ℕ) (k n : Kernel) (l : Leasing) (u : UnitNo) → lending limit taken k ≡ l → stand_at l u ≡ Out → n ≡ with_stand k u Back → lending limit taken n ≡ lent l u Back
given_back limit taken k n l u view out after =
    let here : stand_of (ending_for k u) ≡ Out = sym (stand_here k.ends u.0) ∙ (ap (λ (x : Leasing). stand_at x u) view ∙ out) in
    stood_lending limit taken k n l u Back view (out_there (ending_for k u) here) after
