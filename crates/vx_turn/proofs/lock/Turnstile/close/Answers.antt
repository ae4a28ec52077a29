use Rattle.std.proofs.Common.{rules, ◌≡◌, ◌+◌, ap, sym, subst, Option, inl, inr, ⊎_elim, arith}
use mathlib.Core.Option.{some}
use lib.ListN.{get_elem?}
use Rattle.atomic_table.specs.declared.shared.Seat.{Seat}
use Rattle.vx_turn.specs.declared.view.View.{View}
use Rattle.vx_turn.specs.Rule.{owned, glued}
use Rattle.vx_turn.specs.Seats.{IsFree, IsTaken, left_by, parts_of}
use Rattle.std.specs.Prelude.{All}
use Rattle.vx_turn.proofs.Ones.{all_free, ones}
use Rattle.vx_turn.proofs.Taken.{at_popped, taken_glued, taken_new, taken_along}
use Rattle.vx_turn.proofs.Lists.{popped, total_popped, owned_glued}
use Rattle.vx_turn.proofs.lock.Turnstile.close.Goals as goal

pub seats-init : goal.seats-init
seats-init g c =
    let free : All (IsFree c.args.self.table) c.args.seats.items = all_free c.args.self.table c.args.seats.items c.requires.free in
    let p = popped (IsFree c.args.self.table) _ _ _ _ c.pop-last.ensures.items c.in-Some.is free in record {
      free = p.0;
      mine = p.1;
      taken = λ i s at. ⊎_elim (λ (x : get_elem? c.pop-last.new.self.items i ≡ some s). inl x) (λ (x : c.in-Some.all ≡ s). inr (inl (ap (λ (y : Seat (Option g.row.T.Denot) (View g.row.E.Denot)). y.me.0.own) (sym x)))) (at_popped c.args.seats.items c.pop-last.new.self.items c.pop-last.result c.in-Some.all c.pop-last.ensures.items c.in-Some.is i s at);
      parts = sym (total_popped _ _ _ _ _ c.pop-last.ensures.items c.in-Some.is);
      left = λ k. sym (total_popped _ _ _ _ _ c.pop-last.ensures.items c.in-Some.is);
    }

pub glue-requires-clause-other : goal.glue-requires-clause-other
glue-requires-clause-other g c = (popped (IsFree c.args.self.table) _ _ _ _ c.pop.ensures.items c.in-Some-pop.is c.seats.invariant.free).1

pub seats-preserved : goal.seats-preserved
seats-preserved g c =
    let p = popped (IsFree c.args.self.table) _ _ _ _ c.pop.ensures.items c.in-Some-pop.is c.seats.invariant.free in
    let inv = c.seats.invariant in
    let view = c.glue.ensures.view in record {
      free = p.0;
      mine = c.glue.ensures.free;
      taken = λ i s at. ⊎_elim
          (λ (x : get_elem? c.seats.seats.items i ≡ some s). ⊎_elim
          (λ (y : get_elem? c.pop.new.self.items i ≡ some s). inl y)
          (λ (y : c.in-Some-pop.seat ≡ s). inr (
          let new = taken_new c.seats.all.me.0 c.in-Some-pop.seat.me.0 in
          let here = taken_along c.in-Some-pop.seat.me.0.own (glued c.seats.all.me.0 c.in-Some-pop.seat.me.0) c.glue.new.seat.me.0 (sym view) new in
          subst (λ (z : Seat (Option g.row.T.Denot) (View g.row.E.Denot)). IsTaken z.me.0.own c.glue.new.seat.me.0) y here
          ))
          (at_popped c.seats.seats.items c.pop.new.self.items c.pop.result c.in-Some-pop.seat c.pop.ensures.items c.in-Some-pop.is i s x))
          (λ (x : IsTaken s.me.0.own c.seats.all.me.0). inr (taken_along s.me.0.own (glued c.seats.all.me.0 c.in-Some-pop.seat.me.0) c.glue.new.seat.me.0 (sym view) (taken_glued s.me.0.own c.seats.all.me.0 c.in-Some-pop.seat.me.0 x)))
          (inv.taken i s at);
      parts = (
          let t : parts_of c.seats.seats.items ≡ parts_of c.pop.new.self.items + c.in-Some-pop.seat.me.0.parts = total_popped _ _ _ _ _ c.pop.ensures.items c.in-Some-pop.is in
          let v : c.glue.new.seat.me.0.parts ≡ c.seats.all.me.0.parts + c.in-Some-pop.seat.me.0.parts = ap (λ (u : View g.row.E.Denot). u.parts) view in
          let i = inv.parts in
          omega arith
          );
      left = λ k. (
          let t : left_by k c.seats.seats.items ≡ left_by k c.pop.new.self.items + owned k c.in-Some-pop.seat.me.0 = total_popped _ _ _ _ _ c.pop.ensures.items c.in-Some-pop.is in
          let v : owned k c.glue.new.seat.me.0 ≡ owned k (glued c.seats.all.me.0 c.in-Some-pop.seat.me.0) = ap (owned k) view in
          let o = owned_glued k c.seats.all.me.0 c.in-Some-pop.seat.me.0 in
          let i = inv.left k in
          omega arith
          );
    }

pub end-requires-clause-all : goal.end-requires-clause-all
end-requires-clause-all g c =
    let one = ones c.args.self.table c.args.seats.items c.requires.free in
    let all = c.requires.all in
    let sum : parts_of c.args.seats.items ≡ c.args.self.seats = omega (arith, one, all) in
    search (rules, sum)
