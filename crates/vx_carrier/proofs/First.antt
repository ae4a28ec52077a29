-- A desk before its first event.
use Rattle.std.proofs.Common.{◌≡◌, ℕ, zero, suc, ◌≤◌, List, [], ◌∷◌, true, false, is_some, length, slice_index_or, sym, ap, ◌∙◌, subst, arith}
use Rattle.vx_base.specs.Lists.{tally}
use Rattle.vx_base.specs.Queues.{in_service}
use Rattle.vx_record.specs.Types.{UnitNo}
use Rattle.vx_record.specs.Runs.{first}
use Rattle.vx_record.specs.State.{State}
use Rattle.vx_units.specs.Leases.{Stand, Home, is_out}
use Rattle.vx_exec.specs.Leases.{AreIn, Leasing}
use Rattle.vx_exec.specs.View.{Executive, Plan, plan}
use Rattle.vx_carrier.specs.Desk.{IsKept}

none_out : (ks : List Stand) → ((i : ℕ) → is_out (slice_index_or ks i Home) ≡ false) → tally is_out ks ≤ 0
none_out [] home = omega arith
none_out (k ∷ ks) home = let first : is_out k ≡ false = home zero in let rest = none_out ks (λ i. home (suc i)) in rw first (omega (arith, rest))

pub first_kept : (kept : Plan) (e : Executive) (l : Leasing) → plan e ≡ kept → e.state ≡ first e.state.system → e.taken ≡ 0 → l.exec ≡ e → AreIn l → length l.stands ≡ length e.state.units → e.limit ≤ 100000 → IsKept kept (record { leasing = l; recs = [] }) 0
first_kept kept e l named new none same home units few =
    let state : l.exec.state ≡ first kept.system = ap (λ (x : Executive). x.state) same ∙ new ∙ ap (λ (x : Plan). first x.system) named in
    let limit : e.limit ≡ kept.limit = ap (λ (x : Plan). x.limit) named in
    record {
      run = record {
        run = record { few = omega arith; steps = tt };
        now = state;
        counted = ap (λ (x : Executive). x.taken) same ∙ none;
        limited = ap (λ (x : Executive). x.limit) same ∙ limit;
      };
      few = subst (λ (n : ℕ). n ≤ 100000) limit few;
      units = units ∙ sym (ap (λ (x : Executive). length x.state.units) same);
      out = λ going u serves. absurd (let never : false ≡ true = sym (ap (λ (s : State). is_some (in_service u s.requests)) state) ∙ serves in cc);
      room = (let out = none_out l.stands (λ i. let u : UnitNo = record { 0 = i } in home u) in omega (arith, out));
    }
