use Rattle.std.proofs.Common.{◌≡◌, ℕ, ◌-◌, List, Option, None, drop, length, replicate, slice_index_or, slice_set, take, ap, refl, subst, sym, ◌∙◌, arith, ◌+◌}
use Rattle.std.proofs.lemmas.List.{drop_at, length-append, length-replicate, length-set}
use Rattle.vx_record.specs.Types.{Mailbox}
use Rattle.vx_same.specs.Trimmed.{filled_to}
use Rattle.vx_same.proofs.Trimmed.{behind_set, filled_at}
use Rattle.vx_mailbox.proofs.Table.{all_as, same_more}
use Rattle.vx_mailbox.proofs.boxes.Boxes.restore.Goals as goal

pub loop-place-preserved : goal.loop-place-preserved
loop-place-preserved c =
    let i = c.loop-place.place in
    let bs : List (Option Mailbox) = c.args.boxes.now in
    let old : List (Option Mailbox) = c.loop-place.self.boxes in
    let all : List (Option Mailbox) = filled_to 64 None bs in
    let set = c.in_ok-restore_at.ensures.mailbox in
    let reach = c.reach-reach.result in
    let within = c.loop-place-test.true in
    let most = c.reach-reach.ensures.most in
    let long : length old ≡ 64 = sym (length-set old i (slice_index_or bs i None)) ∙ (sym (ap length set) ∙ c.in_ok-restore_at.ensures.count) in
    let total : length all ≡ length bs + (64 - length bs) = length-append bs (replicate (64 - length bs) None) ∙ ap (λ (n : ℕ). length bs + n) (length-replicate (64 - length bs) None) in
    let at : slice_index_or all i None ≡ slice_index_or bs i None = filled_at bs (64 - length bs) i None in
    record {
      same = ap (take (i + 1)) (set ∙ ap (slice_set old i) (sym at)) ∙ same_more old all i (omega (arith, long, within, most)) (omega (arith, total, c.requires, within, most)) c.loop-place.invariant.same;
      behind = ap (drop reach) set ∙ behind_set 64 None (slice_index_or bs i None) old reach i reach (omega arith) within c.loop-place.invariant.behind;
      room = c.in_ok-restore_at.ensures.room;
      count = λ _. c.in_ok-restore_at.ensures.count;
    }

pub cut-requires-clause-behind : goal.cut-requires-clause-behind
cut-requires-clause-behind c =
    let bs : List (Option Mailbox) = c.args.boxes.now in
    let after : List (Option Mailbox) = c.loop-place.self.boxes in
    let at_end : c.loop-place.place ≡ c.reach-reach.result = omega arith in
    let all : after ≡ filled_to 64 None bs = all_as bs after c.reach-reach.result c.reach-reach.ensures.least (subst (λ (n : ℕ). take n after ≡ take n (filled_to 64 None bs)) at_end c.loop-place.invariant.same) c.loop-place.invariant.behind in
    ap (drop (length bs)) all ∙ drop_at bs (replicate (64 - length bs) None) (length bs) refl

pub returns : goal.returns
returns c =
    let bs : List (Option Mailbox) = c.args.boxes.now in
    let after : List (Option Mailbox) = c.loop-place.self.boxes in
    let at_end : c.loop-place.place ≡ c.reach-reach.result = omega arith in
    rw c.cut.ensures (all_as bs after c.reach-reach.result c.reach-reach.ensures.least (subst (λ (n : ℕ). take n after ≡ take n (filled_to 64 None bs)) at_end c.loop-place.invariant.same) c.loop-place.invariant.behind)
