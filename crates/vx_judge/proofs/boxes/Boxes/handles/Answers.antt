use Rattle.std.proofs.Common.{◌≡◌, true, ap, sym, ◌∙◌}
use Rattle.std.specs.List.{list_any}
use Rattle.vx_laws.specs.Boxes.{is_at, oldest_read, stored, this_stored}
use Rattle.vx_laws.specs.Lives.{life, is_request}
use Rattle.vx_laws.specs.MessageLaw.{hands_over, takes_oldest}
use Rattle.vx_judge.specs.BoxLists.{listed}
use Rattle.vx_judge.specs.Places.{past_in}
use Rattle.vx_judge.proofs.Passes.{latest_in}
use Rattle.vx_judge.proofs.boxes.Boxes.handles.Goals as goal
use Rattle.vx_laws.proofs.Quotas.{effects_left_is}
use Rattle.vx_base.specs.Lists.{is_some_and}

pub returns-in-MGet : goal.returns-in-MGet
returns-in-MGet c = λ past more k.
    let here = past_in past c.args.rec.now c.args.earlier.now in
    let there : c.at.result.now ≡ stored here c.in-MGet.name = c.at.ensures ∙ (ap (listed c.args.self.now.stored) c.of.ensures ∙ k.stored c.in-MGet.name) in
    rw (c.in-MGet.is, effects_left_is c.args.later.now more) (c.takes_oldest.ensures here k.lives k.requests ∙ ap (takes_oldest here c.in-MGet.w c.in-MGet.r c.args.later.now) there)

pub returns-then-is_stored : goal.returns-then-is_stored
returns-then-is_stored c = λ past more k.
    let here = past_in past c.args.rec.now c.args.earlier.now in
    let there : c.at-in-MCut.result.now ≡ stored here c.in-MCut.name = c.at-in-MCut.ensures ∙ (ap (listed c.args.self.now.stored) c.of-in-MCut.ensures ∙ k.stored c.in-MCut.name) in
    let any : list_any (this_stored c.in-MCut.w) (stored here c.in-MCut.name) ≡ true = sym (c.is_stored.ensures ∙ ap (list_any (this_stored c.in-MCut.w)) there) ∙ c.if-is_stored.true in
    rw (c.in-MCut.is, any, effects_left_is c.args.later.now more) c.is_cancelled_next.ensures

pub returns-else-not-is_request : goal.returns-else-not-is_request
returns-else-not-is_request c = λ past more k.
    let here = past_in past c.args.rec.now c.args.earlier.now in
    let request : is_request c.in-Open.kind ≡ true = cc in
    rw (c.in-Open.is, request, effects_left_is c.args.later.now more, latest_in past c.args.rec.now c.args.earlier.now) (c.reads_where_stored.ensures here k.stored k.channels)

pub returns-then-is_written_at : goal.returns-then-is_written_at
returns-then-is_written_at c = λ past more k.
    let here = past_in past c.args.rec.now c.args.earlier.now in
    let written : is_some_and (λ l. is_at c.in-MPut.name l.device) (life here c.in-MPut.id) ≡ true = sym (c.is_written_at.ensures (life here c.in-MPut.id) (c.of-in-MPut-2.ensures here k.requests)) ∙ c.if-is_written_at.true in
    let oldest : c.oldest-oldest.result ≡ oldest_read here c.in-MPut.name = c.oldest-oldest.ensures here k.lives k.requests k.readers ∙ ap (oldest_read here) c.of-in-MPut.ensures in
    rw (c.in-MPut.is, written, effects_left_is c.args.later.now more) (c.hands_over.ensures ∙ ap (λ o. hands_over c.in-MPut.name c.in-MPut.id o c.args.later.now) oldest)
