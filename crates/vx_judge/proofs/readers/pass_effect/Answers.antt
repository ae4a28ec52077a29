use Rattle.std.proofs.Common.{◌≡◌, ◌∷◌, Some, None, refl, ap, sym, ◌∙◌}
use Rattle.vx_laws.specs.Items.{Did, called_in}
use Rattle.vx_laws.specs.Lives.{new_life, device_called}
use Rattle.vx_judge.specs.Places.{past_in}
use Rattle.vx_judge.specs.Readers.{box_of}
use Rattle.vx_judge.specs.Requests.{asked_at, asked_by}
use Rattle.vx_judge.proofs.Passes.{latest_in}
use Rattle.vx_judge.proofs.ReadsListed.{reads_on, reads_left, reads_opened, reads_unlisted}
use Rattle.vx_judge.proofs.readers.pass_effect.Goals as goal

pub returns-in_ok-push-in-Some : goal.returns-in_ok-push-in-Some
returns-in_ok-push-in-Some c = λ past names is are has.
    let here = past_in past c.args.rec.now c.args.earlier.now in
    let asked : c.asked_in.result ≡ asked_by (new_life here c.in-Open.kind c.in-Open.p c.in-Open.mode c.in-Open.n) = c.asked_in.ensures here names ∙ ap (λ h. asked_at (device_called here (called_in h)) (called_in h)) (sym (latest_in past c.args.rec.now c.args.earlier.now)) in
    let boxed : box_of c.in-Open.kind (asked_by (new_life here c.in-Open.kind c.in-Open.p c.in-Open.mode c.in-Open.n)) ≡ Some c.in-Some.name = ap (box_of c.in-Open.kind) (sym asked) ∙ (sym c.box_of.ensures ∙ c.in-Some.is) in
    rw c.in-Open.is (reads_opened here c.in-Open.id c.in-Open.kind c.in-Open.p c.in-Open.mode c.in-Open.n c.args.readers.now c.push.new.self c.in-Some.name boxed c.in_ok-push-in-Some.ensures has)

pub returns-in-None : goal.returns-in-None
returns-in-None c = λ past names is are has.
    let here = past_in past c.args.rec.now c.args.earlier.now in
    let asked : c.asked_in.result ≡ asked_by (new_life here c.in-Open.kind c.in-Open.p c.in-Open.mode c.in-Open.n) = c.asked_in.ensures here names ∙ ap (λ h. asked_at (device_called here (called_in h)) (called_in h)) (sym (latest_in past c.args.rec.now c.args.earlier.now)) in
    let boxed : box_of c.in-Open.kind (asked_by (new_life here c.in-Open.kind c.in-Open.p c.in-Open.mode c.in-Open.n)) ≡ None = ap (box_of c.in-Open.kind) (sym asked) ∙ (sym c.box_of.ensures ∙ c.in-None.is) in
    rw c.in-Open.is (reads_unlisted here c.in-Open.id c.in-Open.kind c.in-Open.p c.in-Open.mode c.in-Open.n c.args.readers.now boxed has)

pub returns-in_ok-forget_ended-in-MPut : goal.returns-in_ok-forget_ended-in-MPut
returns-in_ok-forget_ended-in-MPut c = λ past names is are has.
    let here = past_in past c.args.rec.now c.args.earlier.now in
    let item = Did c.args.effect.now in
    reads_left c.args.readers.now c.forget_ended.new.readers c.args.lives.now c.args.requests.now c.in-MPut.name (item ∷ here) is are (rw c.of.ensures at c.in_ok-forget_ended-in-MPut.ensures) (reads_on c.args.readers.now here item (rw c.in-MPut.is refl) has)
