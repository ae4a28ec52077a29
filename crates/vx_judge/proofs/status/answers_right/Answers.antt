use Rattle.std.proofs.Common.{◌≡◌, Bool, List, ◌∷◌, ◌++◌, map, Option, Some, None, refl, ap, sym, ◌∙◌}
use Rattle.vx_record.specs.Types.{Cond, Effect, Pid, Rec, Wait}
use Rattle.vx_base.specs.declared.record.Answer.TheVariants as answer
use Rattle.vx_base.specs.declared.record.Event.TheVariants as event
use Rattle.vx_laws.specs.Items.{Item, Head, Did, flat, later, effects_to_head, record_end}
use Rattle.vx_laws.specs.StatusLaw.{tells_earlier, waits_right}
use Rattle.vx_judge.proofs.status.answers_right.Goals as goal
use Rattle.vx_laws.proofs.Quotas.{effects_left_is}
use Rattle.vx_laws.proofs.Tells.{record_end_is}

-- what is told at the record's end
at_end : (past : List Item) (p : Pid) (told : Option Cond) (w v : Option Wait) (es effects : List Effect) (more : List Rec) (r : Bool) →
    r ≡ waits_right (later past (map Did es)) p told w → w ≡ v → es ≡ effects → r ≡ waits_right (record_end past (map Did effects ++ flat more)) p told v
at_end past p told w v es effects more r h k l = rw (record_end_is past effects more, ← l, ← k) h

pub returns-then-tells_earlier : goal.returns-then-tells_earlier
returns-then-tells_earlier c = λ past more values waits.
    let s = c.in-Run-Service in
    let effects = c.args.rec.now.effects in
    let earlier : c.tells_earlier.result ≡ tells_earlier past s.p s.call.args s.c (effects_to_head (map Did effects ++ flat more)) s.call.service =
    c.tells_earlier.ensures past values ∙ ap (λ es. tells_earlier past s.p s.call.args s.c es s.call.service) (c.as_slice-effects.ensures ∙ sym (effects_left_is effects more)) in
    let here = Head (event.Run s.p) (answer.Service s.call s.c) ∷ past in
    rw (s.is-0, s.is-1, ← earlier, c.if-tells_earlier.true)
    (at_end here s.p (Some s.c) c.wait_of.result _ c.as_slice-effects.result.now effects more c.waits_right.result (c.waits_right.ensures here values) c.wait_of.ensures c.as_slice-effects.ensures)

pub returns-else-tells_earlier : goal.returns-else-tells_earlier
returns-else-tells_earlier c = λ past more values waits.
    let s = c.in-Run-Service in
    let effects = c.args.rec.now.effects in
    let earlier : c.tells_earlier.result ≡ tells_earlier past s.p s.call.args s.c (effects_to_head (map Did effects ++ flat more)) s.call.service =
    c.tells_earlier.ensures past values ∙ ap (λ es. tells_earlier past s.p s.call.args s.c es s.call.service) (c.as_slice-effects.ensures ∙ sym (effects_left_is effects more)) in
    rw (s.is-0, s.is-1, ← earlier, c.if-tells_earlier.false) refl

pub returns-in-Run-Wait : goal.returns-in-Run-Wait
returns-in-Run-Wait c = λ past more values waits.
    let s = c.in-Run-Wait in
    let here = Head (event.Run s.p) (answer.Wait s.call) ∷ past in
    rw (s.is-0, s.is-1)
    (at_end here s.p None c.wait_of-in-Run-Wait.result _ c.as_slice-effects.result.now c.args.rec.now.effects more c.waits_right-in-Run-Wait.result (c.waits_right-in-Run-Wait.ensures here values) c.wait_of-in-Run-Wait.ensures c.as_slice-effects.ensures)
