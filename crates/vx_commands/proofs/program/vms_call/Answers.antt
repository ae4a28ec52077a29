use Rattle.std.proofs.Common.{refl, sym, ◌∙◌}
use Rattle.vx_commands.proofs.Called.{never_unread, told_lawful, told_not_read, told_quiet, told_threads}
use Rattle.vx_tell.proofs.Told.{told_unread}
use Rattle.vx_commands.specs.Threads.{carried_is_lawful}
use Rattle.vx_commands.proofs.program.vms_call.Goals as goal

pub returns-in-Ok-clause-told : goal.returns-in-Ok-clause-told
returns-in-Ok-clause-told g c = told_threads c.args.words.now c.in-Some.crew _ _ _ _ _ _ _ _ _ c.in-Ok.input (record { asked = sym c.crew_of.ensures.crew ∙ c.in-Some.is; taken = c.in-Ok.ensures.all }) c.run_input.ensures.told

pub returns-in-Ok-clause-lawful : goal.returns-in-Ok-clause-lawful
returns-in-Ok-clause-lawful g c = λ e. carried_is_lawful (told_lawful c.args.words.now c.in-Some.crew _ _ _ _ _ _ c.in-Ok.input _ (record { asked = sym c.crew_of.ensures.crew ∙ c.in-Some.is; taken = c.in-Ok.ensures.all }) c.run_input.ensures.told e)

pub returns-in-Err-clause-told : goal.returns-in-Err-clause-told
returns-in-Err-clause-told g c =
    told_not_read c.args.words.now c.in-Some.crew _ _ _ _ _ _ _ _ _ (sym c.crew_of.ensures.crew ∙ c.in-Some.is)
    (told_unread _ _ _ _ _ _ _ _ _ c.in-Err.fail (λ is. c.in-Err.ensures.fault (rw is refl)) (λ is. c.in-Err.ensures.too_long (rw is refl)) c.tell_unread.ensures.told)

pub returns-in-Err-clause-lawful : goal.returns-in-Err-clause-lawful
returns-in-Err-clause-lawful g c = λ e.
    absurd (never_unread _ _ _ _ _ _ _ _ _ (told_unread _ _ _ _ _ _ _ _ _ c.in-Err.fail (λ is. c.in-Err.ensures.fault (rw is refl)) (λ is. c.in-Err.ensures.too_long (rw is refl)) c.tell_unread.ensures.told) e)

pub returns-in_default-clause-told : goal.returns-in_default-clause-told
returns-in_default-clause-told g c = told_quiet c.args.words.now _ _ _ _ _ _ _ _ _ (sym c.crew_of.ensures.crew ∙ c.in_default.is) c.quiet_call.ensures.told
