use Rattle.std.proofs.Common.{Some, ap, sym, refl, ◌∙◌}
use Rattle.std.proofs.KnownBytes.{Keeps-refl}
use Rattle.vx_commands.specs.Top.{IsAnswer, of_words}
use Rattle.vx_tell.proofs.Told.{told_only, told_unread}
use Rattle.vx_tell.specs.Lines.{usage, no_memory}
use Rattle.vx_tell.specs.declared.status.Status.TheVariants as status
use Rattle.vx_words.specs.Words.{command_of}
use Rattle.vx_commands.proofs.Answering.{asks, ran_out, told_input, told_not_read}
use Rattle.vx_commands.proofs.call.answer_input.Goals as goal

pub returns-in_default-clause-told : goal.returns-in_default-clause-told
returns-in_default-clause-told g c = told_only (IsAnswer c.args.words.now _ _ _ _) status.NoMemory no_memory _ _ _ _ _ (ran_out c.args.words.now _ _ _ _ (command_of c.args.words.now) refl c.in_default.ensures.no_memory) c.tell_no_memory.ensures.told

pub returns-in_default-asked-clause-told : goal.returns-in_default-asked-clause-told
returns-in_default-asked-clause-told g c =
    told_only (IsAnswer c.args.words.now _ _ _ _) status.Words usage _ _ _ _ _ (of_words (record { form = sym c.in-Ok.ensures.command ∙ c.in_default-asked.is; size = c.requires; kept = Keeps-refl _ })) c.tell.ensures.told

pub returns-in-Sim-clause-told : goal.returns-in-Sim-clause-told
returns-in-Sim-clause-told g c =
    let asked = asks c.args.words.now _ _ c.in-Ok.ensures.command c.in-Some.is ∙ ap (λ z. Some z) c.in-Sim.is in
    told_input c.args.words.now _ _ _ _ _ _ _ _ _ _ c.in-Ok-read_all.input (record { asked = asked; taken = c.in-Ok-read_all.ensures.all }) c.simulate.ensures.told

pub returns-in-Follow-clause-told : goal.returns-in-Follow-clause-told
returns-in-Follow-clause-told g c =
    let asked = asks c.args.words.now _ _ c.in-Ok.ensures.command c.in-Some.is ∙ ap (λ z. Some z) c.in-Follow.is in
    told_input c.args.words.now _ _ _ _ _ _ _ _ _ _ c.in-Ok-read_all.input (record { asked = asked; taken = c.in-Ok-read_all.ensures.all }) c.follow.ensures.told

pub returns-in-Explore-clause-told : goal.returns-in-Explore-clause-told
returns-in-Explore-clause-told g c =
    let asked = asks c.args.words.now _ _ c.in-Ok.ensures.command c.in-Some.is ∙ ap (λ z. Some z) c.in-Explore.is in
    told_input c.args.words.now _ _ _ _ _ _ _ _ _ _ c.in-Ok-read_all.input (record { asked = asked; taken = c.in-Ok-read_all.ensures.all }) c.explore.ensures.told

pub returns-in-Show-clause-told : goal.returns-in-Show-clause-told
returns-in-Show-clause-told g c =
    let asked = asks c.args.words.now _ _ c.in-Ok.ensures.command c.in-Some.is ∙ ap (λ z. Some z) c.in-Show.is in
    told_input c.args.words.now _ _ _ _ _ _ _ _ _ _ c.in-Ok-read_all.input (record { asked = asked; taken = c.in-Ok-read_all.ensures.all }) c.show.ensures.told

pub returns-in-Ok-read_all-clause-told : goal.returns-in-Ok-read_all-clause-told
returns-in-Ok-read_all-clause-told g c =
    let asked = asks c.args.words.now _ _ c.in-Ok.ensures.command c.in-Some.is ∙ ap (λ z. Some z) c.in-Check.is in
    told_input c.args.words.now _ _ _ _ _ _ _ _ _ _ c.in-Ok-read_all.input (record { asked = asked; taken = c.in-Ok-read_all.ensures.all }) c.judge.ensures.told

pub returns-clause-told : goal.returns-clause-told
returns-clause-told g c =
    told_not_read c.args.words.now c.in-Some.command _ _ _ _ _ _ _ _ _ (asks c.args.words.now _ c.in-Some.command c.in-Ok.ensures.command c.in-Some.is)
    (told_unread _ _ _ _ _ _ _ _ _ c.in-Err.fail (λ is. c.in-Err.ensures.fault (rw is refl)) (λ is. c.in-Err.ensures.too_long (rw is refl)) c.tell_unread.ensures.told)
