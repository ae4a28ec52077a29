use Rattle.std.proofs.Common.{option_map, refl, ap, ◌∙◌, arith}
use Rattle.std.specs.List.{find}
use Rattle.vx_exits.specs.Exits.{handed, known}
use Rattle.vx_record.specs.State.{Process}
use Rattle.vx_procs.specs.Handlers.{is_sought, without_sought}
use Rattle.vx_procs.proofs.Changed.{changed_as, held_as, seen_in}
use Rattle.vx_procs.proofs.Left.{none_sought}
use Rattle.vx_procs.proofs.procs.Core.take_handler.Goals as goal

pub invariant_of-self : goal.invariant_of-self
invariant_of-self g c = held_as (without_sought c.args.which) c.self.inside c.args.self.now c.args.p c.at_mut.result.now _ c.self.view_is c.requires c.at_mut.ensures.value c.take_handler.ensures.after c.take_handler.ensures.books (record { decl = refl; asts = refl; frames = omega arith }) c.self.invariant

pub returns-clause-after : goal.returns-clause-after
returns-clause-after g c = changed_as (without_sought c.args.which) c.self.inside c.args.self.now c.args.p c.at_mut.result.now _ c.self.view_is c.requires c.at_mut.ensures.value c.take_handler.ensures.after c.take_handler.ensures.books

pub returns-clause-kept : goal.returns-clause-kept
returns-clause-kept g c = λ none.
    let k = c.args.self.now in
    let there = changed_as (without_sought c.args.which) c.self.inside k c.args.p c.at_mut.result.now _ c.self.view_is c.requires c.at_mut.ensures.value c.take_handler.ensures.after c.take_handler.ensures.books in
    let same = c.take_handler.ensures.handler ∙ ap (λ (pr : Process). option_map known (find (is_sought c.args.which) pr.handlers)) (seen_in c.self.inside k c.args.p c.at_mut.result.now c.self.view_is c.requires c.at_mut.ensures.value) in
    there ∙ none_sought known (handed g.R.Routine.tagged) c.take_handler.result k c.args.p c.args.which same none
