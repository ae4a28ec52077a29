use Rattle.std.proofs.Common.{◌∙◌, sym}
use Rattle.std.proofs.lemmas.Result.{on_ok_weaker}
use Rattle.vx_script.proofs.MovedLines.{line_nowhere, line_there}
use Rattle.vx_script.proofs.resolve.add_line.Goals as goal

pub returns-in-Some : goal.returns-in-Some
returns-in-Some c =
    on_ok_weaker c.push.result
    (line_there c.args.input c.args.places.now c.args.units.now.items c.in-Some.place c.index_mut.result.now c.push.new.self c.requires
    c.place.ensures.distinct (sym c.place.ensures.place ∙ c.in-Some.is) c.index_mut.ensures.value)
    c.push.ensures.ok

pub returns-in-None : goal.returns-in-None
returns-in-None c = line_nowhere c.args.input c.args.places.now c.args.units.now.items c.requires (sym c.place.ensures.place ∙ c.in-None.is)
