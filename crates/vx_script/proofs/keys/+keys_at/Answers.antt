use Rattle.std.proofs.Common.{◌∙◌, ap}
use Rattle.vx_script.specs.Keys.{keys_from}
use Rattle.vx_script.proofs.Taking.{no_key, key_taken, key_refused}
use Rattle.vx_script.proofs.keys.+keys_at.Goals as goal

pub returns-in_default : goal.returns-in_default
returns-in_default t c = no_key c.args.keys c.args.tokens.now c.in_default.ensures.cases

pub returns-in-Ok : goal.returns-in-Ok
returns-in-Ok t c =
    let taken = c.in-Ok.taken in
    c.keys_at.ensures ∙ ap (keys_from 0 taken.keys) c.behind.ensures ∙ key_taken c.args.keys c.in-Some.first.now c.in-Some.rest.now c.args.tokens.now taken c.in-Some.ensures.cases.0 c.in-Ok.ensures

pub returns-in-Err : goal.returns-in-Err
returns-in-Err t c = key_refused c.args.keys c.in-Some.first.now c.in-Some.rest.now c.args.tokens.now c.in-Err.kind c.in-Some.ensures.cases.0 c.in-Err.ensures
