use Rattle.vx_table.specs.Reading.{toks}
use Rattle.vx_table.proofs.Calls.{read_is}
use Rattle.vx_table.proofs.table.ServiceTable.read_call.Goals as goal

pub returns-clause-call : goal.returns-clause-call
returns-clause-call g c = read_is c.args.self.now (toks c.args.tokens.now) c.read_tokens.result c.read_tokens.ensures
