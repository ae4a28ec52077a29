use Rattle.std.proofs.Common.{List, sym, subst}
use Rattle.vx_base.specs.Services.{ServiceRow}
use Rattle.vx_table.specs.Back.{ReadsBack}
use Rattle.vx_table.proofs.Texts.{on_ok, reads_back}
use Rattle.vx_table.proofs.table.ServiceTable.print_call.Goals as goal

pub returns-clause-back : goal.returns-clause-back
returns-clause-back g c = on_ok c.push_all.result _ (λ same. subst (λ (rows : List ServiceRow). ReadsBack rows c.args.call.now) (sym same) (reads_back c.args.call.now c.requires c.in_ok-text.ensures.held))
