-- Every run keeps the six laws.
use Rattle.std.proofs.Common.{List}
use Rattle.vx_record.specs.Types.{Rec, System}
use Rattle.vx_record.specs.Runs.{IsRun}
use Rattle.vx_laws.specs.Laws.{KeepLaws}
use Rattle.vx_laws.proofs.Completions.{every_run_tells}
use Rattle.vx_laws.proofs.Leaves.{every_run_ordered}
use Rattle.vx_laws.proofs.Messages.{every_run_messages}
use Rattle.vx_laws.proofs.Quotas.{every_run_in_quota}
use Rattle.vx_laws.proofs.Vacant.{every_run_down}
use Rattle.vx_laws.proofs.Where.{every_run_once}

pub every_run_lawful : (system : System) (recs : List Rec) → IsRun system recs → KeepLaws system recs
every_run_lawful system recs run = record {
  once = every_run_once system recs run;
  ast_order = every_run_ordered system recs run;
  quota_sum = every_run_in_quota system recs run;
  run_downs = every_run_down system recs run;
  status = every_run_tells system recs run;
  messages = every_run_messages system recs run;
}
