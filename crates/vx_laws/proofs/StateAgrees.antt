-- The agreement as one statement.
use Rattle.std.proofs.Common.{◌≡◌, List, Some, sym, subst}
use Rattle.vx_record.specs.Types.{Pid, Rec, System}
use Rattle.vx_record.specs.Runs.{IsRun, after, first}
use Rattle.vx_record.specs.State.{IsProcess, decl_of}
use Rattle.vx_record.proofs.SoundSteps.{run_keeps_system}
use Rattle.vx_laws.specs.Agreement.{ProcessAgrees, StateAgrees}
use Rattle.vx_laws.specs.Items.{past_of}
use Rattle.vx_laws.specs.QuotaSum.{decl_by}
use Rattle.vx_laws.proofs.Asked.{every_request_called}
use Rattle.vx_laws.proofs.Finished.{every_gone}
use Rattle.vx_laws.proofs.Holds.{every_association, every_cluster, every_flag, every_status}
use Rattle.vx_laws.proofs.Leaves.{every_frame}
use Rattle.vx_laws.proofs.Messages.{every_box_single, every_box_stands, every_box_stores, every_box_writers, every_channel, every_request_device}
use Rattle.vx_laws.proofs.Opens.{every_attention, every_handler, every_request, every_timer}
use Rattle.vx_laws.proofs.Quotas.{every_decl}
use Rattle.vx_laws.proofs.Resumes.{every_wait}
use Rattle.vx_laws.proofs.Sums.{every_charge}
use Rattle.vx_laws.proofs.Turns.{every_enable, every_next, every_queue}

process_agrees : (system : System) (recs : List Rec) → IsRun system recs → (p : Pid) → IsProcess (after system recs) p → ProcessAgrees (after system recs) (past_of recs) p
process_agrees system recs run p made = record {
  declaration = subst (λ (y : System). decl_by y (past_of recs) p ≡ Some (decl_of (after system recs) p)) (sym (run_keeps_system (first system) recs)) (every_decl system recs p run made);
  enables = λ m. every_enable system recs p m run made.above;
  asts = every_queue system recs p run made.above;
  frames = every_frame system recs p run made.above;
  waits = every_wait system recs p run made;
  channels = λ n above. every_channel system recs p n run made.above above;
  charges = every_charge system recs p run made.above;
  gone = every_gone system recs p run made;
}

pub every_state_agrees : (system : System) (recs : List Rec) → IsRun system recs → StateAgrees (after system recs) (past_of recs)
every_state_agrees system recs run = record {
  opened = record {
    next = every_next system recs run;
    requests = λ id. every_request system recs id run;
    timers = λ id. every_timer system recs id run;
    attention = λ id. every_attention system recs id run;
    handlers = λ p id above. every_handler system recs p id run above;
    called = every_request_called system recs run;
    devices = every_request_device system recs run;
  };
  procs = process_agrees system recs run;
  values = record {
    flags = λ c owned. every_flag system recs c run owned;
    statuses = λ p i made above within. every_status system recs p i run made above within;
    associations = λ p k. every_association system recs p k run;
    clusters = λ group name. every_cluster system recs group name run;
  };
  stands = λ name. every_box_stands system recs name run;
  boxes = λ b there. record {
    messages = every_box_stores system recs b run there;
    writers = every_box_writers system recs b run there;
    reads = every_box_single system recs b run;
  };
}
