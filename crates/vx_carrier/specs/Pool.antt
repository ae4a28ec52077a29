-- What a pool of threads comes to.
use Rattle.std.specs.Prelude.{◌≡◌, List, Some, length}
use Rattle.vx_record.specs.Types.{End, Rec}
use Rattle.vx_record.specs.Runs.{IsRun, after, end_after}
use Rattle.vx_exec.specs.View.{Executive, Plan}

-- The records are a run of the system from its first state, which has ended so within the limit; the executive stands for the state
-- after them, and has counted them.
pub record IsRunOf (plan : Plan) (after_it : Executive) (recs : List Rec) (end : End) : Type 0 where
  pub run : IsRun plan.system recs
  pub now : after_it.state ≡ after plan.system recs
  pub counted : after_it.taken ≡ length recs
  pub limited : after_it.limit ≡ plan.limit
  pub ended : end_after plan.system recs plan.limit ≡ Some end
