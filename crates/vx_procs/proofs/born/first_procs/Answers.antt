use Rattle.vx_procs.proofs.FirstProcs.{born_more, fresh_more}
use Rattle.vx_procs.proofs.born.first_procs.Goals as goal

pub loop-place-preserved : goal.loop-place-preserved
loop-place-preserved g c = record {
  procs = born_more _ _ _ c.decl-item.result _ _ _ c.as_slice-decl-items.ensures c.loop-place-test.true c.decl-item.is c.in_ok-add_started.ensures.procs c.loop-place.invariant.procs;
  fresh = c.in_ok-add_started.ensures.fresh c.args.decls.now (fresh_more _ _ _ c.decl-item.result c.as_slice-decl-items.ensures c.loop-place-test.true c.decl-item.is) c.loop-place.invariant.fresh;
}
