-- The value if nothing was told.
pub use Rattle.vx_procs.proofs.Rest.{told_none}
pub use Rattle.vx_record.proofs.Lists.{mapped_some}
