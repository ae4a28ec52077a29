-- The value if nothing was told.
pub use Rattle.vx_procs.proofs.Rest.{told_none}
