-- The memory of a process that is none yet.
use Rattle.std.specs.Prelude.{◌≡◌, ◌≤◌, [], None, replicate}
use Rattle.vx_base.specs.Pieces.{all_on}
use Rattle.vx_image.specs.Storage.{no_storage}
use Rattle.vx_procs.specs.declared.newcomer.Newcomer.TheInside.{Inside}

-- its store is empty, and all its channels are free; there is room for two frames and for one AST, and none of either; it has no
-- exit handler
pub record IsUnused {R : Type 0} (n : Inside R) : Type 0 where
  pub store : n.store ≡ no_storage
  pub frames : n.frames.items ≡ []
  pub frame_room : 2 ≤ n.frames.capacity
  pub asts : n.asts.items ≡ []
  pub enables : n.asts.enables ≡ all_on
  pub ast_room : 1 ≤ n.asts.capacity
  pub channels : n.chans ≡ replicate 64 None
  pub handlers : n.exits.items ≡ []
