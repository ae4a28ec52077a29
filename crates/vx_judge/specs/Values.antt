-- Tables of values follow a past.
use Rattle.std.specs.Prelude.{List}
use Rattle.vx_laws.specs.Items.{Item}
use Rattle.vx_judge.specs.Blocks.{AreBlocks}
use Rattle.vx_judge.specs.Cells.{AreCells}
use Rattle.vx_judge.specs.Owing.{AreJoined}
use Rattle.vx_judge.specs.declared.values.Values.{Values}

abbrev pub AreValues : Values → List Item → Type 0
AreValues v past = AreCells v.cells past × (AreJoined v.clusters past × AreBlocks v.blocks past)
