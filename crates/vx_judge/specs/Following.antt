-- What the judge of the law of mailboxes knows of a past.
use Rattle.std.specs.Prelude.{List}
use Rattle.vx_laws.specs.Items.{Item}
use Rattle.vx_judge.specs.Channels.{AreNames}
use Rattle.vx_judge.specs.Lives.{IsOf}
use Rattle.vx_judge.specs.Readers.{HasReads}
use Rattle.vx_judge.specs.Requests.{AreAsked}
use Rattle.vx_judge.specs.Stores.{AreStored}
use Rattle.vx_judge.specs.declared.boxes.Boxes.{Boxes}

pub record KnowsBoxes (j : Boxes) (past : List Item) : Type 0 where
  pub lives : IsOf j.lives past
  pub channels : AreNames j.channels past
  pub requests : AreAsked j.requests past
  pub stored : AreStored j.stored past
  pub readers : HasReads j.readers past
