-- Two processes whose image ends at once, and the runs of them that lists of places choose.
use Rattle.std.specs.Prelude.{◌≡◌, refl, [], ◌∷◌, codes, Some}
use Rattle.vx_base.specs.declared.record.End.TheVariants as end
use Rattle.vx_examples.specs.Script.{declared, ends, gone, is_gone}
use Rattle.vx_record.specs.Types.{System}
use Rattle.vx_record.specs.Picked.{IsMissing, picked}
use Rattle.vx_record.specs.Runs.{end_after}

abbrev script : System
script = record {
  units = [];
  images = record { name = codes "MAIN"; labels = []; stmts = [] } ∷ [];
  decls = declared (codes "P") 0 ∷ declared (codes "Q") 0 ∷ [];
}

-- no place: always the first event, so P goes before Q runs
pub no_place : picked script [] 10 ≡ ends 1 [] ∷ is_gone 1 (gone 1 ∷ []) ∷ ends 2 [] ∷ is_gone 2 (gone 2 ∷ []) ∷ []
no_place = refl

-- at place 1 of RUN 1 and RUN 2 stands RUN 2; behind the last place the first event comes
pub one_place : picked script (1 ∷ []) 10 ≡ ends 2 [] ∷ ends 1 [] ∷ is_gone 1 (gone 1 ∷ []) ∷ is_gone 2 (gone 2 ∷ []) ∷ []
one_place = refl

pub two_places : picked script (1 ∷ 1 ∷ []) 10 ≡ ends 2 [] ∷ is_gone 2 (gone 2 ∷ []) ∷ ends 1 [] ∷ is_gone 1 (gone 1 ∷ []) ∷ []
two_places = refl

pub two_places-end : end_after script (picked script (1 ∷ 1 ∷ []) 10) 10 ≡ Some end.Done
two_places-end = refl

-- the limit cuts the run
pub limited : picked script (1 ∷ 1 ∷ []) 1 ≡ ends 2 [] ∷ []
limited = refl

pub limited-end : end_after script (picked script (1 ∷ 1 ∷ []) 1) 1 ≡ Some end.Limit
limited-end = refl

-- behind RUN 1, RUN 2 and RDN 2 only RDN 1 is enabled, and has place 0: record 4 has no event at place 1
pub missing : IsMissing script (0 ∷ 1 ∷ 1 ∷ 1 ∷ []) 10 4 1
missing = record { going = refl; next = refl; count = refl }

-- if the run has ended before, no place is asked for
pub not_asked : end_after script (picked script (0 ∷ 1 ∷ 1 ∷ 1 ∷ []) 3) 3 ≡ Some end.Limit
not_asked = refl
