-- What was read so far, without the numbers of lines.
use Rattle.std.proofs.Common.{◌≡◌, ℕ, true, List, map, None, subst}
use Rattle.std.specs.List.{list_all}
use Rattle.vx_image.specs.WellFormed.{is_among}
use Rattle.vx_image.specs.declared.image.Image.{Image}
use Rattle.vx_image.specs.declared.unit.UnitDecl.{UnitDecl}
use Rattle.vx_script.specs.Reading.{between_images}
use Rattle.vx_script.specs.declared.lines.Creation.{Creation}
use Rattle.vx_script.specs.declared.lines.DeclLine.{DeclLine}
use Rattle.vx_script.specs.declared.lines.FaultLine.{FaultLine}
use Rattle.vx_script.specs.declared.lines.InputLine.{InputLine}
use Rattle.vx_script.specs.declared.parts.Parts.{Parts}
use Rattle.vx_script.specs.declared.parts.Reading.{Reading}
use Rattle.vx_roundtrip.proofs.Outer.{Steps}

-- lines without their numbers

abbrev pub plain_input : InputLine → InputLine
plain_input i = record i { line = 0 }

abbrev pub plain_fault : FaultLine → FaultLine
plain_fault f = record f { line = 0 }

abbrev pub plain_decl : DeclLine → DeclLine
plain_decl d = record d { line = 0 }

-- what lines say
pub record Said : Type 0 where
  pub units : List UnitDecl
  pub inputs : List InputLine
  pub faults : List FaultLine
  pub images : List Image
  pub decls : List DeclLine

-- every process declaration that a statement creates is among these
abbrev pub are_created : List (List ℕ) → List Creation → Type 0
are_created names creations = list_all (λ c. is_among c.name names) creations ≡ true

-- the lines that were read say this, if the process declarations are to have these names
pub record Told (names : List (List ℕ)) (parts : Parts) (said : Said) : Type 0 where
  pub units : parts.units ≡ said.units
  pub inputs : map plain_input parts.inputs ≡ said.inputs
  pub faults : map plain_fault parts.faults ≡ said.faults
  pub images : parts.images ≡ said.images
  pub decls : map plain_decl parts.decls ≡ said.decls
  pub creations : are_created names parts.creations
  pub unlabelled : parts.unlabelled ≡ None

-- the lines of a text were read up to these that are left, and say this
pub record Comes (names : List (List ℕ)) (line : ℕ) (r : Reading) (ls rest : List (List ℕ)) (said : Said) : Type 0 where
  pub line2 : ℕ
  pub parts : Parts
  pub read : Steps line r ls line2 (between_images parts) rest
  pub told : Told names parts said

pub told_as : (names : List (List ℕ)) (parts : Parts) (said other : Said) → said ≡ other → Told names parts said → Told names parts other
told_as names parts said other e told = subst (λ (s : Said). Told names parts s) e told
