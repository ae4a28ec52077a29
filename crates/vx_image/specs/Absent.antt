-- What stands if there is none: a process declaration, an image, a unit's declaration.
use Rattle.std.specs.Prelude.{[], false}
use Rattle.vx_base.specs.Quotas.{no_need, no_privs}
use Rattle.vx_base.specs.declared.mode.Mode.TheVariants.{User}
use Rattle.vx_image.specs.declared.decl.ProcDecl.{ProcDecl}
use Rattle.vx_image.specs.declared.image.Image.{Image}
use Rattle.vx_image.specs.declared.unit.UnitDecl.{UnitDecl}

abbrev pub no_decl : ProcDecl
no_decl = record { name = []; image = 0; group = 0; member = 0; mode = User; limits = no_need; privs = no_privs; start = false }

abbrev pub no_image : Image
no_image = record { name = []; labels = []; stmts = [] }

abbrev pub no_unit_decl : UnitDecl
no_unit_decl = record { name = []; blocks = 0; inputs = []; faults = [] }
