-- What a statement that was read means.
use Rattle.vx_image.specs.declared.stmt.Stmt.{Stmt}
use Rattle.vx_image.specs.declared.stmt.Stmt.TheVariants as stmt
use Rattle.vx_image.specs.declared.stmt.StmtRef.{StmtRef}
use Rattle.vx_image.specs.declared.stmt.StmtRef.TheVariants as ref

abbrev pub meant : StmtRef → Stmt
meant (ref.Let t x) = stmt.Let t x
meant (ref.Add t x y) = stmt.Add t x y
meant (ref.Sub t x y) = stmt.Sub t x y
meant (ref.Goto k) = stmt.Goto k
meant (ref.If x r y k) = stmt.If x r y k
meant (ref.Put b bytes) = stmt.Put b bytes.now
meant (ref.Byte t b x) = stmt.Byte t b x
meant (ref.Iosb t i f) = stmt.Iosb t i f
meant ref.Return = stmt.Return
meant (ref.Service c) = stmt.Service c
