-- The services that local statements stop at stand at places of the image.
use Rattle.std.proofs.Common.{◌≡◌, ℕ, zero, suc, ◌<◌, length, IsTrue, Option, Some, None, slice_get, refl}
use Rattle.std.proofs.lemmas.Bool.{and_parts}
use Rattle.vx_base.specs.Services.{are_args, args_list, is_of_kind, params_of}
use Rattle.vx_record.specs.Types.{Args, Image, Stmt, Stop}
use Rattle.vx_base.specs.declared.service.Kind.TheVariants as kind
use Rattle.vx_base.specs.declared.service.Service.TheVariants.{AscEfc, CreMbx, DlcEfc}
use Rattle.vx_image.specs.Local.{Reader, Moved, Advanced, local_at, stop_at, go_on, run_local, advanced}
use Rattle.vx_image.specs.Storage.{Storage}
use Rattle.vx_image.specs.declared.stmt.Stmt.TheVariants as stmt
use Rattle.vx_image.specs.declared.stop.Stop.TheVariants as stop
use Rattle.std.proofs.lemmas.Option.{slice_get_within}

-- the statement of a service at which local statements stop is the image's
abbrev pub IsStopAt : Image → ℕ → Stop → Type 0
IsStopAt image place (stop.Call c) = place < length image.stmts
IsStopAt image place stop.Return = Unit {0}
IsStopAt image place stop.End = Unit {0}
IsStopAt image place stop.Local = Unit {0}

stop_stands : (image : Image) (who : Reader) (store : Storage) (place : ℕ) (o : Option Stmt) → slice_get image.stmts place ≡ o → IsStopAt image place (stop_at who store o)
stop_stands image who store place None at = tt
stop_stands image who store place (Some (stmt.Service c)) at = slice_get_within image.stmts place (stmt.Service c) at
stop_stands image who store place (Some stmt.Return) at = tt
stop_stands image who store place (Some (stmt.Let t x)) at = tt
stop_stands image who store place (Some (stmt.Add t x y)) at = tt
stop_stands image who store place (Some (stmt.Sub t x y)) at = tt
stop_stands image who store place (Some (stmt.Goto l)) at = tt
stop_stands image who store place (Some (stmt.If x r y l)) at = tt
stop_stands image who store place (Some (stmt.Put b bytes)) at = tt
stop_stands image who store place (Some (stmt.Byte t b x)) at = tt
stop_stands image who store place (Some (stmt.Iosb t i f)) at = tt

abbrev IsAdvancedAt : Image → Advanced → Type 0
IsAdvancedAt image a = IsStopAt image a.place a.stop

go_on_stands : (image : Image) (who : Reader) (store : Storage) (place : ℕ) (o : Option Stmt) (m : Option Moved) (on : Moved → Advanced) → slice_get image.stmts place ≡ o → ((moved : Moved) → IsAdvancedAt image (on moved)) → IsAdvancedAt image (go_on who store place o m on)
go_on_stands image who store place o None on at f = stop_stands image who store place o at
go_on_stands image who store place o (Some moved) on at f = f moved

run_stands : (n : ℕ) (image : Image) (who : Reader) (store : Storage) (place : ℕ) → IsAdvancedAt image (run_local n image who store place)
run_stands zero image who store place = tt
run_stands (suc n) image who store place =
    go_on_stands image who store place (slice_get image.stmts place) (local_at image who store place (slice_get image.stmts place)) (λ moved. run_local n image who moved.store moved.place)
    refl (λ moved. run_stands n image who moved.store moved.place)

pub advanced_stands : (image : Image) (who : Reader) (store : Storage) (place : ℕ) → IsAdvancedAt image (advanced image who store place)
advanced_stands image who store place = run_stands 1000 image who store place

-- the name of a call of a service that takes one

pub names_second : (a : Args) → IsTrue (are_args (params_of AscEfc) (args_list a)) → IsTrue (is_of_kind kind.Name a.a1)
names_second a kinds = (and_parts (is_of_kind kind.Name a.a1) _ (and_parts (is_of_kind kind.Value a.a0) _ kinds).1).0

pub names_box : (a : Args) → IsTrue (are_args (params_of CreMbx) (args_list a)) → IsTrue (is_of_kind kind.Name a.a1)
names_box a kinds = (and_parts (is_of_kind kind.Name a.a1) _ (and_parts (is_of_kind kind.Target a.a0) _ kinds).1).0

pub names_first : (a : Args) → IsTrue (are_args (params_of DlcEfc) (args_list a)) → IsTrue (is_of_kind kind.Name a.a0)
names_first a kinds = (and_parts (is_of_kind kind.Name a.a0) _ kinds).0
