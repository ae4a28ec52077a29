-- The call at which local statements stop: its values are numbers, and its arguments are of the kinds that its service takes. So
-- what a service tells has a spelling.
use Rattle.std.proofs.Common.{◌≡◌, ℕ, zero, suc, ◌%◌, ◌^◌, true, false, slice_get, Option, Some, None, Result, Ok, Err, refl}
use Rattle.std.specs.Prelude.{⊤}
use Rattle.std.proofs.lemmas.Bool.{and_parts}
use Rattle.vx_base.specs.Services.{are_args, args_list, is_of_kind, is_target, params_of}
use Rattle.vx_record.specs.Types.{Arg, Args, Call, Cond, Image, Pid, Service, Stmt, Stop, Target}
use Rattle.vx_base.specs.declared.call.Arg.TheVariants as arg
use Rattle.vx_base.specs.declared.frame.Wait.TheVariants as wait
use Rattle.vx_base.specs.declared.service.Kind.TheVariants as kind
use Rattle.vx_base.specs.declared.service.Service.TheVariants.{SetEf, ClrEf, ReadEf, WaitFr, WflOr, WflAnd, AscEfc, DacEfc, DlcEfc, DclAst, SetAst, CmExec, CmKrnl, SetImr, CanTim, SchdWk, CanWak, Hiber, Wake, Suspnd, Resume, ForceX, CrePrc, DelPrc, Exit, DclExh, CanExh, Assign, Dassgn, CreMbx, DelMbx, Qio, QioW, Synch, Cancel, GetTim}
use Rattle.vx_image.specs.Local.{Advanced, Moved, Reader, advanced, computed, computed_arg, go_on, local_at, run_local, stop_at}
use Rattle.vx_image.specs.Storage.{Storage}
use Rattle.vx_image.specs.declared.stmt.Stmt.TheVariants as stmt
use Rattle.vx_image.specs.declared.stop.Stop.TheVariants as stop
use Rattle.vx_lines.specs.ReadHead.{is_plain, is_plain_call}
use Rattle.vx_record.specs.Channels.{assign, crembx}
use Rattle.vx_record.specs.Control.{creprc}
use Rattle.vx_record.specs.Flags.{readef}
use Rattle.vx_record.specs.Parts.{Outcome, Part, and_then, nothing, part_of}
use Rattle.vx_record.specs.Timers.{gettim}
use Rattle.vx_record.specs.Services.{access_mode, asked, decl_place, number, numbered_at, place, routine, routine_or_none, service_of, text, valued_at, var_part}
use Rattle.vx_record.specs.State.{State}
use Rattle.vx_spelled.proofs.Fine.{AreFine, OutFine, PartFine, then_fine, put_flag_fine, readef_fine, waits_fine, ascefc_fine, dacefc_fine, dlcefc_fine, dclast_fine, cmexec_fine, cmkrnl_fine, setimr_fine, cantim_fine, schdwk_fine, canwak_fine, hiber_fine, wake_fine, suspnd_fine, resume_fine, forcex_fine, creprc_fine, delprc_fine, exited_fine, dclexh_fine, canexh_fine, assign_fine, dassgn_fine, crembx_fine, delmbx_fine, qio_fine, qiow_fine, synch_fine, cancel_fine}

-- Values that are numbers.

plain_arg : (who : Reader) (store : Storage) (a : Arg) → is_plain (computed_arg who store a) ≡ true
plain_arg who store (arg.Value x) = refl
plain_arg who store (arg.Label x) = refl
plain_arg who store (arg.Target x) = refl
plain_arg who store (arg.Mode x) = refl
plain_arg who store (arg.Name x) = refl
plain_arg who store (arg.Func x) = refl
plain_arg who store arg.Unused = refl

plain_call : (who : Reader) (store : Storage) (c : Call) → is_plain_call (computed who store c) ≡ true
plain_call who store c =
    rw (plain_arg who store c.args.a0, plain_arg who store c.args.a1, plain_arg who store c.args.a2, plain_arg who store c.args.a3, plain_arg who store c.args.a4, plain_arg who store c.args.a5, plain_arg who store c.args.a6, plain_arg who store c.args.a7, plain_arg who store c.args.a8) refl

abbrev pub IsPlainStop : Stop → Type 0
IsPlainStop (stop.Call c) = is_plain_call c ≡ true
IsPlainStop _ = ⊤

stop_plain : (who : Reader) (store : Storage) (o : Option Stmt) → IsPlainStop (stop_at who store o)
stop_plain who store None = tt
stop_plain who store (Some (stmt.Service c)) = plain_call who store c
stop_plain who store (Some stmt.Return) = tt
stop_plain who store (Some (stmt.Let t x)) = tt
stop_plain who store (Some (stmt.Add t x y)) = tt
stop_plain who store (Some (stmt.Sub t x y)) = tt
stop_plain who store (Some (stmt.Goto l)) = tt
stop_plain who store (Some (stmt.If x r y l)) = tt
stop_plain who store (Some (stmt.Put b bytes)) = tt
stop_plain who store (Some (stmt.Byte t b x)) = tt
stop_plain who store (Some (stmt.Iosb t i f)) = tt

go_on_plain : (who : Reader) (store : Storage) (place : ℕ) (o : Option Stmt) (m : Option Moved) (on : Moved → Advanced) → ((moved : Moved) → IsPlainStop (on moved).stop) → IsPlainStop (go_on who store place o m on).stop
go_on_plain who store place o None on f = stop_plain who store o
go_on_plain who store place o (Some moved) on f = f moved

run_plain : (n : ℕ) (image : Image) (who : Reader) (store : Storage) (place : ℕ) → IsPlainStop (run_local n image who store place).stop
run_plain zero image who store place = tt
run_plain (suc n) image who store place =
    go_on_plain who store place (slice_get image.stmts place) (local_at image who store place (slice_get image.stmts place)) (λ moved. run_local n image who moved.store moved.place) (λ moved. run_plain n image who moved.store moved.place)

pub advanced_plain : (image : Image) (who : Reader) (store : Storage) (place : ℕ) → IsPlainStop (advanced image who store place).stop
advanced_plain image who store place = run_plain 1000 image who store place

-- Variables.

target_of : (a : Arg) → is_of_kind kind.Target a ≡ true → is_target (place a) ≡ true
target_of (arg.Target t) h = h
target_of (arg.Value x) h = refl
target_of (arg.Mode m) h = refl
target_of (arg.Name name) h = refl
target_of (arg.Label name) h = refl
target_of (arg.Func f) h = refl
target_of arg.Unused h = refl

valued_fine : (p : Pid) (t : Target) (part : Part) (n : ℕ) → is_target t ≡ true → PartFine part → AreFine (and_then part (λ a. var_part a p t n)).effects
valued_fine p t part n h k = then_fine part (λ a. var_part a p t n) k (λ a. (h, tt))

valued_at_fine : (p : Pid) (t : Target) (part : Part) (r : Result (Cond × ℕ) Cond) → is_target t ≡ true → PartFine part → OutFine (valued_at p t part r)
valued_at_fine p t part (Ok read) h k = valued_fine p t part read.1 h k
valued_at_fine p t part (Err c) h k = k

numbered_at_fine : (p : Pid) (t : Target) (part : Part) (r : Result ℕ Cond) → is_target t ≡ true → PartFine part → OutFine (numbered_at p t part r)
numbered_at_fine p t part (Ok n) h k = valued_fine p t part n h k
numbered_at_fine p t part (Err c) h k = k

-- The services.

pub service_fine : (s : State) (p : Pid) (a : Args) (v : Service) → are_args (params_of v) (args_list a) ≡ true → OutFine (service_of s p a v)
service_fine s p a SetEf h = put_flag_fine s p (number a.a0) true
service_fine s p a ClrEf h = put_flag_fine s p (number a.a0) false
service_fine s p a ReadEf h =
    let o : Outcome (Result (Cond × ℕ) Cond) = readef s p (number a.a0) in
    valued_at_fine p (place a.a1) (part_of o) o.answer (target_of a.a1 (and_parts (is_of_kind kind.Target a.a1) _ (and_parts (is_of_kind kind.Value a.a0) _ h).1).0) (readef_fine s p (number a.a0))
service_fine s p a WaitFr h = waits_fine s p (number a.a0) (wait.Flags (number a.a0) (2 ^ (number a.a0 % 32)) false)
service_fine s p a WflOr h = waits_fine s p (number a.a0) (wait.Flags (number a.a0) (number a.a1) false)
service_fine s p a WflAnd h = waits_fine s p (number a.a0) (wait.Flags (number a.a0) (number a.a1) true)
service_fine s p a AscEfc h = ascefc_fine s p (number a.a0) (text a.a1) (number a.a2)
service_fine s p a DacEfc h = dacefc_fine s p (number a.a0)
service_fine s p a DlcEfc h = dlcefc_fine s p (text a.a0)
service_fine s p a DclAst h = dclast_fine s p (routine s p a.a0 (number a.a1)) (access_mode a.a2)
service_fine s p a SetAst h = (tt, tt)
service_fine s p a CmExec h = cmexec_fine s p (routine s p a.a0 (number a.a1))
service_fine s p a CmKrnl h = cmkrnl_fine s p (routine s p a.a0 (number a.a1))
service_fine s p a SetImr h = setimr_fine s p (number a.a0) (number a.a1) (routine_or_none s p a.a2 (number a.a3)) (number a.a3)
service_fine s p a CanTim h = cantim_fine s p (number a.a0) (access_mode a.a1)
service_fine s p a SchdWk h = schdwk_fine s p (number a.a0) (number a.a1) (number a.a2)
service_fine s p a CanWak h = canwak_fine s p (number a.a0)
service_fine s p a Hiber h = hiber_fine s p
service_fine s p a Wake h = wake_fine s p (number a.a0)
service_fine s p a Suspnd h = suspnd_fine s p (number a.a0)
service_fine s p a Resume h = resume_fine s p (number a.a0)
service_fine s p a ForceX h = forcex_fine s p (number a.a0) (number a.a1)
service_fine s p a CrePrc h =
    let o : Outcome (Result ℕ Cond) = creprc s p (decl_place s (text a.a1)) in
    numbered_at_fine p (place a.a0) (part_of o) o.answer (target_of a.a0 (and_parts (is_of_kind kind.Target a.a0) _ h).0) (creprc_fine s p (decl_place s (text a.a1)))
service_fine s p a DelPrc h = delprc_fine s p (number a.a0)
service_fine s p a Exit h = exited_fine s p (number a.a0)
service_fine s p a DclExh h = dclexh_fine s p (routine s p a.a0 0)
service_fine s p a CanExh h = canexh_fine s p (routine_or_none s p a.a0 0)
service_fine s p a Assign h =
    let o : Outcome (Result ℕ Cond) = assign s p (text a.a1) (access_mode a.a2) in
    numbered_at_fine p (place a.a0) (part_of o) o.answer (target_of a.a0 (and_parts (is_of_kind kind.Target a.a0) _ h).0) (assign_fine s p (text a.a1) (access_mode a.a2))
service_fine s p a Dassgn h = dassgn_fine s p (number a.a0)
service_fine s p a CreMbx h =
    let o : Outcome (Result ℕ Cond) = crembx s p (text a.a1) (number a.a2) (number a.a3) (number a.a4) (access_mode a.a5) in
    numbered_at_fine p (place a.a0) (part_of o) o.answer (target_of a.a0 (and_parts (is_of_kind kind.Target a.a0) _ h).0) (crembx_fine s p (text a.a1) (number a.a2) (number a.a3) (number a.a4) (access_mode a.a5))
service_fine s p a DelMbx h = delmbx_fine s p (number a.a0)
service_fine s p a Qio h = qio_fine s p (asked s p a)
service_fine s p a QioW h = qiow_fine s p (asked s p a)
service_fine s p a Synch h = synch_fine s p (number a.a0) (number a.a1)
service_fine s p a Cancel h = cancel_fine s p (number a.a0)
service_fine s p a GetTim h = valued_fine p (place a.a0) (nothing s) (gettim s) (target_of a.a0 (and_parts (is_of_kind kind.Target a.a0) _ h).0) tt
