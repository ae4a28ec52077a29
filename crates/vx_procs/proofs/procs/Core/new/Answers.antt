use Rattle.std.proofs.Common.{List, Option, map, subst, sym}
use Rattle.std.specs.Prelude.{None}
use Rattle.vx_record.specs.Types.{Attention, Mailbox, Request, System, Timer}
use Rattle.vx_base.specs.Roomy.{Roomy}
use Rattle.vx_clusters.specs.Clusters.{Shared}
use Rattle.vx_record.specs.Runs.{first}
use Rattle.vx_record.specs.State.{State}
use Rattle.vx_procs.specs.Held.{AreHeld}
use Rattle.vx_procs.specs.View.{books_of, ending_of, process, unit_of}
use Rattle.vx_procs.proofs.FirstProcs.{first_held}
use Rattle.vx_procs.proofs.Inside.{in_all}
use Rattle.vx_procs.proofs.procs.Core.new.Goals as goal

pub invariant_of-result : goal.invariant_of-result
invariant_of-result g c =
    let procs = c.in_ok-procs.procs.items in
    let us = map unit_of c.in_ok-units.units.items in
    let ls = map ending_of c.in_ok-units.units.items in
    let held = first_held c.args.system us ls procs c.in_ok-procs.ensures.fresh in
    let boxed = subst (λ (bs : List (Option Mailbox)). let s : State = record (first c.args.system) { procs = map process procs; boxes = bs; units = us } in AreHeld s None (map books_of procs) ls) (sym c.in_ok-boxes.ensures) held in
    let timed = subst (λ (ts : Roomy Timer). let s : State = record (first c.args.system) { procs = map process procs; timers = ts.items; boxes = c.in_ok-boxes.boxes.boxes; units = us } in AreHeld s None (map books_of procs) ls) (sym c.new-4.ensures) boxed in
    let asked = subst (λ (rs : Roomy Request). let s : State = record (first c.args.system) { procs = map process procs; timers = c.new-4.result.items; requests = rs.items; boxes = c.in_ok-boxes.boxes.boxes; units = us } in AreHeld s None (map books_of procs) ls) (sym c.new-5.ensures) timed in
    let called = subst (λ (es : Roomy Attention). let s : State = record (first c.args.system) { procs = map process procs; timers = c.new-4.result.items; requests = c.new-5.result.items; attention = es.items; boxes = c.in_ok-boxes.boxes.boxes; units = us } in AreHeld s None (map books_of procs) ls) (sym c.new-6.ensures) asked in
    let joined = subst (λ (x : Shared). let s : State = record (first c.args.system) { procs = map process procs; common = x.common; timers = c.new-4.result.items; requests = c.new-5.result.items; attention = c.new-6.result.items; boxes = c.in_ok-boxes.boxes.boxes; units = us } in AreHeld s None (map books_of procs) ls) (sym c.new-3.ensures) called in
    subst (λ (y : System). let s : State = record (first c.args.system) { system = y; procs = map process procs; common = c.new-3.result.common; timers = c.new-4.result.items; requests = c.new-5.result.items; attention = c.new-6.result.items; boxes = c.in_ok-boxes.boxes.boxes; units = us } in AreHeld s None (map books_of procs) ls) (sym c.in_ok-system.ensures) joined

pub returns-clause-home : goal.returns-clause-home
returns-clause-home g c = in_all c.in_ok-units.units.items c.in_ok-units.ensures.home
