-- The transcript of a run is read as the run's journal.
use Rattle.std.proofs.Common.{◌≡◌, ℕ, ◌+◌, ◌<◌, ◌≤◌, ◌^◌, true, List, [], ◌∷◌, ◌++◌, length, map, Some, Ok, Result, refl, sym, ap, subst, ◌∙◌, arith}
use Rattle.std.specs.List.{AllByRecursion}
use Rattle.std.proofs.lemmas.Grind.{flat_map-append}
use Rattle.std.proofs.lemmas.List.{map-append}
use Rattle.vx_base.specs.Name.{is_name}
use Rattle.vx_record.specs.Types.{DeviceUnit, End, ProcDecl, Rec, System, UnitDecl, UnitNo}
use Rattle.vx_image.specs.WellFormed.{are_distinct}
use Rattle.vx_text.specs.Quote.{AreBytes}
use Rattle.vx_units.specs.Units.{outputs_of}
use Rattle.vx_lines.specs.Records.{ended_lines, records_lines, unit_name}
use Rattle.vx_lines.specs.SpelledHead.{IsSpelledUnit}
use Rattle.vx_script.specs.Script.{script}
use Rattle.vx_record.proofs.Lists.{all_append, all_at, all_weaker}
use Rattle.vx_record.proofs.SoundSteps.{every_run_sound, run_keeps_system}
use Rattle.vx_record.specs.Runs.{after, first}
use Rattle.vx_record.specs.Sound.{ProcessStands, ground}
use Rattle.vx_record.specs.State.{Process, State, no_decl, pid}
use Rattle.vx_record.specs.Standing.{code_of, standing_of}
use Rattle.vx_roundtrip.specs.Held.{IsHeldUnit}
use Rattle.vx_spelled.proofs.Runs.{runs_spelled, unit_spelled}
use Rattle.vx_spelled.specs.Held.{AreNamed}
use Rattle.vx_journal.specs.ReadJournal.{ReadsJournal, header, journal_text}
use Rattle.vx_journal.specs.RunJournal.{IsHeldRun, run_journal}
use Rattle.vx_journal.specs.SpelledJournal.{IsSpelledJournal, IsSpelledLine, part_behind, trailer_text}
use Rattle.vx_journal.specs.Transcript.{end_line, output_lines, process_lines, process_name, trailer_lines, transcript, unit_lines}
use Rattle.vx_journal.specs.TrailerLines.{trailer_line}
use Rattle.vx_journal.specs.declared.journal.Journal.{Journal}
use Rattle.vx_journal.specs.declared.journal.JournalFail.{JournalFail}
use Rattle.vx_journal.specs.declared.journal.Part.TheVariants.{Ended}
use Rattle.vx_journal.specs.declared.trailer.Place.TheVariants as place
use Rattle.vx_journal.specs.declared.trailer.TrailerLine.{TrailerLine}
use Rattle.vx_journal.specs.declared.trailer.TrailerLine.TheVariants as trailer

-- The lines of a run's trailer.

standings : System → ℕ → List Process → List TrailerLine
standings system n [] = []
standings system n (pr ∷ prs) = trailer.Process (pid n) (process_name system pr) (standing_of pr) (code_of pr) ∷ standings system (n + 1) prs

of_unit : UnitNo → List (List ℕ) → List TrailerLine
of_unit u [] = []
of_unit u (bytes ∷ more) = trailer.Output u bytes ∷ of_unit u more

outputs : ℕ → List DeviceUnit → List TrailerLine
outputs n [] = []
outputs n (u ∷ us) = of_unit (record { 0 = n }) (outputs_of u.contents) ++ outputs (n + 1) us

abbrev run_lines : State → End → ℕ → List TrailerLine
run_lines s end n = standings s.system 1 s.procs ++ (outputs 0 s.units ++ trailer.End end n ∷ [])

standings_printed : (units : List UnitDecl) (system : System) (n : ℕ) (prs : List Process) → map (trailer_line units) (standings system n prs) ≡ process_lines system n prs
unfolding standings
standings_printed units system n [] = refl
standings_printed units system n (pr ∷ prs) = ap (λ z. trailer_line units (trailer.Process (pid n) (process_name system pr) (standing_of pr) (code_of pr)) ∷ z) (standings_printed units system (n + 1) prs)

of_unit_printed : (units : List UnitDecl) (u : UnitNo) (all : List (List ℕ)) → map (trailer_line units) (of_unit u all) ≡ output_lines (unit_name units u) all
unfolding of_unit
of_unit_printed units u [] = refl
of_unit_printed units u (bytes ∷ more) = ap (λ z. trailer_line units (trailer.Output u bytes) ∷ z) (of_unit_printed units u more)

outputs_printed : (units : List UnitDecl) (n : ℕ) (us : List DeviceUnit) → map (trailer_line units) (outputs n us) ≡ unit_lines units n us
unfolding outputs
outputs_printed units n [] = refl
outputs_printed units n (u ∷ us) =
    map-append (trailer_line units) (of_unit (record { 0 = n }) (outputs_of u.contents)) (outputs (n + 1) us)
    ∙ ap (λ z. z ++ map (trailer_line units) (outputs (n + 1) us)) (of_unit_printed units (record { 0 = n }) (outputs_of u.contents))
    ∙ ap (λ z. output_lines (unit_name units (record { 0 = n })) (outputs_of u.contents) ++ z) (outputs_printed units (n + 1) us)

ending_printed : (units : List UnitDecl) (us : List DeviceUnit) (end : End) (n : ℕ) → map (trailer_line units) (outputs 0 us ++ trailer.End end n ∷ []) ≡ unit_lines units 0 us ++ end_line end n ∷ []
ending_printed units us end n =
    map-append (trailer_line units) (outputs 0 us) (trailer.End end n ∷ []) ∙ ap (λ z. z ++ end_line end n ∷ []) (outputs_printed units 0 us)

lines_printed : (s : State) (end : End) (n : ℕ) → trailer_text s.system.units (run_lines s end n) ≡ ended_lines (trailer_lines s end n)
lines_printed s end n =
    let units : List UnitDecl = s.system.units in
    let rest : List TrailerLine = outputs 0 s.units ++ trailer.End end n ∷ [] in
    ap ended_lines (map-append (trailer_line units) (standings s.system 1 s.procs) rest ∙ ap (λ z. z ++ map (trailer_line units) rest) (standings_printed units s.system 1 s.procs) ∙ ap (λ z. process_lines s.system 1 s.procs ++ z) (ending_printed units s.units end n))

abbrev IsTold : System → Process → Type 0
IsTold system pr = (is_name (process_name system pr) ≡ true) × (code_of pr < 2 ^ 32)

standings_spelled : (units : List UnitDecl) (system : System) (n : ℕ) (prs : List Process) → n + length prs ≤ 2 ^ 32 → AllByRecursion (IsTold system) prs → AllByRecursion (IsSpelledLine units) (standings system n prs)
unfolding standings
standings_spelled units system n [] few h = tt
standings_spelled units system n (pr ∷ prs) few h =
    let small : n < 2 ^ 32 = omega (arith, few) in
    ((small, h.0.0, h.0.1), standings_spelled units system (n + 1) prs (omega (arith, few)) h.1)

of_unit_spelled : (units : List UnitDecl) (u : UnitNo) (all : List (List ℕ)) → IsSpelledUnit units u → AllByRecursion AreBytes all → AllByRecursion (IsSpelledLine units) (of_unit u all)
unfolding of_unit
of_unit_spelled units u [] is bytes = tt
of_unit_spelled units u (b ∷ more) is bytes = ((is, bytes.0), of_unit_spelled units u more is bytes.1)

outputs_spelled : (units : List UnitDecl) (n : ℕ) (us : List DeviceUnit) → n + length us ≤ length units → are_distinct (map (λ u. u.name) units) ≡ true → AreNamed units → AllByRecursion (λ u. AllByRecursion AreBytes (outputs_of u.contents)) us → AllByRecursion (IsSpelledLine units) (outputs n us)
unfolding outputs
outputs_spelled units n [] few distinct named bytes = tt
outputs_spelled units n (u ∷ us) few distinct named bytes =
    let no : UnitNo = record { 0 = n } in
    let is : IsSpelledUnit units no = unit_spelled units no (omega (arith, few)) distinct named in
    all_append (IsSpelledLine units) (of_unit no (outputs_of u.contents)) (outputs (n + 1) us) (of_unit_spelled units no (outputs_of u.contents) is bytes.0) (outputs_spelled units (n + 1) us (omega (arith, few)) distinct named bytes.1)

-- The lines stand in their order.

abbrev IsOutput : TrailerLine → Type 0
IsOutput (trailer.Output u bytes) = Unit {0}
IsOutput _ = ⊥

of_unit_are : (u : UnitNo) (all : List (List ℕ)) → AllByRecursion IsOutput (of_unit u all)
unfolding of_unit
of_unit_are u [] = tt
of_unit_are u (bytes ∷ more) = (tt, of_unit_are u more)

outputs_are : (n : ℕ) (us : List DeviceUnit) → AllByRecursion IsOutput (outputs n us)
unfolding outputs
outputs_are n [] = tt
outputs_are n (u ∷ us) = all_append IsOutput (of_unit (record { 0 = n }) (outputs_of u.contents)) (outputs (n + 1) us) (of_unit_are (record { 0 = n }) (outputs_of u.contents)) (outputs_are (n + 1) us)

behind_outputs : (ts : List TrailerLine) (end : End) (m : ℕ) → AllByRecursion IsOutput ts → part_behind place.Outputs (ts ++ trailer.End end m ∷ []) ≡ Some Ended
behind_outputs [] end m all = refl
behind_outputs (trailer.Process p name st code ∷ ts) end m all = absurd all.0
behind_outputs (trailer.Output u bytes ∷ ts) end m all = behind_outputs ts end m all.1
behind_outputs (trailer.End e n ∷ ts) end m all = absurd all.0

behind_processes : (ts : List TrailerLine) (end : End) (m : ℕ) → AllByRecursion IsOutput ts → part_behind place.Processes (ts ++ trailer.End end m ∷ []) ≡ Some Ended
behind_processes [] end m all = refl
behind_processes (trailer.Process p name st code ∷ ts) end m all = absurd all.0
behind_processes (trailer.Output u bytes ∷ ts) end m all = behind_outputs ts end m all.1
behind_processes (trailer.End e n ∷ ts) end m all = absurd all.0

behind_records : (ts : List TrailerLine) (end : End) (m : ℕ) → AllByRecursion IsOutput ts → part_behind place.Records (ts ++ trailer.End end m ∷ []) ≡ Some Ended
behind_records [] end m all = refl
behind_records (trailer.Process p name st code ∷ ts) end m all = absurd all.0
behind_records (trailer.Output u bytes ∷ ts) end m all = behind_outputs ts end m all.1
behind_records (trailer.End e n ∷ ts) end m all = absurd all.0

part_after : (system : System) (n : ℕ) (prs : List Process) (ts : List TrailerLine) (end : End) (m : ℕ) → AllByRecursion IsOutput ts → part_behind place.Processes (standings system n prs ++ (ts ++ trailer.End end m ∷ [])) ≡ Some Ended
unfolding standings
part_after system n [] ts end m all = behind_processes ts end m all
part_after system n (pr ∷ prs) ts end m all = part_after system (n + 1) prs ts end m all

part_of_run : (system : System) (prs : List Process) (ts : List TrailerLine) (end : End) (m : ℕ) → AllByRecursion IsOutput ts → part_behind place.Records (standings system 1 prs ++ (ts ++ trailer.End end m ∷ [])) ≡ Some Ended
unfolding standings
part_of_run system [] ts end m all = behind_records ts end m all
part_of_run system (pr ∷ prs) ts end m all = part_after system 2 prs ts end m all

-- The journal of a run has a spelling, and that is the transcript.

named : (system : System) (s : State) (pr : Process) → s.system ≡ system → AllByRecursion (λ (d : ProcDecl). is_name d.name ≡ true) system.decls → ProcessStands (ground s) pr → is_name (process_name system pr) ≡ true
named system s pr same held stands =
    let within : pr.decl < length system.decls = subst (λ (x : System). pr.decl < length x.decls) same stands.decl in
    all_at (λ (d : ProcDecl). is_name d.name ≡ true) system.decls pr.decl no_decl held within

told : (system : System) (s : State) (prs : List Process) → s.system ≡ system → AllByRecursion (λ (d : ProcDecl). is_name d.name ≡ true) system.decls → AllByRecursion (ProcessStands (ground s)) prs → AllByRecursion (λ pr. code_of pr < 2 ^ 32) prs → AllByRecursion (IsTold system) prs
told system s [] same held stand codes = tt
told system s (pr ∷ prs) same held stand codes = ((named system s pr same held stand.0, codes.0), told system s prs same held stand.1 codes.1)

pub run_spelled : (system : System) (recs : List Rec) (end : End) → IsHeldRun system recs → IsSpelledJournal (run_journal system recs end)
run_spelled system recs end h =
    let s : State = after system recs in
    let same : s.system ≡ system = run_keeps_system (first system) recs in
    let sound = every_run_sound system recs h.formed h.run in
    let procs = told system s s.procs same h.held.decls sound.procs h.codes in
    let own : AllByRecursion (IsTold s.system) s.procs = subst (λ (x : System). AllByRecursion (IsTold x) s.procs) (sym same) procs in
    let count : length recs < 2 ^ 32 = omega (arith, h.run.few) in
    let named : AreNamed system.units = all_weaker IsHeldUnit (λ u. is_name u.name ≡ true) (λ u k. k.0) system.units h.held.units in
    let units : length s.units ≡ length system.units = subst (λ (x : System). length s.units ≡ length x.units) same sound.units in
    let ends : List TrailerLine = trailer.End end (length recs) ∷ [] in
    let told_units = outputs_spelled system.units 0 s.units (omega (arith, units)) h.formed.unit_names named h.outputs in
    record {
      lines = run_lines s end (length recs);
      formed = h.formed;
      held = h.held;
      few = count;
      recs = runs_spelled system recs h.formed named h.run h.recs_held;
      spelled = all_append (IsSpelledLine system.units) (standings s.system 1 s.procs) (outputs 0 s.units ++ ends) (standings_spelled system.units s.system 1 s.procs (omega (arith, h.few)) own) (all_append (IsSpelledLine system.units) (outputs 0 s.units) ends told_units (count, tt));
      trailer = sym (subst (λ (x : System). trailer_text x.units (run_lines s end (length recs)) ≡ ended_lines (trailer_lines s end (length recs))) same (lines_printed s end (length recs)));
      part = part_of_run s.system s.procs (outputs 0 s.units) end (length recs) (outputs_are 0 s.units);
    }

pub transcript_is : (system : System) (recs : List Rec) (end : End) → transcript system recs end ≡ journal_text (run_journal system recs end)
transcript_is system recs end =
    ap (λ z. script system ++ (header ++ z)) (flat_map-append (λ (line : List ℕ). line ++ 10 ∷ []) (records_lines system.units 1 recs) (trailer_lines (after system recs) end (length recs)))

-- what a reader gives of the transcript of a run, that gives what the text of a journal says
pub run_back : (text : List ℕ) (r : Result Journal JournalFail) → ((j : Journal) → IsSpelledJournal j → text ≡ journal_text j → ReadsJournal r (Ok j)) → (system : System) (recs : List Rec) (end : End) → IsHeldRun system recs → text ≡ transcript system recs end → ReadsJournal r (Ok (run_journal system recs end))
run_back text r back system recs end h is = back (run_journal system recs end) (run_spelled system recs end h) (is ∙ transcript_is system recs end)
