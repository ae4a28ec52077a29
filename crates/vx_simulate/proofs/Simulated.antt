-- A run that is written as it goes, and its text.
use Rattle.std.proofs.Common.{◌≡◌, ℕ, ◌+◌, ◌-◌, ◌≤◌, List, [], ◌∷◌, ◌++◌, length, take, drop, take-append-drop, None, Some, Option, ap, refl, sym, subst, ◌∙◌, append_assoc, append-nil, arith, codes}
use Rattle.std.proofs.KnownBytes.{Appends-nil, Appends-trans}
use Rattle.std.proofs.Math.Seq.{take-append_seam}
use Rattle.std.proofs.lemmas.Grind.{flat_map-append}
use Rattle.std.specs.Io.KnownBytes.{Appends}
use Rattle.vx_journal.proofs.RecordsSpelled.{records_more}
use Rattle.vx_record.specs.Types.{End, Event, Rec, System}
use Rattle.vx_exec.proofs.Runs.{Taking, begun, chosen_run, ended_run, taken_more, opened}
use Rattle.vx_exec.specs.Picks.{moved_seed, picked_event}
use Rattle.vx_exec.specs.Taken.{IsChosenRun}
use Rattle.vx_exec.specs.View.{Executive, Plan, after_step, plan}
use Rattle.vx_host.specs.Causes.{Rose}
use Rattle.vx_host.specs.Streams.{AppendsFront}
use Rattle.vx_journal.specs.Transcript.{trailer_lines, transcript}
use Rattle.vx_lines.specs.Records.{record_lines, records_lines}
use Rattle.vx_record.specs.Events.{enabled}
use Rattle.vx_record.specs.Runs.{IsRun, after, chosen, chosen_from, end_after, end_of, first, record_of}
use Rattle.vx_record.specs.State.{State}
use Rattle.vx_script.specs.Script.{ended_lines, script, script_lines}
use Rattle.vx_simulate.proofs.ChosenRuns.{chosen_ends, chosen_is_run}
use Rattle.vx_simulate.specs.Simulated.{IsCut, IsSimText, IsSimulated, cut, ran}
use Rattle.vx_simulate.specs.Simulating.{GainsFront, GainsLines, GainsRun, Sends, kept, lines_so_far, sent}
use Rattle.vx_tell.specs.Code.{status_of_end}
use Rattle.vx_tell.specs.Lines.{no_memory}
use Rattle.vx_tell.specs.Told.{Only, Told, broken, only, whole}
use Rattle.vx_tell.specs.declared.status.Status.{Status}
use Rattle.vx_tell.specs.declared.status.Status.TheVariants.{NoMemory, WriteFault}
use Rattle.vx_words.specs.declared.command.Options.{Options}

-- What a sink gained.

-- the start of a text behind what was written before
pub front_behind : (a b c : Option (List ℕ)) (xs ys zs text : List ℕ) → text ≡ xs ++ (ys ++ zs) → Appends a b xs → AppendsFront b c ys → AppendsFront a c text
front_behind a b c xs ys zs text is before now =
    let front = xs ++ take now.n ys in
    let rest = drop now.n ys ++ zs in
    let parts : text ≡ front ++ rest = is ∙ (ap (λ (l : List ℕ). xs ++ (l ++ zs)) (sym (take-append-drop now.n ys)) ∙ simp append_assoc) in
    let same : take (length front) text ≡ front = ap (take (length front)) parts ∙ take-append_seam front rest in
    record { n = length front; grown = subst (λ (l : List ℕ). Appends a c l) (sym same) (Appends-trans a b c xs (take now.n ys) before now.grown) }

-- The lines of a transcript.

joined : (xs rs ss : List (List ℕ)) (line : List ℕ) → ended_lines (xs ++ line ∷ rs) ++ ended_lines ss ≡ ended_lines xs ++ ended_lines (line ∷ (rs ++ ss))
joined xs rs ss line = simp (flat_map-append, append_assoc)

-- the lines of one record more
one_more : (system : System) (rs : List Rec) (r : Rec) → ended_lines (lines_so_far system rs) ++ ended_lines (record_lines system.units (1 + length rs) r) ≡ ended_lines (lines_so_far system (rs ++ r ∷ []))
one_more system rs r =
    let lines : records_lines system.units 1 (rs ++ r ∷ []) ≡ records_lines system.units 1 rs ++ record_lines system.units (1 + length rs) r =
    records_more system.units 1 rs (r ∷ []) ∙ ap (λ ls. records_lines system.units 1 rs ++ ls) (append-nil (record_lines system.units (1 + length rs) r)) in
    simp (flat_map-append, append_assoc, lines)

pub front_spelled : (system : System) (text : List ℕ) → text ≡ script system ++ codes "$JOURNAL 1\n" → text ≡ ended_lines (lines_so_far system [])
front_spelled system text is = is ∙ sym (simp flat_map-append)

-- what stands behind the lines of the first records of a run
abbrev rest_lines : System → List Rec → List Rec → End → List (List ℕ)
rest_lines system rs ss end = records_lines system.units (1 + length rs) ss ++ trailer_lines (after system (rs ++ ss)) end (length (rs ++ ss))

parted : (system : System) (rs ss : List Rec) (end : End) → ended_lines (lines_so_far system rs) ++ ended_lines (rest_lines system rs ss end) ≡ transcript system (rs ++ ss) end
parted system rs ss end =
    let trailer = trailer_lines (after system (rs ++ ss)) end (length (rs ++ ss)) in
    joined (script_lines system) (records_lines system.units 1 rs) (rest_lines system rs ss end) (codes "$JOURNAL 1")
    ∙ ap (λ ls. script system ++ ended_lines (codes "$JOURNAL 1" ∷ ls)) (sym (append_assoc (records_lines system.units 1 rs) (records_lines system.units (1 + length rs) ss) trailer) ∙ ap (λ ls. ls ++ trailer) (sym (records_more system.units 1 rs ss)))

-- Every chosen run has a transcript.

pub chosen_transcript : (system : System) (options : Options) → options.limit ≤ 100000 → (end : End) × IsSimulated system options end (transcript system (chosen system options.seed options.limit) end)
chosen_transcript system options within =
    let ends = chosen_ends system options.seed options.limit in
    (ends.0, record { run = chosen_is_run system options.seed options.limit within; ended = ends.1; spells = refl })

-- A run that is written as it goes.

-- The lines of the records so far were written or wait to be, and the seed chooses the rest.
pub record Writing (system : System) (options : Options) (now : Executive) (next : ℕ) (held held_now : Option (List ℕ)) (pending : List ℕ) : Type 0 where
  pub recs : List Rec
  pub taking : Taking (opened system options.limit) now options.seed next recs
  pub lines : List (List ℕ)
  pub written : Appends held held_now (ended_lines lines)
  pub all : ended_lines lines ++ pending ≡ ended_lines (lines_so_far system recs)

pub begun_writing : (system : System) (options : Options) (now : Executive) (held held_now : Option (List ℕ)) (front : List ℕ) → now ≡ opened system options.limit → front ≡ ended_lines (lines_so_far system []) → Appends held held_now front → Writing system options now options.seed held held_now []
begun_writing system options now held held_now front opens is written = record {
  recs = [];
  taking = subst (λ (e : Executive). Taking (opened system options.limit) e options.seed options.seed []) (sym opens) (begun (opened system options.limit) options.seed);
  lines = lines_so_far system [];
  written = subst (λ (l : List ℕ). Appends held held_now l) is written;
  all = append-nil (ended_lines (lines_so_far system []));
}

-- what was taken is the machine's, and the system is as it was
same_system : (system : System) (limit : ℕ) (now : Executive) → plan now ≡ plan (opened system limit) → now.state.system ≡ system
same_system system limit now planned = ap (λ (p : Plan). p.system) planned

pub more_written : (system : System) (options : Options) (now later : Executive) (x y : ℕ) (e : Event) (held held_now : Option (List ℕ)) (pending more : List ℕ) → Writing system options now x held held_now pending → None ≡ end_of now.limit now.taken now.state → Some e ≡ picked_event x (enabled now.state) → y ≡ moved_seed x (enabled now.state) → later ≡ after_step now e → plan later ≡ plan now → more ≡ pending ++ ended_lines (record_lines later.state.system.units later.taken (record_of now.state e)) → Writing system options later y held held_now more
more_written system options now later x y e held held_now pending more so_far going picks moves becomes planned printed =
    let r : Rec = record_of now.state e in
    let recs = so_far.recs in
    let taking = taken_more (opened system options.limit) now later options.seed x y recs r e so_far.taking going picks moves refl becomes planned in
    let named : later.state.system ≡ system = same_system system options.limit later taking.takes.planned in
    let counted : later.taken ≡ 1 + length recs = omega (arith, so_far.taking.takes.counted, ap (λ (z : Executive). z.taken) becomes) in
    let own : more ≡ pending ++ ended_lines (record_lines system.units (1 + length recs) r) = printed ∙ (ap (λ (s : System). pending ++ ended_lines (record_lines s.units later.taken r)) named ∙ ap (λ (k : ℕ). pending ++ ended_lines (record_lines system.units k r)) counted) in
    record {
      recs = recs ++ r ∷ [];
      taking = taking;
      lines = so_far.lines;
      written = so_far.written;
      all = ap (λ (l : List ℕ). ended_lines so_far.lines ++ l) own ∙ (sym (append_assoc (ended_lines so_far.lines) pending (ended_lines (record_lines system.units (1 + length recs) r)))
          ∙ (ap (λ (l : List ℕ). l ++ ended_lines (record_lines system.units (1 + length recs) r)) so_far.all ∙ one_more system recs r));
    }

pub still_written : (system : System) (options : Options) (now : Executive) (next : ℕ) (held held_now held_after : Option (List ℕ)) (pending more : List ℕ) → Writing system options now next held held_now pending → Sends held_now held_after pending more → Writing system options now next held held_after more
still_written system options now next held held_now held_after pending more so_far (kept same) = record {
  recs = so_far.recs;
  taking = so_far.taking;
  lines = so_far.lines;
  written = subst (λ (h : Option (List ℕ)). Appends held h (ended_lines so_far.lines)) (sym same) so_far.written;
  all = so_far.all;
}
still_written system options now next held held_now held_after pending more so_far (sent written) = record {
  recs = so_far.recs;
  taking = so_far.taking;
  lines = lines_so_far system so_far.recs;
  written = subst (λ (l : List ℕ). Appends held held_after l) so_far.all (Appends-trans held held_now held_after (ended_lines so_far.lines) pending so_far.written written);
  all = append-nil (ended_lines (lines_so_far system so_far.recs));
}

-- What a run that stops leaves.

-- what was written and what waits stand at the front of a transcript
record IsBegun (system : System) (options : Options) (front : List ℕ) : Type 0 where
  end : End
  rest : List ℕ
  simulated : IsSimulated system options end (front ++ rest)

is_begun : (system : System) (options : Options) (now : Executive) (next : ℕ) (held held_now : Option (List ℕ)) (pending : List ℕ) → options.limit ≤ 100000 → (so_far : Writing system options now next held held_now pending) → IsBegun system options (ended_lines so_far.lines ++ pending)
is_begun system options now next held held_now pending within so_far =
    let recs = so_far.recs in
    let more = chosen_from (now.limit - now.taken) now.state next in
    let whole : options.limit - 0 ≡ options.limit = omega arith in
    let picks : recs ++ more ≡ chosen system options.seed options.limit = so_far.taking.chosen ∙ ap (λ (n : ℕ). chosen_from n (first system) options.seed) whole in
    let there = chosen_transcript system options within in
    let spelled : (ended_lines so_far.lines ++ pending) ++ ended_lines (rest_lines system recs more there.0) ≡ transcript system (chosen system options.seed options.limit) there.0 =
    ap (λ (l : List ℕ). l ++ ended_lines (rest_lines system recs more there.0)) so_far.all ∙ (parted system recs more there.0 ∙ ap (λ rs. transcript system rs there.0) picks) in
    record {
      end = there.0;
      rest = ended_lines (rest_lines system recs more there.0);
      simulated = record { run = there.1.run; ended = there.1.ended; spells = spelled };
    }

pub no_lines : (system : System) (options : Options) (held : Option (List ℕ)) → options.limit ≤ 100000 → GainsLines system options held held
no_lines system options held within =
    let there = chosen_transcript system options within in
    record { end = there.0; lines = []; rest = transcript system (chosen system options.seed options.limit) there.0; simulated = there.1; written = Appends-nil held }

pub some_lines : (system : System) (options : Options) (now : Executive) (next : ℕ) (held held_now : Option (List ℕ)) (pending : List ℕ) → options.limit ≤ 100000 → Writing system options now next held held_now pending → GainsLines system options held held_now
some_lines system options now next held held_now pending within so_far =
    let there = is_begun system options now next held held_now pending within so_far in
    record {
      end = there.end;
      lines = so_far.lines;
      rest = pending ++ there.rest;
      simulated = subst (λ (l : List ℕ). IsSimulated system options there.end l) (append_assoc (ended_lines so_far.lines) pending there.rest) there.simulated;
      written = so_far.written;
    }

pub some_front : (system : System) (options : Options) (now : Executive) (next : ℕ) (held held_now held_after : Option (List ℕ)) (pending : List ℕ) → options.limit ≤ 100000 → Writing system options now next held held_now pending → AppendsFront held_now held_after pending → GainsFront system options held held_after
some_front system options now next held held_now held_after pending within so_far failed =
    let there = is_begun system options now next held held_now pending within so_far in
    let text = (ended_lines so_far.lines ++ pending) ++ there.rest in
    record {
      end = there.end;
      text = text;
      simulated = there.simulated;
      front = front_behind held held_now held_after (ended_lines so_far.lines) pending there.rest text (append_assoc (ended_lines so_far.lines) pending there.rest) so_far.written failed;
    }

-- the first write failed
pub front_of_front : (system : System) (options : Options) (held held_after : Option (List ℕ)) (front : List ℕ) → options.limit ≤ 100000 → front ≡ ended_lines (lines_so_far system []) → AppendsFront held held_after front → GainsFront system options held held_after
front_of_front system options held held_after front within is failed =
    some_front system options (opened system options.limit) options.seed held held held_after front within
    (record { recs = []; taking = begun (opened system options.limit) options.seed; lines = []; written = Appends-nil held; all = is }) failed

-- A run that has ended.

ended_text : (system : System) (options : Options) (now : Executive) (next : ℕ) (held held_now : Option (List ℕ)) (pending last : List ℕ) (end : End) → options.limit ≤ 100000 → (so_far : Writing system options now next held held_now pending) → Some end ≡ end_of now.limit now.taken now.state → last ≡ pending ++ ended_lines (trailer_lines now.state end now.taken) → IsSimulated system options end (ended_lines so_far.lines ++ last)
ended_text system options now next held held_now pending last end within so_far ended printed =
    let recs = so_far.recs in
    let ran : IsChosenRun system options.seed options.limit now recs end =
    chosen_run system options.seed options.limit (opened system options.limit) now recs end within refl (ended_run (opened system options.limit) now options.seed next recs end so_far.taking ended) in
    let trailer : trailer_lines now.state end now.taken ≡ trailer_lines (after system recs) end (length recs) =
    ap (λ (s : State). trailer_lines s end now.taken) ran.now ∙ ap (λ (n : ℕ). trailer_lines (after system recs) end n) ran.counted in
    let whole : recs ++ [] ≡ recs = append-nil recs in
    let parts : ended_lines (lines_so_far system recs) ++ ended_lines (trailer_lines (after system recs) end (length recs)) ≡ transcript system recs end =
    joined (script_lines system) (records_lines system.units 1 recs) (trailer_lines (after system recs) end (length recs)) (codes "$JOURNAL 1") in
    let spelled : ended_lines so_far.lines ++ last ≡ transcript system recs end =
    ap (λ (l : List ℕ). ended_lines so_far.lines ++ l) (printed ∙ ap (λ ls. pending ++ ended_lines ls) trailer)
    ∙ (sym (append_assoc (ended_lines so_far.lines) pending (ended_lines (trailer_lines (after system recs) end (length recs))))
    ∙ (ap (λ (l : List ℕ). l ++ ended_lines (trailer_lines (after system recs) end (length recs))) so_far.all ∙ parts)) in
    record {
      run = subst (λ rs. IsRun system rs) ran.chosen ran.run;
      ended = subst (λ rs. end_after system rs options.limit ≡ Some end) ran.chosen ran.ended;
      spells = spelled ∙ ap (λ rs. transcript system rs end) ran.chosen;
    }

pub run_written : (system : System) (options : Options) (now : Executive) (next : ℕ) (held held_now held_after : Option (List ℕ)) (pending last : List ℕ) (end : End) → options.limit ≤ 100000 → Writing system options now next held held_now pending → Some end ≡ end_of now.limit now.taken now.state → last ≡ pending ++ ended_lines (trailer_lines now.state end now.taken) → Appends held_now held_after last → GainsRun system options held held_after end
run_written system options now next held held_now held_after pending last end within so_far ended printed written = record {
  text = ended_lines so_far.lines ++ last;
  simulated = ended_text system options now next held held_now pending last end within so_far ended printed;
  written = Appends-trans held held_now held_after (ended_lines so_far.lines) last so_far.written written;
}

pub run_broken : (system : System) (options : Options) (now : Executive) (next : ℕ) (held held_now held_after : Option (List ℕ)) (pending last : List ℕ) (end : End) → options.limit ≤ 100000 → Writing system options now next held held_now pending → Some end ≡ end_of now.limit now.taken now.state → last ≡ pending ++ ended_lines (trailer_lines now.state end now.taken) → AppendsFront held_now held_after last → GainsFront system options held held_after
run_broken system options now next held held_now held_after pending last end within so_far ended printed failed =
    let text = ended_lines so_far.lines ++ last in
    record {
      end = end;
      text = text;
      simulated = ended_text system options now next held held_now pending last end within so_far ended printed;
      front = front_behind held held_now held_after (ended_lines so_far.lines) last [] text (ap (λ (l : List ℕ). ended_lines so_far.lines ++ l) (sym (append-nil last))) so_far.written failed;
    }

-- The line on memory behind what was written.

cut_text : (system : System) (options : Options) (held held_now : Option (List ℕ)) (gained : GainsLines system options held held_now) → IsCut system options (ended_lines gained.lines ++ no_memory)
cut_text system options held held_now gained = record { end = gained.end; lines = gained.lines; rest = gained.rest; simulated = gained.simulated; spells = refl }

-- How a run was told.

pub told_run : (system : System) (options : Options) (faults faults_after : ℕ) (held held_after : Option (List ℕ)) (end : End) → GainsRun system options held held_after end → Told (IsSimText options system) faults faults_after held held_after (status_of_end end)
told_run system options faults faults_after held held_after end gained = whole (status_of_end end) gained.text (ran end gained.text gained.simulated) gained.written

pub told_front : (system : System) (options : Options) (faults faults_after : ℕ) (held held_after : Option (List ℕ)) → GainsFront system options held held_after → Rose faults faults_after → Told (IsSimText options system) faults faults_after held held_after WriteFault
told_front system options faults faults_after held held_after gained rose = broken (status_of_end gained.end) gained.text (ran gained.end gained.text gained.simulated) gained.front rose

pub told_cut : (system : System) (options : Options) (faults faults_now faults_after : ℕ) (held held_now held_after : Option (List ℕ)) (answer : Status) → faults ≤ faults_now → GainsLines system options held held_now → Told (Only NoMemory no_memory) faults_now faults_after held_now held_after answer → Told (IsSimText options system) faults faults_after held held_after answer
told_cut system options faults faults_now faults_after held held_now held_after answer later gained (whole s line only written) =
    whole NoMemory (ended_lines gained.lines ++ no_memory) (cut (ended_lines gained.lines ++ no_memory) (cut_text system options held held_now gained)) (Appends-trans held held_now held_after (ended_lines gained.lines) no_memory gained.written written)
told_cut system options faults faults_now faults_after held held_now held_after answer later gained (broken s line only front rose) =
    let text = ended_lines gained.lines ++ no_memory in
    broken NoMemory text (cut text (cut_text system options held held_now gained))
    (front_behind held held_now held_after (ended_lines gained.lines) no_memory [] text (ap (λ (l : List ℕ). ended_lines gained.lines ++ l) (sym (append-nil no_memory))) gained.written front)
    (λ n. omega (arith, later, rose n))
