-- Two worked examples: a script that sets, reads and clears a flag and exits, and one whose flags are refused.
use Rattle.std.specs.Prelude.{◌≡◌, ℕ, List, [], ◌∷◌, map, take, codes, true, false, Some, Ok, Err}
use Rattle.vx_base.specs.declared.mode.Mode.TheVariants.{User}
use Rattle.vx_record.specs.Types.{Arg, Call, Cond, Effect, Pid, ProcDecl, Rec, Service, System}
use Rattle.vx_base.specs.declared.service.Service.TheVariants.{SetEf, ClrEf, ReadEf, Exit}
use Rattle.vx_base.specs.declared.call.Arg.TheVariants.{Value, Target, Unused}
use Rattle.vx_base.specs.declared.call.Operand.TheVariants.{Num}
use Rattle.vx_base.specs.declared.call.Target.TheVariants.{Var}
use Rattle.vx_base.specs.declared.cond.Cond.TheVariants.{Normal, WasClr, WasSet, IllEfc, UnasEfc}
use Rattle.vx_base.specs.declared.effects.Cell.TheVariants.{Local}
use Rattle.vx_base.specs.declared.effects.Effect.TheVariants as effect
use Rattle.vx_base.specs.declared.record.Answer.TheVariants as answered_by
use Rattle.vx_base.specs.declared.record.Answer.TheVariants.{Gone}
use Rattle.vx_base.specs.declared.record.End.TheVariants.{Done}
use Rattle.vx_base.specs.declared.record.Event.TheVariants.{Run, Rdn}
use Rattle.vx_image.specs.declared.stmt.Stmt.TheVariants as stmt
use Rattle.vx_grammar.specs.Grammar.{Spells}
use Rattle.vx_record.specs.Runs.{chosen, end_after}
use Rattle.vx_journal.specs.ReadJournal.{journal_of}
use Rattle.vx_journal.specs.Transcript.{transcript}
use Rattle.vx_journal.specs.declared.journal.Journal.{Journal}
use Rattle.vx_journal.specs.declared.journal.Part.TheVariants.{Cut, Ended}
use Rattle.vx_check.specs.Verdict.{IsVerdict, run_verdict}
use Rattle.vx_check.specs.declared.verdict.Verdict.TheVariants.{Bad, Complete, Prefix}

-- a call, by its service and its first two arguments
abbrev pub calling : Service → Arg → Arg → Call
calling service a b = record { service = service; args = record { a0 = a; a1 = b; a2 = Unused; a3 = Unused; a4 = Unused; a5 = Unused; a6 = Unused; a7 = Unused; a8 = Unused } }

-- the process P of image MAIN, with each key as it is if its line names none
abbrev pub usual_process : ProcDecl
usual_process = record {
  name = codes "P";
  image = 0;
  group = 1;
  member = 1;
  mode = User;
  limits = record { ast = 24; bio = 18; dio = 18; byt = 8192; tqe = 10 };
  privs = record { cmexec = false; cmkrnl = false; group = false; prmceb = false; prmmbx = false; world = false };
  start = true;
}

-- that process alone, whose image makes these calls
abbrev pub system_of : List Call → System
system_of calls = record { units = []; images = record { name = codes "MAIN"; labels = []; stmts = map stmt.Service calls } ∷ []; decls = usual_process ∷ [] }

-- $SETEF n
abbrev pub setef : ℕ → Call
setef n = calling SetEf (Value (Num n)) Unused

-- the system of the first example
abbrev pub flag_system : System
flag_system = system_of (setef 5 ∷ calling ReadEf (Value (Num 5)) (Target (Var 65)) ∷ calling ClrEf (Value (Num 5)) Unused ∷ calling Exit (Value (Num 1)) Unused ∷ [])

-- its text
abbrev pub flag_script : List ℕ
flag_script = codes "IMAGE MAIN\n$SETEF 5\n$READEF 5,A\n$CLREF 5\n$EXIT\nEND\nPROCESS P MAIN\n"

abbrev pub first_pid : Pid
first_pid = record { 0 = 1 }

-- process 1 calls a service
abbrev pub called : Call → Cond → List Effect → Rec
called call cond effects = record { event = Run first_pid; answer = answered_by.Service call cond; effects = effects }

abbrev pub flag_records : List Rec
flag_records =
    called (calling SetEf (Value (Num 5)) Unused) WasClr (effect.Flag (Local first_pid 5) true ∷ [])
    ∷ called (calling ReadEf (Value (Num 5)) (Target (Var 65))) WasSet (effect.Var first_pid (Var 65) 32 ∷ [])
    ∷ called (calling ClrEf (Value (Num 5)) Unused) WasSet (effect.Flag (Local first_pid 5) false ∷ [])
    ∷ called (calling Exit (Value (Num 1)) Unused) Normal []
    ∷ record { event = Rdn first_pid; answer = Gone; effects = effect.Gone first_pid ∷ [] }
    ∷ []

abbrev pub flag_transcript : List ℕ
flag_transcript = codes "IMAGE MAIN\n  $SETEF 5\n  $READEF 5,A\n  $CLREF 5\n  $EXIT 1\nEND\nPROCESS P MAIN UIC=1:1 MODE=USER ASTLM=24 BIOLM=18 DIOLM=18 BYTLM=8192 TQELM=10 PRIV=NONE START=1\n$JOURNAL 1\n1 RUN 1 $SETEF 5 WASCLR\n FLAG 1:5 1\n2 RUN 1 $READEF 5,A WASSET\n VAR 1 A 32\n3 RUN 1 $CLREF 5 WASSET\n FLAG 1:5 0\n4 RUN 1 $EXIT 1 NORMAL\n5 RDN 1 GONE\n GONE 1\nPROCESS 1 P GONE 1\n$END DONE 5\n"

-- The script says the system, the records are the run that seed 0 chooses, and the transcript is theirs.
pub record IsFlagExample : Type 0 where
  pub script : Spells flag_script flag_system
  pub run : chosen flag_system 0 10000 ≡ flag_records
  pub ended : end_after flag_system flag_records 10000 ≡ Some Done
  pub output : transcript flag_system flag_records Done ≡ flag_transcript

-- Flags at the ends of their ranges, and an image that ends.

-- the system of the second example
abbrev pub refused_system : System
refused_system = system_of (setef 31 ∷ setef 63 ∷ setef 64 ∷ setef 127 ∷ setef 128 ∷ [])

-- its text
abbrev pub refused_script : List ℕ
refused_script = codes "IMAGE MAIN\n$SETEF 31\n$SETEF 63\n$SETEF 64\n$SETEF 127\n$SETEF 128\nEND\nPROCESS P MAIN\n"

-- process 1 sets a flag
abbrev pub sets : ℕ → Cond → List Effect → Rec
sets n cond effects = called (calling SetEf (Value (Num n)) Unused) cond effects

abbrev pub refused_records : List Rec
refused_records =
    sets 31 WasClr (effect.Flag (Local first_pid 31) true ∷ [])
    ∷ sets 63 WasClr (effect.Flag (Local first_pid 63) true ∷ [])
    ∷ sets 64 UnasEfc []
    ∷ sets 127 UnasEfc []
    ∷ sets 128 IllEfc []
    ∷ record { event = Run first_pid; answer = answered_by.End; effects = [] }
    ∷ record { event = Rdn first_pid; answer = Gone; effects = effect.Gone first_pid ∷ [] }
    ∷ []

abbrev pub refused_transcript : List ℕ
refused_transcript = codes "IMAGE MAIN\n  $SETEF 31\n  $SETEF 63\n  $SETEF 64\n  $SETEF 127\n  $SETEF 128\nEND\nPROCESS P MAIN UIC=1:1 MODE=USER ASTLM=24 BIOLM=18 DIOLM=18 BYTLM=8192 TQELM=10 PRIV=NONE START=1\n$JOURNAL 1\n1 RUN 1 $SETEF 31 WASCLR\n FLAG 1:31 1\n2 RUN 1 $SETEF 63 WASCLR\n FLAG 1:63 1\n3 RUN 1 $SETEF 64 UNASEFC\n4 RUN 1 $SETEF 127 UNASEFC\n5 RUN 1 $SETEF 128 ILLEFC\n6 RUN 1 END\n7 RDN 1 GONE\n GONE 1\nPROCESS 1 P GONE 8052\n$END DONE 7\n"

-- The script says the system, the records are the run that seed 0 chooses, and the transcript is theirs.
pub record IsRefusedExample : Type 0 where
  pub script : Spells refused_script refused_system
  pub run : chosen refused_system 0 10000 ≡ refused_records
  pub ended : end_after refused_system refused_records 10000 ≡ Some Done
  pub output : transcript refused_system refused_records Done ≡ refused_transcript

-- The first example's transcript, read back and judged.

abbrev pub flag_journal : Journal
flag_journal = record { system = flag_system; recs = flag_records; part = Ended; trailer = codes "PROCESS 1 P GONE 1\n$END DONE 5\n" }

-- cut behind record 2
abbrev pub cut_transcript : List ℕ
cut_transcript = codes "IMAGE MAIN\n  $SETEF 5\n  $READEF 5,A\n  $CLREF 5\n  $EXIT 1\nEND\nPROCESS P MAIN UIC=1:1 MODE=USER ASTLM=24 BIOLM=18 DIOLM=18 BYTLM=8192 TQELM=10 PRIV=NONE START=1\n$JOURNAL 1\n1 RUN 1 $SETEF 5 WASCLR\n FLAG 1:5 1\n2 RUN 1 $READEF 5,A WASSET\n VAR 1 A 32\n"

abbrev pub cut_journal : Journal
cut_journal = record { system = flag_system; recs = take 2 flag_records; part = Cut; trailer = [] }

-- the same with a zero in front of the number of record 2, on line 11
abbrev pub misspelled_transcript : List ℕ
misspelled_transcript = codes "IMAGE MAIN\n  $SETEF 5\n  $READEF 5,A\n  $CLREF 5\n  $EXIT 1\nEND\nPROCESS P MAIN UIC=1:1 MODE=USER ASTLM=24 BIOLM=18 DIOLM=18 BYTLM=8192 TQELM=10 PRIV=NONE START=1\n$JOURNAL 1\n1 RUN 1 $SETEF 5 WASCLR\n FLAG 1:5 1\n02 RUN 1 $READEF 5,A WASSET\n VAR 1 A 32\n"

-- the flag is told to have been set before it was
abbrev pub wrong_journal : Journal
wrong_journal = record { system = flag_system; recs = called (calling SetEf (Value (Num 5)) Unused) WasSet (effect.Flag (Local first_pid 5) true ∷ []) ∷ []; part = Cut; trailer = [] }

-- The transcript is read as the run, and complete; cut it is a prefix; the misspelled line is told by its number; and the wrong
-- record by its.
pub record IsCheckedExample : Type 0 where
  pub whole : journal_of flag_system flag_transcript ≡ Ok flag_journal
  pub cut : journal_of flag_system cut_transcript ≡ Ok cut_journal
  pub misspelled : journal_of flag_system misspelled_transcript ≡ Err 11
  pub complete : run_verdict flag_journal ≡ Complete 5
  pub prefix : run_verdict cut_journal ≡ Prefix 2
  pub wrong : IsVerdict wrong_journal (Bad 1)
