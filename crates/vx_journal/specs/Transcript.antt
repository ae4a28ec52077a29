-- The transcript of a run: the canonical script, the records and the trailer, line by line.
use Rattle.std.specs.Prelude.{ℕ, ◌+◌, List, [], ◌∷◌, ◌++◌, length, codes, decimal, map, slice_index_or}
use Rattle.vx_record.specs.Types.{DeviceUnit, End, Rec, System, UnitDecl}
use Rattle.vx_base.specs.declared.record.End.TheVariants.{Done, Hung, Limit}
use Rattle.vx_text.specs.Quote.{quote_text}
use Rattle.vx_units.specs.Units.{outputs_of}
use Rattle.vx_lines.specs.Records.{ended_lines, records_lines, unit_name}
use Rattle.vx_script.specs.Script.{script}
use Rattle.vx_record.specs.State.{Process, State, no_decl}
use Rattle.vx_record.specs.Runs.{after}
use Rattle.vx_record.specs.Standing.{standing_of, code_of}
use Rattle.vx_record.specs.declared.standing.Standing.{Standing}
use Rattle.vx_record.specs.declared.standing.Standing.TheVariants as standing

-- The trailer.

abbrev pub standing_word : Standing → List ℕ
standing_word standing.Gone = codes "GONE"
standing_word standing.Susp = codes "SUSP"
standing_word standing.Rundown = codes "RUNDOWN"
standing_word standing.Hiber = codes "HIBER"
standing_word standing.Flag = codes "FLAG"
standing_word standing.Active = codes "ACTIVE"

-- process n, of this name, as it stands
abbrev pub standing_line : ℕ → List ℕ → Standing → ℕ → List ℕ
standing_line n name standing code = codes "PROCESS " ++ (decimal n ++ 32 ∷ (name ++ 32 ∷ (standing_word standing ++ 32 ∷ decimal code)))

-- the name of a process is its declaration's
abbrev pub process_name : System → Process → List ℕ
process_name system pr = (slice_index_or system.decls pr.decl no_decl).name

abbrev pub process_line : System → ℕ → Process → List ℕ
process_line system n pr = standing_line n (process_name system pr) (standing_of pr) (code_of pr)

-- processes, the first of them with the number n
abbrev pub process_lines : System → ℕ → List Process → List (List ℕ)
process_lines system n [] = []
process_lines system n (pr ∷ prs) = process_line system n pr ∷ process_lines system (n + 1) prs

-- a line that a unit of this name has put out
abbrev pub output_line : List ℕ → List ℕ → List ℕ
output_line name bytes = codes "OUT " ++ (name ++ 32 ∷ quote_text bytes)

abbrev pub output_lines : List ℕ → List (List ℕ) → List (List ℕ)
output_lines name outputs = map (output_line name) outputs

-- units, the first of them with the number n from 0; their names are those of their declarations
abbrev pub unit_lines : List UnitDecl → ℕ → List DeviceUnit → List (List ℕ)
unit_lines decls n [] = []
unit_lines decls n (u ∷ us) = output_lines (unit_name decls (record { 0 = n })) (outputs_of u.contents) ++ unit_lines decls (n + 1) us

abbrev pub end_word : End → List ℕ
end_word Done = codes "DONE"
end_word Hung = codes "HUNG"
end_word Limit = codes "LIMIT"

-- the end, after n records
abbrev pub end_line : End → ℕ → List ℕ
end_line end n = codes "$END " ++ (end_word end ++ 32 ∷ decimal n)

-- how the processes stand in the state after n records, what the units have put out, and the end
abbrev pub trailer_lines : State → End → ℕ → List (List ℕ)
trailer_lines s end n = process_lines s.system 1 s.procs ++ (unit_lines s.system.units 0 s.units ++ end_line end n ∷ [])

-- the lines behind the script
abbrev pub journal_lines : System → List Rec → End → List (List ℕ)
journal_lines system recs end = codes "$JOURNAL 1" ∷ (records_lines system.units 1 recs ++ trailer_lines (after system recs) end (length recs))

abbrev pub transcript : System → List Rec → End → List ℕ
transcript system recs end = script system ++ ended_lines (journal_lines system recs end)
