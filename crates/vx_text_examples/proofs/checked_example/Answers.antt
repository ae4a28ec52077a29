use Rattle.std.proofs.Common.{◌∷◌, [], true, refl, arith}
use Rattle.std.specs.Fmt.{digits}
use Rattle.vx_text.specs.Lex.{lex_from}
use Rattle.vx_lines.specs.ReadEffect.{read_effect}
use Rattle.vx_lines.specs.ReadHead.{read_head}
use Rattle.vx_lines.specs.ReadRecords.{fed_lines, read_line, read_lines, read_records}
use Rattle.vx_script.specs.Script.{decl_line, decl_names, rights_keys, limits_keys, start_keys}
use Rattle.vx_record.specs.Runs.{IsRun}
use Rattle.vx_journal.specs.ReadJournal.{journal_of, line_behind}
use Rattle.vx_journal.specs.TrailerLines.{read_line as read_trailer_line, read_trailer, trailer_lines_from}
use Rattle.vx_check.specs.Verdict.{of_record}
use Rattle.vx_base.specs.declared.call.Arg.TheVariants.{Unused, Value}
use Rattle.vx_base.specs.declared.call.Operand.TheVariants.{Num}
use Rattle.vx_base.specs.declared.cond.Cond.TheVariants.{WasSet}
use Rattle.vx_base.specs.declared.effects.Cell.TheVariants.{Local}
use Rattle.vx_base.specs.declared.effects.Effect.TheVariants as effect
use Rattle.vx_base.specs.declared.service.Service.TheVariants.{SetEf}
use Rattle.vx_text_examples.specs.Example.{called, calling, first_pid, flag_system, wrong_journal}
use Rattle.vx_text_examples.proofs.checked_example.Goals as goal

pub returns : goal.returns
unfolding digits lex_from read_effect read_head fed_lines read_line read_lines read_records decl_line decl_names rights_keys limits_keys start_keys journal_of line_behind read_trailer_line read_trailer trailer_lines_from
returns c = record {
  whole = refl;
  cut = refl;
  misspelled = refl;
  complete = refl;
  prefix = refl;
  wrong = of_record 1 (record {
    before = [];
    rec = called (calling SetEf (Value (Num 5)) Unused) WasSet (effect.Flag (Local first_pid 5) true ∷ []);
    rest = [];
    split = refl;
    place = refl;
    run = record { few = omega arith; steps = tt };
    wrong = λ (r : IsRun flag_system wrong_journal.recs). cc (r.steps.0.answer);
  }) refl;
}
