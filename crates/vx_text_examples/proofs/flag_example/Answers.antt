use Rattle.std.proofs.Common.{refl}
use Rattle.std.specs.Fmt.{digits}
use Rattle.vx_text.specs.Lex.{lex_from}
use Rattle.vx_script.specs.Declarations.{image_line, process_line}
use Rattle.vx_script.specs.Keys.{keys_from}
use Rattle.vx_script.specs.Lines.{lines_of}
use Rattle.vx_script.specs.Reading.{read_script, read_lines, take_line, outside}
use Rattle.vx_script.specs.Script.{decl_line, decl_names, rights_keys, limits_keys, start_keys}
use Rattle.vx_grammar.proofs.Whole.{read_is_spelled}
use Rattle.vx_text_examples.specs.Example.{flag_script, flag_system}
use Rattle.vx_text_examples.proofs.flag_example.Goals as goal

pub returns : goal.returns
unfolding digits lex_from image_line process_line keys_from lines_of read_script read_lines take_line outside decl_line decl_names rights_keys limits_keys start_keys
returns c = record { script = read_is_spelled flag_script flag_system refl; run = refl; ended = refl; output = refl }
