-- The worked example.
use Rattle.std.proofs.Common.{◌≡◌, ℕ, List, refl, subst, arith, lit<}
use Rattle.std.specs.Fmt.{digits}
use Rattle.vx_image.specs.WellFormed.{IsWellFormed}
use Rattle.vx_grammar.specs.Grammar.{Spells}
use Rattle.vx_script.specs.Script.{script, decl_line, decl_names, rights_keys, limits_keys, start_keys}
use Rattle.vx_roundtrip.specs.Example.{example, example_text, IsExample}
use Rattle.vx_roundtrip.specs.Held.{IsHeldSystem}
use Rattle.vx_roundtrip.proofs.Back.{reads_back}

text : script example ≡ example_text
unfolding digits decl_line decl_names rights_keys limits_keys start_keys
text = refl

well_formed : IsWellFormed example
well_formed = record { few_units = refl; few_images = refl; few_decls = refl; unit_names = refl; image_names = refl; process_names = refl; units = refl; images = refl; decls = refl }

held : IsHeldSystem example
held = search (arith, lit<)

pub worked_example : IsExample
worked_example = record { text = text; well_formed = well_formed; held = held; read = subst (λ (t : List ℕ). Spells t example) text (reads_back example well_formed held) }
