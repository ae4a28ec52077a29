-- A line that names what is not there, if all lines of a script declare `all`.
use Rattle.std.specs.Prelude.{ℕ, not, Bool, false, ◌||◌, List, [], ◌∷◌, drop, codes, Option, Some, None, Result, Ok, bytes_eq, if◌then◌else◌}
use Rattle.std.specs.List.{list_any}
use Rattle.vx_base.specs.Services.{args_list}
use Rattle.vx_base.specs.declared.call.Arg.{Arg}
use Rattle.vx_base.specs.declared.call.Arg.TheVariants as arg
use Rattle.vx_image.specs.WellFormed.{is_among, has_its_decl}
use Rattle.vx_image.specs.declared.stmt.Stmt.TheVariants as stmt
use Rattle.vx_text.specs.declared.token.Tok.{Tok}
use Rattle.vx_text.specs.declared.token.Tok.TheVariants.{Word}
use Rattle.vx_script.specs.Fields.{begins_with_sign}
use Rattle.vx_script.specs.Statements.{stmt_of}
use Rattle.vx_script.specs.declared.draft.Draft.{Draft}
use Rattle.vx_script.specs.declared.draft.Draft.TheVariants as draft
use Rattle.vx_script.specs.declared.fault.FaultKind.{FaultKind}
use Rattle.vx_grammar.specs.Declared.{DeclaredImage, Declared}

-- the image of a PROCESS line is no image
abbrev pub image_unknown : Declared → List Tok → Bool
image_unknown all (Word image ∷ keys) = not (is_among image all.images)
image_unknown all _ = false

-- the unit of an INPUT line is no line unit, that of a FAULT line no unit, or the image of a PROCESS line no image
abbrev pub outside_unknown : Declared → List Tok → Bool
outside_unknown all (Word word ∷ Word name ∷ rest) =
    if bytes_eq word (codes "INPUT") then not (is_among name all.line_units) else (
    if bytes_eq word (codes "FAULT") then not (is_among name all.units) else (
    if bytes_eq word (codes "PROCESS") then image_unknown all rest else false))
outside_unknown all _ = false

-- an argument is a label that is none of these
abbrev pub label_unknown : List (List ℕ) → Arg → Bool
label_unknown labels (arg.Label (Some name)) = not (is_among name labels)
label_unknown labels _ = false

-- a statement goes to a label that is none of these, or its call names one, or a process declaration that is not there
abbrev pub draft_unknown : Declared → List (List ℕ) → Result Draft FaultKind → Bool
draft_unknown all labels (Ok (draft.Goto label)) = not (is_among label labels)
draft_unknown all labels (Ok (draft.If x r y label)) = not (is_among label labels)
draft_unknown all labels (Ok (draft.Plain (stmt.Service c))) = list_any (label_unknown labels) (args_list c.args) || not (has_its_decl all.processes c.service c.args.a1)
draft_unknown all labels other = false

-- the labels of the image of this name
abbrev pub labels_of : List ℕ → List DeclaredImage → List (List ℕ)
labels_of name [] = []
labels_of name (image ∷ images) = if bytes_eq name image.name then image.labels else labels_of name images

abbrev pub statement_unknown : Declared → DeclaredImage → List Tok → Bool
statement_unknown all image [] = false
statement_unknown all image (t ∷ tokens) = draft_unknown all (labels_of image.name all.ended) (stmt_of t tokens)

-- a line of an image; a label stands before a colon
abbrev pub inside_unknown : Declared → DeclaredImage → List Tok → Bool
inside_unknown all image (Word word ∷ tokens) = if begins_with_sign 58 tokens then statement_unknown all image (drop 1 tokens) else statement_unknown all image (Word word ∷ tokens)
inside_unknown all image tokens = statement_unknown all image tokens

-- a line that stands in this image, or in none
abbrev pub names_unknown : Declared → Option DeclaredImage → List Tok → Bool
names_unknown all None tokens = outside_unknown all tokens
names_unknown all (Some image) tokens = inside_unknown all image tokens
