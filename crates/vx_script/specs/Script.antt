-- The canonical script of a system, line by line.
use Rattle.std.specs.Prelude.{ℕ, ◌+◌, ◌==◌, nat_le, List, [], ◌∷◌, ◌++◌, map, flat_map, take, drop, codes, decimal, slice_index_or, if◌then◌else◌}
use Rattle.std.specs.List.{prefix_len}
use Rattle.vx_base.specs.Flags.{one}
use Rattle.vx_base.specs.declared.call.Operand.{Operand}
use Rattle.vx_base.specs.declared.call.Target.{Target}
use Rattle.vx_base.specs.declared.quota.Need.{Need}
use Rattle.vx_base.specs.declared.quota.Privs.{Privs}
use Rattle.vx_image.specs.Local.{no_label}
use Rattle.vx_image.specs.declared.decl.ProcDecl.{ProcDecl}
use Rattle.vx_image.specs.declared.image.Image.{Image}
use Rattle.vx_image.specs.declared.image.Label.{Label}
use Rattle.vx_image.specs.declared.stmt.Stmt.{Stmt}
use Rattle.vx_image.specs.declared.system.System.{System}
use Rattle.vx_image.specs.declared.unit.UnitDecl.{UnitDecl}
use Rattle.vx_image.specs.declared.stmt.Stmt.TheVariants as stmt
use Rattle.vx_text.specs.Quote.{quote_text}
use Rattle.vx_table.specs.Spelling.{call_text, mode_name, operand_text, target_text}
use Rattle.vx_script.specs.Keys.{privilege_name, holds}
use Rattle.vx_script.specs.Statements.{rel_name, field_name}
use Rattle.vx_script.specs.declared.privileges.Privilege.{Privilege}
use Rattle.vx_script.specs.declared.privileges.Privilege.TheVariants as privilege
pub use Rattle.vx_text.specs.Lines.{ended_lines, spaced}
use Rattle.vx_image.specs.Absent.{no_image}

-- Units.

-- LINE, or BLOCK and the number of blocks
abbrev pub kind_words : ℕ → List (List ℕ)
kind_words blocks = if blocks == 0 then codes "LINE" ∷ [] else codes "BLOCK" ∷ decimal blocks ∷ []

-- what a unit is
abbrev pub unit_line : UnitDecl → List ℕ
unit_line u = codes "UNIT" ++ spaced (u.name ∷ kind_words u.blocks)

-- a line that a unit reads
abbrev pub input_line : List ℕ → List ℕ → List ℕ
input_line name bytes = codes "INPUT" ++ spaced (name ∷ quote_text bytes ∷ [])

-- a service of a unit that fails
abbrev pub fault_line : List ℕ → ℕ → List ℕ
fault_line name n = codes "FAULT" ++ spaced (name ∷ decimal n ∷ [])

-- a unit, the lines that it reads in order, and its faults in order
abbrev pub unit_lines : UnitDecl → List (List ℕ)
unit_lines u = unit_line u ∷ (map (input_line u.name) u.inputs ++ map (fault_line u.name) u.faults)

-- Images.

-- the name of a label, by its place in the image's list
abbrev pub label_name : List Label → ℕ → List ℕ
label_name labels k = (slice_index_or labels k no_label).name

-- LET, a target, = and a value
abbrev pub let_words : Target → Operand → List (List ℕ)
let_words t x = codes "LET" ∷ target_text t ∷ codes "=" ∷ operand_text x ∷ []

-- GOTO and a label
abbrev pub goto_words : List Label → ℕ → List (List ℕ)
goto_words labels k = codes "GOTO" ∷ label_name labels k ∷ []

-- the words, numbers, texts and signs of a statement
abbrev pub stmt_words : List Label → Stmt → List (List ℕ)
stmt_words labels (stmt.Let t x) = let_words t x
stmt_words labels (stmt.Add t x y) = let_words t x ++ codes "+" ∷ operand_text y ∷ []
stmt_words labels (stmt.Sub t x y) = let_words t x ++ codes "-" ∷ operand_text y ∷ []
stmt_words labels (stmt.Goto k) = goto_words labels k
stmt_words labels (stmt.If x r y k) = codes "IF" ∷ operand_text x ∷ rel_name r ∷ operand_text y ∷ goto_words labels k
stmt_words labels (stmt.Put b bytes) = codes "PUT" ∷ decimal b ∷ quote_text bytes ∷ []
stmt_words labels (stmt.Byte t b x) = codes "BYTE" ∷ target_text t ∷ decimal b ∷ operand_text x ∷ []
stmt_words labels (stmt.Iosb t i f) = codes "IOSB" ∷ target_text t ∷ decimal i ∷ field_name f ∷ []
stmt_words labels stmt.Return = codes "RETURN" ∷ []
stmt_words labels (stmt.Service c) = call_text c ∷ []

-- a statement behind two spaces, with one between its words
abbrev pub stmt_line : List Label → Stmt → List ℕ
stmt_line labels s = 32 ∷ spaced (stmt_words labels s)

-- a label alone
abbrev pub label_line : Label → List ℕ
label_line l = l.name ++ 58 ∷ []

-- how many labels stand first that name this place or one before it
abbrev pub labels_up_to : ℕ → List Label → ℕ
labels_up_to place labels = prefix_len (λ l. nat_le l.place place) labels

-- the statements from a place on, each behind its labels, of which these are left, and then the labels of the image's end
abbrev pub body_lines : List Label → ℕ → List Label → List Stmt → List (List ℕ)
body_lines labels place left [] = map label_line left
body_lines labels place left (s ∷ stmts) =
    map label_line (take (labels_up_to place left) left)
    ++ stmt_line labels s ∷ body_lines labels (place + 1) (drop (labels_up_to place left) left) stmts

-- an image from IMAGE to END
abbrev pub image_lines : Image → List (List ℕ)
image_lines i = (codes "IMAGE " ++ i.name) ∷ (body_lines i.labels 0 i.labels i.stmts ++ codes "END" ∷ [])

-- Processes.

-- a privilege's name, if it is held
abbrev pub held : Privs → Privilege → List (List ℕ)
held privs p = if holds privs p then privilege_name p ∷ [] else []

-- the names of the privileges that are held
abbrev pub held_names : Privs → List (List ℕ)
held_names p = held p privilege.CmExec ++ held p privilege.CmKrnl ++ held p privilege.Group ++ held p privilege.PrmCeb ++ held p privilege.PrmMbx ++ held p privilege.World

-- names, each with a plus before it
abbrev pub and_names : List (List ℕ) → List ℕ
and_names names = flat_map (λ name. 43 ∷ name) names

-- names joined by a plus, or NONE
abbrev pub names_text : List (List ℕ) → List ℕ
names_text [] = codes "NONE"
names_text (name ∷ names) = name ++ and_names names

-- a PROCESS line's names: its own, and its image's
unfoldable pub decl_names : List Image → ProcDecl → List ℕ
decl_names images d = codes "PROCESS " ++ d.name ++ codes " " ++ (slice_index_or images d.image no_image).name

-- its keys for the identification code and the mode
unfoldable pub rights_keys : ProcDecl → List ℕ
rights_keys d = codes " UIC=" ++ decimal d.group ++ codes ":" ++ decimal d.member ++ codes " MODE=" ++ mode_name d.mode

-- its keys for the quota limits
unfoldable pub limits_keys : Need → List ℕ
limits_keys n =
    codes " ASTLM=" ++ decimal n.ast
    ++ codes " BIOLM=" ++ decimal n.bio
    ++ codes " DIOLM=" ++ decimal n.dio
    ++ codes " BYTLM=" ++ decimal n.byt
    ++ codes " TQELM=" ++ decimal n.tqe

-- its keys for the privileges, and for whether it is there from the start
unfoldable pub start_keys : ProcDecl → List ℕ
start_keys d = codes " PRIV=" ++ names_text (held_names d.privs) ++ codes " START=" ++ decimal (one d.start)

-- a PROCESS line with all its keys
unfoldable pub decl_line : List Image → ProcDecl → List ℕ
decl_line images d = decl_names images d ++ rights_keys d ++ limits_keys d.limits ++ start_keys d

-- Systems.

-- units, images and processes, each in order
abbrev pub script_lines : System → List (List ℕ)
script_lines s = flat_map unit_lines s.units ++ flat_map image_lines s.images ++ map (decl_line s.images) s.decls

-- the canonical script
abbrev pub script : System → List ℕ
script s = ended_lines (script_lines s)
