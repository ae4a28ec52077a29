-- The grammar of scripts. Each production says the form of a line, by its tokens, and the part of the system that the line stands
-- for. Nothing here goes over a text: a text is spelled by the grammar as a system, or it is not.
use Rattle.std.specs.Prelude.{◌≡◌, ◌≢◌, ℕ, ◌+◌, ◌≤◌, ◌==◌, true, IsTrue, List, [], ◌∷◌, ◌++◌, map, flat_map, fold, length, codes, Some, Result, Ok, bytes_eq, if◌then◌else◌, not}
use Rattle.std.specs.List.{list_all, list_any}
use Rattle.vx_base.specs.declared.call.Arg.{Arg}
use Rattle.vx_base.specs.declared.call.Call.{Call}
use Rattle.vx_base.specs.declared.call.Operand.{Operand}
use Rattle.vx_base.specs.declared.call.Target.{Target}
use Rattle.vx_base.specs.declared.mode.Mode.{Mode}
use Rattle.vx_base.specs.declared.quota.Need.{Need}
use Rattle.vx_base.specs.declared.service.Kind.{Kind}
use Rattle.vx_base.specs.declared.service.Param.{Param}
use Rattle.vx_base.specs.declared.mode.Mode.TheVariants.{User}
use Rattle.vx_base.specs.declared.service.Param.TheVariants.{Optional}
use Rattle.vx_base.specs.Services.{service_name, params_of, kind_of, is_of_kind, is_operand, is_target, args_list, args_of}
use Rattle.vx_image.specs.declared.decl.ProcDecl.{ProcDecl}
use Rattle.vx_image.specs.declared.image.Image.{Image}
use Rattle.vx_image.specs.declared.image.Label.{Label}
use Rattle.vx_image.specs.declared.stmt.Field.{Field}
use Rattle.vx_image.specs.declared.stmt.Rel.{Rel}
use Rattle.vx_image.specs.declared.stmt.Stmt.{Stmt}
use Rattle.vx_image.specs.declared.system.System.{System}
use Rattle.vx_image.specs.declared.unit.UnitDecl.{UnitDecl}
use Rattle.vx_image.specs.declared.stmt.Stmt.TheVariants as stmt
use Rattle.vx_image.specs.WellFormed.{is_among, are_distinct, label_names, decl_names, has_its_label, has_its_decl}
use Rattle.vx_text.specs.Lex.{lex}
use Rattle.vx_text.specs.declared.token.LexFail.{LexFail}
use Rattle.vx_text.specs.declared.token.Tok.{Tok}
use Rattle.vx_text.specs.declared.token.Tok.TheVariants.{Word, Num, Quote, Sign}
use Rattle.vx_text.specs.declared.token.Tok.TheVariants as tok
use Rattle.vx_table.specs.Back.{toks_of}
use Rattle.vx_table.specs.Spelling.{mode_name, operand_token, target_token, arg_token, comma}
use Rattle.vx_script.specs.Keys.{key_name, privilege_name, granted, no_privs}
use Rattle.vx_script.specs.Statements.{rel_name, field_name}
use Rattle.vx_script.specs.Places.{label_place, is_line_unit, rising, image_place}
use Rattle.vx_script.specs.declared.keys.Key.{Key}
use Rattle.vx_script.specs.declared.keys.Limit.{Limit}
use Rattle.vx_script.specs.declared.privileges.Privilege.{Privilege}
use Rattle.vx_script.specs.declared.keys.Key.TheVariants as key
use Rattle.vx_script.specs.declared.keys.Limit.TheVariants as limit
use Rattle.std.specs.Int.{IsInRange}

abbrev pub colon : Tok
colon = Sign 58

abbrev pub equals : Tok
equals = Sign 61

abbrev pub plus : Tok
plus = Sign 43

abbrev pub minus : Tok
minus = Sign 45

-- Calls.

-- What stands for an argument: a token of its kind; or nothing, if the service's row has a default.
pub data Argument : Param → List Tok → Arg → Type 0 where
  stands : (p : Param) (a : Arg) → IsTrue (is_of_kind (kind_of p) a) → Argument p (arg_token a ∷ []) a
  left_out : (k : Kind) (default : Arg) → Argument (Optional k default) [] default

-- One after another, each by its piece of the line; those at the end may have no piece.
pub data Arguments : List Param → List (List Tok) → List Arg → Type 0 where
  no_params : Arguments [] [] []
  by_piece : (p : Param) (params : List Param) (piece : List Tok) (pieces : List (List Tok)) (a : Arg) (args : List Arg)
      → Argument p piece a → Arguments params pieces args → Arguments (p ∷ params) (piece ∷ pieces) (a ∷ args)
  with_no_piece : (p : Param) (params : List Param) (a : Arg) (args : List Arg)
      → Argument p [] a → Arguments params [] args → Arguments (p ∷ params) [] (a ∷ args)

-- pieces of a line, with a comma between one and the next
abbrev pub between_commas : List (List Tok) → List Tok
between_commas [] = []
between_commas (piece ∷ []) = piece
between_commas (piece ∷ second ∷ more) = piece ++ comma ∷ between_commas (second ∷ more)

-- Statements of an image, if the script has process declarations of these names.
pub data Statement (decls : List (List ℕ)) (image : Image) : List Tok → Stmt → Type 0 where
  -- LET v = x
  let_value : (v : Target) (x : Operand) → IsTrue (is_target v) → IsTrue (is_operand x)
      → Statement decls image (Word (codes "LET") ∷ target_token v ∷ equals ∷ operand_token x ∷ []) (stmt.Let v x)
  -- LET v = x + y
  let_sum : (v : Target) (x y : Operand) → IsTrue (is_target v) → IsTrue (is_operand x) → IsTrue (is_operand y)
      → Statement decls image (Word (codes "LET") ∷ target_token v ∷ equals ∷ operand_token x ∷ plus ∷ operand_token y ∷ []) (stmt.Add v x y)
  -- LET v = x - y
  let_difference : (v : Target) (x y : Operand) → IsTrue (is_target v) → IsTrue (is_operand x) → IsTrue (is_operand y)
      → Statement decls image (Word (codes "LET") ∷ target_token v ∷ equals ∷ operand_token x ∷ minus ∷ operand_token y ∷ []) (stmt.Sub v x y)
  -- GOTO label, where the label is the image's label k
  goto_label : (label : List ℕ) (k : ℕ) → label_place label image.labels ≡ Some k
      → Statement decls image (Word (codes "GOTO") ∷ Word label ∷ []) (stmt.Goto k)
  -- IF x EQ y GOTO label
  if_goto : (x : Operand) (r : Rel) (y : Operand) (label : List ℕ) (k : ℕ) → IsTrue (is_operand x) → IsTrue (is_operand y) → label_place label image.labels ≡ Some k
      → Statement decls image (Word (codes "IF") ∷ operand_token x ∷ Word (rel_name r) ∷ operand_token y ∷ Word (codes "GOTO") ∷ Word label ∷ []) (stmt.If x r y k)
  -- PUT b "text"
  put_text : (b : ℕ) (text : List ℕ) → IsInRange 0 31 b → length text ≤ 2048
      → Statement decls image (Word (codes "PUT") ∷ Num b ∷ Quote text ∷ []) (stmt.Put b text)
  -- BYTE v b x
  get_byte : (v : Target) (b : ℕ) (x : Operand) → IsTrue (is_target v) → IsInRange 0 31 b → IsTrue (is_operand x)
      → Statement decls image (Word (codes "BYTE") ∷ target_token v ∷ Num b ∷ operand_token x ∷ []) (stmt.Byte v b x)
  -- IOSB v i STATUS
  get_iosb : (v : Target) (i : ℕ) (f : Field) → IsTrue (is_target v) → IsInRange 1 32 i
      → Statement decls image (Word (codes "IOSB") ∷ target_token v ∷ Num i ∷ Word (field_name f) ∷ []) (stmt.Iosb v i f)
  -- RETURN
  returns : Statement decls image (Word (codes "RETURN") ∷ []) stmt.Return
  -- $SERVICE and its arguments; each label is the image's, and what a $CREPRC names is a process declaration
  call_service : (c : Call) (pieces : List (List Tok)) (args : List Arg) → Arguments (params_of c.service) pieces args → c.args ≡ args_of args
      → IsTrue (list_all (has_its_label image) (args_list c.args)) → IsTrue (has_its_decl decls c.service c.args.a1)
      → Statement decls image (tok.Service (service_name c.service) ∷ between_commas pieces) (stmt.Service c)

-- Images.

-- what lines between IMAGE and END say
pub data Said : Type 0 where
  Names : (label : List ℕ) → Said
  Does : Stmt → Said

-- A line between IMAGE and END: nothing, a statement, a label, or a label and a statement.
pub data BodyLine (decls : List (List ℕ)) (image : Image) : List Tok → List Said → Type 0 where
  empty_line : BodyLine decls image [] []
  statement_line : (tokens : List Tok) (s : Stmt) → Statement decls image tokens s → BodyLine decls image tokens (Does s ∷ [])
  label_line : (name : List ℕ) → BodyLine decls image (Word name ∷ colon ∷ []) (Names name ∷ [])
  labelled_line : (name : List ℕ) (tokens : List Tok) (s : Stmt) → Statement decls image tokens s
      → BodyLine decls image (Word name ∷ colon ∷ tokens) (Names name ∷ Does s ∷ [])

-- such lines, and all that they say
pub data Body (decls : List (List ℕ)) (image : Image) : List (List Tok) → List Said → Type 0 where
  no_lines : Body decls image [] []
  and_line : (tokens : List Tok) (lines : List (List Tok)) (said more : List Said)
      → BodyLine decls image tokens said → Body decls image lines more → Body decls image (tokens ∷ lines) (said ++ more)

-- the statements, in order
abbrev pub stmts_in : List Said → List Stmt
stmts_in [] = []
stmts_in (Names label ∷ said) = stmts_in said
stmts_in (Does s ∷ said) = s ∷ stmts_in said

-- the labels, in order, each with the number of statements before it, if so many stand before them all
abbrev pub labels_in : ℕ → List Said → List Label
labels_in place [] = []
labels_in place (Names label ∷ said) = record { name = label; place = place } ∷ labels_in place said
labels_in place (Does s ∷ said) = labels_in (place + 1) said

-- The lines between IMAGE and END are this image's: at most 10,000 statements, and no label twice.
pub record ImageOf (decls : List (List ℕ)) (lines : List (List Tok)) (image : Image) : Type 0 where
  pub said : List Said
  pub body : Body decls image lines said
  pub stmts : image.stmts ≡ stmts_in said
  pub labels : image.labels ≡ labels_in 0 said
  pub few : length image.stmts ≤ 10000
  pub once : IsTrue (are_distinct (label_names image))

-- The keys of a PROCESS line.

-- names of privileges, joined by +
pub data Privileges : List Tok → List Privilege → Type 0 where
  one_name : (p : Privilege) → Privileges (Word (privilege_name p) ∷ []) (p ∷ [])
  and_name : (p : Privilege) (tokens : List Tok) (ps : List Privilege) → Privileges tokens ps
      → Privileges (Word (privilege_name p) ∷ plus ∷ tokens) (p ∷ ps)

-- limits, one of which becomes n
abbrev pub limited : Need → Limit → ℕ → Need
limited limits limit.Ast n = record limits { ast = n }
limited limits limit.Bio n = record limits { bio = n }
limited limits limit.Dio n = record limits { dio = n }
limited limits limit.Byt n = record limits { byt = n }
limited limits limit.Tqe n = record limits { tqe = n }

-- The value of a key, and what the key changes in the process declaration.
pub data Setting : Key → List Tok → (ProcDecl → ProcDecl) → Type 0 where
  uic_is : (group member : ℕ) → IsInRange 1 16382 group → IsInRange 0 65534 member
      → Setting key.Uic (Num group ∷ colon ∷ Num member ∷ []) (λ d. record d { group = group; member = member })
  mode_is : (m : Mode) → Setting key.Mode (Word (mode_name m) ∷ []) (λ d. record d { mode = m })
  limit_is : (l : Limit) (n : ℕ) → IsInRange 0 1000000 n → Setting (key.Limit l) (Num n ∷ []) (λ d. record d { limits = limited d.limits l n })
  no_priv_is : Setting key.Priv (Word (codes "NONE") ∷ []) (λ d. record d { privs = no_privs })
  priv_is : (tokens : List Tok) (ps : List Privilege) → Privileges tokens ps → IsTrue (are_distinct (map privilege_name ps))
      → Setting key.Priv tokens (λ d. record d { privs = fold granted no_privs ps })
  start_is : (n : ℕ) → IsInRange 0 1 n → Setting key.Start (Num n ∷ []) (λ d. record d { start = n == 1 })

-- Keys, each with = and its value, and what they change one after another.
pub data Settings : List Tok → List Key → (ProcDecl → ProcDecl) → Type 0 where
  no_settings : Settings [] [] (λ d. d)
  and_setting : (k : Key) (value tokens : List Tok) (keys : List Key) (set more : ProcDecl → ProcDecl) → Setting k value set → Settings tokens keys more
      → Settings (Word (key_name k) ∷ equals ∷ (value ++ tokens)) (k ∷ keys) (λ d. more (set d))

-- a process declaration with no key, whose image is the script's image k
abbrev pub plain_decl : List ℕ → ℕ → ProcDecl
plain_decl name k = record {
  name = name;
  image = k;
  group = 1;
  member = 1;
  mode = User;
  limits = record { ast = 24; bio = 18; dio = 18; byt = 8192; tqe = 10 };
  privs = no_privs;
  start = true;
}

-- Lines.

-- what lines stand for
pub data Item : Type 0 where
  OfUnit : (name : List ℕ) (blocks : ℕ) → Item
  OfInput : (unit text : List ℕ) → Item
  OfFault : (unit : List ℕ) (number : ℕ) → Item
  OfImage : Image → Item
  OfProcess : ProcDecl → Item

-- A line that stands outside images, of a script that says this system.
pub data Line (s : System) : List Tok → Item → Type 0 where
  -- UNIT name LINE
  a_line_unit : (name : List ℕ) → Line s (Word (codes "UNIT") ∷ Word name ∷ Word (codes "LINE") ∷ []) (OfUnit name 0)
  -- UNIT name BLOCK n
  a_block_unit : (name : List ℕ) (n : ℕ) → IsInRange 1 4096 n
      → Line s (Word (codes "UNIT") ∷ Word name ∷ Word (codes "BLOCK") ∷ Num n ∷ []) (OfUnit name n)
  -- INPUT unit "text", of a line unit of the script
  an_input : (unit text : List ℕ) → length text ≤ 2048 → IsTrue (list_any (is_line_unit unit) s.units)
      → Line s (Word (codes "INPUT") ∷ Word unit ∷ Quote text ∷ []) (OfInput unit text)
  -- FAULT unit n, of a unit of the script
  a_fault : (unit : List ℕ) (n : ℕ) → IsInRange 1 100000 n → IsTrue (is_among unit (map (λ u. u.name) s.units))
      → Line s (Word (codes "FAULT") ∷ Word unit ∷ Num n ∷ []) (OfFault unit n)
  -- PROCESS name image key=value .., of image k of the script; no key stands twice
  a_process : (name image : List ℕ) (k : ℕ) (tokens : List Tok) (keys : List Key) (set : ProcDecl → ProcDecl)
      → image_place image s.images ≡ Some k → Settings tokens keys set → IsTrue (are_distinct (map key_name keys))
      → Line s (Word (codes "PROCESS") ∷ Word name ∷ Word image ∷ tokens) (OfProcess (set (plain_decl name k)))

-- Lines in order, and what they stand for in order.
pub data Lines (s : System) : List (List Tok) → List Item → Type 0 where
  none_left : Lines s [] []
  an_empty_line : (lines : List (List Tok)) (items : List Item) → Lines s lines items → Lines s ([] ∷ lines) items
  a_line : (tokens : List Tok) (lines : List (List Tok)) (item : Item) (items : List Item)
      → Line s tokens item → Lines s lines items → Lines s (tokens ∷ lines) (item ∷ items)
  -- IMAGE name, its lines, and END
  an_image : (i : Image) (body lines : List (List Tok)) (items : List Item) → ImageOf (decl_names s) body i → Lines s lines items
      → Lines s ((Word (codes "IMAGE") ∷ Word i.name ∷ []) ∷ (body ++ (Word (codes "END") ∷ []) ∷ lines)) (OfImage i ∷ items)

-- Systems.

abbrev pub input_of : List ℕ → Item → List (List ℕ)
input_of name (OfInput unit text) = if bytes_eq name unit then text ∷ [] else []
input_of name _ = []

abbrev pub number_of : List ℕ → Item → List ℕ
number_of name (OfFault unit number) = if bytes_eq name unit then number ∷ [] else []
number_of name _ = []

-- a unit, with its input lines in order, and with its faults rising
abbrev pub unit_in : List Item → Item → List UnitDecl
unit_in items (OfUnit name blocks) = record { name = name; blocks = blocks; inputs = flat_map (input_of name) items; faults = rising (flat_map (number_of name) items) } ∷ []
unit_in items _ = []

abbrev pub image_in : Item → List Image
image_in (OfImage i) = i ∷ []
image_in _ = []

abbrev pub decl_in : Item → List ProcDecl
decl_in (OfProcess d) = d ∷ []
decl_in _ = []

-- the system that lines stand for together
abbrev pub system_of : List Item → System
system_of items = record { units = flat_map (unit_in items) items; images = flat_map image_in items; decls = flat_map decl_in items }

-- a FAULT line, as its number and the name of its unit
abbrev pub fault_in : Item → List (List ℕ)
fault_in (OfFault unit number) = (number ∷ unit) ∷ []
fault_in _ = []

-- Texts.

-- no line feed stands in a line
abbrev pub IsFeedless : List ℕ → Type 0
IsFeedless line = IsTrue (list_all (λ b. not (b == 10)) line)

-- Lines end with a line feed; the last may lack it. A carriage return in front of a line feed is no part of the line.
pub data IsLines : List ℕ → List (List ℕ) → Type 0 where
  no_text : IsLines [] []
  last_line : (line : List ℕ) → IsFeedless line → line ≢ [] → IsLines line (line ∷ [])
  fed_line : (line text : List ℕ) (lines : List (List ℕ)) → IsFeedless line → ((front : List ℕ) → line ≢ front ++ 13 ∷ []) → IsLines text lines
      → IsLines (line ++ 10 ∷ text) (line ∷ lines)
  returned_line : (line text : List ℕ) (lines : List (List ℕ)) → IsFeedless line → IsLines text lines
      → IsLines (line ++ 13 ∷ 10 ∷ text) (line ∷ lines)

-- the tokens of a line
abbrev pub tokens_of : List ℕ → Result (List Tok) LexFail
tokens_of line = toks_of (lex line)

-- A text is spelled as a system: its lines have tokens, and stand for the system together; each name of a kind is declared once,
-- and there are no more units, images and process declarations than there may be.
pub record Spells (text : List ℕ) (s : System) : Type 0 where
  pub lines : List (List ℕ)
  pub tokens : List (List Tok)
  pub items : List Item
  pub cut : IsLines text lines
  pub lexed : map tokens_of lines ≡ map Ok tokens
  pub script : Lines s tokens items
  pub system : s ≡ system_of items
  pub units_once : IsTrue (are_distinct (map (λ u. u.name) s.units))
  pub images_once : IsTrue (are_distinct (map (λ i. i.name) s.images))
  pub processes_once : IsTrue (are_distinct (decl_names s))
  pub faults_once : IsTrue (are_distinct (flat_map fault_in items))
  pub few_units : length s.units ≤ 32
  pub few_images : length s.images ≤ 256
  pub few_processes : length s.decls ≤ 1000
