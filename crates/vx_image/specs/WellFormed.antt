-- What a script may say of a system.
use Rattle.std.specs.Prelude.{ℕ, List, [], ◌∷◌, Bool, true, ◌&&◌, ◌||◌, ◌==◌, not, nat_lt, nat_le, Some, IsTrue, length, map, bytes_eq}
use Rattle.std.specs.List.{list_all, list_any}
use Rattle.vx_base.specs.Services.{is_call, is_operand, is_target, args_list}
use Rattle.vx_base.specs.declared.call.Arg.{Arg}
use Rattle.vx_base.specs.declared.call.Arg.TheVariants as arg
use Rattle.vx_base.specs.declared.call.Call.{Call}
use Rattle.vx_base.specs.declared.quota.Need.{Need}
use Rattle.vx_base.specs.declared.service.Service.{Service}
use Rattle.vx_base.specs.declared.service.Service.TheVariants.{CrePrc}
use Rattle.vx_image.specs.declared.decl.ProcDecl.{ProcDecl}
use Rattle.vx_image.specs.declared.image.Image.{Image}
use Rattle.vx_image.specs.declared.stmt.Stmt.{Stmt}
use Rattle.vx_image.specs.declared.stmt.Stmt.TheVariants as stmt
use Rattle.vx_image.specs.declared.system.System.{System}
use Rattle.vx_image.specs.declared.unit.UnitDecl.{UnitDecl}

-- a name is one of these
abbrev pub is_among : List ℕ → List (List ℕ) → Bool
is_among name names = list_any (bytes_eq name) names

-- no name stands twice
abbrev pub are_distinct : List (List ℕ) → Bool
are_distinct [] = true
are_distinct (name ∷ names) = not (is_among name names) && are_distinct names

-- each number is above the one before it
abbrev pub rises_above : ℕ → List ℕ → Bool
rises_above n [] = true
rises_above n (m ∷ ms) = nat_lt n m && rises_above m ms

-- each number is at least the one before it
abbrev pub falls_nowhere : ℕ → List ℕ → Bool
falls_nowhere n [] = true
falls_nowhere n (m ∷ ms) = nat_le n m && falls_nowhere m ms

-- Units: at most 4,096 blocks; lines of at most 2,048 bytes, and only of a line unit; faults from 1 to 100,000, rising.

abbrev pub is_unit : UnitDecl → Bool
is_unit u =
    nat_le u.blocks 4096 && (
    list_all (λ line. nat_le (length line) 2048) u.inputs && (
    ((u.blocks == 0) || (length u.inputs == 0)) && (
    rises_above 0 u.faults && list_all (λ n. nat_le n 100000) u.faults)))

-- Images: labels: fewer than 4294967296; at most 10,000 statements; labels with different names, in the order of their places,
-- none past the end.

abbrev pub label_names : Image → List (List ℕ)
label_names image = map (λ l. l.name) image.labels

abbrev pub label_places : Image → List ℕ
label_places image = map (λ l. l.place) image.labels

-- a label that an argument names is the image's
abbrev pub has_its_label : Image → Arg → Bool
has_its_label image (arg.Label (Some name)) = is_among name (label_names image)
has_its_label image _ = true

abbrev pub is_name_among : List (List ℕ) → Arg → Bool
is_name_among names (arg.Name name) = is_among name names
is_name_among names _ = true

-- what a $CREPRC names is a process declaration
abbrev pub has_its_decl : List (List ℕ) → Service → Arg → Bool
has_its_decl decls CrePrc a = is_name_among decls a
has_its_decl decls _ a = true

abbrev pub is_call_of : List (List ℕ) → Image → Call → Bool
is_call_of decls image c = is_call c && (list_all (has_its_label image) (args_list c.args) && has_its_decl decls c.service c.args.a1)

-- variables are letters, labels the image's, buffers 0 to 31, status blocks 1 to 32, and texts of at most 2,048 bytes
abbrev pub is_stmt : List (List ℕ) → Image → Stmt → Bool
is_stmt decls image (stmt.Let t x) = is_target t && is_operand x
is_stmt decls image (stmt.Add t x y) = is_target t && (is_operand x && is_operand y)
is_stmt decls image (stmt.Sub t x y) = is_target t && (is_operand x && is_operand y)
is_stmt decls image (stmt.Goto k) = nat_lt k (length image.labels)
is_stmt decls image (stmt.If x r y k) = is_operand x && (is_operand y && nat_lt k (length image.labels))
is_stmt decls image (stmt.Put b bytes) = nat_lt b 32 && nat_le (length bytes) 2048
is_stmt decls image (stmt.Byte t b x) = is_target t && (nat_lt b 32 && is_operand x)
is_stmt decls image (stmt.Iosb t i f) = is_target t && (nat_le 1 i && nat_le i 32)
is_stmt decls image stmt.Return = true
is_stmt decls image (stmt.Service c) = is_call_of decls image c

abbrev pub is_image : List (List ℕ) → Image → Bool
is_image decls image =
    nat_lt (length image.labels) 4294967296 && (
    nat_le (length image.stmts) 10000 && (
    are_distinct (label_names image) && (
    falls_nowhere 0 (label_places image) && (
    list_all (λ place. nat_le place (length image.stmts)) (label_places image) && list_all (is_stmt decls image) image.stmts))))

-- an image that a system may have, whatever its process declarations are named
abbrev pub IsImage : Image → Type 0
IsImage image = (decls : List (List ℕ)) × IsTrue (is_image decls image)

-- Process declarations: an image that is there, group 1 to 16382, member 0 to 65534, limits of at most 1,000,000.

abbrev pub are_limits : Need → Bool
are_limits l = nat_le l.ast 1000000 && (nat_le l.bio 1000000 && (nat_le l.dio 1000000 && (nat_le l.byt 1000000 && nat_le l.tqe 1000000)))

abbrev pub is_decl : ℕ → ProcDecl → Bool
is_decl images d = nat_lt d.image images && (nat_le 1 d.group && (nat_le d.group 16382 && (nat_le d.member 65534 && are_limits d.limits)))

abbrev pub decl_names : System → List (List ℕ)
decl_names s = map (λ d. d.name) s.decls

-- At most 32 units, 256 images and 1,000 process declarations, each kind with different names.
pub record IsWellFormed (s : System) : Type 0 where
  pub few_units : IsTrue (nat_le (length s.units) 32)
  pub few_images : IsTrue (nat_le (length s.images) 256)
  pub few_decls : IsTrue (nat_le (length s.decls) 1000)
  pub unit_names : IsTrue (are_distinct (map (λ u. u.name) s.units))
  pub image_names : IsTrue (are_distinct (map (λ i. i.name) s.images))
  pub process_names : IsTrue (are_distinct (decl_names s))
  pub units : IsTrue (list_all is_unit s.units)
  pub images : IsTrue (list_all (is_image (decl_names s)) s.images)
  pub decls : IsTrue (list_all (is_decl (length s.images)) s.decls)
