-- The PROCESS lines.
use Rattle.std.proofs.Common.{◌≡◌, ◌∙◌, ℕ, true, false, nat_le, nat_lt, List, [], ◌∷◌, ◌++◌, length, map, drop, None, IfOk, bytes_eq, ap}
use Rattle.std.specs.List.{list_all}
use Rattle.vx_image.specs.WellFormed.{is_among, are_distinct}
use Rattle.vx_text.specs.declared.token.Tok.{Tok}
use Rattle.vx_script.specs.Fields.{name_at, room_for}
use Rattle.vx_script.specs.Declarations.{decl_place, unused_name, process_line}
use Rattle.vx_script.specs.Keys.{no_keys, keys_from}
use Rattle.vx_script.specs.declared.lines.DeclLine.{DeclLine}
use Rattle.vx_script.proofs.Appended.{few_push, distinct_push}
use Rattle.vx_script.proofs.Chains.{after, after_by}
use Rattle.vx_script.proofs.KeysInRange.{are_keys, AreKeys, all_in_range, none_taken, keys}
use Rattle.vx_script.proofs.OpenImages.{IsFresh, is_fresh, has_room}
use Rattle.std.proofs.lemmas.List.{map_push}
use Rattle.vx_base.proofs.Any.{no_position, all_push, any_map}

-- few process declarations, with different names, and their keys in range
pub record AreDecls (decls : List DeclLine) : Type 0 where
  pub few : nat_le (length decls) 1000 ≡ true
  pub names : are_distinct (map (λ d. d.name) decls) ≡ true
  pub in_range : list_all (λ d. are_keys d.keys) decls ≡ true

one_more : (decls : List DeclLine) (d : DeclLine) → AreDecls decls → decl_place d.name decls ≡ None → are_keys d.keys ≡ true
    → nat_lt (length decls) 1000 ≡ true → AreDecls (decls ++ d ∷ [])
one_more decls d h new taken room =
    let name = λ (e : DeclLine). e.name in
    let absent : is_among d.name (map name decls) ≡ false =
    any_map (bytes_eq d.name) name decls ∙ no_position (λ (e : DeclLine). bytes_eq d.name e.name) decls new in
    record {
      few = few_push 1000 decls d room;
      names = ap are_distinct (map_push name decls d) ∙ distinct_push (map name decls) d.name h.names absent;
      in_range = all_push (λ d. are_keys d.keys) decls d h.in_range taken;
    }

abbrev pub WithDecl : List DeclLine → DeclLine → Type 0
WithDecl decls d = AreDecls (decls ++ d ∷ [])

pub decl_read : (line : ℕ) (decls : List DeclLine) (tokens : List Tok) → AreDecls decls → IfOk (process_line line decls tokens) (WithDecl decls)
unfolding process_line
decl_read line decls tokens h =
    after (name_at tokens) _ (WithDecl decls) λ word _.
    after_by (unused_name (decl_place word decls) word) _ (IsFresh (decl_place word decls) word) (WithDecl decls) (is_fresh (decl_place word decls) word) λ name new.
    after (name_at (drop 1 tokens)) _ (WithDecl decls) λ image _.
    after_by (keys_from 0 no_keys (drop 2 tokens)) _ AreKeys (WithDecl decls) (keys 0 no_keys (drop 2 tokens) none_taken) λ taken k.
    after_by (room_for 1000 (length decls)) _ (λ _. nat_lt (length decls) 1000 ≡ true) (WithDecl decls) (has_room 1000 (length decls)) λ _ room.
    one_more decls (record { line = line; name = name; image = image; keys = taken }) h (rw new.0 new.1) (all_in_range taken k) room
