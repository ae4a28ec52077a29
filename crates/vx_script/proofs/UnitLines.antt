-- The UNIT lines.
use Rattle.std.proofs.Common.{◌≡◌, ℕ, true, nat_le, nat_lt, List, [], ◌∷◌, ◌++◌, length, map, drop, None, IfOk, refl}
use Rattle.std.specs.List.{list_all}
use Rattle.std.proofs.lemmas.Bool.{le-leb}
use Rattle.vx_base.proofs.Any.{all_push}
use Rattle.vx_image.specs.declared.unit.UnitDecl.{UnitDecl}
use Rattle.vx_image.specs.WellFormed.{are_distinct}
use Rattle.vx_text.specs.declared.token.Tok.{Tok}
use Rattle.vx_script.specs.Fields.{end_at, name_at, number_at, room_for, device_at, blocks_of}
use Rattle.vx_script.specs.Declarations.{unused_name, unit_line}
use Rattle.vx_script.specs.Places.{unit_place}
use Rattle.vx_script.specs.declared.declaration.Device.{Device}
use Rattle.vx_script.specs.declared.declaration.Device.TheVariants as device
use Rattle.vx_script.proofs.Appended.{few_push}
use Rattle.vx_script.proofs.Chains.{after, after_by}
use Rattle.vx_script.proofs.DistinctUnits.{one_more}
use Rattle.vx_script.proofs.InRange.{number}
use Rattle.vx_script.proofs.OpenImages.{IsFresh, is_fresh, has_room}
use Rattle.std.specs.Int.{IsInRange}

-- few units, with different names, and not too many blocks
pub record AreUnits (units : List UnitDecl) : Type 0 where
  pub few : nat_le (length units) 32 ≡ true
  pub names : are_distinct (map (λ u. u.name) units) ≡ true
  pub blocks : list_all (λ u. nat_le u.blocks 4096) units ≡ true

abbrev IsBlocks : ℕ → Type 0
IsBlocks n = nat_le n 4096 ≡ true

blocks_are : (d : Device) (tokens : List Tok) → IfOk (blocks_of d tokens) IsBlocks
blocks_are device.Line tokens = after (end_at tokens) _ IsBlocks λ _ _. refl
blocks_are device.Block tokens =
    after_by (number_at 1 4096 tokens) _ (IsInRange 1 4096) IsBlocks (number 1 4096 tokens) λ n h.
    after (end_at (drop 1 tokens)) _ IsBlocks λ _ _. le-leb n 4096 h.1

with_unit : (units : List UnitDecl) (u : UnitDecl) → AreUnits units → unit_place u.name units ≡ None → nat_le u.blocks 4096 ≡ true
    → nat_lt (length units) 32 ≡ true → AreUnits (units ++ u ∷ [])
with_unit units u h new blocks room =
    record {
      few = few_push 32 units u room;
      names = one_more units u h.names new;
      blocks = all_push (λ u. nat_le u.blocks 4096) units u h.blocks blocks;
    }

abbrev pub WithUnit : List UnitDecl → UnitDecl → Type 0
WithUnit units u = AreUnits (units ++ u ∷ [])

pub unit_read : (units : List UnitDecl) (tokens : List Tok) → AreUnits units → IfOk (unit_line units tokens) (WithUnit units)
unfolding unit_line
unit_read units tokens h =
    after (name_at tokens) _ (WithUnit units) λ word _.
    after_by (unused_name (unit_place word units) word) _ (IsFresh (unit_place word units) word) (WithUnit units) (is_fresh (unit_place word units) word) λ name new.
    after (device_at (drop 1 tokens)) _ (WithUnit units) λ d _.
    after_by (blocks_of d (drop 2 tokens)) _ IsBlocks (WithUnit units) (blocks_are d (drop 2 tokens)) λ blocks k.
    after_by (room_for 32 (length units)) _ (λ _. nat_lt (length units) 32 ≡ true) (WithUnit units) (has_room 32 (length units)) λ _ room.
    with_unit units (record { name = name; blocks = blocks; inputs = []; faults = [] }) h (rw new.0 new.1) k room
