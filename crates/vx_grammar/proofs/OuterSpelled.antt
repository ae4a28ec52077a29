-- The lines that stand in no image: what is read of them is what the grammar says.
use Rattle.std.proofs.Common.{◌≡◌, ℕ, true, List, [], ◌∷◌, length, drop, codes, Option, Some, None, is_some, Result, Ok, Err, refl, sym, subst, ap, unwrap_or}
use Rattle.std.specs.List.{list_any}
use Rattle.vx_image.specs.declared.decl.ProcDecl.{ProcDecl}
use Rattle.vx_image.specs.declared.image.Image.{Image}
use Rattle.vx_image.specs.declared.system.System.{System}
use Rattle.vx_image.specs.declared.unit.UnitDecl.{UnitDecl}
use Rattle.vx_text.specs.declared.token.Tok.{Tok}
use Rattle.vx_text.specs.declared.token.Tok.TheVariants as tok
use Rattle.vx_script.specs.Fields.{end_at, name_at, number_at, text_at, room_for, device_name, device_in, device_at, blocks_of}
use Rattle.vx_script.specs.Keys.{no_keys, keys_from}
use Rattle.vx_script.specs.Declarations.{decl_place, unused_name, unit_line, input_line, is_fault_of, fresh_fault, fault_line, image_line, process_line}
use Rattle.vx_script.specs.Places.{unit_place, image_place}
use Rattle.vx_script.specs.Resolving.{decl_of}
use Rattle.vx_script.specs.declared.declaration.Device.{Device}
use Rattle.vx_script.specs.declared.declaration.Device.TheVariants as device
use Rattle.vx_script.specs.declared.draft.DraftImage.{DraftImage}
use Rattle.vx_script.specs.declared.fault.FaultKind.{FaultKind}
use Rattle.vx_script.specs.declared.fault.FaultKind.TheVariants as kind
use Rattle.vx_script.specs.declared.keys.Keys.{Keys}
use Rattle.vx_script.specs.declared.lines.DeclLine.{DeclLine}
use Rattle.vx_script.specs.declared.lines.FaultLine.{FaultLine}
use Rattle.vx_script.specs.declared.lines.InputLine.{InputLine}
use Rattle.vx_grammar.specs.Grammar.{plain_decl, OfUnit, OfInput, OfFault, OfProcess, Line, a_line_unit, a_block_unit, an_input, a_fault, a_process}
use Rattle.vx_grammar.proofs.Fields.{bind_ok, found_name, end_is, name_found, number_found, text_found, choice_found}
use Rattle.vx_grammar.proofs.ProcessKeys.{KeysStand, keys_stand}
use Rattle.vx_grammar.proofs.SaidSoFar.{bare_unit, has_image, has_line_unit, has_unit}
use Rattle.vx_base.proofs.Bools.{either_by}

fresh_ok : (o : Option ℕ) (word name : List ℕ) → unused_name o word ≡ Ok name → word ≡ name
fresh_ok None word name h = cc
fresh_ok (Some k) word name h = absurd (cc)

-- UNIT

-- tokens behind UNIT say this unit
pub record UnitSpelled (ts : List Tok) (u : UnitDecl) : Type 0 where
  pub name : List ℕ
  pub blocks : ℕ
  pub is : bare_unit name blocks ≡ u
  pub line : (s : System) → Line s (tok.Word (codes "UNIT") ∷ ts) (OfUnit name blocks)

device_token : (t : Tok) (d : Device) → device_in t ≡ Some d → t ≡ tok.Word (device_name d)
device_token (tok.Word w) d h = ap tok.Word (found_name device_name (device.Line ∷ device.Block ∷ []) w d h)
device_token (tok.Num n) d h = absurd (cc)
device_token (tok.Cond c) d h = absurd (cc)
device_token (tok.Sign s) d h = absurd (cc)
device_token (tok.Service m) d h = absurd (cc)
device_token (tok.Quote b) d h = absurd (cc)

by_device : (ts : List Tok) (name : List ℕ) (d : Device) (blocks : ℕ) → ts ≡ tok.Word name ∷ tok.Word (device_name d) ∷ drop 2 ts → blocks_of d (drop 2 ts) ≡ Ok blocks
    → (s : System) → Line s (tok.Word (codes "UNIT") ∷ ts) (OfUnit name blocks)
by_device ts name device.Line blocks e h s =
    let b = bind_ok (end_at (drop 2 ts)) _ blocks h in
    let end = end_is 2 ts b.0 b.1 in
    let none : 0 ≡ blocks = cc (b.2) in
    let shape : tok.Word (codes "UNIT") ∷ tok.Word name ∷ tok.Word (codes "LINE") ∷ [] ≡ tok.Word (codes "UNIT") ∷ ts = cc in
    subst (λ (k : ℕ). Line s (tok.Word (codes "UNIT") ∷ ts) (OfUnit name k)) none (subst (λ (us : List Tok). Line s us (OfUnit name 0)) shape (a_line_unit name))
by_device ts name device.Block blocks e h s =
    let b = bind_ok (number_at 1 4096 (drop 2 ts)) _ blocks h in
    let c = bind_ok (end_at (drop 1 (drop 2 ts))) _ blocks b.2 in
    let n = number_found 2 1 4096 ts b.0 b.1 in
    let f = n.0 in
    let end = end_is 1 (drop 2 ts) c.0 c.1 in
    let same : b.0 ≡ blocks = cc (c.2) in
    let tail : drop 1 (drop 2 ts) ≡ drop 3 ts = ap (drop 1) f in
    let shape : tok.Word (codes "UNIT") ∷ tok.Word name ∷ tok.Word (codes "BLOCK") ∷ tok.Num b.0 ∷ [] ≡ tok.Word (codes "UNIT") ∷ ts = cc in
    subst (λ (k : ℕ). Line s (tok.Word (codes "UNIT") ∷ ts) (OfUnit name k)) same (subst (λ (us : List Tok). Line s us (OfUnit name b.0)) shape (a_block_unit name b.0 n.1))

pub unit_spelled : (units : List UnitDecl) (ts : List Tok) (u : UnitDecl) → unit_line units ts ≡ Ok u → UnitSpelled ts u
unfolding unit_line
unit_spelled units ts u h =
    let w = bind_ok (name_at ts) _ u h in
    let n = bind_ok (unused_name (unit_place w.0 units) w.0) _ u w.2 in
    let d = bind_ok (device_at (drop 1 ts)) _ u n.2 in
    let b = bind_ok (blocks_of d.0 (drop 2 ts)) _ u d.2 in
    let r = bind_ok (room_for 32 (length units)) _ u b.2 in
    let e0 = name_found 0 ts w.0 w.1 in
    let e1 = choice_found 1 kind.Word ts device_name device_in d.0 (λ t. device_token t d.0) d.1 in
    let same = fresh_ok (unit_place w.0 units) w.0 n.0 n.1 in
    let shape : ts ≡ tok.Word n.0 ∷ tok.Word (device_name d.0) ∷ drop 2 ts = cc in
    record { name = n.0; blocks = b.0; is = (let e : bare_unit n.0 b.0 ≡ u = cc (r.2) in e); line = by_device ts n.0 d.0 b.0 shape b.1 }

-- INPUT

pub input_spelled : (line : ℕ) (ts : List Tok) (i : InputLine) → input_line line ts ≡ Ok i → (s : System) → has_line_unit s i ≡ true → Line s (tok.Word (codes "INPUT") ∷ ts) (OfInput i.unit i.text)
unfolding input_line
input_spelled line ts i h s known =
    let u = bind_ok (name_at ts) _ i h in
    let t = bind_ok (text_at (drop 1 ts)) _ i u.2 in
    let end = bind_ok (end_at (drop 2 ts)) _ i t.2 in
    let e0 = name_found 0 ts u.0 u.1 in
    let e1 = text_found 1 ts t.0 t.1 in
    let f1 = e1.0 in
    let e2 = end_is 2 ts end.0 end.1 in
    let is : record { line = line; unit = u.0; text = t.0 } ≡ i = cc (end.2) in
    let shape : tok.Word (codes "INPUT") ∷ tok.Word u.0 ∷ tok.Quote t.0 ∷ [] ≡ tok.Word (codes "INPUT") ∷ ts = cc in
    subst (λ (j : InputLine). has_line_unit s j ≡ true → Line s (tok.Word (codes "INPUT") ∷ ts) (OfInput j.unit j.text)) is
    (λ k. subst (λ (us : List Tok). Line s us (OfInput u.0 t.0)) shape (an_input u.0 t.0 e1.1 k)) known

-- FAULT

fresh_fault_ok : (unit : List ℕ) (n m : ℕ) (faults : List FaultLine) → fresh_fault unit n faults ≡ Ok m → n ≡ m
fresh_fault_ok unit n m faults = either_by {A = Result ℕ FaultKind} (λ r. r ≡ Ok m → n ≡ m) (list_any (is_fault_of unit n) faults) (Err kind.Twice) (Ok n) (λ _ h. absurd (cc)) (λ _ h. cc)

pub fault_spelled : (line : ℕ) (faults : List FaultLine) (ts : List Tok) (f : FaultLine) → fault_line line faults ts ≡ Ok f → (s : System) → has_unit s f ≡ true
    → Line s (tok.Word (codes "FAULT") ∷ ts) (OfFault f.unit f.number)
unfolding fault_line
fault_spelled line faults ts f h s known =
    let u = bind_ok (name_at ts) _ f h in
    let n = bind_ok (number_at 1 100000 (drop 1 ts)) _ f u.2 in
    let m = bind_ok (fresh_fault u.0 n.0 faults) _ f n.2 in
    let end = bind_ok (end_at (drop 2 ts)) _ f m.2 in
    let e0 = name_found 0 ts u.0 u.1 in
    let e1 = number_found 1 1 100000 ts n.0 n.1 in
    let f1 = e1.0 in
    let e2 = end_is 2 ts end.0 end.1 in
    let same = fresh_fault_ok u.0 n.0 m.0 faults m.1 in
    let is : record { line = line; unit = u.0; number = n.0 } ≡ f = cc (end.2) in
    let shape : tok.Word (codes "FAULT") ∷ tok.Word u.0 ∷ tok.Num n.0 ∷ [] ≡ tok.Word (codes "FAULT") ∷ ts = cc in
    subst (λ (g : FaultLine). has_unit s g ≡ true → Line s (tok.Word (codes "FAULT") ∷ ts) (OfFault g.unit g.number)) is
    (λ k. subst (λ (us : List Tok). Line s us (OfFault u.0 n.0)) shape (a_fault u.0 n.0 e1.1 k)) known

-- IMAGE

pub image_spelled : (images : List Image) (ts : List Tok) (image : DraftImage) → image_line images ts ≡ Ok image → (name : List ℕ) × (ts ≡ tok.Word name ∷ []) × (record { name = name; labels = []; lines = [] } ≡ image)
unfolding image_line
image_spelled images ts image h =
    let w = bind_ok (name_at ts) _ image h in
    let n = bind_ok (unused_name (image_place w.0 images) w.0) _ image w.2 in
    let end = bind_ok (end_at (drop 1 ts)) _ image n.2 in
    let r = bind_ok (room_for 256 (length images)) _ image end.2 in
    let e0 = name_found 0 ts w.0 w.1 in
    let e1 = end_is 1 ts end.0 end.1 in
    let same = fresh_ok (image_place w.0 images) w.0 n.0 n.1 in
    (n.0, (let shape : ts ≡ tok.Word n.0 ∷ [] = cc in shape), (let is : record { name = n.0; labels = []; lines = [] } ≡ image = cc (r.2) in is))

-- PROCESS

-- tokens behind PROCESS say this process declaration
pub record ProcessSpelled (s : System) (ts : List Tok) (d : DeclLine) : Type 0 where
  pub decl : ProcDecl
  pub is : decl_of s.images d ≡ decl
  pub line : Line s (tok.Word (codes "PROCESS") ∷ ts) (OfProcess decl)

there : (o : Option ℕ) → is_some o ≡ true → o ≡ Some (unwrap_or o 0)
there None h = absurd (cc)
there (Some k) h = refl

process_by : (s : System) (line : ℕ) (ts : List Tok) (name image : List ℕ) (keys : Keys) → ts ≡ tok.Word name ∷ tok.Word image ∷ drop 2 ts → KeysStand no_keys (drop 2 ts) keys
    → is_some (image_place image s.images) ≡ true → ProcessSpelled s ts (record { line = line; name = name; image = image; keys = keys })
process_by s line ts name image keys e k known =
    let place = unwrap_or (image_place image s.images) 0 in
    record {
      decl = k.set (plain_decl name place);
      is = k.sets name place;
      line = subst (λ (us : List Tok). Line s (tok.Word (codes "PROCESS") ∷ us) (OfProcess (k.set (plain_decl name place)))) (sym e)
          (a_process name image place (drop 2 ts) k.ks k.set (there (image_place image s.images) known) k.are k.new.apart);
    }

pub process_spelled : (line : ℕ) (decls : List DeclLine) (ts : List Tok) (d : DeclLine) → process_line line decls ts ≡ Ok d → (s : System) → has_image s d ≡ true → ProcessSpelled s ts d
unfolding process_line
process_spelled line decls ts d h s known =
    let w = bind_ok (name_at ts) _ d h in
    let n = bind_ok (unused_name (decl_place w.0 decls) w.0) _ d w.2 in
    let i = bind_ok (name_at (drop 1 ts)) _ d n.2 in
    let k = bind_ok (keys_from 0 no_keys (drop 2 ts)) _ d i.2 in
    let r = bind_ok (room_for 1000 (length decls)) _ d k.2 in
    let e0 = name_found 0 ts w.0 w.1 in
    let e1 = name_found 1 ts i.0 i.1 in
    let same = fresh_ok (decl_place w.0 decls) w.0 n.0 n.1 in
    let is : record { line = line; name = n.0; image = i.0; keys = k.0 } ≡ d = cc (r.2) in
    let shape : ts ≡ tok.Word n.0 ∷ tok.Word i.0 ∷ drop 2 ts = cc in
    subst (λ (e : DeclLine). has_image s e ≡ true → ProcessSpelled s ts e) is (process_by s line ts n.0 i.0 k.0 shape (keys_stand no_keys (drop 2 ts) k.0 k.1)) known
