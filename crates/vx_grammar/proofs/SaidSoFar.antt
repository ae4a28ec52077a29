-- What lines add to what was read before them, and what must be known of it.
use Rattle.std.proofs.Common.{◌≡◌, ℕ, Bool, true, List, [], ◌∷◌, ◌++◌, map, flat_map, Option, None, is_some, sym, ap, ◌∙◌, append-nil, append_assoc}
use Rattle.std.specs.List.{list_all, list_any}
use Rattle.std.proofs.lemmas.Bool.{and_parts, and_from}
use Rattle.std.proofs.lemmas.List.Folds.{list_all-append}
use Rattle.vx_base.proofs.Any.{all_push}
use Rattle.vx_image.specs.declared.decl.ProcDecl.{ProcDecl}
use Rattle.vx_image.specs.declared.image.Image.{Image}
use Rattle.vx_image.specs.declared.system.System.{System}
use Rattle.vx_image.specs.declared.unit.UnitDecl.{UnitDecl}
use Rattle.vx_image.specs.WellFormed.{is_among, decl_names}
use Rattle.vx_script.specs.Places.{image_place, is_line_unit}
use Rattle.vx_script.specs.Resolving.{input_if, inputs_of, fault_if, numbers_of, decl_of, image_of, with_image, first_unlabelled, least_line, creations_of}
use Rattle.vx_script.specs.declared.draft.DraftImage.{DraftImage}
use Rattle.vx_script.specs.declared.lines.DeclLine.{DeclLine}
use Rattle.vx_script.specs.declared.lines.FaultLine.{FaultLine}
use Rattle.vx_script.specs.declared.lines.InputLine.{InputLine}
use Rattle.vx_script.specs.declared.parts.Parts.{Parts}
use Rattle.vx_script.proofs.Appended.{all_both}
use Rattle.vx_script.proofs.EndedImages.{is_known, neither}
use Rattle.vx_grammar.specs.Grammar.{Item, OfUnit, OfInput, OfFault, OfImage, OfProcess, input_of, number_of, image_in, decl_in, fault_in}
use Rattle.std.proofs.lemmas.List.{map_push}

-- Lists with one more at the end.

pub pushed : {A : Type 0} (xs : List A) (x : A) (ys : List A) → (xs ++ x ∷ []) ++ ys ≡ xs ++ x ∷ ys
pushed xs x ys = append_assoc xs (x ∷ []) ys

pub map_pushed : {A B : Type 0} (f : A → B) (xs : List A) (x : A) (ys : List B) → map f (xs ++ x ∷ []) ++ ys ≡ map f xs ++ f x ∷ ys
map_pushed f xs x ys = ap (λ zs. zs ++ ys) (map_push f xs x) ∙ pushed (map f xs) (f x) ys

pub flat_pushed : {A B : Type 0} (f : A → List B) (xs : List A) (x : A) (ys : List B) → flat_map f (xs ++ x ∷ []) ++ ys ≡ flat_map f xs ++ (f x ++ ys)
flat_pushed f [] x ys = ap (λ zs. zs ++ ys) (append-nil (f x))
flat_pushed f (z ∷ zs) x ys =
    append_assoc (f z) (flat_map f (zs ++ x ∷ [])) ys ∙ ap (λ us. f z ++ us) (flat_pushed f zs x ys) ∙ sym (append_assoc (f z) (flat_map f zs) (f x ++ ys))

-- What lines add.

-- a unit as its line says it, without input lines and faults
abbrev pub plain_unit : Item → List UnitDecl
plain_unit (OfUnit name blocks) = record { name = name; blocks = blocks; inputs = []; faults = [] } ∷ []
plain_unit _ = []

abbrev pub fault_key : FaultLine → List ℕ
fault_key f = f.number ∷ f.unit

-- all that was read in the end is what was read before, and these items
pub record Extends (s : System) (all parts : Parts) (items : List Item) : Type 0 where
  pub units : all.units ≡ parts.units ++ flat_map plain_unit items
  pub inputs : (name : List ℕ) → inputs_of name all.inputs ≡ inputs_of name parts.inputs ++ flat_map (input_of name) items
  pub numbers : (name : List ℕ) → numbers_of name all.faults ≡ numbers_of name parts.faults ++ flat_map (number_of name) items
  pub faults : map fault_key all.faults ≡ map fault_key parts.faults ++ flat_map fault_in items
  pub images : all.images ≡ parts.images ++ flat_map image_in items
  pub decls : map (decl_of s.images) all.decls ≡ map (decl_of s.images) parts.decls ++ flat_map decl_in items

pub nothing_added : (s : System) (parts : Parts) → Extends s parts parts []
nothing_added s parts = record {
  units = sym (append-nil parts.units);
  inputs = λ name. sym (append-nil (inputs_of name parts.inputs));
  numbers = λ name. sym (append-nil (numbers_of name parts.faults));
  faults = sym (append-nil (map fault_key parts.faults));
  images = sym (append-nil parts.images);
  decls = sym (append-nil (map (decl_of s.images) parts.decls));
}

abbrev pub and_unit : Parts → UnitDecl → Parts
and_unit parts u = record parts { units = parts.units ++ u ∷ [] }

abbrev pub and_input : Parts → InputLine → Parts
and_input parts i = record parts { inputs = parts.inputs ++ i ∷ [] }

abbrev pub and_fault : Parts → FaultLine → Parts
and_fault parts f = record parts { faults = parts.faults ++ f ∷ [] }

abbrev pub and_decl : Parts → DeclLine → Parts
and_decl parts d = record parts { decls = parts.decls ++ d ∷ [] }

abbrev pub bare_unit : List ℕ → ℕ → UnitDecl
bare_unit name blocks = record { name = name; blocks = blocks; inputs = []; faults = [] }

pub unit_added : (s : System) (all parts : Parts) (name : List ℕ) (blocks : ℕ) (items : List Item) → Extends s all (and_unit parts (bare_unit name blocks)) items → Extends s all parts (OfUnit name blocks ∷ items)
unit_added s all parts name blocks items e = record {
  units = e.units ∙ pushed parts.units (bare_unit name blocks) (flat_map plain_unit items);
  inputs = e.inputs;
  numbers = e.numbers;
  faults = e.faults;
  images = e.images;
  decls = e.decls;
}

pub input_added : (s : System) (all parts : Parts) (i : InputLine) (items : List Item) → Extends s all (and_input parts i) items → Extends s all parts (OfInput i.unit i.text ∷ items)
input_added s all parts i items e = record {
  units = e.units;
  numbers = e.numbers;
  faults = e.faults;
  images = e.images;
  decls = e.decls;
  inputs = λ name. e.inputs name ∙ flat_pushed (input_if name) parts.inputs i (flat_map (input_of name) items);
}

pub fault_added : (s : System) (all parts : Parts) (f : FaultLine) (items : List Item) → Extends s all (and_fault parts f) items → Extends s all parts (OfFault f.unit f.number ∷ items)
fault_added s all parts f items e = record {
  units = e.units;
  inputs = e.inputs;
  images = e.images;
  decls = e.decls;
  numbers = λ name. e.numbers name ∙ flat_pushed (fault_if name) parts.faults f (flat_map (number_of name) items);
  faults = e.faults ∙ map_pushed fault_key parts.faults f (flat_map fault_in items);
}

pub decl_added : (s : System) (all parts : Parts) (d : DeclLine) (p : ProcDecl) (items : List Item) → decl_of s.images d ≡ p → Extends s all (and_decl parts d) items → Extends s all parts (OfProcess p ∷ items)
decl_added s all parts d p items is e = record {
  units = e.units;
  inputs = e.inputs;
  numbers = e.numbers;
  faults = e.faults;
  images = e.images;
  decls = e.decls ∙ map_pushed (decl_of s.images) parts.decls d (flat_map decl_in items) ∙ ap (λ (q : ProcDecl). map (decl_of s.images) parts.decls ++ q ∷ flat_map decl_in items) is;
}

pub image_added : (s : System) (all parts : Parts) (image : DraftImage) (i : Image) (items : List Item) → image_of image ≡ i → Extends s all (with_image parts image) items → Extends s all parts (OfImage i ∷ items)
image_added s all parts image i items is e = record {
  units = e.units;
  inputs = e.inputs;
  numbers = e.numbers;
  faults = e.faults;
  decls = e.decls;
  images = e.images ∙ pushed parts.images (image_of image) (flat_map image_in items) ∙ ap (λ (j : Image). parts.images ++ j ∷ flat_map image_in items) is;
}

-- What must be known.

abbrev pub has_image : System → DeclLine → Bool
has_image s d = is_some (image_place d.image s.images)

abbrev pub has_line_unit : System → InputLine → Bool
has_line_unit s i = list_any (is_line_unit i.unit) s.units

abbrev pub unit_names : System → List (List ℕ)
unit_names s = map (λ u. u.name) s.units

abbrev pub has_unit : System → FaultLine → Bool
has_unit s f = is_among f.unit (unit_names s)

-- what the lines name is there
pub record Known (s : System) (parts : Parts) : Type 0 where
  pub labels : parts.unlabelled ≡ None
  pub creations : list_all (is_known (decl_names s)) parts.creations ≡ true
  pub images : list_all (has_image s) parts.decls ≡ true
  pub inputs : list_all (has_line_unit s) parts.inputs ≡ true
  pub faults : list_all (has_unit s) parts.faults ≡ true

pub all_front : {A : Type 0} (p : A → Bool) (xs : List A) (x : A) → list_all p (xs ++ x ∷ []) ≡ true → (list_all p xs ≡ true) × (p x ≡ true)
all_front p xs x h = let q = all_both p xs (x ∷ []) h in (q.0, (and_parts (p x) true q.1).0)

pub known_unit : (s : System) (parts : Parts) (u : UnitDecl) → Known s (and_unit parts u) → Known s parts
known_unit s parts u k = record { labels = k.labels; creations = k.creations; images = k.images; inputs = k.inputs; faults = k.faults }

pub with_known_unit : (s : System) (parts : Parts) (u : UnitDecl) → Known s parts → Known s (and_unit parts u)
with_known_unit s parts u k = record { labels = k.labels; creations = k.creations; images = k.images; inputs = k.inputs; faults = k.faults }

pub known_input : (s : System) (parts : Parts) (i : InputLine) → Known s (and_input parts i) → Known s parts × (has_line_unit s i ≡ true)
known_input s parts i k =
    let p = all_front (has_line_unit s) parts.inputs i k.inputs in
    (record { labels = k.labels; creations = k.creations; images = k.images; inputs = p.0; faults = k.faults }, p.1)

pub with_known_input : (s : System) (parts : Parts) (i : InputLine) → Known s parts → has_line_unit s i ≡ true → Known s (and_input parts i)
with_known_input s parts i k h = record { labels = k.labels; creations = k.creations; images = k.images; inputs = all_push (has_line_unit s) parts.inputs i k.inputs h; faults = k.faults }

pub known_fault : (s : System) (parts : Parts) (f : FaultLine) → Known s (and_fault parts f) → Known s parts × (has_unit s f ≡ true)
known_fault s parts f k =
    let p = all_front (has_unit s) parts.faults f k.faults in
    (record { labels = k.labels; creations = k.creations; images = k.images; inputs = k.inputs; faults = p.0 }, p.1)

pub with_known_fault : (s : System) (parts : Parts) (f : FaultLine) → Known s parts → has_unit s f ≡ true → Known s (and_fault parts f)
with_known_fault s parts f k h = record { labels = k.labels; creations = k.creations; images = k.images; inputs = k.inputs; faults = all_push (has_unit s) parts.faults f k.faults h }

pub known_decl : (s : System) (parts : Parts) (d : DeclLine) → Known s (and_decl parts d) → Known s parts × (has_image s d ≡ true)
known_decl s parts d k =
    let p = all_front (has_image s) parts.decls d k.images in
    (record { labels = k.labels; creations = k.creations; images = p.0; inputs = k.inputs; faults = k.faults }, p.1)

pub with_known_decl : (s : System) (parts : Parts) (d : DeclLine) → Known s parts → has_image s d ≡ true → Known s (and_decl parts d)
with_known_decl s parts d k h = record { labels = k.labels; creations = k.creations; images = all_push (has_image s) parts.decls d k.images h; inputs = k.inputs; faults = k.faults }

pub known_image : (s : System) (parts : Parts) (image : DraftImage) → Known s (with_image parts image)
    → Known s parts × (first_unlabelled image ≡ None)
known_image s parts image k =
    let n = neither parts.unlabelled (first_unlabelled image) k.labels in
    let c = all_both (is_known (decl_names s)) parts.creations (creations_of image.lines) k.creations in
    (record { labels = n.0; creations = c.0; images = k.images; inputs = k.inputs; faults = k.faults }, n.1)

pub with_known_image : (s : System) (parts : Parts) (image : DraftImage) → Known s parts → first_unlabelled image ≡ None → list_all (is_known (decl_names s)) (creations_of image.lines) ≡ true
    → Known s (with_image parts image)
with_known_image s parts image k h c = record {
  labels = ap (λ (o : Option ℕ). least_line o (first_unlabelled image)) k.labels ∙ h;
  creations = list_all-append (is_known (decl_names s)) parts.creations (creations_of image.lines) ∙ and_from (list_all (is_known (decl_names s)) parts.creations) _ k.creations c;
  images = k.images;
  inputs = k.inputs;
  faults = k.faults;
}
