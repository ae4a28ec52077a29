-- What is read of a text is exactly what the grammar spells.
use Rattle.std.proofs.Common.{◌≡◌, ℕ, ◌≤◌, true, List, [], ◌∷◌, length, map, flat_map, Option, Some, None, Ok, refl, sym, subst, ap, ◌∙◌, arith}
use Rattle.std.proofs.lemmas.Bool.{leb-true}
use Rattle.std.proofs.lemmas.List.{length-map}
use Rattle.vx_grammar.proofs.Fields.{one_ok}
use Rattle.vx_image.specs.declared.decl.ProcDecl.{ProcDecl}
use Rattle.vx_image.specs.declared.image.Image.{Image}
use Rattle.vx_image.specs.declared.system.System.{System}
use Rattle.vx_image.specs.declared.unit.UnitDecl.{UnitDecl}
use Rattle.vx_image.specs.WellFormed.{are_distinct}
use Rattle.vx_script.specs.Lines.{lines_of}
use Rattle.vx_script.specs.Reading.{nothing_read, read_script}
use Rattle.vx_script.specs.Resolving.{first_unknown, resolved}
use Rattle.vx_script.specs.Resolving as resolving
use Rattle.vx_script.specs.declared.parts.Parts.{Parts}
use Rattle.vx_script.proofs.Accepted.{accepted}
use Rattle.vx_script.proofs.KeptParts.{nothing_kept}
use Rattle.vx_script.proofs.ResolvedSystem.{IsFormed}
use Rattle.vx_grammar.specs.Grammar.{Item, OfUnit, OfInput, OfFault, OfImage, OfProcess, unit_in, image_in, decl_in, Spells, tokens_of}
use Rattle.vx_grammar.proofs.Feeding.{Fed, fed, fed_back}
use Rattle.vx_grammar.proofs.InnerSpelled.{Outer, back}
use Rattle.vx_grammar.proofs.LinesBack.{Room, Rooms, unit_name_in, image_name_in, decl_name_in, lines_read}
use Rattle.vx_grammar.proofs.Looking.{all_known, known_all, same_system, faults_differ}
use Rattle.vx_grammar.proofs.SaidSoFar.{Known}
use Rattle.vx_grammar.proofs.TextLines.{lines_cut, cut_lines}
use Rattle.vx_grammar.proofs.FirstFaults.{starts}

-- Read, and so spelled.

resolved_by : (all : Parts) (unknown : Option ℕ) (s : System) → resolved all unknown ≡ Ok s → (unknown ≡ None) × (resolving.system_of all ≡ s)
resolved_by all None s h = (refl, (let e : resolving.system_of all ≡ s = cc in e))
resolved_by all (Some line) s h = absurd (cc)

spelled_by : (text : List ℕ) (s : System) (f : Fed 1 nothing_read (lines_of text) s) → IsFormed s → Known s f.all → resolving.system_of f.all ≡ s → Spells text s
spelled_by text s f well known same =
    let images : s.images ≡ f.all.images = ap (λ (t : System). t.images) (sym same) in
    let o : Outer s f.all nothing_read.parts f.tss = back s f.all 1 nothing_read f.tss (record { images = images; formed = well.images }) known f.fed in
    let adds = o.adds in
    record {
      lines = lines_of text;
      tokens = f.tss;
      items = o.items;
      cut = cut_lines text;
      lexed = f.lexed;
      script = o.lines;
      system = sym same ∙ same_system s f.all o.items images adds;
      units_once = well.unit_names;
      images_once = well.image_names;
      processes_once = well.process_names;
      faults_once = ap are_distinct (sym adds.faults) ∙ faults_differ f.all.faults f.kept.faults.apart;
      few_units = leb-true _ _ well.few_units;
      few_images = leb-true _ _ well.few_images;
      few_processes = leb-true _ _ well.few_decls;
    }

pub read_is_spelled : (text : List ℕ) (s : System) → read_script text ≡ Ok s → Spells text s
read_is_spelled text s h =
    let f = fed 1 nothing_read (lines_of text) s nothing_kept (sym (starts text) ∙ h) in
    let r = resolved_by f.all (first_unknown f.all) s f.resolved in
    spelled_by text s f (accepted text s h) (subst (λ (t : System). Known t f.all) r.1 (all_known f.all r.0)) r.1

-- Spelled, and so read.

unit_names_in : (items some : List Item) → map (λ (u : UnitDecl). u.name) (flat_map (unit_in items) some) ≡ flat_map unit_name_in some
unit_names_in items [] = refl
unit_names_in items (OfUnit name blocks ∷ some) = ap (λ (ns : List (List ℕ)). name ∷ ns) (unit_names_in items some)
unit_names_in items (OfInput unit text ∷ some) = unit_names_in items some
unit_names_in items (OfFault unit n ∷ some) = unit_names_in items some
unit_names_in items (OfImage i ∷ some) = unit_names_in items some
unit_names_in items (OfProcess d ∷ some) = unit_names_in items some

image_names_in : (some : List Item) → map (λ (i : Image). i.name) (flat_map image_in some) ≡ flat_map image_name_in some
image_names_in [] = refl
image_names_in (OfUnit name blocks ∷ some) = image_names_in some
image_names_in (OfInput unit text ∷ some) = image_names_in some
image_names_in (OfFault unit n ∷ some) = image_names_in some
image_names_in (OfImage i ∷ some) = ap (λ (ns : List (List ℕ)). i.name ∷ ns) (image_names_in some)
image_names_in (OfProcess d ∷ some) = image_names_in some

decl_names_in : (some : List Item) → map (λ (d : ProcDecl). d.name) (flat_map decl_in some) ≡ flat_map decl_name_in some
decl_names_in [] = refl
decl_names_in (OfUnit name blocks ∷ some) = decl_names_in some
decl_names_in (OfInput unit text ∷ some) = decl_names_in some
decl_names_in (OfFault unit n ∷ some) = decl_names_in some
decl_names_in (OfImage i ∷ some) = decl_names_in some
decl_names_in (OfProcess d ∷ some) = ap (λ (ns : List (List ℕ)). d.name ∷ ns) (decl_names_in some)

room_of : {A : Type 0} (most : ℕ) (name : A → List ℕ) (xs ys : List A) (ns : List (List ℕ)) → xs ≡ ys → map name ys ≡ ns → are_distinct (map name xs) ≡ true → length xs ≤ most → Room most [] ns
room_of most name xs ys ns e f apart few =
    let same : map name xs ≡ ns = ap (map name) e ∙ f in
    let long : length (map name xs) ≡ length xs = length-map xs name in
    let bound : length (map name xs) ≤ most = omega (arith, long, few) in
    record { apart = subst (λ (us : List (List ℕ)). are_distinct us ≡ true) same apart; few = subst (λ (us : List (List ℕ)). length us ≤ most) same bound }

rooms_of : (text : List ℕ) (s : System) (g : Spells text s) → Rooms nothing_read.parts g.items
rooms_of text s g = record {
  units = room_of 32 (λ (u : UnitDecl). u.name) s.units (flat_map (unit_in g.items) g.items) (flat_map unit_name_in g.items) (ap (λ (t : System). t.units) g.system) (unit_names_in g.items g.items) g.units_once g.few_units;
  images = room_of 256 (λ (i : Image). i.name) s.images (flat_map image_in g.items) (flat_map image_name_in g.items) (ap (λ (t : System). t.images) g.system) (image_names_in g.items) g.images_once g.few_images;
  decls = room_of 1000 (λ (d : ProcDecl). d.name) s.decls (flat_map decl_in g.items) (flat_map decl_name_in g.items) (ap (λ (t : System). t.decls) g.system) (decl_names_in g.items) g.processes_once g.few_processes;
  faults = g.faults_once;
}

pub spelled_is_read : (text : List ℕ) (s : System) → Spells text s → read_script text ≡ Ok s
spelled_is_read text s g =
    let start : Known s nothing_read.parts = record { labels = refl; creations = refl; images = refl; inputs = refl; faults = refl } in
    let r = lines_read s g.tokens g.items g.script 1 nothing_read.parts start (rooms_of text s g) in
    let images : s.images ≡ r.all.images = ap (λ (t : System). t.images) g.system ∙ sym r.adds.images in
    let same : resolving.system_of r.all ≡ s = same_system s r.all g.items images r.adds ∙ sym g.system in
    let known : Known (resolving.system_of r.all) r.all = subst (λ (t : System). Known t r.all) (sym same) r.known in
    starts text ∙ fed_back 1 nothing_read (lines_of text) g.tokens r.all (ap (map tokens_of) (lines_cut text g.lines g.cut) ∙ g.lexed) r.fed
    ∙ ap (resolved r.all) (known_all r.all known) ∙ ap (λ (t : System). Ok t) same

-- a text says one system

pub at_most_one : (text : List ℕ) (s t : System) → Spells text s → Spells text t → s ≡ t
at_most_one text s t g h = one_ok (read_script text) s t (spelled_is_read text s g) (spelled_is_read text t h)
