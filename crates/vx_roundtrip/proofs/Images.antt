-- The lines of images are read as the images.
use Rattle.std.proofs.Common.{◌≡◌, ℕ, ◌+◌, ◌<◌, ◌≤◌, true, false, List, [], ◌∷◌, ◌++◌, length, map, flat_map, nat_lt, nat_le, codes, None, refl, sym, subst, ap, ◌∙◌, arith, append-nil, append_assoc, length-append}
use Rattle.std.specs.List.{AllByRecursion, list_all}
use Rattle.std.proofs.lemmas.Bool.{lt-ltb, leb-true, and_parts}
use Rattle.std.proofs.lemmas.List.{map-append}
use Rattle.std.proofs.lemmas.List.Folds.{list_all-append}
use Rattle.vx_image.specs.WellFormed.{is_among, are_distinct, falls_nowhere, is_image, is_stmt, label_names, label_places}
use Rattle.vx_image.specs.declared.image.Image.{Image}
use Rattle.vx_image.specs.declared.stmt.Stmt.{Stmt}
use Rattle.vx_script.specs.Reading.{between_images, goes_on}
use Rattle.vx_script.specs.Resolving.{with_image, image_of, first_unlabelled, creations_of}
use Rattle.vx_script.specs.Script.{body_lines, image_lines}
use Rattle.vx_script.specs.declared.draft.DraftImage.{DraftImage}
use Rattle.vx_script.specs.declared.parts.Parts.{Parts}
use Rattle.vx_roundtrip.specs.Held.{IsHeldImage}
use Rattle.vx_roundtrip.proofs.Bodies.{Ready, body_back}
use Rattle.vx_roundtrip.proofs.Names.{Fresh, fresh_of}
use Rattle.vx_roundtrip.proofs.Outer.{empty_image, stays, step, and_then, shaped, take_image}
use Rattle.vx_roundtrip.proofs.Settled.{settled_back, none_unlabelled, made_back}
use Rattle.vx_roundtrip.proofs.Stmts.{take_end}
use Rattle.vx_roundtrip.proofs.Told.{Said, Told, Comes, told_as, are_created}
use Rattle.vx_grammar.proofs.LinesBack.{no_place}

-- the parts of the test of an image
record ImageTest (names : List (List ℕ)) (i : Image) : Type 0 where
  few : nat_le (length i.stmts) 10000 ≡ true
  distinct : are_distinct (label_names i) ≡ true
  order : falls_nowhere 0 (label_places i) ≡ true
  bound : list_all (λ place. nat_le place (length i.stmts)) (label_places i) ≡ true
  stmts : list_all (is_stmt names i) i.stmts ≡ true

image_test : (names : List (List ℕ)) (i : Image) → is_image names i ≡ true → ImageTest names i
image_test names i h =
    let few = and_parts (nat_lt (length i.labels) 4294967296) _ h in
    let one = and_parts (nat_le (length i.stmts) 10000) _ few.1 in
    let two = and_parts (are_distinct (label_names i)) _ one.1 in
    let three = and_parts (falls_nowhere 0 (label_places i)) _ two.1 in
    let four = and_parts (list_all (λ place. nat_le place (length i.stmts)) (label_places i)) _ three.1 in
    record { few = one.0; distinct = two.0; order = three.0; bound = four.0; stmts = four.1 }

-- an image at its first line
ready_first : (names : List (List ℕ)) (i : Image) → ImageTest names i → IsHeldImage i → Ready names i 0 (empty_image i.name) i.labels i.stmts
ready_first names i t held =
    let same : length i.stmts ≡ 0 + length i.stmts = omega arith in
    record {
      stands = refl;
      labels_are = refl;
      fresh = fresh_of (label_names i) t.distinct;
      named = held.1;
      order = t.order;
      bound = subst (λ (n : ℕ). list_all (λ place. nat_le place n) (label_places i) ≡ true) same t.bound;
      room = omega (arith, leb-true _ _ t.few);
      stmts_are = t.stmts;
      held = held.2;
      all_named = held.1;
    }

image_shape : (i : Image) (rest : List (List ℕ)) → image_lines i ++ rest ≡ (codes "IMAGE " ++ i.name) ∷ (body_lines i.labels 0 i.labels i.stmts ++ codes "END" ∷ rest)
image_shape i rest = ap (λ (ls : List (List ℕ)). (codes "IMAGE " ++ i.name) ∷ ls) (append_assoc (body_lines i.labels 0 i.labels i.stmts) (codes "END" ∷ []) rest)

abbrev pub image_names : List Image → List (List ℕ)
image_names images = map (λ i. i.name) images

abbrev pub with_images : Said → List Image → Said
with_images said images = record said { images = said.images ++ images }

-- an image that has ended
told_image : (names : List (List ℕ)) (parts : Parts) (said : Said) (d : DraftImage) (i : Image) → image_of d ≡ i → first_unlabelled d ≡ None → are_created names (creations_of d.lines) → Told names parts said → Told names (with_image parts d) (with_images said (i ∷ []))
told_image names parts said d i is none made told = record {
  units = told.units;
  inputs = told.inputs;
  faults = told.faults;
  decls = told.decls;
  images = ap (λ (is : List Image). is ++ image_of d ∷ []) told.images ∙ ap (λ (x : Image). said.images ++ x ∷ []) is;
  creations = list_all-append (λ c. is_among c.name names) parts.creations (creations_of d.lines) ∙ rw (told.creations, made) refl;
  unlabelled = rw (told.unlabelled, none) refl;
}

image_back : (names : List (List ℕ)) (line : ℕ) (parts : Parts) (said : Said) (i : Image) (rest : List (List ℕ)) → IsHeldImage i → is_image names i ≡ true → length said.images < 256 → is_among i.name (image_names said.images) ≡ false → Told names parts said → Comes names line (between_images parts) (image_lines i ++ rest) rest (with_images said (i ∷ []))
image_back names line parts said i rest held are few fresh told =
    let t = image_test names i are in
    let new = no_place (λ (x : Image). x.name) i.name parts.images (ap (λ (is : List Image). is_among i.name (image_names is)) told.images ∙ fresh) in
    let room : nat_lt (length parts.images) 256 ≡ true = lt-ltb _ _ (omega (arith, few, ap (λ (is : List Image). length is) told.images)) in
    let behind = codes "END" ∷ rest in
    let first = step line (between_images parts) (goes_on parts (empty_image i.name)) (codes "IMAGE " ++ i.name) (body_lines i.labels 0 i.labels i.stmts ++ behind) (take_image line parts i.name held.0 new room) in
    let body = body_back names i parts behind i.stmts 0 i.labels (line + 1) (empty_image i.name) (ready_first names i t held) in
    let d : DraftImage = record { name = i.name; labels = i.labels; lines = body.lines } in
    let end = step body.line2 (goes_on parts d) (between_images (with_image parts d)) (codes "END") rest (take_end body.line2 parts d) in
    let is : image_of d ≡ i = ap (λ (ss : List Stmt). record { name = i.name; labels = i.labels; stmts = ss }) (settled_back names i body.lines t.distinct t.stmts body.drafts) in
    let none = none_unlabelled names i body.lines t.distinct t.stmts body.drafts in
    let made = made_back names i body.lines t.stmts body.drafts in
    record {
      line2 = body.line2 + 1;
      parts = with_image parts d;
      read = shaped (image_shape i rest) (and_then first (and_then body.read end));
      told = told_image names parts said d i is none made told;
    }

-- the lines of images are read as them
pub images_back : (names : List (List ℕ)) (line : ℕ) (parts : Parts) (said : Said) (more : List Image) (rest : List (List ℕ)) → AllByRecursion IsHeldImage more → list_all (is_image names) more ≡ true → length said.images + length more ≤ 256 → Fresh (image_names said.images) (image_names more) → Told names parts said → Comes names line (between_images parts) (flat_map image_lines more ++ rest) rest (with_images said more)
images_back names line parts said [] rest held are few fresh told =
    let none : said ≡ with_images said [] = ap (λ (is : List Image). record said { images = is }) (sym (append-nil said.images)) in
    record { line2 = line; parts = parts; read = stays line (between_images parts) rest; told = told_as names parts said _ none told }
images_back names line parts said (i ∷ more) rest held are few fresh told =
    let p = and_parts (is_image names i) (list_all (is_image names) more) are in
    let one = image_back names line parts said i (flat_map image_lines more ++ rest) held.0 p.0 (omega (arith, few)) fresh.0 told in
    let fresh_more : Fresh (image_names (said.images ++ i ∷ [])) (image_names more) = subst (λ (ns : List (List ℕ)). Fresh ns (image_names more)) (sym (map-append (λ (x : Image). x.name) said.images (i ∷ []))) fresh.1 in
    let few_more : length (said.images ++ i ∷ []) + length more ≤ 256 = omega (arith, few, length-append said.images (i ∷ [])) in
    let ih = images_back names one.line2 one.parts (with_images said (i ∷ [])) more rest held.1 p.1 few_more fresh_more one.told in
    let all = ap (λ (is : List Image). record said { images = is }) (append_assoc said.images (i ∷ []) more) in
    record {
      line2 = ih.line2;
      parts = ih.parts;
      read = shaped (append_assoc (image_lines i) (flat_map image_lines more) rest) (and_then one.read ih.read);
      told = told_as names ih.parts _ _ all ih.told;
    }
