-- PROCESS lines are read as their declarations.
use Rattle.std.proofs.Common.{◌≡◌, ℕ, zero, suc, ◌+◌, ◌<◌, ◌≤◌, true, List, [], ◌∷◌, ◌++◌, length, map, nat_lt, refl, sym, subst, ap, ◌∙◌, arith, append-nil, append_assoc, length-append}
use Rattle.std.specs.Prelude.{slice_index_or}
use Rattle.std.specs.List.{AllByRecursion, list_all}
use Rattle.std.proofs.lemmas.Bool.{lt-ltb, ltb-true, and_parts}
use Rattle.std.proofs.lemmas.List.{map-append, length-map}
use Rattle.vx_base.specs.Name.{is_name}
use Rattle.vx_image.specs.WellFormed.{is_among, is_decl}
use Rattle.vx_image.specs.declared.decl.ProcDecl.{ProcDecl}
use Rattle.vx_image.specs.declared.image.Image.{Image}
use Rattle.vx_script.specs.Reading.{between_images}
use Rattle.vx_script.specs.Script.{decl_line}
use Rattle.vx_script.specs.declared.lines.DeclLine.{DeclLine}
use Rattle.vx_script.specs.declared.parts.Parts.{Parts}
use Rattle.vx_roundtrip.specs.Held.{IsHeldImage, IsHeldDecl}
use Rattle.vx_roundtrip.proofs.Names.{Fresh}
use Rattle.vx_roundtrip.proofs.Outer.{stays, step, and_then}
use Rattle.vx_roundtrip.proofs.Process.{line_of, take_process}
use Rattle.vx_roundtrip.proofs.Told.{plain_decl, Said, Told, Comes, told_as}
use Rattle.vx_grammar.proofs.LinesBack.{no_place}
use Rattle.vx_image.specs.Absent.{no_image}

abbrev pub line_names : List DeclLine → List (List ℕ)
line_names decls = map (λ d. d.name) decls

abbrev pub process_names : List ProcDecl → List (List ℕ)
process_names decls = map (λ d. d.name) decls

image_named : (images : List Image) (k : ℕ) → AllByRecursion IsHeldImage images → k < length images → is_name (slice_index_or images k no_image).name ≡ true
image_named [] k held h = absurd (omega arith)
image_named (i ∷ images) zero held h = held.0.0
image_named (i ∷ images) (suc k) held h = image_named images k held.1 (omega arith)

plain_names : (decls : List DeclLine) → line_names (map plain_decl decls) ≡ line_names decls
plain_names [] = refl
plain_names (d ∷ decls) = ap (λ (ns : List (List ℕ)). d.name ∷ ns) (plain_names decls)

-- the names of declarations that were read
pub told_names : (decls told : List DeclLine) → map plain_decl decls ≡ told → line_names decls ≡ line_names told
told_names decls told e = sym (plain_names decls) ∙ ap line_names e

told_length : (decls told : List DeclLine) → map plain_decl decls ≡ told → length decls ≡ length told
told_length decls told e = sym (length-map decls plain_decl) ∙ ap (λ (ds : List DeclLine). length ds) e

abbrev pub with_decls : Said → List DeclLine → Said
with_decls said decls = record said { decls = said.decls ++ decls }

-- the lines of process declarations are read as them
pub decls_back : (names : List (List ℕ)) (line : ℕ) (parts : Parts) (said : Said) (images : List Image) (more : List ProcDecl) (rest : List (List ℕ)) → AllByRecursion IsHeldImage images → AllByRecursion IsHeldDecl more → list_all (is_decl (length images)) more ≡ true → length said.decls + length more ≤ 1000 → Fresh (line_names said.decls) (process_names more) → Told names parts said → Comes names line (between_images parts) (map (decl_line images) more ++ rest) rest (with_decls said (map (line_of 0 images) more))
decls_back names line parts said images [] rest shown held are few fresh told =
    let none : said ≡ with_decls said [] = ap (λ (ds : List DeclLine). record said { decls = ds }) (sym (append-nil said.decls)) in
    record { line2 = line; parts = parts; read = stays line (between_images parts) rest; told = told_as names parts said _ none told }
decls_back names line parts said images (d ∷ more) rest shown held are few fresh told =
    let p = and_parts (is_decl (length images) d) _ are in
    let place = and_parts (nat_lt d.image (length images)) _ p.0 in
    let image = image_named images d.image shown (ltb-true _ _ place.0) in
    let new = no_place (λ (x : DeclLine). x.name) d.name parts.decls (ap (is_among d.name) (told_names parts.decls said.decls told.decls) ∙ fresh.0) in
    let room : nat_lt (length parts.decls) 1000 ≡ true = lt-ltb _ _ (omega (arith, few, told_length parts.decls said.decls told.decls)) in
    let l = line_of line images d in
    let next : Parts = record parts { decls = parts.decls ++ l ∷ [] } in
    let first = line_of 0 images d ∷ [] in
    let now : Told names next (with_decls said first) = record { units = told.units; inputs = told.inputs; faults = told.faults; images = told.images; decls = map-append plain_decl parts.decls (l ∷ []) ∙ ap (λ (ds : List DeclLine). ds ++ first) told.decls; creations = told.creations; unlabelled = told.unlabelled } in
    let fresh_more : Fresh (line_names (said.decls ++ first)) (process_names more) = subst (λ (ns : List (List ℕ)). Fresh ns (process_names more)) (sym (map-append (λ (x : DeclLine). x.name) said.decls first)) fresh.1 in
    let few_more : length (said.decls ++ first) + length more ≤ 1000 = omega (arith, few, length-append said.decls first) in
    let ih = decls_back names (line + 1) next (with_decls said first) images more rest shown held.1 p.1 few_more fresh_more now in
    let all = ap (λ (ds : List DeclLine). record said { decls = ds }) (append_assoc said.decls first (map (line_of 0 images) more)) in
    record {
      line2 = ih.line2;
      parts = ih.parts;
      read = and_then (step line (between_images parts) (between_images next) (decl_line images d) _ (take_process line parts images (length images) d p.0 held.0 image new room)) ih.read;
      told = told_as names ih.parts _ _ all ih.told;
    }
