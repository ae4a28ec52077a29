-- Each label takes a line of its own, so a text that is shorter than 4294967295 bytes has fewer than 4294967296 labels.
use Rattle.std.proofs.Common.{◌≡◌, ◌≢◌, ℕ, ◌+◌, ◌<◌, ◌≤◌, Bool, true, nat_le, nat_lt, List, [], ◌∷◌, ◌++◌, length, flat_map, codes, Result, Ok, refl, sym, subst, ap, ◌∙◌, arith, length-append}
use Rattle.std.specs.List.{list_all}
use Rattle.std.proofs.lemmas.Bool.{and_parts, and_from, leb-true, le-leb, lt-ltb}
use Rattle.std.proofs.lemmas.List.{length-map}
use Rattle.vx_image.specs.declared.image.Image.{Image}
use Rattle.vx_image.specs.declared.image.Label.{Label}
use Rattle.vx_image.specs.declared.system.System.{System}
use Rattle.vx_image.specs.WellFormed.{IsWellFormed, decl_names, is_image}
use Rattle.vx_text.specs.declared.token.Tok.{Tok}
use Rattle.vx_text.specs.declared.token.Tok.TheVariants as tok
use Rattle.vx_script.proofs.EndedImages.{is_formed}
use Rattle.vx_script.proofs.ResolvedSystem.{IsFormed}
use Rattle.vx_grammar.specs.Grammar.{Said, BodyLine, empty_line, statement_line, label_line, labelled_line, Body, no_lines, and_line, labels_in, ImageOf, Item, Line, a_line_unit, a_block_unit, an_input, a_fault, a_process, Lines, none_left, an_empty_line, a_line, an_image, image_in, IsLines, no_text, last_line, fed_line, returned_line, tokens_of, Spells}

-- a line says one label at most
one_label : (decls : List (List ℕ)) (image : Image) (place : ℕ) (ts : List Tok) (said more : List Said) (n : ℕ) → BodyLine decls image ts said → ((place : ℕ) → length (labels_in place more) ≤ n)
    → length (labels_in place (said ++ more)) ≤ n + 1
one_label decls image place _ _ more n empty_line h = omega (arith, h place)
one_label decls image place _ _ more n (statement_line ts s is) h = omega (arith, h (place + 1))
one_label decls image place _ _ more n (label_line name) h = omega (arith, h place)
one_label decls image place _ _ more n (labelled_line name ts s is) h = omega (arith, h (place + 1))

body_labels : (decls : List (List ℕ)) (image : Image) (tss : List (List Tok)) (said : List Said) → Body decls image tss said → (place : ℕ) → length (labels_in place said) ≤ length tss
body_labels decls image _ _ no_lines place = omega arith
body_labels decls image _ _ (and_line ts tss said more line body) place =
    let h = one_label decls image place ts said more (length tss) line (body_labels decls image tss more body) in
    omega (arith, h)

abbrev has_few : ℕ → Image → Bool
has_few n i = nat_le (length i.labels) n

one_item : (n : ℕ) (s : System) (ts : List Tok) (item : Item) (items : List Item) → Line s ts item → list_all (has_few n) (flat_map image_in items) ≡ true → list_all (has_few n) (flat_map image_in (item ∷ items)) ≡ true
one_item n s _ _ items (a_line_unit name) h = h
one_item n s _ _ items (a_block_unit name k b) h = h
one_item n s _ _ items (an_input unit text b there) h = h
one_item n s _ _ items (a_fault unit k b there) h = h
one_item n s _ _ items (a_process name image k ts keys set place settings once) h = h

image_labels : (n : ℕ) (decls : List (List ℕ)) (body : List (List Tok)) (i : Image) → ImageOf decls body i → length body ≤ n → has_few n i ≡ true
image_labels n decls body i is h =
    let few = body_labels decls i body is.said is.body 0 in
    let same : length i.labels ≡ length (labels_in 0 is.said) = ap (λ (ls : List Label). length ls) is.labels in
    le-leb _ _ (omega (arith, few, same, h))

images_few : (n : ℕ) (s : System) (tss : List (List Tok)) (items : List Item) → Lines s tss items → length tss ≤ n → list_all (has_few n) (flat_map image_in items) ≡ true
images_few n s _ _ none_left h = refl
images_few n s _ _ (an_empty_line tss items more) h = images_few n s tss items more (omega (arith, h))
images_few n s _ _ (a_line ts tss item items line more) h = one_item n s ts item items line (images_few n s tss items more (omega (arith, h)))
images_few n s _ _ (an_image i body tss items is more) h =
    let both = length-append body ((tok.Word (codes "END") ∷ []) ∷ tss) in
    and_from (has_few n i) _ (image_labels n (decl_names s) body i is (omega (arith, h, both))) (images_few n s tss items more (omega (arith, h, both)))

-- a text has no more lines than bytes
some_byte : (line : List ℕ) → line ≢ [] → 1 ≤ length line
some_byte [] h = absurd (h refl)
some_byte (b ∷ line) h = omega arith

pub few_lines : (text : List ℕ) (lines : List (List ℕ)) → IsLines text lines → length lines ≤ length text
few_lines _ _ no_text = omega arith
few_lines _ _ (last_line line h some) = omega (arith, some_byte line some)
few_lines _ _ (fed_line line text lines h unreturned more) = omega (arith, few_lines text lines more, length-append line (10 ∷ text))
few_lines _ _ (returned_line line text lines h more) = omega (arith, few_lines text lines more, length-append line (13 ∷ 10 ∷ text))

-- Well formed systems.

are_images : (decls : List (List ℕ)) (n : ℕ) (images : List Image) → n < 4294967296 → list_all (is_formed decls) images ≡ true → list_all (has_few n) images ≡ true → list_all (is_image decls) images ≡ true
are_images decls n [] bound formed few = refl
are_images decls n (i ∷ images) bound formed few =
    let f = and_parts (is_formed decls i) _ formed in
    let l = and_parts (has_few n i) _ few in
    let below : nat_lt (length i.labels) 4294967296 ≡ true = lt-ltb _ _ (omega (arith, leb-true (length i.labels) n l.0, bound)) in
    and_from (is_image decls i) (list_all (is_image decls) images) (and_from (nat_lt (length i.labels) 4294967296) (is_formed decls i) below f.0) (are_images decls n images bound f.1 l.1)

-- a system that a short text is spelled as is well formed
pub well_formed : (text : List ℕ) (s : System) → length text < 4294967295 → Spells text s → IsFormed s → IsWellFormed s
well_formed text s short g f =
    let same : length g.tokens ≡ length g.lines = sym (length-map g.tokens Ok) ∙ ap (λ (xs : List (Result (List Tok) _)). length xs) (sym g.lexed) ∙ length-map g.lines tokens_of in
    let few = few_lines text g.lines g.cut in
    let images : flat_map image_in g.items ≡ s.images = ap (λ (t : System). t.images) (sym g.system) in
    let labels = subst (λ (is : List Image). list_all (has_few (length text)) is ≡ true) images (images_few (length text) s g.tokens g.items g.script (omega (arith, same, few))) in
    record {
      few_units = f.few_units;
      few_images = f.few_images;
      few_decls = f.few_decls;
      unit_names = f.unit_names;
      image_names = f.image_names;
      process_names = f.process_names;
      units = f.units;
      images = are_images (decl_names s) (length text) s.images (omega (arith, short)) f.images labels;
      decls = f.decls;
    }
