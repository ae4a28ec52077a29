-- An image that has ended, each of whose labels and process declarations is there, is well formed.
use Rattle.std.proofs.Common.{◌≡◌, ◌∙◌, ℕ, Bool, true, false, not, ◌&&◌, nat_lt, nat_le, List, [], ◌∷◌, ◌++◌, length, map, find, Option, Some, None, bytes_eq, refl, sym, ap, unwrap_or}
use Rattle.std.specs.List.{list_all}
use Rattle.std.proofs.lemmas.Bool.{and_parts, and_from, not-true, not-false}
use Rattle.vx_base.proofs.Any.{all_weaker, all_push, any_map}
use Rattle.vx_base.specs.Services.{is_call, is_operand, args_list}
use Rattle.vx_base.specs.declared.call.Arg.{Arg}
use Rattle.vx_base.specs.declared.call.Arg.TheVariants as arg
use Rattle.vx_base.specs.declared.call.Call.{Call}
use Rattle.vx_base.specs.declared.service.Service.{Service}
use Rattle.vx_base.specs.declared.service.Service.TheVariants.{CrePrc}
use Rattle.vx_image.specs.declared.image.Image.{Image}
use Rattle.vx_image.specs.declared.image.Label.{Label}
use Rattle.vx_image.specs.declared.stmt.Stmt.{Stmt}
use Rattle.vx_image.specs.declared.stmt.Stmt.TheVariants as stmt
use Rattle.vx_image.specs.WellFormed.{is_among, are_distinct, falls_nowhere, label_names, label_places, has_its_label, has_its_decl, is_call_of, is_stmt}
use Rattle.vx_script.specs.Resolving.{least_line, is_label, arg_names_none, call_names_none, draft_names_none, names_no_label, first_unlabelled, settled, image_of, created_by, created_in, creation_of, creations_of}
use Rattle.vx_script.specs.Places.{label_place}
use Rattle.vx_script.specs.declared.draft.Draft.{Draft}
use Rattle.vx_script.specs.declared.draft.Draft.TheVariants as draft
use Rattle.vx_script.specs.declared.draft.DraftImage.{DraftImage}
use Rattle.vx_script.specs.declared.draft.DraftLine.{DraftLine}
use Rattle.vx_script.specs.declared.lines.Creation.{Creation}
use Rattle.vx_script.proofs.Appended.{all_both, few_push, distinct_push, unfound, none_any}
use Rattle.vx_script.proofs.InRange.{is_plain, is_draft}
use Rattle.vx_script.proofs.OpenImages.{IsOpen}
use Rattle.vx_script.proofs.Places.{has_place, placed}
use Rattle.std.proofs.lemmas.List.{map_push, length-map}
use Rattle.vx_base.proofs.Lists.{none_mapped}

-- the process declaration that a statement names is one of these
abbrev pub is_known : List (List ℕ) → Creation → Bool
is_known decls c = is_among c.name decls

-- Labels.

has_label : (image : Image) (a : Arg) → not (arg_names_none image.labels a) ≡ true → has_its_label image a ≡ true
has_label image (arg.Label (Some name)) h =
    let p = λ (l : Label). bytes_eq name l.name in
    any_map (bytes_eq name) (λ (l : Label). l.name) image.labels ∙ sym (has_place p image.labels) ∙ not-false (is_label image.labels name) (not-true _ h)
has_label image (arg.Label None) h = refl
has_label image _ h = refl

label_is : (image : Image) (name : List ℕ) → not (is_label image.labels name) ≡ false
    → nat_lt (unwrap_or (label_place name image.labels) 0) (length image.labels) ≡ true
label_is image name h = placed (λ (l : Label). bytes_eq name l.name) image.labels (not-false _ h)

-- Process declarations.

has_decl : (decls : List (List ℕ)) (line : ℕ) (service : Service) (a : Arg) → list_all (is_known decls) (created_by line service a) ≡ true
    → has_its_decl decls service a ≡ true
has_decl decls line CrePrc (arg.Name name) h = (and_parts (is_among name decls) true h).0
has_decl decls line CrePrc _ h = refl
has_decl decls line _ a h = refl

call_is : (decls : List (List ℕ)) (image : Image) (line : ℕ) (c : Call) → is_call c ≡ true → call_names_none image.labels c ≡ false
    → list_all (is_known decls) (created_by line c.service c.args.a1) ≡ true → is_call_of decls image c ≡ true
call_is decls image line c h labels known =
    and_from (is_call c) (list_all (has_its_label image) (args_list c.args) && has_its_decl decls c.service c.args.a1) h (
    and_from (list_all (has_its_label image) (args_list c.args)) (has_its_decl decls c.service c.args.a1)
    (all_weaker (λ a. not (arg_names_none image.labels a)) (has_its_label image) (has_label image)
    (args_list c.args) (none_any (arg_names_none image.labels) (args_list c.args) labels))
    (has_decl decls line c.service c.args.a1 known))

-- Statements.

plain_is : (decls : List (List ℕ)) (image : Image) (line : ℕ) (s : Stmt) → is_plain s ≡ true
    → draft_names_none image.labels (draft.Plain s) ≡ false → list_all (is_known decls) (created_in line (draft.Plain s)) ≡ true
    → is_stmt decls image s ≡ true
plain_is decls image line (stmt.Service c) h labels known = call_is decls image line c h labels known
plain_is decls image line (stmt.Goto k) h labels known = cc
plain_is decls image line (stmt.If x r y k) h labels known = cc
plain_is decls image line (stmt.Let t x) h labels known = h
plain_is decls image line (stmt.Add t x y) h labels known = h
plain_is decls image line (stmt.Sub t x y) h labels known = h
plain_is decls image line (stmt.Put b bytes) h labels known = h
plain_is decls image line (stmt.Byte t b x) h labels known = h
plain_is decls image line (stmt.Iosb t i f) h labels known = h
plain_is decls image line stmt.Return h labels known = refl

settled_is : (decls : List (List ℕ)) (image : Image) (line : ℕ) (d : Draft) → is_draft d ≡ true → draft_names_none image.labels d ≡ false
    → list_all (is_known decls) (created_in line d) ≡ true → is_stmt decls image (settled image.labels d) ≡ true
settled_is decls image line (draft.Goto label) h labels known = label_is image label labels
settled_is decls image line (draft.If x r y label) h labels known =
    let k = unwrap_or (label_place label image.labels) 0 in
    let operands = and_parts (is_operand x) (is_operand y) h in
    and_from (is_operand x) (is_operand y && nat_lt k (length image.labels)) operands.0
    (and_from (is_operand y) (nat_lt k (length image.labels)) operands.1 (label_is image label labels))
settled_is decls image line (draft.Plain s) h labels known = plain_is decls image line s h labels known

stmts_are : (decls : List (List ℕ)) (image : Image) (lines : List DraftLine) → list_all (λ d. is_draft d.draft) lines ≡ true
    → list_all (λ d. not (names_no_label image.labels d)) lines ≡ true → list_all (is_known decls) (creations_of lines) ≡ true
    → list_all (is_stmt decls image) (map (λ d. settled image.labels d.draft) lines) ≡ true
stmts_are decls image [] drafts labels known = refl
stmts_are decls image (d ∷ ds) drafts labels known =
    let range = and_parts (is_draft d.draft) (list_all (λ d. is_draft d.draft) ds) drafts in
    let there = and_parts (not (names_no_label image.labels d)) (list_all (λ d. not (names_no_label image.labels d)) ds) labels in
    let made = all_both (is_known decls) (creation_of d) (creations_of ds) known in
    and_from (is_stmt decls image (settled image.labels d.draft)) (list_all (is_stmt decls image) (map (λ d. settled image.labels d.draft) ds))
    (settled_is decls image d.line d.draft range.0 (not-true _ there.0) made.0)
    (stmts_are decls image ds range.1 there.1 made.1)

-- The image.

-- an image that is well formed, but for the number of its labels
abbrev pub is_formed : List (List ℕ) → Image → Bool
is_formed decls image =
    nat_le (length image.stmts) 10000 && (
    are_distinct (label_names image) && (
    falls_nowhere 0 (label_places image) && (
    list_all (λ place. nat_le place (length image.stmts)) (label_places image) && list_all (is_stmt decls image) image.stmts)))

image_is : (decls : List (List ℕ)) (images : List Image) (image : DraftImage) → IsOpen images image → first_unlabelled image ≡ None
    → list_all (is_known decls) (creations_of image.lines) ≡ true → is_formed decls (image_of image) ≡ true
image_is decls images image h labels known =
    let i : Image = image_of image in
    let n : length i.stmts ≡ length image.lines = length-map image.lines (λ (d : DraftLine). settled image.labels d.draft) in
    let there =
    unfound (names_no_label image.labels) image.lines
    (none_mapped (λ (d : DraftLine). d.line) (find (names_no_label image.labels) image.lines) labels) in
    let few : nat_le (length i.stmts) 10000 ≡ true = ap (λ k. nat_le k 10000) n ∙ h.few in
    let within : list_all (λ place. nat_le place (length i.stmts)) (label_places i) ≡ true =
    ap (λ (k : ℕ). list_all (λ place. nat_le place k) (label_places i)) n ∙ h.within in
    and_from (nat_le (length i.stmts) 10000) _ few (
    and_from (are_distinct (label_names i)) _ h.names (
    and_from (falls_nowhere 0 (label_places i)) _ h.places (
    and_from (list_all (λ place. nat_le place (length i.stmts)) (label_places i)) (list_all (is_stmt decls i) i.stmts) within
    (stmts_are decls i image.lines h.drafts there known))))

-- What has ended.

pub neither : (a b : Option ℕ) → least_line a b ≡ None → (a ≡ None) × (b ≡ None)
neither None b h = (refl, h)
neither (Some a) None h = absurd (cc h)
neither (Some a) (Some b) h = absurd (cc h)

-- few images, with different names, and well formed if each label and each process declaration is there
pub record AreImages (images : List Image) (creations : List Creation) (unlabelled : Option ℕ) : Type 0 where
  pub few : nat_le (length images) 256 ≡ true
  pub names : are_distinct (map (λ i. i.name) images) ≡ true
  pub formed : (decls : List (List ℕ)) → unlabelled ≡ None → list_all (is_known decls) creations ≡ true → list_all (is_formed decls) images ≡ true

pub image_ended : (images : List Image) (creations : List Creation) (unlabelled : Option ℕ) (image : DraftImage)
    → AreImages images creations unlabelled → IsOpen images image
    → AreImages (images ++ image_of image ∷ []) (creations ++ creations_of image.lines) (least_line unlabelled (first_unlabelled image))
image_ended images creations unlabelled image h o =
    let name = λ (i : Image). i.name in
    record {
      few = few_push 256 images (image_of image) o.room;
      names = ap are_distinct (map_push name images (image_of image)) ∙ distinct_push (map name images) image.name h.names o.new;
      formed = λ decls labels known.
          let none = neither unlabelled (first_unlabelled image) labels in
          let all = all_both (is_known decls) creations (creations_of image.lines) known in
          all_push (is_formed decls) images (image_of image) (h.formed decls none.0 all.0) (image_is decls images image o none.1 all.1);
    }
