-- A call that a well formed image makes names labels of the image, also with its arguments computed.
use Rattle.std.proofs.Common.{◌≡◌, ℕ, zero, suc, ◌<◌, List, [], ◌∷◌, Bool, true, length, map, Option, Some, None, IfSome, position, unwrap_or, bytes_eq, slice_get, refl, arith}
use Rattle.std.proofs.lemmas.Bool.{and_parts, and_from}
use Rattle.std.specs.List.{AllByRecursion, list_all, list_any}
use Rattle.vx_base.specs.Services.{is_of_kind, kind_of, is_unused, are_args, args_list, params_of}
use Rattle.vx_record.specs.Types.{Arg, Call, Image, Kind, Label, Param, Stmt, Stop}
use Rattle.vx_base.specs.declared.call.Arg.TheVariants as arg
use Rattle.vx_base.specs.declared.service.Kind.TheVariants as kind
use Rattle.vx_image.specs.Local.{Reader, Moved, computed_arg, computed, stop_at, go_on, local_at, run_local, advanced}
use Rattle.vx_image.specs.Storage.{Storage}
use Rattle.vx_image.specs.WellFormed.{is_among, label_names, has_its_label, is_call_of, is_stmt, is_image}
use Rattle.vx_image.specs.declared.stop.Stop.TheVariants as stop
use Rattle.vx_image.specs.declared.stmt.Stmt.TheVariants as stmt
use Rattle.vx_record.specs.Sound.{FitsImage}
use Rattle.vx_record.specs.Services.{label, label_place, or_start}

pub all_from_list : {A : Type 0} (p : A → Bool) (xs : List A) → list_all p xs ≡ true → AllByRecursion (λ x. p x ≡ true) xs
all_from_list p [] h = tt
all_from_list p (x ∷ xs) h = let parts = and_parts (p x) (list_all p xs) h in (parts.0, all_from_list p xs parts.1)

all_map : {A : Type 0} (p : A → Bool) (f : A → A) → ((x : A) → p x ≡ true → p (f x) ≡ true) → (xs : List A) → list_all p xs ≡ true → list_all p (map f xs) ≡ true
all_map p f k [] h = refl
all_map p f k (x ∷ xs) h = let parts = and_parts (p x) (list_all p xs) h in and_from (p (f x)) (list_all p (map f xs)) (k x parts.0) (all_map p f k xs parts.1)

-- A place that is looked up in a list that has items.

pub placed : {A : Type 0} (p : A → Bool) (xs : List A) → 0 < length xs → unwrap_or (position p xs) 0 < length xs
placed p xs k = grind arith

some_item : {A B : Type 0} (p : B → Bool) (f : A → B) (xs : List A) → list_any p (map f xs) ≡ true → 0 < length xs
some_item p f [] h = cc
some_item p f (x ∷ xs) h = omega arith

label_stands : (image : Image) (name : List ℕ) → is_among name (label_names image) ≡ true → label_place image name < length image.labels
label_stands image name h = placed (λ (l : Label). bytes_eq l.name name) image.labels (some_item (bytes_eq name) (λ (l : Label). l.name) image.labels h)

-- a label that has to be there
pub labelled : (image : Image) (a : Arg) → is_of_kind kind.Label a ≡ true → has_its_label image a ≡ true → label_place image (or_start (label a)) < length image.labels
labelled image (arg.Label (Some name)) k h = label_stands image name h
labelled image a k h = cc

-- a label that may be there
pub labelled_or_none : (image : Image) (a : Arg) → has_its_label image a ≡ true → IfSome (label a) (λ name. label_place image name < length image.labels)
labelled_or_none image (arg.Label (Some name)) h = label_stands image name h
labelled_or_none image a h = tt

-- Computed arguments.

computed_label : (image : Image) (who : Reader) (store : Storage) (a : Arg) → has_its_label image a ≡ true → has_its_label image (computed_arg who store a) ≡ true
computed_label image who store (arg.Label x) h = h
computed_label image who store a h = refl

computed_kind : (k : Kind) (who : Reader) (store : Storage) (a : Arg) → is_of_kind k a ≡ true → is_of_kind k (computed_arg who store a) ≡ true
computed_kind kind.Value who store (arg.Value x) h = refl
computed_kind k who store (arg.Value x) h = h
computed_kind k who store a h = h

computed_unused : (who : Reader) (store : Storage) (a : Arg) → is_unused a ≡ true → is_unused (computed_arg who store a) ≡ true
computed_unused who store (arg.Value x) h = h
computed_unused who store a h = h

computed_args : (who : Reader) (store : Storage) (ps : List Param) (xs : List Arg) → are_args ps xs ≡ true → are_args ps (map (computed_arg who store) xs) ≡ true
computed_args who store [] [] h = refl
computed_args who store [] (a ∷ more) h = let rest = computed_args who store [] more in let one = computed_unused who store a in grind arith
computed_args who store (p ∷ ps) [] h = h
computed_args who store (p ∷ ps) (a ∷ more) h = let rest = computed_args who store ps more in let one = computed_kind (kind_of p) who store a in grind arith

fits_of : (names : List (List ℕ)) (image : Image) (c : Call) → is_call_of names image c ≡ true → FitsImage image c
fits_of names image c h = grind (arith, and_parts)

computed_fits : (image : Image) (who : Reader) (store : Storage) (c : Call) → FitsImage image c → FitsImage image (computed who store c)
computed_fits image who store c f = record { args = computed_args who store (params_of c.service) (args_list c.args) f.args; labels = all_map (has_its_label image) (computed_arg who store) (computed_label image who store) (args_list c.args) f.labels }

-- A run of local statements.

abbrev pub StopFits : Image → Stop → Type 0
StopFits image (stop.Call c) = FitsImage image c
StopFits image stop.Return = Unit {0}
StopFits image stop.End = Unit {0}
StopFits image stop.Local = Unit {0}

stop_fits : (names : List (List ℕ)) (image : Image) (who : Reader) (store : Storage) (o : Option Stmt) → IfSome o (λ s. is_stmt names image s ≡ true) → StopFits image (stop_at who store o)
stop_fits names image who store (Some (stmt.Service c)) k = computed_fits image who store c (fits_of names image c k)
stop_fits names image who store o k = tt

some_at : {A : Type 0} (p : A → Bool) (xs : List A) (i : ℕ) → AllByRecursion (λ x. p x ≡ true) xs → IfSome (slice_get xs i) (λ x. p x ≡ true)
some_at p [] i h = tt
some_at p (x ∷ xs) zero h = h.0
some_at p (x ∷ xs) (suc i) h = some_at p xs i h.1

run_local_fits : (n : ℕ) (names : List (List ℕ)) (image : Image) (who : Reader) (store : Storage) (place : ℕ) → AllByRecursion (λ s. is_stmt names image s ≡ true) image.stmts → StopFits image (run_local n image who store place).stop
run_local_fits zero names image who store place h = tt
run_local_fits (suc n) names image who store place h =
    let o = slice_get image.stmts place in
    elim (local_at image who store place o) as (λ (m : Option Moved). StopFits image (go_on who store place o m (λ moved. run_local n image who moved.store moved.place)).stop) [
      | None ↦ stop_fits names image who store o (some_at (is_stmt names image) image.stmts place h)
      | Some moved ↦ run_local_fits n names image who moved.store moved.place h
    ]

pub advanced_fits : (names : List (List ℕ)) (image : Image) (who : Reader) (store : Storage) (place : ℕ) → is_image names image ≡ true → StopFits image (advanced image who store place).stop
advanced_fits names image who store place h = run_local_fits 1000 names image who store place (all_from_list (is_stmt names image) image.stmts (grind arith))
