-- Every change of the common clusters keeps what is said of them.
use Rattle.std.proofs.Common.{◌≡◌, ◌∙◌, ℕ, zero, suc, List, [], ◌∷◌, ◌++◌, Bool, true, false, ◌&&◌, ◌||◌, ◌==◌, not, if◌then◌else◌, IsTrue, Option, Some, None, inl, inr, map, bytes_eq, slice_set, slice_index_or, refl, sym, ap}
use Rattle.std.specs.List.{find, list_any, list_all}
use Rattle.std.proofs.lemmas.Bool.{cases_Bool, and_parts, and_from, or_cases, or_left, or_right, or_parts, or_from, not-true, both_ways, eqb-true, eq-eqb}
use Rattle.std.proofs.lemmas.Slice.Eq.{bytes_eq-Decides}
use Rattle.vx_base.specs.Clusters.{Common, Change, unchanged, followed, is_cluster, is_association, is_user, stands, is_used, made, gone, joined, parted, swept_at, swept, dissociated_at, dissociated, has_already, made_where_new, associated, with_mark, marked_at, marked}
use Rattle.vx_base.specs.Flags.{with_flag}
use Rattle.vx_base.specs.Lists.{less, amend}
use Rattle.vx_base.specs.Pieces.{Cluster, Association}
use Rattle.vx_base.specs.declared.number.Pid.{Pid}
use Rattle.vx_base.proofs.First.{found_passes}
use Rattle.vx_clusters.specs.Clusters.{with_flag_at, no_cluster}
use Rattle.vx_clusters.specs.Sound.{are_apart, is_same_cluster, is_same_association, has_cluster, IsSound}
use Rattle.vx_clusters.proofs.Lists.{all_less, apart_less, none_stronger, any_push, any_last, all_push, all_weaker, apart_push}
use Rattle.vx_base.proofs.Any.{none_any}
use Rattle.vx_base.proofs.Clusters.{swept_keeps as swept_associations}

-- Keys.

key_parts : (a b : ℕ) (n m : List ℕ) → IsTrue (a == b && bytes_eq n m) → (a ≡ b) × (n ≡ m)
key_parts a b n m same = let parts = and_parts (a == b) (bytes_eq n m) same in (eqb-true _ _ parts.0, (bytes_eq-Decides n m).0 parts.1)

key_from : (a b : ℕ) (n m : List ℕ) → a ≡ b → n ≡ m → IsTrue (a == b && bytes_eq n m)
key_from a b n m groups names = and_from _ _ (eq-eqb _ _ groups) ((bytes_eq-Decides n m).1 names)

cluster_parts : (group : ℕ) (name : List ℕ) (cl : Cluster) → IsTrue (is_cluster group name cl) → (cl.group ≡ group) × (cl.name ≡ name)
cluster_parts group name cl same = key_parts cl.group group cl.name name same

cluster_from : (group : ℕ) (name : List ℕ) (cl : Cluster) → cl.group ≡ group → cl.name ≡ name → IsTrue (is_cluster group name cl)
cluster_from group name cl groups names = key_from cl.group group cl.name name groups names

user_parts : (group : ℕ) (name : List ℕ) (a : Association) → IsTrue (is_user group name a) → (a.group ≡ group) × (a.name ≡ name)
user_parts group name a same = key_parts a.group group a.name name same

user_from : (group : ℕ) (name : List ℕ) (a : Association) → a.group ≡ group → a.name ≡ name → IsTrue (is_user group name a)
user_from group name a groups names = key_from a.group group a.name name groups names

association_parts : (p : Pid) (k : ℕ) (a : Association) → IsTrue (is_association p k a) → (a.p.0 ≡ p.0) × (a.k ≡ k)
association_parts p k a same = let parts = and_parts (a.p.0 == p.0) (a.k == k) same in (eqb-true a.p.0 p.0 parts.0, eqb-true a.k k parts.1)

association_from : (p : Pid) (k : ℕ) (a : Association) → a.p.0 ≡ p.0 → a.k ≡ k → IsTrue (is_association p k a)
association_from p k a ps ks = and_from _ _ (eq-eqb a.p.0 p.0 ps) (eq-eqb a.k k ks)

-- Parts of a change.

parted_keeps : (c : Common) (p : Pid) (k : ℕ) → IsSound c → IsSound (parted c p k).after
parted_keeps c p k s = record {
  standing = all_less (is_association p k) (has_cluster c.clusters) c.associations s.standing;
  clusters = s.clusters;
  associations = apart_less is_same_association (is_association p k) c.associations s.associations;
}

-- another cluster stays
has_less : (group : ℕ) (name : List ℕ) (a : Association) (xs : List Cluster) → is_user group name a ≡ false → IsTrue (has_cluster xs a) → IsTrue (has_cluster (less (is_cluster group name) xs) a)
has_less group name a [] other has = has
has_less group name a (x ∷ xs) other has = elim (cases_Bool (is_cluster group name x)) [
  | inl passes ↦
      let below : IsTrue (has_cluster xs a) = elim (or_cases (is_cluster a.group a.name x) (has_cluster xs a) has) [
        | inl here ↦
            let e = cluster_parts group name x passes in
            let f = cluster_parts a.group a.name x here in
            absurd (both_ways _ other (user_from group name a (sym f.0 ∙ e.0) (sym f.1 ∙ e.1)))
        | inr below ↦ below
      ] in
      rw passes below
  | inr fails ↦
      let rest : List Cluster = less (is_cluster group name) xs in
      let both : IsTrue (has_cluster (x ∷ rest) a) = elim (or_cases (is_cluster a.group a.name x) (has_cluster xs a) has) [
        | inl here ↦ or_left (is_cluster a.group a.name x) (has_cluster rest a) here
        | inr below ↦ or_right (is_cluster a.group a.name x) (has_cluster rest a) (has_less group name a xs other below)
      ] in
      rw fails both
]

standing_less : (group : ℕ) (name : List ℕ) (clusters : List Cluster) (xs : List Association) → list_any (is_user group name) xs ≡ false → IsTrue (list_all (has_cluster clusters) xs) → IsTrue (list_all (has_cluster (less (is_cluster group name) clusters)) xs)
standing_less group name clusters [] unused standing = refl
standing_less group name clusters (x ∷ xs) unused standing =
    let nones = or_parts (is_user group name x) (list_any (is_user group name) xs) unused in
    let parts = and_parts (has_cluster clusters x) (list_all (has_cluster clusters) xs) standing in
    and_from _ _ (has_less group name x clusters nones.0 parts.0) (standing_less group name clusters xs nones.1 parts.1)

gone_keeps : (c : Common) (group : ℕ) (name : List ℕ) → is_used c group name ≡ false → IsSound c → IsSound (gone c group name).after
gone_keeps c group name unused s = record {
  standing = standing_less group name c.clusters c.associations unused s.standing;
  clusters = apart_less is_same_cluster (is_cluster group name) c.clusters s.clusters;
  associations = s.associations;
}

-- a cluster that is found is no more used than its group and name are
found_unused : (c : Common) (group : ℕ) (name : List ℕ) (cl : Cluster) → find (is_cluster group name) c.clusters ≡ Some cl → is_used c group name ≡ false → is_used c cl.group cl.name ≡ false
found_unused c group name cl found unused =
    let e = cluster_parts group name cl (found_passes (is_cluster group name) c.clusters cl found) in
    none_stronger (is_user group name) (is_user cl.group cl.name) (λ a uses. let f = user_parts cl.group cl.name a uses in user_from group name a (f.0 ∙ e.0) (f.1 ∙ e.1)) c.associations unused

swept_at_keeps : (c : Common) (o : Option Cluster) → ((cl : Cluster) → o ≡ Some cl → is_used c cl.group cl.name ≡ false) → IsSound c → IsSound (swept_at c o).after
swept_at_keeps c None unused s = s
swept_at_keeps c (Some cl) unused s = elim (cl.permanent && not cl.marked) as (λ b. IsSound (if b then unchanged c else gone c cl.group cl.name).after) [ true ↦ s | false ↦ gone_keeps c cl.group cl.name (unused cl refl) s ]

swept_keeps : (c : Common) (group : ℕ) (name : List ℕ) → IsSound c → IsSound (swept c group name).after
swept_keeps c group name s = elim (cases_Bool (is_used c group name)) [
  | inl used ↦ rw used s
  | inr unused ↦ rw unused (swept_at_keeps c (find (is_cluster group name) c.clusters) (λ cl found. found_unused c group name cl found unused) s)
]

dissociated_at_keeps : (c : Common) (p : Pid) (k : ℕ) (o : Option Association) → IsSound c → IsSound (dissociated_at c p k o).after
dissociated_at_keeps c p k None s = s
dissociated_at_keeps c p k (Some a) s = swept_keeps _ a.group a.name (parted_keeps c p k s)

pub dissociated_keeps : (c : Common) (p : Pid) (k : ℕ) → IsSound c → IsSound (dissociated c p k).after
dissociated_keeps c p k s = dissociated_at_keeps c p k (find (is_association p k) c.associations) s

-- After it the process has nothing there.

none_left : (p : Pid) (k : ℕ) (xs : List Association) → IsTrue (are_apart is_same_association xs) → list_any (is_association p k) (less (is_association p k) xs) ≡ false
none_left p k [] apart = refl
none_left p k (x ∷ xs) apart =
    let parts = and_parts (not (list_any (is_same_association x) xs)) (are_apart is_same_association xs) apart in
    elim (cases_Bool (is_association p k x)) [
      | inl passes ↦
          let e = association_parts p k x passes in
          rw passes (none_stronger (is_same_association x) (is_association p k) (λ y same. let f = association_parts p k y same in association_from x.p x.k y (f.0 ∙ sym e.0) (f.1 ∙ sym e.1)) xs (not-true _ parts.0))
      | inr fails ↦ rw fails (or_from _ _ fails (none_left p k xs parts.1))
    ]

dissociated_at_none : (c : Common) (p : Pid) (k : ℕ) (o : Option Association) → find (is_association p k) c.associations ≡ o → IsSound c → list_any (is_association p k) (dissociated_at c p k o).after.associations ≡ false
dissociated_at_none c p k None found s = none_any (is_association p k) c.associations found
dissociated_at_none c p k (Some a) found s = ap (list_any (is_association p k)) (swept_associations (parted c p k).after a.group a.name) ∙ none_left p k c.associations s.associations

-- Making and joining.

made_keeps : (c : Common) (group : ℕ) (name : List ℕ) (permanent : Bool) → stands c group name ≡ false → IsSound c → IsSound (made c group name permanent).after
made_keeps c group name permanent new s =
    let cl : Cluster = record { group = group; name = name; permanent = permanent; marked = false; flags = 0 } in
    record {
      standing = all_weaker (has_cluster c.clusters) (has_cluster (c.clusters ++ cl ∷ [])) (λ a has. any_push (is_cluster a.group a.name) c.clusters cl has) c.associations s.standing;
      clusters = apart_push is_same_cluster c.clusters cl s.clusters (none_stronger (is_cluster group name) (λ x. is_same_cluster x cl) (λ x same. let e = cluster_parts x.group x.name cl same in cluster_from group name x (sym e.0) (sym e.1)) c.clusters new);
      associations = s.associations;
    }

made_stands : (c : Common) (group : ℕ) (name : List ℕ) (permanent : Bool) → IsTrue (stands (made c group name permanent).after group name)
made_stands c group name permanent = any_last (is_cluster group name) c.clusters (record { group = group; name = name; permanent = permanent; marked = false; flags = 0 }) (key_from group group name name refl refl)

joined_keeps : (c : Common) (p : Pid) (k group : ℕ) (name : List ℕ) → IsTrue (stands c group name) → list_any (is_association p k) c.associations ≡ false → IsSound c → IsSound (joined c p k group name).after
joined_keeps c p k group name there none s =
    let a : Association = record { p = p; k = k; group = group; name = name } in
    record {
      standing = all_push (has_cluster c.clusters) c.associations a s.standing there;
      clusters = s.clusters;
      associations = apart_push is_same_association c.associations a s.associations (none_stronger (is_association p k) (λ x. is_same_association x a) (λ x same. let e = association_parts x.p x.k a same in association_from p k x (sym e.0) (sym e.1)) c.associations none);
    }

joins : (c : Common) (p : Pid) (k group : ℕ) (name : List ℕ) (permanent : Bool) → list_any (is_association p k) c.associations ≡ false → IsSound c → IsSound (joined (made_where_new c group name permanent).after p k group name).after
joins c p k group name permanent none s = elim (cases_Bool (stands c group name)) [
  | inl there ↦ rw there (joined_keeps c p k group name there none s)
  | inr new ↦ rw new (joined_keeps (made c group name permanent).after p k group name (made_stands c group name permanent) none (made_keeps c group name permanent new s))
]

pub associated_keeps : (c : Common) (p : Pid) (k group : ℕ) (name : List ℕ) (permanent : Bool) → IsSound c → IsSound (associated c p k group name permanent).after
associated_keeps c p k group name permanent s =
    let change : Change = followed (followed (dissociated c p k) (λ d. made_where_new d group name permanent)) (λ e. joined e p k group name) in
    let after : IsSound change.after = joins (dissociated c p k).after p k group name permanent (dissociated_at_none c p k (find (is_association p k) c.associations) refl s) (dissociated_keeps c p k s) in
    elim (has_already group name (find (is_association p k) c.associations)) as (λ b. IsSound (if b then unchanged c else change).after) [ true ↦ s | false ↦ after ]

-- Changes that leave groups and names.

abbrev key : Cluster → ℕ × List ℕ
key cl = (cl.group, cl.name)

abbrev is_key : ℕ → List ℕ → ℕ × List ℕ → Bool
is_key group name x = x.0 == group && bytes_eq x.1 name

abbrev is_same_key : ℕ × List ℕ → ℕ × List ℕ → Bool
is_same_key x y = is_key x.0 x.1 y

any_key : (group : ℕ) (name : List ℕ) (xs : List Cluster) → list_any (is_cluster group name) xs ≡ list_any (is_key group name) (map key xs)
any_key group name [] = refl
any_key group name (x ∷ xs) = ap (λ b. is_cluster group name x || b) (any_key group name xs)

apart_key : (xs : List Cluster) → are_apart is_same_cluster xs ≡ are_apart is_same_key (map key xs)
apart_key [] = refl
apart_key (x ∷ xs) = rw (any_key x.group x.name xs, apart_key xs) refl

-- clusters with the same groups and names
alike : (c : Common) (xs : List Cluster) → map key xs ≡ map key c.clusters → IsSound c → IsSound (record c { clusters = xs })
alike c xs same s = record {
  standing = all_weaker (has_cluster c.clusters) (has_cluster xs) (λ a has. any_key a.group a.name xs ∙ ap (list_any (is_key a.group a.name)) same ∙ sym (any_key a.group a.name c.clusters) ∙ has) c.associations s.standing;
  clusters = apart_key xs ∙ ap (are_apart is_same_key) same ∙ sym (apart_key c.clusters) ∙ s.clusters;
  associations = s.associations;
}

amend_keys : (p : Cluster → Bool) (xs : List Cluster) → map key (amend p with_mark xs) ≡ map key xs
amend_keys p [] = refl
amend_keys p (x ∷ xs) = elim (p x) as (λ b. map key (if b then with_mark x ∷ xs else x ∷ amend p with_mark xs) ≡ map key (x ∷ xs)) [ true ↦ refl | false ↦ ap (λ ks. key x ∷ ks) (amend_keys p xs) ]

marked_at_keeps : (c : Common) (o : Option Cluster) → IsSound c → IsSound (marked_at c o).after
marked_at_keeps c None s = s
marked_at_keeps c (Some cl) s =
    let amended : List Cluster = amend (is_cluster cl.group cl.name) with_mark c.clusters in
    elim (not cl.permanent) as (λ b. IsSound (if b then unchanged c else (if is_used c cl.group cl.name then record { effects = []; after = record c { clusters = amended } } else gone c cl.group cl.name)).after) [
      | true ↦ s
      | false ↦ elim (cases_Bool (is_used c cl.group cl.name)) [
        | inl used ↦ rw used (alike c amended (amend_keys (is_cluster cl.group cl.name) c.clusters) s)
        | inr unused ↦ rw unused (gone_keeps c cl.group cl.name unused s)
      ]
    ]

pub marked_keeps : (c : Common) (group : ℕ) (name : List ℕ) → IsSound c → IsSound (marked c group name).after
marked_keeps c group name s = marked_at_keeps c (find (is_cluster group name) c.clusters) s

flag_keys : (f : Cluster → ℕ) (xs : List Cluster) (place : ℕ) → map key (slice_set xs place (record (slice_index_or xs place no_cluster) { flags = f (slice_index_or xs place no_cluster) })) ≡ map key xs
flag_keys f [] place = refl
flag_keys f (x ∷ xs) zero = refl
flag_keys f (x ∷ xs) (suc place) = ap (λ ks. key x ∷ ks) (flag_keys f xs place)

pub flag_keeps : (c : Common) (place n : ℕ) (on : Bool) → IsSound c → IsSound (with_flag_at c place n on)
flag_keeps c place n on s = alike c (with_flag_at c place n on).clusters (flag_keys (λ cl. with_flag cl.flags n on) c.clusters place) s
