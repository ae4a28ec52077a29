-- References stand after what is done to event flags and common clusters.
use Rattle.std.proofs.Common.{◌≡◌, ℕ, List, [], ◌∷◌, ◌++◌, Bool, true, false, not, ◌==◌, ◌&&◌, length, Option, Some, None, bytes_eq, refl, arith}
use Rattle.std.specs.List.{AllByRecursion, find, list_any}
use Rattle.std.proofs.lemmas.Bool.{eq-eqb, eqb-true, and_parts, and_from, or_left, or_right}
use Rattle.std.proofs.lemmas.Slice.Eq.{bytes_eq-Decides}
use Rattle.vx_base.specs.Clusters.{Common, Change, is_cluster, is_association, is_user, stands, is_used, made, gone, joined, parted, swept_at, swept, dissociated_at, dissociated, has_already, made_where_new, associated, with_mark, marked_at, marked}
use Rattle.vx_base.specs.Lists.{less, amend}
use Rattle.vx_record.specs.Types.{Association, Cell, Cluster, Pid}
use Rattle.vx_base.specs.declared.effects.Cell.TheVariants.{Local, Common as Shared}
use Rattle.vx_record.specs.State.{State, IsWithin, process_at}
use Rattle.vx_record.specs.Flags.{with_local_flag, with_cluster_flag, flag_part}
use Rattle.vx_record.specs.Sound.{AssociationStands}
use Rattle.vx_record.proofs.Firm.{IsFirm}
use Rattle.vx_record.proofs.Lists.{either, either_by, all_weaker, all_both, all_append, all_less, none_passes}
use Rattle.vx_record.proofs.Ground.{Still, common_still}
use Rattle.vx_record.proofs.Changes.{quiet_still, with_local_flag_quiet}
use Rattle.vx_base.proofs.First.{found_passes}

-- Lists.

pub any_append : {A : Type 0} (p : A → Bool) (xs ys : List A) → list_any p xs ≡ true → list_any p (xs ++ ys) ≡ true
any_append p [] ys h = cc
any_append p (x ∷ xs) ys h = let rest = any_append p xs ys in grind arith

pub any_last : {A : Type 0} (p : A → Bool) (xs : List A) (y : A) → p y ≡ true → list_any p (xs ++ y ∷ []) ≡ true
any_last p [] y h = or_left (p y) false h
any_last p (x ∷ xs) y h = or_right (p x) (list_any p (xs ++ y ∷ [])) (any_last p xs y h)

any_less : {A : Type 0} (p q : A → Bool) → ((x : A) → p x ≡ true → q x ≡ true → ⊥) → (xs : List A) → list_any q xs ≡ true → list_any q (less p xs) ≡ true
any_less p q apart [] h = h
any_less p q apart (x ∷ xs) h = let rest = any_less p q apart xs in let not_both = apart x in grind arith

any_amend : {A : Type 0} (p q : A → Bool) (f : A → A) → ((x : A) → q (f x) ≡ q x) → (xs : List A) → list_any q xs ≡ true → list_any q (amend p f xs) ≡ true
any_amend p q f same [] h = h
any_amend p q f same (x ∷ xs) h = let rest = any_amend p q f same xs in grind (arith, same x)

-- Common clusters.

abbrev pub CommonStands : ℕ → Common → Type 0
CommonStands n c = AllByRecursion (AssociationStands n c) c.associations

clusters_move : (n : ℕ) (c : Common) (clusters : List Cluster) → ((a : Association) → list_any (is_cluster a.group a.name) c.clusters ≡ true → list_any (is_cluster a.group a.name) clusters ≡ true) → CommonStands n c → CommonStands n (record c { clusters = clusters })
clusters_move n c clusters f h = grind (arith, all_weaker)

is_itself : (group : ℕ) (name : List ℕ) → (group == group && bytes_eq name name) ≡ true
is_itself group name = and_from (group == group) (bytes_eq name name) (eq-eqb group group refl) ((bytes_eq-Decides name name).1 refl)

pub both_names : (g h : ℕ) (x y : List ℕ) → (g == h && bytes_eq x y) ≡ true → (g ≡ h) × (x ≡ y)
both_names g h x y e = let parts = and_parts (g == h) (bytes_eq x y) e in (eqb-true g h parts.0, (bytes_eq-Decides x y).0 parts.1)

apart : (a : Association) (group : ℕ) (name : List ℕ) → is_user group name a ≡ false → (cl : Cluster) → is_cluster group name cl ≡ true → is_cluster a.group a.name cl ≡ true → ⊥
apart a group name none cl here there = grind (arith, both_names, is_itself)

gone_stands : (n : ℕ) (c : Common) (group : ℕ) (name : List ℕ) → is_used c group name ≡ false → CommonStands n c → CommonStands n (gone c group name).after
gone_stands n c group name none h =
    all_weaker (λ a. AssociationStands n c a × (is_user group name a ≡ false)) (AssociationStands n (gone c group name).after)
    (λ a k. record { made = k.0.made; stands = any_less (is_cluster group name) (is_cluster a.group a.name) (apart a group name k.1) c.clusters k.0.stands }) c.associations
    (all_both (AssociationStands n c) (λ a. is_user group name a ≡ false) c.associations h (none_passes (is_user group name) c.associations none))

swept_at_stands : (n : ℕ) (c : Common) (group : ℕ) (name : List ℕ) (o : Option Cluster) → find (is_cluster group name) c.clusters ≡ o → is_used c group name ≡ false → CommonStands n c → CommonStands n (swept_at c o).after
swept_at_stands n c group name None is none h = h
swept_at_stands n c group name (Some cl) is none h =
    let same = both_names cl.group group cl.name name (found_passes (is_cluster group name) c.clusters cl is) in
    either (λ (d : Change). CommonStands n d.after) (cl.permanent && not cl.marked) _ _ h (gone_stands n c cl.group cl.name (rw (same.0, same.1) none) h)

swept_stands : (n : ℕ) (c : Common) (group : ℕ) (name : List ℕ) → CommonStands n c → CommonStands n (swept c group name).after
swept_stands n c group name h = either_by (λ (d : Change). CommonStands n d.after) (is_used c group name) _ _ (λ e. h) (λ none. swept_at_stands n c group name (find (is_cluster group name) c.clusters) refl none h)

parted_stands : (n : ℕ) (c : Common) (p : Pid) (k : ℕ) → CommonStands n c → CommonStands n (parted c p k).after
parted_stands n c p k h = grind (arith, all_weaker, all_less)

pub dissociated_stands : (n : ℕ) (c : Common) (p : Pid) (k : ℕ) → CommonStands n c → CommonStands n (dissociated c p k).after
dissociated_stands n c p k h =
    elim (find (is_association p k) c.associations) as (λ (o : Option Association). CommonStands n (dissociated_at c p k o).after) [ None ↦ h | Some a ↦ swept_stands n (parted c p k).after a.group a.name (parted_stands n c p k h) ]

-- the cluster is there, and all that were
made_where_new_stands : (n : ℕ) (c : Common) (group : ℕ) (name : List ℕ) (permanent : Bool) → CommonStands n c → CommonStands n (made_where_new c group name permanent).after × (stands (made_where_new c group name permanent).after group name ≡ true)
made_where_new_stands n c group name permanent h =
    either_by (λ (d : Change). CommonStands n d.after × (stands d.after group name ≡ true)) (stands c group name) _ _ (λ e. (h, e))
    (λ e. (clusters_move n c (made c group name permanent).after.clusters (λ a k. any_append (is_cluster a.group a.name) c.clusters _ k) h, any_last (is_cluster group name) c.clusters _ (is_itself group name)))

joined_stands : (n : ℕ) (c : Common) (p : Pid) (k group : ℕ) (name : List ℕ) → IsWithin n p → stands c group name ≡ true → CommonStands n c → CommonStands n (joined c p k group name).after
joined_stands n c p k group name m e h = grind (arith, all_append, all_weaker)

pub associated_stands : (n : ℕ) (c : Common) (p : Pid) (k group : ℕ) (name : List ℕ) (permanent : Bool) → IsWithin n p → CommonStands n c → CommonStands n (associated c p k group name permanent).after
associated_stands n c p k group name permanent m h =
    let d = (dissociated c p k).after in
    let e = made_where_new_stands n d group name permanent (dissociated_stands n c p k h) in
    either (λ (x : Change). CommonStands n x.after) (has_already group name (find (is_association p k) c.associations)) _ _ h
    (joined_stands n (made_where_new d group name permanent).after p k group name m e.1 e.0)

pub marked_stands : (n : ℕ) (c : Common) (group : ℕ) (name : List ℕ) → CommonStands n c → CommonStands n (marked c group name).after
marked_stands n c group name h =
    let P = λ (x : Change). CommonStands n x.after in
    elim (find (is_cluster group name) c.clusters) as (λ (o : Option Cluster). P (marked_at c o)) [
      | None ↦ h
      | Some cl ↦
          either P (not cl.permanent) _ _ h (either_by P (is_used c cl.group cl.name) _ _
          (λ e. clusters_move n c (amend (is_cluster cl.group cl.name) with_mark c.clusters) (λ a k. any_amend (is_cluster cl.group cl.name) (is_cluster a.group a.name) with_mark (λ x. refl) c.clusters k) h)
          (λ none. gone_stands n c cl.group cl.name none h))
    ]

-- Flags.

pub flag_part_still : (s : State) (c : Cell) (on : Bool) → IsFirm s → Still s (flag_part s c on).after
flag_part_still s (Local p n) on h = quiet_still s p (with_local_flag n on) (with_local_flag_quiet n on (process_at s p)) h
flag_part_still s (Shared group name n) on h =
    let clusters = amend (is_cluster group name) (with_cluster_flag n on) s.common.clusters in
    common_still s (record s.common { clusters = clusters })
    (clusters_move (length s.procs) s.common clusters (λ a k. any_amend (is_cluster group name) (is_cluster a.group a.name) (with_cluster_flag n on) (λ x. refl) s.common.clusters k) h.associations) h
