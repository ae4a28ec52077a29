-- The AST that may start is the first of its mode, and if ids are distinct the first with its id.
use Rattle.std.proofs.Common.{◌≡◌, List, [], ◌∷◌, true, false, cond, ◌==◌, IsTrue, Option, Some, None, inl, inr, ◌⊎◌, refl, ap, sym, ◌∙◌}
use Rattle.std.specs.List.{find}
use Rattle.std.proofs.lemmas.Bool.{eqb-true}
use Rattle.vx_base.specs.Lists.{first, less}
use Rattle.vx_base.specs.Modes.{rank}
use Rattle.vx_record.specs.Types.{Enables, Frame, Mode, Queued}
use Rattle.vx_base.specs.Queues.{is_of_mode, may_start, first_of_mode, deliverable}
use Rattle.vx_base.specs.declared.mode.Mode.TheVariants.{Kernel, Exec, Super, User}
use Rattle.vx_base.specs.Frames.{active_mode}
use Rattle.vx_ast.specs.Queue.{less_first_like}
use Rattle.vx_base.proofs.First.{found_passes}
use Rattle.vx_record.specs.Asts.{deliverable_at}
use Rattle.vx_record.specs.State.{Process}
use Rattle.vx_procs.specs.Words.{deliverable_of, have_own_ids, without_started}
use Rattle.vx_procs.proofs.Own.{less_own}
use Rattle.std.specs.Option.{option_or}

own_by_mode : (m : Mode) (asts : List Queued) (q : Queued) → IsTrue (have_own_ids asts) → find (is_of_mode m) asts ≡ Some q → less_first_like (Some q) asts ≡ less (λ r. r.id.0 == q.id.0) asts
own_by_mode m asts q own found = ap (λ r. less (λ (a : Queued). rank a.mode == r) asts) (eqb-true _ _ (found_passes (is_of_mode m) asts q found)) ∙ sym (less_own (λ (r : Queued). r.id) (is_of_mode m) asts q own found)

first_found : (enables : Enables) (current : Mode) (active : Option Mode) (asts : List Queued) (m : Mode) (q : Queued) → first_of_mode enables current active asts m ≡ Some q → find (is_of_mode m) asts ≡ Some q
first_found enables current active asts m q e = elim (may_start enables current active m) as (λ b. cond b (find (is_of_mode m) asts) None ≡ Some q → find (is_of_mode m) asts ≡ Some q) [ true ↦ λ is. is | false ↦ λ is. absurd (cc) ] e

one_of_two : (a b : Option Queued) (q : Queued) → option_or a b ≡ Some q → (a ≡ Some q) ⊎ (b ≡ Some q)
one_of_two None b q e = inr e
one_of_two (Some x) b q e = inl e

first_like : (enables : Enables) (current : Mode) (active : Option Mode) (asts : List Queued) (q : Queued) → IsTrue (have_own_ids asts) → deliverable enables current active asts ≡ Some q → less_first_like (Some q) asts ≡ less (λ r. r.id.0 == q.id.0) asts
first_like enables current active asts q own e =
    let of_mode : Mode → Option Queued = first_of_mode enables current active asts in
    elim (one_of_two (of_mode Kernel) (option_or (of_mode Exec) (option_or (of_mode Super) (of_mode User))) q e) [
      | inl is ↦ own_by_mode Kernel asts q own (first_found enables current active asts Kernel q is)
      | inr more ↦ elim (one_of_two (of_mode Exec) (option_or (of_mode Super) (of_mode User)) q more) [
        | inl is ↦ own_by_mode Exec asts q own (first_found enables current active asts Exec q is)
        | inr further ↦ elim (one_of_two (of_mode Super) (of_mode User) q further) [
          | inl is ↦ own_by_mode Super asts q own (first_found enables current active asts Super q is)
          | inr last ↦ own_by_mode User asts q own (first_found enables current active asts User q last)
        ]
      ]
    ]

pub taken_started : (pr : Process) (current : Mode) (active : Option Mode) (r : Option Queued) → IsTrue (have_own_ids pr.asts) → deliverable pr.enables current active pr.asts ≡ r → record pr { asts = less_first_like r pr.asts } ≡ without_started r pr
taken_started pr current active None own e = refl
taken_started pr current active (Some q) own e = ap (λ (xs : List Queued). record pr { asts = xs }) (first_like pr.enables current active pr.asts q own e)

-- the AST that may start, from the top frame on

deliverable_from : (pr : Process) (fs : List Frame) (f : Frame) (active : Option Mode) → Some f ≡ first fs → active ≡ active_mode fs → deliverable pr.enables f.mode active pr.asts ≡ deliverable_at pr fs
deliverable_from pr [] f active top is = absurd (cc)
deliverable_from pr (g ∷ fs) f active top is =
    let same : f ≡ g = cc in
    ap (λ (h : Frame). deliverable pr.enables h.mode active pr.asts) same ∙ ap (λ (a : Option Mode). deliverable pr.enables g.mode a pr.asts) is

pub deliverable_top : (pr : Process) (f : Frame) (active : Option Mode) → pr.suspended ≡ false → Some f ≡ first pr.frames → active ≡ active_mode pr.frames → deliverable pr.enables f.mode active pr.asts ≡ deliverable_of pr
deliverable_top pr f active runs top is = rw runs (deliverable_from pr pr.frames f active top is)

-- and it is the first of its mode

one_found : (enables : Enables) (current : Mode) (active : Option Mode) (asts : List Queued) (q : Queued) → deliverable enables current active asts ≡ Some q → (m : Mode) × (find (is_of_mode m) asts ≡ Some q)
one_found enables current active asts q e =
    let of_mode : Mode → Option Queued = first_of_mode enables current active asts in
    elim (one_of_two (of_mode Kernel) (option_or (of_mode Exec) (option_or (of_mode Super) (of_mode User))) q e) [
      | inl is ↦ (Kernel, first_found enables current active asts Kernel q is)
      | inr more ↦ elim (one_of_two (of_mode Exec) (option_or (of_mode Super) (of_mode User)) q more) [
        | inl is ↦ (Exec, first_found enables current active asts Exec q is)
        | inr further ↦ elim (one_of_two (of_mode Super) (of_mode User) q further) [
          | inl is ↦ (Super, first_found enables current active asts Super q is)
          | inr last ↦ (User, first_found enables current active asts User q last)
        ]
      ]
    ]

found_at : (pr : Process) (fs : List Frame) (q : Queued) → deliverable_at pr fs ≡ Some q → (m : Mode) × (find (is_of_mode m) pr.asts ≡ Some q)
found_at pr [] q e = absurd (cc)
found_at pr (f ∷ fs) q e = one_found pr.enables f.mode (active_mode (f ∷ fs)) pr.asts q e

pub started_found : (pr : Process) (q : Queued) → deliverable_of pr ≡ Some q → (m : Mode) × (find (is_of_mode m) pr.asts ≡ Some q)
started_found pr q =
    elim pr.suspended as (λ b. cond b None (deliverable_at pr pr.frames) ≡ Some q → (m : Mode) × (find (is_of_mode m) pr.asts ≡ Some q)) [
      | true ↦ λ e. absurd (cc)
      | false ↦ λ e. found_at pr pr.frames q e
    ]
