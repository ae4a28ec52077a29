-- The processes that are there from the start, one declaration after another.
use Rattle.std.proofs.Common.{◌≡◌, ℕ, zero, suc, ◌+◌, ◌-◌, ◌<◌, ◌≤◌, None, Option, arith, List, [], ◌∷◌, ◌++◌, true, false, if◌then◌else◌, map, drop, length, slice_index_or, refl, ap, sym, subst, ◌∙◌}
use Rattle.std.proofs.lemmas.List.{append_assoc, drop_more}
use Rattle.vx_base.proofs.Lists.{any_default}
use Rattle.vx_record.specs.Types.{DeviceUnit, ProcDecl, Queued, System}
use Rattle.std.specs.List.{AllByRecursion}
use Rattle.vx_base.specs.Quotas.{no_need}
use Rattle.vx_base.specs.Lists.{tally}
use Rattle.vx_record.specs.State.{Process, State, no_decl, nobody, process_at}
use Rattle.vx_record.specs.Charges.{charge, is_charged}
use Rattle.vx_quota.specs.Account.{Quotas}
use Rattle.vx_procs.specs.Fresh.{IsFresh}
use Rattle.vx_procs.specs.Held.{AreHeld, no_books}
use Rattle.vx_record.specs.Runs.{born_of, born_from, first}
use Rattle.vx_procs.specs.Units.{Ending}
use Rattle.vx_procs.specs.View.{books_of, process}
use Rattle.vx_procs.specs.Words.{born_if_started}
use Rattle.vx_procs.specs.declared.process.Proc.{Proc}
use Rattle.vx_base.proofs.Needs.{need_is}

born_cons : (place : ℕ) (d : ProcDecl) (ds : List ProcDecl) → born_if_started place d ++ born_from (place + 1) ds ≡ born_from place (d ∷ ds)
born_cons place d ds = elim d.start as (λ b. (if b then born_of place d ∷ [] else []) ++ born_from (place + 1) ds ≡ (if b then born_of place d ∷ born_from (place + 1) ds else born_from (place + 1) ds)) [ true ↦ refl | false ↦ refl ]

pub born_more : {R : Type 0} (before after : List (Proc R)) (place : ℕ) (d : ProcDecl) (items ds : List ProcDecl) (all : List Process) → items ≡ ds → place < length items → d ≡ slice_index_or items place d → map process after ≡ map process before ++ born_if_started place d → map process before ++ born_from place (drop place ds) ≡ all → map process after ++ born_from (place + 1) (drop (place + 1) ds) ≡ all
born_more before after place d items ds all same within is more so_far =
    let here = subst (λ xs. place < length xs) same within in
    let found : slice_index_or ds place d ≡ d = sym (is ∙ ap (λ xs. slice_index_or xs place d) same) in
    ap (λ ps. ps ++ born_from (place + 1) (drop (place + 1) ds)) more
    ∙ append_assoc (map process before) (born_if_started place d) (born_from (place + 1) (drop (place + 1) ds))
    ∙ ap (λ ps. map process before ++ ps) (born_cons place d (drop (place + 1) ds) ∙ ap (λ es. born_from place es) (ap (λ e. e ∷ drop (place + 1) ds) (sym found) ∙ sym (drop_more ds place d here)))
    ∙ so_far

-- the declaration that is reached
pub fresh_more : (items ds : List ProcDecl) (place : ℕ) (d : ProcDecl) → items ≡ ds → place < length items → d ≡ slice_index_or items place d → slice_index_or ds place no_decl ≡ d
fresh_more items ds place d same within is =
    let here : place < length ds = subst (λ xs. place < length xs) same within in
    any_default ds place no_decl d here ∙ sym (is ∙ ap (λ xs. slice_index_or xs place d) same)

-- Processes before their first statement are held.

fresh_at : {R : Type 0} (decls : List ProcDecl) (xs : List (Proc R)) (i : ℕ) → AllByRecursion (IsFresh decls) xs → i < length (map process xs) → (length (slice_index_or (map process xs) i nobody).frames + 1 ≤ (slice_index_or (map books_of xs) i no_books).room.frames) × ((slice_index_or (map process xs) i nobody).asts ≡ []) × (1 ≤ (slice_index_or (map books_of xs) i no_books).room.asts) × ((slice_index_or (map books_of xs) i no_books).account ≡ record { used = no_need; limits = (slice_index_or decls (slice_index_or (map process xs) i nobody).decl no_decl).limits })
fresh_at decls [] i h within = absurd (omega arith)
fresh_at decls (x ∷ xs) zero h within = (h.0.frame, h.0.none, h.0.ast, h.0.account)
fresh_at decls (x ∷ xs) (suc i) h within = fresh_at decls xs i h.1 (omega arith)

pub first_held : {R : Type 0} (system : System) (us : List DeviceUnit) (ls : List (Option Ending)) (xs : List (Proc R)) → AllByRecursion (IsFresh system.decls) xs → AreHeld (record (first system) { procs = map process xs; units = us }) None (map books_of xs) ls
first_held system us ls xs h =
    let s : State = record (first system) { procs = map process xs; units = us } in
    record {
      booked = λ p m.
          let f = fresh_at system.decls xs (p.0 - 1) h (omega (arith, m.above, m.within)) in
          let asts : (process_at s p).asts ≡ [] = f.1 in
          record {
            frames = f.0;
            asts = omega (arith, f.2, ap (λ (qs : List Queued). length qs) asts);
            used = ap (λ (a : Quotas). a.used) f.3 ∙ need_is no_need (charge s p) (ap (λ (qs : List Queued). 0 + (0 + (0 + tally is_charged qs))) (sym asts)) refl refl refl refl;
            limits = ap (λ (a : Quotas). a.limits) f.3;
          };
      timers = tt;
      requests = tt;
      attention = tt;
      served = λ u. record { few = omega arith; only = tt };
      marked = tt;
    }
