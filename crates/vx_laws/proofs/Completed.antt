-- Completions: behind a FIN, and before the next, stand the status block and the flag that its call named, and no other. It is told
-- from the end of a record backwards: what follows writes neither before its own first FIN.
use mathlib.Core.Bool.{or-false}
use Rattle.std.proofs.Common.{Bool, List, None, Option, Some, [], ap, append-nil, cond, false, map, nat_lt, not, refl, subst, sym, true, ℕ, ◌&&◌, ◌++◌, ◌==◌, ◌∙◌, ◌∷◌, ◌≡◌}
use Rattle.std.proofs.lemmas.Bool.{and_from}
use Rattle.std.proofs.lemmas.List.Elements.{filter-append}
use Rattle.std.proofs.lemmas.List.Folds.{list_any-append}
use Rattle.std.specs.List.{AllByRecursion, filter, list_any}
use Rattle.std.specs.Prelude.{option_map}
use Rattle.vx_laws.proofs.Cleared.{map_both}
use Rattle.vx_base.specs.Clusters.{cluster_number}
use Rattle.vx_record.specs.Types.{Cell, Cond, Effect, Id, Pid, Promised, Req, Request}
use Rattle.vx_base.specs.declared.effects.Cell.TheVariants.{Common, Local}
use Rattle.vx_base.specs.declared.effects.Effect.TheVariants as effect
use Rattle.vx_laws.proofs.Calls.{Called, IsElse, Unasked, called_on, is_unasked, plain_unasked}
use Rattle.vx_laws.proofs.Done.{finish_is, is_other, lives_called, tail_block, tail_flag, tail_of, tail_others}
use Rattle.vx_laws.proofs.Kept.{later_both}
use Rattle.vx_laws.proofs.Allowed.{finish_allowed}
use Rattle.vx_laws.specs.Agrees.{AsCalled}
use Rattle.vx_laws.specs.Items.{Did, Item, at_each, effects_to_head, later}
use Rattle.vx_laws.specs.Lives.{life}
use Rattle.vx_laws.specs.StatusLaw.{is_flag, is_iosb, tells_call, tells_iosb, tells_set, to_next_fin}
use Rattle.vx_laws.specs.StatusParts.{is_completion_told}
use Rattle.vx_laws.specs.Values.{cell_by, cluster_by}
use Rattle.vx_record.proofs.Lists.{all_append, all_less, all_weaker}
use Rattle.vx_record.specs.Finish.{Ending, buf_part, done_ast_part, done_flag_part, fin_part, finish, iosb_part, is_read, status_of, this_request}
use Rattle.vx_record.specs.Flags.{cell, flag_part, flag_where_named}
use Rattle.vx_record.specs.Parts.{Part, and_then, each, nothing}
use Rattle.vx_record.specs.State.{State}
use Rattle.vx_base.specs.Lists.{is_some_and}

-- no status block is written and no flag is set before the first FIN
abbrev pub Still : List Effect → Type 0
Still [] = Unit {0}
Still (effect.Fin id c ∷ es) = Unit {0}
Still (effect.Iosb p i c count info ∷ es) = ⊥
Still (effect.Flag c on ∷ es) = ⊥
Still (x ∷ es) = Still es

still_append : (es fs : List Effect) → Still es → Still fs → Still (es ++ fs)
still_append [] fs h k = k
still_append (effect.Fin id c ∷ es) fs h k = tt
still_append (effect.Iosb p i c count info ∷ es) fs h k = absurd h
still_append (effect.Flag c on ∷ es) fs h k = absurd h
still_append (x ∷ es) fs h k = still_append es fs h k

abbrev pub Told : List Item → List Effect → Type 0
Told past es = (more : List Item) → Still (effects_to_head more) → at_each is_completion_told (later past (map Did es)) more ≡ true → at_each is_completion_told past (map Did es ++ more) ≡ true

-- what effects owe: nothing to the FIN before them, and all that their own FINs ask
pub record Ends (past : List Item) (es : List Effect) : Type 0 where
  pub still : Still es
  pub unasked : Unasked es
  pub told : Told past es

pub effects_left_more : (es : List Effect) (more : List Item) → effects_to_head (map Did es ++ more) ≡ es ++ effects_to_head more
effects_left_more [] more = refl
effects_left_more (x ∷ es) more = ap (λ (l : List Effect). x ∷ l) (effects_left_more es more)

pub told_both : (past : List Item) (es fs : List Effect) → Told past es → Told (later past (map Did es)) fs → Still fs → Told past (es ++ fs)
told_both past es fs h k still more s g =
    subst (λ (l : List Item). at_each is_completion_told past l ≡ true) (sym (map_both es fs more))
    (h (map Did fs ++ more) (subst Still (sym (effects_left_more fs more)) (still_append fs (effects_to_head more) still s)) (k more s (subst (λ (q : List Item). at_each is_completion_told q more ≡ true) (later_both past es fs) g)))

pub ends_both : (past : List Item) (es fs : List Effect) → Ends past es → Ends (later past (map Did es)) fs → Ends past (es ++ fs)
ends_both past es fs h k = record {
  still = still_append es fs h.still k.still;
  unasked = all_append (λ x. is_unasked x ≡ true) es fs h.unasked k.unasked;
  told = told_both past es fs h.told k.told k.still;
}

-- Effects without FIN.

pub others_told : (past : List Item) (es : List Effect) (more : List Item) → AllByRecursion (λ x. is_other x ≡ true) es → at_each is_completion_told (later past (map Did es)) more ≡ true → at_each is_completion_told past (map Did es ++ more) ≡ true
others_told past [] more h k = k
others_told past (effect.Fin id c ∷ xs) more h k = absurd (let never : false ≡ true = h.0 in cc)
others_told past (x ∷ xs) more h k = others_told (Did x ∷ past) xs more h.1 k

-- they may stand before what owes something
pub told_after : (past : List Item) (es fs : List Effect) → AllByRecursion (λ x. is_other x ≡ true) es → Told (later past (map Did es)) fs → Told past (es ++ fs)
told_after past es fs h k more s g =
    subst (λ (l : List Item). at_each is_completion_told past l ≡ true) (sym (map_both es fs more))
    (others_told past es (map Did fs ++ more) h (k more s (subst (λ (q : List Item). at_each is_completion_told q more ≡ true) (later_both past es fs) g)))

-- Effects without FIN, status block, flag or OPEN.

abbrev pub is_aloof : Effect → Bool
is_aloof (effect.Fin id c) = false
is_aloof (effect.Iosb p i c count info) = false
is_aloof (effect.Flag c on) = false
is_aloof (effect.Open id k p mode n) = false
is_aloof x = true

pub record Aloof (es : List Effect) : Type 0 where
  pub all : AllByRecursion (λ x. is_aloof x ≡ true) es

pub no_effect : Aloof []
no_effect = record { all = tt }

pub lone : (x : Effect) → is_aloof x ≡ true → Aloof (x ∷ [])
lone x e = record { all = (e, tt) }

pub join_aloof : {es fs : List Effect} → Aloof es → Aloof fs → Aloof (es ++ fs)
join_aloof {es} {fs} h k = record { all = all_append (λ x. is_aloof x ≡ true) es fs h.all k.all }

pub of_two_aloof : (b : Bool) (x y : Part) → Aloof x.effects → Aloof y.effects → Aloof (cond b x y).effects
of_two_aloof true x y h k = h
of_two_aloof false x y h k = k

pub each_aloof : {A : Type 0} (f : State → A → Part) → ((t : State) (x : A) → Aloof (f t x).effects) → (xs : List A) (s : State) → Aloof (each f xs s).effects
each_aloof f k [] s = no_effect
each_aloof f k (x ∷ xs) s = join_aloof (k s x) (each_aloof f k xs (f s x).after)

aloof_still : (es : List Effect) → AllByRecursion (λ x. is_aloof x ≡ true) es → Still es
aloof_still [] h = tt
aloof_still (effect.Fin id c ∷ es) h = tt
aloof_still (effect.Iosb p i c count info ∷ es) h = absurd (let never : false ≡ true = h.0 in cc)
aloof_still (effect.Flag c on ∷ es) h = absurd (let never : false ≡ true = h.0 in cc)
aloof_still (x ∷ es) h = aloof_still es h.1

aloof_other : (x : Effect) → is_aloof x ≡ true → is_other x ≡ true
aloof_other (effect.Fin id c) e = e
aloof_other x e = refl

aloof_unasked : (x : Effect) → is_aloof x ≡ true → is_unasked x ≡ true
aloof_unasked (effect.Open id k p mode n) e = absurd (let never : false ≡ true = e in cc)
aloof_unasked x e = refl

pub aloof_others : (es : List Effect) → Aloof es → AllByRecursion (λ x. is_other x ≡ true) es
aloof_others es h = all_weaker (λ (x : Effect). is_aloof x ≡ true) (λ (x : Effect). is_other x ≡ true) aloof_other es h.all

pub aloof_ends : (past : List Item) (es : List Effect) → Aloof es → Ends past es
aloof_ends past es h = record {
  still = aloof_still es h.all;
  unasked = all_weaker (λ (x : Effect). is_aloof x ≡ true) (λ (x : Effect). is_unasked x ≡ true) aloof_unasked es h.all;
  told = λ more s g. others_told past es more (aloof_others es h) g;
}

-- What a completion is told from: the cells that numbers name, and the calls of the requests.
pub record Ready (s : State) (past : List Item) : Type 0 where
  pub cells : (p : Pid) (efn : ℕ) → cell s p efn ≡ cell_by past p efn
  pub called : Called past s.requests

-- effects that leave it, and what requests were called with
pub record Leads (past : List Item) (es : List Effect) (t : State) : Type 0 where
  pub ready : Ready t (later past (map Did es))
  pub keeps : (q : Req) → AsCalled past q → AsCalled (later past (map Did es)) q

leads_both : (past : List Item) (es fs : List Effect) (t u : State) → Leads past es t → Leads (later past (map Did es)) fs u → Leads past (es ++ fs) u
leads_both past es fs t u h k =
    both_parts (subst (λ (now : List Item). Ready u now × ((q : Req) → AsCalled past q → AsCalled now q)) (sym (later_both past es fs)) (k.ready, (λ q j. k.keeps q (h.keeps q j))))
  where
    both_parts : Ready u (later past (map Did (es ++ fs))) × ((q : Req) → AsCalled past q → AsCalled (later past (map Did (es ++ fs))) q) → Leads past (es ++ fs) u
    both_parts x = record { ready = x.0; keeps = x.1 }

pub leads_then : (past : List Item) (a : Part) (f : State → Part) → Leads past a.effects a.after → Leads (later past (map Did a.effects)) (f a.after).effects (f a.after).after → Leads past (and_then a f).effects (and_then a f).after
leads_then past a f h k = leads_both past a.effects (f a.after).effects a.after (f a.after).after h k

pub ends_then : (past : List Item) (a : Part) (f : State → Part) → Ends past a.effects → Ends (later past (map Did a.effects)) (f a.after).effects → Ends past (and_then a f).effects
ends_then past a f h k = ends_both past a.effects (f a.after).effects h k

leads_either : (past : List Item) (b : Bool) (x y : Part) → Leads past x.effects x.after → Leads past y.effects y.after → Leads past (cond b x y).effects (cond b x y).after
leads_either past true x y h k = h
leads_either past false x y h k = k

-- One effect that opens no id and changes no association.

abbrev is_steady : Effect → Bool
is_steady (effect.Open id k p mode n) = false
is_steady (effect.Clu p k cluster) = false
is_steady x = true

cluster_steady : (x : Effect) (past : List Item) (p : Pid) (k : ℕ) → is_steady x ≡ true → cluster_by (Did x ∷ past) p k ≡ cluster_by past p k
cluster_steady (effect.Clu q j cluster) past p k e = absurd (let never : false ≡ true = e in cc)
cluster_steady x past p k e = refl

else_steady : (x : Effect) → is_steady x ≡ true → (id : Id) → IsElse (Did x) id
else_steady (effect.Open i k p mode n) e id = absurd (let never : false ≡ true = e in cc)
else_steady x e id = tt

cells_steady : (s t : State) (past now : List Item) → t.common.associations ≡ s.common.associations → ((p : Pid) (k : ℕ) → cluster_by now p k ≡ cluster_by past p k) → ((p : Pid) (efn : ℕ) → cell s p efn ≡ cell_by past p efn) → (p : Pid) (efn : ℕ) → cell t p efn ≡ cell_by now p efn
cells_steady s t past now same keeps h p efn = let one_way : cell t p efn ≡ cell s p efn = rw same refl in one_way ∙ (h p efn ∙ rw (keeps p (cluster_number efn)) refl)

pub lead_one : (s t : State) (past : List Item) (x : Effect) → is_steady x ≡ true → t.common.associations ≡ s.common.associations → (Called past s.requests → Called past t.requests) → Ready s past → Leads past (x ∷ []) t
lead_one s t past x e same asked h = record {
  ready = record {
    cells = cells_steady s t past (Did x ∷ past) same (λ p k. cluster_steady x past p k e) h.cells;
    called = called_on (Did x) past t.requests (else_steady x e) (asked h.called);
  };
  keeps = λ q k. (called_on (Did x) past (record { req = q; ast = None; served = false; marked = false } ∷ []) (else_steady x e) (k, tt)).0;
}

pub lead_none : (s t : State) (past : List Item) → t.common.associations ≡ s.common.associations → (Called past s.requests → Called past t.requests) → Ready s past → Leads past [] t
lead_none s t past same asked h = record {
  ready = record { cells = cells_steady s t past past same (λ p k. refl) h.cells; called = asked h.called };
  keeps = λ q k. k;
}

-- A finish.

flag_leads : (s : State) (past : List Item) (o : Option Cell) → Ready s past → Leads past (flag_where_named s o true).effects (flag_where_named s o true).after
flag_leads s past None h = lead_none s s past refl (λ k. k) h
flag_leads s past (Some (Local p n)) h = lead_one s (flag_part s (Local p n) true).after past (effect.Flag (Local p n) true) refl refl (λ k. k) h
flag_leads s past (Some (Common g a n)) h = lead_one s (flag_part s (Common g a n) true).after past (effect.Flag (Common g a n) true) refl refl (λ k. k) h

ast_leads : (s : State) (past : List Item) (r : Req) (o : Option Promised) → Ready s past → Leads past (done_ast_part s r o).effects (done_ast_part s r o).after
ast_leads s past r None h = lead_none s s past refl (λ k. k) h
ast_leads s past r (Some x) h = lead_one s (done_ast_part s r (Some x)).after past (effect.Que r.id) refl refl (λ k. k) h

pub finish_leads : (s : State) (r : Request) (e : Ending) (past : List Item) → Ready s past → Leads past (finish s r e).effects (finish s r e).after
finish_leads s r e past h =
    let b = λ (a : State). buf_part a r.req e in
    let i = λ (a : State). iosb_part a r.req.p r.req.iosb (status_of e) in
    let d = λ (a : State). done_flag_part a r.req in
    let q = λ (a : State). done_ast_part a r.req r.ast in
    let one_part = fin_part s r.req.id e.0.cond in
    let two = and_then one_part b in
    let three = and_then two i in
    let four = and_then three d in
    let l1 : Leads past one_part.effects one_part.after = lead_one s one_part.after past (effect.Fin r.req.id e.0.cond) refl refl (λ k. all_less (λ (y : Request). AsCalled past y.req) (this_request r.req.id) s.requests k) h in
    let n1 = later past (map Did one_part.effects) in
    let l2 : Leads past two.effects two.after = leads_then past one_part b l1 (leads_either n1 (is_read r.req.func && nat_lt 0 e.0.count) _ (nothing one_part.after) (lead_one one_part.after _ n1 (effect.Buf r.req.p r.req.buf e.0.bytes) refl refl (λ k. k) l1.ready) (lead_none one_part.after one_part.after n1 refl (λ k. k) l1.ready)) in
    let n2 = later past (map Did two.effects) in
    let l3 : Leads past three.effects three.after = leads_then past two i l2 (leads_either n2 (not (r.req.iosb == 0)) _ (nothing two.after) (lead_one two.after _ n2 (effect.Iosb r.req.p r.req.iosb (Some e.0.cond) e.0.count e.1) refl refl (λ k. k) l2.ready) (lead_none two.after two.after n2 refl (λ k. k) l2.ready)) in
    let n3 = later past (map Did three.effects) in
    let l4 : Leads past four.effects four.after = leads_then past three d l3 (flag_leads three.after n3 (cell three.after r.req.p r.req.efn) l3.ready) in
    let n4 = later past (map Did four.effects) in
    leads_then past four q l4 (ast_leads four.after n4 r.req r.ast l4.ready)

-- what follows adds no status block and no flag

record NoneBehind (ys : List Effect) : Type 0 where
  blocks : filter is_iosb ys ≡ []
  any_block : list_any is_iosb ys ≡ false
  flags : filter is_flag ys ≡ []
  any_flag : list_any is_flag ys ≡ false

none_behind : (ys : List Effect) → Still ys → NoneBehind (to_next_fin ys)
none_behind [] h = record { blocks = refl; any_block = refl; flags = refl; any_flag = refl }
none_behind (effect.Fin id c ∷ ys) h = record { blocks = refl; any_block = refl; flags = refl; any_flag = refl }
none_behind (effect.Iosb p i c count info ∷ ys) h = absurd h
none_behind (effect.Flag c on ∷ ys) h = absurd h
none_behind (x ∷ ys) h = let k = none_behind ys h in record { blocks = k.blocks; any_block = k.any_block; flags = k.flags; any_flag = k.any_flag }

filter_more : (of : Effect → Bool) (es zs : List Effect) → filter of zs ≡ [] → filter of (es ++ zs) ≡ filter of es
filter_more of es zs e = filter-append of es zs ∙ rw e (append-nil (filter of es))

any_more : (of : Effect → Bool) (es zs : List Effect) → list_any of zs ≡ false → list_any of (es ++ zs) ≡ list_any of es
any_more of es zs e = list_any-append of es zs ∙ rw e (or-false (list_any of es))

iosb_more : (p : Pid) (i : ℕ) (c : Cond) (es zs : List Effect) → NoneBehind zs → tells_iosb p i c es ≡ true → tells_iosb p i c (es ++ zs) ≡ true
iosb_more p i c es zs n h = rw (any_more is_iosb es zs n.any_block, filter_more is_iosb es zs n.blocks) h

set_more : (o : Option Cell) (es zs : List Effect) → NoneBehind zs → tells_set o es ≡ true → tells_set o (es ++ zs) ≡ true
set_more None es zs n h = rw (any_more is_flag es zs n.any_flag) h
set_more (Some c) es zs n h = rw (filter_more is_flag es zs n.flags) h

others_next : (es ys : List Effect) → AllByRecursion (λ x. is_other x ≡ true) es → to_next_fin (es ++ ys) ≡ es ++ to_next_fin ys
others_next [] ys h = refl
others_next (effect.Fin id c ∷ es) ys h = absurd (let never : false ≡ true = h.0 in cc)
others_next (x ∷ es) ys h = ap (λ (l : List Effect). x ∷ l) (others_next es ys h.1)

-- one FIN, with what its call names behind it
fin_told : (s : State) (past : List Item) (r : Request) (e : Ending) (zs : List Effect) → Ready s past → AsCalled past r.req → NoneBehind zs → is_some_and (λ l. tells_call past e.0.cond (tail_of s r e ++ zs) l.by) (life past r.req.id) ≡ true
fin_told s past r e zs h k n =
    let q = option_map (λ a. r.req.id) r.ast in
    let reads = is_read r.req.func && nat_lt 0 e.0.count in
    let o = cell s r.req.p r.req.efn in
    let es = tail_of s r e in
    let block = iosb_more r.req.p r.req.iosb e.0.cond es zs n (tail_block r.req.p r.req.iosb e.0.cond e.0.count e.1 r.req.buf e.0.bytes reads (not (r.req.iosb == 0)) o q refl) in
    let flag = set_more o es zs n (tail_flag r.req.p r.req.iosb e.0.cond e.0.count e.1 r.req.buf e.0.bytes reads (not (r.req.iosb == 0)) o q) in
    lives_called (tells_call past e.0.cond (es ++ zs)) (life past r.req.id) k.call k.by
    (rw (k.p, k.iosb, k.efn, ← h.cells r.req.p r.req.efn) (and_from _ _ block flag))

pub finish_ends : (s : State) (r : Request) (e : Ending) (past : List Item) → Ready s past → AsCalled past r.req → Ends past (finish s r e).effects
finish_ends s r e past h k =
    let x = effect.Fin r.req.id e.0.cond in
    let es = tail_of s r e in
    let others = tail_others r.req.p r.req.iosb e.0.cond e.0.count e.1 r.req.buf e.0.bytes (is_read r.req.func && nat_lt 0 e.0.count) (not (r.req.iosb == 0)) (cell s r.req.p r.req.efn) (option_map (λ a. r.req.id) r.ast) in
    record {
      still = subst Still (sym (finish_is s r e)) tt;
      unasked = plain_unasked (finish s r e).effects (finish_allowed s r e);
      told = subst (Told past) (sym (finish_is s r e))
          (λ more still g.
          let zs = to_next_fin (effects_to_head more) in
          let next : to_next_fin (effects_to_head (map Did es ++ more)) ≡ es ++ zs = ap to_next_fin (effects_left_more es more) ∙ others_next es (effects_to_head more) others in
          let first_right : is_completion_told past (Did x) (map Did es ++ more) ≡ true = rw next (fin_told s past r e zs h k (none_behind (effects_to_head more) still)) in
          and_from _ _ first_right (others_told (Did x ∷ past) es more others g));
    }
