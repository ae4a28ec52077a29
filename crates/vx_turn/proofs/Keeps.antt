-- Each step keeps the rule.
use Rattle.std.proofs.Common.{◌≡◌, ◌≢◌, ℕ, zero, suc, ◌+◌, ◌%◌, ◌^◌, ◌<◌, ◌≤◌, ◌==◌, List, [], ◌∷◌, ◌++◌, length, set, Bool, true, false, Option, Some, None, refl, sym, ap, ◌∙◌, subst, ⊎_elim, arith, length-append, slice_index, slice_set}
use Rattle.std.specs.Prelude.{MatchBool}
use Rattle.std.proofs.lemmas.Bool.Decides.{nat_tests}
use mathlib.Core.Option.{Option as Place, some, none, some-ne-none, some-injective}
use lib.ListN.{get_elem?}
use Rattle.atomic_table.specs.Table.{State, Me, Act, keeps, takes, gives, Allows, Splits, Joins, Final, Seen, Valid, stepped, carried_after, rest as held_rest, opening}
use Rattle.atomic_table.proofs.Lists.{at_longer, at_last, at_snoc, set_here, set_else, set_again}
use Rattle.vx_turn.specs.declared.view.Stage.{Stage}
use Rattle.vx_turn.specs.declared.view.Stage.TheVariants.{Idle, Waiting, Inside}
use Rattle.vx_turn.specs.declared.view.View.{View}
use Rattle.vx_turn.specs.Rule.{StartsWith, once_below, busy_stage, first_view, times, owned, numbered, Stands, StageFits, Fits, IsHome, Rule, Drew, Entered, Looked, Passed, cut_left, cut_right, glued, used_up, Shared}
use Rattle.vx_turn.proofs.Lists.{total_set, total_le, at_below, head_is, each_set, starts_further, starts_here, words_drawn, words_passed, words_same, first_served, times_append, times_numbered, stands_further, stands_append, stands_numbered, total_none, total_zero}
use Rattle.vx_base.proofs.Lists.{total_push, total_append}
use Rattle.vx_base.specs.Lists.{total}

module _ {E : Type 0} where
  stage_longer : (base : ℕ) (queue : List ℕ) (id : ℕ) (log : List E) (i : ℕ) (v : View E) (st : Stage) → StageFits base queue log i v st → StageFits base (queue ++ id ∷ []) log i v st
  stage_longer base queue id log i v Idle h = h
  stage_longer base queue id log i v (Waiting t) h = (h.0, h.1, at_longer queue (id ∷ []) h.1 i h.2, h.3)
  stage_longer base queue id log i v (Inside t) h = (h.0, at_longer queue (id ∷ []) 0 i h.1, h.2)

  fits_longer : (base : ℕ) (queue : List ℕ) (id : ℕ) (log : List E) (i : ℕ) (v : View E) → Fits base queue log i v → Fits base (queue ++ id ∷ []) log i v
  fits_longer base queue id log i v h = record { seen = h.seen; own = h.own; gathered = h.gathered; stage = stage_longer base queue id log i v v.stage h.stage; spent = h.spent }

  busy_le : (base : ℕ) (queue : List ℕ) (log : List E) (i : ℕ) (v : View E) (st : Stage) → StageFits base queue log i v st → busy_stage st ≤ v.parts
  busy_le base queue log i v Idle h = omega arith
  busy_le base queue log i v (Waiting t) h = let p = h.0 in omega arith
  busy_le base queue log i v (Inside t) h = let p = h.0 in omega arith

  -- a seat's stage is what it is, wherever it is found
  same_stage : (views : List (View E)) (id i : ℕ) (v u : View E) (a b : Stage) → i ≡ id → get_elem? views id ≡ some v → get_elem? views i ≡ some u → v.stage ≡ a → u.stage ≡ b → a ≡ b
  same_stage views id i v u a b e atv atu sa sb =
      let P : ℕ → Type 0 = λ k. get_elem? views k ≡ some u in
      let one : v ≡ u = some-injective v u (sym atv ∙ subst P e atu) in
      sym sa ∙ ap (λ (w : View E). w.stage) one ∙ sb

module _ {T E : Type 0} (history : T → List E) where
  -- fewer than 17 hold tickets
  queue_few : (n : ℕ) (s : State (Option T) (View E)) (h : Rule history n s) → length h.queue < 17
  queue_few n s h =
      let le : total (λ (v : View E). busy_stage v.stage) s.views ≤ total (λ (v : View E). v.parts) s.views = total_le _ _ s.views (λ i v at. busy_le h.base h.queue h.log i v v.stage (h.each i v at).stage) in
      let b = h.busy in let p = h.parts in let f = h.few in omega arith

  home_drawn : (queue : List ℕ) (views : List (View E)) (log : List E) (id : ℕ) (v w : View E) (home : Place (Option T)) → get_elem? views id ≡ some v → v.stage ≡ Idle → IsHome history queue views log home → IsHome history (queue ++ id ∷ []) (set views id w) log home
  home_drawn queue views log id v w none at idle h =
      let apart : h.0 ≢ id = λ e. (let x : Idle ≡ Inside h.2 = same_stage views id h.0 v h.1 Idle (Inside h.2) e at h.4 idle h.5 in cc) in
      (h.0, h.1, h.2, at_longer queue (id ∷ []) 0 h.0 h.3, set_else views id h.0 w apart ∙ h.4, h.5)
  home_drawn queue views log id v w (some None) at idle h = h
  home_drawn queue views log id v w (some (Some x)) at idle h = h

  pub draws : (n id : ℕ) (v : View E) → v.stage ≡ Idle → 0 < v.parts → Allows (Rule history n) 1 id (v, []) 0 (λ m. (m + 1) % 2 ^ 64) (Drew (v, []))
  draws n id v idle part s h len at small =
      let r : ℕ = slice_index s.words 0 in
      let w : View E = record v { stage = Waiting r } in
      let b0 : busy_stage v.stage ≡ 0 = ap busy_stage idle in
      let tb = total_set (λ (u : View E). busy_stage u.stage) s.views id v w at in
      let tp = total_set (λ (u : View E). u.parts) s.views id v w at in
      let hb = h.busy in
      let hp = h.parts in
      let f = h.each id v at in (
        w,
        keeps,
        tt,
        record {
          base = h.base;
          queue = h.queue ++ id ∷ [];
          log = h.log;
          home = h.home;
          words = words_drawn s.words h.base h.queue id h.words;
          homes = h.homes;
          is_home = home_drawn h.queue s.views h.log id v w h.home at idle h.is_home;
          each = each_set (λ i u. Fits h.base (h.queue ++ id ∷ []) h.log i u) s.views id w
              (record { seen = f.seen; own = f.own; gathered = f.gathered; stage = (part, length h.queue, at_last h.queue id (length h.queue) refl, ap (λ (l : List ℕ). slice_index l 0) h.words); spent = f.spent })
              (λ i u apart atu. fits_longer h.base h.queue id h.log i u (h.each i u atu));
          busy = omega (arith, length-append h.queue (id ∷ []));
          parts = omega arith;
          few = h.few;
          places = λ k. (let tk = total_set (owned k) s.views id v w at in let hk = h.places k in omega arith);
        },
        (refl, refl),
      )

  waiting_fits : (base : ℕ) (queue : List ℕ) (log : List E) (i : ℕ) (v : View E) (st : Stage) (t : ℕ) → st ≡ Waiting t → StageFits base queue log i v st → StageFits base queue log i v (Waiting t)
  waiting_fits base queue log i v st t e h = let P : Stage → Type 0 = λ x. StageFits base queue log i v x in subst P e h

  -- the seat that is served first finds the value at home
  home_served : (queue : List ℕ) (views : List (View E)) (log : List E) (id t : ℕ) (v : View E) (home : Place (Option T)) → get_elem? views id ≡ some v → v.stage ≡ Waiting t → get_elem? queue 0 ≡ some id → IsHome history queue views log home → (x : T) × (home ≡ some (Some x)) × (history x ≡ log)
  home_served queue views log id t v none at waits first h =
      let same : h.0 ≡ id = some-injective h.0 id (sym h.3 ∙ first) in
      let x : Waiting t ≡ Inside h.2 = same_stage views id h.0 v h.1 (Waiting t) (Inside h.2) same at h.4 waits h.5 in
      absurd (cc)
  home_served queue views log id t v (some None) at waits first h = absurd h
  home_served queue views log id t v (some (Some x)) at waits first h = (x, refl, h)

  abbrev Goes : ℕ → ℕ → View E → State (Option T) (View E) → Type 0
  Goes n id v s = (w : View E) × (a : Act (Option T)) × Valid s.homes [] a × Rule history n (stepped s 1 (slice_index s.words 1) id [] w a) × Looked history (v, []) (slice_index s.words 1) (w, carried_after [] a)

  looked_else : (v : View E) (r t : ℕ) → v.stage ≡ Waiting t → (r == t) ≡ false → Looked history (v, []) r (v, [])
  looked_else v r t waits off t' e' =
      let same : t ≡ t' = (let x : Waiting t ≡ Waiting t' = sym waits ∙ e' in cc) in
      let m : Me (Option T) (View E) = (v, []) in
      let P : Bool → Type 0 = λ b. MatchBool b (Entered history m t' m) (m ≡ m) in
      subst P (sym (ap (λ (k : ℕ). r == k) (sym same) ∙ off)) refl

  stays : (n id t : ℕ) (v : View E) (s : State (Option T) (View E)) → v.stage ≡ Waiting t → (h : Rule history n s) → get_elem? s.views id ≡ some v → (slice_index s.words 1 == t) ≡ false → Goes n id v s
  stays n id t v s waits h at off = (
    v,
    keeps,
    tt,
    record {
      base = h.base;
      queue = h.queue;
      log = h.log;
      home = h.home;
      words = words_same s.words _ _ h.words;
      homes = h.homes;
      is_home = subst (λ (l : List (View E)). IsHome history h.queue l h.log h.home) (sym (set_again s.views id v at)) h.is_home;
      each = subst (λ (l : List (View E)). (i : ℕ) (u : View E) → get_elem? l i ≡ some u → Fits h.base h.queue h.log i u) (sym (set_again s.views id v at)) h.each;
      busy = h.busy ∙ ap (total (λ (u : View E). busy_stage u.stage)) (sym (set_again s.views id v at));
      parts = ap (total (λ (u : View E). u.parts)) (set_again s.views id v at) ∙ h.parts;
      few = h.few;
      places = λ k. ap (total (owned k)) (set_again s.views id v at) ∙ h.places k;
    },
    looked_else v (slice_index s.words 1) t waits off,
  )

  goes_in : (n id t : ℕ) (v : View E) (s : State (Option T) (View E)) → v.stage ≡ Waiting t → (h : Rule history n s) → get_elem? s.views id ≡ some v → (slice_index s.words 1 == t) ≡ true → Goes n id v s
  goes_in n id t v s waits h at hit =
      let r : ℕ = slice_index s.words 1 in
      let is : r ≡ t = grind (arith, nat_tests) in
      let serving : r ≡ h.base % 2 ^ 64 = ap (λ (l : List ℕ). slice_index l 1) h.words in
      let f = h.each id v at in
      let st = waiting_fits h.base h.queue h.log id v v.stage t waits f.stage in
      let below : st.1 < length h.queue = at_below h.queue st.1 id st.2 in
      let few = queue_few n s h in
      let zero_k : st.1 ≡ 0 = first_served h.base st.1 (omega arith) (sym serving ∙ is ∙ st.3) in
      let first : get_elem? h.queue 0 ≡ some id = subst (λ (k : ℕ). get_elem? h.queue k ≡ some id) zero_k st.2 in
      let found = home_served h.queue s.views h.log id t v h.home at waits first h.is_home in
      let x : T = found.0 in
      let w : View E = record v { stage = Inside t; seen = history x } in
      let b0 : busy_stage v.stage ≡ 1 = ap busy_stage waits in
      let tb = total_set (λ (u : View E). busy_stage u.stage) s.views id v w at in
      let tp = total_set (λ (u : View E). u.parts) s.views id v w at in
      let hb = h.busy in
      let hp = h.parts in
      let there : id < length s.views = at_below s.views id v at in (
        w,
        takes 0 (Some x),
        ap (λ (l : List (Place (Option T))). get_elem? l 0) h.homes ∙ ap some found.1,
        record {
          base = h.base;
          queue = h.queue;
          log = h.log;
          home = none;
          words = words_same s.words _ _ h.words;
          homes = ap (λ (l : List (Place (Option T))). slice_set l 0 none) h.homes;
          is_home = (id, w, t, first, set_here s.views id w there, refl);
          each = each_set (λ i u. Fits h.base h.queue h.log i u) s.views id w
              (record { seen = subst (StartsWith h.log) (sym found.2) (starts_here h.log); own = f.own; gathered = f.gathered; stage = (st.0, first, found.2); spent = f.spent })
              (λ i u apart atu. h.each i u atu);
          busy = omega arith;
          parts = omega arith;
          few = h.few;
          places = λ k. (let tk = total_set (owned k) s.views id v w at in let hk = h.places k in omega arith);
        },
        λ t' e'. (
            let same : t ≡ t' = (let y : Waiting t ≡ Waiting t' = sym waits ∙ e' in cc) in
            let m : Me (Option T) (View E) = (v, []) in
            let m' : Me (Option T) (View E) = (w, (0, Some x) ∷ []) in
            let P : ℕ → Type 0 = λ k. MatchBool (r == k) (Entered history m k m') (m' ≡ m) in
            let Q : Bool → Type 0 = λ b. MatchBool b (Entered history m t m') (m' ≡ m) in
            subst P same (subst Q (sym hit) (x, refl, refl, subst (λ (l : List E). StartsWith l v.seen) (sym found.2) f.seen))
            ),
      )

  looks_at : (n id t : ℕ) (v : View E) (s : State (Option T) (View E)) → v.stage ≡ Waiting t → (h : Rule history n s) → get_elem? s.views id ≡ some v → (b : Bool) → (slice_index s.words 1 == t) ≡ b → Goes n id v s
  looks_at n id t v s waits h at true e = goes_in n id t v s waits h at e
  looks_at n id t v s waits h at false e = stays n id t v s waits h at e

  pub looks : (n id t : ℕ) (v : View E) → v.stage ≡ Waiting t → Allows (Rule history n) 1 id (v, []) 1 (λ m. m) (Looked history (v, []))
  looks n id t v waits s h len at small = looks_at n id t v s waits h at (slice_index s.words 1 == t) refl

  inside_fits : (base : ℕ) (queue : List ℕ) (log : List E) (i : ℕ) (v : View E) (st : Stage) (t : ℕ) → st ≡ Inside t → StageFits base queue log i v st → (0 < v.parts) × (get_elem? queue 0 ≡ some i) × (v.seen ≡ log)
  inside_fits base queue log i v st t e h = let P : Stage → Type 0 = λ x. StageFits base queue log i v x in subst P e h

  stage_passed : (base : ℕ) (q : List ℕ) (log log' : List E) (i id : ℕ) (u : View E) (st : Stage) → i ≢ id → StageFits base (id ∷ q) log i u st → StageFits (base + 1) q log' i u st
  stage_passed base q log log' i id u Idle apart h = tt
  stage_passed base q log log' i id u (Waiting t) apart h = later h.0 h.1 h.2 h.3
    where
      later : 0 < u.parts → (k : ℕ) → get_elem? (id ∷ q) k ≡ some i → t ≡ (base + k) % 2 ^ 64 → (0 < u.parts) × (k' : ℕ) × (get_elem? q k' ≡ some i) × (t ≡ (base + 1 + k') % 2 ^ 64)
      later part zero at e = absurd (apart (sym (some-injective id i at)))
      later part (suc k) at e = let same : base + suc k ≡ base + 1 + k = omega arith in (part, k, at, e ∙ ap (λ (m : ℕ). m % 2 ^ 64) same)
  stage_passed base q log log' i id u (Inside t) apart h = absurd (apart (sym (some-injective id i h.1)))

  fits_passed : (base : ℕ) (q : List ℕ) (log es : List E) (i id : ℕ) (u : View E) → i ≢ id → Fits base (id ∷ q) log i u → Fits (base + 1) q (log ++ es) i u
  fits_passed base q log es i id u apart h = record {
    seen = starts_further log u.seen es h.seen;
    own = stands_further log es u.own h.own;
    gathered = λ j ps e. stands_further log es ps (h.gathered j ps e);
    stage = stage_passed base q log (log ++ es) i id u u.stage apart h.stage;
    spent = h.spent;
  }

  pub passes : (n id t : ℕ) (v : View E) (x : T) (es : List E) → v.stage ≡ Inside t → history x ≡ v.seen ++ es
      → Allows (Rule history n) 1 id (v, (0, Some x) ∷ []) 1 (λ m. (m + 1) % 2 ^ 64) (λ r w. Passed history (v, (0, Some x) ∷ []) w)
  passes n id t v x es inside hx s h len at small =
      let f = h.each id v at in
      let st = inside_fits h.base h.queue h.log id v v.stage t inside f.stage in
      let hd = head_is h.queue id st.1 in
      let q : List ℕ = hd.0 in
      let m : ℕ = length v.seen in
      let w : View E = record v { stage = Idle; seen = history x; own = v.own ++ numbered m es } in
      let grown : history x ≡ h.log ++ es = hx ∙ ap (λ (l : List E). l ++ es) st.2 in
      let b1 : busy_stage v.stage ≡ 1 = ap busy_stage inside in
      let tb = total_set (λ (u : View E). busy_stage u.stage) s.views id v w at in
      let tp = total_set (λ (u : View E). u.parts) s.views id v w at in
      let hb = h.busy in
      let hp = h.parts in
      let lq : length h.queue ≡ length (id ∷ q) = ap length hd.1 in
      let part = st.0 in
      let each : (i : ℕ) (u : View E) → get_elem? s.views i ≡ some u → Fits h.base (id ∷ q) h.log i u = subst (λ (l : List ℕ). (i : ℕ) (u : View E) → get_elem? s.views i ≡ some u → Fits h.base l h.log i u) hd.1 h.each in (
        w,
        gives,
        tt,
        record {
          base = h.base + 1;
          queue = q;
          log = history x;
          home = some (Some x);
          words = words_passed s.words h.base id q (h.words ∙ ap (λ (l : List ℕ). ((h.base + length l) % 2 ^ 64) ∷ (h.base % 2 ^ 64) ∷ []) hd.1);
          homes = ap (λ (l : List (Place (Option T))). slice_set l 0 (some (Some x))) h.homes;
          is_home = refl;
          each = each_set (λ i u. Fits (h.base + 1) q (history x) i u) s.views id w
              (record {
                seen = starts_here (history x);
                own = stands_append (history x) v.own (numbered m es)
                    (subst (λ (l : List E). Stands l v.own) (sym grown) (stands_further h.log es v.own f.own))
                    (subst (λ (l : List E). Stands l (numbered m es)) (sym hx) (stands_numbered v.seen es));
                gathered = λ j ps e. subst (λ (l : List E). Stands l ps) (sym grown) (stands_further h.log es ps (f.gathered j ps e));
                stage = tt;
                spent = λ none. absurd (omega arith);
              })
              (λ i u apart atu. subst (λ (l : List E). Fits (h.base + 1) q l i u) (sym grown) (fits_passed h.base q h.log es i id u apart (each i u atu)));
          busy = omega arith;
          parts = omega arith;
          few = h.few;
          places = λ k. (
              let tk = total_set (owned k) s.views id v w at in
              let hk = h.places k in
              let ta = times_append k v.own (numbered m es) in
              let tn = times_numbered k m es in
              let e1 : once_below k (length h.log) ≡ once_below k m = ap (λ (l : List E). once_below k (length l)) (sym st.2) in
              let e2 : once_below k (length (history x)) ≡ once_below k (m + length es) = ap (λ (l : List E). once_below k (length l)) hx ∙ ap (once_below k) (length-append v.seen es) in
              omega arith
              );
        },
        (x, es, refl, hx, refl, refl),
      )

  home_else : (queue : List ℕ) (views : List (View E)) (log : List E) (id : ℕ) (v w : View E) (home : Place (Option T)) → get_elem? views id ≡ some v → v.stage ≡ Idle → IsHome history queue views log home → IsHome history queue (set views id w) log home
  home_else queue views log id v w none at idle h =
      let apart : h.0 ≢ id = λ e. (let x : Idle ≡ Inside h.2 = same_stage views id h.0 v h.1 Idle (Inside h.2) e at h.4 idle h.5 in cc) in
      (h.0, h.1, h.2, h.3, set_else views id h.0 w apart ∙ h.4, h.5)
  home_else queue views log id v w (some None) at idle h = h
  home_else queue views log id v w (some (Some x)) at idle h = h

  home_snoc : (queue : List ℕ) (views : List (View E)) (log : List E) (w : View E) (home : Place (Option T)) → IsHome history queue views log home → IsHome history queue (views ++ w ∷ []) log home
  home_snoc queue views log w none h = (h.0, h.1, h.2, h.3, at_longer views (w ∷ []) h.0 h.1 h.4, h.5)
  home_snoc queue views log w (some None) h = h
  home_snoc queue views log w (some (Some x)) h = h

  pub splits : (n id : ℕ) (v : View E) → v.stage ≡ Idle → 1 < v.parts → Splits (Rule history n) id v (cut_left v) (cut_right v)
  splits n id v idle two s h at =
      let l : View E = cut_left v in
      let r : View E = cut_right v in
      let f = h.each id v at in
      let views : List (View E) = set s.views id l in
      let ts = total_set (λ (u : View E). busy_stage u.stage) s.views id v l at in
      let ta = total_push (λ (u : View E). busy_stage u.stage) views r in
      let ps = total_set (λ (u : View E). u.parts) s.views id v l at in
      let pa = total_push (λ (u : View E). u.parts) views r in
      let hb = h.busy in
      let hp = h.parts in
      let stage_l : StageFits h.base h.queue h.log id l l.stage = (let P : Stage → Type 0 = λ st. StageFits h.base h.queue h.log id l st in subst P (sym idle) tt) in
      let mine : Fits h.base h.queue h.log id l = record { seen = f.seen; own = f.own; gathered = f.gathered; stage = stage_l; spent = λ none. absurd (omega arith) } in
      let new : (i : ℕ) → Fits h.base h.queue h.log i r = λ i. record { seen = f.seen; own = λ j p e. absurd (some-ne-none p (sym e)); gathered = λ j p e. absurd (some-ne-none p (sym e)); stage = tt; spent = λ none. (refl, refl) } in
      let old = each_set (λ i u. Fits h.base h.queue h.log i u) s.views id l mine (λ i u apart atu. h.each i u atu) in
      record {
        base = h.base;
        queue = h.queue;
        log = h.log;
        home = h.home;
        words = h.words;
        homes = h.homes;
        is_home = home_snoc h.queue views h.log r h.home (home_else h.queue s.views h.log id v l h.home at idle h.is_home);
        each = λ i u e. ⊎_elim (λ (x : get_elem? views i ≡ some u). old i u x) (λ (x : r ≡ u). subst (λ (y : View E). Fits h.base h.queue h.log i y) x (new i)) (at_snoc views r u i e);
        busy = omega arith;
        parts = omega arith;
        few = h.few;
        places = λ k. (let ks = total_set (owned k) s.views id v l at in let ka = total_push (owned k) views r in let hk = h.places k in omega arith);
      }

  at_glued : (vs ws : List (List (ℕ × E))) (log : List E) → ((j : ℕ) (ps : List (ℕ × E)) → get_elem? vs j ≡ some ps → Stands log ps) → ((j : ℕ) (ps : List (ℕ × E)) → get_elem? ws j ≡ some ps → Stands log ps) → (j : ℕ) (ps : List (ℕ × E)) → get_elem? (vs ++ ws) j ≡ some ps → Stands log ps
  at_glued [] ws log hv hw j ps e = hw j ps e
  at_glued (x ∷ xs) ws log hv hw zero ps e = hv 0 ps e
  at_glued (x ∷ xs) ws log hv hw (suc j) ps e = at_glued xs ws log (λ i qs d. hv (suc i) qs d) hw j ps e

  at_cons : (x : List (ℕ × E)) (ws : List (List (ℕ × E))) (log : List E) → Stands log x → ((j : ℕ) (ps : List (ℕ × E)) → get_elem? ws j ≡ some ps → Stands log ps) → (j : ℕ) (ps : List (ℕ × E)) → get_elem? (x ∷ ws) j ≡ some ps → Stands log ps
  at_cons x ws log hx hw zero ps e = subst (Stands log) (some-injective x ps e) hx
  at_cons x ws log hx hw (suc j) ps e = hw j ps e

  pub joins : (n id : ℕ) (v : View E) (other : ℕ) (w : View E) → v.stage ≡ Idle → w.stage ≡ Idle → 0 < v.parts → Joins (Rule history n) id v other w (glued v w) used_up
  joins n id v other w idle idle' part s h at apart atw =
      let b : View E = glued v w in
      let z : View E = used_up in
      let one : List (View E) = set s.views id b in
      let atw' : get_elem? s.views other ≡ some w = sym (set_else s.views id other b apart) ∙ atw in
      let there : get_elem? one id ≡ some b = set_here s.views id b (at_below s.views id v at) in
      let f = h.each id v at in
      let g = h.each other w atw' in
      let bv : busy_stage v.stage ≡ 0 = ap busy_stage idle in
      let bw : busy_stage w.stage ≡ 0 = ap busy_stage idle' in
      let t1 = total_set (λ (u : View E). busy_stage u.stage) s.views id v b at in
      let t2 = total_set (λ (u : View E). busy_stage u.stage) one other w z atw in
      let p1 = total_set (λ (u : View E). u.parts) s.views id v b at in
      let p2 = total_set (λ (u : View E). u.parts) one other w z atw in
      let hb = h.busy in
      let hp = h.parts in
      let stage_b : StageFits h.base h.queue h.log id b b.stage = (let P : Stage → Type 0 = λ st. StageFits h.base h.queue h.log id b st in subst P (sym idle) tt) in
      let mine : Fits h.base h.queue h.log id b = record { seen = f.seen; own = f.own; gathered = at_glued v.gathered (w.own ∷ w.gathered) h.log f.gathered (at_cons w.own w.gathered h.log g.own g.gathered); stage = stage_b; spent = λ none. absurd (omega arith) } in
      let old = each_set (λ i u. Fits h.base h.queue h.log i u) s.views id b mine (λ i u away atu. h.each i u atu) in
      let spent : Fits h.base h.queue h.log other z = record { seen = (h.log, refl); own = λ j p e. absurd (some-ne-none p (sym e)); gathered = λ j p e. absurd (some-ne-none p (sym e)); stage = tt; spent = λ none. (refl, refl) } in
      record {
        base = h.base;
        queue = h.queue;
        log = h.log;
        home = h.home;
        words = h.words;
        homes = h.homes;
        is_home = home_else h.queue one h.log other w z h.home atw idle' (home_else h.queue s.views h.log id v b h.home at idle h.is_home);
        each = each_set (λ i u. Fits h.base h.queue h.log i u) one other z spent (λ i u away atu. old i u atu);
        busy = omega arith;
        parts = omega arith;
        few = h.few;
        places = λ k. (
            let k1 = total_set (owned k) s.views id v b at in
            let k2 = total_set (owned k) one other w z atw in
            let hk = h.places k in
            let ga = total_append (times k) v.gathered (w.own ∷ w.gathered) in
            omega arith
            );
      }

  home_final : (queue : List ℕ) (views : List (View E)) (log : List E) (home : Place (Option T)) → length queue ≡ 0 → IsHome history queue views log home → (x : T) × (home ≡ some (Some x)) × (history x ≡ log)
  home_final queue views log none none_held h = let below = at_below queue 0 h.0 h.3 in absurd (omega arith)
  home_final queue views log (some None) none_held h = absurd h
  home_final queue views log (some (Some x)) none_held h = (x, refl, h)

  spent_owns : (k : ℕ) (u : View E) → (u.own ≡ []) × (u.gathered ≡ []) → owned k u ≡ 0
  spent_owns k u h =
      let a : times k u.own ≡ 0 = ap (times k) h.0 in
      let b : total (times k) u.gathered ≡ 0 = ap (total (times k)) h.1 in
      omega arith

  -- with every part, and the seat idle, the value is home, and each place of its history was left by one seat
  pub settles : (n id : ℕ) (v : View E) (ws : List ℕ) (xs : List (Option T)) → v.stage ≡ Idle → v.parts ≡ n → Final (Seen (Rule history n) id v) ws xs
      → (x : T) × (get_elem? xs 0 ≡ some (Some x)) × Shared (history x) v
  settles n id v ws xs idle all fin =
      let s = fin.0 in
      let h = fin.1.0 in
      let at = fin.1.1 in
      let z : View E = used_up in
      let rest : List (View E) = set s.views id z in
      let hp = h.parts in
      let hb = h.busy in
      let bv : busy_stage v.stage ≡ 0 = ap busy_stage idle in
      let p = total_set (λ (u : View E). u.parts) s.views id v z at in
      let none_left : total (λ (u : View E). u.parts) rest ≡ 0 = omega arith in
      let zero_parts : (i : ℕ) (u : View E) → get_elem? rest i ≡ some u → u.parts ≡ 0 = λ i u e. total_none (λ (y : View E). y.parts) rest i u none_left e in
      let fits_rest = each_set (λ i u. Fits h.base h.queue h.log i u) s.views id z (record { seen = (h.log, refl); own = λ j q e. absurd (some-ne-none q (sym e)); gathered = λ j q e. absurd (some-ne-none q (sym e)); stage = tt; spent = λ none. (refl, refl) }) (λ i u away atu. h.each i u atu) in
      let idle_rest : total (λ (u : View E). busy_stage u.stage) rest ≡ 0 = total_zero (λ (u : View E). busy_stage u.stage) rest (λ i u e. (let le = busy_le h.base h.queue h.log i u u.stage (fits_rest i u e).stage in let zp = zero_parts i u e in omega arith)) in
      let b = total_set (λ (u : View E). busy_stage u.stage) s.views id v z at in
      let found = home_final h.queue s.views h.log h.home (omega arith) h.is_home in
      let x : T = found.0 in
      let f = h.each id v at in (
        x,
        fin.4 0 (Some x) (ap (λ (l : List (Place (Option T))). get_elem? l 0) h.homes ∙ ap some found.1),
        record {
          once = λ k. (
              let own_rest : total (owned k) rest ≡ 0 = total_zero (owned k) rest (λ i u e. spent_owns k u ((fits_rest i u e).spent (zero_parts i u e))) in
              let t = total_set (owned k) s.views id v z at in
              let hk = h.places k in
              let same : once_below k (length (history x)) ≡ once_below k (length h.log) = ap (λ (l : List E). once_below k (length l)) found.2 in
              omega arith
              );
          own = subst (λ (l : List E). Stands l v.own) (sym found.2) f.own;
          gathered = λ j ps e. subst (λ (l : List E). Stands l ps) (sym found.2) (f.gathered j ps e);
        },
      )

  -- the same for a seat as a function has it
  pub draws_as : (n slots id : ℕ) (m : Me (Option T) (View E)) → m.1 ≡ [] → m.0.stage ≡ Idle → 0 < m.0.parts → Allows (Rule history n) slots id m 0 (λ k. (k + 1) % 2 ^ 64) (Drew m)
  draws_as n slots id m none_held idle part s h len at small =
      let P : List (ℕ × Option T) → Type 0 = λ c. (
      let m' : Me (Option T) (View E) = (m.0, c) in
      (w : View E) × (a : Act (Option T)) × Valid s.homes c a × Rule history n (stepped s 0 ((slice_index s.words 0 + 1) % 2 ^ 64) id c w a) × Drew m' (slice_index s.words 0) (w, carried_after c a)
      ) in
      subst P (sym none_held) (draws n id m.0 idle part s h (ap length h.homes) at small)

  pub looks_as : (n slots id t : ℕ) (m : Me (Option T) (View E)) → m.1 ≡ [] → m.0.stage ≡ Waiting t → Allows (Rule history n) slots id m 1 (λ k. k) (Looked history m)
  looks_as n slots id t m none_held waits s h len at small =
      let P : List (ℕ × Option T) → Type 0 = λ c. (
      let m' : Me (Option T) (View E) = (m.0, c) in
      (w : View E) × (a : Act (Option T)) × Valid s.homes c a × Rule history n (stepped s 1 (slice_index s.words 1) id c w a) × Looked history m' (slice_index s.words 1) (w, carried_after c a)
      ) in
      subst P (sym none_held) (looks n id t m.0 waits s h (ap length h.homes) at small)

  pub passes_as : (n slots id t : ℕ) (m : Me (Option T) (View E)) (x : T) (es : List E) → m.1 ≡ (0, Some x) ∷ [] → m.0.stage ≡ Inside t → history x ≡ m.0.seen ++ es → Allows (Rule history n) slots id m 1 (λ k. (k + 1) % 2 ^ 64) (λ r w. Passed history m w)
  passes_as n slots id t m x es held inside hx s h len at small =
      let P : List (ℕ × Option T) → Type 0 = λ c. (
      let m' : Me (Option T) (View E) = (m.0, c) in
      (w : View E) × (a : Act (Option T)) × Valid s.homes c a × Rule history n (stepped s 1 ((slice_index s.words 1 + 1) % 2 ^ 64) id c w a) × Passed history m' (w, carried_after c a)
      ) in
      subst P (sym held) (passes n id t m.0 x es inside hx s h (ap length h.homes) at small)

module _ {A : Type 0} where
  -- the one slot that is held is the one taken last
  pub top_is : (c : List (ℕ × A)) (k : ℕ) (y : A) → c ≡ (k, y) ∷ [] → (x : A) × (c ≡ (k, x) ∷ held_rest c)
  top_is c k y e = (y, e ∙ ap (λ (l : List (ℕ × A)). (k, y) ∷ held_rest l) (sym e))

module _ {T E : Type 0} (history : T → List E) where
  pub opens : (n : ℕ) (x : T) → n ≤ 16 → 0 < n → history x ≡ [] → Rule history n (opening (0 ∷ 0 ∷ []) (Some x ∷ []) (first_view n))
  opens n x few part empty = record {
    base = 0;
    queue = [];
    log = [];
    home = some (Some x);
    words = refl;
    homes = refl;
    is_home = empty;
    each = one;
    busy = refl;
    parts = omega arith;
    few = few;
    places = λ k. grind (arith, nat_tests);
  }
    where
      one : (i : ℕ) (v : View E) → get_elem? (first_view n ∷ []) i ≡ some v → Fits 0 [] [] i v
      one zero v e = subst (Fits 0 [] [] 0) (some-injective (first_view n) v e) record { seen = ([], refl); own = λ j p d. absurd (some-ne-none p (sym d)); gathered = λ j p d. absurd (some-ne-none p (sym d)); stage = tt; spent = λ none. (refl, refl) }
      one (suc i) v e = absurd (some-ne-none v (sym e))
