-- The lists of reads follow the past.
use Rattle.std.proofs.Common.{◌≡◌, ℕ, Bool, true, false, cond, not, ◌&&◌, ◌||◌, nat_lt, List, [], ◌∷◌, ◌++◌, Option, Some, None, option_map, refl, sym, ap, ◌∙◌, bytes_eq}
use Rattle.std.proofs.lemmas.Bool.{and_parts, eqb-true, eq-eqb, ltb-true, ltb-false, or_left, or_right}
use Rattle.std.proofs.lemmas.List.Folds.{list_any-append}
use Rattle.std.specs.Cmp.Lexicographic.{bytes_decides}
use Rattle.std.specs.List.{list_any, filter}
use Rattle.vx_base.specs.declared.effects.Effect.TheVariants as effect
use Rattle.vx_record.specs.Types.{Id, Mode, Opened, Pid}
use Rattle.vx_base.specs.declared.record.Event.TheVariants as event
use Rattle.vx_laws.specs.Boxes.{reads_at, is_at, asks, oldest_read}
use Rattle.vx_laws.specs.Items.{Item, Head, Did, is_id}
use Rattle.vx_laws.specs.Lives.{Life, life, lived, subject, is_about, highest, is_request, is_bare, new_life}
use Rattle.vx_record.specs.Mailboxes.{is_waiting_func}
use Rattle.vx_judge.proofs.Least.{least_is}
use Rattle.vx_judge.proofs.OpenIds.{by_cases, known, filtered}
use Rattle.vx_judge.specs.Lives.{kept, IsOf}
use Rattle.vx_judge.specs.Readers.{HasReads, has_request, waits_in, least_of, counted_wait, box_of}
use Rattle.vx_judge.specs.Requests.{asked_by, asked_in, asks_at, AreAsked}
use Rattle.vx_judge.specs.BoxLists.{listed}
use Rattle.vx_judge.specs.declared.box_lists.BoxLists.{BoxLists}
use Rattle.vx_judge.specs.declared.lives.Lives.{Lives}
use Rattle.vx_judge.specs.declared.requests.Requests.{Requests}
use Rattle.vx_laws.proofs.Shares.{lived_none}
use Rattle.vx_laws.proofs.Openings.{is_open_item}
use Rattle.vx_base.specs.Lists.{is_some_and}

-- By the tables a read waits as it does by the past.

waits_kept : (name : List ℕ) (l : Option Life) → (has_request (option_map kept l) && asks_at name (option_map asked_by l)) ≡ is_some_and (reads_at name) l
waits_kept name None = refl
waits_kept name (Some l) = refl

waits_so : (t : Lives) (u : Requests) (past : List Item) (name : List ℕ) (id : Id) → IsOf t past → AreAsked u past → waits_in t u name id ≡ is_some_and (reads_at name) (life past id)
waits_so t u past name id is are = ap (λ l. has_request l && asks_at name (asked_in u id)) (is id) ∙ (ap (λ a. has_request (option_map kept (life past id)) && asks_at name a) (are id) ∙ waits_kept name (life past id))

-- What waits was waiting, or is opened.

body_before : (k a b r : Bool) → ((k && (a && b)) && r) ≡ true → ((k && a) && r) ≡ true
body_before true true true r h = h
body_before true true false r h = absurd (let never : false ≡ true = h in cc)
body_before true false b r h = h
body_before false a b r h = h

lives_reads : (name : List ℕ) (past : List Item) (x : Item) (l : Option Life) → is_open_item x ≡ false → is_some_and (reads_at name) (lived past x l) ≡ true → is_some_and (reads_at name) l ≡ true
lives_reads name past x None o h = absurd (let e : is_some_and (reads_at name) (lived past x None) ≡ false = rw (lived_none past x o) refl in cc)
lives_reads name past (Did (effect.Open id kind p mode n)) (Some l) o h = absurd (let never : true ≡ false = o in cc)
lives_reads name past (Did (effect.Fin id c)) (Some l) o h = body_before (is_request l.kind) l.body _ _ h
lives_reads name past (Did (effect.Fire id)) (Some l) o h = body_before (is_request l.kind) l.body _ _ h
lives_reads name past (Did (effect.Enter id)) (Some l) o h = body_before (is_request l.kind) l.body _ _ h
lives_reads name past (Did (effect.Drop id)) (Some l) o h = body_before (is_request l.kind) l.body _ _ h
lives_reads name past (Head (event.Ast p) a) (Some l) o h = h
lives_reads name past (Head (event.Beg u) a) (Some l) o h = h
lives_reads name past x (Some l) o h = h

was_reading : (b : Bool) (name : List ℕ) (past : List Item) (x : Item) (l : Option Life) → is_open_item x ≡ false → is_some_and (reads_at name) (cond b (lived past x l) l) ≡ true → is_some_and (reads_at name) l ≡ true
was_reading true name past x l o h = lives_reads name past x l o h
was_reading false name past x l o h = h

pub reads_on : (t : BoxLists Id) (past : List Item) (x : Item) → is_open_item x ≡ false → HasReads t past → HasReads t (x ∷ past)
reads_on t past x o h = λ name id e. h name id (was_reading (is_about (subject x) id) name past x (life past id) o e)

-- What an id asks is changed by its OPEN alone.

asked_where : (b : Bool) (past : List Item) (x : Item) (l : Option Life) → is_open_item x ≡ false → option_map asked_by (cond b (lived past x l) l) ≡ option_map asked_by l
asked_where false past x l o = refl
asked_where true past x None o = rw (lived_none past x o) refl
asked_where true past (Did (effect.Open id kind p mode n)) (Some l) o = absurd (let never : true ≡ false = o in cc)
asked_where true past (Head (event.Ast p) a) (Some l) o = refl
asked_where true past (Head (event.Beg u) a) (Some l) o = refl
asked_where true past x (Some l) o = refl

pub asked_on : (t : Requests) (past : List Item) (x : Item) → is_open_item x ≡ false → AreAsked t past → AreAsked t (x ∷ past)
asked_on t past x o are = λ id. are id ∙ sym (asked_where (is_about (subject x) id) past x (life past id) o)

-- Those that have ended go.
pub reads_left : (old new : BoxLists Id) (t : Lives) (u : Requests) (name : List ℕ) (past : List Item) → IsOf t past → AreAsked u past →
    ((other : List ℕ) → listed new other ≡ cond (bytes_eq name other) (filter (waits_in t u name) (listed old name)) (listed old other)) → HasReads old past → HasReads new past
reads_left old new t u name past is are set h = λ other id e.
    by_cases (bytes_eq name other)
    (λ same.
    let it : name ≡ other = (bytes_decides name other).0 same in
    let there : is_some_and (reads_at name) (life past id) ≡ true = rw it e in
    rw (set other, same) (filtered id (waits_in t u name) (listed old name) (waits_so t u past name id is are ∙ there) (h name id there)))
    (λ apart. rw (set other, apart) (h other id e))

-- An id that is opened is put last at its box.

-- what is opened and waits at a box has it as its box
opened_at : (kind : Opened) (bare : Bool) (a : Option (List ℕ)) (w : Bool) (name : List ℕ) → ((is_request kind && bare) && (is_at name a && w)) ≡ true → (cond (is_request kind && w) a None ≡ a) × (is_at name a ≡ true)
opened_at kind bare a w name h =
    let two = and_parts (is_request kind && bare) (is_at name a && w) h in
    let first = and_parts (is_request kind) bare two.0 in
    let last = and_parts (is_at name a) w two.1 in
    (rw (first.0, last.1) refl, last.0)

at_name : (o : Option (List ℕ)) (name other : List ℕ) → o ≡ Some name → is_at other o ≡ true → bytes_eq name other ≡ true
at_name o name other e h = rw e at h

at_none : (o : Option (List ℕ)) (other : List ℕ) → o ≡ None → is_at other o ≡ true → ⊥
at_none o other e h = let never : false ≡ true = rw e at h in cc

module _ (past : List Item) (i : Id) (kind : Opened) (p : Pid) (mode : Option Mode) (n : ℕ) where
  abbrev pub here : Item
  here = Did (effect.Open i kind p mode n)

  abbrev pub born : Life
  born = new_life past kind p mode n

  pub reads_opened : (old new : BoxLists Id) (name : List ℕ) → box_of kind (asked_by born) ≡ Some name →
      ((other : List ℕ) → listed new other ≡ cond (bytes_eq name other) (listed old other ++ i ∷ []) (listed old other)) → HasReads old past → HasReads new (here ∷ past)
  reads_opened old new name boxed set h = λ other id e.
      by_cases (is_id i id)
      (λ same.
      let now : reads_at other born ≡ true = rw same at e in
      let two = opened_at kind (not (is_bare kind)) born.device (asks is_waiting_func born.by) other now in
      let there : bytes_eq name other ≡ true = at_name born.device name other (sym two.0 ∙ boxed) two.1 in
      rw (set other, there) (list_any-append (is_id id) (listed old other) (i ∷ []) ∙ or_right (list_any (is_id id) (listed old other)) (is_id id i || false) (or_left (is_id id i) false (eq-eqb id.0 i.0 (sym (eqb-true i.0 id.0 same))))))
      (λ apart.
      let before : is_some_and (reads_at other) (life past id) ≡ true = rw apart at e in
      by_cases (bytes_eq name other)
      (λ b. rw (set other, b) (list_any-append (is_id id) (listed old other) (i ∷ []) ∙ or_left (list_any (is_id id) (listed old other)) (is_id id i || false) (h other id before)))
      (λ b. rw (set other, b) (h other id before)))

  pub reads_unlisted : (t : BoxLists Id) → box_of kind (asked_by born) ≡ None → HasReads t past → HasReads t (here ∷ past)
  reads_unlisted t boxed h = λ other id e.
      by_cases (is_id i id)
      (λ same.
      let now : reads_at other born ≡ true = rw same at e in
      let two = opened_at kind (not (is_bare kind)) born.device (asks is_waiting_func born.by) other now in
      absurd (at_none born.device other (sym two.0 ∙ boxed) two.1))
      (λ apart. let before : is_some_and (reads_at other) (life past id) ≡ true = rw apart at e in h other id before)

-- The oldest read is the least that waits.

reading_is_known : (name : List ℕ) (l : Option Life) → l ≡ None → is_some_and (reads_at name) l ≡ true → ⊥
reading_is_known name l e h = let never : false ≡ true = rw e at h in cc

pub oldest_is : (t : Lives) (u : Requests) (v : BoxLists Id) (past : List Item) (name : List ℕ) → IsOf t past → AreAsked u past → HasReads v past → least_of (counted_wait t u name) (listed v name) ≡ oldest_read past name
oldest_is t u v past name is are has =
    least_is (waits_in t u name) (λ id. is_some_and (reads_at name) (life past id)) (highest past) (listed v name) (λ id. waits_so t u past name id is are) (λ id. has name id) (λ id e.
    by_cases (nat_lt (highest past) id.0)
    (λ above. absurd (reading_is_known name (life past id) (known past id (ltb-true (highest past) id.0 above)) e))
    (λ f. ltb-false (highest past) id.0 f))
