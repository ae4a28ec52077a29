-- Statements in their small form stay as their terms get more.
use Rattle.std.proofs.Common.{◌≡◌, ℕ, zero, suc, ◌+◌, ◌-◌, ◌<◌, ◌≤◌, List, [], ◌∷◌, ◌++◌, drop, length, map, take, slice_get, slice_index_or, Option, ap, refl, subst, sym, ◌∙◌, arith}
use Rattle.std.specs.List.{AllByRecursion}
use Rattle.std.proofs.lemmas.List.{get_or-drop, get_or-take, length-append, map-append}
use Rattle.vx_base.specs.Services.{args_list}
use Rattle.vx_base.specs.declared.call.Arg.{Arg}
use Rattle.vx_base.specs.declared.call.Args.{Args}
use Rattle.vx_base.specs.declared.call.Arg.TheVariants as arg
use Rattle.vx_image.proofs.KeptTerms.{begins_longer, parts}
use Rattle.vx_image.proofs.Packed.{all_and_one, piece_kept, piece_last}
use Rattle.vx_image.specs.Packed.{Begins, IsWithin, piece}
use Rattle.vx_image.specs.Small.{own, stmt_by, stmts_in, HaveTerms, args_in}
use Rattle.vx_image.specs.Terms.{Term, OfArg, arg_of, arg_in, text_in, text_of, term_in}
use Rattle.vx_image.specs.declared.stmt.Stmt.{Stmt}
use Rattle.vx_image.specs.declared.stmts.Head.{Head}
use Rattle.std.specs.Prelude.{unwrap_or}

item_of_piece : {A : Type 0} (start len k : ℕ) (items : List A) (d : A) → k < len → slice_index_or (piece start len items) k d ≡ slice_index_or items (start + k) d
item_of_piece start len k items d lt = get_or-take len (drop start items) k d lt ∙ get_or-drop start items k d

none_behind : {A : Type 0} (len k : ℕ) (items : List A) (d : A) → len ≤ k → slice_index_or (take len items) k d ≡ d
none_behind zero k items d le = refl
none_behind (suc len) k [] d le = refl
none_behind (suc len) zero (x ∷ items) d le = absurd (omega (arith, le))
none_behind (suc len) (suc k) (x ∷ items) d le = none_behind len k items d (omega (arith, le))

-- a statement's own argument
pub own_arg : (terms : List Term) (h : Head) (k : ℕ) → k < h.count → arg_in (own terms h) k ≡ arg_in terms (h.start + k)
own_arg terms h k lt = ap (λ (t : Term). arg_of t) (item_of_piece h.start h.count k terms (OfArg arg.Unused) lt)

pub no_arg_behind : (terms : List Term) (h : Head) (k : ℕ) → h.count ≤ k → arg_in (own terms h) k ≡ arg.Unused
no_arg_behind terms h k le = ap (λ (t : Term). arg_of t) (none_behind h.count k (drop h.start terms) (OfArg arg.Unused) le)

pub own_text : (terms : List Term) (h : Head) → 0 < h.count → text_in (own terms h) 0 ≡ text_in terms h.start
own_text terms h lt =
    let at : h.start + 0 ≡ h.start = omega arith in
    ap (λ (t : Term). text_of t) (item_of_piece h.start h.count 0 terms (OfArg arg.Unused) lt ∙ ap (λ (n : ℕ). term_in terms n) at)

pub no_text_behind : (terms : List Term) (h : Head) → h.count ≤ 0 → text_in (own terms h) 0 ≡ []
no_text_behind terms h le = ap (λ (t : Term). text_of t) (none_behind h.count 0 (drop h.start terms) (OfArg arg.Unused) le)

own_kept : (terms all : List Term) (h : Head) → Begins terms all → IsWithin h.start h.count terms → own all h ≡ own terms h
own_kept terms all h begins within = ap (λ (ts : List Term). own ts h) (parts terms all begins) ∙ piece_kept h.start h.count terms (drop (length terms) all) within

head_kept : (terms all : List Term) (h : Head) → Begins terms all → IsWithin h.start h.count terms → IsWithin h.start h.count all
head_kept terms all h begins within =
    let long : length all ≡ length (terms ++ drop (length terms) all) = ap (λ (ts : List Term). length ts) (parts terms all begins) in
    let both = length-append terms (drop (length terms) all) in
    omega (arith, within, long, both)

pub stmts_kept : (terms all : List Term) (heads : List Head) → HaveTerms terms heads → Begins terms all → stmts_in all heads ≡ stmts_in terms heads
stmts_kept terms all [] have begins = refl
stmts_kept terms all (h ∷ heads) have begins =
    ap (λ (s : Stmt). s ∷ stmts_in all heads) (ap (λ (ts : List Term). stmt_by h.kind ts) (own_kept terms all h begins have.0))
    ∙ ap (λ (ss : List Stmt). stmt_by h.kind (own terms h) ∷ ss) (stmts_kept terms all heads have.1 begins)

pub have_kept : (terms all : List Term) (heads : List Head) → HaveTerms terms heads → Begins terms all → HaveTerms all heads
have_kept terms all [] have begins = tt
have_kept terms all (h ∷ heads) have begins = (head_kept terms all h begins have.0, have_kept terms all heads have.1 begins)

-- one statement more, with its terms at the end
pub stmts_and_one : (terms all more : List Term) (heads : List Head) (h : Head) → HaveTerms terms heads → all ≡ terms ++ more → h.start ≡ length terms → h.count ≡ length more →
    stmts_in all (heads ++ h ∷ []) ≡ stmts_in terms heads ++ stmt_by h.kind more ∷ []
stmts_and_one terms all more heads h have longer at long =
    map-append (λ (h : Head). stmt_by h.kind (own all h)) heads (h ∷ [])
    ∙ ap (λ (ss : List Stmt). ss ++ stmt_by h.kind (own all h) ∷ []) (stmts_kept terms all heads have (begins_longer terms all more longer))
    ∙ ap (λ (ts : List Term). stmts_in terms heads ++ stmt_by h.kind ts ∷ []) (ap (λ (ts : List Term). own ts h) longer ∙ piece_last h.start h.count terms more at long)

pub have_and_one : (terms all more : List Term) (heads : List Head) (h : Head) → HaveTerms terms heads → all ≡ terms ++ more → h.start ≡ length terms → h.count ≡ length more → HaveTerms all (heads ++ h ∷ [])
have_and_one terms all more heads h have longer at long =
    let both : length all ≡ length terms + length more = ap (λ (ts : List Term). length ts) longer ∙ length-append terms more in
    all_and_one (λ (h : Head). IsWithin h.start h.count terms) (λ (h : Head). IsWithin h.start h.count all) (λ h within. head_kept terms all h (begins_longer terms all more longer) within) heads h have (omega (arith, at, long, both))

-- Arguments that are left out.

-- the arguments from a place on are unused
pub unused_behind : (args : List Arg) (k : ℕ) → AllByRecursion (λ a. a ≡ arg.Unused) args → slice_index_or args k arg.Unused ≡ arg.Unused
unused_behind [] k all = refl
unused_behind (a ∷ args) zero all = all.0
unused_behind (a ∷ args) (suc k) all = unused_behind args k all.1

arg_at_front : (args : List Arg) (n k : ℕ) → AllByRecursion (λ a. a ≡ arg.Unused) (drop n args) → arg_in (map OfArg (take n args)) k ≡ slice_index_or args k arg.Unused
arg_at_front args zero k all = sym (unused_behind args k all)
arg_at_front [] (suc n) k all = refl
arg_at_front (a ∷ args) (suc n) zero all = refl
arg_at_front (a ∷ args) (suc n) (suc k) all = arg_at_front args n k all

-- a call is known from its arguments up to the last that is used
pub all_args : (a : Args) (n : ℕ) → AllByRecursion (λ x. x ≡ arg.Unused) (drop n (args_list a)) → args_in (map OfArg (take n (args_list a))) ≡ a
all_args a n all =
    let at = λ (k : ℕ). arg_at_front (args_list a) n k all in
    rw (at 0, at 1, at 2, at 3, at 4, at 5, at 6, at 7, at 8) refl

unused_from : (args : List Arg) (n : ℕ) → n < length args → slice_index_or args n arg.Unused ≡ arg.Unused → AllByRecursion (λ a. a ≡ arg.Unused) (drop (suc n) args) → AllByRecursion (λ a. a ≡ arg.Unused) (drop n args)
unused_from [] n lt is all = absurd (omega (arith, lt))
unused_from (a ∷ args) zero lt is all = (is, all)
unused_from (a ∷ args) (suc n) lt is all = unused_from args n (omega (arith, lt)) is all

-- an argument more from behind
pub one_unused_more : (args : List Arg) (n : ℕ) → 0 < n → n ≤ length args → slice_index_or args (n - 1) arg.Unused ≡ arg.Unused → AllByRecursion (λ a. a ≡ arg.Unused) (drop n args) → AllByRecursion (λ a. a ≡ arg.Unused) (drop (n - 1) args)
one_unused_more args zero some few is all = absurd (omega (arith, some))
one_unused_more args (suc n) some few is all =
    let one : suc n - 1 ≡ n = omega arith in
    rw one (unused_from args n (omega (arith, few)) (ap (λ (k : ℕ). slice_index_or args k arg.Unused) (sym one) ∙ is) all)

further : {A : Type 0} (xs ys : List A) (k : ℕ) → k < length xs → k < length ys → take k xs ≡ take k ys → slice_get xs k ≡ slice_get ys k → take (suc k) xs ≡ take (suc k) ys
further [] ys k in_x in_y front same = absurd (omega (arith, in_x))
further (x ∷ xs) [] k in_x in_y front same = absurd (omega (arith, in_y))
further {A} (x ∷ xs) (y ∷ ys) zero in_x in_y front same = ap (λ (a : A). a ∷ []) (ap (λ (o : Option A). unwrap_or o x) same)
further {A} (x ∷ xs) (y ∷ ys) (suc k) in_x in_y front same =
    let first : x ≡ y = ap (λ (l : List A). slice_index_or l 0 x) front in
    let rest : take k xs ≡ take k ys = ap (λ (l : List A). drop 1 l) front in
    ap (λ (a : A). a ∷ take (suc k) xs) first ∙ ap (λ (l : List A). y ∷ l) (further xs ys k (omega (arith, in_x)) (omega (arith, in_y)) rest same)

-- the same up to a place, and there
pub same_further : {A : Type 0} (xs ys : List A) (k : ℕ) → k < length xs → k < length ys → take k xs ≡ take k ys → slice_get xs k ≡ slice_get ys k → take (k + 1) xs ≡ take (k + 1) ys
same_further {A} xs ys k in_x in_y front same =
    let one : suc k ≡ k + 1 = omega arith in
    subst (λ (n : ℕ). take n xs ≡ take n ys) one (further xs ys k in_x in_y front same)
