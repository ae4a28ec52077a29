-- The flags of one cluster change, and those of others stay.
use Rattle.std.proofs.Common.{◌≡◌, ℕ, Bool, true, false, cond, not, ◌&&◌, ◌==◌, nat_lt, bytes_eq, List, [], ◌∷◌, Option, Some, None, refl, ap, sym, ◌∙◌, eq-eqb}
use Rattle.std.proofs.lemmas.Bool.{and_parts, eqb-true}
use Rattle.std.proofs.lemmas.Slice.Eq.{bytes_eq-Decides}
use Rattle.std.specs.List.{filter, find}
use Rattle.vx_record.proofs.SoundFlags.{both_names}
use Rattle.vx_base.specs.Flags.{with_flag}
use Rattle.vx_base.specs.Lists.{less}
use Rattle.vx_record.specs.Types.{Cell}
use Rattle.vx_base.specs.declared.effects.Cell.TheVariants.{Local, Common}
use Rattle.vx_base.specs.declared.effects.Effect.TheVariants as effect
use Rattle.vx_record.specs.Flags.{place_in}
use Rattle.vx_laws.specs.Items.{Item, Did, agree}
use Rattle.vx_laws.specs.Values.{flags_by, is_beside, is_of_cluster}
use Rattle.vx_judge.specs.Cells.{AreCells, is_word_of, word_found, word_in}
use Rattle.vx_judge.specs.Words.{IsWord, clear_word}
use Rattle.vx_judge.specs.declared.cells.Cells.{Cells}
use Rattle.vx_judge.specs.declared.common_word.CommonWord.{CommonWord}
use Rattle.vx_judge.specs.declared.word.Word.{Word}
use Rattle.vx_judge.proofs.OpenIds.{by_cases}
use Rattle.vx_laws.proofs.Stands.{agreed}
use Rattle.vx_laws.proofs.Common.{find_other}

-- it is not of another cluster
other_cluster : (g h : ℕ) (a b : List ℕ) (x : CommonWord) → is_word_of g a x ≡ true → ((g == h) && bytes_eq a b) ≡ false → is_word_of h b x ≡ false
other_cluster g h a b x is apart = let both = both_names x.group g x.name a is in rw (both.0, both.1) apart

put_where : (new : CommonWord) (b : Bool) (h : ℕ) (name : List ℕ) (xs : List CommonWord) → ((new.group == h) && bytes_eq new.name name) ≡ b →
    word_found (find (is_word_of h name) (new ∷ less (is_word_of new.group new.name) xs)) ≡ cond b new.word (word_found (find (is_word_of h name) xs))
put_where new true h name xs e = rw e refl
put_where new false h name xs e = rw e (ap word_found (find_other (is_word_of new.group new.name) (is_word_of h name) xs (λ x is. other_cluster new.group h new.name name x is e)))

pub common_put : (old new : Cells) (n : ℕ) (x : CommonWord) → new.lower ≡ old.lower → new.upper ≡ old.upper → new.common.items ≡ x ∷ less (is_word_of x.group x.name) old.common.items →
    (c : Cell) → word_in new c ≡ cond (is_beside (Common x.group x.name n) c) x.word (word_in old c)
common_put old new n x l u e (Local p m) = rw (l, u) refl
common_put old new n x l u e (Common h name m) = rw e (put_where x ((x.group == h) && bytes_eq x.name name) h name old.common.items refl)

none_where : {A : Type 0} (P : A → Bool) (b : Bool) (x : A) (l : List A) → P x ≡ b → find P l ≡ None → find P (cond (not b) (x ∷ l) l) ≡ None
none_where P true x l e h = h
none_where P false x l e h = rw e h

-- if all that pass went, none is found
none_found : {A : Type 0} (P : A → Bool) (xs : List A) → find P (filter (λ x. not (P x)) xs) ≡ None
none_found P [] = refl
none_found P (x ∷ xs) = none_where P (P x) x (filter (λ y. not (P y)) xs) refl (none_found P xs)

other_where : {A : Type 0} (P : A → Bool) (b : Bool) (x : A) (l : List A) (r : Option A) → (b ≡ true → P x ≡ false) → find P l ≡ r → find P (cond (not b) (x ∷ l) l) ≡ cond (P x) (Some x) r
other_where P true x l r apart h = h ∙ sym (rw (apart refl) refl)
other_where P false x l r apart h = ap (λ (o : Option _). cond (P x) (Some x) o) h

other_found : {A : Type 0} (P s : A → Bool) → ((x : A) → s x ≡ true → P x ≡ false) → (xs : List A) → find P (filter (λ x. not (s x)) xs) ≡ find P xs
other_found P s apart [] = refl
other_found P s apart (x ∷ xs) = other_where P (s x) x (filter (λ y. not (s y)) xs) (find P xs) (apart x) (other_found P s apart xs)

gone_where : (g h : ℕ) (a b : List ℕ) (xs : List CommonWord) →
    word_found (find (is_word_of h b) (filter (λ x. not (is_word_of g a x)) xs)) ≡ cond ((h == g) && bytes_eq b a) clear_word (word_found (find (is_word_of h b) xs))
gone_where g h a b xs = by_cases ((h == g) && bytes_eq b a)
    (λ e. let both = both_names h g b a e in rw (e, both.0, both.1) (ap word_found (none_found (is_word_of g a) xs)))
    (λ e. rw e (ap word_found (other_found (is_word_of h b) (is_word_of g a) (λ x is. by_cases (is_word_of h b x)
    (λ k.
    let mine = both_names x.group g x.name a is in
    let other = both_names x.group h x.name b k in
    let group : (h == g) ≡ true = eq-eqb h g (sym other.0 ∙ mine.0) in
    let name : bytes_eq b a ≡ true = (bytes_eq-Decides b a).1 (sym other.1 ∙ mine.1) in
    absurd (let never : true ≡ false = sym (rw (group, name) refl) ∙ e in cc))
    (λ k. k)) xs)))

pub common_gone : (old new : Cells) (g : ℕ) (a : List ℕ) → new.lower ≡ old.lower → new.upper ≡ old.upper → new.common.items ≡ filter (λ x. not (is_word_of g a x)) old.common.items →
    (c : Cell) → word_in new c ≡ cond (is_of_cluster g a c) clear_word (word_in old c)
common_gone old new g a l u e (Local p m) = rw (l, u) refl
common_gone old new g a l u e (Common h name m) = rw e (gone_where g h a name old.common.items)

beside_same : (t : Cells) (d c : Cell) → is_beside d c ≡ true → word_in t d ≡ word_in t c
beside_same t (Local p m) (Local q n) e =
    let both = and_parts (p.0 == q.0) (agree (nat_lt m 32) (nat_lt n 32)) e in
    rw (eqb-true p.0 q.0 both.0, agreed (nat_lt m 32) (nat_lt n 32) both.1) refl
beside_same t (Common g a m) (Common h b n) e = let both = both_names g h a b e in rw (both.0, both.1) refl
beside_same t (Local p m) (Common h b n) e = absurd (let never : false ≡ true = e in cc)
beside_same t (Common g a m) (Local q n) e = absurd (let never : false ≡ true = e in cc)

-- a flag is set or cleared
pub flag_on : (old new : Cells) (d : Cell) (on : Bool) (w : Word) (past : List Item) → ((flags : ℕ) → IsWord (word_in old d) flags → IsWord w (with_flag flags (place_in d) on)) →
    ((c : Cell) → word_in new c ≡ cond (is_beside d c) w (word_in old c)) → AreCells old past → AreCells new (Did (effect.Flag d on) ∷ past)
flag_on old new d on w past makes set are = λ c. by_cases (is_beside d c)
    (λ e. rw (set c, e) (makes (flags_by past c) (rw (beside_same old d c e) (are c))))
    (λ e. rw (set c, e) (are c))

-- a common cluster is new or gone
pub cluster_on : (old new : Cells) (g : ℕ) (a : List ℕ) (on : Bool) (past : List Item) →
    ((c : Cell) → word_in new c ≡ cond (is_of_cluster g a c) clear_word (word_in old c)) → AreCells old past → AreCells new (Did (effect.Cef g a on) ∷ past)
cluster_on old new g a on past gone are = λ c. by_cases (is_of_cluster g a c)
    (λ e. rw (gone c, e) ((λ i k. refl), refl))
    (λ e. rw (gone c, e) (are c))
