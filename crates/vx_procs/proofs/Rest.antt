-- A loop that does a part: what it has done, with what is left, is the whole.
use Rattle.std.proofs.Common.{◌≡◌, [], length, length-append, ap, sym, subst, ◌∙◌, refl, arith}
use Rattle.std.proofs.lemmas.List.{append_assoc, append-nil}
use Rattle.vx_record.specs.State.{State}
use Rattle.vx_record.specs.Parts.{Outcome, Part, and_then, followed_by, nothing, part_of}
use Rattle.vx_procs.specs.Kernel.{Does, Fits, Kernel, told, with_state}

pub told_none : (k : Kernel) → k ≡ told k []
told_none k = ap (λ xs. let y : Kernel = record k { log = record k.log { items = xs } } in y) (sym (append-nil k.log.items))

-- the value after a part
abbrev pub acted : Kernel → Part → Kernel
acted k part = told (with_state k part.after) part.effects

-- what is told and left so far, with what the rest tells and leaves, is what the whole does; and there is room for the rest
pub record IsDoing (whole : Part) (first : Kernel) (rest : Part) (k : Kernel) : Type 0 where
  pub leaves : acted k rest ≡ acted first whole
  pub room : Fits k rest.effects

pub doing_begun : (whole : Part) (k : Kernel) → Fits k whole.effects → IsDoing whole k whole k
doing_begun whole k room = record { leaves = refl; room = room }

-- there is room for the beginning of the rest
pub doing_room : (whole : Part) (first k : Kernel) (rest a : Part) (f : State → Part) → rest ≡ and_then a f → IsDoing whole first rest k → Fits k a.effects
doing_room whole first k rest a f splits h = omega (arith, h.room, ap (λ (x : Part). length x.effects) splits, length-append a.effects (f a.after).effects)

-- which is done
pub doing_on : (whole : Part) (first k l : Kernel) (rest a : Part) (f : State → Part) → rest ≡ and_then a f → l ≡ acted k a → IsDoing whole first rest k → IsDoing whole first (f l.state) l
doing_on whole first k l rest a f splits there h =
    let b = f a.after in
    let here : IsDoing whole first b (acted k a) = record {
      leaves = ap (λ zs. let x : Kernel = record k { state = b.after; log = record k.log { items = zs } } in x) (append_assoc k.log.items a.effects b.effects) ∙ (ap (acted k) (sym splits) ∙ h.leaves);
      room = omega (arith, h.room, ap (λ (x : Part). length x.effects) splits, length-append a.effects b.effects, length-append k.log.items a.effects);
    } in
    subst (λ (x : Kernel). IsDoing whole first (f x.state) x) (sym there) here

-- nothing is left
pub doing_end : (whole : Part) (first k l : Kernel) (rest : Part) → rest ≡ nothing k.state → l ≡ k → IsDoing whole first rest k → l ≡ acted first whole
doing_end whole first k l rest none there h = there ∙ (told_none k ∙ (ap (acted k) (sym none) ∙ h.leaves))

-- The same of an outcome.

pub record IsAnswering {A : Type 0} (whole : Outcome A) (first : Kernel) (rest : Outcome A) (k : Kernel) : Type 0 where
  pub answers : rest.answer ≡ whole.answer
  pub doing : IsDoing (part_of whole) first (part_of rest) k

pub answering_begun : {A : Type 0} (whole : Outcome A) (k : Kernel) → Fits k whole.effects → IsAnswering whole k whole k
answering_begun whole k room = record { answers = refl; doing = doing_begun (part_of whole) k room }

pub answering_on : {A : Type 0} (whole : Outcome A) (first k l : Kernel) (rest : Outcome A) (a : Part) (f : State → Outcome A) → rest ≡ followed_by a f → l ≡ acted k a → IsAnswering whole first rest k → IsAnswering whole first (f l.state) l
answering_on whole first k l rest a f splits there h = record {
  answers = ap (λ (x : Kernel). (f x.state).answer) there ∙ (ap (λ (o : Outcome _). o.answer) (sym splits) ∙ h.answers);
  doing = doing_on (part_of whole) first k l (part_of rest) a (λ s. part_of (f s)) (ap part_of splits) there h.doing;
}

pub answering_end : {A : Type 0} (whole : Outcome A) (first k l : Kernel) (rest : Outcome A) (answer : A) → IsAnswering whole first rest k → Does rest answer k l → Does whole answer first l
answering_end whole first k l rest answer h did = record { answers = did.answers ∙ h.answers; leaves = did.leaves ∙ h.doing.leaves }

-- One part and then another.

pub room_first : (k : Kernel) (a : Part) (f : State → Part) → Fits k (and_then a f).effects → Fits k a.effects
room_first k a f room = omega (arith, room, length-append a.effects (f a.after).effects)

pub room_second : (k l : Kernel) (a : Part) (f : State → Part) → l ≡ acted k a → Fits k (and_then a f).effects → Fits l (f l.state).effects
room_second k l a f did room = subst (λ (x : Kernel). Fits x (f x.state).effects) (sym did) (omega (arith, room, length-append a.effects (f a.after).effects, length-append k.log.items a.effects))

pub acts_both : (k l n : Kernel) (a : Part) (f : State → Part) → l ≡ acted k a → n ≡ acted l (f l.state) → n ≡ acted k (and_then a f)
acts_both k l n a f did then =
    then ∙ (ap (λ (x : Kernel). acted x (f x.state)) did ∙ ap (λ zs. let x : Kernel = record k { state = (f a.after).after; log = record k.log { items = zs } } in x) (append_assoc k.log.items a.effects (f a.after).effects))
