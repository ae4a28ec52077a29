-- The frames of a process, in the words of the machine and in those of the stack.
use Rattle.std.proofs.Common.{◌≡◌, ℕ, zero, suc, ◌+◌, List, [], ◌∷◌, ◌++◌, Some, None, drop, length, refl, ap, sym, ◌∙◌, arith}
use Rattle.std.proofs.lemmas.List.{append_assoc, append-nil, length-append}
use Rattle.vx_base.specs.Log.{Log, HasRoom, logged}
use Rattle.vx_record.specs.Types.{Frame, FrameKind, Image, Pid}
use Rattle.vx_base.specs.declared.frame.FrameKind.TheVariants as kind
use Rattle.vx_image.specs.Local.{Advanced, advanced}
use Rattle.vx_image.specs.Storage.{Storage}
use Rattle.vx_record.specs.Events.{reader}
use Rattle.vx_record.specs.Rundown.{leave_all, leave_kind}
use Rattle.vx_record.specs.State.{State}
use Rattle.vx_procs.specs.Words.{advanced_from, left, left_kind, left_top}
use Rattle.vx_base.specs.Lists.{first, rest}

-- local statements, from the top frame on
pub advanced_top : (image : Image) (p : Pid) (store : Storage) (fs : List Frame) (f : Frame) (a : Advanced) → Some f ≡ first fs → a ≡ advanced image (record { prm = f.prm; p = p }) store f.pc → a ≡ advanced_from image p store fs
advanced_top image p store [] f a top e = absurd (cc)
advanced_top image p store (g ∷ fs) f a top e = let same : f ≡ g = cc in e ∙ ap (λ h. advanced image (reader p h) store h.pc) same

-- Frames that are left, the top first.

pub below_drop : (fs : List Frame) (n : ℕ) → rest (drop n fs) ≡ drop (n + 1) fs
below_drop [] zero = refl
below_drop [] (suc n) = let e : suc n + 1 ≡ suc (suc n) = omega arith in rw e refl
below_drop (f ∷ fs) zero = refl
below_drop (f ∷ fs) (suc n) = let e : suc n + 1 ≡ suc (n + 1) = omega arith in rw e (below_drop fs n)

pub left_split : (fs : List Frame) → left fs ≡ left_top fs ++ left (rest fs)
left_split [] = refl
left_split (f ∷ fs) = refl

pub left_room : (log : Log) (fs : List Frame) → HasRoom log (length (left fs)) → HasRoom log (length (left_top fs))
left_room log fs room = omega (arith, ap length (left_split fs), length-append (left_top fs) (left (rest fs)))

pub room_below : (log : Log) (fs : List Frame) → HasRoom log (length (left fs)) → HasRoom (logged log (left_top fs)) (length (left (rest fs)))
room_below log fs room = omega (arith, ap length (left_split fs), length-append (left_top fs) (left (rest fs)), length-append log.items (left_top fs))

pub log_below : (log : Log) (fs : List Frame) → logged (logged log (left_top fs)) (left (rest fs)) ≡ logged log (left fs)
log_below log fs = ap (λ xs. record log { items = xs }) (append_assoc log.items (left_top fs) (left (rest fs)) ∙ ap (λ xs. log.items ++ xs) (sym (left_split fs)))

pub none_left : (log : Log) → logged log [] ≡ log
none_left log = ap (λ xs. record log { items = xs }) (append-nil log.items)

pub top_left : (fs : List Frame) (f : Frame) → Some f ≡ first fs → left_top fs ≡ left_kind f.kind
top_left [] f top = absurd (cc)
top_left (g ∷ fs) f top = let same : f ≡ g = cc in ap (λ h. left_kind h.kind) (sym same)

pub no_top_left : (fs : List Frame) → None ≡ first fs → left_top fs ≡ []
no_top_left [] top = refl
no_top_left (g ∷ fs) top = absurd (cc)

-- the machine's words for it

left_kind_part : (k : FrameKind) (s : State) → ((leave_kind s k).effects ≡ left_kind k) × ((leave_kind s k).after ≡ s)
left_kind_part kind.Main s = (refl, refl)
left_kind_part kind.Change s = (refl, refl)
left_kind_part (kind.Ast id) s = (refl, refl)
left_kind_part kind.Handler s = (refl, refl)

pub left_effects : (fs : List Frame) (s : State) → (leave_all fs s).effects ≡ left fs
left_effects [] s = refl
left_effects (f ∷ fs) s =
    let here = left_kind_part f.kind s in
    ap (λ xs. xs ++ (leave_all fs (leave_kind s f.kind).after).effects) here.0 ∙ ap (λ xs. left_kind f.kind ++ xs) (left_effects fs (leave_kind s f.kind).after)
