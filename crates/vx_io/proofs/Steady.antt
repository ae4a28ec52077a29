-- What holds from one part of a transfer to the next: that requests are fit, and that ids rise.
use Rattle.std.proofs.Common.{◌≡◌, ℕ, ◌≤◌, length, List, Bool, Option, Some, None, option_map, refl, ap, sym, subst, arith}
use Rattle.std.specs.List.{find}
use Rattle.vx_base.specs.Lists.{less}
use Rattle.vx_record.specs.Types.{Attention, Id, Req, Request}
use Rattle.vx_record.specs.Finish.{Ending, finish, finish_found, this_request}
use Rattle.vx_record.specs.Sound.{AreOrdered, RequestStands, attention_id, ground, request_id}
use Rattle.vx_record.specs.State.{State}
use Rattle.vx_record.proofs.Cancelled.{finish_requests}
use Rattle.vx_record.proofs.Lists.{all_find, all_less, all_weaker, ordered_less}
use Rattle.vx_io.specs.Finishing.{AreRequests}
use Rattle.vx_io.specs.Steady.{AreSteady, IsFit, IsSteady}
use Rattle.vx_io.proofs.Kept.{finish_boxes, finish_kept}

pub steady_of : (s : State) → AreRequests s → AreOrdered attention_id 0 s.next s.attention → AreSteady s
steady_of s h entries = record {
  fit = all_weaker (RequestStands (ground s)) (λ r. IsFit (length s.procs) r.req) (λ r k. record { made = k.made; iosb = k.iosb; buf = k.buf; len = k.len }) s.requests h.stand;
  order = h.order;
  entries = entries;
}

-- in a state with these processes, next id, requests and entries
pub steady_in : (t : State) (n next : ℕ) (rs : List Request) (entries : List Attention) → length t.procs ≡ n → t.next ≡ next → t.requests ≡ rs → t.attention ≡ entries → IsSteady n next rs entries → AreSteady t
steady_in t n next rs entries a b c d h =
    subst (λ x. IsSteady x t.next t.requests t.attention) (sym a)
    (subst (λ x. IsSteady n x t.requests t.attention) (sym b)
    (subst (λ (x : List Request). IsSteady n next x t.attention) (sym c)
    (subst (λ (x : List Attention). IsSteady n next rs x) (sym d) h)))

pub steady_less : (s : State) (p : Request → Bool) → AreSteady s → IsSteady (length s.procs) s.next (less p s.requests) s.attention
steady_less s p h = record {
  fit = all_less (λ r. IsFit (length s.procs) r.req) p s.requests h.fit;
  order = ordered_less request_id p 0 s.next s.requests h.order;
  entries = h.entries;
}

pub finish_steady : (s : State) (r : Request) (e : Ending) → AreSteady s → AreSteady (finish s r e).after
finish_steady s r e h =
    let kept = finish_kept s r e in
    steady_in (finish s r e).after (length s.procs) s.next (less (this_request r.req.id) s.requests) s.attention kept.many kept.next (finish_requests s r e) kept.attention (steady_less s (this_request r.req.id) h)

-- the request that was found, if there is one, has finished

pub found_steady : (s : State) (o : Option Request) (e : Ending) → AreSteady s → AreSteady (finish_found s o e).after
found_steady s None e h = h
found_steady s (Some r) e h = finish_steady s r e h

pub found_many : (s : State) (o : Option Request) (e : Ending) → length (finish_found s o e).after.procs ≡ length s.procs
found_many s None e = refl
found_many s (Some r) e = (finish_kept s r e).many

pub found_boxes : (s : State) (o : Option Request) (e : Ending) → (finish_found s o e).after.boxes ≡ s.boxes
found_boxes s None e = refl
found_boxes s (Some r) e = finish_boxes s r e

-- a request that was found asks for few bytes
pub len_short : (s : State) (id : Id) (req : Req) → AreSteady s → Some req ≡ option_map (λ r. r.req) (find (this_request id) s.requests) → req.len ≤ 2048
len_short s id req h given = from (find (this_request id) s.requests) refl given
  where
    from : (o : Option Request) → find (this_request id) s.requests ≡ o → Some req ≡ option_map (λ r. r.req) o → req.len ≤ 2048
    from None found e = absurd (cc)
    from (Some r) found e =
        let fit : IsFit (length s.procs) r.req = all_find (λ (x : Request). IsFit (length s.procs) x.req) (this_request id) s.requests r h.fit found in
        let same : req ≡ r.req = cc in
        omega (arith, fit.len, ap (λ (y : Req). y.len) same)
