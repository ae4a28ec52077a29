-- What holds from one part of a transfer to the next.
use Rattle.std.specs.Prelude.{ℕ, ◌≤◌, List, length}
use Rattle.std.specs.List.{AllByRecursion}
use Rattle.vx_record.specs.Types.{Attention, Req, Request}
use Rattle.vx_record.specs.Sound.{AreOrdered, attention_id, request_id}
use Rattle.vx_record.specs.State.{State, IsWithin}

-- A request is one of n processes', and its status block, its buffer and its length are in their ranges.
pub record IsFit (n : ℕ) (req : Req) : Type 0 where
  pub made : IsWithin n req.p
  pub iosb : req.iosb ≤ 32
  pub buf : req.buf ≤ 31
  pub len : req.len ≤ 2048

-- Requests are fit, and the ids of requests and of attention entries rise below the next id.
pub record IsSteady (n next : ℕ) (requests : List Request) (attention : List Attention) : Type 0 where
  pub fit : AllByRecursion (λ r. IsFit n r.req) requests
  pub order : AreOrdered request_id 0 next requests
  pub entries : AreOrdered attention_id 0 next attention

abbrev pub AreSteady : State → Type 0
AreSteady s = IsSteady (length s.procs) s.next s.requests s.attention
