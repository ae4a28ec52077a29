-- What records count, plainly.
use Rattle.std.specs.Prelude.{ℕ, ◌+◌, ◌<◌, ◌^◌, List, [], ◌∷◌, Bool, true, false, length, flat_map}
use Rattle.std.specs.List.{filter}
use Rattle.vx_base.specs.declared.effects.Effect.{Effect}
use Rattle.vx_base.specs.declared.effects.Effect.TheVariants.{Open, Fin}
use Rattle.vx_base.specs.declared.effects.Opened.{Opened}
use Rattle.vx_base.specs.declared.effects.Opened.TheVariants.{Bio, Dio}
use Rattle.vx_base.specs.declared.record.Answer.{Answer}
use Rattle.vx_base.specs.declared.record.Answer.TheVariants.{Time}
use Rattle.vx_base.specs.declared.record.Event.{Event}
use Rattle.vx_base.specs.declared.record.Event.TheVariants.{Ast, Tick}
use Rattle.vx_base.specs.declared.record.Rec.{Rec}
use Rattle.vx_gen.specs.declared.tally.Tally.{Tally}

abbrev pub is_request_kind : Opened → Bool
is_request_kind Bio = true
is_request_kind Dio = true
is_request_kind _ = false

-- an OPEN of a request: BIO or DIO
abbrev pub opens_request : Effect → Bool
opens_request (Open id kind p mode n) = is_request_kind kind
opens_request _ = false

-- a FIN
abbrev pub finishes : Effect → Bool
finishes (Fin id cond) = true
finishes _ = false

abbrev pub count : {A : Type 0} → (A → Bool) → List A → ℕ
count test xs = length (filter test xs)

-- the start of an AST
abbrev pub is_ast_event : Event → Bool
is_ast_event (Ast p) = true
is_ast_event _ = false

abbrev pub starts_ast : Rec → Bool
starts_ast r = is_ast_event r.event

-- the time after a record: that of a TICK, and else as it was
abbrev pub time_told : ℕ → Event → Answer → ℕ
time_told time Tick (Time t) = t
time_told time _ _ = time

-- the time of the last TICK, if there is one
abbrev pub last_time : ℕ → List Rec → ℕ
last_time time [] = time
last_time time (r ∷ recs) = last_time (time_told time r.event r.answer) recs

abbrev pub all_effects : List Rec → List Effect
all_effects recs = flat_map (λ r. r.effects) recs

-- how many records, requests opened, requests finished and ASTs started there are; and the time of the last TICK, else 0
abbrev pub tally_of : List Rec → Tally
tally_of recs = record {
  records = length recs;
  requests = count opens_request (all_effects recs);
  finished = count finishes (all_effects recs);
  asts = count starts_ast recs;
  time = last_time 0 recs;
}

-- a tally and one record more
abbrev pub with_record : Tally → Rec → Tally
with_record t r = record {
  records = t.records + 1;
  requests = t.requests + count opens_request r.effects;
  finished = t.finished + count finishes r.effects;
  asts = t.asts + count starts_ast (r ∷ []);
  time = time_told t.time r.event r.answer;
}

-- each count is one of 32 bits
abbrev pub IsCounted : Tally → Type 0
IsCounted t = (t.records < 2 ^ 32) × (t.requests < 2 ^ 32) × (t.finished < 2 ^ 32) × (t.asts < 2 ^ 32)
