-- A request finishes alike whether its AST is queued last, as the machine has it, or first, as the code does.
use Rattle.std.proofs.Common.{◌≡◌, ℕ, ◌-◌, ◌%◌, List, [], ◌++◌, Bool, true, false, cond, not, ◌&&◌, ◌==◌, nat_lt, slice_set, Option, Some, None, is_some, refl, ap, sym, ◌∙◌}
use Rattle.std.specs.List.{find}
use Rattle.vx_base.proofs.Bools.{both_mapped}
use Rattle.vx_base.specs.Clusters.{cluster_number, is_association}
use Rattle.vx_record.specs.Types.{Association, Pid, Promised, Queued, Req, Request, Status}
use Rattle.vx_base.specs.declared.effects.Cell.TheVariants.{Local}
use Rattle.vx_base.specs.declared.effects.Effect.TheVariants as effect
use Rattle.vx_record.specs.State.{Process, State, IsProcess, change, process_at}
use Rattle.vx_record.specs.Parts.{Part, and_then, nothing, part_if, tells}
use Rattle.vx_record.specs.Finish.{Ending, buf_part, done_ast_part, done_flag_part, fin_part, finish, iosb_part, is_read, status_of, with_stored_bytes, with_stored_status}
use Rattle.vx_record.specs.Flags.{common_cell, flag_where_named, with_local_flag}
use Rattle.vx_record.proofs.Lists.{either}
use Rattle.vx_procs.specs.Requests.{ended, finished, request_ast}
use Rattle.vx_procs.specs.Words.{with_queued_if}
use Rattle.vx_procs.proofs.Changed.{none_changed}
use Rattle.vx_io.specs.Finishing.{finishing}
use Rattle.vx_io.proofs.Changed.{change_again, made_still}

-- the AST of p queued before a part, and after it
abbrev queued_in : Pid → Option Queued → State → State
queued_in p o s = change s p (with_queued_if o)

abbrev queued_after : Pid → Option Queued → Part → Part
queued_after p o a = record { effects = a.effects; after = queued_in p o a.after }

swapped : (s : State) (p : Pid) (o : Option Queued) (f : Process → Process) → IsProcess s p → f (with_queued_if o (process_at s p)) ≡ with_queued_if o (f (process_at s p)) → change (queued_in p o s) p f ≡ queued_in p o (change s p f)
swapped s p o f made same =
    change_again s p (with_queued_if o) f made
    ∙ (ap (λ (x : Process). let t : State = record s { procs = slice_set s.procs (p.0 - 1) x } in t) same ∙ sym (change_again s p f (with_queued_if o) made))

-- what is stored is not in the queue

bytes_apart : (o : Option Queued) (b : ℕ) (bytes : List ℕ) (pr : Process) → with_stored_bytes b bytes (with_queued_if o pr) ≡ with_queued_if o (with_stored_bytes b bytes pr)
bytes_apart None b bytes pr = refl
bytes_apart (Some q) b bytes pr = refl

status_apart : (o : Option Queued) (i : ℕ) (status : Status) (pr : Process) → with_stored_status i status (with_queued_if o pr) ≡ with_queued_if o (with_stored_status i status pr)
status_apart None i status pr = refl
status_apart (Some q) i status pr = refl

flag_apart : (o : Option Queued) (n : ℕ) (pr : Process) → with_local_flag n true (with_queued_if o pr) ≡ with_queued_if o (with_local_flag n true pr)
flag_apart None n pr = refl
flag_apart (Some q) n pr = sym (both_mapped (with_queued_if (Some q)) (nat_lt n 32) _ _)

-- each part, with the AST queued before it

buffer_swapped : (s : State) (r : Req) (e : Ending) (o : Option Queued) → IsProcess s r.p → buf_part (queued_in r.p o s) r e ≡ queued_after r.p o (buf_part s r e)
buffer_swapped s r e o made =
    elim (is_read r.func && nat_lt 0 e.0.count) as (λ b. part_if b (tells (effect.Buf r.p r.buf e.0.bytes) (change (queued_in r.p o s) r.p (with_stored_bytes r.buf e.0.bytes))) (queued_in r.p o s) ≡ queued_after r.p o (part_if b (tells (effect.Buf r.p r.buf e.0.bytes) (change s r.p (with_stored_bytes r.buf e.0.bytes))) s)) [
      | true ↦ ap (tells (effect.Buf r.p r.buf e.0.bytes)) (swapped s r.p o (with_stored_bytes r.buf e.0.bytes) made (bytes_apart o r.buf e.0.bytes (process_at s r.p)))
      | false ↦ refl
    ]

buffer_made : (s : State) (r : Req) (e : Ending) → IsProcess s r.p → IsProcess (buf_part s r e).after r.p
buffer_made s r e made =
    either (λ (a : Part). IsProcess a.after r.p) (is_read r.func && nat_lt 0 e.0.count) (tells (effect.Buf r.p r.buf e.0.bytes) (change s r.p (with_stored_bytes r.buf e.0.bytes))) (nothing s) (made_still s r.p r.p (with_stored_bytes r.buf e.0.bytes) made) made

status_swapped : (s : State) (p : Pid) (i : ℕ) (status : Status) (o : Option Queued) → IsProcess s p → iosb_part (queued_in p o s) p i status ≡ queued_after p o (iosb_part s p i status)
status_swapped s p i status o made =
    elim (not (i == 0)) as (λ b. part_if b (tells (effect.Iosb p i status.cond status.count status.info) (change (queued_in p o s) p (with_stored_status i status))) (queued_in p o s) ≡ queued_after p o (part_if b (tells (effect.Iosb p i status.cond status.count status.info) (change s p (with_stored_status i status))) s)) [
      | true ↦ ap (tells (effect.Iosb p i status.cond status.count status.info)) (swapped s p o (with_stored_status i status) made (status_apart o i status (process_at s p)))
      | false ↦ refl
    ]

status_made : (s : State) (p : Pid) (i : ℕ) (status : Status) → IsProcess s p → IsProcess (iosb_part s p i status).after p
status_made s p i status made =
    either (λ (a : Part). IsProcess a.after p) (not (i == 0)) (tells (effect.Iosb p i status.cond status.count status.info) (change s p (with_stored_status i status))) (nothing s) (made_still s p p (with_stored_status i status) made) made

flag_swapped : (s : State) (r : Req) (o : Option Queued) → IsProcess s r.p → done_flag_part (queued_in r.p o s) r ≡ queued_after r.p o (done_flag_part s r)
flag_swapped s r o made = named (nat_lt r.efn 64) (find (is_association r.p (cluster_number r.efn)) s.common.associations)
  where
    common : (a : Option Association) → flag_where_named (queued_in r.p o s) (common_cell (r.efn % 32) a) true ≡ queued_after r.p o (flag_where_named s (common_cell (r.efn % 32) a) true)
    common None = refl
    common (Some a) = refl

    named : (b : Bool) (a : Option Association) → flag_where_named (queued_in r.p o s) (cond b (Some (Local r.p r.efn)) (common_cell (r.efn % 32) a)) true ≡ queued_after r.p o (flag_where_named s (cond b (Some (Local r.p r.efn)) (common_cell (r.efn % 32) a)) true)
    named true a = ap (tells (effect.Flag (Local r.p r.efn) true)) (swapped s r.p o (with_local_flag r.efn true) made (flag_apart o r.efn (process_at s r.p)))
    named false a = common a

-- one part after another
then_swapped : (p : Pid) (o : Option Queued) (a : Part) (f : State → Part) → f (queued_in p o a.after) ≡ queued_after p o (f a.after) → and_then (queued_after p o a) f ≡ queued_after p o (and_then a f)
then_swapped p o a f e = ap (λ (x : Part). let y : Part = record { effects = a.effects ++ x.effects; after = x.after } in y) e

-- the AST at the end
ast_swapped : (a : Part) (r : Request) (o : Option Promised) → r.ast ≡ o → and_then (queued_after r.req.p (request_ast r) a) (λ t. part_if (is_some r.ast) (tells (effect.Que r.req.id) t) t) ≡ and_then a (λ d. done_ast_part d r.req r.ast)
ast_swapped a r None is = rw is (ap (λ (s : State). let y : Part = record { effects = a.effects ++ []; after = s } in y) (none_changed a.after r.req.p))
ast_swapped a r (Some x) is = rw is refl

pub finish_same : (s : State) (r : Request) (e : Ending) → IsProcess s r.req.p → finishing (finished r) e (ended s r) ≡ finish s r e
finish_same s r e made =
    let p = r.req.p in
    let o = request_ast r in
    let fin = fin_part s r.req.id e.0.cond in
    let buf : State → Part = λ t. buf_part t r.req e in
    let iosb : State → Part = λ t. iosb_part t p r.req.iosb (status_of e) in
    let flag : State → Part = λ t. done_flag_part t r.req in
    let last : State → Part = λ t. part_if (is_some r.ast) (tells (effect.Que r.req.id) t) t in
    let made_fin : IsProcess fin.after p = record { above = made.above; within = made.within } in
    let one = then_swapped p o fin buf (buffer_swapped fin.after r.req e o made_fin) in
    let made_buf = buffer_made fin.after r.req e made_fin in
    let two = then_swapped p o (and_then fin buf) iosb (status_swapped (buf fin.after).after p r.req.iosb (status_of e) o made_buf) in
    let made_iosb = status_made (buf fin.after).after p r.req.iosb (status_of e) made_buf in
    let three = then_swapped p o (and_then (and_then fin buf) iosb) flag (flag_swapped (iosb (buf fin.after).after).after r.req o made_iosb) in
    ap (λ (x : Part). and_then (and_then (and_then x iosb) flag) last) one
    ∙ (ap (λ (x : Part). and_then (and_then x flag) last) two
    ∙ (ap (λ (x : Part). and_then x last) three
    ∙ ast_swapped (and_then (and_then (and_then fin buf) iosb) flag) r r.ast refl))
