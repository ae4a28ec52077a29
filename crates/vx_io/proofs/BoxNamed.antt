-- A mailbox of a name is found, or made.
use Rattle.std.proofs.Common.{◌≡◌, ℕ, List, Option, Some, None, Result, ap, subst, sym, ◌∙◌}
use Rattle.vx_record.specs.Types.{BoxNo, Cond, Effect, Mailbox, Mode, Pid}
use Rattle.vx_base.specs.declared.request.Device.TheVariants as device
use Rattle.vx_record.specs.Channels.{assign_at, create_box, find_or_create, free_channel_of}
use Rattle.vx_procs.specs.Kernel.{Does, DoesQuietly, Kernel, told, with_state}
use Rattle.vx_procs.proofs.Rest.{told_none}

pub found_box : (k l : Kernel) (p : Pid) (mode : Mode) (box : Mailbox) (b : BoxNo) (o : Option ℕ) (answer : Result ℕ Cond) → Some b.0 ≡ o → DoesQuietly (assign_at k.state p (device.Mailbox b) mode (free_channel_of k.state p)) answer k l → Does (find_or_create k.state p mode box o) answer k l
found_box k l p mode box b o answer named did =
    let t = with_state k (assign_at k.state p (device.Mailbox b) mode (free_channel_of k.state p)).after in
    subst (λ (x : Option ℕ). Does (find_or_create k.state p mode box x) answer k l) named (record { answers = did.answers; leaves = did.leaves ∙ (told_none t ∙ ap (λ (es : List Effect). told t es) (sym did.quiet)) })

pub made_box : (k l : Kernel) (p : Pid) (mode : Mode) (box : Mailbox) (o : Option ℕ) (answer : Result ℕ Cond) → None ≡ o → Does (create_box k.state p mode box) answer k l → Does (find_or_create k.state p mode box o) answer k l
made_box k l p mode box o answer none did = subst (λ (x : Option ℕ). Does (find_or_create k.state p mode box x) answer k l) none did
