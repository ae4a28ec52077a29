-- Mailboxes as a number.
use Rattle.std.specs.Prelude.{ℕ, List, [], ◌∷◌, Option}
use Rattle.vx_record.specs.Types.{Mailbox, Msg}
use Rattle.vx_record.specs.Mailboxes.{or_no_box}
use Rattle.vx_same.specs.Mix.{mix}

-- a digest with the id and the writer of each message
abbrev pub mix_messages : ℕ → List Msg → ℕ
mix_messages digest [] = digest
mix_messages digest (m ∷ ms) = mix_messages (mix (mix digest m.id.0) m.writer.0) ms

-- a digest with what each mailbox stores
abbrev pub mix_boxes : ℕ → List (Option Mailbox) → ℕ
mix_boxes digest [] = digest
mix_boxes digest (box ∷ boxes) = mix_boxes (mix_messages digest (or_no_box box).messages) boxes
