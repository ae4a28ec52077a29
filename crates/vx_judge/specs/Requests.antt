-- What is kept of the calls that opened ids, in a table.
use Rattle.std.specs.Prelude.{◌≡◌, ℕ, List, Bool, false, ◌&&◌, Option, Some, None, option_map, nat_eq}
use Rattle.std.specs.HashMap.{get}
use Rattle.vx_record.specs.Types.{Id}
use Rattle.vx_record.specs.Mailboxes.{is_waiting_func}
use Rattle.vx_record.specs.Services.{number}
use Rattle.vx_laws.specs.Boxes.{is_at, asks}
use Rattle.vx_laws.specs.Items.{Item, Calling}
use Rattle.vx_laws.specs.Lives.{Life, life}
use Rattle.vx_judge.specs.declared.asked.Asked.{Asked}
use Rattle.vx_judge.specs.declared.asked.Asking.{Asking}
use Rattle.vx_judge.specs.declared.requests.Requests.{Requests}

abbrev pub asked_at : Option (List ℕ) → Option Calling → Asked
asked_at device c = record { device = device; waits = asks is_waiting_func c; len = option_map (λ k. number k.call.args.a7) c }

abbrev pub asked_by : Life → Asked
asked_by l = asked_at l.device l.by

abbrev pub asked_with : Option (List ℕ) → Option Asking → Option Asked
asked_with device None = None
asked_with device (Some a) = Some (record { device = device; waits = a.waits; len = a.len })

-- what the tables have of an id
abbrev pub asked_in : Requests → Id → Option Asked
asked_in t id = asked_with (get nat_eq t.devices id.0) (get nat_eq t.map id.0)

abbrev pub AreAsked : Requests → List Item → Type 0
AreAsked t past = (id : Id) → asked_in t id ≡ option_map asked_by (life past id)

abbrev pub asks_at : List ℕ → Option Asked → Bool
asks_at box None = false
asks_at box (Some a) = is_at box a.device && a.waits

-- it is a READ of the box, outstanding or not
abbrev pub reads_in : Requests → List ℕ → Id → Bool
reads_in t box id = asks_at box (asked_in t id)
