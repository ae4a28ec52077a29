-- What the words behind the program's name ask for.
use Rattle.std.specs.Prelude.{ℕ, ◌≤◌, ◌&&◌, List, [], ◌∷◌, codes, bytes_eq, Option, None, Some, option_map, if◌then◌else◌}
use Rattle.std.specs.Option.{option_or}
use Rattle.vx_words.specs.Options.{Numbered, number_in, numbers_in}
use Rattle.vx_words.specs.Places.{places_in}
use Rattle.vx_words.specs.declared.command.Command.{Command}
use Rattle.vx_words.specs.declared.command.Command.TheVariants.{Sim, Follow, Explore, Show, Check}
use Rattle.vx_words.specs.declared.command.Options.{Options}
use Rattle.vx_words.specs.declared.command.Report.{Report}
use Rattle.vx_words.specs.declared.command.Report.TheVariants.{Line, Picture, Columns}
use Rattle.vx_words.specs.declared.picks.Picks.{Picks}
use Rattle.vx_words.specs.declared.scope.Scope.{Scope}

-- `--limit N`: 1 to 100,000 records
abbrev pub limit_option : ℕ → Numbered
limit_option usual = record { name = codes "--limit"; least = 1; most = 100000; usual = usual }

-- `--seed K`: 0 to 18446744073709551615
abbrev pub seed_option : Numbered
seed_option = record { name = codes "--seed"; least = 0; most = 18446744073709551615; usual = 0 }

-- `sim`: seed 0 and 10,000 records, if nothing else is given

abbrev pub options_of : ℕ × ℕ → Options
options_of n = record { seed = n.0; limit = n.1 }

abbrev pub options_in : List (List ℕ) → Option Options
options_in words = option_map options_of (numbers_in seed_option (limit_option 10000) words)

-- `--picks LIST`, alone or with `--limit N` before it or behind it.

-- N is 1 to 100,000
abbrev pub limit_in : List ℕ → Option ℕ
limit_in word = number_in 1 100000 word

-- both are read
abbrev pub picks_of : List ℕ → Option ℕ → Option Picks
picks_of list None = None
picks_of list (Some n) = option_map (λ places. record { places = places; limit = n }) (places_in list)

abbrev pub picks_in : List (List ℕ) → Option Picks
picks_in (a ∷ b ∷ []) = if bytes_eq a (codes "--picks") then picks_of b (Some 10000) else None
picks_in (a ∷ b ∷ c ∷ d ∷ []) =
    if bytes_eq a (codes "--picks") && bytes_eq c (codes "--limit") then picks_of b (limit_in d) else (
    if bytes_eq a (codes "--limit") && bytes_eq c (codes "--picks") then picks_of d (limit_in b) else None)
picks_in _ = None

-- `--states M`: 1 to 10,000,000
abbrev pub states_option : Numbered
states_option = record { name = codes "--states"; least = 1; most = 10000000; usual = 100000 }

-- `explore`: 30 records and 100,000 states, if nothing else is given

abbrev pub scope_of : ℕ × ℕ → Scope
scope_of n = record { limit = n.0; states = n.1 }

abbrev pub scope_in : List (List ℕ) → Option Scope
scope_in words = option_map scope_of (numbers_in (limit_option 30) states_option words)

-- a scope is one that may be asked for
pub record IsScope (scope : Scope) : Type 0 where
  pub above : 1 ≤ scope.limit
  pub within : scope.limit ≤ 100000
  pub some : 1 ≤ scope.states
  pub few : scope.states ≤ 10000000

-- a limit is one that a run may have
abbrev pub HasLimit : Command → Type 0
HasLimit (Sim options) = (1 ≤ options.limit) × (options.limit ≤ 100000)
HasLimit (Follow picks) = (1 ≤ picks.limit) × (picks.limit ≤ 100000)
HasLimit (Explore scope) = IsScope scope
HasLimit Show = Unit {0}
HasLimit (Check report) = Unit {0}

-- `sim` with a seed, or with places
abbrev pub sim_in : List (List ℕ) → Option Command
sim_in words = option_or (option_map Sim (options_in words)) (option_map Follow (picks_in words))

-- a command's word alone
abbrev pub alone : Command → List (List ℕ) → Option Command
alone command [] = Some command
alone command (word ∷ words) = None

-- `draw`, or `draw --text`
abbrev pub report_in : List (List ℕ) → Option Report
report_in [] = Some Picture
report_in (word ∷ []) = if bytes_eq word (codes "--text") then Some Columns else None
report_in (a ∷ b ∷ words) = None

-- `show`, or `check`, or `draw` in one of its forms, or `explore` with its options
abbrev pub other_command : List ℕ → List (List ℕ) → Option Command
other_command word words =
    if bytes_eq word (codes "show") then alone Show words else (
    if bytes_eq word (codes "check") then alone (Check Line) words else (
    if bytes_eq word (codes "draw") then option_map Check (report_in words) else (
    if bytes_eq word (codes "explore") then option_map Explore (scope_in words) else None)))

-- the commands that read: `sim` and its options, or another
abbrev pub command_of : List (List ℕ) → Option Command
command_of [] = None
command_of (word ∷ words) = if bytes_eq word (codes "sim") then sim_in words else other_command word words

-- `gen N`: N is 1 to 200

abbrev pub size_in : List ℕ → Option ℕ
size_in word = number_in 1 200 word

abbrev pub size_of : List (List ℕ) → Option ℕ
size_of (word ∷ number ∷ []) = if bytes_eq word (codes "gen") then size_in number else None
size_of _ = None
