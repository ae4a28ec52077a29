-- What the words of `run` ask for.
use Rattle.std.specs.Prelude.{ℕ, ◌≤◌, List, [], ◌∷◌, codes, bytes_eq, Option, None, option_map, if◌then◌else◌}
use Rattle.vx_words.specs.Options.{Numbered, numbers_in}
use Rattle.vx_words.specs.Words.{limit_option}
use Rattle.vx_words.specs.declared.crew.Crew.{Crew}

-- `--cpus N`: 1 to 16
abbrev pub cpus_option : Numbered
cpus_option = record { name = codes "--cpus"; least = 1; most = 16; usual = 4 }

-- `run`: 4 threads and 10,000 records, if nothing else is given

abbrev pub crew_with : ℕ × ℕ → Crew
crew_with n = record { cpus = n.0; limit = n.1 }

abbrev pub crew_in : List (List ℕ) → Option Crew
crew_in words = option_map crew_with (numbers_in cpus_option (limit_option 10000) words)

abbrev pub crew_of : List (List ℕ) → Option Crew
crew_of [] = None
crew_of (word ∷ words) = if bytes_eq word (codes "run") then crew_in words else None

-- a crew is one that may be asked for
pub record IsCrew (crew : Crew) : Type 0 where
  pub some : 1 ≤ crew.cpus
  pub few : crew.cpus ≤ 16
  pub above : 1 ≤ crew.limit
  pub within : crew.limit ≤ 100000
