-- A run of which the tally alone is kept.
use Rattle.std.proofs.Common.{◌≡◌, ℕ, ◌≤◌, List, [], ◌∷◌, ◌++◌, Some, None, ap, subst, ◌∙◌}
use Rattle.vx_record.specs.Types.{End, Event, Rec, System}
use Rattle.vx_record.specs.Events.{enabled}
use Rattle.vx_record.specs.Runs.{IsRun, end_after, end_of, first, record_of}
use Rattle.vx_exec.specs.Picks.{moved_seed, picked_event}
use Rattle.vx_exec.specs.View.{Executive, after_step, plan}
use Rattle.vx_exec.specs.Taken.{IsChosenRun}
use Rattle.vx_exec.proofs.Runs.{Taking, chosen_run, taken_more}
use Rattle.vx_gen.specs.Counted.{tally_of}
use Rattle.vx_gen.specs.declared.tally.Tally.{Tally}
use Rattle.vx_words.specs.declared.command.Options.{Options}
use Rattle.vx_simulate.specs.Summed.{IsSummed, summary}
use Rattle.vx_simulate.specs.Summing.{Tallies}

-- the run so far, its tally, and the rest that the seed chooses
pub record Tallying (before now : Executive) (seed next : ℕ) (tally : Tally) : Type 0 where
  pub recs : List Rec
  pub taking : Taking before now seed next recs
  pub counts : tally ≡ tally_of recs

pub more_tallied : (before now later : Executive) (seed x y : ℕ) (r : Rec) (e : Event) (tally more : Tally) → Tallying before now seed x tally → None ≡ end_of now.limit now.taken now.state → Some e ≡ picked_event x (enabled now.state) → y ≡ moved_seed x (enabled now.state) → r ≡ record_of now.state e → later ≡ after_step now e → plan later ≡ plan now → ((recs : List Rec) → tally ≡ tally_of recs → more ≡ tally_of (recs ++ r ∷ [])) → Tallying before later seed y more
more_tallied before now later seed x y r e tally more so_far going picks moves is becomes planned adds = record {
  recs = so_far.recs ++ r ∷ [];
  taking = taken_more before now later seed x y so_far.recs r e so_far.taking going picks moves is becomes planned;
  counts = adds so_far.recs so_far.counts;
}

-- the run that the executive took is the one that the seed chooses, and its summary is written
pub is_summed : (system : System) (options : Options) (before closed : Executive) (tally : Tally) (e : End) (text : List ℕ) → options.limit ≤ 100000 → before ≡ record { state = first system; limit = options.limit; taken = 0 } → Tallies before closed options.seed tally e → text ≡ summary tally e → IsSummed system options e text
is_summed system options before closed tally e text within opens is spells =
    let ran : IsChosenRun system options.seed options.limit closed is.recs e = chosen_run system options.seed options.limit before closed is.recs e within opens is.ran in
    record {
      run = subst (λ rs. IsRun system rs) ran.chosen ran.run;
      ended = subst (λ rs. end_after system rs options.limit ≡ Some e) ran.chosen ran.ended;
      spells = spells ∙ (ap (λ (t : Tally). summary t e) is.counts ∙ ap (λ rs. summary (tally_of rs) e) ran.chosen);
    }
