-- Parts of the law of flags and status blocks: what is asked of resumptions alone, and of completions at FIN alone.
use Rattle.std.specs.Prelude.{List, [], Bool, true}
use Rattle.vx_base.specs.declared.effects.Effect.TheVariants as effect
use Rattle.vx_base.specs.declared.record.Answer.TheVariants as answer
use Rattle.vx_base.specs.declared.record.Event.TheVariants as event
use Rattle.vx_record.specs.Types.{Rec}
use Rattle.vx_laws.specs.Frames.{awaited}
use Rattle.vx_laws.specs.Items.{Item, Head, Did, flat, at_each, effects_to_head}
use Rattle.vx_laws.specs.Lives.{life}
use Rattle.vx_laws.specs.StatusLaw.{completes_right, resumes_right, tells_call, to_next_fin}
use Rattle.vx_base.specs.Lists.{is_some_and}

abbrev pub is_resumption_due : List Item → Item → List Item → Bool
is_resumption_due past (Head (event.Run p) (answer.Resume cond)) rest = resumes_right past p cond (awaited past p)
is_resumption_due past x rest = true

abbrev pub is_completion_told : List Item → Item → List Item → Bool
is_completion_told past (Did (effect.Fin id c)) rest = is_some_and (λ l. tells_call past c (to_next_fin (effects_to_head rest)) l.by) (life past id)
is_completion_told past x rest = true

abbrev pub resumptions_due : List Rec → Bool
resumptions_due recs = at_each is_resumption_due [] (flat recs)

abbrev pub completions_told : List Rec → Bool
completions_told recs = at_each is_completion_told [] (flat recs)

-- all that is asked of completions
abbrev pub completes : List Rec → Bool
completes recs = at_each completes_right [] (flat recs)
