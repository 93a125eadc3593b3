-- What rows on lists and requests that are written out unfold.
use Rattle.std.specs.Prelude.{⊤}
use Rattle.admission_match.specs.Matching.{match_answer}
use Rattle.admission_match.specs.Rules.{covers, fits, is_candidate, is_shared, may_fit}
use Rattle.cluster_state.proofs.OnLiterals.{lists_on_literals}
use Rattle.cluster_plan.specs.Steps.{absent_text, fails_closed}

unfoldable pub steps_on_literals : ⊤
unfolding lists_on_literals absent_text covers fails_closed fits is_candidate is_shared match_answer may_fit
steps_on_literals = tt
