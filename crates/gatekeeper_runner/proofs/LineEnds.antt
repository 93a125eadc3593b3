-- Lines that are answered by texts of one definition are answered by those of a wider one.
use Rattle.gatekeeper_runner.proofs.Prelude.{ℕ, Bool, true, false, Result}
use Rattle.streams.specs.Streams.{Stream}
use Rattle.streams.specs.declared.session_error.SessionError.{SessionError}
use Rattle.line_answers.specs.Lines.{LineTexts}
use Rattle.line_answers.proofs.Meaning.{Gives, input_gives, tells_gives}
use Rattle.gatekeeper_runner.specs.Endings.{AnswersOrTells, EndsLines}

module _ (texts others : LineTexts) (gives : Gives texts others) (r r_after w w_after : Stream) where
  either_gives : (verbose : Bool) (e e_after : Stream) (result : Result Bool SessionError) → AnswersOrTells verbose texts r r_after w w_after e e_after result
      → AnswersOrTells verbose others r r_after w w_after e e_after result
  either_gives true e e_after result told = tells_gives texts others gives r r_after w w_after e e_after result told
  either_gives false e e_after result answered = (input_gives texts others gives r r_after w w_after result answered.0, answered.1)

  pub ends_gives : (verbose reports : Bool) (e e_after : Stream) (status : ℕ) → EndsLines verbose reports texts r r_after w w_after e e_after status
      → EndsLines verbose reports others r r_after w w_after e e_after status
  ends_gives verbose reports e e_after status ends = record {
    result = ends.result;
    told = ends.told;
    answers = either_gives verbose e ends.told ends.result ends.answers;
    status_is = ends.status_is;
    says = ends.says;
  }
