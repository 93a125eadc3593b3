-- Proof obligations of `rows::tells_rows_stand`.
use Rattle.line_answers.proofs.Prelude.{[], ◌∷◌, refl, true}
use Rattle.std.proofs.Common.{codes}
use Rattle.std.specs.Fmt.{digits}
use Rattle.line_answers.specs.Lines.{allowing_text}
use Rattle.line_answers.specs.Rows.{row_texts}
use Rattle.line_answers.specs.Telling as telling
use Rattle.line_answers.proofs.rows.tells_rows_stand.Goals as goal

empty_first : telling.TellsEach row_texts ([] ∷ []) [] true []
empty_first = telling.more {lines = []} {text = []} {told = []} {line = []} {answer = []} {all = true} telling.none refl

pub returns : goal.returns
unfolding digits allowing_text
returns c = record {
  first = telling.more {lines = []} {text = []} {told = []} {line = codes "a"} {answer = codes "{\"refused\":\"N2\"}\n"} {all = true} telling.none refl;
  second = telling.more {lines = [] ∷ []} {text = []} {told = []} {line = codes "a"} {answer = codes "{\"refused\":\"N2\"}\n"} {all = true} empty_first refl;
}
