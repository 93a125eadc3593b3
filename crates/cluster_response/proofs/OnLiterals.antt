-- What rows on answers that are written out unfold.
use Rattle.std.specs.Fmt.{digits}
use Rattle.std.specs.Prelude.{⊤}
use Rattle.admission_documents.proofs.OnLiterals.{documents_on_literals}
use Rattle.verdicts.specs.Response.{review_tree}
use Rattle.cluster_plan.specs.Steps.{absent_text}
use Rattle.cluster_response.specs.Annotations.{annotation_text, failure_text, place_text, text_field}
use Rattle.cluster_response.specs.Events.{configured, warning_text}
use Rattle.cluster_response.specs.Messages.{denial_text, denied_message, forbidden_text, name_given}
use Rattle.cluster_response.specs.Response.{cluster_response}

unfoldable pub answers_on_literals : ⊤
unfolding documents_on_literals digits review_tree annotation_text failure_text place_text text_field configured warning_text denial_text denied_message forbidden_text name_given absent_text cluster_response
answers_on_literals = tt
