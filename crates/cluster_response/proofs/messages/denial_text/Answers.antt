-- Proof obligations of `messages::denial_text`.
use Rattle.cluster_response.proofs.Prelude.{◌∙◌, IfOk-weaker, denial_text, refl}
use Rattle.cluster_response.proofs.messages.denial_text.Goals as goal

pub returns : goal.returns
unfolding denial_text
returns c =
    let policy = c.as_str.ensures.value in
    let binding = c.as_str-2.ensures.value ∙ c.in_ok-binding.ensures in
    let message = c.as_str-3.ensures.value in
    IfOk-weaker c.concat.result _ _ (λ t is. is ∙ rw (policy, binding, message) refl) c.concat.ensures.ok
