-- Proof obligations of `responding::undecided_value`.
use Rattle.cluster_response.proofs.Prelude.{refl}
use Rattle.cluster_response.proofs.responding.undecided_value.Goals as goal

pub returns : goal.returns
returns c =
    rw (c.as_str.ensures.value, c.code.ensures) at
    (c.object.ensures _ (c.with_text.ensures _ (c.with_text-refused.ensures _ (c.with_text-named.ensures _ c.no_members.ensures))))
