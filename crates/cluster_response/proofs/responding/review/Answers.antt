-- Proof obligations of `responding::review`.
use Rattle.cluster_response.proofs.Prelude.{review_tree}
use Rattle.cluster_response.proofs.responding.review.Goals as goal

pub returns : goal.returns
unfolding review_tree
returns c = c.object.ensures _ (c.with_member.ensures _ (c.with_text-named.ensures _ (c.with_text-versioned.ensures _ c.no_members.ensures)))
