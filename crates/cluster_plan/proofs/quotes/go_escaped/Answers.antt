-- Proof obligations of `quotes::go_escaped`.
use Rattle.cluster_plan.proofs.Prelude.{◌∙◌, YieldsList-end, YieldsList-from_chars, ap, flat_map, go_escape, map-id, sym}
use Rattle.cluster_plan.proofs.quotes.go_escaped.Goals as goal

pub returns : goal.returns
returns c =
    let end = YieldsList-end (YieldsList-from_chars c.args.text.now c.utf8.text cc) c.loop-c.yielded _ c.loop-c.yielded_by _ _ c.in-None.is c.next.ensures.steps in
    c.loop-c.invariant ∙ ap (flat_map go_escape) (sym (map-id c.loop-c.yielded) ∙ end.0)
