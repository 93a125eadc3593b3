-- Proof obligations of `annotation::html_safe`.
use Rattle.cluster_response.proofs.Prelude.{◌∙◌, YieldsList-end, YieldsList-from_chars, ap, flat_map, html_escape, map-id, sym}
use Rattle.cluster_response.proofs.annotation.html_safe.Goals as goal

pub returns : goal.returns
returns c =
    let end = YieldsList-end (YieldsList-from_chars c.args.text.now c.utf8.text cc) c.loop-c.yielded _ c.loop-c.yielded_by _ _ c.in-None.is c.next.ensures.steps in
    c.loop-c.invariant ∙ ap (flat_map html_escape) (sym (map-id c.loop-c.yielded) ∙ end.0)
