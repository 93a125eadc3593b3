-- Proof obligations of `tabling::is_tabled`.
use Rattle.wide_reader.specs.Tree.{view}
use Rattle.wide_policy.proofs.TablingSteps.{tabled_text}
use Rattle.wide_policy.proofs.tabling.is_tabled.Goals as goal

pub returns : goal.returns
returns c = λ e is. tabled_text c.args.known.now c.args.text.now (view c.in_ok-wide.wide) e _ c.has_narrow_ranges-found.ensures c.in_ok-wide.ensures.answers is
