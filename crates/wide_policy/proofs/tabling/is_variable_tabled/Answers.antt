-- Proof obligations of `tabling::is_variable_tabled`.
use Rattle.policy_glue.specs.Policy.{named_view}
use Rattle.wide_reader.specs.Tree.{view}
use Rattle.wide_policy.proofs.TablingSteps.{variable_added}
use Rattle.wide_policy.proofs.tabling.is_variable_tabled.Goals as goal

pub returns : goal.returns
returns c =
    λ v is. variable_added (named_view c.args.variable.now) v c.args.known.now c.add-added.new.self (view c.in_ok-wide.wide) _ _ _ c.as_str.ensures.value c.as_str-2.ensures.value
    c.has_narrow_ranges-found.ensures c.in_ok-added.ensures.ok c.in_ok-wide.ensures.answers is
