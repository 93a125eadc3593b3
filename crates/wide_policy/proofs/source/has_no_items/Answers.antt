-- Proof obligations of `source::has_no_items`.
use Rattle.std.proofs.Common.{arith, sym}
use Rattle.wide_policy.proofs.NoItems.{some_items}
use Rattle.wide_policy.proofs.source.has_no_items.Goals as goal

pub returns-in-len1-up : goal.returns-in-len1-up
returns-in-len1-up c = sym (some_items c.args.items.now (omega arith))
