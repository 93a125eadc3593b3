-- Proof obligations of `policy::read_as`.
use Rattle.wide_policy.proofs.Wrapping.{whole_read}
use Rattle.wide_policy.proofs.policy.read_as.Goals as goal

pub returns : goal.returns
returns c = whole_read c.args.wrapped c.args.rule c.args.document.now c.in_ok-parsed.parsed c.in_ok-parsed.ensures c.translated.result c.translated.ensures
