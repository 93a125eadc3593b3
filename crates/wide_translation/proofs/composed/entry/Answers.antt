-- Proof obligation of `composed::entry`.
use Rattle.wide_translation.proofs.PartReturns.{entry_key}
use Rattle.wide_translation.proofs.composed.entry.Goals as goal

pub returns-in-Ok : goal.returns-in-Ok
returns-in-Ok c t u h k =
    entry_key c.args.access t u c.args.key c.in-Ok.found _ c.in-Ok.is h (c.entry_of.ensures u k)
