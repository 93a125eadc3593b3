-- Proofs of `identifiers::are_pre_identifiers`: the result meets the contract.
use Rattle.std.proofs.Common.{rules, ◌==◌}
use Rattle.std.proofs.lemmas.Iterator.Search.{all_from_yields_List}
use Rattle.std.proofs.lemmas.Iterator.Splits.{YieldsList-from_slice_split}
use borrow.Author.Tests.{tests}
use Rattle.versions.specs.Identifiers.{are_pre_identifiers, is_pre_identifier}
use Rattle.versions.proofs.identifiers.are_pre_identifiers.Goals as goal

pub returns : goal.returns
unfolding are_pre_identifiers
returns c =
    all_from_yields_List is_pre_identifier _ _ _ c.all.ensures.ran
    (YieldsList-from_slice_split _ (λ b. b == 46) c.args.text.now c.split.ensures.rest c.split.ensures.done c.split.ensures.closure (λ x b q k. search (rules, tests)))
    (λ x b q k. search (rules, tests))
