-- Proofs of `rejecting::rejection_of`: the result meets the contract.

use Rattle.verdicts.proofs.Prelude.{sym, option_map, IfOk-weaker, words_view, rejection_view}
use Rattle.verdicts.proofs.Told.{objected}
use Rattle.verdicts.proofs.rejecting.rejection_of.Goals as goal

pub returns : goal.returns
returns c = λ v told. IfOk-weaker c.rejection_by.result _ _ (λ said here. objected c.policy.inside.parts c.args.policy.now v (words_view c.args.verdict.now) (option_map rejection_view said) (sym c.policy.view_is) c.policy.invariant told here) c.rejection_by.ensures
