-- Proof obligations of `program::asked_order`.
use Rattle.gatekeeper_runner.proofs.Prelude.{is_err, no_words}
use Rattle.cli.specs.Ending.{no_memory}
use Rattle.gatekeeper_runner.proofs.Choices.{asked}
use Rattle.gatekeeper_runner.proofs.program.asked_order.Goals as goal

pub returns-in_err-words : goal.returns-in_err-words
returns-in_err-words c = rw (c.in_err-words.was, is_err c.from_residual.ensures.1) no_words

pub returns-in_err-texts : goal.returns-in_err-texts
returns-in_err-texts c = rw (c.in_ok-words.was, is_err c.from_residual-in_err-texts.ensures.1) no_memory

pub returns : goal.returns
returns c =
    rw c.in_ok-words.was
    (asked _ c.order_of.result (rw (c.as_slice.ensures.value, c.in_ok-texts.ensures, c.deref.ensures.value) at c.order_of.ensures))
