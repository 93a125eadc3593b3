-- Proof obligations of `writing::write`.
use Rattle.std.proofs.Common.{◌++◌, ◌∙◌, ℕ, List, ap}
use Rattle.cel_reader.specs.Tree.{view}
use Rattle.cel_writer.specs.Printed.{printed}
use Rattle.cel_writer.proofs.ReadBack.{checked_is, unread_is}
use Rattle.cel_writer.proofs.writing.write.Goals as goal

pub returns-in-Ok : goal.returns-in-Ok
returns-in-Ok c =
    checked_is (view c.args.e.now) c.as_str.result.now c.in-Ok.back c.checked.result (c.as_str.ensures.value ∙ c.in_ok-put.ensures ∙ ap (λ (l : List ℕ). l ++ printed (view c.args.e.now)) c.new-text.ensures.bytes)
    c.in-Ok.ensures.answers c.in-Ok.ensures.only (rw c.as_str.ensures.value c.checked.ensures)

pub returns-in-Err : goal.returns-in-Err
returns-in-Err c =
    unread_is (view c.args.e.now) c.as_str.result.now c.in-Err.error c.unread.result (c.as_str.ensures.value ∙ c.in_ok-put.ensures ∙ ap (λ (l : List ℕ). l ++ printed (view c.args.e.now)) c.new-text.ensures.bytes)
    c.in-Err.ensures.only c.unread.ensures
