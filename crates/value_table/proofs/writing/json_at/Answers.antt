-- Proofs of `writing::json_at`: the result meets the contract.

use Rattle.value_table.proofs.Prelude.{ℕ, Vec, Global, ap, ◌∙◌, value_in}
use Rattle.value_table.proofs.Printing.{written}
use Rattle.value_table.proofs.writing.json_at.Goals as goal

pub returns : goal.returns
returns c = λ vs m.
    let tokens = c.in_ok-write.ensures.tokens vs m in
    let before = c.in_ok-write.ensures.before ∙ c.new-writer.ensures.before ∙ c.in_ok-room.ensures.items in
    let out = written c.into_inner.result.items _ _ _ (value_in vs c.args.place) c.into_inner.ensures.items before tokens c.new-writer.ensures.tokens in
    ap (λ (v : Vec ℕ Global). v.items) c.in-Ok.ensures.ok ∙ out
