-- Proofs of `writing::write`: the result meets the contract; each turn of the loop keeps the invariant.

use Rattle.value_table.proofs.Prelude.{◌≡◌, ◌++◌, add-one, sym, ap, ap₂, ◌∙◌, arith, drop_all, get_or_from_slice_get, head, parts, texts_of, values_at, value_tokens, opening, closing, row_tokens, head_keys}
use Rattle.value_store.specs.Value as kind
use Rattle.value_table.proofs.Rows.{row_step, meaning_tokens, step_tokens, end_tokens}
use Rattle.value_table.proofs.writing.+write.Goals as goal

pub loop-i-preserved : goal.loop-i-preserved
loop-i-preserved t c =
    let inv = c.loop-i.invariant in
    let names = c.names-names.result.now in
    let ps = c.parts_of-parts.result.now in
    record {
      before = c.in_ok-write.ensures.before ∙ c.in_ok-write_name.ensures.before ∙ inv.before;
      tokens = λ vs m.
          rw add-one (step_tokens _ _ _ _ _ _ _ c.in_ok-write_name.ensures.tokens (c.in_ok-write.ensures.tokens vs m) (row_step c.args.backings.now.bytes vs names ps c.loop-i.i (omega arith)) ∙ inv.tokens vs m);
    }

pub returns-clause-tokens : goal.returns-clause-tokens
returns-clause-tokens t c = λ vs m.
    let bs = c.args.backings.now in
    let names = c.names-names.result.now in
    let ps = c.parts_of-parts.result.now in
    let inv = c.loop-i.invariant.tokens vs m in
    let gone = drop_all c.loop-i.i ps (omega arith) in
    let here = rw gone at inv in
    let content = c.at-cell.result.content in
    let meant = meaning_tokens bs vs c.args.place content (c.requires.contents c.args.place c.at-cell.result c.at-cell.ensures.value) in
    let rows : row_tokens (texts_of bs.bytes names) (values_at vs ps) ≡ row_tokens (head_keys (head bs content)) (values_at vs (parts bs content)) = ap₂ row_tokens c.names-names.ensures.keys (ap (values_at vs) c.parts_of-parts.ensures) in
    let is = get_or_from_slice_get vs c.args.place _ kind.null (m c.args.place c.at-cell.result c.at-cell.ensures.value) in
    end_tokens _ _ _ _ _ _ _ here c.in_ok-close.ensures.tokens (ap value_tokens is ∙ meant ∙ ap (λ r. opening (head bs content) ++ (r ++ closing (head bs content))) (sym rows))
