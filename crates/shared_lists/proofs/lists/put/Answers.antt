-- Proofs of `lists::put`: the result meets the contract.

use Rattle.shared_lists.proofs.Prelude.{◌≡◌, ◌++◌, ◌∷◌, [], ◌∙◌, ap, ap₂, length, rules}
use Rattle.shared_lists.specs.Pool.{rows_items}
use Rattle.shared_lists.specs.declared.row.Row.TheVariants as row
use Rattle.shared_lists.proofs.Pooled.{rows_put}
use Rattle.shared_lists.proofs.lists.put.Goals as goal

pub returns-clause-ok : goal.returns-clause-ok
returns-clause-ok c =
    let pool = c.args.pool.now in
    let more = c.args.items.now in
    let rows = c.args.rows.now.value.items in
    let items : c.fill.new.items.items ≡ pool ++ more = c.fill.ensures ∙ ap (λ xs. xs ++ more) c.in_ok-room.ensures.items in
    let all : c.add_row.new.rows.value.items ≡ rows ++ row.Pooled (length pool) (length more) ∷ [] = search rules in
    ap₂ rows_items items all ∙ rows_put pool more rows c.requires
