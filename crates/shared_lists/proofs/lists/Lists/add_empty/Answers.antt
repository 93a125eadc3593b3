-- Proofs of `lists::Lists::add_empty`: the result meets the contract.

use Rattle.std.proofs.lemmas.Result.{on_ok_weaker}
use Rattle.shared_lists.proofs.Prelude.{◌∙◌, ap, ◌++◌, ◌∷◌, []}
use Rattle.shared_lists.specs.Pool.{rows_items}
use Rattle.shared_lists.proofs.Pooled.{rows_begun}
use Rattle.shared_lists.proofs.lists.Lists.add_empty.Goals as goal

pub returns-clause-ok : goal.returns-clause-ok
returns-clause-ok c =
    on_ok_weaker c.add_row.result
    (λ e. ap (rows_items c.self.inside.pool) e ∙ rows_begun c.self.inside.pool c.self.inside.rows.value.items ∙ ap (λ ls. ls ++ [] ∷ []) c.self.view_is)
    c.add_row.ensures.ok
