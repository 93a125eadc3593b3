-- Proofs of `lists::extend_in`: the result meets the contract.

use Rattle.std.proofs.lemmas.Result.{on_ok_weaker}
use Rattle.shared_lists.proofs.Prelude.{sym}
use Rattle.shared_lists.proofs.Pooled.{rows_extended}
use Rattle.shared_lists.proofs.lists.extend_in.Goals as goal

pub returns-clause-ok : goal.returns-clause-ok
returns-clause-ok c =
    on_ok_weaker c.extend.result
    (λ e. rows_extended c.args.pool.now c.args.rows.now.items c.args.place c.index_mut.result.now c.extend.new.row c.args.items.now c.requires.inside
    (sym c.index_mut.ensures.value) e)
    c.extend.ensures.ok
