-- Proofs of `root_values::roots`: the result meets the contract.

use Rattle.std.proofs.Common.{Global}
use Rattle.value_table.specs.declared.table.Table.{Table}
use Rattle.admission.proofs.Prelude.{String, Some, None, option_map, Contents}
use Rattle.admission.proofs.Results.{is_err}
use Rattle.admission.proofs.RootTables.{table_due, table_refused}
use Rattle.admission.proofs.root_values.roots.Goals as goal

pub returns-in_err-table-in-Some : goal.returns-in_err-table-in-Some
returns-in_err-table-in-Some c =
    rw (c.in-Some.is, is_err c.from_residual.ensures.1)
    (table_refused {S = Table × String Global} (λ r. record { values = r.0.values; charge = r.0.charge }) (Some c.in-Some.review.now) (option_map (λ b. b.now) c.args.namespace) (option_map (λ b. b.now) c.args.params) _ c.in_err-table-in-Some.ensures.table {B = Table} (λ t. record { values = t.values; charge = t.charge }))

pub returns-in_err-table_without_review-in-None : goal.returns-in_err-table_without_review-in-None
returns-in_err-table_without_review-in-None c =
    rw (c.in-None.is, is_err c.from_residual-in_err-table_without_review-in-None.ensures.1)
    (table_refused {S = Table} (λ t. record { values = t.values; charge = t.charge }) None (option_map (λ b. b.now) c.args.namespace) (option_map (λ b. b.now) c.args.params) _ c.in_err-table_without_review-in-None.ensures {B = Table} (λ t. record { values = t.values; charge = t.charge }))

pub returns-in_ok-table-in-Some : goal.returns-in_ok-table-in-Some
returns-in_ok-table-in-Some c = rw c.in-Some.is (table_due {S = Contents} (λ v. v) (Some c.in-Some.review.now) _ _ _ c.in_ok-table-in-Some.ensures.table)

pub returns-in_ok-table_without_review-in-None : goal.returns-in_ok-table_without_review-in-None
returns-in_ok-table_without_review-in-None c = rw c.in-None.is (table_due {S = Contents} (λ v. v) None _ _ _ c.in_ok-table_without_review-in-None.ensures)
