-- Proof obligations of `evaluating::findings_with`.
use Rattle.std.proofs.Common.{Global, String}
use Rattle.value_store.specs.Placing.{Contents}
use Rattle.value_table.specs.declared.table.Table.{Table}
use Rattle.admission.specs.Lent.{documents_in}
use Rattle.admission.specs.declared.language.Language.{Language}
use Rattle.admission.proofs.Decided.{not_opened}
use Rattle.admission.proofs.Results.{is_err}
use Rattle.admission.proofs.RootTables.{table_due}
use Rattle.admission.proofs.Standing.{of_one}
use Rattle.cluster_gate.proofs.Prelude.{List, Some, ℕ}
use Rattle.cluster_gate.proofs.evaluating.findings_with.Goals as goal

pub returns-in_err-table-clause-finds : goal.returns-in_err-table-clause-finds
returns-in_err-table-clause-finds c =
    let documents = λ (l : Language) (policy : List ℕ). documents_in l policy c.args.case.now.review.now c.args.namespace c.args.params in
    rw (is_err c.from_residual.ensures.1)
    (λ l policy of. (not_opened c.args.gate.now (documents l policy) of c.args.case.now.limits {S = Table × String Global} (λ r. record { values = r.0.values; charge = r.0.charge }) _ c.in_err-table.ensures.table).0)

pub returns-clause-finds : goal.returns-clause-finds
returns-clause-finds c l policy of =
    c.findings_on.ensures.finds (documents_in l policy c.args.case.now.review.now c.args.namespace c.args.params) of
    (table_due {S = Contents} (λ v. v) (Some c.args.case.now.review.now) _ _ _ c.in_ok-table.ensures.table)

pub returns-clause-runs : goal.returns-clause-runs
returns-clause-runs c l policy of image =
    of_one (documents_in l policy c.args.case.now.review.now c.args.namespace c.args.params) _ _ _ _ _ _ of.0 image
    (c.findings_on.ensures.runs (documents_in l policy c.args.case.now.review.now c.args.namespace c.args.params) of
    (table_due {S = Contents} (λ v. v) (Some c.args.case.now.review.now) _ _ _ c.in_ok-table.ensures.table))
