-- Proof obligations of `evaluating::findings_on`.
use Rattle.value_table.specs.Held.{Held, held_contents}
use Rattle.admission.proofs.Decided.{not_opened}
use Rattle.admission.proofs.Results.{is_err}
use Rattle.admission.proofs.RootTables.{table_due}
use Rattle.admission.proofs.Standing.{of_one}
use Rattle.cluster_gate.proofs.Prelude.{Some, subst}
use Rattle.cluster_gate.specs.Tables.{IsTableOf}
use Rattle.cluster_gate.proofs.evaluating.findings_on.Goals as goal

pub returns-in_err-table-clause-finds : goal.returns-in_err-table-clause-finds
returns-in_err-table-clause-finds c =
    rw (is_err c.from_residual.ensures.1)
    (λ d of table.
    (not_opened c.args.gate.now d of c.args.case.now.limits {S = Held} held_contents c.in_err-table.field-0.0 (subst (IsTableOf d) c.in_err-table.was table)).0)

pub returns-clause-finds : goal.returns-clause-finds
returns-clause-finds c d of table =
    c.findings_on.ensures.finds d of
    (table_due {S = Held} held_contents (Some d.review) d.namespace d.params c.in_ok-table.table (subst (IsTableOf d) c.in_ok-table.was table))

pub returns-clause-runs : goal.returns-clause-runs
returns-clause-runs c d of image table =
    of_one d _ _ _ _ _ _ of.0 image
    (c.findings_on.ensures.runs d of
    (table_due {S = Held} held_contents (Some d.review) d.namespace d.params c.in_ok-table.table (subst (IsTableOf d) c.in_ok-table.was table)))
