-- Proofs of `gate::Gate::decide`: the result meets the contract.

use Rattle.std.proofs.Common.{Global}
use Rattle.value_table.specs.declared.table.Table.{Table}
use Rattle.admission.proofs.Prelude.{String, ◌∙◌, ℕ, List, Some, Contents, Reply, Exit, Language, documents_in, exactly}
use Rattle.admission.proofs.Decided.{not_opened, refused_so}
use Rattle.admission.proofs.Results.{is_err}
use Rattle.admission.proofs.RootTables.{table_due}
use Rattle.admission.proofs.gate.Gate.decide.Goals as goal

pub returns-in_err-table : goal.returns-in_err-table
returns-in_err-table c =
    let documents = λ (language : Language) (policy : List ℕ). documents_in language policy c.args.review.now c.args.namespace c.args.params in
    rw (is_err c.from_residual.ensures.1)
    (record {
      reviews = λ language policy of. (not_opened c.args.self.now (documents language policy) of c.args.limits {S = Table × String Global} (λ r. record { values = r.0.values; charge = r.0.charge }) _ c.in_err-table.ensures.table).0;
      runs = λ language policy of. refused_so Exit Reply (exactly c.args.self.now.image) (documents language policy) c.args.limits _ (not_opened c.args.self.now (documents language policy) of c.args.limits {S = Table × String Global} (λ r. record { values = r.0.values; charge = r.0.charge }) _ c.in_err-table.ensures.table).1;
    })

pub returns-clause-reviews : goal.returns-clause-reviews
returns-clause-reviews c = λ language policy of.
    c.decide_on.ensures.reviews (documents_in language policy c.args.review.now c.args.namespace c.args.params) of
    (record {
      contents = table_due {S = Contents} (λ v. v) (Some c.args.review.now) _ _ _ c.in_ok-table.ensures.table;
      uid_is = c.as_str.ensures.value ∙ c.in_ok-table.ensures.uid;
    })

pub returns-clause-runs : goal.returns-clause-runs
returns-clause-runs c = λ language policy of.
    c.decide_on.ensures.runs (documents_in language policy c.args.review.now c.args.namespace c.args.params) of
    (record {
      contents = table_due {S = Contents} (λ v. v) (Some c.args.review.now) _ _ _ c.in_ok-table.ensures.table;
      uid_is = c.as_str.ensures.value ∙ c.in_ok-table.ensures.uid;
    })
