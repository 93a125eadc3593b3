-- Proof obligations of `gate::Gate::findings_on`.
use Rattle.policy_glue.specs.Findings.{PolicyFinding}
use Rattle.admission.proofs.Prelude.{List, refl, Exit, exactly, uid_in}
use Rattle.admission.proofs.Decided.{found_so, not_started, refused_so}
use Rattle.admission.proofs.Results.{is_err}
use Rattle.admission.proofs.gate.Gate.findings_on.Goals as goal

pub returns-in_err-machine : goal.returns-in_err-machine
returns-in_err-machine c =
    rw (is_err c.from_residual.ensures.1)
    (record {
      finds = λ d of given. (not_started c.args.self.now d of c.args.limits _ _ given c.in_err-machine.ensures).0;
      runs = λ d of given. refused_so Exit (List PolicyFinding) (exactly c.args.self.now.image) d c.args.limits _ (not_started c.args.self.now d of c.args.limits _ _ given c.in_err-machine.ensures).1;
    })

pub returns-in_err-run : goal.returns-in_err-run
returns-in_err-run c =
    rw (is_err c.from_residual-in_err-run.ensures.1)
    (record {
      finds = λ d of given. c.in_err-run.ensures.exits d (uid_in d.review) _ of (record { contents = given; uid_is = refl }) c.in_ok-machine.ensures;
      runs = λ d of given. refused_so Exit (List PolicyFinding) (exactly c.args.self.now.image) d c.args.limits c.in_err-run.field-0.0
          (c.in_err-run.ensures.runs d (uid_in d.review) _ of (record { contents = given; uid_is = refl }) c.in_ok-machine.ensures);
    })

pub returns-in_err-findings_of_verdict-clause-finds : goal.returns-in_err-findings_of_verdict-clause-finds
returns-in_err-findings_of_verdict-clause-finds c = rw (is_err c.from_residual-in_err-findings_of_verdict.ensures.1) (λ d of given. tt)

pub returns-in_err-findings_of_verdict-clause-runs : goal.returns-in_err-findings_of_verdict-clause-runs
returns-in_err-findings_of_verdict-clause-runs c = rw (is_err c.from_residual-in_err-findings_of_verdict.ensures.1) (λ d of given. tt)

pub returns : goal.returns
returns c =
    let start = rw (← c.self.view_is) at c.in_ok-machine.ensures in
    let exits = rw (← c.self.view_is) at c.in_ok-run.ensures.exits in
    let runs = rw (← c.self.view_is) at c.in_ok-run.ensures.runs in
    let of_told = rw (rw (← c.self.view_is) at c.told.ensures) at c.in_ok-findings_of_verdict.ensures in
    rw (← c.self.view_is)
    (record {
      finds = λ d of given. found_so _ _ _ _ (exits d (uid_in d.review) _ of (record { contents = given; uid_is = refl }) start) of_told;
      runs = λ d of given. runs d (uid_in d.review) _ of (record { contents = given; uid_is = refl }) start;
    })
