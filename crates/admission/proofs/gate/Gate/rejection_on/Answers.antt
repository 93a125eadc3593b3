-- Proofs of `gate::Gate::rejection_on`: the result meets the contract.

use Rattle.policy_glue.specs.Rejections.{Rejection}
use Rattle.admission.proofs.Prelude.{Option, ap, Exit, Decision, exactly}
use Rattle.admission.proofs.Decided.{not_started, refused_so, said_by, said_so}
use Rattle.admission.proofs.Results.{is_err}
use Rattle.admission.proofs.gate.Gate.rejection_on.Goals as goal

pub returns-in_err-machine : goal.returns-in_err-machine
returns-in_err-machine c =
    rw (is_err c.from_residual.ensures.1)
    (record {
      says = λ d uid of given. (not_started c.args.self.now d of c.args.limits _ _ given.contents c.in_err-machine.ensures).0;
      runs = λ d uid of given. refused_so Exit Decision (exactly c.args.self.now.image) d c.args.limits _ (not_started c.args.self.now d of c.args.limits _ _ given.contents c.in_err-machine.ensures).1;
    })

pub returns-in_err-run : goal.returns-in_err-run
returns-in_err-run c =
    rw (is_err c.from_residual-in_err-run.ensures.1)
    (record {
      says = λ d uid of given. c.in_err-run.ensures.exits d uid _ of given c.in_ok-machine.ensures;
      runs = λ d uid of given. refused_so Exit Decision (exactly c.args.self.now.image) d c.args.limits c.in_err-run.field-0.0 (c.in_err-run.ensures.runs d uid _ of given c.in_ok-machine.ensures);
    })

pub returns-in_err-rejection_of_verdict-clause-says : goal.returns-in_err-rejection_of_verdict-clause-says
returns-in_err-rejection_of_verdict-clause-says c = rw (is_err c.from_residual-in_err-rejection_of_verdict.ensures.1) (λ d uid of given. tt)

pub returns-in_err-rejection_of_verdict-clause-runs : goal.returns-in_err-rejection_of_verdict-clause-runs
returns-in_err-rejection_of_verdict-clause-runs c = rw (is_err c.from_residual-in_err-rejection_of_verdict.ensures.1) (λ d uid of given. tt)

pub returns : goal.returns
returns c =
    let start = rw (← c.self.view_is) at c.in_ok-machine.ensures in
    let exits = rw (← c.self.view_is) at c.in_ok-run.ensures.exits in
    let runs = rw (← c.self.view_is) at c.in_ok-run.ensures.runs in
    let of_told = rw (rw (← c.self.view_is) at c.told.ensures) at c.in_ok-rejection_of_verdict.ensures in
    rw (← c.self.view_is)
    (record {
      says = λ d uid of given. said_so _ _ _ _ (exits d uid _ of given start)
          (λ v memory few layout. ap (λ (o : Option Rejection). said_by o uid) (of_told v memory few layout));
      runs = λ d uid of given. runs d uid _ of given start;
    })
