-- Proofs of `gate::Gate::decide_on`: the result meets the contract.

use Rattle.admission.proofs.Prelude.{Reply, Exit, exactly}
use Rattle.admission.proofs.Decided.{answered, not_started, refused_so}
use Rattle.admission.proofs.Results.{is_err}
use Rattle.admission.proofs.gate.Gate.decide_on.Goals as goal

pub returns-in_err-machine : goal.returns-in_err-machine
returns-in_err-machine c =
    rw (is_err c.from_residual.ensures.1)
    (record {
      reviews = λ d of given. (not_started c.args.self.now d of c.args.limits _ _ given.contents c.in_err-machine.ensures).0;
      runs = λ d of given. refused_so Exit Reply (exactly c.args.self.now.image) d c.args.limits _ (not_started c.args.self.now d of c.args.limits _ _ given.contents c.in_err-machine.ensures).1;
    })

pub returns-in_err-run : goal.returns-in_err-run
returns-in_err-run c =
    rw (is_err c.from_residual-in_err-run.ensures.1)
    (record {
      reviews = λ d of given. c.in_err-run.ensures.exits d c.args.uid.now _ of given c.in_ok-machine.ensures;
      runs = λ d of given. refused_so Exit Reply (exactly c.args.self.now.image) d c.args.limits c.in_err-run.field-0.0 (c.in_err-run.ensures.runs d c.args.uid.now _ of given c.in_ok-machine.ensures);
    })

pub returns-in_err-reply-clause-reviews : goal.returns-in_err-reply-clause-reviews
returns-in_err-reply-clause-reviews c = rw (is_err c.from_residual-in_err-reply.ensures.1) (λ d of given. tt)

pub returns-in_err-reply-clause-runs : goal.returns-in_err-reply-clause-runs
returns-in_err-reply-clause-runs c = rw (is_err c.from_residual-in_err-reply.ensures.1) (λ d of given. tt)

pub returns : goal.returns
returns c =
    let start = rw (← c.self.view_is) at c.in_ok-machine.ensures in
    let exits = rw (← c.self.view_is) at c.in_ok-run.ensures.exits in
    let runs = rw (← c.self.view_is) at c.in_ok-run.ensures.runs in
    let of_told = rw (rw (← c.self.view_is) at c.told.ensures) at c.in_ok-reply.ensures in
    rw (← c.self.view_is)
    (record {
      reviews = λ d of given. answered _ _ _ _ (exits d c.args.uid.now _ of given start) of_told;
      runs = λ d of given. runs d c.args.uid.now _ of given start;
    })
