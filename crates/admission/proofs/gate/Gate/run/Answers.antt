-- Proofs of `gate::Gate::run`: the result meets the contract.

use Rattle.admission.proofs.Decided.{Laws, end_of, has_exited, not_exited}
use Rattle.admission.proofs.Results.{is_err}
use Rattle.admission.proofs.gate.Gate.run.Goals as goal

pub returns-in_err-has_exited : goal.returns-in_err-has_exited
returns-in_err-has_exited c =
    let laws : Laws = record { tables = c.starts_stand.ensures.tables; canonical = c.starts_stand.ensures.canonical; states = c.starts_stand.ensures.states; once = c.starts_stand.ensures.once } in
    let end = c.in_ok-end.ensures in
    rw (is_err c.from_residual-in_err-has_exited.ensures.1)
    (record {
      exits = λ d uid roots of given start. (not_exited _ d of c.args.limits laws _ given.contents _ start _ _ _ (end_of _ _ _ _ _ _ end.place end.state end.status end.held) _ c.in_err-has_exited.ensures).0;
      runs = λ d uid roots of given start. (not_exited _ d of c.args.limits laws _ given.contents _ start _ _ _ (end_of _ _ _ _ _ _ end.place end.state end.status end.held) _ c.in_err-has_exited.ensures).1;
    })

pub returns : goal.returns
returns c =
    let laws : Laws = record { tables = c.starts_stand.ensures.tables; canonical = c.starts_stand.ensures.canonical; states = c.starts_stand.ensures.states; once = c.starts_stand.ensures.once } in
    let end = c.in_ok-end.ensures in
    record {
      exits = λ d uid roots of given start. (has_exited _ d of c.args.limits laws _ given.contents _ start _ _ _ (end_of _ _ _ _ _ _ end.place end.state end.status end.held) uid given.uid_is c.in_ok-has_exited.ensures).0;
      runs = λ d uid roots of given start. (has_exited _ d of c.args.limits laws _ given.contents _ start _ _ _ (end_of _ _ _ _ _ _ end.place end.state end.status end.held) uid given.uid_is c.in_ok-has_exited.ensures).1;
    }
