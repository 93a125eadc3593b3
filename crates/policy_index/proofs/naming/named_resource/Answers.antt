-- Proof obligations of `naming::named_resource`.
use Rattle.policy_index.proofs.Prelude.{arith, lit<, split_once_first, sym, take_all}
use Rattle.policy_index.proofs.naming.named_resource.Goals as goal

pub returns-in-Some : goal.returns-in-Some
returns-in-Some c =
    let split = split_once_first 47 c.args.pattern.now c.split_once.result c.split_once.ensures.cases (lit< tt) in
    let at = rw c.in-Some.is at split in
    at.1

pub returns-in-None : goal.returns-in-None
returns-in-None c =
    let split = split_once_first 47 c.args.pattern.now c.split_once.result c.split_once.ensures.cases (lit< tt) in
    let at = rw c.in-None.is at split in
    sym (take_all _ c.args.pattern.now (omega (arith, at)))
