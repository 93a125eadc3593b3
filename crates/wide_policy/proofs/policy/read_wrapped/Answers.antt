-- Proof obligations of `policy::read_wrapped`.
use Rattle.std.proofs.Common.{Err, sym, subst}
use Rattle.wide_policy.specs.Reading.{WidePolicyReturns}
use Rattle.wide_policy.specs.declared.wide_policy_error.WidePolicyError.{WidePolicyError}
use Rattle.wide_policy.proofs.Wrapping.{either_read, refused_stays}
use Rattle.wide_policy.proofs.policy.read_wrapped.Goals as goal

pub returns-in-Ok : goal.returns-in-Ok
returns-in-Ok c = either_read c.args.rule c.args.document.now c.args.first c.in-Ok.policy c.tabled_or.result c.requires.reads c.requires.needs c.in-Ok.ensures c.tabled_or.ensures

pub returns-in-Err : goal.returns-in-Err
returns-in-Err c =
    subst (λ (e : WidePolicyError). WidePolicyReturns c.args.rule c.args.document.now (Err e)) (sym c.first_refusal.ensures)
    (refused_stays c.args.rule c.args.document.now c.args.first c.in-Err.second c.requires.reads c.requires.needs c.in-Err.ensures)
