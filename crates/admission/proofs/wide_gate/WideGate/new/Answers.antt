-- Proofs of `wide_gate::WideGate::new`: the result meets the contract.

use Rattle.admission.proofs.Prelude.{sym, subst, OneImage, Policy}
use Rattle.admission.proofs.Results.{is_err}
use Rattle.admission.proofs.WideGates.{document_refused, gate_is, translation_refused}
use Rattle.admission.proofs.wide_gate.WideGate.new.Goals as goal

pub returns-in_err-read-clause-opens : goal.returns-in_err-read-clause-opens
returns-in_err-read-clause-opens c = rw (is_err c.from_residual.ensures.1) (document_refused _ _ _ c.in_err-read.ensures.reads)

pub returns-in_err-gate-clause-opens : goal.returns-in_err-gate-clause-opens
returns-in_err-gate-clause-opens c =
    rw (is_err c.from_residual-in_err-gate.ensures.1) (translation_refused _ _ c.in_ok-read.read c.in_ok-read.ensures.reads _ c.in_err-gate.ensures.compiles)

pub returns-clause-opens : goal.returns-clause-opens
returns-clause-opens c =
    gate_is _ _ c.in_ok-read.read c.in_ok-read.ensures.reads c.in_ok-gate.gate c.in_ok-gate.ensures.policies.0 c.in_ok-gate.ensures.policies.1 c.in_ok-gate.ensures.policies.2 c.in_ok-gate.ensures.compiles

pub returns-clause-one : goal.returns-clause-one
returns-clause-one c = subst (λ (p : Policy). OneImage p c.in_ok-gate.gate.image) (sym c.in_ok-gate.ensures.policies.1) c.in_ok-gate.ensures.one
