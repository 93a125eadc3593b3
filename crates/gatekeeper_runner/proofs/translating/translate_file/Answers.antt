-- Proofs of `translating::translate_file`: the result meets the contract.

use Rattle.gatekeeper_runner.proofs.Prelude.{is_err, subst, Text, unread}
use Rattle.host.specs.FileSystem.{IsReadFailure}
use Rattle.admission.specs.declared.language.Language.TheVariants.{Wide}
use Rattle.gatekeeper_runner.specs.Policies.Starting.{no_memory}
use Rattle.gatekeeper_runner.proofs.OfPolicies.Opened.{untaken_by}
use Rattle.gatekeeper_runner.proofs.Translated.{noted, written}
use Rattle.gatekeeper_runner.proofs.translating.translate_file.Goals as goal

pub returns-in_err-document-clause-translates : goal.returns-in_err-document-clause-translates
returns-in_err-document-clause-translates g c = rw (is_err c.from_residual.ensures.1)
    (unread _
    (subst (λ (name : Text). IsReadFailure (g.F.ReadableFiles.known c.args.files.now) name c.in_err-document.field-0.0) c.as_str-file.ensures.value c.in_err-document.ensures.read))

pub returns-in_err-policy-clause-translates : goal.returns-in_err-policy-clause-translates
returns-in_err-policy-clause-translates g c =
    rw (is_err c.from_residual-in_err-policy.ensures.1)
    (untaken_by _ _ _ c.in_err-policy.ensures _ _ (rw (c.as_str-file.ensures.value, ← c.as_slice.ensures.value) at c.in_ok-document.ensures.read))

pub returns-in_err-label-clause-translates : goal.returns-in_err-label-clause-translates
returns-in_err-label-clause-translates g c = rw (is_err c.from_residual-in_err-label.ensures.1) no_memory

pub returns-in_err-add_notes-clause-translates : goal.returns-in_err-add_notes-clause-translates
returns-in_err-add_notes-clause-translates g c = rw (is_err c.from_residual-in_err-add_notes.ensures.1) no_memory

pub returns-in_err-text-clause-translates : goal.returns-in_err-text-clause-translates
returns-in_err-text-clause-translates g c = rw (is_err c.from_residual-in_err-text.ensures.1) no_memory

pub returns-clause-translates : goal.returns-clause-translates
returns-clause-translates g c =
    let file = c.as_str-file.ensures.value in
    written _ _ _ c.in_ok-policy.policy _ (rw file at c.in_ok-document.ensures.read) (rw c.as_slice.ensures.value at c.in_ok-policy.ensures)
    (noted _ c.args.order.now.rule _ c.in_ok-label.label _ _ _ c.new-notes.ensures.items
    (rw (c.as_str.ensures.value, c.as_slice-3.ensures.value) at c.in_ok-add_notes.ensures)
    (rw (file, c.as_slice-2.ensures.value) at (c.in_ok-label.ensures (Wide c.args.order.now.rule))))
    c.in_ok-text.ensures
