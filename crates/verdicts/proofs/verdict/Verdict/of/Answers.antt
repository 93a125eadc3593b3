-- Proofs of `verdict::Verdict::of`: the result meets the contract.

use Rattle.verdicts.proofs.Prelude.{◌≡◌, ◌≤◌, ◌∙◌, ap, length, rules, subst, sym, vec_len, length-map, words_view, validation_view}
use Rattle.verdicts.proofs.Told.{layout_told}
use Rattle.verdicts.proofs.verdict.Verdict.of.Goals as goal

pub returns-clause-told : goal.returns-clause-told
returns-clause-told g c = λ v is within layout.
    let held : vec_len c.policy.inside.parts.validations ≡ length c.policy.inside.parts.validations.items = search rules in
    let same : c.len.result ≡ length c.args.policy.now.validations =
    c.len.ensures ∙ held ∙ sym (length-map c.policy.inside.parts.validations.items validation_view) ∙ ap (λ p. length p.validations) c.policy.view_is in
    layout_told c.args.policy.now.failure_policy v (g.V.ValueStore.values c.args.values.now) (g.M.Regions.bytes c.args.memory.now) c.len.result is
    (subst (λ n. length v.findings ≤ n) (sym same) within) layout (words_view c.read.result) c.read.ensures
