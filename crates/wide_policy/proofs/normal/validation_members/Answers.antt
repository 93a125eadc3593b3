-- Proof obligations of `normal::validation_members`.
use Rattle.std.proofs.Common.{◌≡◌, ◌∙◌, ap, codes, IfOk, subst}
use Rattle.serde_json.specs.Data as json
use Rattle.serde_json.specs.View.{members_view}
use Rattle.json_fields.specs.Members.{changed}
use Rattle.wide_policy.specs.WideDocuments.{trimmed}
use Rattle.wide_policy.proofs.normal.validation_members.Goals as goal

pub returns : goal.returns
returns c =
    subst (λ (ms : json.Members). IfOk c.with_trimmed-3.result (λ m. members_view m.entries ≡ ms))
    (ap (changed (codes "messageExpression") trimmed) (c.in_ok-members-2.ensures
    ∙ ap (changed (codes "message") trimmed) (c.in_ok-members.ensures
    ∙ ap (changed (codes "expression") trimmed) c.validation_fields-members.ensures)))
    c.with_trimmed-3.ensures
