-- Proof obligations of `scopes::named_kind`.
use Rattle.cluster_state.proofs.Prelude.{◌∙◌, ◌&&◌, ap, bytes_eq, codes, option_map, sym, text_of, view}
use Rattle.json_fields.specs.Fields.{field_of}
use Rattle.cluster_state.specs.Items.{group_in}
use Rattle.cluster_state.specs.Scopes.{serves_version}
use Rattle.cluster_state.proofs.Scoped.{no_kind, of_kind}
use Rattle.cluster_state.proofs.scopes.named_kind.Goals as goal

pub returns-in-None : goal.returns-in-None
returns-in-None c k =
    let spec = option_map (λ v. view v.now) c.args.spec in
    no_kind (bytes_eq c.args.group.now (group_in k.api_version)) (serves_version k (field_of (codes "versions") spec)) (field_of (codes "kind") (field_of (codes "names") spec)) k.kind
    (sym (ap text_of (c.field_of.ensures ∙ ap (field_of (codes "kind")) c.field_of-names.ensures)) ∙ sym c.in-None.ensures)

pub returns-in-Some : goal.returns-in-Some
returns-in-Some c k =
    let spec = option_map (λ v. view v.now) c.args.spec in
    let group = bytes_eq c.args.group.now (group_in k.api_version) in
    c.with_versions.ensures k
    ∙ ap (λ o. group && bytes_eq c.in-Some.kind.now k.kind && serves_version k o) c.field_of-versions.ensures
    ∙ of_kind group (serves_version k (field_of (codes "versions") spec)) (field_of (codes "kind") (field_of (codes "names") spec)) k.kind c.in-Some.kind.now
    (sym (ap text_of (c.field_of.ensures ∙ ap (field_of (codes "kind")) c.field_of-names.ensures)) ∙ sym c.in-Some.ensures)
