-- Proof obligations of `ResourceIndex::mark`.
use Rattle.policy_index.proofs.Prelude.{◌∙◌, None, answers, ap, btree_map_updates_text, bytes_eq, get_by_text, option_map, set, string_bytes, true, unwrap_or}
use Rattle.policy_index.proofs.Marking.{marked_at, same_text}
use Rattle.policy_index.proofs.resource_index.ResourceIndex.mark.Goals as goal

pub returns : goal.returns
unfolding answers
returns c x =
    let rows = c.args.self.now.rows in
    let others = c.args.self.now.others.items in
    let name = c.args.resource.now in
    let removed = btree_map_updates_text name rows c.remove.new.self None c.remove.ensures.updates x in
    let added = btree_map_updates_text (string_bytes c.in_ok-name.name) c.remove.new.self c.insert.new.self _
    c.in_ok-_old.ensures.updates x in
    marked_at (bytes_eq name x) name x (get_by_text rows) (get_by_text c.remove.new.self x) (get_by_text c.insert.new.self x)
    c.set_true.new.row others c.args.place (same_text name x) removed (rw c.in_ok-name.ensures.ok at added)
    (c.set_true.ensures ∙ ap (λ l. set l c.args.place true)
    (c.in_ok-row.ensures ∙ ap (λ o. unwrap_or (option_map (λ v. v.items) o) others) c.remove.ensures.value))
