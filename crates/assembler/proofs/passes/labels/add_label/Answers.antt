-- Proof obligations of `add_label` (src/passes/labels.rt).
use Rattle.assembler.proofs.Prelude.{◌≡◌, string_bytes, sym, ◌∙◌, btree_map_updates_text, IfOk-at_ok}
use Rattle.assembler.proofs.passes.labels.add_label.Goals as goal

-- the label had no slot, and the map changes only at its name
pub returns-in_ok-insert-in-None : goal.returns-in_ok-insert-in-None
returns-in_ok-insert-in-None c =
    let key = IfOk-at_ok (λ s. string_bytes s ≡ c.in-Label.name.now) c.in_ok-key-in-None.was c.from_str.ensures.ok in
    let updated = btree_map_updates_text (string_bytes c.in_ok-key-in-None.key) c.args.labels.now c.insert.new.self _ c.in_ok-insert-in-None.ensures.updates in
    rw c.in-Label.is (sym c.slot_of.ensures ∙ c.in-None.is, λ q. rw key at updated q)
