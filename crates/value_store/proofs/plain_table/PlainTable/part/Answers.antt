-- Proof obligations of `PlainTable::part` (src/plain_table.rt).
use Rattle.value_store.proofs.Prelude.{option_map, ap, sym, ◌∙◌, arith, view, Bor}
use Rattle.serde_json.specs.declared.value.Value as document
use Rattle.value_store.proofs.Parts.{part_within}
use Rattle.value_store.proofs.plain_table.PlainTable.part.Goals as goal

pub returns-clause-shallow : goal.returns-clause-shallow
returns-clause-shallow c =
    let tree = c.value.result.now in
    let found = sym c.part.ensures ∙ ap (option_map (λ (v : Bor document.Value). view v.now)) c.unwrap.ensures in
    omega (arith, tree.deep, (part_within c.args.i (view tree.document) (view c.unwrap.result.now) found tree.whole).shallow, c.value.ensures.shallow)
