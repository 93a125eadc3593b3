-- Proofs of `found_members::FoundMembers::insert`: the result meets the contract.

use Rattle.value_table.proofs.Prelude.{ap, ◌∙◌, ◌++◌, ◌∷◌, []}
use Rattle.std.specs.BTreeMap.{insert_entry}
use Rattle.review_tables.specs.Members.{str_cmp}
use Rattle.review_tables.specs.Reading.{PlacedEntry}
use Rattle.review_tables.proofs.Inserted.{one_more}
use Rattle.review_tables.proofs.found_members.FoundMembers.insert.Goals as goal

pub returns : goal.returns
returns c =
    let found = c.self.inside.members.items in
    let member : PlacedEntry = (c.args.key, c.args.value) in
    one_more found c.push.new.self.items member (c.in_ok-push.ensures.items ∙ ap (λ ms. ms ++ member ∷ []) c.make_room.ensures)
    ∙ ap (λ f. insert_entry str_cmp f.entries c.args.key c.args.value) c.self.view_is
