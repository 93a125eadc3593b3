-- Proofs of `members::Members::get`: the result meets the contract.

use Rattle.value_table.proofs.Prelude.{Some, ap, ◌∙◌, rules}
use Rattle.review_tables.specs.Members.{key_at, IsHere, NoneIs}
use Rattle.review_tables.proofs.Membered.{found_value, missing}
use Rattle.review_tables.proofs.members.Members.get.Goals as goal

pub returns-in-Some : goal.returns-in-Some
returns-in-Some c =
    let here : IsHere (key_at c.args.key.now) c.self.inside.entries.items c.in-Some.at = search rules in
    let found = found_value (key_at c.args.key.now) c.self.inside.entries.items c.in-Some.at c.index.result.now here in
    rw (← c.self.view_is) (ap (λ e. Some e.1) c.index.ensures ∙ found)

pub returns-in-None : goal.returns-in-None
returns-in-None c =
    let none : NoneIs (key_at c.args.key.now) c.self.inside.entries.items = search rules in
    rw (← c.self.view_is) (missing (key_at c.args.key.now) c.self.inside.entries.items none)
