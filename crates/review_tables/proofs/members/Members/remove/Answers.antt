-- Proofs of `members::Members::remove`: the result meets the contract.

use Rattle.value_table.proofs.Prelude.{Some, ap, sym, ◌∙◌, rules, subst}
use Rattle.std.specs.List.Sorted.{IsStrictlySortedBy}
use Rattle.std.specs.Map.{keys_of}
use Rattle.review_tables.specs.Members.{key_at, str_cmp, IsHere, NoneIs}
use Rattle.review_tables.proofs.Membered.{found_value, missing, not_removed, removed_here, sorted_removed}
use Rattle.review_tables.proofs.members.Members.remove.Goals as goal

pub invariant_of-self : goal.invariant_of-self
invariant_of-self c =
    subst (λ es. IsStrictlySortedBy str_cmp (keys_of es)) (sym c.remove-value.ensures.items) (sorted_removed c.self.inside.entries.items c.in-Some.at c.self.invariant)

pub returns-in-Some-clause-value : goal.returns-in-Some-clause-value
returns-in-Some-clause-value c =
    let here : IsHere (key_at c.args.key.now) c.self.inside.entries.items c.in-Some.at = search rules in
    let found = found_value (key_at c.args.key.now) c.self.inside.entries.items c.in-Some.at c.remove-value.result here in
    rw (← c.self.view_is) (ap (λ e. Some e.1) c.remove-value.ensures.value ∙ found)

pub returns-in-Some-clause-entries : goal.returns-in-Some-clause-entries
returns-in-Some-clause-entries c =
    let here : IsHere (key_at c.args.key.now) c.self.inside.entries.items c.in-Some.at = search rules in
    rw (← c.self.view_is) (c.remove-value.ensures.items ∙ removed_here (key_at c.args.key.now) c.self.inside.entries.items c.in-Some.at here)

pub returns-in-None-clause-value : goal.returns-in-None-clause-value
returns-in-None-clause-value c =
    let none : NoneIs (key_at c.args.key.now) c.self.inside.entries.items = search rules in
    rw (← c.self.view_is) (missing (key_at c.args.key.now) c.self.inside.entries.items none)

pub returns-in-None-clause-entries : goal.returns-in-None-clause-entries
returns-in-None-clause-entries c =
    let none : NoneIs (key_at c.args.key.now) c.self.inside.entries.items = search rules in
    rw (← c.self.view_is) (not_removed (key_at c.args.key.now) c.self.inside.entries.items none)
