-- Proofs of `found_members::FoundMembers::finish`: the result meets the contract; its calls meet their requirements.

use Rattle.std.proofs.lemmas.List.Sorted.{answers_always, ranks_by}
use Rattle.std.specs.List.Sorted.{IsStrictlySortedBy}
use Rattle.std.specs.Map.{keys_of}
use Rattle.std.specs.Ordering.{is_lt}
use Rattle.value_table.proofs.Prelude.{ap, sym, subst, ◌∙◌, []}
use Rattle.review_tables.specs.Reading.{PlacedEntry}
use Rattle.review_tables.specs.Members.{str_cmp}
use Rattle.review_tables.proofs.Inserted.{all_ascend, deduped, stable_inserted, told_of}
use Rattle.review_tables.proofs.Membered.{str_cmp_total}
use Rattle.review_tables.proofs.found_members.FoundMembers.finish.Goals as goal

pub of-requires : goal.of-requires
of-requires c =
    let sorted = c.in_ok-sort_by.ensures.sorted _ (ranks_by str_cmp_total (λ (m : PlacedEntry). m.0)) (answers_always _ _ _ (λ f a r g k. ap is_lt k.met)) in
    let left = deduped _ (λ s x k b t y z h. told_of x k y z _ _ _ _ b h.called.met h.shows.0 h.shows.1 h.leaves.0 h.leaves.1) _ c.sort_by.new.self.items c.dedup_by.new.self.items sorted c.dedup_by.ensures.filtered in
    subst (λ es. IsStrictlySortedBy str_cmp (keys_of es)) left (all_ascend c.sort_by.new.self.items)

pub returns : goal.returns
returns c =
    let sorted = c.in_ok-sort_by.ensures.sorted _ (ranks_by str_cmp_total (λ (m : PlacedEntry). m.0)) (answers_always _ _ _ (λ f a r g k. ap is_lt k.met)) in
    let stable = c.in_ok-sort_by.ensures.stable _ (ranks_by str_cmp_total (λ (m : PlacedEntry). m.0)) (answers_always _ _ _ (λ f a r g k. ap is_lt k.met)) in
    let left = deduped _ (λ s x k b t y z h. told_of x k y z _ _ _ _ b h.called.met h.shows.0 h.shows.1 h.leaves.0 h.leaves.1) _ c.sort_by.new.self.items c.dedup_by.new.self.items sorted c.dedup_by.ensures.filtered in
    c.of.ensures ∙ sym left ∙ stable_inserted [] c.self.inside.members.items c.sort_by.new.self.items stable ∙ ap (λ f. f.entries) c.self.view_is
