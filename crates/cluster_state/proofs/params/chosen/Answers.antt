-- Proofs of `params::chosen`: the result meets the contract.

use Rattle.std.specs.List.{All}
use Rattle.std.specs.Option.{option_to_list}
use Rattle.cluster_state.specs.Numbers.{IsNumbered, selected_of}
use Rattle.cluster_state.proofs.Prelude.{◌≡◌, ◌∙◌, ap, by_labels, chosen, entries_of, map, named_view, selector_view, subst, sym, view, Document}
use Rattle.cluster_state.proofs.Chosen.{of_returned, one_numbered, selected_numbered, selected_view}
use Rattle.cluster_state.proofs.params.chosen.Goals as goal

pub returns-in-Named-clause-numbered : goal.returns-in-Named-clause-numbered
returns-in-Named-clause-numbered c = λ is are.
    of_returned (λ ds. ds ≡ option_to_list c.object.result) (All (IsNumbered is)) c.one.result
    (λ ds e. subst (All (IsNumbered is)) (sym e) (one_numbered is c.object.result (c.object.ensures.numbered is are))) c.one.ensures

pub returns-in-Selected-clause-value : goal.returns-in-Selected-clause-value
returns-in-Selected-clause-value c =
    let es = entries_of c.args.named in
    let s = selector_view c.in-Selected.selector in
    rw c.in-Selected.is
    (of_returned (λ ds. ds ≡ selected_of s es) (λ ds. map (λ (d : Document). view d.value.now) ds ≡ chosen (by_labels s) (named_view es)) c.selected_in.result
    (λ ds e. ap (map (λ (d : Document). view d.value.now)) e ∙ selected_view s es) c.selected_in.ensures)

pub returns-in-Selected-clause-numbered : goal.returns-in-Selected-clause-numbered
returns-in-Selected-clause-numbered c = λ is are.
    let es = entries_of c.args.named in
    let s = selector_view c.in-Selected.selector in
    of_returned (λ ds. ds ≡ selected_of s es) (All (IsNumbered is)) c.selected_in.result
    (λ ds e. subst (All (IsNumbered is)) (sym e) (selected_numbered is s es are)) c.selected_in.ensures
