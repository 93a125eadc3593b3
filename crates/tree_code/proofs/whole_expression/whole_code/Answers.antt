-- Proofs of `whole_expression::whole_code`: the result meets the contract.

use Rattle.tree_code.proofs.Prelude.{◌≡◌, ◌+◌, List, option_map, Some, ap, sym, ◌∙◌, core_view, Cores, FrameUse, address_of, code_keeping, front_of, kept_lists, kept_path_code, lists_view, nothing_kept, shorter, path_view, routines_within, texts_within, with_path}
use Rattle.tree_code.proofs.Walks.{words_keeping}
use Rattle.tree_code.proofs.Whole.{whole_keeping}
use Rattle.tree_code.proofs.whole_expression.whole_code.Goals as goal

pub returns-in-Some-clause-code : goal.returns-in-Some-clause-code
returns-in-Some-clause-code c =
    let e = core_view c.args.core.now in
    let ts = texts_within c.args.around.now in
    let rs = routines_within c.args.around.now in
    let slot = c.args.slot in
    let path = path_view c.in-Some.path in
    let front : Some path ≡ front_of e = ap (option_map path_view) (sym c.in-Some.is) ∙ c.front_of.ensures in
    let lists : lists_view c.as_slice-lists.result.now ≡ kept_lists e = ap lists_view c.as_slice-lists.ensures.value ∙ c.in_ok-kept.ensures.lists in
    let plain = c.in_ok-plain.ensures.code ∙ ap (λ (ls : List Cores). code_keeping ls e ts rs nothing_kept 0 slot) lists in
    let words = words_keeping c.in-Some.path c.as_slice-lists.result in
    let keeping =
    c.in_ok-keeping-in-Some.ensures.code
    ∙ ap (λ (ws : FrameUse). kept_path_code path (address_of ts path.field) (code_keeping (lists_view c.as_slice-lists.result.now) e ts rs ws 1 (slot + 6))) words
    ∙ ap (λ (ls : List Cores). kept_path_code path (address_of ts path.field) (code_keeping ls e ts rs (with_path path) 1 (slot + 6))) lists in
    c.shorter.ensures ∙ (λ i. shorter (plain i) (keeping i)) ∙ whole_keeping e ts rs slot path front
