-- Loop invariants of the functions of the cycle `expansion` (src/expanding.rt).
use Rattle.cel_macros.proofs.Prelude.{◌≡◌, take, view, expanded, core_view, core_pair, expanded_pair}
use Rattle.std.specs.Prelude as list
use Rattle.cel_macros.proofs.expanding.+expansion.Given as goal

abbrev pub invariant-expansions-loop-item : goal.invariant-expansions-loop-item
invariant-expansions-loop-item l = list.map core_view l.out.items ≡ list.map (λ e. expanded (view e)) (take l.item-index l.items)

abbrev pub invariant-entry_expansions-loop-key : goal.invariant-entry_expansions-loop-key
invariant-entry_expansions-loop-key l = list.map core_pair l.out.items ≡ list.map expanded_pair (take l.key-index l.pairs)
