-- Proofs of `code::folds::fold`: the result meets the contract.

use Rattle.tree_code.proofs.Prelude.{◌≡◌, ℕ, ◌+◌, List, [], ◌∷◌, ◌++◌, ap, ◌∙◌, arith, append_assoc, Insn, R0, store, fold_code, loop_code, range_tail, size, loop_size}
use Rattle.tree_code.proofs.code.folds.fold.Goals as goal

-- the parts of a fold, joined from left to right
joined : (k n : ℕ) (range : List Insn) (first : Insn) (turn : List Insn) → size (first ∷ []) ≡ 1 → n ≡ size turn + 17
    → (((range ++ range_tail k n) ++ first ∷ []) ++ store (k + 3) R0 ∷ []) ++ loop_code k turn ≡ fold_code k range (first ∷ []) turn
joined k n range first turn one is =
    let whole = loop_size k turn in
    let behind : n ≡ size (first ∷ []) + size (loop_code k turn) + 4 = omega (arith, one, is, whole) in
    simp (append_assoc, behind)

pub returns : goal.returns
returns c =
    let sizes = ap size (c.deref-2.ensures.value ∙ c.in_ok-turn.ensures.code) in
    rw (c.in_ok-extend_from_slice-2.ensures.items, c.in_ok-push-2.ensures.items, c.in_ok-push.ensures.items, c.in_ok-extend_from_slice.ensures.items, c.in_ok-code.ensures.items_if_clones_equal (λ x y e. e), c.deref-3.ensures.value, c.in_ok-turns.ensures, c.deref.ensures.value, c.in_ok-turn.ensures.code, c.range_tail.ensures, c.store.ensures)
    (joined c.args.k _ c.args.range.now c.args.first (c.args.part.now ++ c.args.tail.now) c.requires.first (omega (arith, c.size-behind.ensures)))
