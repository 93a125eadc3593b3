-- A text is unchanged when the bytes grow.
use Rattle.shared_lists.proofs.Kept.{range_kept}
use Rattle.value_backings.proofs.Prelude.{◌≡◌, ℕ, List, ◌++◌, arith, length-append, part_of, IsText, Part}

pub text_kept : (bytes rest : List ℕ) (p : Part) → IsText bytes p → (part_of (bytes ++ rest) p ≡ part_of bytes p) × IsText (bytes ++ rest) p
text_kept bytes rest p h = grind (arith, range_kept, length-append)
