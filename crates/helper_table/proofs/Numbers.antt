-- The number of a helper as an index into the list of helpers.
use Rattle.helper_table.proofs.Prelude.{◌≡◌, ◌-◌, ◌≤◌, ℕ, zero, suc, Some, ap, ◌∙◌, sym, arith, slice_get-get_or, slice_index_or, helpers, numbered, Helper}

pub numbered_at : (n : ℕ) (other : Helper) → 1 ≤ n → n ≤ 23 → Some (slice_index_or helpers (n - 1) other) ≡ numbered n
numbered_at zero other low high = absurd (omega arith)
numbered_at (suc m) other low high =
    let same : suc m - 1 ≡ m = omega arith in
    ap (λ k. Some (slice_index_or helpers k other)) same ∙ sym (slice_get-get_or helpers m other (omega arith))
