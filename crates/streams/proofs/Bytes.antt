-- Bytes that are written in pieces.
use Rattle.streams.proofs.Prelude.{◌≡◌, ℕ, ◌+◌, ◌-◌, List, ◌++◌, take, drop, length, Option, Some, sym, ap, ◌∙◌, append_assoc, append-nil, arith, common_steps, take-add, AddsBytes}

pub adds_none : (old : Option (List ℕ)) (bytes : List ℕ) → AddsBytes old old (take 0 bytes)
adds_none old bytes before known = grind (arith, append-nil)

-- the first i bytes, and then n of the rest
pub adds_more : (old known new : Option (List ℕ)) (bytes : List ℕ) (i n : ℕ) → AddsBytes old known (take i bytes)
    → AddsBytes known new (take n (take (length bytes - i) (drop i bytes))) → AddsBytes old new (take (i + n) bytes)
adds_more old known new bytes i n so_far more before is =
    let rest : take (length bytes - i) (drop i bytes) ≡ drop i bytes = grind (arith, common_steps) in
    more (before ++ take i bytes) (so_far before is)
    ∙ ap (λ (piece : List ℕ). Some ((before ++ take i bytes) ++ take n piece)) rest
    ∙ ap Some (append_assoc before (take i bytes) (take n (drop i bytes)) ∙ ap (λ (piece : List ℕ). before ++ piece) (sym (take-add i n bytes)))
