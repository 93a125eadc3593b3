-- Laws of quantities.
use Rattle.std.specs.Prelude.{ℕ, suc, ◌+◌, ◌*◌, ◌^◌, ◌<◌, ◌≤◌, negsuc}
use Rattle.quantities.specs.Quantities.{scaled}

-- a number times a negative power of 10 is rounded up: to less than 1 above it, and to no less
abbrev pub RoundsUp : Type 0
RoundsUp = (n k : ℕ) → (n ≤ scaled n (negsuc k) * 10 ^ suc k) × (scaled n (negsuc k) * 10 ^ suc k < n + 10 ^ suc k)
