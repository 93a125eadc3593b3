-- The bytes of a number are those that it was read from.
use Rattle.loader.proofs.Prelude.{◌≡◌, ◌≤◌, ℕ, List, length, take, arith, little_number, little_bytes, AreBytes}

pub number_back : (xs : List ℕ) → 4 ≤ length xs → AreBytes xs → little_bytes 4 (little_number 4 xs) ≡ take 4 xs
number_back xs h bytes = grind arith
