-- Proofs of `laws::rounds_up`: the result meets the contract.
use Rattle.std.proofs.Common.{suc, ◌^◌, lit<}
use Rattle.std.proofs.Math.Nat.{one-le-pow}
use Rattle.std.proofs.lemmas.Grind.{div_ceil_times}
use Rattle.quantities.specs.Quantities.{scaled}
use Rattle.quantities.proofs.laws.rounds_up.Goals as goal

pub returns : goal.returns
unfolding scaled
returns c = λ n k. div_ceil_times n (10 ^ suc k) (one-le-pow (suc k) 10 (lit< tt))
