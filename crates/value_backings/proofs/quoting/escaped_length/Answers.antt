-- Proofs of `quoting::escaped_length`: the table agrees with the definition at each of the 256 bytes, by computation.
use Rattle.value_backings.proofs.Prelude.{◌≡◌, ℕ, ◌<◌, List, true, get_or, length, refl, arith}
use Rattle.std.proofs.lemmas.Bool.{agree_below, agree_below_at, eqb-true}
use Rattle.std.proofs.Math.Dec.{eqb}
use Rattle.json.specs.Print.{escape_byte}
use Rattle.value_backings.specs.declared.quoting.TheConstants.{ESCAPED}
use Rattle.value_backings.proofs.quoting.escaped_length.Goals as goal

from_table : (table : List ℕ) (b : ℕ) → b < 256 → agree_below (λ k. eqb (get_or table k 0) (length (escape_byte k))) (λ k. true) 256 ≡ true
    → get_or table b 0 ≡ length (escape_byte b)
from_table table b lt all =
    eqb-true (get_or table b 0) (length (escape_byte b)) (agree_below_at (λ k. eqb (get_or table k 0) (length (escape_byte k))) (λ k. true) 256 b all lt)

pub returns : goal.returns
unfolding escape_byte
returns c = from_table ESCAPED c.args.byte (omega arith) refl
