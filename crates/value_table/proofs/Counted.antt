-- A cell whose count is found by another call.
use Rattle.value_table.proofs.Prelude.{◌≡◌, ℕ, List, Option, Value, Content, Backings}
use Rattle.value_table.proofs.Listed.{Made}

-- equal contents may replace each other in a cell
pub counted : {bs : Backings} {vs : List Value} {x y : Content} {d j : ℕ} {due : Option Value} → x ≡ y
    → Made bs vs (record { content = y; depth = d; json = j }) due → Made bs vs (record { content = x; depth = d; json = j }) due
counted is made = rw is made
