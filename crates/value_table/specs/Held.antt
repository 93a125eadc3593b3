-- The contents of a table.
use Rattle.std.specs.Prelude.{ℕ, List}
use Rattle.value_store.specs.Placing.{Contents}
use Rattle.value_store.specs.Value.{ValueOrError}

pub record Held : Type 0 where
  pub values : List ValueOrError
  pub charge : ℕ

-- the contents with these values and this charge
abbrev pub held_contents : Held → Contents
held_contents held = record { values = held.values; charge = held.charge }
