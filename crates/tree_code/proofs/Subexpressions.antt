-- The facts about a part of an expression: its tree or code, its value and its cost.
use Rattle.tree_code.proofs.Prelude.{List, ℕ, Cost, Insn, Value, ValueOrError}
use Rattle.cel_macros.specs.CoreTree.{Core}

-- a part, given by its tree
pub record Subexpression : Type 0 where
  pub core : Core
  pub value : ValueOrError
  pub cost : Cost

abbrev pub subexpression : Core → ValueOrError → Cost → Subexpression
subexpression e x t = record { core = e; value = x; cost = t }

-- a part, given by its code
pub record Valued : Type 0 where
  pub code : List Insn
  pub value : ValueOrError
  pub cost : Cost

abbrev pub valued : List Insn → ValueOrError → Cost → Valued
valued piece x t = record { code = piece; value = x; cost = t }

-- the part of a macro that runs for each item, given by its code
pub record PerItem : Type 0 where
  pub code : List Insn
  pub value : Value → ValueOrError
  pub cost : Value → Cost

abbrev pub per_item : List Insn → (Value → ValueOrError) → (Value → Cost) → PerItem
per_item piece f each = record { code = piece; value = f; cost = each }

-- the part of a macro, given by its tree, for each name that an item may have
pub record InMacro : Type 0 where
  pub core : Core
  pub value : List ℕ → Value → ValueOrError
  pub cost : List ℕ → Value → Cost

abbrev pub in_macro : Core → (List ℕ → Value → ValueOrError) → (List ℕ → Value → Cost) → InMacro
in_macro e f each = record { core = e; value = f; cost = each }
