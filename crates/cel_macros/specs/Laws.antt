-- The laws proved of the definitions.
use Rattle.std.specs.Prelude.{◌≡◌, true}
use Rattle.cel_reader.specs.Tree.{Tree}
use Rattle.value_store.specs.Value.{Value, ValueOrError}
use Rattle.cel_macros.specs.Environment.{Environment}
use Rattle.cel_macros.specs.declared.macros.Macro.{Macro}
use Rattle.cel_macros.specs.Meaning.{meaning}
use Rattle.cel_macros.specs.CoreTree.{plain_tree, expanded}
use Rattle.cel_macros.specs.FoldMeaning.{fold_meaning, step_of, is_settled}

-- expansion keeps the tree, and left folds give the meaning of the macros
pub record ExpansionKeepsMeaning : Type 0 where
  pub plain : (e : Tree) → plain_tree (expanded e) ≡ e
  pub means : (e : Tree) (env : Environment) → fold_meaning (expanded e) env ≡ meaning e env

-- a settled result is not changed by further items, so that a loop may end there
abbrev pub SettledStays : Type 0
SettledStays = (m : Macro) (f : Value → ValueOrError) (acc : ValueOrError) (v : Value) → is_settled m acc ≡ true → step_of m f acc v ≡ acc
