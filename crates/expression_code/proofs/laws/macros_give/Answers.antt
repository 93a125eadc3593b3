-- Proofs of `laws::macros_give`: the result meets the contract.

use Rattle.expression_code.proofs.Folds.All.{macro_gives}
use Rattle.expression_code.proofs.Folds.MapsWhere.{map_where_gives}
use Rattle.expression_code.proofs.laws.macros_give.Goals as goal

pub returns : goal.returns
returns c = record { macros = macro_gives; map_where = map_where_gives }
