-- Proofs of `laws::scopes_give`: the result meets the contract.

use Rattle.expression_code.proofs.Later.{later_gives, wider_gives}
use Rattle.expression_code.proofs.Returns.{routine_returns}
use Rattle.expression_code.proofs.Scopes.{no_scope, scope_begins, scope_gives, scope_grows}
use Rattle.expression_code.proofs.laws.scopes_give.Goals as goal

pub returns : goal.returns
returns c = record { uses = scope_gives; none = no_scope; begins = scope_begins; grows = scope_grows; later = later_gives; wider = wider_gives; returns = routine_returns }
