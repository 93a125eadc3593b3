-- Proofs of `laws::is_sound`: the result meets the contract.

use Rattle.cel_types.proofs.Sound.{is_sound}
use Rattle.cel_types.proofs.laws.is_sound.Goals as goal

pub returns : goal.returns
returns c = is_sound
