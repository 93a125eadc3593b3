-- Proofs of `laws::decodes_spelling`: the result meets the contract.

use Rattle.bpf_machine.proofs.Spellings.{decodes}
use Rattle.bpf_machine.proofs.laws.decodes_spelling.Goals as goal

pub returns : goal.returns
returns c = decodes c.spelled_is_spelling.ensures
