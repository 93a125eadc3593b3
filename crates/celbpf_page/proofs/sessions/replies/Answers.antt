-- Proofs of `sessions::replies`: the result meets the contract.

use Rattle.std.proofs.Common.{refl}
use Rattle.celbpf_page.proofs.Replies.{replied}
use Rattle.celbpf_page.proofs.sessions.replies.Goals as goal

pub returns : goal.returns
returns c = replied _ c.args.commands.now _ _ _ _ _ c.in_ok-session.ensures (rw c.new-input.ensures.inner refl) (rw c.new-output.ensures refl) refl
