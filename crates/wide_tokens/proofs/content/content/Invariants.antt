-- Loop invariants and measures of `content` (src/content.rt).
use Rattle.wide_tokens.proofs.Prelude.{◌≡◌, ◌-◌, ◌≤◌, ◌++◌, [], length, drop, IsUtf8, content}
use Rattle.wide_tokens.proofs.content.content.Given as goal

abbrev pub invariant-loop-n : goal.invariant-loop-n
invariant-loop-n l = record {
  in_range : l.n ≤ length l.bytes;
  so_far : content l.opening 0 l.n l.said.items (drop l.n l.bytes) ≡ content l.opening 0 0 [] l.bytes;
  utf8 : IsUtf8 (l.said.items ++ drop l.n l.bytes);
}

abbrev pub decreases-loop-n : goal.decreases-loop-n
decreases-loop-n l = length l.bytes - l.n
