-- Loop invariant of `denials::joined`.

use Rattle.verdicts.proofs.Prelude.{drop, map, string_bytes, denial_view, denial_text}
use Rattle.verdicts.proofs.Lists.{JoinGo}
use Rattle.verdicts.proofs.denials.joined.Given as goal

abbrev pub invariant-loop-denial : goal.invariant-loop-denial
invariant-loop-denial l = JoinGo (map denial_text (map denial_view l.denials)) (map denial_text (map denial_view (drop l.denial-index l.denials))) l.later (string_bytes l.text)
