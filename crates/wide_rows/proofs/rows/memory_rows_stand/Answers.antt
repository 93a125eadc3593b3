-- Proofs of `rows::memory_rows_stand`.
use Rattle.std.proofs.Common.{refl}
use Rattle.std.specs.Prelude.{codes}
use Rattle.wide_tokens.specs.Lexis.WideTakesMemory.{for_word, for_text, behind_space}
use Rattle.wide_tokens.specs.Token.{name}
use Rattle.wide_rows.proofs.Memory.{none_at_a_wrong_byte, none_behind_a_blank}
use Rattle.wide_rows.proofs.OnLiterals.{tokens_on_literals}
use Rattle.wide_rows.proofs.rows.memory_rows_stand.Goals as goal

pub returns : goal.returns
unfolding tokens_on_literals
returns c = record {
  at_a_word = for_word 1 (name (codes "a")) refl;
  at_a_text = for_text refl;
  behind_a_blank = behind_space 1 refl (for_word 1 (name (codes "a")) refl);
  not_at_a_wrong_byte = none_at_a_wrong_byte;
  not_behind_a_blank = none_behind_a_blank;
}
