-- Proof obligations of `decode` (src/codec.rt).
use Rattle.insn_codec.proofs.Prelude.{◌≡◌, ℕ, ◌%◌, ◌≢◌, Option, Some, None, sym, refl, ◌∙◌, iff_false, spelled, BeginsWith, IsInsn, on_hand, spelling, Insn}
use Rattle.insn_codec.proofs.Spelled.{candidate_of_words, spelled_alone, spelled_begins, spelled_none, spelled_other, spelled_some}
use Rattle.insn_codec.proofs.codec.decode.Goals as goal

only_from : (first : ℕ) (second : Option ℕ) (o : Option Insn) → o ≡ spelled (on_hand first second) → (i : Insn) → IsInsn i → BeginsWith (spelling i) (on_hand first second) → o ≡ Some i
only_from first second o e i f b = e ∙ spelled_begins i (on_hand first second) f b

alone_from : (first : ℕ) (second : Option ℕ) (o : Option Insn) → o ≡ spelled (on_hand first second) → first % 256 ≢ 0x18 → o ≡ spelled (on_hand first None)
alone_from first second o e n = e ∙ spelled_alone first second n

pub returns-in_err-insn-clause-is : goal.returns-in_err-insn-clause-is
returns-in_err-insn-clause-is c = c.from_residual.ensures ∙ sym (spelled_none _ (candidate_of_words c.of_word.result c.args.first c.args.second c.high_part.result c.of_word.ensures.ranges c.of_word.ensures.bytes c.high_part.ensures ∙ sym c.candidate.ensures ∙ c.in_err-insn.was))

pub returns-in_err-insn-clause-only : goal.returns-in_err-insn-clause-only
returns-in_err-insn-clause-only c = only_from c.args.first c.args.second c.from_residual.result (returns-in_err-insn-clause-is c)

pub returns-in_err-insn-clause-alone : goal.returns-in_err-insn-clause-alone
returns-in_err-insn-clause-alone c = alone_from c.args.first c.args.second c.from_residual.result (returns-in_err-insn-clause-is c)

pub returns-then-spells-clause-is : goal.returns-then-spells-clause-is
returns-then-spells-clause-is c =
    sym (spelled_some _ _ (candidate_of_words c.of_word.result c.args.first c.args.second c.high_part.result c.of_word.ensures.ranges c.of_word.ensures.bytes c.high_part.ensures ∙ sym c.candidate.ensures ∙ c.in_ok-insn.was) (c.if-spells.ensures.0 refl))

pub returns-then-spells-clause-only : goal.returns-then-spells-clause-only
returns-then-spells-clause-only c = only_from c.args.first c.args.second (Some c.in_ok-insn.insn) (returns-then-spells-clause-is c)

pub returns-then-spells-clause-alone : goal.returns-then-spells-clause-alone
returns-then-spells-clause-alone c = alone_from c.args.first c.args.second (Some c.in_ok-insn.insn) (returns-then-spells-clause-is c)

pub returns-else-spells-clause-is : goal.returns-else-spells-clause-is
returns-else-spells-clause-is c =
    sym (spelled_other _ _ (candidate_of_words c.of_word.result c.args.first c.args.second c.high_part.result c.of_word.ensures.ranges c.of_word.ensures.bytes c.high_part.ensures ∙ sym c.candidate.ensures ∙ c.in_ok-insn.was) (iff_false c.if-spells.ensures refl))

pub returns-else-spells-clause-only : goal.returns-else-spells-clause-only
returns-else-spells-clause-only c = only_from c.args.first c.args.second None (returns-else-spells-clause-is c)

pub returns-else-spells-clause-alone : goal.returns-else-spells-clause-alone
returns-else-spells-clause-alone c = alone_from c.args.first c.args.second None (returns-else-spells-clause-is c)
