-- Proof obligations of `word_rows_stand` (src/rows.rt).
use Rattle.std.proofs.Common.{rules}
use Rattle.bpf_word.specs.Arithmetic.{alu32_of, alu64_of, operated}
use Rattle.bpf_word.specs.Bytes.{swap_of}
use Rattle.bpf_word.specs.Comparisons.{holds_of}
use Rattle.bpf_word.specs.Signs.{sext_of, signed_of, word_of}
use Rattle.machine_rows.proofs.rows.word_rows_stand.Goals as goal

pub returns-clause-arithmetic : goal.returns-clause-arithmetic
unfolding operated alu64_of alu32_of swap_of holds_of sext_of signed_of word_of
returns-clause-arithmetic c = search rules

pub returns-clause-swaps : goal.returns-clause-swaps
unfolding operated alu64_of alu32_of swap_of holds_of sext_of signed_of word_of
returns-clause-swaps c = search rules

pub returns-clause-order : goal.returns-clause-order
unfolding operated alu64_of alu32_of swap_of holds_of sext_of signed_of word_of
returns-clause-order c = search rules
