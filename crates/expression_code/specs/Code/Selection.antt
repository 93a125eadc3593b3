-- Field selection, indexing, and functions of texts and sizes.
-- Emitted by `tree_code/src/code/selection.rt`; laws in `Gives/Selection`, proofs in `proofs/Selection`.
use Rattle.std.specs.Prelude.{ℕ, ℤ, pos, List, [], ◌∷◌}
use Rattle.insn_codec.specs.declared.comparison.Comparison.TheVariants.{Ne}
use Rattle.insn_codec.specs.declared.insn.Insn.{Insn, TheVariants.Call}
use Rattle.insn_codec.specs.declared.register.Register.TheVariants.{R0, R1, R2, R3, R6}
use Rattle.cel_macros.specs.declared.text_test.TextTest.{TextTest, TheVariants.StartsWith, TheVariants.EndsWith, TheVariants.Contains}
use Rattle.expression_code.specs.Instructions.{mov_reg, lddw, put_length, ja, jump_if_imm}

-- calls a helper with R1 and a text with this address among the constants and this number of bytes
abbrev pub call_with_text : ℤ → ℕ → ℕ → List Insn
call_with_text helper address count = lddw R2 address ∷ put_length R3 count ∷ Call helper ∷ []

-- R1.f, where f is the text
abbrev pub field_tail : ℕ → ℕ → List Insn
field_tail address count = call_with_text (pos 5) address count

-- has(R1.f), where f is the text
abbrev pub has_tail : ℕ → ℕ → List Insn
has_tail address count = call_with_text (pos 6) address count

-- R1[R2]
abbrev pub index_tail : List Insn
index_tail = Call (pos 7) ∷ []

-- size(R1)
abbrev pub size_tail : List Insn
size_tail = Call (pos 8) ∷ []

-- string(R6): a text is unchanged, an int becomes decimal
abbrev pub string_tail : List Insn
string_tail =
    mov_reg R1 R6
    ∷ Call (pos 1)
    ∷ jump_if_imm Ne R0 (pos 4) 2
    ∷ mov_reg R0 R6
    ∷ ja 2
    ∷ mov_reg R1 R6
    ∷ Call (pos 22)
    ∷ []

-- the number of the helper for this test
abbrev pub test_helper : TextTest → ℤ
test_helper StartsWith = pos 12
test_helper EndsWith = pos 13
test_helper Contains = pos 14

-- a test of R1 and R2
abbrev pub test_tail : TextTest → List Insn
test_tail t = Call (test_helper t) ∷ []
