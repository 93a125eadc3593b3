-- The code of a list of literals whose value a word of the frame keeps after its first evaluation. Emitted by
-- `tree_code/src/code/kept_lists.rt`; laws in `Gives/KeptLists`, proofs in `proofs/KeptLists`.
use Rattle.std.specs.Prelude.{ℕ, zero, suc, ◌+◌, pos, List, [], ◌∷◌, ◌++◌}
use Rattle.insn_codec.specs.declared.comparison.Comparison.TheVariants.{Ne}
use Rattle.insn_codec.specs.declared.insn.Insn.{Insn, TheVariants.StoreImm}
use Rattle.insn_codec.specs.declared.register.Register.TheVariants.{R0, R10}
use Rattle.insn_codec.specs.declared.size.Size.TheVariants.{Dw}
use Rattle.expression_code.specs.Instructions.{jump_if_imm, load, store}
use Rattle.expression_code.specs.Paths.{list_word}
use Rattle.expression_code.specs.Pieces.{size}
use Rattle.expression_code.specs.Words.{word_offset}

-- the number of slots before the list's own code
abbrev pub kept_front_slots : ℕ
kept_front_slots = 2

-- loads word k; if it is 0, evaluates the list and stores its reference there
abbrev pub kept_list_code : ℕ → List Insn → List Insn
kept_list_code k made = load R0 k ∷ jump_if_imm Ne R0 (pos 0) (size made + 1) ∷ (made ++ store k R0 ∷ [])

-- stores 0 in word k
abbrev pub clear : ℕ → Insn
clear k = StoreImm Dw R10 (word_offset k) (pos 0)

-- stores 0 in the words of this many lists, the first of which has number i
abbrev pub clear_code : ℕ → ℕ → List Insn
clear_code i zero = []
clear_code i (suc n) = clear (list_word i) ∷ clear_code (suc i) n
