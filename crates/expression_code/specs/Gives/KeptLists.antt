-- Lists of literals whose values words of the frame keep. The code is listed in `Code/KeptLists`; proofs in
-- `proofs/KeptLists`.
use Rattle.std.specs.Prelude.{◌≡◌, ℕ, ◌+◌, ◌≤◌, List, [], ◌++◌, length, Some, slice_get}
use Rattle.insn_codec.specs.declared.insn.Insn.{Insn}
use Rattle.value_store.specs.Value.{ValueOrError}
use Rattle.cel_macros.specs.CoreTree.{Cores}
use Rattle.expression_code.specs.Code.KeptLists.{clear_code, kept_list_code}
use Rattle.expression_code.specs.Contexts.{Context, Evaluates}
use Rattle.expression_code.specs.Engine.{RunContext}
use Rattle.expression_code.specs.Limits.{frame_words, word_limit}
use Rattle.expression_code.specs.Paths.{list_value, list_word, with_lists}

-- the context with these lists kept
abbrev pub keeping : List Cores → Context → Context
keeping lists c = record c { words = with_lists lists c.words }

-- the results of kept lists
pub record KeptListsGive : Type 0 where
  -- code for the value of a kept list can be composed to code that uses the kept value, or evaluates and keeps it
  pub kept : (s : RunContext) (p : ℕ) (c : Context) (depth base i : ℕ) (items : Cores) (made : List Insn) (n x : ℕ)
      → base ≤ word_limit → slice_get c.words.lists i ≡ Some items
      → Evaluates s (p + 2) made c depth base (list_value items) n x
      → Evaluates s p (kept_list_code (list_word i) made) c depth base (list_value items) (3 + n) x
  -- code that keeps lists can follow the code that empties their words; afterwards the words are free again
  pub cleared : (s : RunContext) (p : ℕ) (c : Context) (depth base : ℕ) (lists : List Cores) (rest : List Insn) (x : ValueOrError) (n m : ℕ)
      → base ≤ word_limit → list_word (length lists) ≤ frame_words
      → Evaluates s (p + length lists) rest (keeping lists c) depth base x n m
      → Evaluates s p (clear_code 0 (length lists) ++ rest) (keeping [] c) depth base x (length lists + n) m
