-- List and map literals. The list or map so far is in word k and, between the parts, in R0; the parts use the words
-- after it. Emitted by `tree_code/src/code/aggregates.rt`; laws in `Gives/Aggregates`, proofs in `proofs/Lists`,
-- `proofs/Maps` and `proofs/Insertions`.
use Rattle.std.specs.Prelude.{ℕ, ◌+◌, pos, List, [], ◌∷◌, ◌++◌}
use Rattle.insn_codec.specs.declared.insn.Insn.{Insn, TheVariants.Call}
use Rattle.insn_codec.specs.declared.register.Register.TheVariants.{R0, R1, R2, R3}
use Rattle.expression_code.specs.Instructions.{mov_reg, load, store}

-- the number of slots of an empty list or map, before its parts
abbrev pub head_slots : ℕ
head_slots = 2

-- the number of slots after an item, of `push_tail`
abbrev pub push_slots : ℕ
push_slots = 4

-- the number of slots between a key and its value, for a store
abbrev pub key_slots : ℕ
key_slots = 1

-- the number of slots after the value of a key, of `entry_tail`
abbrev pub put_slots : ℕ
put_slots = 5

-- stores an empty list in word k
abbrev pub list_head : ℕ → List Insn
list_head k = Call (pos 16) ∷ store k R0 ∷ []

-- appends R0 to the list in word k; an item that is the error makes the list the error, which further items do not
-- change
abbrev pub push_tail : ℕ → List Insn
push_tail k = mov_reg R2 R0 ∷ load R1 k ∷ Call (pos 17) ∷ store k R0 ∷ []

abbrev pub item_code : List Insn → ℕ → List Insn
item_code item k = item ++ push_tail k

abbrev pub list_code : List Insn → ℕ → List Insn
list_code items k = list_head k ++ items

-- stores an empty map in word k
abbrev pub map_head : ℕ → List Insn
map_head k = Call (pos 18) ∷ store k R0 ∷ []

-- puts the value in R0 into the map in word k, with the key in word k + 1
abbrev pub entry_tail : ℕ → List Insn
entry_tail k = mov_reg R3 R0 ∷ load R2 (k + 1) ∷ load R1 k ∷ Call (pos 19) ∷ store k R0 ∷ []

abbrev pub entry_code : List Insn → List Insn → ℕ → List Insn
entry_code key entry k = key ++ store (k + 1) R0 ∷ (entry ++ entry_tail k)

abbrev pub map_code : List Insn → ℕ → List Insn
map_code entries k = map_head k ++ entries
