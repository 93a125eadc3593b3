-- The code of an expression, built from the code of its parts. It refers to texts by their places among the
-- constants, to iteration names by the words of the frame that hold their items, and to variables by the slots of
-- their routines, relative to its own slot.
use Rattle.std.specs.Prelude.{ℕ, suc, ◌+◌, pos, ◌-ℤ◌, ◌&&◌, List, [], ◌∷◌, ◌++◌, length, Option, Some, None, bytes_eq, option_map, if◌then◌else◌}
use Rattle.expression_code.specs.Loops.{item_word, slots_before_turn, turn_word}
use Rattle.insn_codec.specs.declared.alu_op.AluOp.TheVariants.{Sdiv, Smod}
use Rattle.insn_codec.specs.declared.insn.Insn.{Insn}
use Rattle.cel_reader.specs.Tree as tree
use Rattle.cel_reader.specs.declared.operator.BinaryOperator.{BinaryOperator}
use Rattle.cel_reader.specs.declared.operator.BinaryOperator.TheVariants as binary
use Rattle.cel_reader.specs.declared.operator.UnaryOperator.{UnaryOperator}
use Rattle.cel_reader.specs.declared.operator.UnaryOperator.TheVariants as unary
use Rattle.cel_macros.specs.CoreTree as core
use Rattle.cel_macros.specs.CoreTree.{Core, Cores, CoreEntries, no_cores, more_cores, no_core_entries, more_core_entries}
use Rattle.cel_macros.specs.Callee.{function_in, test_in}
use Rattle.cel_macros.specs.declared.function.Function.{Function, TheVariants.Size, TheVariants.String, TheVariants.Dyn}
use Rattle.cel_macros.specs.declared.text_test.TextTest.{TextTest}
use Rattle.insn_codec.specs.declared.register.Register.{Register, TheVariants.R1, TheVariants.R2, TheVariants.R6, TheVariants.R7}
use Rattle.expression_code.specs.Code.Leaves.{leaf_code}
use Rattle.expression_code.specs.Code.Calls.{kept_size, operand_code, operands_code}
use Rattle.expression_code.specs.Code.Logic.{and_code, branch_slots, ternary_jump_slots, left_slots, not_tail, or_code, ternary_code}
use Rattle.expression_code.specs.Code.Arithmetic.{sum_code, difference_code, product_code, divided_code, negation_tail}
use Rattle.expression_code.specs.Code.Comparison.{equal_tail, unequal_tail, less_tail, not_less_tail, member_tail}
use Rattle.tree_code.specs.Code.KeptLists.{kept_or_made, kept_place, list_front}
use Rattle.tree_code.specs.Code.Literals.{address_of, literal_code, literal_leaf}
use Rattle.expression_code.specs.Code.Aggregates.{item_code, list_code, entry_code, map_code, head_slots, key_slots, push_slots, put_slots}
use Rattle.expression_code.specs.Code.Names.{name_code, name_leaf}
use Rattle.expression_code.specs.Code.Selection.{field_tail, has_tail, index_tail, size_tail, string_tail, test_tail}
use Rattle.expression_code.specs.Code.Folds.{macro_code, map_where_code, predicate_slots}
use Rattle.expression_code.specs.Paths.{FrameUse, RootField, with_name}
use Rattle.expression_code.specs.Pieces.{size}
use Rattle.expression_code.specs.Variables.{use_code, use_slots}
use Rattle.expression_code.specs.declared.simple_operand.SimpleOperand.{SimpleOperand, TheVariants.Reference, TheVariants.Word}

-- word 0, if it keeps this field of the expression
abbrev pub field_leaf : Option RootField → Core → List ℕ → Option SimpleOperand
field_leaf None a f = None
field_leaf (Some path) (core.name n) f = if bytes_eq n path.root && bytes_eq f path.field then Some (Word 0) else None
field_leaf (Some path) _ f = None

-- null, truths, names and kept paths are simple operands
abbrev pub leaf_of : Core → FrameUse → Option SimpleOperand
leaf_of (core.literal l) ws = literal_leaf l
leaf_of (core.name n) ws = Some (name_leaf n ws.items)
leaf_of (core.select a f) ws = field_leaf ws.path a f
leaf_of _ ws = None

-- expressions that the type checker accepts have no such part
abbrev pub no_code : List Insn
no_code = leaf_code (Reference (pos 0))

-- a kept path, or else the code
abbrev pub kept_or : Option SimpleOperand → List Insn → List Insn
kept_or (Some l) code = leaf_code l
kept_or None code = code

-- a unary operator with its operand
abbrev pub unary_code : UnaryOperator → Option SimpleOperand → List Insn → List Insn
unary_code unary.Not l of = operand_code l of R1 ++ not_tail
unary_code unary.Negate l of = operand_code l of R6 ++ negation_tail

-- the registers for the operands. Arithmetic uses registers that helpers do not change; `>` and `<=` exchange the
-- sides.
abbrev pub registers : BinaryOperator → Register × Register
registers binary.LessEqual = (R2, R1)
registers binary.Greater = (R2, R1)
registers binary.Add = (R6, R7)
registers binary.Subtract = (R6, R7)
registers binary.Multiply = (R6, R7)
registers binary.Divide = (R6, R7)
registers binary.Remainder = (R6, R7)
registers _ = (R1, R2)

-- the code after both operands
unfoldable pub binary_tail : BinaryOperator → List Insn
binary_tail binary.Or = []
binary_tail binary.And = []
binary_tail binary.Less = less_tail
binary_tail binary.LessEqual = not_less_tail
binary_tail binary.GreaterEqual = not_less_tail
binary_tail binary.Greater = less_tail
binary_tail binary.Equal = equal_tail
binary_tail binary.NotEqual = unequal_tail
binary_tail binary.In = member_tail
binary_tail binary.Add = sum_code
binary_tail binary.Subtract = difference_code
binary_tail binary.Multiply = product_code
binary_tail binary.Divide = divided_code Sdiv
binary_tail binary.Remainder = divided_code Smod

-- a binary operator with its operands; it may use the words from k on
abbrev pub binary_code : BinaryOperator → Option SimpleOperand → List Insn → Option SimpleOperand → List Insn → ℕ → List Insn
binary_code binary.Or l left m right k = or_code left right k
binary_code binary.And l left m right k = and_code left right k
binary_code op l left m right k = operands_code l left m right k (registers op).0 (registers op).1 ++ binary_tail op

-- a function of one operand
abbrev pub function_code : Option Function → Option SimpleOperand → List Insn → List Insn
function_code (Some Size) l of = operand_code l of R1 ++ size_tail
function_code (Some String) l of = operand_code l of R6 ++ string_tail
function_code (Some Dyn) l of = of
function_code None l of = no_code

-- of the functions, only `size` is also a method
abbrev pub method_function_code : Option Function → Option SimpleOperand → List Insn → List Insn
method_function_code (Some Size) l of = function_code (Some Size) l of
method_function_code (Some String) l of = no_code
method_function_code (Some Dyn) l of = no_code
method_function_code None l of = no_code

-- a test of two texts
abbrev pub test_code : Option TextTest → Option SimpleOperand → List Insn → Option SimpleOperand → List Insn → ℕ → List Insn
test_code (Some t) l left m right k = operands_code l left m right k R1 R2 ++ test_tail t
test_code None l left m right k = no_code

-- the number and the routine's slot of the first variable with this name
abbrev pub routine_named : List ℕ → List (List ℕ × ℕ) → Option (ℕ × ℕ)
routine_named n [] = None
routine_named n (r ∷ more) = if bytes_eq r.0 n then Some (0, r.1) else option_map (λ found. (suc found.0, found.1)) (routine_named n more)

-- the use, at slot p, of the variable with this number and routine; the call is in its last slot and counts from the
-- slot after it
abbrev pub variable_code : Option (ℕ × ℕ) → ℕ → List Insn
variable_code (Some found) p = use_code found.0 (pos found.1 -ℤ pos (p + use_slots))
variable_code None p = no_code

-- the number of slots before an operator's right operand
abbrev pub left_size : BinaryOperator → Option SimpleOperand → List Insn → ℕ
left_size binary.Or l left = size left + left_slots
left_size binary.And l left = size left + left_slots
left_size _ l left = kept_size l left

-- The code of an expression at slot p. Its texts are among ts, the routines of its variables are rs, in order of
-- declaration, and ws are the words of its iteration names, path and lists. It does not change the words below k of
-- its frame.
unfoldable mutual
  pub code_of : Core → List (List ℕ) → List (List ℕ × ℕ) → FrameUse → ℕ → ℕ → List Insn
  code_of (core.literal l) ts rs ws k p = literal_code ts l
  code_of (core.name n) ts rs ws k p = name_code n ws.items
  code_of (core.variable v) ts rs ws k p = variable_code (routine_named v rs) p
  code_of (core.select a f) ts rs ws k p =
      kept_or (leaf_of (core.select a f) ws)
      (operand_code (leaf_of a ws) (code_of a ts rs ws k p) R1 ++ field_tail (address_of ts f) (length f))
  code_of (core.has a f) ts rs ws k p = operand_code (leaf_of a ws) (code_of a ts rs ws k p) R1 ++ has_tail (address_of ts f) (length f)
  code_of (core.index a b) ts rs ws k p =
      let first = code_of a ts rs ws k p in
      let second = code_of b ts rs ws (k + 1) (p + kept_size (leaf_of a ws) first) in
      operands_code (leaf_of a ws) first (leaf_of b ws) second k R1 R2 ++ index_tail
  code_of (core.call c (more_cores a no_cores)) ts rs ws k p = function_code (function_in c) (leaf_of a ws) (code_of a ts rs ws k p)
  code_of (core.call c _) ts rs ws k p = no_code
  code_of (core.method a c no_cores) ts rs ws k p = method_function_code (function_in c) (leaf_of a ws) (code_of a ts rs ws k p)
  code_of (core.method a c (more_cores b no_cores)) ts rs ws k p =
      let first = code_of a ts rs ws k p in
      let second = code_of b ts rs ws (k + 1) (p + kept_size (leaf_of a ws) first) in
      test_code (test_in c) (leaf_of a ws) first (leaf_of b ws) second k
  code_of (core.method a c _) ts rs ws k p = no_code
  code_of (core.unary op a) ts rs ws k p = unary_code op (leaf_of a ws) (code_of a ts rs ws k p)
  code_of (core.binary op a b) ts rs ws k p =
      let left = code_of a ts rs ws k p in
      binary_code op (leaf_of a ws) left (leaf_of b ws) (code_of b ts rs ws (k + 1) (p + left_size op (leaf_of a ws) left)) k
  code_of (core.ternary c a b) ts rs ws k p =
      let condition = code_of c ts rs ws k p in
      let if_true = code_of a ts rs ws k (p + size condition + ternary_jump_slots) in
      ternary_code condition if_true (code_of b ts rs ws k (p + size condition + ternary_jump_slots + size if_true + branch_slots))
  code_of (core.list items) ts rs ws k p =
      let kept = kept_place items ws.lists in
      kept_or_made kept (list_code (items_code items ts rs ws k (p + list_front kept + head_slots)) k)
  code_of (core.map es) ts rs ws k p = map_code (entries_code es ts rs ws k (p + head_slots)) k
  code_of (core.fold m n r e) ts rs ws k p =
      let range = code_of r ts rs ws k p in
      macro_code m k range (code_of e ts rs (with_name n (item_word k) ws) (turn_word k) (p + size range + slots_before_turn))
  code_of (core.fold_map n r e t) ts rs ws k p =
      let range = code_of r ts rs ws k p in
      let predicate = code_of e ts rs (with_name n (item_word k) ws) (turn_word k) (p + size range + slots_before_turn) in
      map_where_code k range predicate
      (code_of t ts rs (with_name n (item_word k) ws) (turn_word k)
      (p + size range + slots_before_turn + size predicate + predicate_slots))

  -- the items of a list in word k
  pub items_code : Cores → List (List ℕ) → List (List ℕ × ℕ) → FrameUse → ℕ → ℕ → List Insn
  items_code no_cores ts rs ws k p = []
  items_code (more_cores a more) ts rs ws k p =
      let item = code_of a ts rs ws (k + 1) p in
      item_code item k ++ items_code more ts rs ws k (p + size item + push_slots)

  -- the entries of a map in word k
  pub entries_code : CoreEntries → List (List ℕ) → List (List ℕ × ℕ) → FrameUse → ℕ → ℕ → List Insn
  entries_code no_core_entries ts rs ws k p = []
  entries_code (more_core_entries a b more) ts rs ws k p =
      let key = code_of a ts rs ws (k + 1) p in
      let entry = code_of b ts rs ws (k + 2) (p + size key + key_slots) in
      entry_code key entry k ++ entries_code more ts rs ws k (p + size key + key_slots + size entry + put_slots)

-- the text of a text literal
abbrev pub literal_texts : tree.Literal → List (List ℕ)
literal_texts (tree.text s) = s ∷ []
literal_texts _ = []

-- the texts that the code uses, in order of first use
unfoldable mutual
  pub texts_of : Core → List (List ℕ)
  texts_of (core.literal l) = literal_texts l
  texts_of (core.name n) = []
  texts_of (core.variable v) = []
  texts_of (core.select a f) = texts_of a ++ f ∷ []
  texts_of (core.has a f) = texts_of a ++ f ∷ []
  texts_of (core.index a b) = texts_of a ++ texts_of b
  texts_of (core.call n arguments) = texts_of_each arguments
  texts_of (core.method a n arguments) = texts_of a ++ texts_of_each arguments
  texts_of (core.unary op a) = texts_of a
  texts_of (core.binary op a b) = texts_of a ++ texts_of b
  texts_of (core.ternary c a b) = texts_of c ++ (texts_of a ++ texts_of b)
  texts_of (core.list items) = texts_of_each items
  texts_of (core.map es) = texts_of_entries es
  texts_of (core.fold m n r p) = texts_of r ++ texts_of p
  texts_of (core.fold_map n r p t) = texts_of r ++ (texts_of p ++ texts_of t)

  -- the texts of each expression, in order
  pub texts_of_each : Cores → List (List ℕ)
  texts_of_each no_cores = []
  texts_of_each (more_cores a more) = texts_of a ++ texts_of_each more

  -- the texts of each key and each value, in order
  pub texts_of_entries : CoreEntries → List (List ℕ)
  texts_of_entries no_core_entries = []
  texts_of_entries (more_core_entries k v more) = texts_of k ++ (texts_of v ++ texts_of_entries more)
