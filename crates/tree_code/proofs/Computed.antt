-- The code of an expression gives its value within its budget, by induction on its tree.
use Rattle.tree_code.proofs.Prelude.{append-nil, ◌≡◌, ℕ, ◌+◌, ◌<◌, ◌≤◌, Bool, true, false, List, [], Option, Some, None, IfSome, refl, arith, suc, ◌||◌, ◌∷◌, length, ap, ◌∙◌, ◌++◌, IsSome, slice_get, bytes_eq, ◌&&◌, if◌then◌else◌, Insn, ValueOrError, Value, Core, call_or_has, no_cores, one_core, selection, expanded, expanded_entries, expanded_operand, expanded_trees, plain_tree, variable_value, Roots, lookup, name_value, Environment, bind, Function, Size, TextTest, function_named, function_of, method_of, test_named, text_test_of, called, selected, entry_meanings, meaning, meanings, operand_meaning, deepest, need, kept_size, Context, Evaluates, RunContext, IsLeafOf, IsLeafIn, Variable, IsScope, place_named, scope_setting, SimpleOperand, code_of, function_code, leaf_of, method_function_code, test_code, texts_of, routine_named, field_leaf, ComputesPart, names, nestings, routines, scope_context, Computes, Ready, environment_in, Cost, ◌and◌, call_cost, node, nothing, selection_cost, cost, costs, entry_costs, operand_cost, IsAccepted, ints, list_any, Image, FrameUse, RootField, with_name, scope_gives, bytes_decides, field_of, CpuState, Word, leaves_name, paths_give, Tree, Trees, TreeEntries, no_trees, more_trees, no_entries, more_entries, field_name, is_has, is_map, is_variables, macro_named, name_of, later_gives, EntriesHaveLiterals, HasLiterals, HaveLiterals, gives_within, CodeGives, word_limit, record_limit, memo_limit, frame_words, Callee, callee_named, function_in, function_stays, test_in, test_stays, subst, Cores, kept_place, list_literal, list_value, literal_values}
use Rattle.std.specs.Prelude.{unwrap_or}
use Rattle.tree_code.proofs.Subexpressions.{Subexpression, subexpression, in_macro}
use Rattle.cel_macros.specs.CoreTree as core
use Rattle.tree_code.proofs.Parts.{leaf, LeafPart, Part, function_part, has_part, or_left, or_right, select_part, test_part, texts_back, texts_front, EntriesPart, ItemsPart, entries_more, entries_none, items_more, items_none, list_part, map_part, binary_part, unary_part, index_part, literal_part, name_part, ternary_part}
use Rattle.cel_reader.specs.Tree as tree
use Rattle.tree_code.proofs.Accepted.{expanded_again}
use Rattle.tree_code.proofs.Folds.{fold_map_part, fold_part}
use Rattle.tree_code.proofs.KeptLists.{items_mean, kept_is}

-- ---- selections, calls and methods of the grammar, given that the code of their parts gives their values within
-- their budgets

module _ (s : RunContext) (scope : List Variable) (rs : List (List ℕ × ℕ)) (texts : List (List ℕ)) (depth : ℕ) (c : Context) (k : ℕ) where
  -- if the expression is ready, the code of this variable gives the value of its name; 5 steps are its own
  abbrev pub UseGives : List ℕ → Type 0
  UseGives v = (k ≤ word_limit → IsAccepted (core.variable v) (names scope) → depth + deepest (core.variable v) (nestings scope) ≤ record_limit → (p : ℕ) → Evaluates s p (code_of (core.variable v) texts rs c.words k p) c depth k (variable_value v c.environment.variables) 5 0)

  variable_part : (v : List ℕ) → UseGives v
      → Part s scope rs texts depth c k (core.variable v) (variable_value v c.environment.variables) (node (variable_value v c.environment.variables) and nothing)
  unfolding need
  variable_part v used ready p = let room = ready.room in leaf s c depth k p _ (variable_value v c.environment.variables) 5 0 (node (variable_value v c.environment.variables) and nothing) (omega arith) (omega arith) (omega arith) (used (omega arith) ready.accepted ready.frames p)

  pub selection_part : (b : Bool) (a : Core) (f : List ℕ) (x : ValueOrError) (t : Cost) → UseGives f
      → LeafPart depth c k (selection b f a) (selected b f x c.environment) → LeafPart depth c k a x → Part s scope rs texts depth c k a x t
      → Part s scope rs texts depth c k (selection b f a) (selected b f x c.environment) (node (selected b f x c.environment) and selection_cost b f t)
  selection_part true a f x t used own named part ready p = variable_part f used ready p
  selection_part false a f x t used own named part ready p = select_part s scope rs texts depth c k a f x t own named part ready p

  -- ---- functions

  by_function : (g : Option Function) → IsSome g → k ≤ word_limit → (l : Option SimpleOperand) (piece : List Insn) (x : ValueOrError) (t : Cost) (p : ℕ) → IsLeafOf c depth k l x → ComputesPart s p piece c depth k x t → ComputesPart s p (function_code g l piece) c depth k (function_of g x) (node (function_of g x) and t)
  by_function g known low l piece x t p named part = grind (arith, function_part)

  plain_call : (n : Callee) (a : Core) (x : ValueOrError) (t : Cost) → LeafPart depth c k a x → Part s scope rs texts depth c k a x t
      → Part s scope rs texts depth c k (core.call n (one_core a)) (function_of (function_in n) x) (node (function_of (function_in n) x) and t)
  unfolding code_of need deepest texts_of IsAccepted
  plain_call n a x t named part ready p = grind (arith, by_function, append-nil)

  pub call_part : (b : Bool) (o : Option (List ℕ)) (n : List ℕ) (inner operand : Subexpression) → IfSome o (λ f. LeafPart depth c k inner.core inner.value × Part s scope rs texts depth c k inner.core inner.value inner.cost) → LeafPart depth c k operand.core operand.value → Part s scope rs texts depth c k operand.core operand.value operand.cost → Part s scope rs texts depth c k (call_or_has b o n inner.core operand.core) (called b o (function_named n) inner.value operand.value) (node (called b o (function_named n) inner.value operand.value) and call_cost b o inner.cost operand.cost)
  call_part true (Some f) n inner operand first named second = has_part s scope rs texts depth c k inner.core f inner.value inner.cost first.0 first.1
  call_part _ _ n inner operand first named second =
      subst (λ (g : Option Function). Part s scope rs texts depth c k (core.call (callee_named n) (one_core operand.core)) (function_of g operand.value) (node (function_of g operand.value) and operand.cost)) (function_stays n)
      (plain_call (callee_named n) operand.core operand.value operand.cost named second)

  -- ---- methods

  by_method : (g : Option Function) → g ≡ Some Size → k ≤ word_limit → (l : Option SimpleOperand) (piece : List Insn) (x : ValueOrError) (t : Cost) (p : ℕ) → IsLeafOf c depth k l x → ComputesPart s p piece c depth k x t → ComputesPart s p (method_function_code g l piece) c depth k (method_of g x) (node (method_of g x) and t)
  by_method (Some Size) e low l piece x t p named part = function_part s scope rs texts depth c k Size l piece x t p low named part
  by_method _ e low l piece x t p named part = absurd (cc)

  plain_method : (n : Callee) (a : Core) (x : ValueOrError) (t : Cost) → LeafPart depth c k a x → Part s scope rs texts depth c k a x t
      → Part s scope rs texts depth c k (core.method a n no_cores) (method_of (function_in n) x) (node (method_of (function_in n) x) and t)
  unfolding code_of need deepest texts_of IsAccepted
  plain_method n a x t named part ready p = grind (arith, by_method, append-nil)

  pub method_part : (n : List ℕ) (a : Core) (x : ValueOrError) (t : Cost) → LeafPart depth c k a x → Part s scope rs texts depth c k a x t
      → Part s scope rs texts depth c k (core.method a (callee_named n) no_cores) (method_of (function_named n) x) (node (method_of (function_named n) x) and t)
  method_part n a x t named part =
      subst (λ (g : Option Function). Part s scope rs texts depth c k (core.method a (callee_named n) no_cores) (method_of g x) (node (method_of g x) and t)) (function_stays n)
      (plain_method (callee_named n) a x t named part)

  by_test : (g : Option TextTest) → IsSome g → k < word_limit → (l : Option SimpleOperand) (left : List Insn) (m : Option SimpleOperand) (right : List Insn) (x y : ValueOrError) (t u : Cost) (p : ℕ) → IsLeafOf c depth k l x → ComputesPart s p left c depth k x t → IsLeafOf c depth (k + 1) m y → ComputesPart s (p + kept_size l left) right c depth (k + 1) y u → ComputesPart s p (test_code g l left m right k) c depth k (text_test_of g x y) (node (text_test_of g x y) and t and u)
  by_test g known low l left m right x y t u p named first named_right second = grind (arith, test_part)

  plain_test : (n : Callee) (a b : Core) (x y : ValueOrError) (t u : Cost) → LeafPart depth c k a x → LeafPart depth c (k + 1) b y
      → Part s scope rs texts depth c k a x t → Part s scope rs texts depth c (k + 1) b y u
      → Part s scope rs texts depth c k (core.method a n (one_core b)) (text_test_of (test_in n) x y) (node (text_test_of (test_in n) x y) and t and u)
  unfolding code_of need deepest texts_of IsAccepted
  plain_test n a b x y t u named named_right first second ready p = grind (arith, texts_back, by_test, texts_front, or_left, or_right)

  pub text_method_part : (n : List ℕ) (a b : Core) (x y : ValueOrError) (t u : Cost) → LeafPart depth c k a x → LeafPart depth c (k + 1) b y
      → Part s scope rs texts depth c k a x t → Part s scope rs texts depth c (k + 1) b y u
      → Part s scope rs texts depth c k (core.method a (callee_named n) (one_core b)) (text_test_of (test_named n) x y) (node (text_test_of (test_named n) x y) and t and u)
  text_method_part n a b x y t u named named_right first second =
      subst (λ (g : Option TextTest). Part s scope rs texts depth c k (core.method a (callee_named n) (one_core b)) (text_test_of g x y) (node (text_test_of g x y) and t and u)) (test_stays n)
      (plain_test (callee_named n) a b x y t u named named_right first second)

-- ---- a use of a scope's variable, found by its name

-- the first variable with a name, and its number
record Found (n : List ℕ) (scope : List Variable) : Type 0 where
  pub number : ℕ
  pub variable : Variable
  pub place_is : place_named n scope ≡ Some number
  pub stands : slice_get scope number ≡ Some variable
  pub routine_is : routine_named n (routines scope) ≡ Some (number, variable.routine)
  pub nesting_is : lookup n (nestings scope) ≡ Some variable.nesting

found_by : (n : List ℕ) (u : Variable) (more : List Variable) (same : Bool) → bytes_eq u.name n ≡ same → (list_any (λ m. bytes_eq m n) (names more) ≡ true → Found n more) → (same || list_any (λ m. bytes_eq m n) (names more)) ≡ true → Found n (u ∷ more)
found_by n u more true e later h = record { number = 0; variable = u; place_is = rw e refl; stands = refl; routine_is = rw e refl; nesting_is = rw e refl }
found_by n u more false e later h =
    let r = later h in
    record { number = suc r.number; variable = r.variable; place_is = rw (e, r.place_is) refl; stands = r.stands; routine_is = rw (e, r.routine_is) refl; nesting_is = rw e r.nesting_is }

found : (n : List ℕ) (scope : List Variable) → list_any (λ m. bytes_eq m n) (names scope) ≡ true → Found n scope
found n [] h = absurd (cc)
found n (u ∷ more) h = found_by n u more (bytes_eq u.name n) refl (found n more) h

-- for each name of a variable in the scope, the first routine with that name is the variable's
abbrev pub AreRoutines : List (List ℕ × ℕ) → List Variable → Type 0
AreRoutines rs scope = (n : List ℕ) → list_any (λ m. bytes_eq m n) (names scope) ≡ true → routine_named n rs ≡ routine_named n (routines scope)

module _ (image : Image) (deep : Bool) (roots : Roots) (constants : List ℕ) (scope : List Variable) (is : IsScope image deep roots constants scope) (few : length scope ≤ memo_limit) (rs : List (List ℕ × ℕ)) (same : AreRoutines rs scope) (texts : List (List ℕ)) where
  pub use_gives : (items : List (List ℕ × Value)) (words : FrameUse) (depth k : ℕ) (n : List ℕ)
      → UseGives (scope_setting image deep scope) scope rs texts depth (scope_context roots items words constants scope) k n
  unfolding code_of deepest IsAccepted
  use_gives items words depth k n low accepted frames p =
      let f = found n scope accepted in
      let nesting = ap (λ o. unwrap_or o 0) f.nesting_is in
      let routine = same n accepted ∙ f.routine_is in
      rw routine (scope_gives image deep roots constants scope words items n f.number f.variable p depth k _ is few low f.place_is f.stands (omega arith) (omega (arith, ints)))

-- ---- the word that keeps a path holds the value of each field with the same path

and_front : (a b : Bool) → (a && b) ≡ true → a ≡ true
and_front a b h = grind arith

and_back : (a b : Bool) → (a && b) ≡ true → b ≡ true
and_back a b h = grind arith

-- a simple operand has one value
named_once : (l : SimpleOperand) (depth : ℕ) (b : CpuState) (x y : ValueOrError) → IsLeafIn l depth b x → IsLeafIn l depth b y → x ≡ y
named_once l depth b x y h g = grind arith

module _ (c : Context) (depth k : ℕ) (low : k ≤ frame_words) where
  word_named : (b : Bool) (x : ValueOrError) → (b ≡ true → IsLeafOf c depth k (Some (Word 0)) x) → IsLeafOf c depth k (if b then Some (Word 0) else None) x
  word_named b x h = grind arith

  field_named : (path : Option RootField) (a : Core) (f : List ℕ) (m : ValueOrError) → c.words.path ≡ path → IsLeafOf c depth k (leaf_of a c.words) m
      → IsLeafOf c depth k (field_leaf path a f) (field_of m f)
  unfolding name_value
  field_named None a f m kept named = tt
  field_named (Some path) (core.name n) f m kept named =
      word_named (bytes_eq n path.root && bytes_eq f path.field) (field_of m f) (λ h b fits. grind (arith, bytes_decides n path.root, bytes_decides f path.field, and_front, and_back, named_once, leaves_name.name c depth k n low b fits, named b fits, paths_give.names c depth k path kept b fits))
  field_named (Some path) _ f m kept named = tt

  pub selection_leaf : (b : Bool) (f : List ℕ) (a : Core) (m : ValueOrError) → IsLeafOf c depth k (leaf_of a c.words) m
      → LeafPart depth c k (selection b f a) (selected b f m c.environment)
  selection_leaf b f a m named = grind (arith, field_named)

-- the expression itself is visited
pub visited : (e : Tree) (env : Environment) → 1 ≤ (cost e env).visits
unfolding cost
visited e env = grind arith

-- in each scope the code gives the value of the expression
module _ (image : Image) (deep : Bool) (roots : Roots) (constants : List ℕ) (scope : List Variable) (is : IsScope image deep roots constants scope) (few : length scope ≤ memo_limit) (rs : List (List ℕ × ℕ)) (same : AreRoutines rs scope) (texts : List (List ℕ)) (depth : ℕ) where
  abbrev s : RunContext
  s = scope_setting image deep scope

  abbrev here : List (List ℕ × Value) → FrameUse → Context
  here xs ws = scope_context roots xs ws constants scope

  abbrev around : List (List ℕ × Value) → Environment
  around xs = environment_in roots xs scope

  -- a simple operand holds the value of the expression
  leaf_named : (e : Tree) (xs : List (List ℕ × Value)) (ws : FrameUse) (k : ℕ) → LeafPart depth (here xs ws) k (expanded e) (meaning e (around xs))
  unfolding expanded meaning
  leaf_named (tree.literal tree.null) xs ws k low = leaves_name.null (here xs ws) depth k
  leaf_named (tree.literal (tree.truth b)) xs ws k low = leaves_name.truth (here xs ws) depth k b
  leaf_named (tree.name n) xs ws k low = leaves_name.name (here xs ws) depth k n (omega arith)
  leaf_named (tree.select a f) xs ws k low = selection_leaf (here xs ws) depth k (omega arith) (is_variables a) f (expanded a) (meaning a (around xs)) (leaf_named a xs ws k low) low
  leaf_named (tree.call n (more_trees a no_trees)) xs ws k low = grind arith
  leaf_named (tree.method a n (more_trees x (more_trees p no_trees))) xs ws k low = grind arith
  leaf_named (tree.method a n (more_trees x (more_trees p (more_trees t no_trees)))) xs ws k low = grind arith
  leaf_named _ xs ws k low = tt

  -- a kept list with the same literals has the value of the list
  kept_means : (items : Trees) (xs : List (List ℕ × Value)) (ws : FrameUse) (i : ℕ) → kept_place (expanded_trees items) ws.lists ≡ Some i
      → (list : Cores) × (slice_get ws.lists i ≡ Some list) × (list_value list ≡ list_literal (meanings items (around xs)))
  kept_means items xs ws i is =
      let found = kept_is (expanded_trees items) ws.lists i is in
      (found.list, found.stands, ap list_literal (items_mean found.list items (around xs) found.same))

  mutual
    unfolding expanded meaning cost IsAccepted

    computes : (e : Tree) (xs : List (List ℕ × Value)) (ws : FrameUse) (k : ℕ) → HasLiterals e
        → Part s scope rs texts depth (here xs ws) k (expanded e) (meaning e (around xs)) (cost e (around xs))
    computes (tree.literal l) xs ws k h = literal_part s scope rs texts depth (here xs ws) k l h
    computes (tree.name n) xs ws k h = name_part s scope rs texts depth (here xs ws) k n
    computes (tree.select a f) xs ws k h =
        selection_part s scope rs texts depth (here xs ws) k (is_variables a) (expanded a) f (meaning a (around xs)) (cost a (around xs)) (use_gives image deep roots constants scope is few rs same texts xs ws depth k f) (leaf_named (tree.select a f) xs ws k) (leaf_named a xs ws k) (computes a xs ws k h)
    computes (tree.index a b) xs ws k h =
        index_part s scope rs texts depth (here xs ws) k (expanded a) (expanded b) (meaning a (around xs)) (meaning b (around xs)) (cost a (around xs)) (cost b (around xs)) (leaf_named a xs ws k) (leaf_named b xs ws (k + 1)) (computes a xs ws k h.0) (computes b xs ws (k + 1) h.1)
    computes (tree.unary op a) xs ws k h =
        unary_part s scope rs texts depth (here xs ws) k op (expanded a) (meaning a (around xs)) (cost a (around xs)) (leaf_named a xs ws k) (computes a xs ws k h)
    computes (tree.binary op a b) xs ws k h =
        binary_part s scope rs texts depth (here xs ws) k (expanded a) (expanded b) (meaning a (around xs)) (meaning b (around xs)) (cost a (around xs)) (cost b (around xs)) (leaf_named a xs ws k) (leaf_named b xs ws (k + 1)) (computes a xs ws k h.0) (computes b xs ws (k + 1) h.1) op
    computes (tree.ternary t a b) xs ws k h =
        ternary_part s scope rs texts depth (here xs ws) k (subexpression (expanded t) (meaning t (around xs)) (cost t (around xs))) (subexpression (expanded a) (meaning a (around xs)) (cost a (around xs))) (subexpression (expanded b) (meaning b (around xs)) (cost b (around xs))) (computes t xs ws k h.0) (computes a xs ws k h.1) (computes b xs ws k h.2)
    computes (tree.list items) xs ws k h =
        list_part s scope rs texts depth (here xs ws) k (expanded_trees items) (meanings items (around xs)) (costs items (around xs)) (kept_means items xs ws) (items_compute items xs ws k h)
    computes (tree.map es) xs ws k h =
        map_part s scope rs texts depth (here xs ws) k (expanded_entries es) (entry_meanings es (around xs)) (entry_costs es (around xs)) (entries_compute es xs ws k h)
    computes (tree.call n no_trees) xs ws k h = λ ready p. absurd ready.accepted
    computes (tree.call n (more_trees a no_trees)) xs ws k h =
        call_part s scope rs texts depth (here xs ws) k (is_has n) (field_name a) n (subexpression (expanded_operand a) (operand_meaning a (around xs)) (operand_cost a (around xs))) (subexpression (expanded a) (meaning a (around xs)) (cost a (around xs))) (operand_computes a xs ws k h.0) (leaf_named a xs ws k) (computes a xs ws k h.0)
    computes (tree.call n (more_trees a (more_trees b more))) xs ws k h = λ ready p. absurd ready.accepted
    computes (tree.method a n no_trees) xs ws k h =
        method_part s scope rs texts depth (here xs ws) k n (expanded a) (meaning a (around xs)) (cost a (around xs)) (leaf_named a xs ws k) (computes a xs ws k h.0)
    computes (tree.method a n (more_trees b no_trees)) xs ws k h =
        text_method_part s scope rs texts depth (here xs ws) k n (expanded a) (expanded b) (meaning a (around xs)) (meaning b (around xs)) (cost a (around xs)) (cost b (around xs)) (leaf_named a xs ws k) (leaf_named b xs ws (k + 1)) (computes a xs ws k h.0) (computes b xs ws (k + 1) h.1.0)
    computes (tree.method a n (more_trees x (more_trees p no_trees))) xs ws k h =
        fold_part s scope rs texts depth (here xs ws) k (macro_named n) (name_of x) n (subexpression (expanded a) (meaning a (around xs)) (cost a (around xs))) (expanded x) (in_macro (expanded p) (λ i v. meaning p (bind i v (around xs))) (λ i v. cost p (bind i v (around xs)))) (computes a xs ws k h.0) (λ i v. computes p ((i, v) ∷ xs) (with_name i (k + 4) ws) (k + 5) h.1.1.0)
    computes (tree.method a n (more_trees x (more_trees p (more_trees t no_trees)))) xs ws k h =
        fold_map_part s scope rs texts depth (here xs ws) k (is_map n) (name_of x) n (subexpression (expanded a) (meaning a (around xs)) (cost a (around xs))) (expanded x) (in_macro (expanded p) (λ i v. meaning p (bind i v (around xs))) (λ i v. cost p (bind i v (around xs)))) (in_macro (expanded t) (λ i v. meaning t (bind i v (around xs))) (λ i v. cost t (bind i v (around xs)))) (computes a xs ws k h.0) (λ i v. computes p ((i, v) ∷ xs) (with_name i (k + 4) ws) (k + 5) h.1.1.0) (λ i v. computes t ((i, v) ∷ xs) (with_name i (k + 4) ws) (k + 5) h.1.1.1.0)
    computes (tree.method a n (more_trees x (more_trees p (more_trees t (more_trees u more))))) xs ws k h = λ ready q. absurd ready.accepted

    operand_computes : (a : Tree) (xs : List (List ℕ × Value)) (ws : FrameUse) (k : ℕ) → HasLiterals a
        → IfSome (field_name a) (λ f. LeafPart depth (here xs ws) k (expanded_operand a) (operand_meaning a (around xs)) × Part s scope rs texts depth (here xs ws) k (expanded_operand a) (operand_meaning a (around xs)) (operand_cost a (around xs)))
    operand_computes (tree.select a f) xs ws k h = (leaf_named a xs ws k, computes a xs ws k h)
    operand_computes _ xs ws k h = tt

    items_compute : (items : Trees) (xs : List (List ℕ × Value)) (ws : FrameUse) (k : ℕ) → HaveLiterals items
        → ItemsPart s scope rs texts depth (here xs ws) k (expanded_trees items) (meanings items (around xs)) (costs items (around xs))
    items_compute no_trees xs ws k h = items_none s scope rs texts depth (here xs ws) k
    items_compute (more_trees a more) xs ws k h =
        items_more s scope rs texts depth (here xs ws) k (expanded a) (expanded_trees more) (meaning a (around xs)) (meanings more (around xs)) (cost a (around xs)) (costs more (around xs)) (visited a (around xs)) (computes a xs ws (k + 1) h.0) (items_compute more xs ws k h.1)

    entries_compute : (es : TreeEntries) (xs : List (List ℕ × Value)) (ws : FrameUse) (k : ℕ) → EntriesHaveLiterals es
        → EntriesPart s scope rs texts depth (here xs ws) k (expanded_entries es) (entry_meanings es (around xs)) (entry_costs es (around xs))
    entries_compute no_entries xs ws k h = entries_none s scope rs texts depth (here xs ws) k
    entries_compute (more_entries key v more) xs ws k h =
        entries_more s scope rs texts depth (here xs ws) k (subexpression (expanded key) (meaning key (around xs)) (cost key (around xs))) (subexpression (expanded v) (meaning v (around xs)) (cost v (around xs))) (expanded_entries more) (entry_meanings more (around xs)) (entry_costs more (around xs)) (visited key (around xs)) (visited v (around xs)) (computes key xs ws (k + 1) h.0) (computes v xs ws (k + 2) h.1) (entries_compute more xs ws k h.2)

-- the same with later variables after the scope
module _ (image : Image) (deep : Bool) (roots : Roots) (constants : List ℕ) (scope later : List Variable) (rs : List (List ℕ × ℕ))
    (same : AreRoutines rs scope) (texts : List (List ℕ)) (items : List (List ℕ × Value)) (words : FrameUse) (depth k p : ℕ) (e : Core)
    (is : IsScope image deep roots constants scope) (few : length scope ≤ memo_limit) (literals : HasLiterals (plain_tree e)) where
  abbrev setting : RunContext
  setting = scope_setting image deep scope

  abbrev context : Context
  context = scope_context roots items words constants (scope ++ later)

  abbrev env : Environment
  env = environment_in roots items scope

  module _ (ready : Ready setting scope texts context depth k e (cost (plain_tree e) env).is_deep) where
    pub part_gives : ComputesPart setting p (code_of e texts rs words k p) context depth k (meaning (plain_tree e) env) (cost (plain_tree e) env)
    part_gives = grind (arith, expanded_again, computes, later_gives)

    pub all_gives : Computes setting p (code_of e texts rs words k p) context depth k (meaning (plain_tree e) env) (cost (plain_tree e) env)
    all_gives = gives_within setting p (code_of e texts rs words k p) context depth k _ _ _ _ _ (omega arith) (omega arith) part_gives

pub code_gives : CodeGives
code_gives image deep roots constants scope = λ later. all_gives image deep roots constants scope later (routines scope) (λ n h. refl)
