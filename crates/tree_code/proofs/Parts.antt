-- The code of each construct, given that the code of its parts gives their values within their budgets.
use Rattle.tree_code.proofs.Prelude.{◌≡◌, ℕ, ◌+◌, ◌-◌, ◌*◌, ◌<◌, ◌≤◌, false, List, ◌++◌, Option, arith, Bool, true, ◌||◌, [], ◌∷◌, length, Some, None, refl, Insn, Register, is_frame_pointer, result_size, items_size, size_of as value_size, ValueOrError, value, null, Value, boolean, int, text, Items, no_items, item, list_of, Truth, Yes, No, chosen, truth, ternary_of, and_of, not_of, or_of, ComputesPart, Ready, TextsStand, nestings, names, Cost, ◌and◌, node, nothing, spent_by, literal_cost, name_or_text, kept, kept_size, operand_code, operands_code, and_code, or_code, ternary_code, Context, Evaluates, RunContext, AbsorbingGives, text_length, HasText, AreApart, Combines, Converts, IsLeafOf, size, SimpleOperand, logic_gives, one_gives, two_gives, gives_within, is_utf8-from_IsUtf8, IsWellFormedLiteral, R1, R2, R6, R7, sum_of, difference_of, negation_of, product_of, quotient_of, remainder_of, Core, Cores, CoreEntries, more_cores, no_cores, more_core_entries, no_core_entries, name_value, Function, Size, String, Dyn, TextTest, function_of, string_of, text_test_of, literal_of, list_literal, map_literal, field_of, has_of, index_of, deepest, need, deepest_of, entries_deepest, entries_need, needs, joined_length, Variable, leaf_gives, leaves_give, selection_gives, code_of, function_code, leaf_of, test_code, texts_of, kept_or, binary_tail, entries_code, items_code, texts_of_each, texts_of_entries, address_of, IsAccepted, AreAccepted, AreEntriesAccepted, BinaryOperator, UnaryOperator, equal_of, greater_equal_of, greater_of, less_equal_of, less_of, member_of, unequal_of, binary_of, unary_of, difference_gives, sum_gives, comparison_gives, products_give, negation_gives, EntriesGive, ItemsGive, list_gives, map_gives, looser, part_charge_per_unit, word_limit, frame_words, record_limit, part_steps_per_visit, kept_lists_give, kept_or_made, kept_place, list_front, list_value, slice_get, subst, sym}
use Rattle.tree_code.proofs.Subexpressions.{Subexpression, Valued, valued}
use Rattle.expression_code.proofs.Sites.{Site, Budget, site_at, in_frame, budget, BuildsAt}
use Rattle.cel_reader.specs.Tree as tree
use Rattle.value_store.specs.Calls.{joined}
use Rattle.cel_macros.specs.CoreTree as core
use Rattle.cel_macros.specs.Functions.{size_of}
use Rattle.cel_reader.specs.declared.operator.BinaryOperator.TheVariants as op
use Rattle.cel_reader.specs.declared.operator.UnaryOperator.TheVariants as one_operand

-- ---- the code of constructs, within the budgets of their parts

-- ---- numbers

pub result_size_least : (x : ValueOrError) → 1 ≤ result_size x
result_size_least (value null) = omega arith
result_size_least _ = omega arith

pub text_within : (x : ValueOrError) → text_length x ≤ result_size x
text_within x = grind arith

module _ (s : RunContext) (c : Context) (depth k : ℕ) where
  -- a construct without parts
  pub leaf : (p : ℕ) (piece : List Insn) (x : ValueOrError) (n m : ℕ) (t : Cost) → n ≤ 112 → 1 ≤ t.visits → m ≤ 112 + part_charge_per_unit * t.sizes
      → Evaluates s p piece c depth k x n m → ComputesPart s p piece c depth k x t
  leaf p piece x n m t hn hv hm g = gives_within s p piece c depth k x n m _ _ (omega arith) (omega arith) g

  -- a part in a register, followed by a piece
  pub one : (p : ℕ) (l : Option SimpleOperand) (operand piece : List Insn) (r : Register) (x z : ValueOrError) (n m : ℕ) (part t : Cost) → is_frame_pointer r ≡ false → n ≤ 111 → m ≤ 112 + part_charge_per_unit * result_size z → 1 + part.visits ≤ t.visits → result_size z + part.sizes ≤ t.sizes → IsLeafOf c depth k l x → ComputesPart s p operand c depth k x part → Converts s (p + size (operand_code l operand r)) piece r c depth k x z n m → ComputesPart s p (operand_code l operand r ++ piece) c depth k z t
  one p l operand piece r x z n m part t free hn hm hv hs leaf g h =
      gives_within s p (operand_code l operand r ++ piece) c depth k z _ _ _ _ (omega arith) (omega arith) (one_gives s p l operand piece r c depth k x z _ _ n m free leaf g h)

  -- two parts in registers, followed by a piece
  pub two : (p : ℕ) (l : Option SimpleOperand) (left : List Insn) (m : Option SimpleOperand) (right piece : List Insn) (r q : Register) (x y z : ValueOrError) (n w : ℕ) (first second : Cost) → k < word_limit → AreApart r q → n ≤ 109 → w ≤ 112 + part_charge_per_unit * result_size z → IsLeafOf c depth k l x → ComputesPart s p left c depth k x first → IsLeafOf c depth (k + 1) m y → ComputesPart s (p + kept_size l left) right c depth (k + 1) y second → Combines s (p + size (operands_code l left m right k r q)) piece r q c depth k x y z n w → ComputesPart s p (operands_code l left m right k r q ++ piece) c depth k z (node z and first and second)
  two p l left m right piece r q x y z n w first second low apart hn hw leaf g leaf_right h t =
      gives_within s p (operands_code l left m right k r q ++ piece) c depth k z _ _ _ _ (omega arith) (omega arith) (two_gives s p k l left m right piece r q c depth x y z _ _ _ _ n w low apart leaf g leaf_right h t)

  -- two parts; the left one may decide
  pub absorbing : (p : ℕ) (operator : List Insn → List Insn → ℕ → List Insn) (f : ValueOrError → ValueOrError → ValueOrError) (law : AbsorbingGives operator f) (left right : Valued) → k < word_limit → ComputesPart s p left.code c depth k left.value left.cost → ComputesPart s (p + size left.code + 2) right.code c depth (k + 1) right.value right.cost → ComputesPart s p (operator left.code right.code k) c depth k (f left.value right.value) (node (f left.value right.value) and left.cost and right.cost)
  absorbing p operator f law left right low g h =
      gives_within s p (operator left.code right.code k) c depth k (f left.value right.value) _ _ _ _ (omega arith) (omega arith) (law s p k left.code right.code c depth left.value right.value _ _ _ _ low g h)

  chosen_spent : (t : Truth) (first one_side other : Cost) (x : ℕ) → (part_charge_per_unit * spent_by first - 8) + chosen t (part_charge_per_unit * spent_by one_side - 8) (part_charge_per_unit * spent_by other - 8) 0 ≤ part_charge_per_unit * (8 * (1 + first.visits + (chosen t one_side other nothing).visits) + (x + first.sizes + (chosen t one_side other nothing).sizes)) - 8
  chosen_spent t first one_side other x = grind arith

  pub branches : (p : ℕ) (condition on_yes on_no : Valued) → k ≤ frame_words → ComputesPart s p condition.code c depth k condition.value condition.cost → (truth condition.value ≡ Yes → ComputesPart s (p + size condition.code + 2) on_yes.code c depth k on_yes.value on_yes.cost) → (truth condition.value ≡ No → ComputesPart s (p + size condition.code + 2 + size on_yes.code + 1) on_no.code c depth k on_no.value on_no.cost) → ComputesPart s p (ternary_code condition.code on_yes.code on_no.code) c depth k (ternary_of condition.value on_yes.value on_no.value) (node (ternary_of condition.value on_yes.value on_no.value) and condition.cost and chosen (truth condition.value) on_yes.cost on_no.cost nothing)
  branches p condition on_yes on_no low g h i =
      gives_within s p (ternary_code condition.code on_yes.code on_no.code) c depth k (ternary_of condition.value on_yes.value on_no.value) _ _ _ _ (grind arith) (chosen_spent (truth condition.value) condition.cost on_yes.cost on_no.cost (result_size (ternary_of condition.value on_yes.value on_no.value)))
      (logic_gives.ternary s p k condition.code on_yes.code on_no.code c depth condition.value on_yes.value on_no.value _ _ _ _ _ _ low g h i)

pub or_left : (a b : Bool) → a ≡ true → (a || b) ≡ true
or_left a b e = grind arith

pub or_right : (a b : Bool) → b ≡ true → (a || b) ≡ true
or_right a b e = grind arith

-- the texts of the first part, and of the second
pub texts_front : (constants : List ℕ) (texts xs ys : List (List ℕ)) → TextsStand constants texts (xs ++ ys) → TextsStand constants texts xs
texts_front constants texts [] ys h = tt
texts_front constants texts (x ∷ xs) ys h = (h.0, texts_front constants texts xs ys h.1)

pub texts_back : (constants : List ℕ) (texts xs ys : List (List ℕ)) → TextsStand constants texts (xs ++ ys) → TextsStand constants texts ys
texts_back constants texts [] ys h = h
texts_back constants texts (x ∷ xs) ys h = texts_back constants texts xs ys h.1

-- ---- what is concatenated is not larger than the result

item_size : (v : Value) → 1 ≤ value_size v
item_size null = omega arith
item_size _ = omega arith

items_many : (is : Items) → length (list_of is) ≤ items_size is
items_many no_items = omega arith
items_many (item v more) = let h = item_size v in let rest = items_many more in omega arith

pub joined_within : (x y : ValueOrError) → joined_length (joined (Some x) (Some y)) ≤ result_size (sum_of x y)
joined_within x y = grind (arith, items_many)

-- if all is ready, the code gives the value within its budget, at any slot
abbrev pub Part : RunContext → List Variable → List (List ℕ × ℕ) → List (List ℕ) → ℕ → Context → ℕ → Core → ValueOrError → Cost → Type 0
Part s scope rs texts depth c k e x t = Ready s scope texts c depth k e t.is_deep → (p : ℕ) → ComputesPart s p (code_of e texts rs c.words k p) c depth k x t

-- if the expression is a simple operand, that holds the value
abbrev pub LeafPart : ℕ → Context → ℕ → Core → ValueOrError → Type 0
LeafPart depth c k e x = k ≤ word_limit → IsLeafOf c depth k (leaf_of e c.words) x

-- the registers of two operands of a helper
pub first_two : AreApart R1 R2
first_two = record { first = refl; second = refl; apart = refl; back = refl }

-- the registers of exchanged operands, and of operands that helpers do not change
exchanged : AreApart R2 R1
exchanged = record { first = refl; second = refl; apart = refl; back = refl }

kept_two : AreApart R6 R7
kept_two = record { first = refl; second = refl; apart = refl; back = refl }

builds_within : (site : Site) (piece : List Insn) (f : ValueOrError → ValueOrError) (t u : Budget) → t.steps ≤ u.steps
    → t.charge ≤ u.charge → BuildsAt site piece f t → BuildsAt site piece f u
builds_within site piece f t u hn hm g = record { runs = λ b x has made named. looser site.setting u.steps u.charge hn hm (g.runs b x has made named) }

-- what the items of a list or the entries of a map need: they are accepted, and their frames, words and texts are
-- available
pub record AllReady (s : RunContext) (texts : List (List ℕ)) (c : Context) (depth k : ℕ)
    (Accepted : Type 0) (opened needed : ℕ) (used : List (List ℕ)) (deep : Bool) : Type 0 where
  pub accepted : Accepted
  pub frames : depth + opened ≤ record_limit
  pub low : k < word_limit
  pub room : k + needed ≤ word_limit
  pub texts_stand : TextsStand c.constants texts used
  pub may : deep ≡ true → s.is_deep ≡ true

-- if all is ready, the items are appended and the entries put within 120 steps a visit and 15 times the cost
abbrev pub ItemsPart : RunContext → List Variable → List (List ℕ × ℕ) → List (List ℕ) → ℕ → Context → ℕ → Cores → List ValueOrError → Cost → Type 0
ItemsPart s scope rs texts depth c k es xs t =
    AllReady s texts c depth k (AreAccepted es (names scope)) (deepest_of es (nestings scope)) (1 + needs es) (texts_of_each es) t.is_deep
    → (p : ℕ) → ItemsGive s p (items_code es texts rs c.words k p) c depth k xs (part_steps_per_visit * t.visits) (part_charge_per_unit * spent_by t)

abbrev pub EntriesPart : RunContext → List Variable → List (List ℕ × ℕ) → List (List ℕ) → ℕ → Context → ℕ → CoreEntries → List (ValueOrError × ValueOrError) → Cost → Type 0
EntriesPart s scope rs texts depth c k es xs t =
    AllReady s texts c depth k (AreEntriesAccepted es (names scope)) (entries_deepest es (nestings scope)) (entries_need es) (texts_of_entries es) t.is_deep
    → (p : ℕ) → EntriesGive s p (entries_code es texts rs c.words k p) c depth k xs (part_steps_per_visit * t.visits) (part_charge_per_unit * spent_by t)

module _ (s : RunContext) (scope : List Variable) (rs : List (List ℕ × ℕ)) (texts : List (List ℕ)) (depth : ℕ) (c : Context) (k : ℕ) where
  -- the code at a slot, with the words from k on
  abbrev code : Core → ℕ → ℕ → List Insn
  code e j p = code_of e texts rs c.words j p

  -- the number of frames that the variables in it open
  abbrev opened : Core → ℕ
  opened e = deepest e (nestings scope)

  -- ---- without parts

  pub literal_part : (l : tree.Literal) → IsWellFormedLiteral l → Part s scope rs texts depth c k (core.literal l) (literal_of l) (node (literal_of l) and literal_cost l)
  unfolding code_of need texts_of
  literal_part tree.null h ready p = let room = ready.room in leaf s c depth k p _ (value null) 1 0 (node (value null) and literal_cost tree.null) (omega arith) (omega arith) (omega arith) (leaves_give.null s p c depth k (omega arith))
  literal_part (tree.truth b) h ready p = let room = ready.room in leaf s c depth k p _ (value (boolean b)) 1 0 (node (value (boolean b)) and literal_cost (tree.truth b)) (omega arith) (omega arith) (omega arith) (leaves_give.truth s p c depth k b (omega arith))
  literal_part (tree.int z) h ready p = let room = ready.room in leaf s c depth k p _ (value (int z)) 2 1 (node (value (int z)) and literal_cost (tree.int z)) (omega arith) (omega arith) (omega arith) (leaves_give.int s p c depth k z (omega arith) h)
  literal_part (tree.text t) h ready p = let room = ready.room in let stands = ready.texts_stand in leaf s c depth k p _ (value (text t)) 3 (1 + length t) (node (value (text t)) and name_or_text t) (omega arith) (omega arith) (omega arith) (leaves_give.text s p c depth k (address_of texts t) t (omega arith) stands.0 (is_utf8-from_IsUtf8 t h))

  pub name_part : (n : List ℕ) → Part s scope rs texts depth c k (core.name n) (name_value n c.environment) (node (name_value n c.environment))
  unfolding code_of need texts_of
  name_part n ready p = let room = ready.room in leaf s c depth k p _ (name_value n c.environment) 1 0 (node (name_value n c.environment)) (omega arith) (omega arith) (omega arith) (leaves_give.name s p c depth k n (omega arith))

  -- ---- one part

  key_stands : (a : Core) (f : List ℕ) → TextsStand c.constants texts (texts_of a ++ f ∷ []) → HasText c.constants (address_of texts f) f
  key_stands a f h = let last = texts_back c.constants texts (texts_of a) (f ∷ []) h in last.0

  -- a kept path is a simple operand
  kept_part : (l : Option SimpleOperand) (piece : List Insn) (x : ValueOrError) (t : Cost) (p : ℕ) → 1 ≤ t.visits → IsLeafOf c depth k l x
      → ComputesPart s p piece c depth k x t → ComputesPart s p (kept_or l piece) c depth k x t
  kept_part (Some l) piece x t p some named given = leaf s c depth k p _ x 1 0 t (omega arith) some (omega arith) (leaf_gives s p c depth k l x named)
  kept_part None piece x t p some named given = given

  pub select_part : (a : Core) (f : List ℕ) (x : ValueOrError) (t : Cost) → LeafPart depth c k (core.select a f) (field_of x f) → LeafPart depth c k a x → Part s scope rs texts depth c k a x t → Part s scope rs texts depth c k (core.select a f) (field_of x f) (node (field_of x f) and (t and name_or_text f))
  unfolding code_of need deepest texts_of IsAccepted
  select_part a f x t own named part ready p =
      kept_part (leaf_of (core.select a f) c.words) _ (field_of x f) (node (field_of x f) and (t and name_or_text f)) p (omega arith) (own (omega arith))
      (one s c depth k p (leaf_of a c.words) (code a k p) _ R1 x (field_of x f) 3 1 t (node (field_of x f) and (t and name_or_text f)) refl (omega arith)
      (omega arith) (omega arith) (omega arith) (named (omega arith)) (part (grind (arith, texts_front, or_left)) p)
      (selection_gives.field s _ c depth k x (address_of texts f) f (omega arith) (key_stands a f ready.texts_stand)))

  pub has_part : (a : Core) (f : List ℕ) (x : ValueOrError) (t : Cost) → LeafPart depth c k a x → Part s scope rs texts depth c k a x t
      → Part s scope rs texts depth c k (core.has a f) (has_of x f) (node (has_of x f) and (t and name_or_text f))
  unfolding code_of need deepest texts_of IsAccepted
  has_part a f x t named part ready p =
      one s c depth k p (leaf_of a c.words) (code a k p) _ R1 x (has_of x f) 3 1 t (node (has_of x f) and (t and name_or_text f)) refl (omega arith)
      (omega arith) (omega arith) (omega arith) (named (omega arith)) (part (grind (arith, texts_front, or_left)) p)
      (selection_gives.has s _ c depth k x (address_of texts f) f (omega arith) (key_stands a f ready.texts_stand))

  -- a function of the value of a piece
  pub function_part : (g : Function) (l : Option SimpleOperand) (piece : List Insn) (x : ValueOrError) (t : Cost) (p : ℕ) → k ≤ word_limit → IsLeafOf c depth k l x → ComputesPart s p piece c depth k x t → ComputesPart s p (function_code (Some g) l piece) c depth k (function_of (Some g) x) (node (function_of (Some g) x) and t)
  function_part Size l piece x t p low named part =
      one s c depth k p l piece _ R1 x (size_of x) 1 1 t (node (size_of x) and t) refl (omega arith) (omega arith) (omega arith) (omega arith) named part (selection_gives.size s _ c depth k x (omega arith))
  function_part String l piece x t p low named part = let short = text_within (string_of x) in one s c depth k p l piece _ R6 x (string_of x) 5 (2 + text_length (string_of x)) t (node (string_of x) and t) refl (omega arith) (omega arith) (omega arith) (omega arith) named part (selection_gives.string s _ c depth k x (omega arith))
  function_part Dyn l piece x t p low named part = gives_within s p piece c depth k x _ _ _ _ (omega arith) (omega arith) part

  -- ---- two parts

  pub index_part : (a b : Core) (x y : ValueOrError) (t u : Cost) → LeafPart depth c k a x → LeafPart depth c (k + 1) b y → Part s scope rs texts depth c k a x t → Part s scope rs texts depth c (k + 1) b y u → Part s scope rs texts depth c k (core.index a b) (index_of x y) (node (index_of x y) and t and u)
  unfolding code_of need deepest texts_of IsAccepted
  index_part a b x y t u named named_right first second ready p =
      two s c depth k p (leaf_of a c.words) (code a k p) (leaf_of b c.words) _ _ R1 R2 x y (index_of x y) 1 1 t u (omega arith) first_two (omega arith)
      (omega arith) (named (omega arith))
      (first (grind (arith, texts_front, or_left)) p) (named_right (omega arith)) (second (grind (arith, texts_back, or_right)) _)
      (selection_gives.index s _ k c depth x y (omega arith))

  pub test_part : (g : TextTest) (l : Option SimpleOperand) (left : List Insn) (m : Option SimpleOperand) (right : List Insn) (x y : ValueOrError) (t u : Cost) (p : ℕ) → k < word_limit → IsLeafOf c depth k l x → ComputesPart s p left c depth k x t → IsLeafOf c depth (k + 1) m y → ComputesPart s (p + kept_size l left) right c depth (k + 1) y u → ComputesPart s p (test_code (Some g) l left m right k) c depth k (text_test_of (Some g) x y) (node (text_test_of (Some g) x y) and t and u)
  test_part g l left m right x y t u p low named first named_right second =
      two s c depth k p l left m right _ R1 R2 x y (text_test_of (Some g) x y) 1 1 t u low first_two (omega arith) (omega arith) named first named_right second (selection_gives.test g s _ k c depth x y (omega arith))

  -- ---- three parts; the condition chooses one of two

  pub ternary_part : (condition on_yes on_no : Subexpression) → Part s scope rs texts depth c k condition.core condition.value condition.cost → Part s scope rs texts depth c k on_yes.core on_yes.value on_yes.cost → Part s scope rs texts depth c k on_no.core on_no.value on_no.cost → Part s scope rs texts depth c k (core.ternary condition.core on_yes.core on_no.core) (ternary_of condition.value on_yes.value on_no.value) (node (ternary_of condition.value on_yes.value on_no.value) and condition.cost and chosen (truth condition.value) on_yes.cost on_no.cost nothing)
  unfolding code_of need deepest texts_of IsAccepted
  ternary_part condition on_yes on_no first second third ready p =
      let q = p + size (code condition.core k p) + 2 in
      branches s c depth k p (valued (code condition.core k p) condition.value condition.cost) (valued (code on_yes.core k q) on_yes.value on_yes.cost) (valued (code on_no.core k (q + size (code on_yes.core k q) + 1)) on_no.value on_no.cost) (omega arith)
      (first (grind (arith, texts_front, or_left)) p) (λ e. second (grind (arith, texts_front, texts_back, or_right)) _)
      (λ e. third (grind (arith, texts_back, or_right)) _)

  -- ---- operators

  pub unary_part : (u : UnaryOperator) (a : Core) (x : ValueOrError) (t : Cost) → LeafPart depth c k a x → Part s scope rs texts depth c k a x t
      → Part s scope rs texts depth c k (core.unary u a) (unary_of u x) (node (unary_of u x) and t)
  unfolding code_of need deepest texts_of IsAccepted
  unary_part one_operand.Not a x t named part ready p =
      one s c depth k p (leaf_of a c.words) (code a k p) _ R1 x (not_of x) 1 1 t (node (not_of x) and t) refl (omega arith) (omega arith) (omega arith)
      (omega arith) (named (omega arith)) (part (grind arith) p) (logic_gives.not s _ c depth k x (omega arith))
  unary_part one_operand.Negate a x t named part ready p =
      one s c depth k p (leaf_of a c.words) (code a k p) _ R6 x (negation_of x) 11 3 t (node (negation_of x) and t) refl (omega arith) (omega arith)
      (omega arith) (omega arith) (named (omega arith)) (part (grind arith) p) (negation_gives s _ c depth k x (omega arith))

  module _ (a b : Core) (x y : ValueOrError) (t u : Cost) (named : LeafPart depth c k a x) (named_right : LeafPart depth c (k + 1) b y) (first : Part s scope rs texts depth c k a x t) (second : Part s scope rs texts depth c (k + 1) b y u) where
    -- both are ready if the whole is
    pub record Sides : Type 0 where
      pub low : k < word_limit
      pub left : (p : ℕ) → ComputesPart s p (code a k p) c depth k x t
      pub right : (p : ℕ) → ComputesPart s p (code b (k + 1) p) c depth (k + 1) y u

    sides : (o : BinaryOperator) (z : ValueOrError) → Ready s scope texts c depth k (core.binary o a b) (node z and t and u).is_deep → Sides
    unfolding need deepest texts_of IsAccepted
    sides o z ready = record { low = omega arith; left = first (grind (arith, texts_front, or_left)); right = second (grind (arith, texts_back, or_right)) }

    -- an operator, by the code after its operands
    by_tail : (tail : List Insn) (r q : Register) (z : ValueOrError) (n m : ℕ) → AreApart r q → n ≤ 109 → m ≤ 112 + part_charge_per_unit * result_size z → Sides
        → (p : ℕ) → ((i : ℕ) → k < frame_words → Combines s i tail r q c depth k x y z n m)
        → ComputesPart s p (operands_code (leaf_of a c.words) (code a k p) (leaf_of b c.words) (code b (k + 1) (p + kept_size (leaf_of a c.words) (code a k p))) k r q ++ tail) c depth k z (node z and t and u)
    by_tail tail r q z n m apart hn hm both p combines = let low = both.low in two s c depth k p (leaf_of a c.words) (code a k p) (leaf_of b c.words) _ tail r q x y z n m t u low apart hn hm (named (omega arith)) (both.left p) (named_right (omega arith)) (both.right _) (combines _ (omega arith))

    -- the right side of an operator that may skip it
    abbrev right_code : ℕ → List Insn
    right_code p = code b (k + 1) (p + (size (code a k p) + 2))

    pub binary_part : (o : BinaryOperator) → Part s scope rs texts depth c k (core.binary o a b) (binary_of o x y) (node (binary_of o x y) and t and u)
    unfolding code_of binary_tail
    binary_part op.Or ready p =
        let both = sides op.Or (or_of x y) ready in absorbing s c depth k p or_code or_of logic_gives.or (valued (code a k p) x t) (valued (right_code p) y u) both.low (both.left p) (grind (arith, both.right (p + (size (code a k p) + 2))))
    binary_part op.And ready p =
        let both = sides op.And (and_of x y) ready in absorbing s c depth k p and_code and_of logic_gives.and (valued (code a k p) x t) (valued (right_code p) y u) both.low (both.left p) (grind (arith, both.right (p + (size (code a k p) + 2))))
    binary_part op.Add ready p = let short = joined_within x y in by_tail (binary_tail op.Add) R6 R7 (sum_of x y) 20 (5 + joined_length (joined (Some x) (Some y))) kept_two (omega arith) (omega arith) (sides op.Add (sum_of x y) ready) p (λ q low. sum_gives s q k c depth x y low)
    binary_part op.Less ready p =
        by_tail (binary_tail op.Less) R1 R2 (less_of x y) 1 1 first_two (omega arith) (omega arith) (sides op.Less (less_of x y) ready) p (λ q low. comparison_gives.less s q k c depth x y low)
    binary_part op.LessEqual ready p =
        by_tail (binary_tail op.LessEqual) R2 R1 (less_equal_of x y) 3 2 exchanged (omega arith) (omega arith) (sides op.LessEqual (less_equal_of x y) ready) p (λ q low. comparison_gives.less_equal s q k c depth x y low)
    binary_part op.GreaterEqual ready p =
        by_tail (binary_tail op.GreaterEqual) R1 R2 (greater_equal_of x y) 3 2 first_two (omega arith) (omega arith) (sides op.GreaterEqual (greater_equal_of x y) ready) p (λ q low. comparison_gives.greater_equal s q k c depth x y low)
    binary_part op.Greater ready p =
        by_tail (binary_tail op.Greater) R2 R1 (greater_of x y) 1 1 exchanged (omega arith) (omega arith) (sides op.Greater (greater_of x y) ready) p (λ q low. comparison_gives.greater s q k c depth x y low)
    binary_part op.Equal ready p =
        by_tail (binary_tail op.Equal) R1 R2 (equal_of x y) 1 1 first_two (omega arith) (omega arith) (sides op.Equal (equal_of x y) ready) p (λ q low. comparison_gives.equal s q k c depth x y low)
    binary_part op.NotEqual ready p =
        by_tail (binary_tail op.NotEqual) R1 R2 (unequal_of x y) 3 2 first_two (omega arith) (omega arith) (sides op.NotEqual (unequal_of x y) ready) p (λ q low. comparison_gives.unequal s q k c depth x y low)
    binary_part op.In ready p =
        by_tail (binary_tail op.In) R1 R2 (member_of x y) 1 1 first_two (omega arith) (omega arith) (sides op.In (member_of x y) ready) p (λ q low. comparison_gives.member s q k c depth x y low)
    binary_part op.Subtract ready p =
        by_tail (binary_tail op.Subtract) R6 R7 (difference_of x y) 19 5 kept_two (omega arith) (omega arith) (sides op.Subtract (difference_of x y) ready) p (λ q low. difference_gives s q k c depth x y low)
    binary_part op.Multiply ready p =
        by_tail (binary_tail op.Multiply) R6 R7 (product_of x y) 23 5 kept_two (omega arith) (omega arith) (sides op.Multiply (product_of x y) ready) p (λ q low. products_give.product s q k c depth x y low)
    binary_part op.Divide ready p =
        by_tail (binary_tail op.Divide) R6 R7 (quotient_of x y) 20 5 kept_two (omega arith) (omega arith) (sides op.Divide (quotient_of x y) ready) p (λ q low. products_give.quotient s q k c depth x y low)
    binary_part op.Remainder ready p =
        by_tail (binary_tail op.Remainder) R6 R7 (remainder_of x y) 20 5 kept_two (omega arith) (omega arith) (sides op.Remainder (remainder_of x y) ready) p (λ q low. products_give.remainder s q k c depth x y low)

  -- ---- list and map literals

  pub items_none : ItemsPart s scope rs texts depth c k no_cores [] nothing
  unfolding code_of
  items_none ready p = list_gives.none s p c depth k

  pub items_more : (a : Core) (more : Cores) (x : ValueOrError) (xs : List ValueOrError) (t u : Cost) → 1 ≤ t.visits → Part s scope rs texts depth c (k + 1) a x t → ItemsPart s scope rs texts depth c k more xs u → ItemsPart s scope rs texts depth c k (more_cores a more) (x ∷ xs) (t and kept x and u)
  unfolding code_of need deepest texts_of IsAccepted
  items_more a more x xs t u visited first rest ready p =
      builds_within (site_at s p (in_frame c depth k)) _ _ (budget _ _) (budget _ _) (omega arith) (omega arith)
      (list_gives.more s p k (code a (k + 1) p) (items_code more texts rs c.words k (p + size (code a (k + 1) p) + 4)) c depth x xs _ _ _ _ ready.low
      (λ h. ready.may (grind (arith, or_left, or_right))) (first (grind (arith, texts_front, or_left)) p) (rest (grind (arith, texts_back, or_right)) _))

  -- if the list is kept under a number, that list has this value
  abbrev pub KeptMeans : Cores → ValueOrError → Type 0
  KeptMeans es v = (i : ℕ) → kept_place es c.words.lists ≡ Some i → (list : Cores) × (slice_get c.words.lists i ≡ Some list) × (list_value list ≡ v)

  -- the value of a list, which is kept or not
  kept_or_made_gives : (es : Cores) (o : Option ℕ) (made : List Insn) (v : ValueOrError) (n m p : ℕ) → kept_place es c.words.lists ≡ o → KeptMeans es v → k ≤ word_limit
      → Evaluates s (p + list_front o) made c depth k v n m → Evaluates s p (kept_or_made o made) c depth k v (3 + n) m
  kept_or_made_gives es None made v n m p is means low gives =
      let same : p + list_front None ≡ p = omega arith in
      gives_within s p made c depth k v n m (3 + n) m (omega arith) (omega arith) (subst (λ (q : ℕ). Evaluates s q made c depth k v n m) same gives)
  kept_or_made_gives es (Some i) made v n m p is means low gives =
      let f = means i is in
      subst (λ (u : ValueOrError). Evaluates s p (kept_or_made (Some i) made) c depth k u (3 + n) m) f.2
      (kept_lists_give.kept s p c depth k i f.0 made n m low f.1
      (subst (λ (u : ValueOrError). Evaluates s (p + 2) made c depth k u n m) (sym f.2) gives))

  list_ready : (es : Cores) (v : ValueOrError) (t : Cost) → Ready s scope texts c depth k (core.list es) (node v and t).is_deep
      → AllReady s texts c depth k (AreAccepted es (names scope)) (deepest_of es (nestings scope)) (1 + needs es) (texts_of_each es) t.is_deep
  unfolding need deepest texts_of IsAccepted
  list_ready es v t ready =
      let room = ready.room in
      record { accepted = ready.accepted; frames = ready.frames; low = omega arith; room = ready.room; texts_stand = ready.texts_stand; may = ready.may }

  pub list_part : (es : Cores) (xs : List ValueOrError) (t : Cost) → KeptMeans es (list_literal xs) → ItemsPart s scope rs texts depth c k es xs t
      → Part s scope rs texts depth c k (core.list es) (list_literal xs) (node (list_literal xs) and t)
  unfolding code_of
  list_part es xs t means items ready p =
      let kept = kept_place es c.words.lists in
      let q = p + list_front kept in
      let least = result_size_least (list_literal xs) in
      let all = list_ready es (list_literal xs) t ready in
      let low = all.low in
      gives_within s p (code (core.list es) k p) c depth k (list_literal xs) _ _ _ _ (omega arith) (omega arith)
      (kept_or_made_gives es kept _ (list_literal xs) _ _ p refl means (omega arith)
      (list_gives.whole s q k (items_code es texts rs c.words k (q + 2)) c depth xs _ _ low (items all (q + 2))))

  pub entries_none : EntriesPart s scope rs texts depth c k no_core_entries [] nothing
  unfolding code_of
  entries_none ready p = map_gives.none s p c depth k

  pub entries_more : (key entry : Subexpression) (more : CoreEntries) (xs : List (ValueOrError × ValueOrError)) (v : Cost) → 1 ≤ key.cost.visits → 1 ≤ entry.cost.visits → Part s scope rs texts depth c (k + 1) key.core key.value key.cost → Part s scope rs texts depth c (k + 2) entry.core entry.value entry.cost → EntriesPart s scope rs texts depth c k more xs v → EntriesPart s scope rs texts depth c k (more_core_entries key.core entry.core more) ((key.value, entry.value) ∷ xs) (key.cost and entry.cost and kept entry.value and v)
  unfolding code_of need deepest texts_of IsAccepted
  entries_more key entry more xs v visited visited2 first second rest ready p =
      let q = p + size (code key.core (k + 1) p) + 1 in
      builds_within (site_at s p (in_frame c depth k)) _ _ (budget _ _) (budget _ _) (omega arith) (omega arith)
      (map_gives.more s p k (code key.core (k + 1) p) (code entry.core (k + 2) q) (entries_code more texts rs c.words k (q + size (code entry.core (k + 2) q) + 5)) c depth key.value entry.value xs _ _ _ _ _ _ (omega arith)
      (λ h. ready.may (grind (arith, or_left, or_right))) (first (grind (arith, texts_front, or_left)) p)
      (second (grind (arith, texts_front, texts_back, or_left, or_right)) _) (rest (grind (arith, texts_back, or_right)) _))

  pub map_part : (es : CoreEntries) (xs : List (ValueOrError × ValueOrError)) (t : Cost) → EntriesPart s scope rs texts depth c k es xs t
      → Part s scope rs texts depth c k (core.map es) (map_literal xs) (node (map_literal xs) and t)
  unfolding code_of need deepest texts_of IsAccepted
  map_part es xs t entries ready p = grind (arith, result_size_least, gives_within, map_gives)
