-- The code of an expression that fits an image can be encoded: the numbers in its instructions are in range.
use Rattle.tree_code.proofs.Prelude.{◌≡◌, ℕ, ◌+◌, ◌*◌, ◌^◌, ◌<◌, ◌≤◌, List, [], ◌∷◌, ◌++◌, length, Option, Some, arith, unwrap_or, option_map, AllByRecursion, Insn, Register, R1, IsWellFormedLiteral, BinaryOperator, UnaryOperator, Core, Cores, CoreEntries, no_cores, more_cores, no_core_entries, more_core_entries, plain_entries, plain_tree, plain_trees, lookup, Function, TextTest, nodes, nodes_of, entries_nodes, need, needs, entries_need, saturated, Declaration, AreInsns, size, kept_size, operand_code, operands_code, FrameUse, RootField, with_name, SimpleOperand, MayBeNear, absorbing_insns, difference_insns, divided_insns, entry_insns, equal_insns, field_insns, has_insns, index_insns, insns_append, item_insns, less_insns, list_insns, macro_insns, map_insns, map_where_insns, member_insns, name_insns, name_near, negation_insns, not_insns, not_less_insns, operand_insns, operands_insns, product_insns, size_insns, string_insns, sum_insns, ternary_insns, test_insns, unequal_insns, binary_code, binary_tail, code_of, entries_code, function_code, items_code, leaf_of, left_size, method_function_code, no_code, routine_named, test_code, unary_code, variable_code, field_leaf, kept_or, address_of, literal_code, literal_leaf, place_of, EntriesHaveLiterals, HasLiterals, HaveLiterals, routines_of, frame_words, word_limit, branch_limit, slot_reach, memo_limit, call_reach, part_slots_per_node, node_limit, function_in, kept_list_insns, kept_or_made, kept_place, list_front, list_word, None, refl}
use Rattle.cel_reader.specs.Tree as tree
use Rattle.cel_macros.specs.CoreTree as core
use Rattle.tree_code.proofs.KeptLists.{kept_is}
use Rattle.tree_code.proofs.Lengths.{short_code, short_list}

-- the words of iteration names and of lists are in the frame
pub record AreWithin (words : FrameUse) : Type 0 where
  pub items : (n : List ℕ) (k : ℕ) → lookup n words.items ≡ Some k → k < frame_words
  pub lists : list_word (length words.lists) ≤ frame_words

within_more : (n : List ℕ) (j : ℕ) (words : FrameUse) → j < frame_words → AreWithin words → AreWithin (with_name n j words)
within_more n j words low rest = record { items = λ m i e. grind (arith, rest.items m i); lists = rest.lists }

pub address_small : (texts : List (List ℕ)) (t : List ℕ) → address_of texts t < 2 ^ 64
address_small texts t = let most = unwrap_or (option_map saturated (place_of t texts)) 0 in omega arith

no_insns : AreInsns no_code
no_insns = (omega arith, tt)

literal_insns : (texts : List (List ℕ)) (l : tree.Literal) → IsWellFormedLiteral l → AreInsns (literal_code texts l)
literal_insns texts l h = grind arith

literal_near : (l : tree.Literal) → MayBeNear (literal_leaf l)
literal_near l = grind arith

field_near : (path : Option RootField) (a : Core) (f : List ℕ) → MayBeNear (field_leaf path a f)
field_near path a f = grind arith

leaf_near : (e : Core) (ws : FrameUse) → AreWithin ws → MayBeNear (leaf_of e ws)
leaf_near e ws words = grind (arith, literal_near, name_near, field_near, words.items)

kept_insns : (l : Option SimpleOperand) (code : List Insn) → MayBeNear l → AreInsns code → AreInsns (kept_or l code)
kept_insns l code near insns = grind arith

pub front_small : (kept : Option ℕ) → list_front kept ≤ 2
front_small kept = grind arith

-- a list that is kept, if its number is one of a kept list's
list_kept_insns : (items : Cores) (ws : FrameUse) (o : Option ℕ) (made : List Insn) → AreWithin ws → kept_place items ws.lists ≡ o → size made ≤ branch_limit
    → AreInsns made → AreInsns (kept_or_made o made)
list_kept_insns items ws None made words is short insns = insns
list_kept_insns items ws (Some i) made words is short insns =
    let inside = (kept_is items ws.lists i is).within in
    let within = words.lists in
    kept_list_insns (list_word i) made (omega arith) short insns

-- ---- one operand

module _ (l : Option SimpleOperand) (part : List Insn) (near : MayBeNear l) (a : AreInsns part) where
  one_insns : (r : Register) (tail : List Insn) → AreInsns tail → AreInsns (operand_code l part r ++ tail)
  one_insns r tail b = insns_append (operand_code l part r) tail (operand_insns l part r near a) b

  unary_insns : (op : UnaryOperator) → AreInsns (unary_code op l part)
  unary_insns op = grind (arith, one_insns, not_insns, negation_insns)

  function_insns : (f : Option Function) → AreInsns (function_code f l part)
  function_insns f = grind (arith, one_insns, size_insns, string_insns, no_insns)

  method_insns : (f : Option Function) → AreInsns (method_function_code f l part)
  method_insns f = grind (arith, one_insns, size_insns, no_insns)

-- ---- two operands

module _ (l : Option SimpleOperand) (left : List Insn) (m : Option SimpleOperand) (right : List Insn) (k : ℕ) (low : k < word_limit) (near : MayBeNear l) (a : AreInsns left) (near_right : MayBeNear m) (b : AreInsns right) where
  two_insns : (r q : Register) (tail : List Insn) → AreInsns tail → AreInsns (operands_code l left m right k r q ++ tail)
  two_insns r q tail d = insns_append (operands_code l left m right k r q) tail (operands_insns l left m right k r q (omega arith) near a near_right b) d

  binary_insns : (op : BinaryOperator) → size right ≤ branch_limit → AreInsns (binary_code op l left m right k)
  unfolding binary_tail
  binary_insns op short = grind (arith, absorbing_insns, two_insns, less_insns, not_less_insns, equal_insns, unequal_insns, member_insns, sum_insns, difference_insns, product_insns, divided_insns)

  tested_insns : (t : Option TextTest) → AreInsns (test_code t l left m right k)
  tested_insns t = grind (arith, two_insns, test_insns, no_insns)

-- ---- variables

-- calls reach each routine, and each memo is in the scratch region
abbrev pub AreNear : List (List ℕ × ℕ) → Type 0
AreNear routines = (n : List ℕ) (found : ℕ × ℕ) → routine_named n routines ≡ Some found → (found.0 < memo_limit) × (found.1 ≤ slot_reach)

-- slots that a call can reach
abbrev pub AreLow : List ℕ → Type 0
AreLow slots = AllByRecursion (λ slot. slot ≤ slot_reach) slots

pub near_named : (ds : List Declaration) (slots : List ℕ) → AreLow slots → (n : List ℕ) (found : ℕ × ℕ)
    → routine_named n (routines_of ds slots) ≡ Some found → (found.0 < length slots) × (found.1 ≤ slot_reach)
near_named [] slots low n found e = absurd (cc)
near_named (d ∷ ds) [] low n found e = absurd (cc)
near_named (d ∷ ds) (s ∷ slots) low n found e = grind (arith, near_named ds slots low.1 n)

variable_insns : (found : Option (ℕ × ℕ)) (p : ℕ) → p + 6 ≤ call_reach → ((at : ℕ × ℕ) → found ≡ Some at → (at.0 < memo_limit) × (at.1 ≤ slot_reach)) → AreInsns (variable_code found p)
variable_insns found p low near = grind arith

-- the number of slots before a right operand is at most that of the left one's code and one more
kept_at_most : (l : Option SimpleOperand) (left : List Insn) → kept_size l left ≤ size left + 1
kept_at_most l left = grind arith

left_at_most : (op : BinaryOperator) (l : Option SimpleOperand) (left : List Insn) → left_size op l left ≤ size left + 2
left_at_most op l left = grind arith

-- the facts that bound the numbers in a construct's instructions, besides those of its parts
ruleset parts = (kept_at_most, left_at_most, short_code, leaf_near)

module _ (ts : List (List ℕ)) (rs : List (List ℕ × ℕ)) (near : AreNear rs) where
  abbrev code : Core → FrameUse → ℕ → ℕ → List Insn
  code e ws k p = code_of e ts rs ws k p

  mutual
    unfolding code_of need nodes plain_tree

    pub code_insns : (e : Core) (ws : FrameUse) (k p : ℕ) → AreWithin ws → k + need e ≤ word_limit → nodes e ≤ node_limit → p + part_slots_per_node * nodes e ≤ call_reach
        → HasLiterals (plain_tree e) → AreInsns (code_of e ts rs ws k p)
    code_insns (core.literal l) ws k p words room few inside h = literal_insns ts l h
    code_insns (core.name n) ws k p words room few inside h = name_insns n ws.items (words.items n)
    code_insns (core.variable v) ws k p words room few inside h = variable_insns (routine_named v rs) p (omega arith) (near v)
    code_insns (core.select a f) ws k p words room few inside h =
        kept_insns (leaf_of (core.select a f) ws) _ (leaf_near (core.select a f) ws words) (one_insns (leaf_of a ws) (code a ws k p) (leaf_near a ws words) (code_insns a ws k p words room (omega arith) (omega arith) h) R1 _ (field_insns (address_of ts f) (length f) (address_small ts f)))
    code_insns (core.has a f) ws k p words room few inside h =
        one_insns (leaf_of a ws) (code a ws k p) (leaf_near a ws words) (code_insns a ws k p words room (omega arith) (omega arith) h.0) R1 _ (has_insns (address_of ts f) (length f) (address_small ts f))
    code_insns (core.index a b) ws k p words room few inside h = grind (arith, parts, two_insns, index_insns, code_insns a ws k p, code_insns b ws (k + 1))
    code_insns (core.call n (more_cores a no_cores)) ws k p words room few inside h =
        function_insns (leaf_of a ws) (code a ws k p) (leaf_near a ws words) (code_insns a ws k p words room (omega arith) (omega arith) h.0) (function_in n)
    code_insns (core.method a n no_cores) ws k p words room few inside h =
        method_insns (leaf_of a ws) (code a ws k p) (leaf_near a ws words) (code_insns a ws k p words (omega arith) (omega arith) (omega arith) h.0) (function_in n)
    code_insns (core.method a n (more_cores b no_cores)) ws k p words room few inside h = grind (arith, parts, tested_insns, code_insns a ws k p, code_insns b ws (k + 1))
    code_insns (core.unary op a) ws k p words room few inside h =
        unary_insns (leaf_of a ws) (code a ws k p) (leaf_near a ws words) (code_insns a ws k p words room (omega arith) (omega arith) h) op
    code_insns (core.binary op a b) ws k p words room few inside h = grind (arith, parts, binary_insns, code_insns a ws k p, code_insns b ws (k + 1))
    code_insns (core.ternary c a b) ws k p words room few inside h = grind (arith, short_code, ternary_insns, code_insns c ws k p, code_insns a ws k, code_insns b ws k)
    code_insns (core.list items) ws k p words room few inside h =
        let kept = kept_place items ws.lists in
        let q = p + list_front kept in
        let near = front_small kept in
        let short = short_list items ts rs ws k q in
        list_kept_insns items ws kept _ words refl (omega arith)
        (list_insns (items_code items ts rs ws k (q + 2)) k (omega arith) (items_insns items ws k (q + 2) words (omega arith) (omega arith) (omega arith) h))
    code_insns (core.map es) ws k p words room few inside h =
        map_insns (entries_code es ts rs ws k (p + 2)) k (omega arith) (entries_insns es ws k (p + 2) words (omega arith) (omega arith) (omega arith) h)
    code_insns (core.fold m n r e) ws k p words room few inside h =
        let ws1 = with_name n (k + 4) ws in
        let q = p + size (code r ws k p) + 17 in
        let long = short_code r ts rs ws k p in
        let long_part = short_code e ts rs ws1 (k + 5) q in
        macro_insns m k (code r ws k p) (code e ws1 (k + 5) q) (omega arith) (omega arith) (code_insns r ws k p words (omega arith) (omega arith) (omega arith) h.0) (code_insns e ws1 (k + 5) q (within_more n (k + 4) ws (omega arith) words) (omega arith) (omega arith) (omega arith) h.1.1.0)
    code_insns (core.fold_map n r e t) ws k p words room few inside h =
        let ws1 = with_name n (k + 4) ws in
        let q = p + size (code r ws k p) + 17 in
        let u = q + size (code e ws1 (k + 5) q) + 2 in
        let long = short_code r ts rs ws k p in
        let long_first = short_code e ts rs ws1 (k + 5) q in
        let long_second = short_code t ts rs ws1 (k + 5) u in
        let inner = within_more n (k + 4) ws (omega arith) words in
        map_where_insns k (code r ws k p) (code e ws1 (k + 5) q) (code t ws1 (k + 5) u) (omega arith) (omega arith) (code_insns r ws k p words (omega arith) (omega arith) (omega arith) h.0) (code_insns e ws1 (k + 5) q inner (omega arith) (omega arith) (omega arith) h.1.1.0) (code_insns t ws1 (k + 5) u inner (omega arith) (omega arith) (omega arith) h.1.1.1.0)
    code_insns _ ws k p words room few inside h = no_insns

    items_insns : (items : Cores) (ws : FrameUse) (k p : ℕ) → AreWithin ws → k + 1 + needs items ≤ word_limit → nodes_of items ≤ node_limit
        → p + part_slots_per_node * nodes_of items ≤ call_reach → HaveLiterals (plain_trees items) → AreInsns (items_code items ts rs ws k p)
    items_insns no_cores ws k p words room few inside h = tt
    items_insns (more_cores a more) ws k p words room few inside h =
        grind (arith, short_code, insns_append, item_insns, code_insns a ws (k + 1) p, items_insns more ws k)

    entries_insns : (es : CoreEntries) (ws : FrameUse) (k p : ℕ) → AreWithin ws → k + entries_need es ≤ word_limit → entries_nodes es ≤ node_limit
        → p + part_slots_per_node * entries_nodes es ≤ call_reach → EntriesHaveLiterals (plain_entries es) → AreInsns (entries_code es ts rs ws k p)
    entries_insns no_core_entries ws k p words room few inside h = tt
    entries_insns (more_core_entries key v more) ws k p words room few inside h =
        grind (arith, short_code, insns_append, entry_insns, code_insns key ws (k + 1) p, code_insns v ws (k + 2), entries_insns more ws k)
