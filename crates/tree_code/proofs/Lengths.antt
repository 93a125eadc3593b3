-- Code has at most 63 slots for each node, less 8.
use Rattle.tree_code.proofs.Prelude.{◌≡◌, ℕ, ◌+◌, ◌*◌, ◌≤◌, List, [], ◌∷◌, ◌++◌, length, arith, Option, Some, None, append_assoc, to_z-of_z, slot_count, Insn, size, size-append, size-cons, map_where_turn, macro_code, exists_one_turn, filter_turn, map_where_code, Register, R0, R1, R2, R6, ℤ, BinaryOperator, UnaryOperator, Core, Cores, CoreEntries, no_cores, more_cores, no_core_entries, more_core_entries, Macro, Function, Size, String, TextTest, nodes, nodes_of, entries_nodes, FrameUse, with_name, product_tail, negation_tail, kept_size, operand_code, operands_code, leaf_code, code_of, items_code, entries_code, binary_code, binary_tail, leaf_of, unary_code, function_code, method_function_code, routine_named, test_code, variable_code, kept_or, fold_code, SimpleOperand, leaf_size, fold_size, loop_size, address_of, literal_code, false_ref, not_tail, true_ref, absorbing_code, name_leaf, field_tail, has_tail, index_tail, size_tail, string_tail, test_tail, turn_slot_limit, part_slots_per_node, function_in, test_in, list_code, kept_or_made, kept_place, list_front, clear_code, zero, suc, refl}
use Rattle.cel_reader.specs.Tree as tree
use Rattle.cel_reader.specs.declared.operator.BinaryOperator.TheVariants as binary
use Rattle.cel_reader.specs.declared.operator.UnaryOperator.TheVariants as unary
use Rattle.cel_macros.specs.CoreTree as core

-- pieces joined from left to right, with 32-bit immediates
pub ruleset put_together = (append_assoc, to_z-of_z)

-- ---- the number of slots of pieces

pub size_cons : (i : Insn) (piece : List Insn) → size (i ∷ piece) ≡ slot_count i + size piece
size_cons i piece = size-cons i piece

pub size_append : (a b : List Insn) → size (a ++ b) ≡ size a + size b
size_append a b = size-append a b

two_at_most : (i : Insn) → slot_count i ≤ 2
two_at_most i = grind arith

-- each instruction takes at most two slots
pub size_by_length : (piece : List Insn) → size piece ≤ 2 * length piece
size_by_length [] = omega arith
size_by_length (i ∷ piece) = let e = size-cons i piece in let h = two_at_most i in let more = size_by_length piece in omega (arith, e, h, more)

pub turn_near : (part tail : List Insn) → size part + size tail ≤ turn_slot_limit → size (part ++ tail) ≤ turn_slot_limit
turn_near part tail h = let e = size-append part tail in omega (arith, e, h)

pub size_map_where : (transform : List Insn) (k : ℕ) → size (map_where_turn transform k) ≡ size transform + 8
size_map_where t k = grind (arith, size-cons, size-append)

-- an operand takes at most one slot more than its code, and two operands at most three more
size_operand : (l : Option SimpleOperand) (a : List Insn) (r : Register) → size (operand_code l a r) ≤ size a + 1
size_operand l a r = grind (arith, leaf_size, size_append)

size_operands : (l : Option SimpleOperand) (a : List Insn) (m : Option SimpleOperand) (b : List Insn) (k : ℕ) (r q : Register) → size (operands_code l a m b k r q) ≤ size a + size b + 3
size_operands l a m b k r q = grind (arith, size-append, size-cons, leaf_size)

-- a part in a register, followed by a tail
one_short : (l : Option SimpleOperand) (a : List Insn) (r : Register) (tail : List Insn) (n : ℕ) → size a + 8 ≤ part_slots_per_node * n → size tail ≤ 40 → size (operand_code l a r ++ tail) + 8 ≤ part_slots_per_node * (1 + n)
one_short l a r tail n ha ht = grind (arith, size_append, size_operand)

-- tails are short
unary_code_short : (op : UnaryOperator) (l : Option SimpleOperand) (a : List Insn) (n : ℕ) → size a + 8 ≤ part_slots_per_node * n → size (unary_code op l a) + 8 ≤ part_slots_per_node * (1 + n)
unfolding negation_tail
unary_code_short unary.Not l a n ha = one_short l a R1 not_tail n ha (omega arith)
unary_code_short unary.Negate l a n ha = one_short l a R6 negation_tail n ha (omega arith)

binary_short : (op : BinaryOperator) → size (binary_tail op) ≤ 25
unfolding binary_tail product_tail
binary_short op = grind arith

two_short : (l : Option SimpleOperand) (a : List Insn) (m : Option SimpleOperand) (b : List Insn) (k : ℕ) (r q : Register) (tail : List Insn) (n i : ℕ)
    → size a + 8 ≤ part_slots_per_node * n → size b + 8 ≤ part_slots_per_node * i → size tail ≤ 25 → size (operands_code l a m b k r q ++ tail) + 8 ≤ part_slots_per_node * (1 + n + i)
two_short l a m b k r q tail n i ha hb ht = grind (arith, size_append, size_operands)

absorbing_short : (d o : ℤ) (a b : List Insn) (k n m : ℕ) → size a + 8 ≤ part_slots_per_node * n → size b + 8 ≤ part_slots_per_node * m → size (absorbing_code d o a b k) + 8 ≤ part_slots_per_node * (1 + n + m)
absorbing_short d o a b k n m ha hb = grind (arith, size-append, size-cons)

binary_code_short : (op : BinaryOperator) (l : Option SimpleOperand) (a : List Insn) (m : Option SimpleOperand) (b : List Insn) (k n i : ℕ) → size a + 8 ≤ part_slots_per_node * n
    → size b + 8 ≤ part_slots_per_node * i → size (binary_code op l a m b k) + 8 ≤ part_slots_per_node * (1 + n + i)
binary_code_short binary.Or l a m b k n i ha hb = absorbing_short true_ref false_ref a b k n i ha hb
binary_code_short binary.And l a m b k n i ha hb = absorbing_short false_ref true_ref a b k n i ha hb
binary_code_short op l a m b k n i ha hb = two_short l a m b k _ _ _ n i ha hb (binary_short op)

function_short : (f : Option Function) (l : Option SimpleOperand) (a : List Insn) (n : ℕ) → size a + 8 ≤ part_slots_per_node * n → size (function_code f l a) + 8 ≤ part_slots_per_node * (1 + n)
function_short (Some Size) l a n ha = one_short l a R1 size_tail n ha (omega arith)
function_short (Some String) l a n ha = one_short l a R6 string_tail n ha (omega arith)
function_short _ l a n ha = omega arith

method_short : (f : Option Function) (l : Option SimpleOperand) (a : List Insn) (n : ℕ) → size a + 8 ≤ part_slots_per_node * n → size (method_function_code f l a) + 8 ≤ part_slots_per_node * (1 + n)
method_short (Some Size) l a n ha = one_short l a R1 size_tail n ha (omega arith)
method_short _ l a n ha = omega arith

test_short : (t : Option TextTest) (l : Option SimpleOperand) (a : List Insn) (m : Option SimpleOperand) (b : List Insn) (k n i : ℕ) → size a + 8 ≤ part_slots_per_node * n
    → size b + 8 ≤ part_slots_per_node * i → size (test_code t l a m b k) + 8 ≤ part_slots_per_node * (1 + n + i)
test_short (Some t) l a m b k n i ha hb = two_short l a m b k R1 R2 (test_tail t) n i ha hb (omega arith)
test_short None l a m b k n i ha hb = omega arith

fold_short : (k : ℕ) (range first turn : List Insn) (n m : ℕ) → size range + 8 ≤ part_slots_per_node * n → size first ≤ 1 → size turn ≤ part_slots_per_node * m + 10
    → size (fold_code k range first turn) + 20 ≤ part_slots_per_node * (1 + n + m)
fold_short k range first turn n m hr hf ht = grind (arith, fold_size, loop_size)

macro_short : (m : Macro) (k : ℕ) (r p : List Insn) (n q : ℕ) → size r + 8 ≤ part_slots_per_node * n → size p + 8 ≤ part_slots_per_node * q → size (macro_code m k r p) + 8 ≤ part_slots_per_node * (1 + n + q)
unfolding exists_one_turn filter_turn
macro_short m k r p n q hr hp = grind (arith, fold_short, size-append)

map_short : (k : ℕ) (r p t : List Insn) (n q m : ℕ) → size r + 8 ≤ part_slots_per_node * n → size p + 8 ≤ part_slots_per_node * q → size t + 8 ≤ part_slots_per_node * m → size (map_where_code k r p t) + 8 ≤ part_slots_per_node * (1 + n + q + m)
map_short k r p t n q m hr hp ht = grind (arith, size_append, size_map_where, fold_short)

leaf_short : (l : SimpleOperand) → size (leaf_code l) + 8 ≤ part_slots_per_node
leaf_short l = let e = leaf_size l R0 in omega (arith, e)

kept_short : (l : Option SimpleOperand) (code : List Insn) (n : ℕ) → size code + 8 ≤ part_slots_per_node * (1 + n) → size (kept_or l code) + 8 ≤ part_slots_per_node * (1 + n)
kept_short l code n h = grind arith

literal_short : (ts : List (List ℕ)) (l : tree.Literal) → size (literal_code ts l) + 8 ≤ part_slots_per_node
literal_short ts l = grind arith

variable_short : (found : Option (ℕ × ℕ)) (p : ℕ) → size (variable_code found p) + 8 ≤ part_slots_per_node
variable_short found p = grind arith

kept_or_short : (o : Option ℕ) (made : List Insn) (n : ℕ) → size made + 11 ≤ part_slots_per_node * (1 + n) → size (kept_or_made o made) + 8 ≤ part_slots_per_node * (1 + n)
kept_or_short None made n h = omega (arith, h)
kept_or_short (Some i) made n h = grind (arith, size_append, size_cons)

pub clear_size : (i n : ℕ) → size (clear_code i n) ≡ n
clear_size i zero = refl
clear_size i (suc n) = grind (arith, size_cons, clear_size (suc i) n)

module _ (ts : List (List ℕ)) (rs : List (List ℕ × ℕ)) where
  mutual
    unfolding code_of nodes

    code_short : (e : Core) (ws : FrameUse) (k p : ℕ) → size (code_of e ts rs ws k p) + 8 ≤ part_slots_per_node * nodes e
    code_short (core.literal l) ws k p = literal_short ts l
    code_short (core.name n) ws k p = leaf_short (name_leaf n ws.items)
    code_short (core.variable v) ws k p = variable_short (routine_named v rs) p
    code_short (core.select a f) ws k p =
        kept_short (leaf_of (core.select a f) ws) _ (nodes a) (one_short (leaf_of a ws) _ R1 (field_tail (address_of ts f) (length f)) (nodes a) (code_short a ws k p) (omega arith))
    code_short (core.has a f) ws k p = one_short (leaf_of a ws) _ R1 (has_tail (address_of ts f) (length f)) (nodes a) (code_short a ws k p) (omega arith)
    code_short (core.index a b) ws k p = two_short (leaf_of a ws) _ (leaf_of b ws) _ k R1 R2 index_tail (nodes a) (nodes b) (code_short a ws k p) (code_short b ws (k + 1) _) (omega arith)
    code_short (core.call n (more_cores a no_cores)) ws k p = let h = function_short (function_in n) (leaf_of a ws) _ (nodes a) (code_short a ws k p) in omega (arith, h)
    code_short (core.method a n no_cores) ws k p = let h = method_short (function_in n) (leaf_of a ws) _ (nodes a) (code_short a ws k p) in omega (arith, h)
    code_short (core.method a n (more_cores b no_cores)) ws k p =
        let h = test_short (test_in n) (leaf_of a ws) _ (leaf_of b ws) _ k (nodes a) (nodes b) (code_short a ws k p) (code_short b ws (k + 1) (p + kept_size (leaf_of a ws) (code_of a ts rs ws k p))) in
        omega (arith, h)
    code_short (core.unary op a) ws k p = unary_code_short op (leaf_of a ws) _ (nodes a) (code_short a ws k p)
    code_short (core.binary op a b) ws k p = binary_code_short op (leaf_of a ws) _ (leaf_of b ws) _ k (nodes a) (nodes b) (code_short a ws k p) (code_short b ws (k + 1) _)
    code_short (core.ternary c a b) ws k p = grind (arith, size-append, size-cons, code_short c ws k p, code_short a ws k, code_short b ws k)
    code_short (core.list items) ws k p =
        let h = items_short items ws k (p + list_front (kept_place items ws.lists) + 2) in
        kept_or_short (kept_place items ws.lists) (list_code (items_code items ts rs ws k (p + list_front (kept_place items ws.lists) + 2)) k) (nodes_of items)
        (omega (arith, h))
    code_short (core.map es) ws k p = omega (arith, entries_short es ws k (p + 2))
    code_short (core.fold m n r e) ws k p = macro_short m k _ _ (nodes r) (nodes e) (code_short r ws k p) (code_short e (with_name n (k + 4) ws) (k + 5) _)
    code_short (core.fold_map n r e t) ws k p =
        map_short k _ _ _ (nodes r) (nodes e) (nodes t) (code_short r ws k p) (code_short e (with_name n (k + 4) ws) (k + 5) _) (code_short t (with_name n (k + 4) ws) (k + 5) _)
    code_short _ ws k p = omega arith

    items_short : (es : Cores) (ws : FrameUse) (k p : ℕ) → size (items_code es ts rs ws k p) ≤ part_slots_per_node * nodes_of es
    items_short no_cores ws k p = omega arith
    items_short (more_cores a more) ws k p = grind (arith, size-append, code_short a ws (k + 1) p, items_short more ws k)

    entries_short : (es : CoreEntries) (ws : FrameUse) (k p : ℕ) → size (entries_code es ts rs ws k p) ≤ part_slots_per_node * entries_nodes es
    entries_short no_core_entries ws k p = omega arith
    entries_short (more_core_entries key v more) ws k p =
        grind (arith, size-append, size-cons, code_short key ws (k + 1) p, code_short v ws (k + 2), entries_short more ws k)

-- the code of a list, however it is made
pub short_list : (es : Cores) (ts : List (List ℕ)) (rs : List (List ℕ × ℕ)) (ws : FrameUse) (k p : ℕ) → size (list_code (items_code es ts rs ws k (p + 2)) k) + 11 ≤ part_slots_per_node * (1 + nodes_of es)
short_list es ts rs ws k p = let h = items_short ts rs es ws k (p + 2) in omega (arith, h)

-- the code of an expression that fits an image is short enough for jumps
pub short_code : (e : Core) (ts : List (List ℕ)) (rs : List (List ℕ × ℕ)) (ws : FrameUse) (k p : ℕ) → size (code_of e ts rs ws k p) + 8 ≤ part_slots_per_node * nodes e
short_code e ts rs ws k p = code_short ts rs e ws k p
