-- The numbers of the instructions are in range: code can be encoded if the code of its parts can and is short.
use Rattle.expression_code.proofs.Prelude.{◌≡◌, ℕ, ◌+◌, ◌^◌, ◌<◌, ◌≤◌, List, [], ◌∷◌, ◌++◌, Option, Some, None, refl, arith, ℤ, Bool, pos, bytes_eq, FitsSigned, if◌then◌else◌, AllByRecursion, w32, ints, AluOp, Insn, Call, Register, R0, R1, R2, R6, R7, lookup, Macro, Exists, ExistsOne, Filter, Map, TextTest, entry_code, entry_tail, item_code, list_code, list_head, map_code, map_head, push_tail, difference_code, divided_code, divided_tail, int_operands, negation_tail, product_code, product_tail, sum_code, sum_tail, difference_tail, operand_code, operands_code, equal_tail, less_tail, member_tail, not_less_tail, unequal_tail, leaf_insn, absorbing_code, false_ref, not_tail, ternary_code, true_ref, field_tail, has_tail, index_tail, size_tail, string_tail, test_tail, absorbing_turn, exists_one_end, exists_one_turn, filter_turn, first_empty, first_false, first_true, macro_code, map_turn, map_where_code, held_leaf, name_code, name_leaf, reference_or_error, root_reference, root_references, mov_reg, ja, fold_code, loop_code, loop_head, loop_tail, AreInsns, size, memo_tail, SimpleOperand, Reference, Word, branch_limit, frame_words, fold_limit, memo_limit, zero, suc, clear_code, kept_list_code, list_word}
use Rattle.cel_macros.specs.declared.macros.Macro.TheVariants.{All}
use Rattle.expression_code.specs.Instructions as insn
use Rattle.expression_code.proofs.Loops.{loop_size}
use Rattle.expression_code.proofs.Pieces.{size-append}

pub insns_append : (a b : List Insn) → AreInsns a → AreInsns b → AreInsns (a ++ b)
insns_append [] b first second = second
insns_append (i ∷ is) b first second = (first.0, insns_append is b first.1 second)

-- ---- calls and operands

-- the instruction of a simple operand can be encoded
abbrev pub IsNear : SimpleOperand → Type 0
IsNear (Reference n) = FitsSigned w32 n
IsNear (Word k) = k < frame_words

pub leaf_insns : (l : SimpleOperand) (r : Register) → IsNear l → AreInsns (leaf_insn l r ∷ [])
leaf_insns l r near = grind arith

-- the instruction of an operand can be encoded if it is a simple one
abbrev pub MayBeNear : Option SimpleOperand → Type 0
MayBeNear (Some l) = IsNear l
MayBeNear None = Unit {0}

pub operand_insns : (l : Option SimpleOperand) (operand : List Insn) (r : Register) → MayBeNear l → AreInsns operand → AreInsns (operand_code l operand r)
operand_insns l operand r near first = grind (arith, leaf_insns, insns_append)

pub operands_insns : (l : Option SimpleOperand) (left : List Insn) (m : Option SimpleOperand) (right : List Insn) (k : ℕ) (r q : Register) → k < frame_words → MayBeNear l
    → AreInsns left → MayBeNear m → AreInsns right → AreInsns (operands_code l left m right k r q)
operands_insns l left m right k r q below near first near_right second = grind (arith, insns_append, operand_insns, leaf_insns)

-- ---- logic

pub absorbing_insns : (decides other : ℤ) (left right : List Insn) (k : ℕ) → FitsSigned w32 decides → FitsSigned w32 other → k < frame_words
    → size right ≤ branch_limit → AreInsns left → AreInsns right → AreInsns (absorbing_code decides other left right k)
absorbing_insns decides other left right k d e below short first second = grind (arith, insns_append)

pub not_insns : AreInsns not_tail
not_insns = omega arith

pub ternary_insns : (condition chosen other : List Insn) → size chosen + size other ≤ branch_limit → AreInsns condition → AreInsns chosen
    → AreInsns other → AreInsns (ternary_code condition chosen other)
ternary_insns condition chosen other short first second third = grind (arith, insns_append)

-- ---- comparisons and membership

pub equal_insns : AreInsns equal_tail
equal_insns = omega arith

pub unequal_insns : AreInsns unequal_tail
unequal_insns = omega arith

pub less_insns : AreInsns less_tail
less_insns = omega arith

pub not_less_insns : AreInsns not_less_tail
not_less_insns = omega arith

pub member_insns : AreInsns member_tail
member_insns = omega arith

-- ---- selection

pub field_insns : (address count : ℕ) → address < 2 ^ 64 → AreInsns (field_tail address count)
field_insns address count small = omega arith

pub has_insns : (address count : ℕ) → address < 2 ^ 64 → AreInsns (has_tail address count)
has_insns address count small = omega arith

pub index_insns : AreInsns index_tail
index_insns = omega arith

pub size_insns : AreInsns size_tail
size_insns = omega arith

pub string_insns : AreInsns string_tail
string_insns = omega arith

pub test_insns : (t : TextTest) → AreInsns (test_tail t)
test_insns t = grind arith

-- ---- arithmetic

pub difference_insns : AreInsns difference_code
difference_insns = insns_append (int_operands 8) difference_tail (omega arith) (omega arith)

pub product_insns : AreInsns product_code
unfolding product_tail
product_insns = insns_append (int_operands 12) product_tail (omega arith) (omega arith)

pub divided_insns : (op : AluOp) → AreInsns (divided_code op)
divided_insns op = insns_append (int_operands 9) (divided_tail op) (omega arith) (omega arith)

pub sum_insns : AreInsns sum_code
sum_insns = insns_append (int_operands 10) (sum_tail ++ ja 3 ∷ mov_reg R1 R6 ∷ mov_reg R2 R7 ∷ Call (pos 11) ∷ []) (omega arith) (omega arith)

pub negation_insns : AreInsns negation_tail
unfolding negation_tail
negation_insns = omega arith

-- ---- list and map literals

pub item_insns : (item : List Insn) (k : ℕ) → k < frame_words → AreInsns item → AreInsns (item_code item k)
item_insns item k below first = insns_append item (push_tail k) first (omega arith)

pub list_insns : (items : List Insn) (k : ℕ) → k < frame_words → AreInsns items → AreInsns (list_code items k)
list_insns items k below first = insns_append (list_head k) items (omega arith) first

pub kept_list_insns : (k : ℕ) (made : List Insn) → k < frame_words → size made ≤ branch_limit → AreInsns made → AreInsns (kept_list_code k made)
kept_list_insns k made below short insns = (omega arith, ((omega arith, omega arith), insns_append made (insn.store k R0 ∷ []) insns (omega arith)))

pub clear_insns : (i n : ℕ) → list_word (i + n) ≤ frame_words → AreInsns (clear_code i n)
clear_insns i zero inside = tt
clear_insns i (suc n) inside = (omega arith, clear_insns (suc i) n (omega arith))

pub entry_insns : (key entry : List Insn) (k : ℕ) → k < 63 → AreInsns key → AreInsns entry → AreInsns (entry_code key entry k)
entry_insns key entry k below first second = insns_append key _ first (omega arith, insns_append entry (entry_tail k) second (omega arith))

pub map_insns : (entries : List Insn) (k : ℕ) → k < frame_words → AreInsns entries → AreInsns (map_code entries k)
map_insns entries k below first = insns_append (map_head k) entries (omega arith) first

-- ---- names

held_near : (o : Option ℕ) (r : ℤ) → FitsSigned w32 r → ((k : ℕ) → o ≡ Some k → k < frame_words) → IsNear (held_leaf o r)
held_near o r h below = grind arith

root_by : (found : Bool) (r : ℤ) (o : Option ℤ) → FitsSigned w32 r → FitsSigned w32 (reference_or_error o) → FitsSigned w32 (reference_or_error (if found then Some r else o))
root_by found r o first later = grind arith

references_in_range : (n : List ℕ) (roots : List (List ℕ × ℤ)) → AllByRecursion (λ root. FitsSigned w32 root.1) roots → FitsSigned w32 (reference_or_error (lookup n roots))
references_in_range n [] h = omega arith
references_in_range n (root ∷ more) h = root_by (bytes_eq root.0 n) root.1 (lookup n more) h.0 (references_in_range n more h.1)

root_in_range : (n : List ℕ) → FitsSigned w32 (root_reference n)
unfolding root_reference
root_in_range n = references_in_range n root_references (omega arith)

pub name_near : (n : List ℕ) (words : List (List ℕ × ℕ)) → ((k : ℕ) → lookup n words ≡ Some k → k < frame_words) → IsNear (name_leaf n words)
name_near n words below = held_near (lookup n words) (root_reference n) (root_in_range n) below

pub name_insns : (n : List ℕ) (words : List (List ℕ × ℕ)) → ((k : ℕ) → lookup n words ≡ Some k → k < frame_words) → AreInsns (name_code n words)
name_insns n words below = leaf_insns (name_leaf n words) R0 (name_near n words below)

-- ---- loops and macros

loop_insns : (k : ℕ) (turn : List Insn) → k < fold_limit → size turn ≤ branch_limit → AreInsns turn → AreInsns (loop_code k turn)
loop_insns k turn below short first = insns_append (loop_head k (size turn + 8)) _ (omega arith) (insns_append turn (loop_tail k (size turn + 7)) first (omega (arith, ints)))

-- a part followed by a short turn
turned : (k : ℕ) (range first part turn : List Insn) → size first ≡ 1 → size turn ≤ 20 → k < fold_limit → size part + 50 ≤ branch_limit → AreInsns range
    → AreInsns first → AreInsns part → AreInsns turn → AreInsns (fold_code k range first (part ++ turn))
turned k range first part turn one few below short a b c d = grind (arith, size-append, loop_size, ints, loop_insns, insns_append)

pub macro_insns : (m : Macro) (k : ℕ) (range part : List Insn) → k < fold_limit → size part + 50 ≤ branch_limit → AreInsns range → AreInsns part → AreInsns (macro_code m k range part)
unfolding exists_one_turn filter_turn
macro_insns All k range part below short first second =
    turned k range first_true part (absorbing_turn false_ref true_ref k) refl (omega arith) below short first (omega arith) second (omega arith)
macro_insns Exists k range part below short first second =
    turned k range first_false part (absorbing_turn true_ref false_ref k) refl (omega arith) below short first (omega arith) second (omega arith)
macro_insns ExistsOne k range part below short first second =
    insns_append (fold_code k range first_false (part ++ exists_one_turn k)) exists_one_end (turned k range first_false part (exists_one_turn k) refl (omega arith) below short first (omega arith) second (omega arith)) (omega arith)
macro_insns Filter k range part below short first second = turned k range first_empty part (filter_turn k) refl (omega arith) below short first (omega arith) second (omega arith)
macro_insns Map k range part below short first second = turned k range first_empty part (map_turn k) refl (omega arith) below short first (omega arith) second (omega arith)

pub map_where_insns : (k : ℕ) (range predicate transform : List Insn) → k < fold_limit → size predicate + size transform + 50 ≤ branch_limit → AreInsns range
    → AreInsns predicate → AreInsns transform → AreInsns (map_where_code k range predicate transform)
map_where_insns k range predicate transform below short first second third = grind (arith, size-append, loop_size, ints, loop_insns, insns_append)

-- ---- variables

pub memo_insns : (i : ℕ) → i < memo_limit → AreInsns (memo_tail i)
memo_insns i below = omega arith
