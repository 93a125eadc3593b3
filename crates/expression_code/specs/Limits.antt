-- The limits of an expression and of its code, and the units of its budgets.
use Rattle.std.specs.Prelude.{ℕ}

-- ---- limits of an expression

-- the words of a stack frame
abbrev pub frame_words : ℕ
frame_words = 64

-- the largest number of words of its frame that the code of an expression may need
abbrev pub word_limit : ℕ
word_limit = 60

-- a loop begins below this word, so that its five words and those of its turn are in the frame
abbrev pub fold_limit : ℕ
fold_limit = 56

-- the greatest depth of a variable
abbrev pub variable_depth_limit : ℕ
variable_depth_limit = 6

-- the largest number of variables: the scratch region has a memo of 8 bytes for each
abbrev pub memo_limit : ℕ
memo_limit = 512

-- the largest number of nodes of all expressions together: an image has `slots_per_node` slots for each
abbrev pub node_limit : ℕ
node_limit = 512

-- ---- budgets of a whole expression

-- the slots of an image for each node
abbrev pub slots_per_node : ℕ
slots_per_node = 128

-- the steps for each visit of a node or an item
abbrev pub steps_per_visit : ℕ
steps_per_visit = 128

-- the charge for each unit of cost
abbrev pub charge_per_unit : ℕ
charge_per_unit = 16

-- ---- budgets of a part; the rest pays for a path that is kept before the part

-- the slots of a part for each of its nodes
abbrev pub part_slots_per_node : ℕ
part_slots_per_node = 63

-- the steps of a part for each visit
abbrev pub part_steps_per_visit : ℕ
part_steps_per_visit = 120

-- the charge of a part for each unit of cost
abbrev pub part_charge_per_unit : ℕ
part_charge_per_unit = 15

-- ---- reach of jumps and calls

-- a jump skips fewer slots than this: its offset has 16 bits
abbrev pub jump_limit : ℕ
jump_limit = 32768

-- the largest number of slots of a part: `part_slots_per_node` for each of `node_limit` nodes
abbrev pub part_slot_limit : ℕ
part_slot_limit = 32256

-- the largest number of slots of a loop's turn or of a routine: those of a part, and a few more
abbrev pub turn_slot_limit : ℕ
turn_slot_limit = 32300

-- the largest number of slots that a piece skips by a jump, without its own
abbrev pub branch_limit : ℕ
branch_limit = 32700

-- the largest number of slots after which an expression is added: its 32-bit calls reach each routine
abbrev pub code_limit : ℕ
code_limit = 0x7fff_0000

-- the last slot at which a routine or a piece of code may begin
abbrev pub slot_reach : ℕ
slot_reach = 0x7fff_ff00

-- the number of slots that a 32-bit offset reaches
abbrev pub call_reach : ℕ
call_reach = 0x8000_0000

-- the part of each budget that is left for the instructions around a part
abbrev pub budget_reserve : ℕ
budget_reserve = 8
