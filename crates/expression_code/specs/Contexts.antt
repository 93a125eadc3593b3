-- How a CPU state represents an environment, and what code for an expression leaves.
use Rattle.std.specs.Prelude.{◌≡◌, ℕ, ◌+◌, ◌<◌, ◌≤◌, ◌⊎◌, List, length, Option, Some, None, slice_get}
use Rattle.helper_table.specs.Laws.{Names}
use Rattle.helper_table.specs.Tables.{IsTable}
use Rattle.insn_codec.specs.declared.insn.Insn.{Insn}
use Rattle.insn_codec.specs.declared.register.Register.TheVariants.{R0, R10}
use Rattle.value_store.specs.Placing.{Contents, AreCanonical}
use Rattle.value_store.specs.Value.{Value, ValueOrError, value}
use Rattle.cel_macros.specs.Environment.{Environment, Roots, lookup}
use Rattle.expression_code.specs.Limits.{frame_words}
use Rattle.expression_code.specs.CpuState.{CpuState}
use Rattle.expression_code.specs.Engine.{RunContext, RunsTo}
use Rattle.cel_macros.specs.CoreTree.{Cores}
use Rattle.expression_code.specs.Paths.{FrameUse, RootField, list_value, list_word, path_value}
use Rattle.expression_code.specs.Pieces.{IsCodeAt, size}
use Rattle.expression_code.specs.Words.{Framed, memo_at, word_at}

-- the values of names, the words of the frame that hold items and a path's value, and the bytes of the constants
pub record Context : Type 0 where
  pub environment : Environment
  pub words : FrameUse
  pub constants : List ℕ

-- the roots have the references 4 to 8
pub record HasRoots (list : List ValueOrError) (roots : Roots) : Type 0 where
  pub object : Names list 4 (value roots.object)
  pub old_object : Names list 5 (value roots.old_object)
  pub params : Names list 6 (value roots.params)
  pub namespace_object : Names list 7 (value roots.namespace_object)
  pub request : Names list 8 (value roots.request)

-- the values at the start of a program: those of a table, with the error and the truths only at their own references,
-- and the roots
pub record HasValues (roots : Roots) (values : Contents) : Type 0 where
  pub table : IsTable values
  pub canonical : AreCanonical values.values
  pub stand : HasRoots values.values roots

-- a name has a word below base that holds its item, or it has neither a word nor an item
abbrev pub IsHeld : ℕ → ℕ → CpuState → Option ℕ → Option Value → Type 0
IsHeld depth base b (Some k) (Some v) = (k < base) × Names b.values.values (word_at depth k b) (value v)
IsHeld depth base b None None = Unit {0}
IsHeld depth base b _ _ = ⊥

-- a memo is empty, or holds 1 more than a reference of its variable's value or error
abbrev pub IsMemo : List ValueOrError → ℕ → ValueOrError → Type 0
IsMemo list word x = (word ≡ 0) ⊎ ((r : ℕ) × (word ≡ r + 1) × Names list r x)

-- if a path is kept, word 0 is in use and holds the path's value or the error
abbrev pub HoldsPath : Option RootField → Roots → List (List ℕ × Value) → ℕ → ℕ → CpuState → Type 0
HoldsPath path roots items depth base b = (x : RootField) → path ≡ Some x
    → (0 < base) × Names b.values.values (word_at depth 0 b) (path_value x roots items)

-- a word is 0, or a reference of this value or error
abbrev pub IsEmptyOr : List ValueOrError → ℕ → ValueOrError → Type 0
IsEmptyOr list word x = (word ≡ 0) ⊎ Names list word x

-- the word of each kept list is 0, or holds the list's value
abbrev pub HoldsLists : List Cores → ℕ → CpuState → Type 0
HoldsLists lists depth b = (i : ℕ) (items : Cores) → slice_get lists i ≡ Some items
    → (list_word i < frame_words) × IsEmptyOr b.values.values (word_at depth (list_word i) b) (list_value items)

-- the word of each iteration name holds its item, word 0 the value of a kept path, the memo of each variable is empty
-- or filled, and so is the word of each kept list
pub record HoldsEnvironment (c : Context) (depth base : ℕ) (b : CpuState) : Type 0 where
  pub names : (n : List ℕ) → IsHeld depth base b (lookup n c.words.items) (lookup n c.environment.items)
  pub path : HoldsPath c.words.path c.environment.roots c.environment.items depth base b
  pub memos : (i : ℕ) (x : List ℕ × ValueOrError) → slice_get c.environment.variables i ≡ Some x → IsMemo b.values.values (memo_at i b) x.1
  pub lists : HoldsLists c.words.lists depth b

-- a CPU state in which code for an expression may run; the words of its frame below base are in use
pub record IsWellFormedState (c : Context) (depth base : ℕ) (b : CpuState) : Type 0 where
  pub frame : Framed depth b
  pub values : HasValues c.environment.roots b.values
  pub holds : HoldsEnvironment c depth base b
  pub constants : b.memory.constants ≡ c.constants

-- What code for an expression preserves: the words below base and those of the callers, the existing values, the
-- records, the frame pointer, the verdict region, the constants, and all memos except the first `count`.
pub record Preserves (count depth base : ℕ) (old new : CpuState) : Type 0 where
  pub words : (d k : ℕ) → k < frame_words → (d < depth) ⊎ ((d ≡ depth) × (k < base)) → word_at d k new ≡ word_at d k old
  pub values : (r : ℕ) (x : ValueOrError) → Names old.values.values r x → Names new.values.values r x
  pub records : new.records ≡ old.records
  pub pointer : new.registers R10 ≡ old.registers R10
  pub verdict : new.memory.verdict ≡ old.memory.verdict
  pub constants : new.memory.constants ≡ old.memory.constants
  pub memos : (i : ℕ) → count ≤ i → memo_at i new ≡ memo_at i old

-- the number of variables that an expression may use
abbrev pub variable_count : Context → ℕ
variable_count c = length c.environment.variables

-- R0 holds the value or the error, and the CPU state is well-formed again
pub record LeavesValue (c : Context) (depth base : ℕ) (x : ValueOrError) (old new : CpuState) : Type 0 where
  pub shows : Names new.values.values (new.registers R0) x
  pub fits : IsWellFormedState c depth base new
  pub keeps : Preserves (variable_count c) depth base old new

-- If the image has the piece at slot p, it gives the value or the error from each well-formed CPU state, within this
-- number of steps and this charge.
pub record Evaluates (s : RunContext) (p : ℕ) (piece : List Insn) (c : Context)
    (depth base : ℕ) (x : ValueOrError) (steps charge : ℕ) : Type 0 where
  pub runs : (b : CpuState) → IsCodeAt s.image.code p piece → IsWellFormedState c depth base b
      → RunsTo s steps charge p b (p + size piece) (LeavesValue c depth base x b)
