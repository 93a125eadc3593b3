-- List and map literals (cel-spec, Aggregate Literals). Items are appended and entries are put in source order. The
-- code is listed in `Code/Aggregates`; proofs in `proofs/Lists`, `proofs/Maps` and `proofs/Insertions`.
use Rattle.std.specs.Prelude.{◌≡◌, ℕ, ◌+◌, ◌<◌, ◌≤◌, nat_le, true, List, [], ◌∷◌, ◌++◌}
use Rattle.std.specs.Prelude.{fold as fold_left}
use Rattle.helper_table.specs.Building.{depth_limit}
use Rattle.helper_table.specs.Laws.{Names}
use Rattle.insn_codec.specs.declared.insn.Insn.{Insn}
use Rattle.insn_codec.specs.declared.register.Register.TheVariants.{R0}
use Rattle.value_store.specs.Size.{result_depth}
use Rattle.value_store.specs.Value.{ValueOrError}
use Rattle.cel_macros.specs.FoldMeaning.{pushed}
use Rattle.cel_macros.specs.Literals.{list_literal, map_literal}
use Rattle.expression_code.specs.Limits.{word_limit}
use Rattle.expression_code.specs.CpuState.{CpuState}
use Rattle.expression_code.specs.Code.Aggregates.{entry_code, item_code, list_code, map_code}
use Rattle.expression_code.specs.Contexts.{Context, IsWellFormedState, Evaluates, Preserves, variable_count}
use Rattle.expression_code.specs.Engine.{RunContext, RunsTo}
use Rattle.expression_code.specs.Helpers.{put_of}
use Rattle.expression_code.specs.Pieces.{IsCodeAt, size}
use Rattle.expression_code.specs.Words.{word_at}

-- a list or a map may hold it: if it is too deep for them, the run context allows that
abbrev pub MayHold : RunContext → ValueOrError → Type 0
MayHold s x = nat_le depth_limit (result_depth x) ≡ true → s.is_deep ≡ true

-- word k holds the value so far, which is not too deep
pub record Made (c : Context) (depth k : ℕ) (x : ValueOrError) (b : CpuState) : Type 0 where
  pub named : Names b.values.values (word_at depth k b) x
  pub within : result_depth x ≤ depth_limit
  pub fits : IsWellFormedState c depth k b

-- and so does R0
pub record MadeInR0 (c : Context) (depth k : ℕ) (x : ValueOrError) (old new : CpuState) : Type 0 where
  pub made : Made c depth k x new
  pub shows : Names new.values.values (new.registers R0) x
  pub keeps : Preserves (variable_count c) depth k old new

-- the piece computes f x from the x in word k and R0
pub record Builds (s : RunContext) (p : ℕ) (piece : List Insn) (c : Context) (depth k : ℕ) (f : ValueOrError → ValueOrError)
    (steps charge : ℕ) : Type 0 where
  pub runs : (b : CpuState) (x : ValueOrError) → IsCodeAt s.image.code p piece → Made c depth k x b
      → Names b.values.values (b.registers R0) x
      → RunsTo s steps charge p b (p + size piece) (MadeInR0 c depth k (f x) b)

-- the piece appends these items, each of which may be the error
abbrev pub ItemsGive : RunContext → ℕ → List Insn → Context → ℕ → ℕ → List ValueOrError → ℕ → ℕ → Type 0
ItemsGive s p piece c depth k xs steps charge = Builds s p piece c depth k (λ l. fold_left pushed l xs) steps charge

-- a map with one more entry
abbrev pub with_pair : ValueOrError → (ValueOrError × ValueOrError) → ValueOrError
with_pair m e = put_of m e.0 e.1

-- the piece puts these entries
abbrev pub EntriesGive : RunContext → ℕ → List Insn → Context → ℕ → ℕ → List (ValueOrError × ValueOrError) → ℕ → ℕ → Type 0
EntriesGive s p piece c depth k es steps charge = Builds s p piece c depth k (λ m. fold_left with_pair m es) steps charge

-- A list takes 2 steps and 1 of charge besides its items. An item takes 4 steps and 2 of charge besides its own.
pub record ListGives : Type 0 where
  pub none : (s : RunContext) (p : ℕ) (c : Context) (depth k : ℕ) → ItemsGive s p [] c depth k [] 0 0
  pub more : (s : RunContext) (p k : ℕ) (item items : List Insn) (c : Context) (depth : ℕ)
      (x : ValueOrError) (xs : List ValueOrError) (n1 x1 n2 x2 : ℕ)
      → k < word_limit
      → MayHold s x
      → Evaluates s p item c depth (k + 1) x n1 x1
      → ItemsGive s (p + size item + 4) items c depth k xs n2 x2
      → ItemsGive s p (item_code item k ++ items) c depth k (x ∷ xs) (n1 + 4 + n2) (x1 + 2 + x2)
  pub whole : (s : RunContext) (p k : ℕ) (items : List Insn) (c : Context) (depth : ℕ) (xs : List ValueOrError) (n x : ℕ)
      → k < word_limit
      → ItemsGive s (p + 2) items c depth k xs n x
      → Evaluates s p (list_code items k) c depth k (list_literal xs) (2 + n) (1 + x)

-- A map takes 2 steps and 1 of charge besides its entries. An entry takes 6 steps and 2 of charge besides its own.
pub record MapGives : Type 0 where
  pub none : (s : RunContext) (p : ℕ) (c : Context) (depth k : ℕ) → EntriesGive s p [] c depth k [] 0 0
  pub more : (s : RunContext) (p k : ℕ) (key entry entries : List Insn) (c : Context) (depth : ℕ)
      (x y : ValueOrError) (es : List (ValueOrError × ValueOrError)) (n1 x1 n2 x2 n3 x3 : ℕ)
      → k + 1 < word_limit
      → MayHold s y
      → Evaluates s p key c depth (k + 1) x n1 x1
      → Evaluates s (p + size key + 1) entry c depth (k + 2) y n2 x2
      → EntriesGive s (p + size key + 1 + size entry + 5) entries c depth k es n3 x3
      → EntriesGive s p (entry_code key entry k ++ entries) c depth k ((x, y) ∷ es) (n1 + (1 + n2 + 5) + n3) (x1 + (x2 + 2) + x3)
  pub whole : (s : RunContext) (p k : ℕ) (entries : List Insn) (c : Context) (depth : ℕ) (es : List (ValueOrError × ValueOrError)) (n x : ℕ)
      → k < word_limit
      → EntriesGive s (p + 2) entries c depth k es n x
      → Evaluates s p (map_code entries k) c depth k (map_literal es) (2 + n) (1 + x)
