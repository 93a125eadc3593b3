-- A program from its start to its exit.
use Rattle.std.specs.Prelude.{◌≡◌, ℕ, ◌+◌, ◌<◌, Bool, All, List, [], ◌∷◌, ◌++◌, nat_eq, if◌then◌else◌}
use Rattle.std.specs.Prelude.{map as each}
use Rattle.guest_memory.specs.Memory.{start_memory}
use Rattle.helper_table.specs.Laws.{Names}
use Rattle.insn_codec.specs.Codes.{register_number}
use Rattle.insn_codec.specs.declared.insn.Insn.{Insn, TheVariants.Exit}
use Rattle.insn_codec.specs.declared.register.Register.{Register, TheVariants.R0}
use Rattle.loader.specs.Contents as loader
use Rattle.value_store.specs.Placing.{Contents}
use Rattle.value_store.specs.Value.{ValueOrError}
use Rattle.cel_macros.specs.Environment.{Roots}
use Rattle.bpf_machine.specs.State.{start_state}
use Rattle.bpf_machine.specs.Trace.{state_after}
use Rattle.expression_code.specs.CpuState.{CpuState}
use Rattle.expression_code.specs.Contexts.{Evaluates, HasValues}
use Rattle.expression_code.specs.Engine.{ExitsOrRunsOut}
use Rattle.expression_code.specs.FirstUses.{FirstUse}
use Rattle.expression_code.specs.Pieces.{AreInsns, spellings}
use Rattle.expression_code.specs.Variables.{routine_context, with_variables}

-- the registers before the first step
abbrev pub start_registers : Register → ℕ
start_registers r = if nat_eq (register_number r) 10 then 0x1_0000_0200 else 0

-- the CPU state before the first step
abbrev pub start_body : loader.Image → Contents → CpuState
start_body image values = record { registers = start_registers; records = []; memory = start_memory image.constants; values = values }

-- the sum of the numbers
abbrev pub total : List ℕ → ℕ
total [] = 0
total (n ∷ ns) = n + total ns

-- An image whose code begins with a piece for a value and an exit is run from the start. After its steps and those of
-- its variables it has exited with a reference of the value or of the error, or stopped for its charge or a depth.
abbrev pub ProgramExits : Type 0
ProgramExits =
    (image : loader.Image) (deep : Bool) (values : Contents) (roots : Roots) (piece : List Insn) (routines : List ℕ)
    (firsts : List FirstUse) (variables : List (List ℕ × ValueOrError)) (v : ValueOrError) (n x m : ℕ)
    → image.code ≡ spellings (piece ++ Exit ∷ []) ++ routines → All (λ b. b < 256) image.code → All (λ b. b < 256) image.constants
    → AreInsns (piece ++ Exit ∷ [])
    → HasValues roots values
    → Evaluates (with_variables image deep firsts) 0 piece (routine_context roots variables image.constants) 0 0 v n x
    → n + total (each (λ u. u.steps) firsts) < m
    → ExitsOrRunsOut (with_variables image deep firsts) x (start_body image values) (λ b. Names b.values.values (b.registers R0) v)
    (state_after m (start_state image values))
