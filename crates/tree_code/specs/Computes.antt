-- The bounds on steps and charge within which the code of an expression gives its value.
use Rattle.std.specs.Prelude.{◌≡◌, ◌≤◌, ℕ, ◌+◌, ◌-◌, ◌*◌, List, [], Bool, true}
use Rattle.std.specs.Prelude.{map as each}
use Rattle.std.specs.List.{AllByRecursion}
use Rattle.bpf_machine.specs.Limits.{record_limit}
use Rattle.expression_code.specs.Limits.{steps_per_visit, charge_per_unit, part_steps_per_visit, part_charge_per_unit, word_limit, budget_reserve}
use Rattle.insn_codec.specs.declared.insn.Insn.{Insn}
use Rattle.value_store.specs.Value.{Value, ValueOrError}
use Rattle.cel_macros.specs.CoreTree.{Core, plain_tree}
use Rattle.cel_macros.specs.Environment.{Environment, Roots}
use Rattle.cel_macros.specs.Meaning.{meaning}
use Rattle.cel_measures.specs.Measures.{deepest, depth as depth_of, need}
use Rattle.tree_code.specs.Accepted.{IsAccepted}
use Rattle.tree_code.specs.Code.Expressions.{texts_of}
use Rattle.tree_code.specs.Code.Literals.{address_of}
use Rattle.tree_code.specs.Code.Whole.{whole_code}
use Rattle.tree_code.specs.Cost.{Cost, cost, spent_by}
use Rattle.expression_code.specs.Contexts.{Context, Evaluates}
use Rattle.expression_code.specs.Engine.{RunContext}
use Rattle.expression_code.specs.Gives.Selection.{HasText}
use Rattle.expression_code.specs.Paths.{FrameUse}
use Rattle.expression_code.specs.Scopes.{Variable, bindings}
use Rattle.expression_code.specs.Variables.{used_context}

-- each of these texts is among the constants, at the address that the code uses
abbrev pub TextsStand : List ℕ → List (List ℕ) → List (List ℕ) → Type 0
TextsStand constants texts used = AllByRecursion (λ t. HasText constants (address_of texts t) t) used

-- The piece gives the value or the error within 128 steps a visit and 16 times the cost, each less 8. These 8 pay for
-- keeping the value in a list or map.
abbrev pub Computes : RunContext → ℕ → List Insn → Context → ℕ → ℕ → ValueOrError → Cost → Type 0
Computes s p piece c depth k x t =
    Evaluates s p piece c depth k x (steps_per_visit * t.visits - budget_reserve) (charge_per_unit * spent_by t - budget_reserve)

-- the same within 120 steps a visit and 15 times the cost; the rest pays for a path that is kept before the piece
abbrev pub ComputesPart : RunContext → ℕ → List Insn → Context → ℕ → ℕ → ValueOrError → Cost → Type 0
ComputesPart s p piece c depth k x t =
    Evaluates s p piece c depth k x (part_steps_per_visit * t.visits - budget_reserve) (part_charge_per_unit * spent_by t - budget_reserve)

-- the meaning of names if the variables of a scope may be used
abbrev pub scope_context : Roots → List (List ℕ × Value) → FrameUse → List ℕ → List Variable → Context
scope_context roots items words constants scope = used_context roots items words constants (bindings scope)

-- the names of a scope's variables
abbrev pub names : List Variable → List (List ℕ)
names = each (λ v. v.name)

-- the first slot of each variable's routine
abbrev pub routines : List Variable → List (List ℕ × ℕ)
routines = each (λ v. (v.name, v.routine))

-- the largest number of frames that a use of each variable opens
abbrev pub nestings : List Variable → List (List ℕ × ℕ)
nestings = each (λ v. (v.name, v.nesting))

-- The machine and the frame are ready for the code: its variables are in the scope, there are enough frames for them,
-- there is room for its words, and its texts are among the constants. If a list or map would hold a value that is too
-- deep, the machine may stop for it.
pub record Ready (s : RunContext) (scope : List Variable) (texts : List (List ℕ)) (c : Context)
    (depth k : ℕ) (e : Core) (deep : Bool) : Type 0 where
  pub accepted : IsAccepted e (names scope)
  pub frames : depth + deepest e (nestings scope) ≤ record_limit
  pub room : k + need e ≤ word_limit
  pub texts_stand : TextsStand c.constants texts (texts_of e)
  pub may : deep ≡ true → s.is_deep ≡ true

-- the environment of an expression that may use the variables of a scope
abbrev pub environment_in : Roots → List (List ℕ × Value) → List Variable → Environment
environment_in roots items scope = record { roots = roots; items = items; variables = bindings scope }

-- the variable with this name and expression, which may use those of a scope; its routine, at slot p, has this code
-- for the expression
abbrev pub variable_with : List Insn → Roots → List Variable → List ℕ → Core → ℕ → Variable
variable_with body roots scope name e p = record {
  name = name;
  value = meaning (plain_tree e) (environment_in roots [] scope);
  routine = p;
  body = body;
  nesting = depth_of e (nestings scope);
  steps = steps_per_visit * (cost (plain_tree e) (environment_in roots [] scope)).visits - budget_reserve;
  charge = charge_per_unit * spent_by (cost (plain_tree e) (environment_in roots [] scope)) - budget_reserve;
}

-- the variable, with the code of its expression
abbrev pub variable_of : Roots → List Variable → List (List ℕ) → List ℕ → Core → ℕ → Variable
variable_of roots scope texts name e p = variable_with (whole_code e texts (routines scope) p) roots scope name e p
