-- What a piece gives in a scope, it gives if more variables follow the scope.
use Rattle.expression_code.proofs.Prelude.{◌≡◌, ℕ, List, ◌++◌, length-append, Bool, ap, ◌∙◌, arith, slice_get, cases_lt, map-append, Insn, Image, Value, ValueOrError, Roots, CpuState, Context, IsWellFormedState, Evaluates, LeavesValue, RunContext, LaterGives, Variable, WiderGives, bindings, scope_setting, FrameUse, used_context}
use Rattle.expression_code.proofs.Runs.{into, wider}
use Rattle.expression_code.proofs.Values.{get_before, get_front}

module _ (image : Image) (deep : Bool) (roots : Roots) (constants : List ℕ) (scope later : List Variable) (words : FrameUse) (items : List (List ℕ × Value)) (depth base : ℕ) where
  abbrev here : Context
  here = used_context roots items words constants (bindings scope)

  -- the same with the later variables
  abbrev all : Context
  all = used_context roots items words constants (bindings (scope ++ later))

  bindings_are : bindings (scope ++ later) ≡ bindings scope ++ bindings later
  bindings_are = map-append (λ (v : Variable). (v.name, v.value)) scope later

  fits_before : (b : CpuState) → IsWellFormedState all depth base b → IsWellFormedState here depth base b
  fits_before b fits = record {
    frame = fits.frame;
    values = fits.values;
    holds = record { names = fits.holds.names; path = fits.holds.path; memos = λ i x at. fits.holds.memos i x (ap (λ (vs : List (List ℕ × ValueOrError)). slice_get vs i) bindings_are ∙ get_before (bindings scope) (bindings later) i x at); lists = fits.holds.lists };
    constants = fits.constants;
  }

  runs : (s : RunContext) (p : ℕ) (piece : List Insn) (x : ValueOrError) (n m : ℕ) → Evaluates s p piece here depth base x n m → Evaluates s p piece all depth base x n m
  runs s p piece x n m g = record {
    runs = λ b has fits. into s (LeavesValue all depth base x b) (λ b1 shown. grind (arith, cases_lt, get_front, bindings_are, length-append))
        (g.runs b has (fits_before b fits));
  }

pub later_gives : LaterGives
later_gives image deep roots constants scope later words items p piece depth base x n m g =
    runs image deep roots constants scope later words items depth base (scope_setting image deep scope) p piece x n m g

pub wider_gives : WiderGives
wider_gives image deep scope more p piece c depth base x n m g = grind (arith, map-append, runs, wider)
