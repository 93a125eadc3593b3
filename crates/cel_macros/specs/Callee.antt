-- Callees of calls and methods: a function of one operand, a test of two texts, or an unknown name.
use Rattle.std.specs.Prelude.{ℕ, List, Option, Some, None, string_bytes}
use Rattle.std.specs.Option.{option_map_or}
use Rattle.cel_macros.specs.Functions.{function_name, function_named, test_name, test_named}
use Rattle.cel_macros.specs.declared.function.Function.{Function}
use Rattle.cel_macros.specs.declared.text_test.TextTest.{TextTest}
use Rattle.cel_macros.specs.declared.callee.Callee.{Callee as CodeCallee}
use Rattle.cel_macros.specs.declared.callee.Callee.TheVariants as code

-- a function, a test, or a name that is neither
pub data Callee : Type 0 where
  OfFunction : Function → Callee
  OfTest : TextTest → Callee
  Unknown : List ℕ → Callee

-- the name of a callee
abbrev pub callee_name : Callee → List ℕ
callee_name (OfFunction f) = function_name f
callee_name (OfTest t) = test_name t
callee_name (Unknown n) = n

-- the function, if the callee is one
abbrev pub function_in : Callee → Option Function
function_in (OfFunction f) = Some f
function_in (OfTest t) = None
function_in (Unknown n) = None

-- the test, if the callee is one
abbrev pub test_in : Callee → Option TextTest
test_in (OfFunction f) = None
test_in (OfTest t) = Some t
test_in (Unknown n) = None

-- the callee of a name: the function, else the test of this name
unfoldable pub callee_named : List ℕ → Callee
callee_named n = option_map_or OfFunction (function_named n) (option_map_or OfTest (test_named n) (Unknown n))

-- a callee of the code as plain data
abbrev pub callee_view : CodeCallee → Callee
callee_view (code.Function f) = OfFunction f
callee_view (code.Test t) = OfTest t
callee_view (code.Unknown n) = Unknown (string_bytes n)
