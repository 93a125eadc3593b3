-- Fields, indices, sizes, texts of values, and tests of texts.
-- The code is listed in `Code/Selection`; proofs in `proofs/Selection`.
use Rattle.std.specs.Prelude.{◌≡◌, ℕ, ◌+◌, ◌^◌, ◌<◌, ◌≤◌, List, length, Some}
use Rattle.helper_table.specs.Calls.{bytes_at}
use Rattle.insn_codec.specs.declared.insn.Insn.{Insn}
use Rattle.insn_codec.specs.declared.register.Register.TheVariants.{R1, R2, R6}
use Rattle.value_store.specs.Value.{ValueOrError, value, text}
use Rattle.cel_macros.specs.Functions.{size_of, string_of, text_test_of}
use Rattle.cel_macros.specs.declared.text_test.TextTest.{TextTest}
use Rattle.cel_macros.specs.Selection.{field_of, has_of, index_of}
use Rattle.expression_code.specs.Limits.{frame_words}
use Rattle.expression_code.specs.Code.Selection.{field_tail, has_tail, index_tail, size_tail, string_tail, test_tail}
use Rattle.expression_code.specs.Contexts.{Context}
use Rattle.expression_code.specs.Engine.{RunContext}
use Rattle.expression_code.specs.Gives.Comparison.{TailGives}
use Rattle.expression_code.specs.Operators.{Converts}

-- the bytes of a text are at this address among the constants, and their number is an immediate
pub record HasText (constants : List ℕ) (address : ℕ) (bytes : List ℕ) : Type 0 where
  pub bytes_are : bytes_at constants address (length bytes) ≡ Some bytes
  pub address_is_word : address < 2 ^ 64
  pub length_is_immediate : length bytes < 2 ^ 31

-- the piece after an operand looks up a key whose text is at this address
abbrev pub KeyedGives : (ℕ → ℕ → List Insn) → (ValueOrError → List ℕ → ValueOrError) → ℕ → ℕ → Type 0
KeyedGives tail f steps charge =
    (s : RunContext) (p : ℕ) (c : Context) (depth base : ℕ) (x : ValueOrError) (address : ℕ) (key : List ℕ) → base ≤ frame_words
    → HasText c.constants address key → Converts s p (tail address (length key)) R1 c depth base x (f x key) steps charge

-- the number of bytes of a text, 0 for other values
abbrev pub text_length : ValueOrError → ℕ
text_length (value (text s)) = length s
text_length _ = 0

-- the results of the code of fields, indices, functions and tests
pub record SelectionGives : Type 0 where
  pub field : KeyedGives field_tail field_of 3 1
  pub has : KeyedGives has_tail has_of 3 1
  pub index : TailGives index_tail R1 R2 index_of 1 1
  pub size : (s : RunContext) (p : ℕ) (c : Context) (depth base : ℕ) (x : ValueOrError) → base ≤ frame_words
      → Converts s p size_tail R1 c depth base x (size_of x) 1 1
  pub string : (s : RunContext) (p : ℕ) (c : Context) (depth base : ℕ) (x : ValueOrError) → base ≤ frame_words
      → Converts s p string_tail R6 c depth base x (string_of x) 5 (2 + text_length (string_of x))
  pub test : (t : TextTest) → TailGives (test_tail t) R1 R2 (text_test_of (Some t)) 1 1
