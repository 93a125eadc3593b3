-- The result of each helper, from the values of its operands and the meaning of CEL's operations.
use Rattle.std.specs.Prelude.{◌≡◌, ℕ, ◌+◌, ◌^◌, ◌<◌, ◌≤◌, ℤ, pos, true, List, length, Option, Some, None, slice_get}
use Rattle.std.specs.Fmt.{signed_decimal}
use Rattle.std.specs.Int.{w64, cast_signed, cast_unsigned}
use Rattle.std.specs.Str.{is_utf8}
use Rattle.helper_table.specs.Building.{depth_limit, entered}
use Rattle.helper_table.specs.Calls.{bytes_at}
use Rattle.helper_table.specs.Conversions.{kind_number}
use Rattle.helper_table.specs.Laws.{Names}
use Rattle.insn_codec.specs.declared.register.Register.{Register, TheVariants.R1, TheVariants.R2, TheVariants.R3}
use Rattle.value_store.specs.Calls.{joined}
use Rattle.value_store.specs.Seen.{outcome_view}
use Rattle.value_store.specs.Size.{result_depth}
use Rattle.value_store.specs.Value.{Value, ValueOrError, error, value, int, text, list, map, no_items, no_entries, list_of}
use Rattle.cel_macros.specs.Arithmetic.{int_part}
use Rattle.cel_macros.specs.Comparison.{equal_of, less_of, member_of}
use Rattle.cel_macros.specs.Environment.{Roots, value_or_error}
use Rattle.cel_macros.specs.FoldMeaning.{pushed}
use Rattle.cel_macros.specs.Functions.{size_of, text_test_of}
use Rattle.cel_macros.specs.declared.text_test.TextTest.{TheVariants.StartsWith, TheVariants.EndsWith, TheVariants.Contains}
use Rattle.cel_macros.specs.Logic.{not_of}
use Rattle.cel_macros.specs.Macros.{range_of}
use Rattle.cel_macros.specs.Selection.{field_of, has_of, index_of}
use Rattle.expression_code.specs.CpuState.{CpuState}
use Rattle.expression_code.specs.Calls.{HelperPlaces, Refuses, Tells}
use Rattle.expression_code.specs.Contexts.{HasValues}

-- the register holds the value or the error
abbrev pub Holding : CpuState → Register → ValueOrError → Type 0
Holding b r x = Names b.values.values (b.registers r) x

-- registers r and s hold the address and the length of a range of the constants with these bytes
pub record Lends (b : CpuState) (r s : Register) (bytes : List ℕ) : Type 0 where
  pub bytes_are : bytes_at b.memory.constants (b.registers r) (b.registers s) ≡ Some bytes
  pub address : b.registers r < 2 ^ 64
  pub count : b.registers s < 2 ^ 64

-- a helper of one operand, in R1, whose result is a function of the operand's value
abbrev pub UnaryHelper : ℤ → (ValueOrError → ValueOrError) → Type 0
UnaryHelper helper f = (roots : Roots) (b : CpuState) (x : ValueOrError) → HasValues roots b.values → Holding b R1 x
    → HelperPlaces helper b (f x) 1

-- a helper of two operands, in R1 and R2, whose result is a function of their values
abbrev pub BinaryHelper : ℤ → (ValueOrError → ValueOrError → ValueOrError) → Type 0
BinaryHelper helper f = (roots : Roots) (b : CpuState) (x y : ValueOrError) → HasValues roots b.values → Holding b R1 x → Holding b R2 y
    → HelperPlaces helper b (f x y) 1

-- a helper that looks up a key
abbrev pub KeyHelper : ℤ → (ValueOrError → List ℕ → ValueOrError) → Type 0
KeyHelper helper f = (roots : Roots) (b : CpuState) (x : ValueOrError) (key : List ℕ) → HasValues roots b.values → Holding b R1 x
    → Lends b R2 R3 key → HelperPlaces helper b (f x key) 1

-- the concatenation of two texts or two lists, else the error
abbrev pub join_of : ValueOrError → ValueOrError → ValueOrError
join_of x y = value_or_error (joined (Some x) (Some y))

-- the number of bytes or items of a concatenation
abbrev pub joined_length : Option Value → ℕ
joined_length (Some (text s)) = length s
joined_length (Some (list is)) = length (list_of is)
joined_length _ = 0

-- a map with one more entry; the error if the key already exists or is not a text, or if the map or the value is the
-- error
abbrev pub put_of : ValueOrError → ValueOrError → ValueOrError → ValueOrError
put_of m k x = value_or_error (entered (Some m) (Some k) (Some x))

-- the result of each helper, and when it stops
pub record HelpersAnswer : Type 0 where
  pub kind : (roots : Roots) (b : CpuState) (x : ValueOrError) → HasValues roots b.values → Holding b R1 x
      → Tells (pos 1) b (kind_number (outcome_view x)) 1
  pub int_of : (roots : Roots) (b : CpuState) (z : ℤ) → HasValues roots b.values → Holding b R1 (value (int z))
      → Tells (pos 2) b (cast_unsigned w64 z) 1
  pub int_new : (roots : Roots) (b : CpuState) → HasValues roots b.values → b.registers R1 < 2 ^ 64
      → HelperPlaces (pos 3) b (value (int (cast_signed w64 (b.registers R1)))) 1
  pub text_const : (roots : Roots) (b : CpuState) (bytes : List ℕ) → HasValues roots b.values → Lends b R1 R2 bytes → is_utf8 bytes ≡ true
      → HelperPlaces (pos 4) b (value (text bytes)) (1 + length bytes)
  pub field : KeyHelper (pos 5) field_of
  pub has : KeyHelper (pos 6) has_of
  pub index : BinaryHelper (pos 7) index_of
  pub size : UnaryHelper (pos 8) size_of
  pub equal : BinaryHelper (pos 9) equal_of
  pub less : BinaryHelper (pos 10) less_of
  pub join : (roots : Roots) (b : CpuState) (x y : ValueOrError) → HasValues roots b.values → Holding b R1 x → Holding b R2 y
      → HelperPlaces (pos 11) b (join_of x y) (1 + joined_length (joined (Some x) (Some y)))
  pub starts : BinaryHelper (pos 12) (text_test_of (Some StartsWith))
  pub ends : BinaryHelper (pos 13) (text_test_of (Some EndsWith))
  pub contains : BinaryHelper (pos 14) (text_test_of (Some Contains))
  pub member : BinaryHelper (pos 15) member_of
  pub list_new : (roots : Roots) (b : CpuState) → HasValues roots b.values → HelperPlaces (pos 16) b (value (list no_items)) 1
  pub push : (roots : Roots) (b : CpuState) (l x : ValueOrError) → HasValues roots b.values → Holding b R1 l → Holding b R2 x
      → result_depth (pushed l x) ≤ depth_limit → HelperPlaces (pos 17) b (pushed l x) 2
  pub push_deep : (b : CpuState) (l x : ValueOrError) → Holding b R1 l → Holding b R2 x → depth_limit < result_depth (pushed l x)
      → Refuses (pos 17) b
  pub map_new : (roots : Roots) (b : CpuState) → HasValues roots b.values → HelperPlaces (pos 18) b (value (map no_entries)) 1
  pub put : (roots : Roots) (b : CpuState) (m k x : ValueOrError) → HasValues roots b.values → Holding b R1 m → Holding b R2 k
      → Holding b R3 x
      → result_depth (put_of m k x) ≤ depth_limit → HelperPlaces (pos 19) b (put_of m k x) 2
  pub put_deep : (b : CpuState) (m k x : ValueOrError) → Holding b R1 m → Holding b R2 k → Holding b R3 x
      → depth_limit < result_depth (put_of m k x) → Refuses (pos 19) b
  pub item : (roots : Roots) (b : CpuState) (x : ValueOrError) (items : List Value) (v : Value) (i : ℕ) → HasValues roots b.values
      → Holding b R1 x → b.registers R2 ≡ i → i < 2 ^ 64 → range_of x ≡ Some items → slice_get items i ≡ Some v
      → HelperPlaces (pos 20) b (value v) 1
  pub count : (roots : Roots) (b : CpuState) (x : ValueOrError) (items : List Value) → HasValues roots b.values → Holding b R1 x
      → range_of x ≡ Some items → Tells (pos 21) b (length items) 1
  pub no_count : (roots : Roots) (b : CpuState) (x : ValueOrError) → HasValues roots b.values → Holding b R1 x → range_of x ≡ None
      → Tells (pos 21) b 0xffff_ffff_ffff_ffff 1
  pub text_of_int : (roots : Roots) (b : CpuState) (z : ℤ) → HasValues roots b.values → Holding b R1 (value (int z))
      → HelperPlaces (pos 22) b (value (text (signed_decimal z))) (1 + length (signed_decimal z))
  pub no_text_of_int : (roots : Roots) (b : CpuState) (x : ValueOrError) → HasValues roots b.values → Holding b R1 x → int_part x ≡ None
      → HelperPlaces (pos 22) b error 1
  pub not : UnaryHelper (pos 23) not_of
