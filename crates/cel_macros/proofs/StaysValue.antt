-- An expression in an environment of values means a value or the error.
use Rattle.cel_macros.proofs.Prelude.{◌≡◌, ℕ, zero, suc, ◌/◌, ◌%◌, ◌<◌, Bool, true, false, List, [], ◌∷◌, arith, Option, Some, IfSome, ℤ, pos, negsuc, int_rem, ◌+ℤ◌, ⊤, FitsSigned, w64, AllByRecursion, IsAscii, IsUtf8, digit_glyph, digits_onto, decimal, signed_decimal, IsUtf8-append, IsUtf8-from_ascii, IsAscii-nil, IsAscii-cons, Tree, Trees, no_trees, more_trees, TreeEntries, no_entries as no_tree_entries, more_entries, IsWellFormed, AreWellFormed, HasWellFormedEntries, BinaryOperator, UnaryOperator, Value, int, text, list, ValueOrError, error, value, Environment, bind, Truth, truth, of_truth, chosen, fits, int_or_error, int_part, is_zero, quotient, remainder, sum_of, on_values, entries_in, Function, Size, TextTest, size_of, string_of, method_of, function_named, text_test_of, range_of, macro_named, is_map, is_has, is_variables, name_of, field_name, unary_of, binary_of, called, meaning, meanings, entry_meanings, operand_meaning, IsValueOrError, NamesValues, AtSize, AtSizes, AtEntrySizes, TextsAndKeysStay, IntsStay}
use Rattle.std.specs.Fmt.{digits}
use Rattle.cel_reader.specs.Tree as tree
use Rattle.cel_macros.proofs.ValueParts.{joined, an_item, a_list_literal, all_entries, a_map, range_in, over, map_over, named, within, a_selection}

glyph : (d : ℕ) → d < 10 → digit_glyph false d < 128
glyph d low = grind arith

digits_ascii : (k n : ℕ) (more : List ℕ) → IsAscii more → IsAscii (digits_onto k 10 false n more)
digits_ascii zero n more h = h
digits_ascii (suc k) n more h =
    grind (arith, digits_ascii k (n / 10) (digit_glyph false (n % 10) ∷ more) (IsAscii-cons (digit_glyph false (n % 10)) more (glyph (n % 10) (omega arith)) h))

decimal_ascii : (n : ℕ) → IsAscii (decimal n)
unfolding digits
decimal_ascii n = digits_ascii 64 n [] IsAscii-nil

number_utf8 : (z : ℤ) → IsUtf8 (signed_decimal z)
number_utf8 (pos n) = IsUtf8-from_ascii (decimal n) (decimal_ascii n)
number_utf8 (negsuc n) = IsUtf8-from_ascii (45 ∷ decimal (suc n)) (IsAscii-cons 45 (decimal (suc n)) (omega arith) (decimal_ascii (suc n)))

-- the property of ints that arithmetic keeps, and that of a size
module _ (P : ℤ → Type 0) (S : Type 0) (fitting : (z : ℤ) → fits z ≡ true → P z) (resting : (a b : ℤ) → P a → P b → is_zero b ≡ false → P (int_rem a b))
    (sized : S → (n : ℕ) → P (pos n)) where
  abbrev Is : ValueOrError → Type 0
  Is x = IsValueOrError P x

  -- ---- operators

  of_truths : (t : Truth) → Is (of_truth t)
  of_truths t = grind arith

  one_of : (t : Truth) (a b : ValueOrError) → Is a → Is b → Is (chosen t a b error)
  one_of t a b h k = grind arith

  an_int : (z : ℤ) → Is (int_or_error z)
  an_int z = grind arith

  compared : (test : Value → Value → Option Bool) (x y : ValueOrError) → Is (on_values test x y)
  compared test x y = grind arith

  a_quotient : (a b : ℤ) → Is (quotient a b)
  a_quotient a b = grind arith

  a_remainder : (a b : ℤ) → P a → P b → Is (remainder a b)
  a_remainder a b h k = grind arith

  abbrev Int : Option ℤ → Type 0
  Int o = IfSome o P

  int_in : (x : ValueOrError) → Is x → Int (int_part x)
  int_in x h = grind arith

  summed : (x y : ValueOrError) → Is x → Is y → Is (sum_of x y)
  summed (value (int a)) (value (int b)) h k = an_int (a +ℤ b)
  summed (value (text a)) (value (text b)) h k = IsUtf8-append a b h k
  summed (value (list a)) (value (list b)) h k = joined P a b h k
  summed _ _ h k = tt

  by_unary : (op : UnaryOperator) (x : ValueOrError) → Is (unary_of op x)
  by_unary op x = grind arith

  by_binary : (op : BinaryOperator) (x y : ValueOrError) → Is x → Is y → Is (binary_of op x y)
  by_binary op x y h k = grind (arith, of_truths, compared, summed, an_int, int_in, a_quotient, a_remainder)

  -- ---- functions

  a_size : (x : ValueOrError) → S → Is (size_of x)
  a_size x s = grind arith

  a_text : (x : ValueOrError) → Is x → Is (string_of x)
  a_text x h = grind (arith, number_utf8)

  by_method : (f : Option Function) (x : ValueOrError) → (f ≡ Some Size → S) → Is (method_of f x)
  by_method f x s = grind arith

  by_test : (t : Option TextTest) (a b : ValueOrError) → Is (text_test_of t a b)
  by_test t a b = grind arith

  by_call : (b : Bool) (f : Option (List ℕ)) (g : Option Function) (x y : ValueOrError) → (g ≡ Some Size → S) → Is y → Is (called b f g x y)
  by_call b f g x y s h = grind (arith, a_size, a_text)

  module _ (small : (z : ℤ) → FitsSigned w64 z → P z) where
    mutual
      unfolding meaning meanings entry_meanings

      stays : (e : Tree) (env : Environment) → IsWellFormed e → AtSize S e → NamesValues P env → Is (meaning e env)
      stays (tree.select a f) env w s h = a_selection P (is_variables a) f (meaning a env) env (stays a env w.0 s h) h
      stays (tree.index a k) env w s h = an_item P (meaning a env) (meaning k env) (stays a env w.0 s.0 h)
      stays (tree.binary op a b) env w s h = by_binary op (meaning a env) (meaning b env) (stays a env w.0 s.0 h) (stays b env w.1 s.1 h)
      stays (tree.ternary c a b) env w s h = one_of (truth (meaning c env)) (meaning a env) (meaning b env) (stays a env w.1 s.1 h) (stays b env w.2 s.2 h)
      stays (tree.list items) env w s h = a_list_literal P (meanings items env) (each_stays items env w s h)
      stays (tree.map es) env w s h = a_map P (entries_in (entry_meanings es env)) (all_entries P (entry_meanings es env) (entries_stay es env w s h))
      stays (tree.call n (more_trees a no_trees)) env w s h = by_call (is_has n) (field_name a) (function_named n) (operand_meaning a env) (meaning a env) s.0
          (stays a env w.1.0 s.1.0 h)
      stays (tree.method a n (more_trees x (more_trees p no_trees))) env w s h =
          over P (macro_named n) (name_of x) (λ i v. meaning p (bind i v env)) (range_of (meaning a env))
          (λ i v k. stays p (bind i v env) w.2.1.0 s.2.1.0 (within P i v env k h)) (range_in P (meaning a env) (stays a env w.0 s.0 h))
      stays (tree.method a n (more_trees x (more_trees p (more_trees t no_trees)))) env w s h =
          map_over P (is_map n) (name_of x) (λ i v. meaning p (bind i v env)) (λ i v. meaning t (bind i v env)) (range_of (meaning a env))
          (λ i v k. stays t (bind i v env) w.2.1.1.0 s.2.1.1.0 (within P i v env k h)) (range_in P (meaning a env) (stays a env w.0 s.0 h))
      stays e env w s h = grind (arith, named, by_unary, by_method, by_test)

      each_stays : (ts : Trees) (env : Environment) → AreWellFormed ts → AtSizes S ts → NamesValues P env → AllByRecursion Is (meanings ts env)
      each_stays no_trees env w s h = tt
      each_stays (more_trees a more) env w s h = (stays a env w.0 s.0 h, each_stays more env w.1 s.1 h)

      entries_stay : (es : TreeEntries) (env : Environment) → HasWellFormedEntries es → AtEntrySizes S es → NamesValues P env
          → AllByRecursion (λ e. Is e.0 × Is e.1) (entry_meanings es env)
      entries_stay no_tree_entries env w s h = tt
      entries_stay (more_entries k v more) env w s h = ((stays k env w.0 s.0 h, stays v env w.1 s.1 h), entries_stay more env w.2 s.2 h)

mutual
  any_size : (e : Tree) → AtSize ⊤ e
  any_size (tree.select a f) = any_size a
  any_size (tree.index a k) = (any_size a, any_size k)
  any_size (tree.call n arguments) = ((λ e. tt), any_sizes arguments)
  any_size (tree.method a n arguments) = (any_size a, (λ e. tt), any_sizes arguments)
  any_size (tree.unary op a) = any_size a
  any_size (tree.binary op a b) = (any_size a, any_size b)
  any_size (tree.ternary c a b) = (any_size c, any_size a, any_size b)
  any_size (tree.list items) = any_sizes items
  any_size (tree.map es) = any_entry_sizes es
  any_size _ = tt

  any_sizes : (ts : Trees) → AtSizes ⊤ ts
  any_sizes no_trees = tt
  any_sizes (more_trees a more) = (any_size a, any_sizes more)

  any_entry_sizes : (es : TreeEntries) → AtEntrySizes ⊤ es
  any_entry_sizes no_tree_entries = tt
  any_entry_sizes (more_entries k v more) = (any_size k, any_size v, any_entry_sizes more)

pub texts_stay : TextsAndKeysStay
texts_stay e env w h = stays (λ z. ⊤) ⊤ (λ z f. tt) (λ a b h k f. tt) (λ s n. tt) (λ z f. tt) e env w (any_size e) h

fits_yes : (z : ℤ) → fits z ≡ true → FitsSigned w64 z
fits_yes z e = grind arith

rest_fits : (a b : ℤ) → FitsSigned w64 a → FitsSigned w64 b → is_zero b ≡ false → FitsSigned w64 (int_rem a b)
rest_fits a b h k e = grind arith

pub ints_stay : IntsStay
ints_stay e env w s h = stays (FitsSigned w64) ⊥ fits_yes rest_fits (λ s n. absurd s) (λ z f. f) e env w s h
