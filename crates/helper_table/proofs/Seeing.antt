-- A row by the outlines of its operands.
use Rattle.helper_table.proofs.Prelude.{◌≡◌, ℕ, Option, Some, arith, List, length, sym, option_map, Seen, outcome_view, ValueOrError, text, on_operand, on_lent, RowOutcome, Plain, Named, outcome_by, Placement, cond-true, cond-false, false_from_ne_true, is_utf8-from_IsUtf8, IsUtf8-from_is_utf8, is_utf8, IsUtf8, text_const_row}
use Rattle.helper_table.specs.declared.placement.Placement.TheVariants as placement

-- an effect that is a word
pub worded : (vs : List ValueOrError) (a : Placement) (added w : ℕ) → a ≡ placement.Word w → added ≡ 0 → outcome_by vs a added ≡ Plain w 0
worded vs a added w e f = grind arith

-- the outline decides, with the parts that the store looks up
pub by_operand : (o : Option ValueOrError) (s : Seen) (row : Seen → Option ValueOrError → RowOutcome) → option_map outcome_view o ≡ Some s → on_operand o (λ x. row (outcome_view x) (Some x)) ≡ row s o
by_operand o s row e = grind arith

-- the outlines of two operands decide
pub by_operands : (a b : Option ValueOrError) (s t : Seen) (row : Seen → Seen → Option ValueOrError → Option ValueOrError → RowOutcome) → option_map outcome_view a ≡ Some s → option_map outcome_view b ≡ Some t → on_operand a (λ x. on_operand b (λ y. row (outcome_view x) (outcome_view y) (Some x) (Some y))) ≡ row s t a b
by_operands a b s t row e f = grind arith

-- ---- a row on the bytes of a range, and texts with these bytes

pub by_lent : (o : Option (List ℕ)) (bytes : List ℕ) (row : List ℕ → RowOutcome) → o ≡ Some bytes → on_lent o row ≡ row bytes
by_lent o bytes row e = grind arith

pub text_of_utf8 : (t bytes : List ℕ) → t ≡ bytes → IsUtf8 bytes → Named (text t) (length t) ≡ text_const_row bytes
unfolding text_const_row
text_of_utf8 t bytes e utf8 = grind (arith, cond-true, is_utf8-from_IsUtf8)

pub no_text : (bytes : List ℕ) → ¬ IsUtf8 bytes → Plain 0 0 ≡ text_const_row bytes
unfolding text_const_row
no_text bytes fails = sym (cond-false (is_utf8 bytes) _ _ (false_from_ne_true _ (λ is. fails (IsUtf8-from_is_utf8 bytes is))))
