-- What the code returns of an expression, from what it returned of its parts, which are found by equal expressions.
use Rattle.std.proofs.Common.{◌≡◌, ◌∙◌, ℕ, Bool, false, List, Result, if◌then◌else◌, string_bytes, ap, sym, subst}
use Rattle.std.specs.declared.alloc.Global.{Global}
use Rattle.std.specs.declared.boxed.Box.{Box}
use Rattle.std.specs.declared.string.String.{String}
use Rattle.cel_reader.specs.declared.operator.BinaryOperator.{BinaryOperator}
use Rattle.cel_reader.specs.declared.operator.UnaryOperator.{UnaryOperator}
use Rattle.cel_reader.specs.Tree as node
use Rattle.wide_reader.specs.Tree.{view}
use Rattle.wide_reader.specs.declared.wide.Access.{Access}
use Rattle.wide_reader.specs.declared.wide.Macro.{Macro}
use Rattle.wide_reader.specs.declared.wide.OptionalMacro.{OptionalMacro}
use Rattle.wide_reader.specs.declared.wide.Wide as code
use Rattle.wide_reader.specs.declared.wide.Wide.{Wide as CodeWide}
use Rattle.wide_kinds.specs.Kinds.{unary_kind}
use Rattle.wide_kinds.specs.declared.kind.ValueKind.TheVariants as kind
use Rattle.wide_meaning.specs.Meaning.{is_empty_list}
use Rattle.wide_translation.specs.declared.carried.Carried.{Carried as CodeCarried}
use Rattle.wide_translation.specs.declared.translation_error.TranslationError.{TranslationError}
use Rattle.wide_translation.specs.Carried.{plain, OptionalValue, TakenName, Translation, taken, refused}
use Rattle.wide_translation.specs.Declarations.{ReturnsCarried}
use Rattle.wide_translation.specs.Forms.{filter_map_tree}
use Rattle.wide_translation.specs.Names.{is_taken, written_name}
use Rattle.wide_translation.specs.Scope.{WideScope, within}
use Rattle.wide_translation.specs.Translated.{with_carried, with_plain, has_carried, index_carried, text_literal, count_literal}
use Rattle.wide_translation.specs.Translated.{operand, compares, binary_carried, ternary_carried, fold_carried, on_list, optional_carried}
unfoldable use Rattle.wide_translation.specs.Translated.{translated}
use Rattle.wide_translation.proofs.WideViews.{view_has, view_unary, view_index, view_binary, view_ternary, view_fold, view_filter_map, view_optional_fold}

-- what is returned of a translation is returned of an equal one
pub returned : (t u : Translation) (r : Result CodeCarried TranslationError) → t ≡ u → ReturnsCarried u r → ReturnsCarried t r
returned t u r p = subst (λ (y : Translation). ReturnsCarried y r) (sym p)

module _ (s : WideScope) (e : CodeWide) where
  is_free : (x : String Global) (w : List ℕ) → w ≡ string_bytes x → is_taken w ≡ false → is_taken (string_bytes x) ≡ false
  is_free x w l free = ap is_taken (sym l) ∙ free

  pub has_returned : (of : Box CodeWide Global) (field : String Global) → e ≡ code.Has of field → (a : CodeWide) (f : List ℕ) (r : Result CodeCarried TranslationError)
      → a ≡ of.value → f ≡ string_bytes field
      → ReturnsCarried (with_carried (translated s (view a)) (λ c. taken (plain kind.Bool (has_carried f c)))) r → ReturnsCarried (translated s (view e)) r
  unfolding translated
  has_returned of field is a f r p q =
      returned _ _ r (ap (λ (x : CodeWide). translated s (view x)) is ∙ ap (translated s) (view_has of field) ∙ (λ j. with_carried (translated s (view (sym p j))) (λ c. taken (plain kind.Bool (has_carried (sym q j) c)))))

  pub unary_returned : (op : UnaryOperator) (of : Box CodeWide Global) → e ≡ code.Unary op of → (a : CodeWide) (r : Result CodeCarried TranslationError) → a ≡ of.value
      → ReturnsCarried (with_plain (translated s (view a)) (λ k t. taken (plain (unary_kind op) (node.unary op t)))) r → ReturnsCarried (translated s (view e)) r
  unfolding translated
  unary_returned op of is a r p =
      returned _ _ r (ap (λ (x : CodeWide). translated s (view x)) is ∙ ap (translated s) (view_unary op of) ∙ (λ j. with_plain (translated s (view (sym p j))) (λ k t. taken (plain (unary_kind op) (node.unary op t)))))

  pub index_returned : (of : Box CodeWide Global) (o : Access) (at : Box CodeWide Global) → e ≡ code.Index of o at → (a k l : CodeWide) (r : Result CodeCarried TranslationError)
      → a ≡ of.value → k ≡ at.value → l ≡ at.value
      → ReturnsCarried (with_carried (translated s (view a)) (λ c. with_carried (translated s (view k)) (λ d. index_carried (text_literal (view l)) (count_literal (view l)) o c d))) r
      → ReturnsCarried (translated s (view e)) r
  unfolding translated
  index_returned of o at is a k l r p q n =
      returned _ _ r
      (ap (λ (x : CodeWide). translated s (view x)) is ∙ ap (translated s) (view_index of o at)
      ∙ (λ j. with_carried (translated s (view (sym p j))) (λ c. with_carried (translated s (view (sym q j))) (λ d. index_carried (text_literal (view (sym n j))) (count_literal (view (sym n j))) o c d))))

  pub binary_returned : (op : BinaryOperator) (left right : Box CodeWide Global) → e ≡ code.Binary op left right → (a b l : CodeWide) (compared empty : Bool) (r : Result CodeCarried TranslationError)
      → a ≡ left.value → b ≡ right.value → l ≡ right.value → compared ≡ compares op → empty ≡ is_empty_list (view l)
      → ReturnsCarried (with_carried (operand compared (view a) (translated s (view a))) (λ c. with_carried (operand compared (view b) (translated s (view b))) (λ d. binary_carried empty op c d))) r
      → ReturnsCarried (translated s (view e)) r
  unfolding translated
  binary_returned op left right is a b l compared empty r p q m o n =
      returned _ _ r
      (ap (λ (x : CodeWide). translated s (view x)) is ∙ ap (translated s) (view_binary op left right)
      ∙ (λ j. with_carried (operand (compares op) (view (sym p j)) (translated s (view (sym p j)))) (λ c. with_carried (operand (compares op) (view (sym q j)) (translated s (view (sym q j))))
      (λ d. binary_carried (is_empty_list (view (sym m j))) op c d)))
      ∙ (λ j. with_carried (operand (sym o j) (view a) (translated s (view a))) (λ c. with_carried (operand (sym o j) (view b) (translated s (view b))) (λ d. binary_carried (sym n j) op c d))))

  pub ternary_returned : (test one two : Box CodeWide Global) → e ≡ code.Ternary test one two → (a b c : CodeWide) (r : Result CodeCarried TranslationError)
      → a ≡ test.value → b ≡ one.value → c ≡ two.value
      → ReturnsCarried (with_plain (translated s (view a)) (λ k t. with_carried (translated s (view b)) (λ d. with_carried (translated s (view c)) (λ f. ternary_carried t d f)))) r
      → ReturnsCarried (translated s (view e)) r
  unfolding translated
  ternary_returned test one two is a b c r p q o =
      returned _ _ r
      (ap (λ (x : CodeWide). translated s (view x)) is ∙ ap (translated s) (view_ternary test one two)
      ∙ (λ j. with_plain (translated s (view (sym p j))) (λ k t. with_carried (translated s (view (sym q j))) (λ d. with_carried (translated s (view (sym o j))) (λ f. ternary_carried t d f)))))

  -- ---- macros with one name, which may be bound: w where it is tested, y and v in the scope inside, and z what it is
  -- written as

  pub fold_returned : (m : Macro) (range : Box CodeWide Global) (x : String Global) (part : Box CodeWide Global) → e ≡ code.Fold m range x part → (a b : CodeWide) (w y z : List ℕ) (r : Result CodeCarried TranslationError)
      → a ≡ range.value → b ≡ part.value → w ≡ string_bytes x → y ≡ string_bytes x → z ≡ written_name (string_bytes x) → is_taken w ≡ false
      → ReturnsCarried (with_plain (translated s (view a)) (λ k t. with_plain (translated (within y kind.Dyn s) (view b)) (λ i u. taken (fold_carried m z t u)))) r → ReturnsCarried (translated s (view e)) r
  unfolding translated
  fold_returned m range x part is a b w y z r p q l n o free =
      returned _ _ r
      (ap (λ (v : CodeWide). translated s (view v)) is ∙ ap (translated s) (view_fold m range x part)
      ∙ (λ j. if is_free x w l free j then refused (TakenName (string_bytes x)) else with_plain (translated s (view range.value)) (λ k t. with_plain (translated (within (string_bytes x) kind.Dyn s) (view part.value)) (λ i u. taken (fold_carried m (written_name (string_bytes x)) t u))))
      ∙ (λ j. with_plain (translated s (view (sym p j))) (λ k t. with_plain (translated (within (sym n j) kind.Dyn s) (view (sym q j))) (λ i u. taken (fold_carried m (sym o j) t u)))))

  pub filter_map_returned : (range : Box CodeWide Global) (x : String Global) (predicate transform : Box CodeWide Global) → e ≡ code.FilterMap range x predicate transform → (a b c : CodeWide) (w y v z : List ℕ) (r : Result CodeCarried TranslationError)
      → a ≡ range.value → b ≡ predicate.value → c ≡ transform.value → w ≡ string_bytes x → y ≡ string_bytes x → v ≡ string_bytes x → z ≡ written_name (string_bytes x) → is_taken w ≡ false
      → ReturnsCarried (with_plain (translated s (view a)) (λ k t. with_plain (translated (within y kind.Dyn s) (view b)) (λ i u. with_plain (translated (within v kind.Dyn s) (view c)) (λ h d. taken (plain kind.List (filter_map_tree z t u d)))))) r
      → ReturnsCarried (translated s (view e)) r
  unfolding translated
  filter_map_returned range x predicate transform is a b c w y v z r p q f l n g o free =
      returned _ _ r
      (ap (λ (d : CodeWide). translated s (view d)) is ∙ ap (translated s) (view_filter_map range x predicate transform)
      ∙ (λ j. if is_free x w l free j then refused (TakenName (string_bytes x)) else with_plain (translated s (view range.value)) (λ k t. with_plain (translated (within (string_bytes x) kind.Dyn s) (view predicate.value))
      (λ i u. with_plain (translated (within (string_bytes x) kind.Dyn s) (view transform.value)) (λ h d. taken (plain kind.List (filter_map_tree (written_name (string_bytes x)) t u d))))))
      ∙ (λ j. with_plain (translated s (view (sym p j))) (λ k t. with_plain (translated (within (sym n j) kind.Dyn s) (view (sym q j)))
      (λ i u. with_plain (translated (within (sym g j) kind.Dyn s) (view (sym f j))) (λ h d. taken (plain kind.List (filter_map_tree (sym o j) t u d)))))))

  pub optional_fold_returned : (m : OptionalMacro) (of : Box CodeWide Global) (x : String Global) (part : Box CodeWide Global) → e ≡ code.OptionalFold m of x part → (a b : CodeWide) (w y z : List ℕ) (r : Result CodeCarried TranslationError)
      → a ≡ of.value → b ≡ part.value → w ≡ string_bytes x → y ≡ string_bytes x → z ≡ written_name (string_bytes x) → is_taken w ≡ false
      → ReturnsCarried (with_carried (translated s (view a)) (λ c. on_list OptionalValue c (λ k t. with_carried (translated (within y kind.Dyn s) (view b)) (optional_carried m z t)))) r
      → ReturnsCarried (translated s (view e)) r
  unfolding translated
  optional_fold_returned m of x part is a b w y z r p q l n o free =
      returned _ _ r
      (ap (λ (v : CodeWide). translated s (view v)) is ∙ ap (translated s) (view_optional_fold m of x part)
      ∙ (λ j. if is_free x w l free j then refused (TakenName (string_bytes x)) else with_carried (translated s (view of.value)) (λ c. on_list OptionalValue c (λ k t. with_carried (translated (within (string_bytes x) kind.Dyn s) (view part.value)) (optional_carried m (written_name (string_bytes x)) t))))
      ∙ (λ j. with_carried (translated s (view (sym p j))) (λ c. on_list OptionalValue c (λ k t. with_carried (translated (within (sym n j) kind.Dyn s) (view (sym q j))) (optional_carried m (sym o j) t)))))
