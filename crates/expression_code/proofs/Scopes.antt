-- Variables of a scope, found by their names.
use Rattle.expression_code.proofs.Prelude.{◌≡◌, ℕ, zero, suc, ◌+◌, ◌<◌, ◌≤◌, List, [], ◌∷◌, ◌++◌, length, Some, Bool, refl, sym, ap, subst, arith, append_assoc, ℤ, pos, ◌+ℤ◌, slice_get, length-map, map-append, slice_get_within, Image, Value, ValueOrError, Roots, lookup, variable_value, Evaluates, FrameUse, HasRoutine, IsScope, NoScope, ScopeBegins, ScopeGives, ScopeGrows, Variable, bindings, place_named, scope_setting, use_code, used_context, word_limit, record_limit, memo_limit}
use Rattle.expression_code.proofs.Variables.{variable_gives}

-- ---- a variable among those before and after it

pub record Split (scope : List Variable) (i : ℕ) (v : Variable) : Type 0 where
  pub before : List Variable
  pub later : List Variable
  pub long : length before ≡ i
  pub is : scope ≡ before ++ v ∷ later

pub split : (scope : List Variable) (i : ℕ) (v : Variable) → slice_get scope i ≡ Some v → Split scope i v
split [] i v e = absurd (cc)
split (u ∷ more) zero v e = let same : u ≡ v = cc in record { before = []; later = more; long = refl; is = ap (λ (w : Variable). w ∷ more) same }
split (u ∷ more) (suc i) v e = let rest = split more i v e in record { before = u ∷ rest.before; later = rest.later; long = ap suc rest.long; is = ap (λ (vs : List Variable). u ∷ vs) rest.is }

-- ---- the name of a variable has the variable's value

found_value : (name : List ℕ) (scope : List Variable) (i : ℕ) (v : Variable) → place_named name scope ≡ Some i → slice_get scope i ≡ Some v → lookup name (bindings scope) ≡ Some v.value
found_value name [] i v at e = absurd (cc)
found_value name (u ∷ more) zero v at e = grind arith
found_value name (u ∷ more) (suc i) v at e = grind (arith, found_value name more i v)

pub value_named : (name : List ℕ) (scope : List Variable) (i : ℕ) (v : Variable) → place_named name scope ≡ Some i → slice_get scope i ≡ Some v
    → variable_value name (bindings scope) ≡ v.value
unfolding variable_value
value_named name scope i v at e = rw (found_value name scope i v at e) refl

-- ---- a use

module _ (image : Image) (deep : Bool) (roots : Roots) (constants : List ℕ) (words : FrameUse) (items : List (List ℕ × Value)) (before later : List Variable) (v : Variable) (p depth base : ℕ) (offset : ℤ) where
  abbrev all : List Variable
  all = before ++ v ∷ later

  pub used : HasRoutine image deep roots constants before v → length before < memo_limit → base ≤ word_limit → depth + v.nesting ≤ record_limit → pos (p + 5) +ℤ pos 1 +ℤ offset ≡ pos v.routine → Evaluates (scope_setting image deep all) p (use_code (length before) offset) (used_context roots items words constants (bindings all)) depth base v.value 5 0
  used routine few low room place = grind (arith, length-map, variable_gives, map-append)

module _ (image : Image) (deep : Bool) (roots : Roots) (constants : List ℕ) (scope : List Variable) (words : FrameUse) (items : List (List ℕ × Value)) (i : ℕ) (v : Variable) (p depth base : ℕ) (offset : ℤ) where
  scope_uses : IsScope image deep roots constants scope → length scope ≤ memo_limit → base ≤ word_limit → slice_get scope i ≡ Some v → depth + v.nesting ≤ record_limit → pos (p + 5) +ℤ pos 1 +ℤ offset ≡ pos v.routine
      → Evaluates (scope_setting image deep scope) p (use_code i offset) (used_context roots items words constants (bindings scope)) depth base v.value 5 0
  scope_uses is few low at room place =
      let inside = slice_get_within scope i v at in
      let parts = split scope i v at in
      let long = parts.long in
      let given = used image deep roots constants words items parts.before parts.later v p depth base offset (is parts.before parts.later v parts.is) (omega arith) low room place in
      subst (λ (vs : List Variable). Evaluates (scope_setting image deep vs) p (use_code i offset) (used_context roots items words constants (bindings vs)) depth base v.value 5 0) (sym parts.is) (subst (λ (n : ℕ). Evaluates (scope_setting image deep (parts.before ++ v ∷ parts.later)) p (use_code n offset) (used_context roots items words constants (bindings (parts.before ++ v ∷ parts.later))) depth base v.value 5 0) long given)

pub scope_gives : ScopeGives
scope_gives image deep roots constants scope words items name i v p depth base offset is few low named at room place =
    subst (λ (x : ValueOrError). Evaluates (scope_setting image deep scope) p (use_code i offset) (used_context roots items words constants (bindings scope)) depth base x 5 0) (sym (value_named name scope i v named at)) (scope_uses image deep roots constants scope words items i v p depth base offset is few low at room place)

-- ---- one more variable

-- the last variable is the new one, and each other one is among the old ones
data Placed (scope before later : List Variable) (u v : Variable) : Type 0 where
  Newest : scope ≡ before → u ≡ v → Placed scope before later u v
  Older : (rest : List Variable) → scope ≡ before ++ v ∷ rest → Placed scope before later u v

too_long : (ws : List Variable) (v : Variable) (later : List Variable) → [] ≡ ws ++ v ∷ later → ⊥
too_long [] v later e = cc
too_long (w ∷ ws) v later e = cc

placed : (scope before later : List Variable) (u v : Variable) → scope ++ u ∷ [] ≡ before ++ v ∷ later → Placed scope before later u v
placed [] [] later u v e = let same : u ≡ v = cc in Newest refl same
placed [] (w ∷ ws) later u v e = absurd (too_long ws v later (cc))
placed (s ∷ ss) [] later u v e = let same : s ≡ v = cc in Older ss (ap (λ (w : Variable). w ∷ ss) same)
placed (s ∷ ss) (w ∷ ws) later u v e =
    let same : s ≡ w = cc in
    elim (placed ss ws later u v (cc)) [ Newest is which ↦ Newest (cc) which | Older rest is ↦ Older rest (cc) ]

pub scope_grows : ScopeGrows
scope_grows image deep roots constants scope u is new before later v e = grind (arith, placed)

pub no_scope : NoScope
no_scope image deep roots constants before later v e = absurd (too_long before v later e)

pub scope_begins : ScopeBegins
scope_begins image deep roots constants scope more is before later v e = grind (arith, append_assoc)
