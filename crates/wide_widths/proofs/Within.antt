-- The value of a narrow expression is within the width of the documents.
use Rattle.std.proofs.Common.{◌≡◌, ◌≤◌, ℕ, Bool, true, false, ◌&&◌, List, Option, Some, None, refl, subst, ap, bytes_eq, codes, if◌then◌else◌, is_some, unwrap_or}
use Rattle.value_store.specs.Value.{Value}
use Rattle.value_widths.specs.Width.{width_of}
use Rattle.cel_macros.specs.Environment.{Roots, lookup}
use Rattle.cel_macros.specs.Logic.{Truth, Yes, No, Other, chosen}
use Rattle.cel_macros.specs.Macros.{variables_name}
use Rattle.wide_reader.specs.declared.wide.Access.{Access, TheVariants.Plain, TheVariants.Optional}
use Rattle.wide_meaning.specs.Environment.{WideEnvironment, bound, name_in, item_or, root_in, plain_or_failed, variable_in}
use Rattle.wide_meaning.specs.Access.{field_in}
use Rattle.wide_meaning.specs.Functions.{some_unless_zero, is_zero}
use Rattle.wide_meaning.specs.Meaning.{selected as field_selected}
use Rattle.wide_meaning.specs.Outcome.{value_or, first_of, value_in}
use Rattle.wide_meaning.specs.Outcome.{Outcome, failed, plain, absent, present}
use Rattle.wide_widths.specs.Law.{IsOutcomeWithin, AreRootsWithin, IsEnvironmentWithin}
use Rattle.wide_widths.specs.Narrow.{NarrowNames, binding, known, selected}

pub and_left : (a b : Bool) → (a && b) ≡ true → a ≡ true
and_left true b h = refl
and_left false b h = h

pub and_right : (a b : Bool) → (a && b) ≡ true → b ≡ true
and_right true b h = h
and_right false b h = absurd (cc)

module _ (n : ℕ) where
  -- ---- names

  root_at : (b : Bool) (v : Value) (o : Option Value) → width_of v ≤ n → IsOutcomeWithin n (plain_or_failed o) → IsOutcomeWithin n (plain_or_failed (if b then Some v else o))
  root_at true v o h g = h
  root_at false v o h g = g

  pub root_within : (x : List ℕ) (roots : Roots) → AreRootsWithin n roots → IsOutcomeWithin n (root_in x roots)
  root_within x roots h =
      root_at (bytes_eq (codes "object") x) roots.object _ h.object
      (root_at (bytes_eq (codes "oldObject") x) roots.old_object _ h.old_object
      (root_at (bytes_eq (codes "params") x) roots.params _ h.params
      (root_at (bytes_eq (codes "namespaceObject") x) roots.namespace_object _ h.namespace_object
      (root_at (bytes_eq (codes "request") x) roots.request None h.request tt))))

  item_or_within : (o : Option Value) (outside : Outcome) → ((v : Value) → o ≡ Some v → width_of v ≤ n) → IsOutcomeWithin n outside → IsOutcomeWithin n (item_or o outside)
  item_or_within None outside h g = g
  item_or_within (Some v) outside h g = h v refl

  pub name_within : (x : List ℕ) (s : NarrowNames) (env : WideEnvironment) → IsEnvironmentWithin n s env → known (lookup x s.names) ≡ true → IsOutcomeWithin n (name_in x env)
  name_within x s env h k =
      item_or_within (lookup x env.items) (root_in x env.roots) (λ v e. h.named x v k e) (root_within x env.roots h.roots)

  bound_name : (b c : Bool) (w v : Value) (o : Option Bool) (q : Option Value) → (c ≡ true → width_of w ≤ n)
      → (known o ≡ true → q ≡ Some v → width_of v ≤ n)
      → known (if b then Some c else o) ≡ true → (if b then Some w else q) ≡ Some v → width_of v ≤ n
  bound_name true c w v o q h g k e = subst (λ (u : Value). width_of u ≤ n) (some_same e) (h k)
    where
      some_same : {a b : Value} → Some a ≡ Some b → a ≡ b
      some_same e = ap (λ o. unwrap_or o w) e
  bound_name false c w v o q h g k e = g k e

  hidden_same : (b c : Bool) (w : Value) (o : Option Bool) (q : Option Value) → is_some o ≡ is_some q → is_some (if b then Some c else o) ≡ is_some (if b then Some w else q)
  hidden_same true c w o q h = refl
  hidden_same false c w o q h = h

  -- inside a macro that binds x to w
  pub bound_within : (x : List ℕ) (c : Bool) (w : Value) (s : NarrowNames) (env : WideEnvironment) → IsEnvironmentWithin n s env → (c ≡ true → width_of w ≤ n)
      → IsEnvironmentWithin n (binding x c s) (bound x w env)
  bound_within x c w s env h g = record {
    roots = h.roots;
    literals = h.literals;
    named = λ y v k e. bound_name (bytes_eq x y) c w v (lookup y s.names) (lookup y env.items) g (λ i j. h.named y v i j) k e;
    hidden = hidden_same (bytes_eq x variables_name) c w (lookup variables_name s.names) (lookup variables_name env.items) h.hidden;
    varied = h.varied;
  }

  -- ---- fields

  pub selected_within : (b : Bool) (o : Access) (v a : Bool) (f : List ℕ) (x : Outcome) (env : WideEnvironment)
      → (v ≡ true → IsOutcomeWithin n (variable_in f env.variables)) → (a ≡ true → IsOutcomeWithin n (field_in o x f))
      → selected b o v a ≡ true → IsOutcomeWithin n (field_selected b o f x env)
  selected_within true Plain v a f x env h g k = h k
  selected_within true Optional v a f x env h g k = g k
  selected_within false Plain v a f x env h g k = g k
  selected_within false Optional v a f x env h g k = g k

  -- ---- the conditional

  pub chosen_within : (t : Truth) (a b : Outcome) → IsOutcomeWithin n a → IsOutcomeWithin n b → IsOutcomeWithin n (chosen t a b failed)
  chosen_within Yes a b h g = h
  chosen_within No a b h g = g
  chosen_within Other a b h g = tt

  pub either_within : (x y : Outcome) → IsOutcomeWithin n x → IsOutcomeWithin n y → IsOutcomeWithin n (value_or x y)
  either_within failed y h g = tt
  either_within (plain v) y h g = tt
  either_within absent y h g = g
  either_within (present v) y h g = h

  pub first_within : (x y : Outcome) → IsOutcomeWithin n x → IsOutcomeWithin n y → IsOutcomeWithin n (first_of x y)
  first_within failed y h g = tt
  first_within (plain v) y h g = tt
  first_within absent y h g = g
  first_within (present v) y h g = h

  pub inner_within : (x : Outcome) → IsOutcomeWithin n x → IsOutcomeWithin n (value_in x)
  inner_within failed h = tt
  inner_within (plain v) h = tt
  inner_within absent h = tt
  inner_within (present v) h = h

  nonzero_within : (b : Bool) (v : Value) → width_of v ≤ n → IsOutcomeWithin n (if b then absent else present v)
  nonzero_within true v h = tt
  nonzero_within false v h = h

  pub some_nonzero_within : (x : Outcome) → IsOutcomeWithin n x → IsOutcomeWithin n (some_unless_zero x)
  some_nonzero_within failed h = tt
  some_nonzero_within (plain v) h = nonzero_within (is_zero v) v h
  some_nonzero_within absent h = tt
  some_nonzero_within (present v) h = tt
