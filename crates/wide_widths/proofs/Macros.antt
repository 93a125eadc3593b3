-- Macros over ranges within a width.
use Rattle.std.proofs.Common.{◌≡◌, ◌≤◌, ℕ, Bool, true, List, map as each, Option, Some, None}
use Rattle.value_store.specs.Value.{Value, ValueOrError}
use Rattle.value_widths.specs.Width.{width_of, result_width}
use Rattle.cel_macros.specs.Literals.{list_or_error}
use Rattle.cel_macros.specs.Logic.{truth}
use Rattle.cel_macros.specs.Macros.{map_of}
use Rattle.cel_macros.specs.declared.macros.Macro.TheVariants as macro
use Rattle.wide_reader.specs.declared.wide.OptionalMacro.{OptionalMacro, TheVariants.Map, TheVariants.FlatMap}
use Rattle.wide_reader.specs.declared.wide.PairMacro.TheVariants as pair
use Rattle.wide_meaning.specs.Outcome.{Outcome, failed, plain, absent, present, outcome_of}
use Rattle.wide_meaning.specs.Ranges.{over_items, filter_map_over, over_pairs, pair_filter_map_over, optional_over}
use Rattle.wide_widths.specs.Law.{IsOutcomeWithin}
use Rattle.wide_widths.proofs.Lists.{IsShortIf, IsValueWithin, IsPairWithin, list_within, mapped_within, where_within, pairs_where_within}
use Rattle.wide_widths.proofs.Results.{flat_within, all_flat, exists_flat, exists_one_flat}
use Rattle.wide_widths.proofs.Values.{outcome_within, some_within}

module _ (n : ℕ) where
  -- a macro whose result is a bool
  pub all_within : (f : Value → ValueOrError) (o : Option (List Value)) → IsOutcomeWithin n (outcome_of (over_items macro.All f o))
  all_within f None = tt
  all_within f (Some vs) = flat_within n _ (all_flat (each (λ x. truth (f x)) vs))

  pub exists_within : (f : Value → ValueOrError) (o : Option (List Value)) → IsOutcomeWithin n (outcome_of (over_items macro.Exists f o))
  exists_within f None = tt
  exists_within f (Some vs) = flat_within n _ (exists_flat (each (λ x. truth (f x)) vs))

  pub exists_one_within : (f : Value → ValueOrError) (o : Option (List Value)) → IsOutcomeWithin n (outcome_of (over_items macro.ExistsOne f o))
  exists_one_within f None = tt
  exists_one_within f (Some vs) = flat_within n _ (exists_one_flat (each (λ x. truth (f x)) vs))

  pub filter_within : (f : Value → ValueOrError) (o : Option (List Value)) → IsShortIf n (IsValueWithin n) o → IsOutcomeWithin n (outcome_of (over_items macro.Filter f o))
  filter_within f None h = tt
  filter_within f (Some vs) h =
      outcome_within n _ (where_within n (λ x. truth (f x)) (λ kept. list_or_error (Some kept)) vs (λ ws g. list_within n (Some ws) g) h)

  pub map_within : (f : Value → ValueOrError) (o : Option (List Value)) → ((v : Value) → width_of v ≤ n → result_width (f v) ≤ n) → IsShortIf n (IsValueWithin n) o
      → IsOutcomeWithin n (outcome_of (over_items macro.Map f o))
  map_within f None h g = tt
  map_within f (Some vs) h g = outcome_within n _ (mapped_within n (IsValueWithin n) f vs h g)

  pub filter_map_within : (p f : Value → ValueOrError) (o : Option (List Value)) → ((v : Value) → width_of v ≤ n → result_width (f v) ≤ n)
      → IsShortIf n (IsValueWithin n) o → IsOutcomeWithin n (outcome_of (filter_map_over p f o))
  filter_map_within p f None h g = tt
  filter_map_within p f (Some vs) h g =
      outcome_within n _ (where_within n (λ x. truth (p x)) (map_of f) vs (λ ws k. mapped_within n (IsValueWithin n) f ws h k) g)

  -- ---- pairs

  pub pair_all_within : (f : Value × Value → ValueOrError) (o : Option (List (Value × Value))) → IsOutcomeWithin n (outcome_of (over_pairs pair.All f o))
  pair_all_within f None = tt
  pair_all_within f (Some ps) = flat_within n _ (all_flat (each (λ p. truth (f p)) ps))

  pub pair_exists_within : (f : Value × Value → ValueOrError) (o : Option (List (Value × Value))) → IsOutcomeWithin n (outcome_of (over_pairs pair.Exists f o))
  pair_exists_within f None = tt
  pair_exists_within f (Some ps) = flat_within n _ (exists_flat (each (λ p. truth (f p)) ps))

  pub pair_exists_one_within : (f : Value × Value → ValueOrError) (o : Option (List (Value × Value))) → IsOutcomeWithin n (outcome_of (over_pairs pair.ExistsOne f o))
  pair_exists_one_within f None = tt
  pair_exists_one_within f (Some ps) = flat_within n _ (exists_one_flat (each (λ p. truth (f p)) ps))

  pub transform_within : (f : Value × Value → ValueOrError) (o : Option (List (Value × Value)))
      → ((e : Value × Value) → IsPairWithin n e → result_width (f e) ≤ n) → IsShortIf n (IsPairWithin n) o
      → IsOutcomeWithin n (outcome_of (over_pairs pair.TransformList f o))
  transform_within f None h g = tt
  transform_within f (Some ps) h g = outcome_within n _ (mapped_within n (IsPairWithin n) f ps h g)

  pub pair_filter_map_within : (p f : Value × Value → ValueOrError) (o : Option (List (Value × Value)))
      → ((e : Value × Value) → IsPairWithin n e → result_width (f e) ≤ n) → IsShortIf n (IsPairWithin n) o
      → IsOutcomeWithin n (outcome_of (pair_filter_map_over p f o))
  pair_filter_map_within p f None h g = tt
  pair_filter_map_within p f (Some ps) h g = outcome_within n _ (pairs_where_within n p f ps h g)

  -- ---- optional values

  pub optional_within : (m : OptionalMacro) (f : Value → Outcome) (o : Outcome) (b : Bool) → (b ≡ true → IsOutcomeWithin n o)
      → ((v : Value) → (b ≡ true → width_of v ≤ n) → IsOutcomeWithin n (f v)) → IsOutcomeWithin n (optional_over m f o)
  optional_within Map f failed b h g = tt
  optional_within Map f (plain v) b h g = tt
  optional_within Map f absent b h g = tt
  optional_within Map f (present v) b h g = some_within n (f v) (g v h)
  optional_within FlatMap f failed b h g = tt
  optional_within FlatMap f (plain v) b h g = tt
  optional_within FlatMap f absent b h g = tt
  optional_within FlatMap f (present v) b h g = g v h
