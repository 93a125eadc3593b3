-- Expressions that need no table of indices.
use Rattle.std.proofs.Common.{◌≡◌, Bool, true, false, ◌||◌, refl, sym, subst}
use Rattle.value_store.specs.Value.{Value, ValueOrError}
use Rattle.cel_macros.specs.Macros.{range_of}
use Rattle.wide_reader.specs.Tree.{Wide, Wides, WideItems, WideEntries}
use Rattle.wide_reader.specs.Tree as wide
use Rattle.wide_meaning.specs.Environment.{WideEnvironment, bound}
use Rattle.wide_meaning.specs.Meaning.{wide_meaning}
use Rattle.wide_meaning.specs.Outcome.{Outcome, failed, plain, absent, present, plain_part}
use Rattle.wide_meaning.specs.Ranges.{pairs_of}
use Rattle.wide_translation.specs.Indexed.{CoversIf, ForPresent, IsTabled}
unfoldable use Rattle.wide_translation.specs.Indexed.{Indexed, AllIndexed, ItemsIndexed, EntriesIndexed}
use Rattle.wide_translation.specs.Uses.{uses, needs_indices}
unfoldable use Rattle.wide_translation.specs.Uses.{uses_keys, any_uses_keys, items_use_keys, entries_use_keys}
use Rattle.wide_translation.proofs.EachItem.{for_each}
use Rattle.wide_translation.proofs.WrittenNames.{or_left, or_right}

covers_nothing : (b : Bool) (y x : ValueOrError) → b ≡ false → CoversIf b y x
covers_nothing b y x e = subst (λ (c : Bool). CoversIf c y x) (sym e) tt

for_present : (P : Value → Type 0) (o : Outcome) → ((v : Value) → P v) → ForPresent P o
for_present P failed h = tt
for_present P (plain v) h = tt
for_present P absent h = tt
for_present P (present v) h = h v

module _ (others : Wide → WideEnvironment → Outcome) (y : ValueOrError) where
  mutual
    unfolding Indexed uses_keys

    without : (e : Wide) (env : WideEnvironment) → uses_keys e ≡ false → Indexed others y e env
    without (wide.literal l) env h = tt
    without (wide.uint n) env h = tt
    without (wide.name n) env h = tt
    without (wide.root n) env h = tt
    without (wide.select a o f) env h = without a env h
    without (wide.index a o k) env h = (without a env (or_left (uses_keys a) (uses_keys k) h), without k env (or_right (uses_keys a) (uses_keys k) h))
    without (wide.has a f) env h = without a env h
    without (wide.unary op a) env h = without a env h
    without (wide.binary op a b) env h = (without a env (or_left (uses_keys a) (uses_keys b) h), without b env (or_right (uses_keys a) (uses_keys b) h))
    without (wide.ternary c a b) env h =
        let l : (uses_keys c || uses_keys a) ≡ false = or_left (uses_keys c || uses_keys a) (uses_keys b) h in
        (without c env (or_left (uses_keys c) (uses_keys a) l), without a env (or_right (uses_keys c) (uses_keys a) l), without b env (or_right (uses_keys c || uses_keys a) (uses_keys b) h))
    without (wide.list items) env h = items_without items env h
    without (wide.map es) env h = entries_without es env h
    without (wide.fold m r x p) env h = (
      without r env (or_left (uses_keys r) (uses_keys p) h),
      for_each (λ v. Indexed others y p (bound x v env)) (range_of (plain_part (wide_meaning others r env))) (λ v. without p (bound x v env) (or_right (uses_keys r) (uses_keys p) h)),
    )
    without (wide.filter_map r x p t) env h =
        let l : (uses_keys r || uses_keys p) ≡ false = or_left (uses_keys r || uses_keys p) (uses_keys t) h in (
          without r env (or_left (uses_keys r) (uses_keys p) l),
          for_each (λ v. Indexed others y p (bound x v env)) (range_of (plain_part (wide_meaning others r env))) (λ v. without p (bound x v env) (or_right (uses_keys r) (uses_keys p) l)),
          for_each (λ v. Indexed others y t (bound x v env)) (range_of (plain_part (wide_meaning others r env)))
              (λ v. without t (bound x v env) (or_right (uses_keys r || uses_keys p) (uses_keys t) h)),
        )
    without (wide.pair_fold m r k v p) env h =
        let l : (uses_keys r || uses k p) ≡ false = or_left (uses_keys r || uses k p) (uses_keys p) h in (
          without r env (or_left (uses_keys r) (uses k p) l),
          covers_nothing (uses k p) y (plain_part (wide_meaning others r env)) (or_right (uses_keys r) (uses k p) l),
          for_each (λ e. Indexed others y p (bound v e.1 (bound k e.0 env))) (pairs_of (plain_part (wide_meaning others r env)))
              (λ e. without p (bound v e.1 (bound k e.0 env)) (or_right (uses_keys r || uses k p) (uses_keys p) h)),
        )
    without (wide.pair_filter_map r k v p t) env h =
        let u : Bool = uses k p || uses k t in
        let n : ((uses_keys r || u) || uses_keys p) ≡ false = or_left ((uses_keys r || u) || uses_keys p) (uses_keys t) h in
        let l : (uses_keys r || u) ≡ false = or_left (uses_keys r || u) (uses_keys p) n in (
          without r env (or_left (uses_keys r) u l),
          covers_nothing u y (plain_part (wide_meaning others r env)) (or_right (uses_keys r) u l),
          for_each (λ e. Indexed others y p (bound v e.1 (bound k e.0 env))) (pairs_of (plain_part (wide_meaning others r env)))
              (λ e. without p (bound v e.1 (bound k e.0 env)) (or_right (uses_keys r || u) (uses_keys p) n)),
          for_each (λ e. Indexed others y t (bound v e.1 (bound k e.0 env))) (pairs_of (plain_part (wide_meaning others r env)))
              (λ e. without t (bound v e.1 (bound k e.0 env)) (or_right ((uses_keys r || u) || uses_keys p) (uses_keys t) h)),
        )
    without (wide.optional_fold m a x t) env h = (
      without a env (or_left (uses_keys a) (uses_keys t) h),
      for_present (λ v. Indexed others y t (bound x v env)) (wide_meaning others a env) (λ v. without t (bound x v env) (or_right (uses_keys a) (uses_keys t) h)),
    )
    without (wide.call n es) env h = all_without es env h
    without (wide.method a n es) env h =
        let l : (uses_keys a || needs_indices n) ≡ false = or_left (uses_keys a || needs_indices n) (any_uses_keys es) h in (
          without a env (or_left (uses_keys a) (needs_indices n) l),
          covers_nothing (needs_indices n) y (plain_part (wide_meaning others a env)) (or_right (uses_keys a) (needs_indices n) l),
          all_without es env (or_right (uses_keys a || needs_indices n) (any_uses_keys es) h),
        )

    all_without : (es : Wides) (env : WideEnvironment) → any_uses_keys es ≡ false → AllIndexed others y es env
    all_without wide.no_wides env h = tt
    all_without (wide.more_wides a more) env h = (without a env (or_left (uses_keys a) (any_uses_keys more) h), all_without more env (or_right (uses_keys a) (any_uses_keys more) h))

    items_without : (es : WideItems) (env : WideEnvironment) → items_use_keys es ≡ false → ItemsIndexed others y es env
    items_without wide.no_items env h = tt
    items_without (wide.more_items o a more) env h = (without a env (or_left (uses_keys a) (items_use_keys more) h), items_without more env (or_right (uses_keys a) (items_use_keys more) h))

    entries_without : (es : WideEntries) (env : WideEnvironment) → entries_use_keys es ≡ false → EntriesIndexed others y es env
    entries_without wide.no_entries env h = tt
    entries_without (wide.more_entries o k v more) env h =
        let l : (uses_keys k || uses_keys v) ≡ false = or_left (uses_keys k || uses_keys v) (entries_use_keys more) h in
        (without k env (or_left (uses_keys k) (uses_keys v) l), without v env (or_right (uses_keys k) (uses_keys v) l), entries_without more env (or_right (uses_keys k || uses_keys v) (entries_use_keys more) h))

  indexed_by : (b w : Bool) (e : Wide) (env : WideEnvironment) → uses_keys e ≡ b → IsTabled others w e env y → w ≡ true → Indexed others y e env
  indexed_by true w e env q h g = h g q
  indexed_by false w e env q h g = without e env q

  -- the table is long enough for an expression, also if it needs none
  pub indexed : (w : Bool) (e : Wide) (env : WideEnvironment) → IsTabled others w e env y → w ≡ true → Indexed others y e env
  indexed w e env h g = indexed_by (uses_keys e) w e env refl h g
