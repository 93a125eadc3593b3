-- Programs can run on wrapped roots whose charge is within the limit.
use Rattle.std.proofs.Common.{Bool, true, false, ◌≡◌, ℕ, zero, suc, ◌+◌, ◌≤◌, [], ◌∷◌, length, map, FitsSigned, pos, refl, subst, arith, rules}
use Rattle.std.specs.Int.{w64}
use Rattle.std.specs.List.{All}
use Rattle.std.proofs.lemmas.List.Elements.{All-append}
use Rattle.std.proofs.lemmas.Option.{same_Some}
use Rattle.helper_table.specs.Tables.{IsBounded, AreItemsBounded, IsResultBounded}
use Rattle.helper_table.proofs.Bounded.{looser}
use Rattle.value_store.specs.Placing.{AreCanonical, IsCanonicalAt, charge_limit, first_values}
use Rattle.value_store.specs.Value.{Value, ValueOrError, error, value, list_of, items_of, Entries}
use Rattle.value_store.specs.Value as kind
use Rattle.cel_macros.specs.Environment.{Roots}
use Rattle.expression_code.specs.Contexts.{HasValues}
use Rattle.wide_translation.specs.Indexed.{ints_from}
use Rattle.wide_translation.specs.Placed.{with_tables}
use Rattle.wide_indices.specs.Tables.{index_tables, table_length}
use Rattle.wide_tables.specs.Wrapping.{root_values, contents_of, wrapped_roots}
use Rattle.wide_tables.proofs.WrappedRoots.{wrapped_charge}
use Rattle.admission.specs.Deciding.{placed_roots, started}

int_fits : (i : ℕ) → i ≤ 16777216 → FitsSigned w64 (pos i)
int_fits i h = search (rules, arith)

ints_bounded : (n i k : ℕ) → i + k ≤ 16777216 → AreItemsBounded n (items_of (ints_from i k))
ints_bounded n i zero h = tt
ints_bounded n i (suc k) h = (int_fits i (omega (arith, h)), ints_bounded n (suc i) k (omega (arith, h)))

ints_count : (i k : ℕ) → length (list_of (items_of (ints_from i k))) ≡ k
ints_count i zero = refl
ints_count i (suc k) = let h = ints_count (suc i) k in omega (arith, h)

constants_bounded : (n : ℕ) → All (IsResultBounded n) first_values
constants_bounded n = grind arith

roots_bounded : (n : ℕ) (a b c d e : Value) → IsBounded n a → IsBounded n b → IsBounded n c → IsBounded n d → IsBounded n e
    → All (IsResultBounded n) (map value (a ∷ b ∷ c ∷ d ∷ e ∷ []))
roots_bounded n a b c d e p q r s t = grind arith

-- {"t": {"n": [0, 1, ..]}, "v": params}, with m ints
params_bounded : (n m : ℕ) (p : Value) → m + 9 ≤ n → n ≤ charge_limit → IsBounded n p → IsBounded n (with_tables (index_tables m) p)
params_bounded n m p l k h =
    let count = ints_count 0 m in
    let one : 1 ≤ n = omega (arith, l) in
    let two : 2 ≤ n = omega (arith, l) in
    (two, (one, (one, (one, (omega (arith, count, l), ints_bounded n 0 m (omega (arith, l, k))), tt)), (one, h, tt)))

canonical_at : (own : Roots) (es : Entries) → AreCanonical (contents_of own).values → AreCanonical (contents_of (record own { params = kind.map es })).values
canonical_at own es k zero x e = k zero x e
canonical_at own es k (suc zero) x e = k (suc zero) x e
canonical_at own es k (suc (suc zero)) x e = k (suc (suc zero)) x e
canonical_at own es k (suc (suc (suc zero))) x e = k (suc (suc (suc zero))) x e
canonical_at own es k (suc (suc (suc (suc zero)))) x e = k (suc (suc (suc (suc zero)))) x e
canonical_at own es k (suc (suc (suc (suc (suc zero))))) x e = k (suc (suc (suc (suc (suc zero))))) x e
canonical_at own es k (suc (suc (suc (suc (suc (suc zero)))))) x e = subst (λ (y : ValueOrError). IsCanonicalAt y 6) (same_Some _ _ e) tt
canonical_at own es k (suc (suc (suc (suc (suc (suc (suc h))))))) x e = k (suc (suc (suc (suc (suc (suc (suc h))))))) x e

pub wrapped_have_values : (own : Roots) → HasValues own (contents_of own) → (contents_of (wrapped_roots own)).charge ≤ charge_limit
    → HasValues (wrapped_roots own) (contents_of (wrapped_roots own))
wrapped_have_values own h l =
    let c : ℕ = (contents_of own).charge in
    let n : ℕ = (contents_of (wrapped_roots own)).charge in
    let m : ℕ = table_length own in
    let sum = wrapped_charge own in
    let less : c ≤ n = omega (arith, sum) in
    let room : m + 9 ≤ n = omega (arith, sum) in
    let b = h.table.bounded in
    record {
      table = record {
        store = record { more = map value (root_values (wrapped_roots own)); values_are = refl; charged = l };
        few = omega arith;
        bounded = All-append (IsResultBounded n) first_values (map value (root_values (wrapped_roots own))) (constants_bounded n)
            (roots_bounded n own.object own.old_object (with_tables (index_tables m) own.params) own.namespace_object own.request
            (looser own.object c n less (b 4 error (omega arith))) (looser own.old_object c n less (b 5 error (omega arith)))
            (params_bounded n m own.params room l (looser own.params c n less (b 6 error (omega arith))))
            (looser own.namespace_object c n less (b 7 error (omega arith))) (looser own.request c n less (b 8 error (omega arith))));
      };
      canonical = canonical_at own _ h.canonical;
      stand = record { object = refl; old_object = refl; params = refl; namespace_object = refl; request = refl };
    }

-- so they can on the roots that are placed
pub placed_have_values : (wrapped : Bool) (own : Roots) → HasValues own (started own) → (wrapped ≡ true → (started (placed_roots wrapped own)).charge ≤ charge_limit)
    → HasValues (placed_roots wrapped own) (started (placed_roots wrapped own))
placed_have_values true own h fit = wrapped_have_values own h (fit refl)
placed_have_values false own h fit = h

pub placed_fit : (wrapped : Bool) (own : Roots) → HasValues own (started own) → (wrapped ≡ true → (started (placed_roots wrapped own)).charge ≤ charge_limit)
    → (started (placed_roots wrapped own)).charge ≤ charge_limit
placed_fit true own h fit = fit refl
placed_fit false own h fit = h.table.store.charged
