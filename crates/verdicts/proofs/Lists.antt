-- Lists of the code, in lemmas over plain variables.
use Rattle.verdicts.proofs.Prelude.{◌≡◌, ℕ, Bool, List, [], ◌∷◌, map, string_bytes, refl, ap, ◌++◌, Option, Some, None, true, false, append-nil, codes, ◌<◌, ◌+◌, zero, suc, length, set, get_or, arith, sym, ◌∙◌, subst, ◌||◌, slice_get, list_any, bytes_eq, CodeNamedExpression, named_view, validation_view, has_line_break, separator_of, cases_lt, get_or-set_other, get_or-set_same, length-set, map-set, slice_get-get_or, lent, ◌≢◌, nat_lt, nat_tests, cases_eq, if◌then◌else◌}
use Rattle.std.proofs.Common.{option_map, replicate}
use Rattle.std.proofs.lemmas.List.{get_or-replicate, length-map, length-replicate}
use Rattle.std.proofs.lemmas.Option.{slice_get-map}
use Rattle.verdicts.specs.declared.validation.Validation.{Validation}
use Rattle.verdicts.specs.Response.{joined}

list_any_map : {A B : Type 0} (p : B → Bool) (f : A → B) (xs : List A) → list_any (λ x. p (f x)) xs ≡ list_any p (map f xs)
list_any_map p f [] = refl
list_any_map p f (x ∷ xs) = ap (λ b. p (f x) || b) (list_any_map p f xs)

pub name_in_views : (name : List ℕ) (ns : List CodeNamedExpression) → list_any (λ n. bytes_eq name (string_bytes n.name)) ns ≡ list_any (λ n. bytes_eq name n.name) (map named_view ns)
name_in_views name ns = list_any_map (λ n. bytes_eq name n.name) named_view ns

pub breaks_in_views : (vs : List Validation) → list_any (λ v. has_line_break (string_bytes v.message)) vs ≡ list_any (λ r. has_line_break r.message) (map validation_view vs)
breaks_in_views vs = list_any_map (λ r. has_line_break r.message) validation_view vs

abbrev pub joined_on : Bool → List (List ℕ) → List ℕ
joined_on later [] = []
joined_on later (t ∷ ts) = separator_of later ++ (t ++ joined_on true ts)

same : (ts : List (List ℕ)) → joined_on false ts ≡ joined ts
same [] = refl
same (t ∷ []) = append-nil t
same (t ∷ u ∷ ts) = ap (λ xs. t ++ (codes "; " ++ xs)) (same (u ∷ ts))

pub record JoinGo (all rest : List (List ℕ)) (later : Bool) (text : List ℕ) : Type 0 where
  pub left : text ++ joined_on later rest ≡ joined all

pub join_start : (all : List (List ℕ)) (text : List ℕ) → text ≡ [] → JoinGo all all false text
join_start all text e = record { left = rw e (same all) }

-- n elements, which are those of f
pub record IsFilled {A : Type 0} (f : ℕ → A) (n : ℕ) (xs : List A) : Type 0 where
  pub size : length xs ≡ n
  pub each : (k : ℕ) → k < n → slice_get xs k ≡ Some (f k)

set_same : {A : Type 0} (xs : List A) (i : ℕ) (y : A) → i < length xs → slice_get (set xs i y) i ≡ Some y
set_same xs i y h = slice_get-get_or (set xs i y) i y (omega (arith, length-set xs i y)) ∙ ap Some (get_or-set_same xs i y y h)

set_other : {A : Type 0} (xs : List A) (i k : ℕ) (y : A) → i < length xs → k < length xs → k ≢ i
    → slice_get (set xs i y) k ≡ slice_get xs k
set_other xs i k y h within other =
    slice_get-get_or (set xs i y) k y (omega (arith, length-set xs i y, within))
    ∙ ap Some (get_or-set_other xs i k y y (λ e. other (omega (arith, e))))
    ∙ sym (slice_get-get_or xs k y within)

-- the first i elements of g, and then d
abbrev pub first_of : {A : Type 0} → (ℕ → A) → A → ℕ → ℕ → A
first_of g d i k = if nat_lt k i then g k else d

pub none_filled : {A : Type 0} (g : ℕ → A) (d : A) (n : ℕ) → IsFilled (first_of g d 0) n (replicate n d)
none_filled g d n = record {
  size = length-replicate n d;
  each = λ k below. slice_get-get_or (replicate n d) k d (omega (arith, below, length-replicate n d))
      ∙ ap Some (get_or-replicate n k d d below ∙ (grind (arith, nat_tests)));
}

pub none_filled_view : {A B : Type 0} (v : A → B) (g : ℕ → B) (d : B) (n : ℕ) (e : A)
    → v e ≡ d → IsFilled (first_of g d 0) n (map v (replicate n e))
none_filled_view v g d n e is = record {
  size = length-map (replicate n e) v ∙ length-replicate n e;
  each = λ k below. slice_get-map v (replicate n e) k
      ∙ ap (option_map v) (slice_get-get_or (replicate n e) k e (omega (arith, below, length-replicate n e)) ∙ ap Some (get_or-replicate n k e e below))
      ∙ ap Some (is ∙ (grind (arith, nat_tests)));
}

pub filled_more : {A : Type 0} (g : ℕ → A) (d : A) (n i : ℕ) (xs : List A) (y : A)
    → IsFilled (first_of g d i) n xs → i < n → y ≡ g i → IsFilled (first_of g d (i + 1)) n (set xs i y)
filled_more g d n i xs y go h is = record {
  size = length-set xs i y ∙ go.size;
  each = λ k below. grind (arith, nat_tests, cases_lt, cases_eq, set_other, set_same);
}

-- one more element is set, for a list that is seen through v
pub filled_view : {A B : Type 0} (v : A → B) (g : ℕ → B) (d : B) (n i : ℕ) (xs : List A) (y : A)
    → IsFilled (first_of g d i) n (map v xs) → i < n → v y ≡ g i → IsFilled (first_of g d (i + 1)) n (map v (set xs i y))
filled_view v g d n i xs y go h is =
    subst (IsFilled (first_of g d (i + 1)) n) (sym (map-set v xs i y)) (filled_more g d n i (map v xs) (v y) go h is)

-- an element as it is read
pub read_lent : {A : Type 0} (g : A → Option (List ℕ)) (xs : List A) (i : ℕ) (d : A) → g d ≡ None → g (get_or xs i d) ≡ lent (slice_get (map g xs) i)
read_lent g [] i d none = none
read_lent g (x ∷ xs) zero d none = refl
read_lent g (x ∷ xs) (suc i) d none = read_lent g xs i d none
