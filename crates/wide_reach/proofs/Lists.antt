-- What lists contain.
use Rattle.std.proofs.Common.{◌≡◌, ◌<◌, ℕ, zero, suc, Bool, true, false, cond, List, [], ◌∷◌, ◌++◌, length, refl, arith}
use Rattle.std.proofs.Common.{map as each, filter, Option, Some, None, slice_get, subst, sym, ap, ◌⊎◌, inl, inr, ⊎_elim}
use Rattle.std.proofs.Common.{Contains, flat_map, reverse, take, drop, unwrap_or, slice_index_or, option_to_list}
use Rattle.std.proofs.lemmas.List.Elements.{Contains-append_left, Contains-append_right}
use Rattle.std.proofs.lemmas.Option.{slice_get_within, get_or_from_slice_get}
use mathlib.Core.List.{reverse_aux}

-- each element of xs is one of ys
abbrev pub AreAmong : {A : Type 0} → List A → List A → Type 0
AreAmong {A} xs ys = (x : A) → Contains xs x → Contains ys x

pub some_same : {A : Type 0} (d a b : A) → Some a ≡ Some b → a ≡ b
some_same d a b e = ap (λ o. unwrap_or o d) e

module _ {A : Type 0} where
  pub first : (x : A) (xs : List A) → Contains (x ∷ xs) x
  first x xs = (0, omega arith, refl)

  pub later : (y : A) (xs : List A) (x : A) → Contains xs x → Contains (y ∷ xs) x
  later y xs x h = let l = h.1 in (suc h.0, omega (arith, l), h.2)

  pub none : (x : A) → Contains [] x → ⊥
  none x h = let l = h.1 in absurd (omega (arith, l))

  which_at : (y : A) (xs : List A) (x : A) (k : ℕ) → k < length (y ∷ xs) → slice_index_or (y ∷ xs) k x ≡ x → (y ≡ x) ⊎ Contains xs x
  which_at y xs x zero l e = inl e
  which_at y xs x (suc k) l e = inr (k, omega (arith, l), e)

  pub which : (y : A) (xs : List A) (x : A) → Contains (y ∷ xs) x → (y ≡ x) ⊎ Contains xs x
  which y xs x h = which_at y xs x h.0 h.1 h.2

  pub either : (xs ys : List A) (x : A) → Contains (xs ++ ys) x → Contains xs x ⊎ Contains ys x
  either [] ys x h = inr h
  either (y ∷ xs) ys x h =
      ⊎_elim (λ e. inl (subst (Contains (y ∷ xs)) e (first y xs)))
      (λ m. ⊎_elim (λ l. inl (later y xs x l)) (λ r. inr r) (either xs ys x m)) (which y (xs ++ ys) x h)

  pub at_index : (xs : List A) (i : ℕ) (x : A) → slice_get xs i ≡ Some x → Contains xs x
  at_index xs i x e = (i, slice_get_within xs i x e, get_or_from_slice_get xs i x x e)

  kept_if : (b : Bool) (z : A) (ys xs : List A) (x : A) → AreAmong ys xs → Contains (cond b (z ∷ ys) ys) x → Contains (z ∷ xs) x
  kept_if true z ys xs x s h =
      ⊎_elim (λ e. subst (Contains (z ∷ xs)) e (first z xs)) (λ m. later z xs x (s x m)) (which z ys x h)
  kept_if false z ys xs x s h = later z xs x (s x h)

  pub kept : (test : A → Bool) (xs : List A) → AreAmong (filter test xs) xs
  kept test [] x h = h
  kept test (z ∷ xs) x h = kept_if (test z) z (filter test xs) xs x (kept test xs) h

  turned : (xs ys zs : List A) → AreAmong xs zs → AreAmong ys zs → AreAmong (reverse_aux xs ys) zs
  turned [] ys zs s t x h = t x h
  turned (y ∷ xs) ys zs s t x h =
      turned xs (y ∷ ys) zs (λ w i. s w (later y xs w i))
      (λ w i. ⊎_elim (λ e. subst (Contains zs) e (s y (first y xs))) (λ m. t w m) (which y ys w i)) x h

  pub reversed : (xs : List A) → AreAmong (reverse xs) xs
  reversed xs x h = turned xs [] xs (λ w i. i) (λ w i. absurd (none w i)) x h

  pub taken : (n : ℕ) (xs : List A) → AreAmong (take n xs) xs
  taken zero xs x h = absurd (none x h)
  taken (suc n) [] x h = h
  taken (suc n) (y ∷ xs) x h =
      ⊎_elim (λ e. subst (Contains (y ∷ xs)) e (first y xs)) (λ m. later y xs x (taken n xs x m)) (which y (take n xs) x h)

  pub dropped : (n : ℕ) (xs : List A) → AreAmong (drop n xs) xs
  dropped zero xs x h = h
  dropped (suc n) [] x h = h
  dropped (suc n) (y ∷ xs) x h = later y xs x (dropped n xs x h)

  pub listed : (o : Option A) (x : A) → Contains (option_to_list o) x → o ≡ Some x
  listed None x h = absurd (none x h)
  listed (Some w) x h = ⊎_elim (λ e. ap Some e) (λ m. absurd (none x m)) (which w [] x h)

module _ {A B : Type 0} where
  pub among : (f : A → List B) (xs : List A) (x : A) (y : B) → Contains xs x → Contains (f x) y → Contains (flat_map f xs) y
  among f [] x y h g = absurd (none x h)
  among f (z ∷ xs) x y h g =
      ⊎_elim (λ e. Contains-append_left (f z) (flat_map f xs) y (subst (λ (w : A). Contains (f w) y) (sym e) g))
      (λ m. Contains-append_right (f z) (flat_map f xs) y (among f xs x y m g)) (which z xs x h)

  pub source : (f : A → List B) (xs : List A) (y : B) → Contains (flat_map f xs) y → (x : A) × Contains xs x × Contains (f x) y
  source f [] y h = absurd (none y h)
  source f (x ∷ xs) y h =
      ⊎_elim (λ l. (x, first x xs, l)) (λ r. let s = source f xs y r in (s.0, later x xs s.0 s.1, s.2)) (either (f x) (flat_map f xs) y h)

  pub mapped_source : (f : A → B) (xs : List A) (y : B) → Contains (each f xs) y → (x : A) × Contains xs x × (f x ≡ y)
  mapped_source f [] y h = absurd (none y h)
  mapped_source f (x ∷ xs) y h =
      ⊎_elim (λ e. (x, first x xs, e)) (λ m. let s = mapped_source f xs y m in (s.0, later x xs s.0 s.1, s.2)) (which (f x) (each f xs) y h)

  pub mapped : (f : A → B) (xs : List A) (x : A) → Contains xs x → Contains (each f xs) (f x)
  mapped f [] x h = absurd (none x h)
  mapped f (z ∷ xs) x h =
      ⊎_elim (λ e. subst (λ (w : A). Contains (f z ∷ each f xs) (f w)) e (first (f z) (each f xs)))
      (λ m. later (f z) (each f xs) (f x) (mapped f xs x m)) (which z xs x h)

  pub flat_among : (f : A → List B) (xs ys : List A) → AreAmong xs ys → AreAmong (flat_map f xs) (flat_map f ys)
  flat_among f xs ys s y h = let o = source f xs y h in among f ys o.0 y (s o.0 o.1) o.2

  pub each_among : (f g : A → List B) (xs : List A) → ((x : A) → AreAmong (f x) (g x)) → AreAmong (flat_map f xs) (flat_map g xs)
  each_among f g xs s y h = let o = source f xs y h in among g xs o.0 y o.1 (s o.0 y o.2)
