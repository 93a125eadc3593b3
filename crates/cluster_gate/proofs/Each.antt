-- Lists that are joined from a list for each element, and their order.
use Rattle.std.proofs.Common.{◌∷◌, ◌++◌, List, [], Bool, true, false, arith, map, refl}
use Rattle.std.proofs.lemmas.List.Sorted.{IsPermutation-cons, IsPermutation-refl, IsPermutation-swap, IsPermutation-trans}
use Rattle.std.specs.List.{filter}
use Rattle.std.specs.Prelude.{IsPermutation, cond}
use Rattle.cluster_gate.specs.Orders.{InAnyOrder, none, first, exchanged, through}

-- ---- orders

pub to_permutation : {A : Type 0} (xs ys : List A) → InAnyOrder xs ys → IsPermutation xs ys
to_permutation _ _ none = IsPermutation-refl []
to_permutation _ _ (first {x = x} {xs = xs} {ys = ys} rest) = IsPermutation-cons x xs ys (to_permutation xs ys rest)
to_permutation _ _ (exchanged {x = x} {y = y} {xs = xs}) = IsPermutation-swap (x ∷ y ∷ xs) (y ∷ x ∷ xs) 0 1 (omega arith) (omega arith) refl
to_permutation _ _ (through {xs = xs} {ys = ys} {zs = zs} a b) = IsPermutation-trans xs ys zs (to_permutation xs ys a) (to_permutation ys zs b)

pub as_it_is : {A : Type 0} (xs : List A) → InAnyOrder xs xs
as_it_is [] = none
as_it_is (x ∷ xs) = first (as_it_is xs)

pub back : {A : Type 0} (xs ys : List A) → InAnyOrder xs ys → InAnyOrder ys xs
back _ _ none = none
back _ _ (first {xs = xs} {ys = ys} rest) = first (back xs ys rest)
back _ _ exchanged = exchanged
back _ _ (through {xs = xs} {ys = ys} {zs = zs} a b) = through (back ys zs b) (back xs ys a)

pub after_same : {A : Type 0} (zs xs ys : List A) → InAnyOrder xs ys → InAnyOrder (zs ++ xs) (zs ++ ys)
after_same [] xs ys same = same
after_same (z ∷ zs) xs ys same = first (after_same zs xs ys same)

pub before_same : {A : Type 0} (xs ys zs : List A) → InAnyOrder xs ys → InAnyOrder (xs ++ zs) (ys ++ zs)
before_same _ _ zs none = as_it_is zs
before_same _ _ zs (first {xs = xs} {ys = ys} rest) = first (before_same xs ys zs rest)
before_same _ _ zs exchanged = exchanged
before_same _ _ zs (through {xs = xs} {ys = ys} {zs = vs} a b) = through (before_same xs ys zs a) (before_same ys vs zs b)

pub joined : {A : Type 0} (xs ys us vs : List A) → InAnyOrder xs ys → InAnyOrder us vs → InAnyOrder (xs ++ us) (ys ++ vs)
joined xs ys us vs a b = through (before_same xs ys us a) (after_same ys us vs b)

-- the first of two lists moves after an element
behind : {A : Type 0} (x : A) (xs zs : List A) → InAnyOrder (x ∷ (xs ++ zs)) (xs ++ x ∷ zs)
behind x [] zs = as_it_is (x ∷ zs)
behind x (y ∷ xs) zs = through exchanged (first (behind x xs zs))

pub parts_exchanged : {A : Type 0} (xs ys zs : List A) → InAnyOrder (xs ++ (ys ++ zs)) (ys ++ (xs ++ zs))
parts_exchanged [] ys zs = as_it_is (ys ++ zs)
parts_exchanged (x ∷ xs) ys zs = through (first (parts_exchanged xs ys zs)) (behind x ys (xs ++ zs))

kept : {A : Type 0} (b : Bool) (x : A) (xs ys : List A) → InAnyOrder xs ys → InAnyOrder (cond b (x ∷ xs) xs) (cond b (x ∷ ys) ys)
kept true x xs ys same = first same
kept false x xs ys same = same

both_kept : {A : Type 0} (b c : Bool) (x y : A) (xs : List A)
    → InAnyOrder (cond b (x ∷ cond c (y ∷ xs) xs) (cond c (y ∷ xs) xs)) (cond c (y ∷ cond b (x ∷ xs) xs) (cond b (x ∷ xs) xs))
both_kept true true x y xs = exchanged
both_kept true false x y xs = as_it_is (x ∷ xs)
both_kept false true x y xs = as_it_is (y ∷ xs)
both_kept false false x y xs = as_it_is xs

pub filtered : {A : Type 0} (p : A → Bool) (xs ys : List A) → InAnyOrder xs ys → InAnyOrder (filter p xs) (filter p ys)
filtered p _ _ none = none
filtered p _ _ (first {x = x} {xs = xs} {ys = ys} rest) = kept (p x) x (filter p xs) (filter p ys) (filtered p xs ys rest)
filtered p _ _ (exchanged {x = x} {y = y} {xs = xs}) = both_kept (p x) (p y) x y (filter p xs)
filtered p _ _ (through {xs = xs} {ys = ys} {zs = zs} a b) = through (filtered p xs ys a) (filtered p ys zs b)

-- ---- a list for each element

-- the second list has for each element of the first, one after another, what R relates to it
pub data Each {X Y : Type 0} (R : X → List Y → Type 0) : List X → List Y → Type 0 where
  over_none : Each R [] []
  over_one : {x : X} {xs : List X} {es fs : List Y} → R x es → Each R xs fs → Each R (x ∷ xs) (es ++ fs)

-- in any order of the first, the second has the same elements
pub record Reordered {X Y : Type 0} (R : X → List Y → Type 0) (xs : List X) (es : List Y) : Type 0 where
  pub now : List Y
  pub each : Each R xs now
  pub same : InAnyOrder es now

module _ {X Y : Type 0} (R : X → List Y → Type 0) where
  pub each_reordered : (xs ys : List X) (es : List Y) → InAnyOrder xs ys → Each R xs es → Reordered R ys es
  each_reordered _ _ _ none over_none = record { now = []; each = over_none; same = none }
  each_reordered _ _ _ (first {xs = xs} {ys = ys} rest) (over_one {es = es} {fs = fs} r others) =
      let left = each_reordered xs ys fs rest others in
      record { now = es ++ left.now; each = over_one r left.each; same = after_same es fs left.now left.same }
  each_reordered _ _ _ exchanged (over_one {es = es} r (over_one {es = fs} {fs = gs} q others)) =
      record { now = fs ++ (es ++ gs); each = over_one q (over_one r others); same = parts_exchanged es fs gs }
  each_reordered _ _ es (through {xs = xs} {ys = ys} {zs = zs} a b) each =
      let half = each_reordered xs ys es a each in
      let whole = each_reordered ys zs half.now b half.each in
      record { now = whole.now; each = whole.each; same = through half.same whole.same }

  -- over the values of a function
  pub of_map : {Z : Type 0} (f : Z → X) (zs : List Z) (es : List Y) → Each R (map f zs) es → Each (λ z. R (f z)) zs es
  of_map f [] _ over_none = over_none
  of_map f (z ∷ zs) _ (over_one {fs = fs} r others) = over_one r (of_map f zs fs others)

  pub to_map : {Z : Type 0} (f : Z → X) (zs : List Z) (es : List Y) → Each (λ z. R (f z)) zs es → Each R (map f zs) es
  to_map f _ _ over_none = over_none
  to_map f _ _ (over_one {xs = zs} {fs = fs} r others) = over_one r (to_map f zs fs others)

-- what one relation gives, another gives in any order
pub each_through : {X Y : Type 0} (R S : X → List Y → Type 0) → ((x : X) (es : List Y) → R x es → (fs : List Y) × S x fs × InAnyOrder es fs)
    → (xs : List X) (es : List Y) → Each R xs es → Reordered S xs es
each_through R S gives _ _ over_none = record { now = []; each = over_none; same = none }
each_through R S gives _ _ (over_one {x = x} {xs = xs} {es = es} {fs = fs} r others) =
    let one = gives x es r in
    let rest = each_through R S gives xs fs others in
    record { now = one.0 ++ rest.now; each = over_one one.1 rest.each; same = joined es one.0 fs rest.now one.2 rest.same }
