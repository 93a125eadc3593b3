-- Two lists, item by item.
use Rattle.std.proofs.Common.{◌≡◌, ◌||◌, suc, Bool, List, [], ◌∷◌, length, map, refl, ap}
use Rattle.std.specs.List.{list_any}
use Rattle.wide_policy.specs.Carrying.{EachPair}

module _ {A B : Type 0} (P : A → B → Type 0) where
  pub same_length : (xs : List A) (ys : List B) → EachPair P xs ys → length ys ≡ length xs
  same_length [] [] h = refl
  same_length [] (b ∷ ys) h = absurd h
  same_length (a ∷ xs) [] h = absurd h
  same_length (a ∷ xs) (b ∷ ys) h = ap suc (same_length xs ys h.1)

  -- a test that gives the same for both items of each pair
  pub same_any : (f : A → Bool) (g : B → Bool) (xs : List A) (ys : List B) → ((a : A) (b : B) → P a b → g b ≡ f a) → EachPair P xs ys → list_any g ys ≡ list_any f xs
  same_any f g [] [] same h = refl
  same_any f g [] (b ∷ ys) same h = absurd h
  same_any f g (a ∷ xs) [] same h = absurd h
  same_any f g (a ∷ xs) (b ∷ ys) same h = λ i. same a b h.0 i || same_any f g xs ys same h.1 i

  -- the second items changed
  pub pairs_right : {C : Type 0} (Q : A → C → Type 0) (f : B → C) (xs : List A) (ys : List B) → ((a : A) (b : B) → P a b → Q a (f b)) → EachPair P xs ys → EachPair Q xs (map f ys)
  pairs_right Q f [] [] is h = tt
  pairs_right Q f [] (b ∷ ys) is h = absurd h
  pairs_right Q f (a ∷ xs) [] is h = absurd h
  pairs_right Q f (a ∷ xs) (b ∷ ys) is h = (is a b h.0, pairs_right Q f xs ys is h.1)

  -- pairs made of the second items
  pub pairs_both : {C D : Type 0} (Q : C → D → Type 0) (f : B → C) (g : B → D) (xs : List A) (ys : List B) → ((a : A) (b : B) → P a b → Q (f b) (g b)) → EachPair P xs ys
      → EachPair Q (map f ys) (map g ys)
  pairs_both Q f g [] [] is h = tt
  pairs_both Q f g [] (b ∷ ys) is h = absurd h
  pairs_both Q f g (a ∷ xs) [] is h = absurd h
  pairs_both Q f g (a ∷ xs) (b ∷ ys) is h = (is a b h.0, pairs_both Q f g xs ys is h.1)

  -- lists that pair with the same one are equal, if items that do are
  pub same_seconds : ((a : A) (b c : B) → P a b → P a c → b ≡ c) → (xs : List A) (ys cs : List B) → EachPair P xs ys → EachPair P xs cs → ys ≡ cs
  same_seconds same [] [] [] h k = refl
  same_seconds same [] [] (c ∷ cs) h k = absurd k
  same_seconds same [] (b ∷ ys) cs h k = absurd h
  same_seconds same (a ∷ xs) [] cs h k = absurd h
  same_seconds same (a ∷ xs) (b ∷ ys) [] h k = absurd k
  same_seconds same (a ∷ xs) (b ∷ ys) (c ∷ cs) h k = λ i. same a b c h.0 k.0 i ∷ same_seconds same xs ys cs h.1 k.1 i
