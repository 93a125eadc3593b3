-- Lists that have the same image under a function.
use Rattle.value_table.proofs.Prelude.{◌≡◌, ℕ, ◌+◌, ◌<◌, List, [], ◌∷◌, length, take, map, get_or, refl, sym, ap, ◌∙◌, arith, take_more, get_or-map, map-append, length-map}

module _ {A B : Type 0} (f : A → B) (xs ys : List A) where
  pub map_more : (i : ℕ) (d e : A) → i < length xs → i < length ys → f (get_or xs i d) ≡ f (get_or ys i e)
      → map f (take i xs) ≡ map f (take i ys) → map f (take (i + 1) xs) ≡ map f (take (i + 1) ys)
  map_more i d e h k s t =
      rw (take_more xs i d h, take_more ys i e k, map-append f (take i xs) (get_or xs i d ∷ []), map-append f (take i ys) (get_or ys i e ∷ []), t, s) refl

  pub same_long : map f xs ≡ map f ys → length xs ≡ length ys
  same_long s = sym (length-map xs f) ∙ ap length s ∙ length-map ys f

  pub map_part : (i : ℕ) (d e : A) → i < length xs → map f xs ≡ map f ys → f (get_or xs i d) ≡ f (get_or ys i e)
  map_part i d e h s =
      sym (get_or-map f xs i d (f d) h) ∙ ap (λ zs. get_or zs i (f d)) s ∙ get_or-map f ys i e (f d) (omega (arith, same_long s))
