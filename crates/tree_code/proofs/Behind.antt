-- Texts with something added at the end.
use Rattle.tree_code.proofs.Prelude.{◌≡◌, ◌||◌, List, [], ◌∷◌, ◌++◌, map, take, string_bytes, string_eq, bytes_eq, refl, ap, if◌then◌else◌, length, arith, map-append, Global, list_any, with_text, IsUtf8-string_bytes}
use Rattle.std.specs.Prelude.{String}

-- ---- a text among texts

-- a text is among texts if its bytes are among theirs
among : (t : String Global) (texts : List (String Global)) → list_any (string_eq t) texts ≡ list_any (bytes_eq (string_bytes t)) (map string_bytes texts)
among t [] = refl
among t (s ∷ more) = ap (λ b. bytes_eq (string_bytes t) (string_bytes s) || b) (among t more)

-- the bytes of the texts after one more is used
pub text_taken : (t : String Global) (texts : List (String Global))
    → map string_bytes (if list_any (string_eq t) texts then texts else texts ++ t ∷ []) ≡ with_text (map string_bytes texts) (string_bytes t)
text_taken t texts = grind (arith, among, map-append)

-- ---- lists that begin with others

-- if b begins with a, and c begins with b, then c begins with a
pub front_later : {X : Type 0} (a b c : List X) → take (length a) b ≡ a → take (length b) c ≡ b → take (length a) c ≡ a
front_later [] b c h g = refl
front_later (x ∷ a) (y ∷ b) (z ∷ c) h g = grind (arith, front_later a b c (cc) (cc))
front_later (x ∷ a) _ _ h g = absurd (cc)

-- the bytes of a text are UTF-8
pub ruleset texts_fit = (IsUtf8-string_bytes)
