-- Warnings, each text once.
use Rattle.cluster_response.proofs.Prelude.{◌≡◌, ◌||◌, ◌++◌, ◌∷◌, List, [], String, Global, ap, arith, bytes_eq, if◌then◌else◌, list_any, map, map-append, or_there, refl, string_bytes, string_eq}

-- a text is among texts if its bytes are among theirs
among : (t : String Global) (texts : List (String Global)) → list_any (string_eq t) texts ≡ list_any (bytes_eq (string_bytes t)) (map string_bytes texts)
among t [] = refl
among t (s ∷ more) = ap (λ b. bytes_eq (string_bytes t) (string_bytes s) || b) (among t more)

-- the bytes of the texts with one more
pub text_kept : (t : String Global) (texts : List (String Global))
    → map string_bytes (if list_any (string_eq t) texts then texts else texts ++ t ∷ []) ≡ or_there (map string_bytes texts) (string_bytes t)
text_kept t texts = grind (arith, among, map-append)
