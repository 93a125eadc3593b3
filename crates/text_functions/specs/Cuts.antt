-- Texts cut between code points.
use Rattle.std.specs.Prelude.{◌≡◌, ℕ, List, ◌∷◌, ◌++◌, take, drop, nat_lt, if◌then◌else◌, encode_utf8, encode_utf8_all}
use Rattle.std.specs.Str.{IsUtf8, chars}

-- a text begins with a letter, the text of one code point, and then the rest
pub record IsLetterAndRest (text letter rest : List ℕ) : Type 0 where
  pub code : ℕ
  pub spelled : letter ≡ encode_utf8 code
  pub parted : text ≡ encode_utf8 code ++ rest
  pub codes : chars text ≡ code ∷ chars rest
  pub utf8 : IsUtf8 rest

-- front has the first n code points of a text, or all if it has fewer, and back the others
pub record IsCut (n : ℕ) (text front back : List ℕ) : Type 0 where
  pub front_is : front ≡ encode_utf8_all (take n (chars text))
  pub front_codes : chars front ≡ take n (chars text)
  pub back_is : back ≡ encode_utf8_all (drop n (chars text))
  pub back_codes : chars back ≡ drop n (chars text)

-- the first text if some are left, else the second
abbrev pub chosen : ℕ → List ℕ → List ℕ → List ℕ
chosen n first second = if nat_lt 0 n then first else second
