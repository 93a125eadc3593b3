-- Escapes of text literals as they are written after the backslash (cel-spec, ESCAPE).
use Rattle.std.specs.Prelude.{◌≡◌, ◌≤◌, ◌↔◌, ◌⊎◌, ℕ, List, [], ◌∷◌, length, take, true, Some, codes}
use Rattle.cel_tokens.specs.Bytes.{is_digit_of}
use Rattle.cel_tokens.specs.Ints.{number}
use Rattle.cel_tokens.specs.Texts.{escape, is_code_point}
use Rattle.cel_tokens.specs.Longest.{AllPass}

-- `count` digits in this base
abbrev pub AreDigits : ℕ → ℕ → List ℕ → Type 0
AreDigits base count ds = (length ds ≡ count) × AllPass (is_digit_of base) ds

-- these bytes denote this code point: a letter or a mark, two hex digits after x (120) or X (88), four after u
-- (117), eight after U (85), or three octal digits up to 377
pub data EscapeNames : List ℕ → ℕ → Type 0 where
  bell : EscapeNames (codes "a") 7
  backspace : EscapeNames (codes "b") 8
  form_feed : EscapeNames (codes "f") 12
  line_feed : EscapeNames (codes "n") 10
  carriage_return : EscapeNames (codes "r") 13
  tab : EscapeNames (codes "t") 9
  vertical_tab : EscapeNames (codes "v") 11
  backslash : EscapeNames (92 ∷ []) 92
  question_mark : EscapeNames (63 ∷ []) 63
  double_quote : EscapeNames (34 ∷ []) 34
  single_quote : EscapeNames (39 ∷ []) 39
  back_quote : EscapeNames (96 ∷ []) 96
  two_hex : (x : ℕ) (ds : List ℕ) → (x ≡ 120) ⊎ (x ≡ 88) → AreDigits 16 2 ds → EscapeNames (x ∷ ds) (number 16 ds)
  four_hex : (ds : List ℕ) → AreDigits 16 4 ds → is_code_point (number 16 ds) ≡ true → EscapeNames (117 ∷ ds) (number 16 ds)
  eight_hex : (ds : List ℕ) → AreDigits 16 8 ds → is_code_point (number 16 ds) ≡ true → EscapeNames (85 ∷ ds) (number 16 ds)
  octal : (ds : List ℕ) → AreDigits 8 3 ds → number 8 ds ≤ 255 → EscapeNames ds (number 8 ds)

-- `escape` computes the code point that the bytes denote
abbrev pub NamesItsCodePoint : Type 0
NamesItsCodePoint = (bytes : List ℕ) (code len : ℕ)
    → (escape bytes ≡ Some (code, len)) ↔ ((len ≤ length bytes) × EscapeNames (take len bytes) code)
