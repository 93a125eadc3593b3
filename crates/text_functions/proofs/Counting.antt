-- The number of code points of a text.
use Rattle.text_functions.proofs.Prelude.{◌≡◌, ◌∙◌, ◌≤◌, List, ℕ, length, sym, ap, arith, IsUtf8, chars}
use Rattle.text_functions.proofs.Prelude.{encodes-chars, length-le-encodes, code_points_of, count}

pub counted : (text : List ℕ) → IsUtf8 text → code_points_of text ≡ length (chars text)
counted text utf8 = ap code_points_of (sym (encodes-chars text utf8)) ∙ count (chars text)

pub no_more : (text : List ℕ) → IsUtf8 text → length (chars text) ≤ length text
no_more text utf8 = omega (arith, length-le-encodes (chars text), ap length (encodes-chars text utf8))
