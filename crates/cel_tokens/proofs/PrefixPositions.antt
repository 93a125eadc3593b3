-- The positions in which a minus may be a sign.
use Rattle.cel_tokens.proofs.Prelude.{◌≡◌, refl, true, false, codes, bytes_eq, bytes_eq-Decides, false_from_ne_true, not_from_Decides, Mark, CloseParen, CloseBracket, CloseBrace, Word, name, int, text, mark, sign_may_follow, EndsOperand, identifier, paren, bracket, brace}
use Rattle.cel_tokens.specs.SignedInts.EndsOperand.{an_int, a_text}

may : {P : Type 0} → true ≡ false → P
may e = absurd cc

after_mark : (m : Mark) → sign_may_follow (mark m) ≡ false → EndsOperand (mark m)
after_mark CloseParen e = paren
after_mark CloseBracket e = bracket
after_mark CloseBrace e = brace
after_mark _ e = may e

ends : (w : Word) → sign_may_follow w ≡ false → EndsOperand w
ends (name bytes) e = identifier bytes (not_from_Decides (bytes_eq bytes (codes "in")) (bytes_eq-Decides bytes (codes "in")) e)
ends (int z) e = an_int z
ends (text bytes) e = a_text bytes
ends (mark m) e = after_mark m e

none_follows : {w : Word} → EndsOperand w → sign_may_follow w ≡ false
none_follows (identifier bytes h) = false_from_ne_true (bytes_eq bytes (codes "in")) (λ e. h ((bytes_eq-Decides bytes (codes "in")).0 e))
none_follows _ = refl

pub has_prefix_position : (w : Word) → (sign_may_follow w ≡ false → EndsOperand w) × (EndsOperand w → sign_may_follow w ≡ false)
has_prefix_position w = (ends w, none_follows)
