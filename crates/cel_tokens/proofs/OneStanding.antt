-- The front of a text is unique.
use Rattle.cel_tokens.proofs.Prelude.{◌≡◌, ℕ, ◌+◌, ◌≤◌, List, [], ◌∷◌, drop, refl, sym, ap, arith, Bool, true, false, length-drop, Word, int, IsGap, IsInt, IsLongestToken, DigitsAt, StandsAtFront, NothingElseStands, here, behind_sign}
use Rattle.cel_tokens.specs.Lexed as front
use Rattle.cel_tokens.proofs.NegatedInts.{int_digit, gap_is}
use Rattle.cel_tokens.proofs.OneWord.{one_word, no_int}
use Rattle.cel_tokens.proofs.LongestToken.{none_at_end}
use Rattle.cel_tokens.proofs.Standing.{finds_what_stands}

same_gap : (bytes : List ℕ) (m n : ℕ) → IsGap bytes m → IsGap bytes n → m ≡ n
same_gap bytes m n f g = grind (arith, length-drop)

no_gap : {P : Type 0} (bytes : List ℕ) (n : ℕ) → (1 ≤ n) × IsGap bytes n → IsGap bytes 0 → P
no_gap bytes n f g = let e = same_gap bytes n 0 f.1 g in let h = f.0 in absurd (omega (arith, e, h))

-- the longest token is unique, and it has one word
same_token : (signed : Bool) (bytes : List ℕ) (m n : ℕ) (w v : Word) → IsLongestToken signed bytes m w → IsLongestToken signed bytes n v → (m ≡ n) × (w ≡ v)
same_token signed bytes m n w v f g = grind (arith, one_word)

same_place : {bytes : List ℕ} {k l : ℕ} (m n v w : ℕ) → DigitsAt bytes k → DigitsAt bytes l → IsInt (drop k bytes) m v → IsInt (drop l bytes) n w → k ≡ l
same_place m n v w here here i j = refl
same_place m n v w here (behind_sign {bytes = bytes} h s) i j = let d : false ≡ true = int_digit (45 ∷ bytes) m v i in absurd cc
same_place m n v w (behind_sign {bytes = bytes} h s) here i j = let d : false ≡ true = int_digit (45 ∷ bytes) n w j in absurd cc
same_place m n v w (behind_sign {bytes = bytes} {gap = k} h s) (behind_sign {gap = l} g t) i j = grind (arith, gap_is)

-- at the end of a text the front is the end
at_end : (signed : Bool) (bytes : List ℕ) (y : front.Lexed) → bytes ≡ [] → StandsAtFront signed bytes y → front.over ≡ y
at_end signed bytes y e g = grind (arith, none_at_end)

same_word : (m n : ℕ) (w v : Word) → m ≡ n → w ≡ v → front.word m w ≡ front.word n v
same_word m n w v e f = λ i. front.word (e i) (f i)

only : (signed : Bool) (bytes : List ℕ) (x y : front.Lexed) → StandsAtFront signed bytes x → StandsAtFront signed bytes y → x ≡ y
only signed bytes front.over y f g = at_end signed bytes y f g
only signed bytes x front.over f g = sym (at_end signed bytes x g f)
only signed bytes (front.space m) (front.space n) f g = ap front.space (same_gap bytes m n f.1 g.1)
only signed bytes (front.space m) (front.wide_int n) f (k, v, z, g, d, i, l, h) = no_gap bytes m f g
only signed bytes (front.wide_int n) (front.space m) (k, v, z, f, d, i, l, h) g = no_gap bytes m g f
only signed bytes (front.word m w) (front.word n v) f g = let e = same_token signed bytes m n w v f.1 g.1 in same_word m n w v e.0 e.1
only signed bytes (front.word n w) front.wrong_text f g = absurd (grind arith)
only signed bytes front.wrong_text (front.word n w) f g = absurd (grind arith)
only signed bytes (front.word n w) (front.wide_int m) f g = grind (arith, same_token)
only signed bytes (front.wide_int m) (front.word n w) f g = grind (arith, same_token)
only signed bytes (front.word n w) front.nothing f g = absurd (g.3 n w f.1.0)
only signed bytes front.nothing (front.word n w) f g = absurd (f.3 n w g.1.0)
only signed bytes front.wrong_text front.wrong_text f g = refl
only signed bytes front.wrong_text (front.wide_int m) f (k, v, z, g, d, i, l, h) = absurd (no_int signed bytes (m + k) z f.1 l.0)
only signed bytes (front.wide_int m) front.wrong_text (k, v, z, f, d, i, l, h) g = absurd (no_int signed bytes (m + k) z g.1 l.0)
only signed bytes front.wrong_text front.nothing f g = absurd (g.2 f.1)
only signed bytes front.nothing front.wrong_text f g = absurd (f.2 g.1)
only signed bytes (front.wide_int m) (front.wide_int n) (k, v, z, f, d, i, l, h) (j, w, y, g, c, a, b, t) = ap front.wide_int (same_place k j v w d c i a)
only signed bytes (front.wide_int m) front.nothing (k, v, z, f, d, i, l, h) g = absurd (g.3 (m + k) (int z) l.0)
only signed bytes front.nothing (front.wide_int m) f (k, v, z, g, d, i, l, h) = absurd (f.3 (m + k) (int z) l.0)
only signed bytes front.nothing front.nothing f g = refl
only signed bytes (front.space m) _ f g = no_gap bytes m f g.0
only signed bytes _ (front.space m) f g = no_gap bytes m g f.0

pub nothing_else_stands : NothingElseStands
nothing_else_stands signed bytes x f = only signed bytes (front.front signed bytes) x (finds_what_stands signed bytes) f
