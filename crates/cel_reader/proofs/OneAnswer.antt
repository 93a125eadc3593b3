-- The result for a text is unique.
use Rattle.cel_reader.proofs.Prelude.{◌≡◌, ℕ, suc, ◌+◌, ◌<◌, ◌≤◌, List, [], ◌∷◌, ◌++◌, length, take, drop, Ok, Err, refl, sym, ◌∙◌, ap, subst, inl, inr, arith, cases_order, append_assoc, length-append, length-take, length-take-le, take-append-drop, take-append-le, Word, Token, Lexes, ReadError, UnexpectedToken, TooManyOpen, Memory, one_end, words_only, Expression, One, Derives, place_at, IsViablePrefix, UnexpectedAt, DeepAt, IsReadResult, GoesWrongOnce, ReadHasOneResult, open_limit}
use Rattle.cel_reader.proofs.Told.{one_list, not_refused, only_of, same_error}

-- ---- words

-- a shorter prefix of words that can be extended to an expression can be too
fewer : (room few many : ℕ) (ws : List Word) → few ≤ many → many ≤ length ws → IsViablePrefix room (take many ws) → IsViablePrefix room (take few ws)
fewer room few many ws h within v =
    let rest = drop few (take many ws) in
    let front : take few (take many ws) ≡ take few ws = sym (take-append-le few (take many ws) (drop many ws) (omega (arith, h, length-take-le many ws within))) ∙ ap (take few) (take-append-drop many ws) in
    let both : take many ws ≡ take few ws ++ rest = sym (take-append-drop few (take many ws)) ∙ ap (λ (x : List Word). x ++ rest) front in
    let all : take many ws ++ v.0 ≡ take few ws ++ (rest ++ v.0) = ap (λ (x : List Word). x ++ v.0) both ∙ append_assoc (take few ws) rest v.0 in
    (rest ++ v.0, v.1, subst (λ (x : List Word). Derives Expression room x (One v.1) []) all v.2)

-- a prefix longer than that before a misfit cannot be extended
behind_misfit : (count many : ℕ) (ws : List Word) → count < many → many ≤ length ws → UnexpectedAt count ws → (room : ℕ) → IsViablePrefix room (take many ws) → ⊥
behind_misfit count many ws h within wrong room v = wrong.2 (omega (arith, h, within)) room (fewer room (suc count) many ws h within v)

-- with 100 open, a prefix longer than that before one bracket too many cannot be extended
behind_deep : (count many : ℕ) (ws : List Word) → count < many → many ≤ length ws → DeepAt count ws → IsViablePrefix open_limit (take many ws) → ⊥
behind_deep count many ws h within wrong v = wrong.4 (fewer open_limit (suc count) many ws h within v)

-- that bracket is one of the words
deep_within : (count : ℕ) (ws : List Word) → DeepAt count ws → count < length ws
deep_within count ws wrong =
    let more : length (take (suc count) ws) ≡ length (take count ws) + 1 = ap length wrong.1 ∙ length-append (take count ws) (wrong.0 ∷ []) in
    omega (arith, more, length-take (suc count) ws, length-take count ws)

module _ (ws : List Word) (count other : ℕ) where
  misfit_once : UnexpectedAt count ws → UnexpectedAt other ws → count ≡ other
  misfit_once a b = elim (cases_order count other) [
    | inl e ↦ e
    | inr (inl h) ↦ absurd (behind_misfit count other ws h b.0 a open_limit b.1)
    | inr (inr h) ↦ absurd (behind_misfit other count ws h a.0 b open_limit a.1)
  ]

  deep_once : DeepAt count ws → DeepAt other ws → count ≡ other
  deep_once a b = elim (cases_order count other) [
    | inl e ↦ e
    | inr (inl h) ↦ absurd (behind_deep count other ws h (omega (arith, deep_within other ws b)) a b.3)
    | inr (inr h) ↦ absurd (behind_deep other count ws h (omega (arith, deep_within count ws a)) b a.3)
  ]

  misfit_not_deep : UnexpectedAt count ws → DeepAt other ws → ⊥
  misfit_not_deep a b = elim (cases_order other count) [
    | inl e ↦ behind_misfit count (suc other) ws (omega (arith, e)) (deep_within other ws b) a (suc open_limit) b.5
    | inr (inl h) ↦ behind_deep other count ws h a.0 b a.1
    | inr (inr h) ↦ behind_misfit count (suc other) ws (omega (arith, h)) (deep_within other ws b) a (suc open_limit) b.5
  ]

pub wrong_once : (ws : List Word) → GoesWrongOnce ws
wrong_once ws = record { misfit = misfit_once ws; deep = deep_once ws; not_both = misfit_not_deep ws }

-- ---- texts

-- a refused text has no tokens, or their words have an error at some position
data IsWrong (source : List ℕ) : ReadError → Type 0 where
  cut_off : {e : ReadError} → Lexes source (Err e) → IsWrong source e
  misfit : (lexemes : List Token) (count : ℕ) → Lexes source (Ok lexemes) → UnexpectedAt count (words_only lexemes) → IsWrong source (UnexpectedToken (place_at (length source) (drop count lexemes)))
  deep : (lexemes : List Token) (count : ℕ) → Lexes source (Ok lexemes) → DeepAt count (words_only lexemes) → IsWrong source (TooManyOpen (place_at (length source) (drop count lexemes)))

wrong : (source : List ℕ) (e : ReadError) → IsReadResult source (Err e) → IsWrong source e
wrong source (UnexpectedToken place) is = let at = is.placed.2 in subst (λ (n : ℕ). IsWrong source (UnexpectedToken n)) (sym at.1) (misfit is.placed.0 at.0 is.placed.1 at.2)
wrong source (TooManyOpen place) is = let at = is.placed.2 in subst (λ (n : ℕ). IsWrong source (TooManyOpen n)) (sym at.1) (deep is.placed.0 at.0 is.placed.1 at.2)
wrong source Memory is = absurd (is.some refl)
wrong source _ is = cut_off is.answers

same_place : (source : List ℕ) (xs ys : List Token) (count other : ℕ) → xs ≡ ys → count ≡ other → place_at (length source) (drop count xs) ≡ place_at (length source) (drop other ys)
same_place source xs ys count other e f = ap (λ (n : ℕ). place_at (length source) (drop n xs)) f ∙ ap (λ (zs : List Token). place_at (length source) (drop other zs)) e

refused_once : (source : List ℕ) (e f : ReadError) → IsWrong source e → IsWrong source f → e ≡ f
refused_once source e f (cut_off l) (cut_off m) = same_error e f (one_end source (Err e) (Err f) l m)
refused_once source e f (cut_off l) (misfit ys m k b) = not_refused source ys e k l
refused_once source e f (cut_off l) (deep ys m k b) = not_refused source ys e k l
refused_once source e f (misfit xs n k a) (cut_off m) = not_refused source xs f k m
refused_once source e f (misfit xs n k a) (misfit ys m l b) =
    let is = one_list source xs ys k l in
    ap UnexpectedToken (same_place source xs ys n m is (misfit_once (words_only ys) n m (subst (λ (zs : List Token). UnexpectedAt n (words_only zs)) is a) b))
refused_once source e f (misfit xs n k a) (deep ys m l b) = absurd (misfit_not_deep (words_only ys) n m (subst (λ (zs : List Token). UnexpectedAt n (words_only zs)) (one_list source xs ys k l) a) b)
refused_once source e f (deep xs n k a) (cut_off m) = not_refused source xs f k m
refused_once source e f (deep xs n k a) (misfit ys m l b) = absurd (misfit_not_deep (words_only xs) m n (subst (λ (zs : List Token). UnexpectedAt m (words_only zs)) (one_list source ys xs l k) b) a)
refused_once source e f (deep xs n k a) (deep ys m l b) =
    let is = one_list source xs ys k l in
    ap TooManyOpen (same_place source xs ys n m is (deep_once (words_only ys) n m (subst (λ (zs : List Token). DeepAt n (words_only zs)) is a) b))

pub one_refusal : (source : List ℕ) (e f : ReadError) → IsReadResult source (Err e) → IsReadResult source (Err f) → e ≡ f
one_refusal source e f is also = refused_once source e f (wrong source e is) (wrong source f also)

-- ---- results

pub one_answer : ReadHasOneResult
one_answer source h h2 is also = grind (arith, only_of, one_refusal)
