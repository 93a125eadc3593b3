-- Bytes and doubles among the tokens.
use Rattle.wide_reader.proofs.Prelude.{◌≡◌, ℕ, zero, suc, ◌<◌, ◌≤◌, ◌-◌, List, [], ◌∷◌, ◌++◌, length, map, take, drop, false, Option, Some, None, inl, inr, ◌⊎◌, refl, ap, arith, Err, subst, WideWord, CodeToken, token_view, word_of, mark_word, mark_of, Mark, words, AreSupported, WideIsViablePrefix, UnsupportedAt, WideParseReturns, place_at, is_unsupported, open_limit, WideReadError}
use Rattle.wide_tokens.specs.Token.{bytes, double}
use Rattle.wide_tokens.specs.declared.kind.Kind.{Kind}
use Rattle.wide_tokens.specs.declared.kind.Kind.TheVariants as kinds
use Rattle.wide_reader.specs.declared.wide_error.WideReadError.TheVariants as errors
use Rattle.wide_reader.specs.Place.{or_unsupported, unsupported_in}
use Rattle.wide_reader.proofs.Places.{fewer}

-- the error of this word at this position
data IsError : WideWord → ℕ → WideReadError → Type 0 where
  of_bytes : {place : ℕ} → IsError bytes place (errors.Bytes place)
  of_double : {place : ℕ} → IsError double place (errors.Double place)

mark_supported : (o : Option Mark) → is_unsupported (mark_word o) ≡ false
mark_supported None = refl
mark_supported (Some m) = refl

supported_head : (bs : List ℕ) (k : Kind) (place : ℕ) (more : Option WideReadError) → or_unsupported place k more ≡ None → (is_unsupported (word_of bs k) ≡ false) × (more ≡ None)
supported_head bs kinds.Name place more e = (refl, e)
supported_head bs kinds.Quoted place more e = (refl, e)
supported_head bs (kinds.Int z) place more e = (refl, e)
supported_head bs (kinds.Uint n) place more e = (refl, e)
supported_head bs (kinds.Text s) place more e = (refl, e)
supported_head bs kinds.Bytes place more e = absurd cc
supported_head bs kinds.Double place more e = absurd cc
supported_head bs kinds.Mark place more e = (mark_supported (mark_of bs), e)

same_error : (w : WideWord) (place : ℕ) (x y : WideReadError) → IsError w place x → Some x ≡ Some y → IsError w place y
same_error w place x y i e = let f : x ≡ y = cc in subst (λ (z : WideReadError). IsError w place z) f i

unsupported_head : (bs : List ℕ) (k : Kind) (place : ℕ) (more : Option WideReadError) (x : WideReadError) → or_unsupported place k more ≡ Some x
    → IsError (word_of bs k) place x ⊎ ((is_unsupported (word_of bs k) ≡ false) × (more ≡ Some x))
unsupported_head bs kinds.Name place more x e = inr (refl, e)
unsupported_head bs kinds.Quoted place more x e = inr (refl, e)
unsupported_head bs (kinds.Int z) place more x e = inr (refl, e)
unsupported_head bs (kinds.Uint n) place more x e = inr (refl, e)
unsupported_head bs (kinds.Text s) place more x e = inr (refl, e)
unsupported_head bs kinds.Bytes place more x e = inl (same_error bytes place _ x of_bytes e)
unsupported_head bs kinds.Double place more x e = inl (same_error double place _ x of_double e)
unsupported_head bs kinds.Mark place more x e = inr (mark_supported (mark_of bs), e)

-- the first n tokens are supported
pub supported : (source : List ℕ) (tokens : List CodeToken) (n : ℕ) → unsupported_in (take n tokens) ≡ None → AreSupported (take n (words source tokens))
supported source [] zero e = tt
supported source [] (suc n) e = tt
supported source (t ∷ ts) zero e = tt
supported source (t ∷ ts) (suc n) e =
    let p = supported_head (take (t.end - t.place) (drop t.place source)) t.kind t.place (unsupported_in (take n ts)) e in
    (p.0, supported source ts n p.1)

-- the first token that is not, among the first n
abbrev First : List ℕ → List CodeToken → ℕ → WideReadError → Type 0
First source tokens n x =
    (k : ℕ) × (w : WideWord) × (k < n) × AreSupported (take k (words source tokens))
    × (take (suc k) (words source tokens) ≡ take k (words source tokens) ++ w ∷ []) × IsError w (place_at (length source) (drop k (map (token_view source) tokens))) x

first : (source : List ℕ) (tokens : List CodeToken) (n : ℕ) (x : WideReadError) → unsupported_in (take n tokens) ≡ Some x → First source tokens n x
first source [] zero x e = absurd cc
first source [] (suc n) x e = absurd cc
first source (t ∷ ts) zero x e = absurd cc
first source (t ∷ ts) (suc n) x e = elim (unsupported_head (take (t.end - t.place) (drop t.place source)) t.kind t.place (unsupported_in (take n ts)) x e) [
  | inl i ↦ (0, word_of (take (t.end - t.place) (drop t.place source)) t.kind, omega arith, tt, refl, i)
  | inr p ↦ (
      let r = first source ts n x p.1 in
      (suc r.0, r.1, omega (arith, r.2), (p.0, r.3), ap (λ (ws : List WideWord). word_of (take (t.end - t.place) (drop t.place source)) t.kind ∷ ws) r.4, r.5))
]

told_error : (source : List ℕ) (tokens : List CodeToken) (k : ℕ) (w : WideWord) (place : ℕ) (x : WideReadError) → place ≡ place_at (length source) (drop k (map (token_view source) tokens))
    → IsError w place x → UnsupportedAt w k (words source tokens) → WideParseReturns (length source) (map (token_view source) tokens) (Err x)
told_error source tokens k w place x e of_bytes u = (k, e, u)
told_error source tokens k w place x e of_double u = (k, e, u)

-- the first n tokens can be extended to an expression, but one of them is not supported
pub told_unsupported : (source : List ℕ) (tokens : List CodeToken) (n : ℕ) (x : WideReadError) → n ≤ length (words source tokens)
    → WideIsViablePrefix open_limit (take n (words source tokens)) → unsupported_in (take n tokens) ≡ Some x
    → WideParseReturns (length source) (map (token_view source) tokens) (Err x)
told_unsupported source tokens n x h v e =
    let r = first source tokens n x e in
    told_error source tokens r.0 r.1 _ x refl r.5 (r.3, r.4, fewer open_limit (suc r.0) n (words source tokens) (omega (arith, r.2)) h v)
