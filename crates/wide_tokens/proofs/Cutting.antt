-- Steps over the tokens of a text.
use Rattle.wide_tokens.proofs.Prelude.{◌≡◌, ℕ, ◌+◌, ◌-◌, ◌<◌, ◌≤◌, List, [], ◌∷◌, ◌++◌, length, drop, take, map, refl, sym, ◌∙◌, ap, arith, Bool, true, false, Option, Some, None, Result, Err, subst, nat_le, IsUtf8, drop-drop, take-append-drop, map-append, length-map, cases_lt, nat_tests, WideWord, WideToken, Opening, opening_len, literal_word, token_view, word_of, front, front_text, sign_may_follow, WideEndsText, Vec, Global, WideCuts, WideTokenBegins, WideTakesMemory, lexeme, WideTokensReturns, read, space as cut_space, token as cut_token, wrong_text as cut_text, wide_int as cut_int, too_many, for_word, for_text, behind_space, a_word, WideEndsAs, WideIsTextRefused, refusal_of, WideCutsTo, Kind, CodeToken, ReadError, InvalidTextLiteral, IntOutOfRange, UnexpectedToken, TooManyOpen, TextTooLong, Memory, token_limit, text_limit}
use mathlib.Core.Logic.{inl, inr}
use Rattle.wide_tokens.specs.Lexed as front
use Rattle.wide_tokens.specs.Lexis.WideTokenBegins.{a_text, an_int}

-- the front of the rest is that of the text at this position
pub there : (source rest : List ℕ) (signed : Bool) (at : ℕ) (found : front.WideLexed) → rest ≡ drop at source → found ≡ front signed rest → front signed (drop at source) ≡ found
there source rest signed at found e s = ap (front signed) (sym e) ∙ sym s

pub ends_text : (source rest : List ℕ) (at : ℕ) → IsUtf8 source → rest ≡ drop at source → WideEndsText rest
ends_text source rest at u e = (take at source, subst IsUtf8 (sym (take-append-drop at source) ∙ ap (λ (ys : List ℕ). take at source ++ ys) (sym e)) u)

pub space_step : (source : List ℕ) (signed : Bool) (at n : ℕ) (so_far : List WideToken) (r : Result (List WideToken) ReadError)
    → front signed (drop at source) ≡ front.space n → WideCuts signed so_far (at + n) (drop (at + n) source) r → WideCuts signed so_far at (drop at source) r
space_step source signed at n so_far r f d =
    cut_space n f (subst (λ (xs : List ℕ). WideCuts signed so_far (at + n) xs r) (sym (drop-drop n at source)) d)

token_step : (source : List ℕ) (signed : Bool) (at n : ℕ) (so_far : List WideToken) (w : WideWord) (r : Result (List WideToken) ReadError) → front signed (drop at source) ≡ front.word n w → length so_far < token_limit → WideCuts (sign_may_follow w) (so_far ++ (lexeme at n w ∷ [])) (at + n) (drop (at + n) source) r → WideCuts signed so_far at (drop at source) r
token_step source signed at n so_far w r f l d =
    cut_token n w f l (subst (λ (xs : List ℕ). WideCuts (sign_may_follow w) (so_far ++ (lexeme at n w ∷ [])) (at + n) xs r) (sym (drop-drop n at source)) d)

moved : (sign sign' : Bool) (new new' : List WideToken) (next : ℕ) (source : List ℕ) (r : Result (List WideToken) ReadError) → sign ≡ sign'
    → new ≡ new' → WideCuts sign new next (drop next source) r → WideCuts sign' new' next (drop next source) r
moved sign sign' new new' next source r h0 h1 h2 = grind arith

same_word : (at n : ℕ) (source : List ℕ) (kind : Kind) → word_of (take (at + n - at) (drop at source)) kind ≡ word_of (take n (drop at source)) kind
same_word at n source kind = let e : at + n - at ≡ n = omega arith in ap (λ (y : ℕ). word_of (take y (drop at source)) kind) e

seen_new : (source : List ℕ) (at n : ℕ) (kind : Kind) (old new : List CodeToken) → new ≡ old ++ ((record { place = at; end = at + n; kind = kind }) ∷ [])
    → map (token_view source) new ≡ map (token_view source) old ++ (lexeme at n (word_of (take n (drop at source)) kind) ∷ [])
seen_new source at n kind old new e = grind (arith, map-append, same_word)

-- the rest of a text from a position on, and the token at its front
pub record BeginsToken (source rest : List ℕ) (signed : Bool) (at n : ℕ) (kind : Kind) : Type 0 where
  pub rest_is : rest ≡ drop at source
  pub front_is : front.word n (word_of (take n rest) kind) ≡ front signed rest

pub token_goes : (source rest : List ℕ) (signed : Bool) (at n : ℕ) (kind : Kind) (old : List CodeToken) (r : Result (List WideToken) ReadError)
    → BeginsToken source rest signed at n kind → length old < token_limit
    → WideEndsAs source (sign_may_follow (word_of (take n rest) kind)) (at + n) (old ++ ((record { place = at; end = at + n; kind = kind }) ∷ [])) r
    → WideEndsAs source signed at old r
token_goes source rest signed at n kind old r begins l d =
    let w : word_of (take n rest) kind ≡ word_of (take n (drop at source)) kind = ap (λ (ys : List ℕ). word_of (take n ys) kind) begins.rest_is in
    let f : front signed (drop at source) ≡ front.word n (word_of (take n (drop at source)) kind) = there source rest signed at _ begins.rest_is begins.front_is ∙ ap (front.word n) w in
    token_step source signed at n (map (token_view source) old) _ r f (omega (arith, length-map old (token_view source))) (moved _ _ _ _ (at + n) source r (ap sign_may_follow w) (seen_new source at n kind old _ refl) d)

-- reading on allocates before blanks and comments if it does after them
pub taken_behind : (source : List ℕ) (signed : Bool) (at n : ℕ) → front signed (drop at source) ≡ front.space n
    → WideTakesMemory signed (drop (at + n) source) → WideTakesMemory signed (drop at source)
taken_behind source signed at n f t = behind_space n f (subst (WideTakesMemory signed) (sym (drop-drop n at source)) t)

-- reading a token allocates
pub taken_for : (source rest : List ℕ) (signed : Bool) (at n : ℕ) (w : WideWord) → rest ≡ drop at source → front.word n w ≡ front signed rest → WideTakesMemory signed (drop at source)
taken_for source rest signed at n w e s = for_word n w (there source rest signed at (front.word n w) e s)

-- reading a text literal allocates, even if it is invalid
pub taken_by_text : (signed : Bool) (source : List ℕ) (o : Opening) (x : Option (ℕ × List ℕ)) → front signed source ≡ front_text o x → WideTakesMemory signed source
taken_by_text signed source o None e = for_text e
taken_by_text signed source o (Some x) e = for_word (opening_len o + x.0) (literal_word o x.1) e

-- after 4,096 tokens the next one exceeds the limit
pub too_many_words : (source rest : List ℕ) (signed : Bool) (at n : ℕ) (w : WideWord) (old : List CodeToken) → rest ≡ drop at source
    → front.word n w ≡ front signed rest → token_limit ≤ length old → WideEndsAs source signed at old (Err (TextTooLong at))
too_many_words source rest signed at n w old e s l =
    too_many (subst WideTokenBegins (sym (there source rest signed at _ e s)) (a_word n w)) (omega (arith, length-map old (token_view source)))

full : (count at : ℕ) (cause : ReadError) → token_limit ≤ count → refusal_of count at cause ≡ TextTooLong at
full count at cause h = let e : nat_le token_limit count ≡ true = grind (arith, nat_tests) in rw e refl

not_full : (count at : ℕ) (cause : ReadError) → count < token_limit → refusal_of count at cause ≡ cause
not_full count at cause h = let e : nat_le token_limit count ≡ false = grind (arith, nat_tests) in rw e refl

pub text_refused : (source : List ℕ) (signed : Bool) (at count : ℕ) (old : List CodeToken) (answer : ReadError) → front signed (drop at source) ≡ front.wrong_text
    → count ≡ length old → answer ≡ refusal_of count at (InvalidTextLiteral at) → WideIsTextRefused (WideEndsAs source signed at old) (WideTakesMemory signed (drop at source)) answer
text_refused source signed at count old answer f c a =
    elim (cases_lt count token_limit) [ inl h ↦ rw (a, not_full count at (InvalidTextLiteral at) h) (cut_text {so_far = map (token_view source) old} f (omega (arith, c, length-map old (token_view source)))) | inr h ↦ rw (a, full count at (InvalidTextLiteral at) h) (too_many {so_far = map (token_view source) old} (subst WideTokenBegins (sym f) a_text) (omega (arith, c, length-map old (token_view source)))) ]

pub int_refused : (source : List ℕ) (signed : Bool) (at n count : ℕ) (old : List CodeToken) (answer : ReadError) → front signed (drop at source) ≡ front.wide_int n
    → count ≡ length old → answer ≡ refusal_of count at (IntOutOfRange (at + n)) → WideIsTextRefused (WideEndsAs source signed at old) (WideTakesMemory signed (drop at source)) answer
int_refused source signed at n count old answer f c a =
    elim (cases_lt count token_limit) [ inl h ↦ rw (a, not_full count at (IntOutOfRange (at + n)) h) (cut_int {so_far = map (token_view source) old} n f (omega (arith, c, length-map old (token_view source)))) | inr h ↦ rw (a, full count at (IntOutOfRange (at + n)) h) (too_many {so_far = map (token_view source) old} (subst WideTokenBegins (sym f) (an_int n)) (omega (arith, c, length-map old (token_view source)))) ]

-- the outcome of the whole text
pub whole : (source : List ℕ) (r : Result (Vec CodeToken Global) ReadError) → length source ≤ text_limit → WideCutsTo source r → WideTokensReturns source r
whole source (Err (UnexpectedToken place)) h c = c
whole source (Err (TooManyOpen place)) h c = c
whole source (Err Memory) h c = (h, c)
whole source _ h c = read h c
