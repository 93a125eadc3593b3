-- Results for whole texts, from the reader's runs.
use Rattle.wide_reader.proofs.Prelude.{◌≡◌, ◌≢◌, ℕ, suc, ◌-◌, ◌≤◌, List, [], ◌∷◌, ◌++◌, length, map, take, Ok, Err, Result, Option, Some, None, refl, sym, ◌∙◌, ap, subst, arith, drop-map, WideWord, WideToken, token_view, CodeToken, WideLexes, one_end, some_taken, Wide, CodeWide, view, words, words_only, Expression, One, WideDerives, Got, Row, WideStepReads, IsWideExpression, AreSupported, WideUnexpectedAt, WideDeepAt, WideStandsAt, WideParseReturns, WideReadReturns, IsNoWideExpression, FormsWide, IsWide, place_at, place_left, Refusal, ReadError, UnknownCharacter, InvalidTextLiteral, IntOutOfRange, UnexpectedToken, TooManyOpen, TextTooLong, Memory, WideReadError, open_limit}
use Rattle.std.proofs.lemmas.List.{append-nil, take_all}
use Rattle.wide_tokens.specs.Lexis.{WideTokensReturns}
use Rattle.wide_reader.specs.declared.refusal.Refusal.TheVariants as refusal
use Rattle.wide_reader.specs.declared.wide_error.WideReadError.TheVariants as errors
use Rattle.wide_reader.specs.Answers.{tested, unless_fault}
use Rattle.wide_reader.specs.Faults.{fault}
use Rattle.wide_reader.specs.declared.wide_error.MacroFault.{MacroFault}
use Rattle.wide_reader.specs.Place.{unsupported_in, first_error, wide_refused_at}
use Rattle.wide_reader.proofs.Steps.{words_length}
use Rattle.wide_reader.specs.Reading.{Fails}
use Rattle.wide_reader.proofs.Places.{MisfitAt, OpenedAt, misfit_at, deep_at, rest_at, none_at}
use Rattle.wide_reader.proofs.Unsupported.{supported, told_unsupported}
use Rattle.wide_reader.proofs.Theorems.{whole_sound, whole_unique, misfit_never, rest_never}
use Rattle.wide_reader.proofs.FirstWords.{first}

stands : (source : List ℕ) (tokens : List CodeToken) (left : ℕ) (P : ℕ → List WideWord → Type 0) → P (length tokens - left) (words source tokens)
    → WideStandsAt (length source) (map (token_view source) tokens) (place_left (length source) tokens left) P
stands source tokens left P p = (length tokens - left, (grind arith) ∙ ap (place_at (length source)) (sym (drop-map (token_view source) (length tokens - left) tokens)), p)

-- a misfit before which all may be supported or not
misfit_by : (source : List ℕ) (tokens : List CodeToken) (left : ℕ) (o : Option WideReadError) → unsupported_in (take (length tokens - left) tokens) ≡ o
    → MisfitAt (length tokens - left) (words source tokens) → IsNoWideExpression (words source tokens)
    → WideParseReturns (length source) (map (token_view source) tokens) (Err (first_error o (UnexpectedToken (place_left (length source) tokens left))))
misfit_by source tokens left None e m never = stands source tokens left WideUnexpectedAt (supported source tokens (length tokens - left) e, m.0, m.1, m.2, never)
misfit_by source tokens left (Some x) e m never = told_unsupported source tokens (length tokens - left) x m.0 m.1 e

pub told_misfit : (source : List ℕ) (tokens : List CodeToken) (left : ℕ) → MisfitAt (length tokens - left) (words source tokens) → IsNoWideExpression (words source tokens)
    → WideParseReturns (length source) (map (token_view source) tokens) (Err (wide_refused_at (length source) tokens (refusal.Misfit left)))
told_misfit source tokens left m never = misfit_by source tokens left (unsupported_in (take (length tokens - left) tokens)) refl m never

deep_by : (source : List ℕ) (tokens : List CodeToken) (left : ℕ) (o : Option WideReadError) → unsupported_in (take (length tokens - left) tokens) ≡ o
    → length tokens - left ≤ length (words source tokens) → OpenedAt (length tokens - left) (words source tokens)
    → WideParseReturns (length source) (map (token_view source) tokens) (Err (first_error o (TooManyOpen (place_left (length source) tokens left))))
deep_by source tokens left None e h m = stands source tokens left WideDeepAt (supported source tokens (length tokens - left) e, m.0, m.1, m.2, m.3, m.4, m.5)
deep_by source tokens left (Some x) e h m = told_unsupported source tokens (length tokens - left) x h m.3 e

same_count : (source : List ℕ) (tokens : List CodeToken) (left n : ℕ) → left ≡ n → length (words source tokens) - n ≡ length tokens - left
same_count source tokens left n e = omega (arith, e, words_length source tokens)

-- the reading is refused
pub told_fails : (source : List ℕ) (tokens : List CodeToken) (e : Refusal) → map (token_view source) tokens ≢ [] → Fails e (WideStepReads (Row Expression) open_limit (words source tokens))
    → WideParseReturns (length source) (map (token_view source) tokens) (Err (wide_refused_at (length source) tokens e))
told_fails source tokens (refusal.Misfit left) n g =
    told_misfit source tokens left (subst (λ (k : ℕ). MisfitAt k (words source tokens)) (same_count source tokens left (length g.0) g.1) (misfit_at (words source tokens) g.0 g.2))
    (λ room a d. misfit_never open_limit room (words source tokens) g.0 a g.2 d)
told_fails source tokens (refusal.Deep left) n g =
    deep_by source tokens left (unsupported_in (take (length tokens - left) tokens)) refl (omega (arith, words_length source tokens))
    (subst (λ (k : ℕ). OpenedAt k (words source tokens)) (same_count source tokens left (suc (length g.0)) g.1) (deep_at (words source tokens) g.0 g.2))
told_fails source tokens refusal.Memory n g = n

-- the reading leaves words
pub told_rest : (source : List ℕ) (tokens rest : List CodeToken) (us : List WideWord) (w : WideWord) (a : Wide) → WideStepReads (Row Expression) open_limit (words source tokens) (Got (One a) (words source rest))
    → words source rest ≡ w ∷ us → WideParseReturns (length source) (map (token_view source) tokens) (Err (wide_refused_at (length source) tokens (refusal.Misfit (length rest))))
told_rest source tokens rest us w a r e =
    let n : length rest ≡ suc (length us) = words_length source rest ∙ ap length e in
    let m = rest_at (words source tokens) us w a (subst (λ (x : List WideWord). WideStepReads (Row Expression) open_limit (words source tokens) (Got (One a) x)) e r) in
    told_misfit source tokens (length rest) (subst (λ (k : ℕ). MisfitAt k (words source tokens)) (same_count source tokens (length rest) (suc (length us)) n) m)
    (λ room b d. rest_never open_limit room (words source tokens) us w a b (subst (λ (x : List WideWord). WideStepReads (Row Expression) open_limit (words source tokens) (Got (One a) x)) e r) d)

-- there are no words
pub told_none : (source : List ℕ) (tokens : List CodeToken) → words source tokens ≡ []
    → WideParseReturns (length source) (map (token_view source) tokens) (Err (wide_refused_at (length source) tokens (refusal.Misfit (length tokens))))
told_none source tokens e =
    told_misfit source tokens (length tokens) (subst (λ (k : ℕ). MisfitAt k (words source tokens)) (same_count source tokens (length tokens) (length (words source tokens)) (words_length source tokens)) (none_at (words source tokens) e))
    (λ room a d. first (subst (λ (x : List WideWord). WideDerives Expression room x (One a) []) e d))

-- the whole text is read
read_whole : (ws rest : List WideWord) (a : Wide) → WideStepReads (Row Expression) open_limit ws (Got (One a) rest) → rest ≡ [] → IsWideExpression open_limit ws a
read_whole ws rest a r e = subst (λ (x : List WideWord). WideStepReads (Row Expression) open_limit ws (Got (One a) x) → IsWideExpression open_limit ws a) (sym e) (λ k. whole_sound open_limit ws [] a k) r

all_taken : (source : List ℕ) (tokens : List CodeToken) → take (length tokens) (words source tokens) ≡ words source tokens
all_taken source tokens = take_all (length tokens) (words source tokens) (omega (arith, words_length source tokens))

pub told_ok : (source : List ℕ) (tokens : List CodeToken) (rest : List WideWord) (e : CodeWide) → WideStepReads (Row Expression) open_limit (words source tokens) (Got (One (view e)) rest) → rest ≡ []
    → unsupported_in tokens ≡ None → WideParseReturns (length source) (map (token_view source) tokens) (Ok e)
told_ok source tokens rest e r n u =
    let t : take (length tokens) tokens ≡ tokens = take_all (length tokens) tokens (omega arith) in
    let s = supported source tokens (length tokens) (ap unsupported_in t ∙ u) in
    (subst AreSupported (all_taken source tokens) s, read_whole (words source tokens) rest (view e) r n)

pub told_foreign : (source : List ℕ) (tokens : List CodeToken) (rest : List WideWord) (a : Wide) (x : WideReadError) → WideStepReads (Row Expression) open_limit (words source tokens) (Got (One a) rest) → rest ≡ []
    → unsupported_in tokens ≡ Some x → WideParseReturns (length source) (map (token_view source) tokens) (Err x)
told_foreign source tokens rest a x r n u =
    let t : take (length tokens) tokens ≡ tokens = take_all (length tokens) tokens (omega arith) in
    let d = read_whole (words source tokens) rest a r n in
    let whole : words source tokens ≡ take (length tokens) (words source tokens) ++ [] = sym (append-nil (take (length tokens) (words source tokens)) ∙ all_taken source tokens) in
    told_unsupported source tokens (length tokens) x (omega (arith, words_length source tokens))
    ([], a, subst (λ (ws : List WideWord). WideDerives Expression open_limit ws (One a) []) whole d) (ap unsupported_in t ∙ u)

pub some_lexeme : (source : List ℕ) (tokens : List CodeToken) (w : WideWord) (us : List WideWord) → words source tokens ≡ w ∷ us → map (token_view source) tokens ≢ []
some_lexeme source tokens w us e n = let f : [] ≡ w ∷ us = sym (ap words_only n) ∙ e in cc

-- the result for the words of a text's tokens
pub told_text : (source : List ℕ) (tokens : List CodeToken) (x : WideReadError) → WideLexes source (Ok (map (token_view source) tokens))
    → WideParseReturns (length source) (map (token_view source) tokens) (Err x) → WideReadReturns source (Err x)
told_text source tokens (errors.Text (UnexpectedToken place)) l t = (map (token_view source) tokens, l, t)
told_text source tokens (errors.Text (TooManyOpen place)) l t = (map (token_view source) tokens, l, t)
told_text source tokens (errors.Text Memory) l t = some_taken source (map (token_view source) tokens) l t
told_text source tokens (errors.Text (UnknownCharacter place)) l t = absurd t
told_text source tokens (errors.Text (InvalidTextLiteral place)) l t = absurd t
told_text source tokens (errors.Text (IntOutOfRange place)) l t = absurd t
told_text source tokens (errors.Text (TextTooLong place)) l t = absurd t
told_text source tokens (errors.Bytes place) l t = (map (token_view source) tokens, l, t)
told_text source tokens (errors.Double place) l t = (map (token_view source) tokens, l, t)
told_text source tokens (errors.Macro f) l t = absurd t

-- a text without tokens
pub told_tokens : (source : List ℕ) (e : ReadError) → WideTokensReturns source (Err e) → WideReadReturns source (Err (errors.Text e))
told_tokens source (UnexpectedToken place) t = absurd t
told_tokens source (TooManyOpen place) t = absurd t
told_tokens source Memory t = t
told_tokens source (UnknownCharacter place) t = t
told_tokens source (InvalidTextLiteral place) t = t
told_tokens source (IntOutOfRange place) t = t
told_tokens source (TextTooLong place) t = t

-- what `whole` says of the text that it is given
whole_at : (source text : List ℕ) (tokens now : List CodeToken) (r : Result CodeWide WideReadError) → text ≡ source → now ≡ tokens
    → WideParseReturns (length text) (map (token_view text) now) r → WideParseReturns (length source) (map (token_view source) tokens) r
whole_at source text tokens now r e f t =
    subst (λ (ts : List CodeToken). WideParseReturns (length source) (map (token_view source) ts) r) f
    (subst (λ (xs : List ℕ). WideParseReturns (length xs) (map (token_view xs) now) r) e t)

pub told_error : (source text : List ℕ) (tokens now : List CodeToken) (x : WideReadError) → text ≡ source → now ≡ tokens
    → WideLexes source (Ok (map (token_view source) tokens)) → WideParseReturns (length text) (map (token_view text) now) (Err x)
    → WideReadReturns source (Err x)
told_error source text tokens now x e f l t = told_text source tokens x l (whole_at source text tokens now (Err x) e f t)

pub told_formed : (source text : List ℕ) (tokens now : List CodeToken) (e : CodeWide) → text ≡ source → now ≡ tokens
    → WideLexes source (Ok (map (token_view source) tokens)) → WideParseReturns (length text) (map (token_view text) now) (Ok e)
    → FormsWide source (view e)
told_formed source text tokens now a e f l t = (map (token_view source) tokens, l, whole_at source text tokens now (Ok a) e f t)

-- an expression that was read is tested for faults
faultless : (source : List ℕ) (e : CodeWide) (o : Option MacroFault) → fault (view e) ≡ o → FormsWide source (view e) → WideReadReturns source (unless_fault e o)
faultless source e None is f = (f, is)
faultless source e (Some x) is f = (view e, f, is)

pub told_tested : (source text : List ℕ) (tokens now : List CodeToken) (r : Result CodeWide WideReadError) → text ≡ source → now ≡ tokens
    → WideLexes source (Ok (map (token_view source) tokens)) → WideParseReturns (length text) (map (token_view text) now) r
    → WideReadReturns source (tested r)
told_tested source text tokens now (Ok a) e f l t = faultless source a (fault (view a)) refl (told_formed source text tokens now a e f l t)
told_tested source text tokens now (Err x) e f l t = told_error source text tokens now x e f l t

-- a text has one list of tokens
pub one_list : (source : List ℕ) (xs ys : List WideToken) → WideLexes source (Ok xs) → WideLexes source (Ok ys) → xs ≡ ys
one_list source xs ys l m = let e = one_end source (Ok xs) (Ok ys) l m in cc

pub one_formed : (source : List ℕ) (a b : Wide) → FormsWide source a → FormsWide source b → a ≡ b
one_formed source a b p q =
    let e = one_list source p.0 q.0 p.1 q.1 in
    whole_unique open_limit open_limit (words_only q.0) a b (subst (λ (ls : List WideToken). IsWideExpression open_limit (words_only ls) a) e p.2.1) q.2.1

pub one_wide : (source : List ℕ) (a b : Wide) → IsWide source a → IsWide source b → a ≡ b
one_wide source a b p q = one_formed source a b p.0 q.0

pub same_cause : {X : Type 0} (e f : ReadError) → ◌≡◌ {A = Result X ReadError} (Err e) (Err f) → e ≡ f
same_cause e f g = cc

pub no_error : {X P : Type 0} (x : X) (e : ReadError) → ◌≡◌ {A = Result X ReadError} (Ok x) (Err e) → P
no_error x e f = absurd cc
