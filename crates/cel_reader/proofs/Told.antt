-- Results for whole texts, from the reader's runs.
use Rattle.cel_reader.proofs.Prelude.{◌≡◌, ◌≢◌, ℕ, List, [], ◌∷◌, map, Ok, Err, Result, refl, sym, ap, subst, MatchResult, Word, Token, token_view, Lexes, CodeToken, ReadError, UnknownCharacter, InvalidTextLiteral, IntOutOfRange, UnexpectedToken, TooManyOpen, TextTooLong, Memory, one_end, some_taken, Tree, view, words_only, words, Expression, One, Derives, Got, Row, StepReads, IsExpression, IsNoExpression, ReadReturns, ParseReturns, Expr, refused_at, Refusal, ErrorIsAt, ParseErrorIsAt, length, open_limit}
use Rattle.cel_tokens.specs.Lexis as tokens
use Rattle.cel_reader.proofs.FirstWords.{first}
use Rattle.cel_reader.specs.declared.refusal.Refusal.TheVariants as refusal
use Rattle.cel_reader.specs.Reading.{PhraseFails}
use Rattle.cel_reader.proofs.Theorems.{whole_sound, whole_unique, misfit_never, rest_never, deep_never, deep_openings}

-- the whole text is read
pub told_ok : (ws rest : List Word) (a : Tree) → StepReads (Row Expression) open_limit ws (Got (One a) rest) → rest ≡ [] → IsExpression open_limit ws a
told_ok ws rest a r e = subst (λ (x : List Word). StepReads (Row Expression) open_limit ws (Got (One a) x) → IsExpression open_limit ws a) (sym e) (λ k. whole_sound open_limit ws [] a k) r

-- words are left
pub told_rest : (ws rest us : List Word) (w : Word) (a : Tree) → StepReads (Row Expression) open_limit ws (Got (One a) rest) → rest ≡ w ∷ us → IsNoExpression ws
told_rest ws rest us w a r e = λ room b d. rest_never open_limit room ws us w a b (subst (λ (x : List Word). StepReads (Row Expression) open_limit ws (Got (One a) x)) e r) d

-- the reading is refused
pub told_fails : (len : ℕ) (tokens : List CodeToken) (ws : List Word) (e : Refusal) → ws ≢ [] → PhraseFails e (StepReads (Row Expression) open_limit ws) → ParseReturns ws (Err (refused_at len tokens e))
told_fails len tokens ws (refusal.Misfit left) n g = λ room a d. misfit_never open_limit room ws g.0 a g.2 d
told_fails len tokens ws (refusal.Deep left) n g = (λ a d. deep_never open_limit ws g.0 a g.2 d, deep_openings open_limit ws g.0 g.2)
told_fails len tokens ws refusal.Memory n g = n

-- a text without words is not an expression
pub told_none : (ws : List Word) → ws ≡ [] → IsNoExpression ws
told_none ws e = λ room a d. first (subst (λ (x : List Word). Derives Expression room x (One a) []) e d)

-- the result for the words of a text's tokens
pub told_text : (source : List ℕ) (tokens : List CodeToken) (r : Result Expr ReadError) → Lexes source (Ok (map (token_view source) tokens)) → ParseReturns (words source tokens) r → ReadReturns source r
told_text source tokens (Ok e) l t = (map (token_view source) tokens, l, t)
told_text source tokens (Err (UnexpectedToken place)) l t = (map (token_view source) tokens, l, t)
told_text source tokens (Err (TooManyOpen place)) l t = (map (token_view source) tokens, l, t)
told_text source tokens (Err Memory) l t = some_taken source (map (token_view source) tokens) l (λ e. t (ap (map (λ (x : Token). x.word)) e))
told_text source tokens _ l t = absurd t

pub placed_text : (source : List ℕ) (tokens : List CodeToken) (r : Result Expr ReadError) → Lexes source (Ok (map (token_view source) tokens))
    → ParseErrorIsAt (length source) (map (token_view source) tokens) r → ErrorIsAt source r
placed_text source tokens (Ok e) l t = tt
placed_text source tokens (Err (UnexpectedToken place)) l t = (map (token_view source) tokens, l, t)
placed_text source tokens (Err (TooManyOpen place)) l t = (map (token_view source) tokens, l, t)
placed_text source tokens (Err Memory) l t = tt
placed_text source tokens _ l t = absurd t

pub one_list : (source : List ℕ) (xs ys : List Token) → Lexes source (Ok xs) → Lexes source (Ok ys) → xs ≡ ys
one_list source xs ys x y = let same = one_end source (Ok xs) (Ok ys) x y in cc

pub not_refused : {P : Type 0} (source : List ℕ) (xs : List Token) (e : ReadError) → Lexes source (Ok xs) → Lexes source (Err e) → P
not_refused source xs e x y = let same = one_end source (Ok xs) (Err e) x y in absurd cc

moved : (xs ys : List Token) (a : Tree) → xs ≡ ys → IsExpression open_limit (words_only xs) a → IsExpression open_limit (words_only ys) a
moved xs ys a e d = subst (λ (zs : List Token). IsExpression open_limit (words_only zs) a) e d

-- if the tokens are an expression, the result is that expression or an allocation failure
pub only_of : (source : List ℕ) (r : Result Expr ReadError) → ReadReturns source r → (lexemes : List Token) (a : Tree) → Lexes source (Ok lexemes)
    → IsExpression open_limit (words_only lexemes) a → MatchResult r (λ e. view e ≡ a) (λ e. e ≡ Memory)
only_of source (Ok e) t xs a x d = whole_unique open_limit open_limit (words_only xs) (view e) a (moved t.0 xs (view e) (one_list source t.0 xs t.1 x) t.2) d
only_of source (Err (UnknownCharacter place)) t xs a x d = not_refused source xs (UnknownCharacter place) x t
only_of source (Err (InvalidTextLiteral place)) t xs a x d = not_refused source xs (InvalidTextLiteral place) x t
only_of source (Err (IntOutOfRange place)) t xs a x d = not_refused source xs (IntOutOfRange place) x t
only_of source (Err (UnexpectedToken place)) t xs a x d = absurd (t.2 open_limit a (moved xs t.0 a (one_list source xs t.0 x t.1) d))
only_of source (Err (TooManyOpen place)) t xs a x d = absurd (t.2.0 a (moved xs t.0 a (one_list source xs t.0 x t.1) d))
only_of source (Err (TextTooLong place)) t xs a x d = not_refused source xs (TextTooLong place) x t
only_of source (Err Memory) t xs a x d = refl

-- an error of the tokens is passed on
pub tokens_fail : (source : List ℕ) (e : ReadError) → tokens.TokensReturns source (Err e) → ReadReturns source (Err e)
tokens_fail source (UnexpectedToken place) t = absurd t
tokens_fail source (TooManyOpen place) t = absurd t
tokens_fail source _ t = t

pub tokens_placed : (source : List ℕ) (e : ReadError) → tokens.TokensReturns source (Err e) → ErrorIsAt source (Err e)
tokens_placed source (UnexpectedToken place) t = absurd t
tokens_placed source (TooManyOpen place) t = absurd t
tokens_placed source Memory t = tt
tokens_placed source _ t = t

pub told_at : (source bytes : List ℕ) (tokens items : List CodeToken) (r : Result Expr ReadError) → bytes ≡ source → items ≡ tokens → ParseReturns (words bytes items) r → ParseReturns (words source tokens) r
told_at source bytes tokens items r e f t = subst (λ (xs : List ℕ). ParseReturns (words xs tokens) r) e (subst (λ (ts : List CodeToken). ParseReturns (words bytes ts) r) f t)

-- a list with a word is not empty
pub some_word : (ws us : List Word) (w : Word) → ws ≡ w ∷ us → ws ≢ []
some_word ws us w e n = cc

-- an error that is this one, and a result that is not an error
abbrev failed : (X : Type 0) → ReadError → Result X ReadError
failed X e = Err e

pub same_error : {X : Type 0} (e f : ReadError) → failed X e ≡ failed X f → e ≡ f
same_error e f k = cc

pub no_error : {X P : Type 0} (x : X) (e : ReadError) → Ok x ≡ failed X e → P
no_error x e k = absurd cc
