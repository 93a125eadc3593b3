-- Reading a text that has tokens allocates.
use Rattle.wide_tokens.proofs.Prelude.{arith, ◌≡◌, ◌≢◌, ℕ, ◌≤◌, List, [], length, drop, true, Bool, Result, Ok, Err, ◌⊎◌, IfOk, WideToken, front, WideCuts, WideLexes, WideTakesMemory, for_word, behind_space, ReadError, text_limit}
use mathlib.Core.Logic.{inl, inr}
use Rattle.wide_tokens.specs.Lexed as front
use Rattle.wide_tokens.specs.Lexis as lexis

-- the text from here on has no token, or reading it allocates
abbrev Taken : Bool → List ℕ → Result (List WideToken) ReadError → Type 0
Taken signed rest r = IfOk r (λ xs. (xs ≡ []) ⊎ WideTakesMemory signed rest)

takes : (signed : Bool) (rest : List ℕ) (r : Result (List WideToken) ReadError) → WideTakesMemory signed rest → Taken signed rest r
takes signed rest r h0 = grind arith

behind : (signed : Bool) (n : ℕ) (rest : List ℕ) (r : Result (List WideToken) ReadError) → front signed rest ≡ front.space n → Taken signed (drop n rest) r → Taken signed rest r
behind signed n rest (Ok xs) f (inl e) = inl e
behind signed n rest (Ok xs) f (inr t) = inr (behind_space n f t)
behind signed n rest (Err e) f t = tt

cut_takes : {signed : Bool} {so_far : List WideToken} {place : ℕ} {rest : List ℕ} {r : Result (List WideToken) ReadError} → WideCuts signed so_far place rest r → so_far ≡ [] → Taken signed rest r
cut_takes (lexis.WideCuts.over f) e = inl e
cut_takes (lexis.WideCuts.space {signed = signed} {rest = rest} {r = r} n f d) e = behind signed n rest r f (cut_takes d e)
cut_takes (lexis.WideCuts.token {signed = signed} {rest = rest} {r = r} n w f l d) e = takes signed rest r (for_word n w f)
cut_takes _ e = tt

-- the text has no token, or it is short enough and reading it allocates
abbrev Found : List ℕ → Result (List WideToken) ReadError → Type 0
Found source r = IfOk r (λ xs. (xs ≡ []) ⊎ ((length source ≤ text_limit) × WideTakesMemory true source))

other : {P : Type 0} (xs : List WideToken) → xs ≢ [] → (xs ≡ []) ⊎ P → P
other xs h0 h1 = grind arith

pub some_taken : (source : List ℕ) (lexemes : List WideToken) → WideLexes source (Ok lexemes) → lexemes ≢ [] → (length source ≤ text_limit) × WideTakesMemory true source
some_taken source lexemes d n = other lexemes n (grind (arith, cut_takes))
