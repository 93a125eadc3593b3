-- Every int among a text's tokens fits 64 bits.
use Rattle.cel_tokens.proofs.Prelude.{◌≡◌, ℕ, List, drop, Bool, true, false, Option, arith, subst, if◌then◌else◌, ◌&&◌, All, IfOk, Result, Ok, All-push, Word, Token, is_letter, is_digit_of, Lexed, front, front_int, front_plain, front_word, before_digits, signed_int_begins, Lexes, Cuts, lexeme, IntFits, ReadError}
use Rattle.cel_tokens.specs.Lexed as front
use Rattle.cel_tokens.specs.Lexis as lexis

-- the word at the front fits
abbrev Fits : Lexed → Type 0
Fits (front.word n w) = IntFits w
Fits _ = Unit {0}

either : (b : Bool) (x y : Lexed) → Fits x → Fits y → Fits (if b then x else y)
either b x y h0 h1 = grind arith

ints_fit : (minus : Bool) (before : ℕ) (digits : List ℕ) → Fits (front_int minus before digits)
ints_fit minus before digits = grind arith

plain_fits : (signed : Bool) (b : ℕ) (bytes : List ℕ) → Fits (front_plain signed b bytes)
plain_fits signed b bytes =
    either (is_letter b) _ _ tt (either (is_digit_of 10 b) _ _ (ints_fit false 0 bytes) (either (signed && signed_int_begins b bytes) _ _ (ints_fit true (before_digits bytes) (drop (before_digits bytes) bytes)) (grind arith)))

word_fits : (signed : Bool) (b : ℕ) (bytes : List ℕ) (o : Option (Bool × ℕ)) → Fits (front_word signed b bytes o)
word_fits signed b bytes o = grind (arith, plain_fits)

front_fits : (signed : Bool) (bytes : List ℕ) → Fits (front signed bytes)
unfolding front
front_fits signed bytes = grind (arith, either, word_fits)

pub found_fits : (signed : Bool) (bytes : List ℕ) (n : ℕ) (w : Word) → front signed bytes ≡ front.word n w → IntFits w
found_fits signed bytes n w e = subst Fits e (front_fits signed bytes)

abbrev pub AllFit : List Token → Type 0
AllFit lexemes = All (λ l. IntFits l.word) lexemes

cut_fit : {signed : Bool} {so_far : List Token} {place : ℕ} {rest : List ℕ} {r : Result (List Token) ReadError} → Cuts signed so_far place rest r → AllFit so_far → IfOk r AllFit
cut_fit (lexis.Cuts.over e) f = f
cut_fit (lexis.Cuts.space n e d) f = cut_fit d f
cut_fit (lexis.Cuts.token {signed = signed} {so_far = so_far} {place = place} {rest = rest} n w e l d) f = cut_fit d (All-push (λ (l : Token). IntFits l.word) so_far (lexeme place n w) f (found_fits signed rest n w e))
cut_fit _ f = tt

pub lexemes_fit : (source : List ℕ) (lexemes : List Token) → Lexes source (Ok lexemes) → AllFit lexemes
lexemes_fit source lexemes d = grind (arith, cut_fit)
