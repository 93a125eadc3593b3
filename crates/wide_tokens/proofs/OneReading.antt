-- The outcome of a text is unique, and tokens within the limits are its tokens.
use Rattle.wide_tokens.proofs.Prelude.{◌≡◌, ℕ, ◌+◌, ◌<◌, ◌≤◌, List, [], ◌∷◌, ◌++◌, length, drop, refl, sym, ◌∙◌, ap, arith, Bool, true, Result, Ok, Err, subst, ◌⊎◌, ◌↔◌, WideToken, front, sign_may_follow, WideCuts, WideTokenBegins, WideTokens, WideIsTokens, WideLexes, lexeme, over, space, token, nothing, wrong_text, wide_int, too_many, too_long, read, ReadError, UnknownCharacter, InvalidTextLiteral, IntOutOfRange, TextTooLong, token_limit, text_limit}
use Rattle.std.proofs.Common.{append_assoc, append-nil, length-append}
use Rattle.wide_tokens.specs.Lexed as front
use Rattle.wide_tokens.specs.Lexis.WideTokens.{over as no_more, space as then_space, token as then_token}

-- this outcome within the limit, else the error for the 4,097th token
abbrev Within : List WideToken → ℕ → Result (List WideToken) ReadError → Type 0 → Type 0
Within so_far place r P = ((length so_far < token_limit) × P) ⊎ ((token_limit ≤ length so_far) × (r ≡ Err (TextTooLong place)))

-- the outcome of a text by its front
abbrev Case : List WideToken → Bool → ℕ → List ℕ → Result (List WideToken) ReadError → front.WideLexed → Type 0
Case so_far signed place rest r front.over = r ≡ Ok so_far
Case so_far signed place rest r (front.space n) = WideCuts signed so_far (place + n) (drop n rest) r
Case so_far signed place rest r (front.word n w) =
    Within so_far place r (WideCuts (sign_may_follow w) (so_far ++ (lexeme place n w ∷ [])) (place + n) (drop n rest) r)
Case so_far signed place rest r front.wrong_text = Within so_far place r (r ≡ Err (InvalidTextLiteral place))
Case so_far signed place rest r (front.wide_int n) = Within so_far place r (r ≡ Err (IntOutOfRange (place + n)))
Case so_far signed place rest r front.nothing = r ≡ Err (UnknownCharacter place)

case_of : {so_far : List WideToken} {signed : Bool} {place : ℕ} {rest : List ℕ} {r : Result (List WideToken) ReadError} → WideCuts signed so_far place rest r
    → Case so_far signed place rest r (front signed rest)
case_of h0 = grind arith

inside : (so_far : List WideToken) (place : ℕ) (r : Result (List WideToken) ReadError) (P : Type 0) → length so_far < token_limit → Within so_far place r P → P
inside so_far place r P h0 h1 = grind arith

only_full : (so_far : List WideToken) (signed : Bool) (place : ℕ) (rest : List ℕ) (r : Result (List WideToken) ReadError) (f : front.WideLexed) → WideTokenBegins f
    → token_limit ≤ length so_far → Case so_far signed place rest r f → r ≡ Err (TextTooLong place)
only_full so_far signed place rest r f h0 h1 h2 = grind arith

at_front : {so_far : List WideToken} {signed : Bool} {place : ℕ} {rest : List ℕ} {r : Result (List WideToken) ReadError} (found : front.WideLexed)
    → front signed rest ≡ found → WideCuts signed so_far place rest r → Case so_far signed place rest r found
at_front {so_far} {signed} {place} {rest} {r} found f c = subst (Case so_far signed place rest r) f (case_of c)

one_cut : {so_far : List WideToken} {signed : Bool} {place : ℕ} {rest : List ℕ} {r s : Result (List WideToken) ReadError} → WideCuts signed so_far place rest r
    → WideCuts signed so_far place rest s → r ≡ s
one_cut (over f) c = sym (at_front front.over f c)
one_cut (space n f d) c = one_cut d (at_front (front.space n) f c)
one_cut {so_far} {signed} {place} {rest} {r} {s} (token n w f l d) c = one_cut d (inside so_far place s _ l (at_front (front.word n w) f c))
one_cut (nothing f) c = sym (at_front front.nothing f c)
one_cut {so_far} {signed} {place} {rest} {r} {s} (wrong_text f l) c = sym (inside so_far place s _ l (at_front front.wrong_text f c))
one_cut {so_far} {signed} {place} {rest} {r} {s} (wide_int n f l) c = sym (inside so_far place s _ l (at_front (front.wide_int n) f c))
one_cut {so_far} {signed} {place} {rest} {r} {s} (too_many b h) c = sym (only_full so_far signed place rest s (front signed rest) b h (case_of c))

pub one_end : (source : List ℕ) (r s : Result (List WideToken) ReadError) → WideLexes source r → WideLexes source s → r ≡ s
one_end source r s h h2 = grind (arith, one_cut)

-- ---- the tokens only

abbrev Next : Bool → ℕ → List ℕ → List WideToken → front.WideLexed → Type 0
Next signed place rest ls front.over = ls ≡ []
Next signed place rest ls (front.space n) = WideTokens signed (place + n) (drop n rest) ls
Next signed place rest ls (front.word n w) =
    (more : List WideToken) × (ls ≡ lexeme place n w ∷ more) × WideTokens (sign_may_follow w) (place + n) (drop n rest) more
Next signed place rest ls _ = ⊥

next_at : {signed : Bool} {place : ℕ} {rest : List ℕ} {ls : List WideToken} (found : front.WideLexed) → front signed rest ≡ found → WideTokens signed place rest ls → Next signed place rest ls found
next_at {signed} {place} {rest} {ls} found f t = subst (Next signed place rest ls) f (grind arith)

one_list : {signed : Bool} {place : ℕ} {rest : List ℕ} {xs ys : List WideToken} → WideTokens signed place rest xs → WideTokens signed place rest ys → xs ≡ ys
one_list (no_more f) t = sym (next_at front.over f t)
one_list (then_space n f d) t = one_list d (next_at (front.space n) f t)
one_list {signed} {place} {rest} {xs} {ys} (then_token n w f d) t =
    let e = next_at (front.word n w) f t in
    ap (λ (more : List WideToken). lexeme place n w ∷ more) (one_list d e.2) ∙ sym e.1

pub one_reading : (source : List ℕ) (xs ys : List WideToken) → WideIsTokens source xs → WideIsTokens source ys → xs ≡ ys
one_reading source xs ys a b = one_list a b

-- what was read to the end was read as tokens
abbrev Reaches : List WideToken → Bool → ℕ → List ℕ → List WideToken → Type 0
Reaches so_far signed place rest out =
    (more : List WideToken) × (out ≡ so_far ++ more) × (length out ≤ token_limit) × WideTokens signed place rest more

reach_token : (so_far : List WideToken) (x : WideToken) (more out : List WideToken) → out ≡ (so_far ++ (x ∷ [])) ++ more → out ≡ so_far ++ (x ∷ more)
reach_token so_far x more out e = e ∙ append_assoc so_far (x ∷ []) more

ok_same : (xs ys : List WideToken) → ◌≡◌ {A = Result (List WideToken) ReadError} (Ok xs) (Ok ys) → xs ≡ ys
ok_same xs ys e = cc

tokens_of : {so_far : List WideToken} {signed : Bool} {place : ℕ} {rest : List ℕ} {r : Result (List WideToken) ReadError} → WideCuts signed so_far place rest r
    → (out : List WideToken) → r ≡ Ok out → length so_far ≤ token_limit → Reaches so_far signed place rest out
tokens_of {so_far} (over f) out e h = ([], sym (ok_same so_far out e) ∙ sym (append-nil so_far), omega (arith, h, ap length (ok_same so_far out e)), no_more f)
tokens_of (space n f d) out e h = let t = tokens_of d out e h in (t.0, t.1, t.2, then_space n f t.3)
tokens_of {so_far} {signed} {place} (token n w f l d) out e h =
    let t = tokens_of d out e (omega (arith, l, length-append so_far (lexeme place n w ∷ []))) in
    (lexeme place n w ∷ t.0, reach_token so_far (lexeme place n w) t.0 out t.1, t.2, then_token n w f t.3)
tokens_of (nothing f) out e h = cc
tokens_of (wrong_text f l) out e h = cc
tokens_of (wide_int n f l) out e h = cc
tokens_of (too_many b g) out e h = cc

cuts_of : {signed : Bool} {place : ℕ} {rest : List ℕ} {more : List WideToken} → WideTokens signed place rest more → (so_far : List WideToken)
    → length so_far + length more ≤ token_limit → WideCuts signed so_far place rest (Ok (so_far ++ more))
cuts_of {signed} {place} {rest} (no_more f) so_far h = subst (λ (ls : List WideToken). WideCuts signed so_far place rest (Ok ls)) (sym (append-nil so_far)) (over f)
cuts_of (then_space n f d) so_far h = space n f (cuts_of d so_far h)
cuts_of {signed} {place} {rest} (then_token {more = more} n w f d) so_far h =
    subst (λ (ls : List WideToken). WideCuts signed so_far place rest (Ok ls)) (append_assoc so_far (lexeme place n w ∷ []) more) (token n w f (omega (arith, h)) (cuts_of d (so_far ++ (lexeme place n w ∷ [])) (omega (arith, h, length-append so_far (lexeme place n w ∷ [])))))

read_so : (source : List ℕ) (r : Result (List WideToken) ReadError) (out : List WideToken) → WideLexes source r → r ≡ Ok out → WideIsTokens source out × (length source ≤ text_limit) × (length out ≤ token_limit)
read_so source r out (too_long h) e = cc
read_so source r out (read h c) e =
    let t = tokens_of c out e (omega arith) in (subst (WideTokens true 0 source) (sym t.1) t.3, h, t.2)

pub ends_in_tokens : (source : List ℕ) (out : List WideToken) → WideLexes source (Ok out) ↔ (WideIsTokens source out × (length source ≤ text_limit) × (length out ≤ token_limit))
ends_in_tokens source out = (λ l. read_so source (Ok out) out l refl, λ t. read t.1 (cuts_of t.0 [] (omega (arith, t.2))))
