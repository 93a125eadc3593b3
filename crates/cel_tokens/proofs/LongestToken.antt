-- No longer token is at the front.
use Rattle.cel_tokens.proofs.Prelude.{◌≡◌, ℕ, suc, ◌+◌, ◌<◌, ◌≤◌, List, [], ◌∷◌, ◌++◌, length, take, drop, refl, sym, ◌∙◌, ap, subst, arith, Bool, true, false, Option, Some, None, ◌⊎◌, ◌==◌, ℤ, nat_tests, length-append, length-take-le, append_assoc, take-append-drop, take-append-le, drop-append_seam, Mark, Word, text, is_letter, is_name_byte, is_digit_of, is_blank, mark_at, mark_of, of_two, two_bytes, opening, opening_len, is_quote, is_raw_prefix, LiteralMeans, int_at, int_of, front, int_front, front_mark, before_digits, IsName, Takes, Skips, IsLineOver, none, blank, comment, Spells, IsInt, FollowsSign, decimal, hex, IsToken, HasToken, IsLongestToken, a_name, an_int, a_signed_int, a_mark, a_text, a_raw_text}
use Rattle.cel_tokens.specs.Lexed as front
use Rattle.cel_tokens.proofs.Runs.{run_on}
use Rattle.cel_tokens.proofs.NoLonger.{begins_here, no_text, int_len, no_longer_name, no_longer_int, no_longer_hex}
use Rattle.cel_tokens.proofs.NegatedInts.{int_is, no_longer, int_digit, sign_front}
use Rattle.cel_tokens.proofs.SaidPieces.{says_its_pieces}
use Rattle.cel_tokens.proofs.OwnBytes.{says_alike}
use Rattle.cel_tokens.proofs.Fronts.{front_nil}
use Rattle.cel_tokens.proofs.FrontCases as case
use Rattle.cel_tokens.proofs.FrontCases.{Found}

-- a finding that covers at least n of the bytes
abbrev AtLeast : List ℕ → ℕ → front.Lexed → Type 0
AtLeast bytes k (front.space n) = Unit {0}
AtLeast bytes k (front.word n w) = k ≤ n
AtLeast bytes k front.wrong_text = Unit {0}
AtLeast bytes k (front.wide_int before) = k ≤ before + (int_at (drop before bytes)).0
AtLeast bytes k _ = ⊥

int_takes : (bytes : List ℕ) (k before : ℕ) (o : Option ℤ) → k ≤ before + (int_at (drop before bytes)).0
    → AtLeast bytes k (int_front before (int_at (drop before bytes)).0 o)
int_takes bytes k before o h0 = grind arith

name_byte : (b : ℕ) → is_letter b ≡ true → is_name_byte b ≡ true
name_byte b l = rw l refl

-- a finding covers at least one byte
takes_one : (signed : Bool) (b : ℕ) (bs : List ℕ) (x : front.Lexed) → Found signed b bs x
    → (is_letter b ≡ false → AtLeast (b ∷ bs) 1 (front_mark (mark_at (b ∷ bs)))) → AtLeast (b ∷ bs) 1 x
takes_one signed b bs x (case.a_gap n l q) h = tt
takes_one signed b bs x (case.a_text raw quote o) h = grind arith
takes_one signed b bs x (case.a_name o l) h = let r = run_on is_name_byte b bs (name_byte b l) in omega (arith, r)
takes_one signed b bs x (case.an_int o d) h = let l = int_len b [] bs d tt in int_takes (b ∷ bs) 1 0 (int_of false (int_at (b ∷ bs)).1) (omega (arith, l))
takes_one signed b bs x (case.a_signed_int o p q d) h = int_takes (b ∷ bs) 1 (before_digits (b ∷ bs)) _ (omega arith)
takes_one signed b bs x (case.a_mark o l) h = h l

abbrev TakesAll : Bool → List ℕ → List ℕ → Type 0
TakesAll signed bytes rest = AtLeast (bytes ++ rest) (length bytes) (front signed (bytes ++ rest))

taken : (signed : Bool) (first rest : List ℕ) → Takes signed first rest → TakesAll signed first rest
taken signed first rest t = subst (AtLeast (first ++ rest) (length first)) (sym t.2) t.3

-- ---- names

no_raw_text : (b c : ℕ) (bs : List ℕ) → is_quote b ≡ false → is_quote c ≡ false → opening (b ∷ c ∷ bs) ≡ None
no_raw_text b c bs h0 h1 = grind arith

pub name_byte_is_no_quote : (b : ℕ) → is_name_byte b ≡ true → is_quote b ≡ false
name_byte_is_no_quote b h = grind (arith, nat_tests)

name_takes : (signed : Bool) (bytes rest : List ℕ) → IsName bytes → TakesAll signed bytes rest
name_takes signed [] rest a = absurd a
name_takes signed (b ∷ []) rest a = takes_one signed b rest (front signed (b ∷ rest)) (case.found signed b rest) (λ l. let p = a.0 in absurd cc)
name_takes signed (b ∷ c ∷ bs) rest a =
    taken signed (b ∷ c ∷ bs) rest
    (no_longer_name signed (b ∷ c ∷ bs) rest a (no_raw_text b c (bs ++ rest) (name_byte_is_no_quote b (name_byte b a.0)) (name_byte_is_no_quote c a.1.0)))

-- ---- ints

either : (signed : Bool) (first rest : List ℕ) → length first ≤ (int_at (first ++ rest)).0
    → (front signed (first ++ rest) ≡ front.wide_int 0) ⊎ Takes signed first rest → TakesAll signed first rest
either signed first rest h0 h1 = grind arith

int_takes_all : (signed : Bool) {bytes : List ℕ} {value : ℕ} → Spells bytes value → (rest : List ℕ) → TakesAll signed bytes rest
int_takes_all signed (decimal ds a) rest = either signed ds rest (no_longer (decimal ds a) rest) (no_longer_int signed ds rest a)
int_takes_all signed (hex d ds a) rest = either signed (48 ∷ 120 ∷ d ∷ ds) rest (no_longer (hex d ds a) rest) (no_longer_hex signed d ds rest a)

-- ---- ints with a sign

-- the bytes of a gap
pub skipped : {bytes rest : List ℕ} → Skips bytes rest → (gap : List ℕ) × (bytes ≡ gap ++ rest)
skipped none = ([], refl)
skipped (blank {b = b} h s) = let g = skipped s in (b ∷ g.0, ap (λ (xs : List ℕ). b ∷ xs) g.1)
skipped (comment inside after {rest} a h s) =
    let g = skipped s in
    (47 ∷ 47 ∷ (inside ++ g.0), ap (λ (xs : List ℕ). 47 ∷ 47 ∷ xs) (ap (λ (xs : List ℕ). inside ++ xs) g.1 ∙ sym (append_assoc inside g.0 rest)))

pub some_behind : {bytes rest : List ℕ} → Skips bytes rest → 0 < length rest → 0 < length bytes
some_behind {bytes} {rest} s h = let g = skipped s in omega (arith, h, ap length g.1, length-append g.0 rest)

line_grown : (xs more : List ℕ) → 0 < length xs → IsLineOver xs → IsLineOver (xs ++ more)
line_grown xs more h0 h1 = grind arith

grown : {bytes rest : List ℕ} → Skips bytes rest → (more : List ℕ) → 0 < length rest → Skips (bytes ++ more) (rest ++ more)
grown none more l = none
grown (blank h s) more l = blank h (grown s more l)
grown (comment inside after {rest} a h s) more l =
    subst (λ (xs : List ℕ). Skips (47 ∷ 47 ∷ xs) (rest ++ more)) (sym (append_assoc inside after more))
    (comment inside (after ++ more) a (line_grown after more (some_behind s l) h) (grown s more l))

pub some_digits : {digits : List ℕ} {value : ℕ} → Spells digits value → 0 < length digits
some_digits h0 = grind arith

signed_takes : {bytes digits : List ℕ} {value : ℕ} → Skips bytes digits → Spells digits value → (rest : List ℕ) → TakesAll true (45 ∷ bytes) rest
signed_takes {bytes} {digits} s p rest =
    let g = skipped s in
    let e : bytes ++ rest ≡ g.0 ++ (digits ++ rest) = ap (λ (xs : List ℕ). xs ++ rest) g.1 ∙ append_assoc g.0 digits rest in
    let d : drop (length g.0) (bytes ++ rest) ≡ digits ++ rest = ap (drop (length g.0)) e ∙ drop-append_seam g.0 (digits ++ rest) in
    let n = (int_at (digits ++ rest)).0 in
    let v = (int_at (digits ++ rest)).1 in
    let f : FollowsSign (bytes ++ rest) (length g.0) n v = (
      omega (arith, ap length e, length-append g.0 (digits ++ rest)),
      rw d (grown s rest (some_digits p)),
      rw d (int_is (digits ++ rest)
          (grind arith)),
    ) in
    let k = no_longer p rest in
    let q : length g.0 + 1 ≡ suc (length g.0) = omega arith in
    let m : drop (length g.0 + 1) (45 ∷ (bytes ++ rest)) ≡ digits ++ rest = ap (λ j. drop j (45 ∷ (bytes ++ rest))) q ∙ d in
    subst (AtLeast (45 ∷ (bytes ++ rest)) (suc (length bytes)))
    (sym (sign_front (bytes ++ rest) (length g.0) n v f ∙ ap (λ xs. int_front (length g.0 + 1) (int_at xs).0 (int_of true v)) (sym m)))
    (int_takes (45 ∷ (bytes ++ rest)) (suc (length bytes)) (length g.0 + 1) (int_of true v)
    (omega (arith, k, ap (λ xs. (int_at xs).0) m, ap length g.1, length-append g.0 digits)))

-- ---- marks

plain_front : (signed : Bool) (a : ℕ) (bs : List ℕ) → is_blank a ≡ false → (a == 47) ≡ false → is_quote a ≡ false → is_raw_prefix a ≡ false
    → is_letter a ≡ false → is_digit_of 10 a ≡ false
    → (a == 45) ≡ false → front signed (a ∷ bs) ≡ front_mark (mark_at (a ∷ bs))
unfolding front
plain_front true a bs k s q r l d m = rw (begins_here a bs (k, s), no_text a bs q r, l, d, m) refl
plain_front false a bs k s q r l d m = rw (begins_here a bs (k, s), no_text a bs q r, l, d) refl

-- a byte that begins a mark of two bytes
two_begin : (a b : ℕ) (m : Mark) → two_bytes a b ≡ Some m → (signed : Bool) (bs : List ℕ) → front signed (a ∷ bs) ≡ front_mark (mark_at (a ∷ bs))
two_begin a b m e signed bs =
    plain_front signed a bs (grind (arith, nat_tests)) (grind (arith, nat_tests)) (grind (arith, nat_tests)) (grind (arith, nat_tests))
    (grind (arith, nat_tests)) (grind (arith, nat_tests)) (grind (arith, nat_tests))

of_two_takes : (bytes : List ℕ) (o : Option Mark) (m : Mark) → AtLeast bytes 1 (front_mark (of_two o (Some m)))
of_two_takes bytes o m = grind arith

mark_takes : (signed : Bool) (bytes rest : List ℕ) (m : Mark) → mark_of bytes ≡ Some m → TakesAll signed bytes rest
mark_takes signed (a ∷ []) [] m e = takes_one signed a [] (front signed (a ∷ [])) (case.found signed a []) (λ l. rw e (omega arith))
mark_takes signed (a ∷ []) (b ∷ bs) m e =
    takes_one signed a (b ∷ bs) (front signed (a ∷ b ∷ bs)) (case.found signed a (b ∷ bs)) (λ l. rw e (of_two_takes (a ∷ b ∷ bs) (two_bytes a b) m))
mark_takes signed (a ∷ b ∷ []) rest m e = rw (two_begin a b m e signed (b ∷ rest), e) (omega arith)
mark_takes signed _ rest m e = absurd cc

-- ---- text literals

quote_is_plain : (b : ℕ) → is_quote b ≡ true → (is_blank b ≡ false) × ((b == 47) ≡ false)
quote_is_plain b q = (grind (arith, nat_tests), grind (arith, nat_tests))

prefix_is_plain : (b : ℕ) → is_raw_prefix b ≡ true → (is_blank b ≡ false) × ((b == 47) ≡ false) × (is_quote b ≡ false)
prefix_is_plain b r = (grind (arith, nat_tests), grind (arith, nat_tests), grind (arith, nat_tests))

text_front : (signed raw : Bool) (quote b n : ℕ) (bs said : List ℕ) → is_blank b ≡ false → (b == 47) ≡ false → opening (b ∷ bs) ≡ Some (raw, quote)
    → LiteralMeans raw quote (drop (opening_len raw) (b ∷ bs)) n said → front signed (b ∷ bs) ≡ front.word (opening_len raw + n) (text said)
unfolding front
text_front signed raw quote b n bs said k s o p = rw (begins_here b bs (k, s), o, (says_its_pieces raw quote (drop (opening_len raw) (b ∷ bs)) n said).1 p) refl

more_says : {raw : Bool} {quote : ℕ} {bytes said : List ℕ} → LiteralMeans raw quote bytes (length bytes) said → (rest : List ℕ)
    → LiteralMeans raw quote (bytes ++ rest) (length bytes) said
more_says {raw} {quote} {bytes} s rest = grind (arith, says_alike, length-append, take-append-le)

pub raw_quoted : (prefix quote : ℕ) (bs : List ℕ) → is_raw_prefix prefix ≡ true → is_quote quote ≡ true → opening (prefix ∷ quote ∷ bs) ≡ Some (true, quote)
raw_quoted prefix quote bs r q = let p = prefix_is_plain prefix r in rw (p.2, r, q) refl

-- a literal at the front is found
pub text_found : {signed : Bool} (bytes said : List ℕ) → IsToken signed bytes (text said) → (rest : List ℕ)
    → front signed (bytes ++ rest) ≡ front.word (length bytes) (text said)
text_found {signed} bytes said (a_text {quote = quote} {bytes = body} q s) rest =
    let p = quote_is_plain quote q in
    let l : 1 + length body ≡ suc (length body) = omega arith in
    text_front signed false quote quote (length body) (body ++ rest) said p.0 p.1 (grind arith) (more_says s rest)
    ∙ ap (λ k. front.word k (text said)) l
text_found {signed} bytes said (a_raw_text {prefix = prefix} {quote = quote} {bytes = body} r q s) rest =
    let p = prefix_is_plain prefix r in
    let l : 2 + length body ≡ suc (suc (length body)) = omega arith in
    text_front signed true quote prefix (length body) (quote ∷ (body ++ rest)) said p.0 p.1 (raw_quoted prefix quote (body ++ rest) r q) (more_says s rest)
    ∙ ap (λ k. front.word k (text said)) l

token_takes : {signed : Bool} {bytes : List ℕ} {w : Word} → IsToken signed bytes w → (rest : List ℕ) → TakesAll signed bytes rest
token_takes {signed} (a_name {bytes = bytes} a) rest = name_takes signed bytes rest a
token_takes {signed} (an_int s) rest = int_takes_all signed s rest
token_takes (a_signed_int s p) rest = signed_takes s p rest
token_takes {signed} (a_mark {bytes = bytes} {m = m} e) rest = mark_takes signed bytes rest m e
token_takes {signed} (a_text {quote = quote} {bytes = bytes} {said = said} q s) rest =
    rw (text_found {signed = signed} (quote ∷ bytes) said (a_text q s) rest) (omega arith)
token_takes {signed} (a_raw_text {prefix = prefix} {quote = quote} {bytes = bytes} {said = said} r q s) rest =
    rw (text_found {signed = signed} (prefix ∷ quote ∷ bytes) said (a_raw_text r q s) rest) (omega arith)

has_takes : (signed : Bool) (bytes : List ℕ) (m : ℕ) (w : Word) → HasToken signed bytes m w → AtLeast bytes m (front signed bytes)
has_takes signed bytes m w t =
    subst (λ k. AtLeast bytes k (front signed bytes)) (length-take-le m bytes t.0)
    (subst (λ xs. AtLeast xs (length (take m bytes)) (front signed xs)) (take-append-drop m bytes) (token_takes t.1 (drop m bytes)))

-- ---- no longer token, and no token

pub longest : (signed : Bool) (bytes : List ℕ) (n : ℕ) (w : Word) → front signed bytes ≡ front.word n w → HasToken signed bytes n w
    → IsLongestToken signed bytes n w
longest signed bytes n w e h = (h, λ m other t. subst (AtLeast bytes m) e (has_takes signed bytes m other t))

pub longest_wide : (signed : Bool) (bytes : List ℕ) (before n value : ℕ) (w : Word) → front signed bytes ≡ front.wide_int before
    → IsInt (drop before bytes) n value → HasToken signed bytes (before + n) w → IsLongestToken signed bytes (before + n) w
longest_wide signed bytes before n value w e i h = grind (arith, int_is, int_digit, has_takes)

pub none_begins : (signed : Bool) (bytes : List ℕ) → front signed bytes ≡ front.nothing → (n : ℕ) (w : Word) → HasToken signed bytes n w → ⊥
none_begins signed bytes e n w t = subst (AtLeast bytes n) e (has_takes signed bytes n w t)

pub none_at_end : (signed : Bool) (n : ℕ) (w : Word) → HasToken signed [] n w → ⊥
none_at_end signed n w t = subst (AtLeast [] n) (front_nil signed [] (omega arith)) (has_takes signed [] n w t)
