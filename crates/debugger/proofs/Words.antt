-- The lines of commands, and how they are parsed.
use Rattle.debugger.proofs.Prelude.{◌≡◌, ◌≢◌, ℕ, suc, ◌+◌, ◌-◌, ◌*◌, ◌/◌, ◌%◌, ◌^◌, ◌<◌, ◌≤◌, Bool, true, false, ◌&&◌, List, [], ◌∷◌, ◌++◌, length, length-append, length-drop, drop, Option, Some, None, decimal, nat_eq, nat_le, nat_lt, codes, refl, sym, ap, ◌∙◌, inl, inr, subst, arith, append_assoc, append-nil, add-one, ◌⊎◌, slice_index, if◌then◌else◌, bytes_eq, pow-le-pow_right, pow-suc, and_parts, nat_tests, decimal_digit, decimal_step_wide, decimal_by_steps_wide, take-append-drop, bytes_eq-Decides, hex_digits, begins_with, command_of, form_of, hex_value, is_digit, is_hex_digit, move_form_of, number_of, numbered, numbered_form_of, read_address, read_digits, shown_form_of, AsksFor, CommandsHaveLines, IsLine, IsNumbered, Command, ValueAt, MemoryAt, Unknown}
use Rattle.debugger.proofs.Addresses.{address_ended, address_read, below_digit, digit_is, hex_digits-more}

-- a number and one more digit
decimal-more : (m c : ℕ) → 0 < m → m * 10 + (c - 48) < 10 ^ 64 → is_digit c ≡ true → decimal (m * 10 + (c - 48)) ≡ decimal m ++ c ∷ []
decimal-more m c some small digit = grind (arith, nat_tests, decimal_step_wide)

below_more : (k m c : ℕ) → m < 10 ^ k → is_digit c ≡ true → m * 10 + (c - 48) < 10 ^ (k + 1)
below_more k m c small digit =
    let high : c ≤ 57 = grind (arith, nat_tests) in
    let next : 10 ^ (k + 1) ≡ 10 ^ k * 10 = ap (λ (j : ℕ). 10 ^ j) (add-one k) ∙ pow-suc 10 k in
    omega (arith, next, high)

below_all : (k n : ℕ) → k ≤ 64 → n < 10 ^ k → n < 10 ^ 64
below_all k n low small = grind (arith, pow-le-pow_right)

-- the number of digits that continue those of m
abbrev Writes : List ℕ → ℕ → Type 0
Writes ds n = (ds ≡ decimal n) × (n < 10 ^ 64)

-- a number other than 0 with at most `k` digits, before `count` more
record IsLeading (k m count : ℕ) : Type 0 where
  some : 0 < m
  small : m < 10 ^ k
  long : k + count ≤ 64

written_by : (c : ℕ) (ds : List ℕ) (k m n : ℕ) (digit : Bool) → is_digit c ≡ digit → IsLeading k m (length (c ∷ ds))
    → ((more : 0 < m * 10 + (c - 48)) → m * 10 + (c - 48) < 10 ^ (k + 1) → read_digits (m * 10 + (c - 48)) ds ≡ Some n → Writes (decimal (m * 10 + (c - 48)) ++ ds) n)
    → (if digit then read_digits (m * 10 + (c - 48)) ds else None) ≡ Some n → Writes (decimal m ++ c ∷ ds) n
written_by c ds k m n true is leads rest read =
    let some = leads.some in
    let small = leads.small in
    let long = leads.long in
    let more = below_more k m c small is in
    let one = decimal-more m c some (below_all (k + 1) (m * 10 + (c - 48)) (omega (arith, long)) more) is in
    let all = rest (omega (arith, some)) more read in
    (sym (append_assoc (decimal m) (c ∷ []) ds) ∙ ap (λ (front : List ℕ). front ++ ds) (sym one) ∙ all.0, all.1)
written_by c ds k m n false is leads rest read = cc

digits_written : (ds : List ℕ) (k m n : ℕ) → 0 < m → m < 10 ^ k → k + length ds ≤ 64 → read_digits m ds ≡ Some n → Writes (decimal m ++ ds) n
digits_written [] k m n some small long read =
    let same : m ≡ n = cc in
    (append-nil (decimal m) ∙ ap decimal same, subst (λ (j : ℕ). j < 10 ^ 64) same (below_all k m (omega (arith, long)) small))
digits_written (c ∷ ds) k m n some small long read =
    written_by c ds k m n (is_digit c) refl (record { some = some; small = small; long = long }) (λ more below rest. digits_written ds (k + 1) (m * 10 + (c - 48)) n more below (omega (arith, long)) rest) read

-- the first digit
first_written : (c : ℕ) (ds : List ℕ) (n : ℕ) (digit zero_first : Bool) → is_digit c ≡ digit → nat_eq c 48 ≡ zero_first → nat_lt 1 (length (c ∷ ds)) && zero_first ≡ false → length (c ∷ ds) ≤ 64 → (if digit then read_digits (0 * 10 + (c - 48)) ds else None) ≡ Some n → Writes (c ∷ ds) n
first_written c ds n false zero_first is first alone short read = cc
first_written c [] n true zero_first is first alone short read =
    let low : 48 ≤ c = grind (arith, nat_tests) in
    let high : c ≤ 57 = grind (arith, nat_tests) in
    let value : 0 * 10 + (c - 48) ≡ n = cc in
    let same : 48 + n ≡ c = omega (arith, value, low) in
    let small : n < 10 = omega (arith, value, high) in
    (ap (λ (d : ℕ). d ∷ []) (sym same) ∙ sym (decimal_digit n small), omega (arith, small))
first_written c (d ∷ ds) n true true is first alone short read = let more : nat_lt 1 (length (c ∷ d ∷ ds)) ≡ true = grind (arith, nat_tests) in cc (more, alone)
first_written c (d ∷ ds) n true false is first alone short read =
    let low : 48 ≤ c = grind (arith, nat_tests) in
    let high : c ≤ 57 = grind (arith, nat_tests) in
    let other : 48 < c = grind (arith, nat_tests) in
    let value : 0 * 10 + (c - 48) ≡ c - 48 = omega arith in
    let same : 48 + (c - 48) ≡ c = omega (arith, low) in
    let all = digits_written (d ∷ ds) 1 (c - 48) n (omega (arith, other)) (omega (arith, high)) (omega (arith, short)) (ap (λ (m : ℕ). read_digits m (d ∷ ds)) (sym value) ∙ read) in
    (ap (λ (front : List ℕ). front ++ d ∷ ds) (ap (λ (e : ℕ). e ∷ []) (sym same) ∙ sym (decimal_digit (c - 48) (omega (arith, high)))) ∙ all.0, all.1)

number_by : (c : ℕ) (ds : List ℕ) (n : ℕ) (empty leads : Bool) → (nat_lt 1 (length (c ∷ ds)) && nat_eq (slice_index (c ∷ ds) 0) 48) ≡ leads → length (c ∷ ds) ≤ 64
    → (if empty then None else (if leads then None else read_digits 0 (c ∷ ds))) ≡ Some n → Writes (c ∷ ds) n
number_by c ds n false false is short read = first_written c ds n (is_digit c) (nat_eq c 48) refl refl is short read
number_by c ds n _ _ is short read = cc

-- what is read as a number is its decimal digits
number_written : (ds : List ℕ) (n : ℕ) → length ds ≤ 64 → number_of ds ≡ Some n → Writes ds n
unfolding number_of
number_written [] n short read = cc
number_written (c ∷ ds) n short read = number_by c ds n (nat_eq (length (c ∷ ds)) 0) (nat_lt 1 (length (c ∷ ds)) && nat_eq (slice_index (c ∷ ds) 0) 48) refl short read

-- decimal digits are read as their number, and have no leading zeros
record Reads (n : ℕ) (ds : List ℕ) : Type 0 where
  some : 0 < length ds
  value : read_digits 0 ds ≡ Some n
  first : 0 < n → nat_eq (slice_index ds 0) 48 ≡ false
  alone : n ≡ 0 → length ds ≡ 1

read_digit : (m d : ℕ) → d < 10 → read_digits m ((48 + d) ∷ []) ≡ Some (m * 10 + d)
read_digit m d small = grind arith

read_by : (digit : Bool) (m k c : ℕ) (ds rest : List ℕ) → ((j : ℕ) → read_digits j ds ≡ Some k → read_digits j (ds ++ rest) ≡ read_digits k rest) → (if digit then read_digits (m * 10 + (c - 48)) ds else None) ≡ Some k → (if digit then read_digits (m * 10 + (c - 48)) (ds ++ rest) else None) ≡ read_digits k rest
read_by digit m k c ds rest go read = grind arith

read_on : (ds rest : List ℕ) (m k : ℕ) → read_digits m ds ≡ Some k → read_digits m (ds ++ rest) ≡ read_digits k rest
read_on [] rest m k read = let same : m ≡ k = cc in ap (λ (j : ℕ). read_digits j rest) same
read_on (c ∷ ds) rest m k read = read_by (is_digit c) m k c ds rest (λ j. read_on ds rest j k) read

reads_one : (n : ℕ) → n < 10 → Reads n ((48 + n) ∷ [])
reads_one n small = grind arith

first-append : (ds rest : List ℕ) → 0 < length ds → slice_index (ds ++ rest) 0 ≡ slice_index ds 0
first-append [] rest some = absurd (omega (arith, some))
first-append (d ∷ ds) rest some = refl

reads_more : (n : ℕ) (ds : List ℕ) → 10 ≤ n → Reads (n / 10) ds → Reads n (ds ++ (48 + n % 10) ∷ [])
reads_more n ds large r =
    let same : n / 10 * 10 + n % 10 ≡ n = omega arith in
    record {
      some = omega (arith, length-append ds ((48 + n % 10) ∷ []));
      value = read_on ds ((48 + n % 10) ∷ []) 0 (n / 10) r.value ∙ read_digit (n / 10) (n % 10) (omega arith) ∙ ap Some same;
      first = λ more. ap (λ (d : ℕ). nat_eq d 48) (first-append ds ((48 + n % 10) ∷ []) r.some) ∙ r.first (omega (arith, large));
      alone = λ none. absurd (omega (arith, none, large));
    }

first_or_alone : (n : ℕ) (ds : List ℕ) → Reads n ds → (nat_lt 1 (length ds) && nat_eq (slice_index ds 0) 48) ≡ false
first_or_alone n ds r = grind arith

-- decimal digits are read as their number
number_read : (n : ℕ) → n < 10 ^ 64 → number_of (decimal n) ≡ Some n
unfolding number_of
number_read n small =
    let r = decimal_by_steps_wide Reads reads_one reads_more n small in
    let some : nat_eq (length (decimal n)) 0 ≡ false = let more = r.some in grind (arith, nat_tests) in
    let lead = first_or_alone n (decimal n) r in
    rw (some, lead) r.value

-- the word at the start of a line
begins : (word line : List ℕ) → begins_with word line ≡ true → line ≡ word ++ drop (length word) line
begins word line same_word = grind (arith, nat_tests, bytes_eq-Decides, take-append-drop)

is_unknown : (c : Command) → (c ≡ Unknown) ⊎ (c ≢ Unknown)
is_unknown c = grind arith

-- a line has this command, or none
abbrev Found : List ℕ → Command → Type 0
Found line c = (c ≡ Unknown) ⊎ IsLine c line

by_test : (line : List ℕ) (b : Bool) (x y : Command) → (b ≡ true → Found line x) → Found line y → Found line (if b then x else y)
by_test line b x y first second = grind arith

found_number : (line word : List ℕ) (command : ℕ → Command) → length line ≤ 64 → ((n : ℕ) → IsNumbered word n line → IsLine (command n) line)
    → (o : Option ℕ) → number_of (drop (length word) line) ≡ o → begins_with word line ≡ true → Found line (numbered command o)
found_number line word command short form None read same_word = inl refl
found_number line word command short form (Some n) read same_word =
    let w = number_written (drop (length word) line) n (omega (arith, short, length-drop (length word) line)) read in
    inr (form n (record { fits = w.1; is = begins word line same_word ∙ ap (λ (ds : List ℕ). word ++ ds) w.0 }))

found_word : (line word : List ℕ) (c : Command) → (line ≡ word → IsLine c line) → bytes_eq line word ≡ true → Found line c
found_word line word c form same_word = grind (arith, bytes_eq-Decides)

-- the line that starts with these digits of an address
abbrev Begun : List ℕ → ℕ → ℕ → List ℕ → Type 0
Begun line d a rest = line ≡ codes "m 0x" ++ (hex_digits d a ++ rest)

-- a line of at most 64 bytes that starts with at most 16 digits of an address
record BeginsAddress (line : List ℕ) (d a : ℕ) (rest : List ℕ) : Type 0 where
  short : length line ≤ 64
  few : d ≤ 16
  fits : a < 16 ^ d
  begun : Begun line d a rest

-- a number after an address
found_count : (line : List ℕ) (d a c : ℕ) (cs : List ℕ) → BeginsAddress line d a (c ∷ cs) → nat_eq c 32 && nat_lt 0 d ≡ true → (o : Option ℕ) → number_of cs ≡ o
    → Found line (numbered (MemoryAt a) o)
found_count line d a c cs begins ends None read = inl refl
found_count line d a c cs begins ends (Some n) read =
    let short = begins.short in
    let few = begins.few in
    let fits = begins.fits in
    let begun = begins.begun in
    let space : c ≡ 32 = grind (arith, nat_tests) in
    let some : 0 < d = grind (arith, nat_tests) in
    let long : length line ≡ length (codes "m 0x") + (length (hex_digits d a) + length (c ∷ cs)) =
    ap length begun ∙ length-append (codes "m 0x") (hex_digits d a ++ c ∷ cs) ∙ ap (λ (n : ℕ). length (codes "m 0x") + n) (length-append (hex_digits d a) (c ∷ cs)) in
    let w = number_written cs n (omega (arith, short, long)) read in
    let behind : c ∷ cs ≡ codes " " ++ decimal n = λ i. space i ∷ w.0 i in
    inr (record {
      digits = d;
      some = some;
      most = few;
      fits = fits;
      number_fits = w.1;
      is = begun ∙ ap (λ (rest : List ℕ). codes "m 0x" ++ (hex_digits d a ++ rest)) behind;
    })

found_address : (line : List ℕ) (d a : ℕ) (rest : List ℕ) → length line ≤ 64 → d ≤ 16 → a < 16 ^ d → Begun line d a rest → Found line (read_address d a rest)
found_address line d a [] short few fits begun = inl refl
found_address line d a (c ∷ cs) short few fits begun =
    by_test line _ _ _ (λ ends. found_count line d a c cs (record { short = short; few = few; fits = fits; begun = begun }) ends _ refl)
    (by_test line _ _ _ (λ goes.
    let tests = and_parts (is_hex_digit c) (nat_lt d 16) goes in
    let more : d < 16 = grind (arith, nat_tests, tests.1) in
    let i = digit_is c tests.0 in
    let small : a * 16 + hex_value c < 16 ^ suc d = subst (λ (k : ℕ). a * 16 + hex_value c < 16 ^ k) (add-one d) (below_digit d a (hex_value c) fits i.below) in
    found_address line (suc d) (a * 16 + hex_value c) cs short (omega (arith, more)) small
    (begun ∙ ap (λ (t : List ℕ). codes "m 0x" ++ t) (sym (append_assoc (hex_digits d a) (c ∷ []) cs) ∙ ap (λ (t : List ℕ). t ++ cs) (sym (hex_digits-more d a c (hex_value c) i)))))
    (inl refl))

shown_found : (line : List ℕ) → length line ≤ 64 → Found line (shown_form_of line)
unfolding shown_form_of hex_digits
shown_found line short =
    by_test line _ _ _ (found_number line (codes "v ") ValueAt short (λ n is. is) _ refl)
    (by_test line _ _ _ (λ same. found_address line 0 0 (drop 4 line) short (omega arith) (omega arith) (begins (codes "m 0x") line same))
    (inl refl))

numbered_found : (line : List ℕ) → length line ≤ 64 → Found line (numbered_form_of line)
unfolding numbered_form_of move_form_of
numbered_found line short = grind (arith, nat_tests, number_written, length-drop, begins, codes, by_test, found_number, shown_found)

form_found : (line : List ℕ) → length line ≤ 64 → Found line (form_of line)
unfolding form_of
form_found line short = grind (arith, nat_tests, by_test, found_word, numbered_found)

short_by : (line : List ℕ) (b : Bool) → nat_le (length line) 64 ≡ b → (if b then form_of line else Unknown) ≢ Unknown → AsksFor line (if b then form_of line else Unknown)
short_by line b is known = grind (arith, nat_tests, form_found)

-- a line has the command that it is parsed as
asks_for : (line : List ℕ) → command_of line ≢ Unknown → AsksFor line (command_of line)
unfolding command_of
asks_for line known = short_by line (nat_le (length line) 64) refl known

-- each line of a command is parsed as it
reads_form : (c : Command) (line : List ℕ) → IsLine c line → form_of line ≡ c
unfolding form_of numbered_form_of move_form_of shown_form_of
reads_form c line l = grind (arith, number_read, address_read, codes, decimal, address_ended)

reads_asked : (line : List ℕ) (c : Command) → AsksFor line c → command_of line ≡ c
unfolding command_of
reads_asked line c a = grind (arith, nat_tests, reads_form)

known_of : (line : List ℕ) (c : Command) → AsksFor line c → c ≢ Unknown
known_of line c a is = grind arith

pub commands_have_lines : CommandsHaveLines
commands_have_lines = record {
  known = λ line c known. (
    λ read. subst (AsksFor line) read (asks_for line (λ none. known (sym read ∙ none))),
    reads_asked line c,
  );
  unknown = λ line. (
    λ none c a. known_of line c a (sym (reads_asked line c a) ∙ none),
    λ none. elim (is_unknown (command_of line)) [ inl unknown ↦ unknown | inr known ↦ absurd (none (command_of line) (asks_for line known)) ],
  );
}
