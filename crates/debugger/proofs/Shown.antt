-- Bytes of memory read one by one, and their lines.
use Rattle.debugger.proofs.Prelude.{◌≡◌, ℕ, zero, suc, ◌+◌, ◌-◌, ◌*◌, ◌%◌, ◌^◌, ◌<◌, ◌≤◌, true, List, [], ◌∷◌, ◌++◌, length, map, nat_le, ◌&&◌, take, drop, Option, Some, None, Ok, refl, sym, ap, ◌∙◌, arith, add-one, add-zero, option_map, codes, take-add, nat_tests, common_steps, drop-drop, constants_of, read_of, region_of, Memory, Region, base_of, bytes_in, part, word_of, B, hex_digits, HasRegions, bytes_from, digits_of_bytes, memory_line, memory_lines, memory_text, shown_bytes}

-- ---- regions

-- n bytes at an address are in a region
pub record StandsIn (r : Region) (m : Memory) (address n : ℕ) : Type 0 where
  pub low : base_of r ≤ address
  pub high : address + n ≤ base_of r + length (bytes_in r m)

-- n bytes that are in one region are in no other
pub region_here : (r : Region) (m : Memory) (address n : ℕ) → HasRegions m → 0 < n → StandsIn r m address n
    → region_of m address n ≡ Some (r, address - base_of r)
region_here r m address n is some stands = grind arith

-- what a result of `region_of` means
unfoldable pub Says : Memory → ℕ → ℕ → Option (Region × ℕ) → Type 0
Says m address n (Some (r, at)) = StandsIn r m address n × (at ≡ address - base_of r)
Says m address n None = Unit {0}

pub region_says : (m : Memory) (address n : ℕ) → Says m address n (region_of m address n)
unfolding Says
region_says m address n = grind arith

-- ---- single bytes

-- the first n bytes at an address
pub record Row (m : Memory) (address n : ℕ) (bytes : List ℕ) : Type 0 where
  pub region : Region
  pub stands : StandsIn region m address n
  pub are : bytes ≡ part (bytes_in region m) (address - base_of region) n

one_byte : (bytes : List ℕ) (at : ℕ) → at < length bytes → part bytes at 1 ≡ word_of (part bytes at 1) ∷ []
one_byte [] at h = absurd (omega arith)
one_byte (b ∷ bs) zero h = let same : b ≡ b + 256 * 0 = omega arith in ap (λ (c : ℕ). c ∷ []) same
one_byte (b ∷ bs) (suc at) h = one_byte bs at (omega (arith, h))

pub byte_read : (m : Memory) (address b : ℕ) → read_of m address B ≡ Ok b → Row m address 1 (b ∷ [])
unfolding read_of Says
byte_read m address b read = grind (arith, one_byte, nat_tests)

-- ---- consecutive bytes

-- n bytes that were read
abbrev pub Begun : Memory → ℕ → ℕ → List ℕ → Type 0
Begun m address zero bytes = bytes ≡ []
Begun m address (suc n) bytes = Row m address (suc n) bytes

-- a byte after others is in their region
same_region : (r s : Region) (m : Memory) (address n : ℕ) → HasRegions m → 0 < n → StandsIn r m address n → StandsIn s m (address + n) 1 → s ≡ r
same_region r s m address n is some row byte = grind arith

part_more : (bytes : List ℕ) (at n b : ℕ) → part bytes (at + n) 1 ≡ b ∷ [] → part bytes at (suc n) ≡ part bytes at n ++ b ∷ []
part_more bytes at n b one = ap (part bytes at) (sym (add-one n)) ∙ take-add n 1 (drop at bytes)
    ∙ ap (λ (rest : List ℕ). take n (drop at bytes) ++ take 1 rest) (drop-drop n at bytes) ∙ ap (λ (t : List ℕ). part bytes at n ++ t) one

row_more : (m : Memory) (address n b : ℕ) (bytes : List ℕ) → HasRegions m → 0 < n → Row m address n bytes → Row m (address + n) 1 (b ∷ [])
    → Row m address (suc n) (bytes ++ b ∷ [])
row_more m address n b bytes is some row byte = grind (arith, same_region, part_more)

-- one more byte
pub begun_more : (m : Memory) (address n b : ℕ) (bytes : List ℕ) → HasRegions m → Begun m address n bytes → read_of m (address + n) B ≡ Ok b
    → Begun m address (n + 1) (bytes ++ b ∷ [])
begun_more m address zero b bytes is none read = rw none (rw add-zero at (byte_read m (address + 0) b read))
begun_more m address (suc n) b bytes is row read = rw add-one (row_more m address (suc n) b bytes is (omega arith) row (byte_read m (address + suc n) b read))

-- a region of which not all bytes are borrowed constants has no address of more than 64 bits
ends_within : (r : Region) (m : Memory) (address n : ℕ) → HasRegions m → 0 < n → constants_of m address n ≡ None → StandsIn r m address n → address + n < 2 ^ 64
unfolding constants_of
ends_within r m address n is some none s = grind (arith, nat_tests)

byte_there : (r : Region) (m : Memory) (address n i : ℕ) → HasRegions m → i < n → StandsIn r m address n → (b : ℕ) × (read_of m (address + i) B ≡ Ok b)
unfolding read_of
byte_there r m address n i is less s =
    let low = s.low in
    let high = s.high in
    let here : StandsIn r m (address + i) 1 = record { low = omega (arith, low); high = omega (arith, high, less) } in
    (word_of (part (bytes_in r m) (address + i - base_of r) 1), rw (region_here r m (address + i) 1 is (omega arith) here) refl)

none_by : (m : Memory) (address n i : ℕ) (o : Option (Region × ℕ)) → HasRegions m → i < n → constants_of m address n ≡ None
    → (address + i < 2 ^ 64 → (b : ℕ) → read_of m (address + i) B ≡ Ok b → ⊥) → Says m address n o → None ≡ option_map (λ place. part (bytes_in place.0 m) place.1 n) o
unfolding Says
none_by m address n i (Some (r, at)) is less none missing says =
    let s = says.0 in
    let end : address + n < 2 ^ 64 = ends_within r m address n is (omega (arith, less)) none s in
    let byte = byte_there r m address n i is less s in
    absurd (missing (omega (arith, end, less)) byte.0 byte.1)
none_by m address n i None is less none missing says = refl

-- bytes that are borrowed
pub row_lent : (m : Memory) (address n : ℕ) (lent : List ℕ) → HasRegions m → 0 < n → constants_of m address n ≡ Some lent → Some lent ≡ bytes_from m address n
unfolding constants_of bytes_from
row_lent m address n lent is some has = grind (arith, nat_tests)

-- ---- replies

pub count_within : (n : ℕ) → (nat_le 1 n && nat_le n 256) ≡ true → (0 < n) × (n ≤ 256)
count_within n is = grind arith

pub shows : (m : Memory) (address n : ℕ) (bytes : Option (List ℕ)) (text : List ℕ) → (nat_le 1 n && nat_le n 256) ≡ true → bytes ≡ bytes_from m address n
    → text ≡ memory_text address bytes → text ≡ memory_text address (shown_bytes m address n)
shows m address n bytes text few is text_is = grind arith

-- ---- words and their low bytes

abbrev pub low : List ℕ → List ℕ
low words = map (λ (word : ℕ). word % 256) words

take_low : (n : ℕ) (words : List ℕ) → take n (low words) ≡ low (take n words)
take_low (suc n) (w ∷ ws) = ap (λ (t : List ℕ). w % 256 ∷ t) (take_low n ws)
take_low _ _ = refl

drop_low : (n : ℕ) (words : List ℕ) → drop n (low words) ≡ low (drop n words)
drop_low (suc n) (w ∷ ws) = drop_low n ws
drop_low _ _ = refl

low_pair : (word : ℕ) → hex_digits 2 (word % 256) ≡ hex_digits 2 word
unfolding hex_digits
low_pair word = grind arith

low_digits : (words : List ℕ) → digits_of_bytes (low words) ≡ digits_of_bytes words
unfolding digits_of_bytes
low_digits [] = refl
low_digits (w ∷ ws) = λ i. codes " " ++ (low_pair w i ++ low_digits ws i)

low_line : (address : ℕ) (words : List ℕ) → memory_line address (low words) ≡ memory_line address words
unfolding memory_line
low_line address words = grind (arith, low_digits)

low_lines : (count address : ℕ) (words : List ℕ) → memory_lines count address (low words) ≡ memory_lines count address words
unfolding memory_lines
low_lines (suc count) address (w ∷ ws) =
    let first = ap (memory_line address) (take_low 16 (w ∷ ws)) ∙ low_line address (take 16 (w ∷ ws)) in
    let rest = ap (memory_lines count (address + 16)) (drop_low 16 (w ∷ ws)) ∙ low_lines count (address + 16) (drop 16 (w ∷ ws)) in
    λ i. first i ++ rest i
low_lines _ address _ = refl

-- words that were read, in their low bytes
pub record ReadsLow (m : Memory) (address n : ℕ) (bytes : List ℕ) : Type 0 where
  pub words : List ℕ
  pub begun : Begun m address n words
  pub are : bytes ≡ low words

low_push : (words : List ℕ) (w : ℕ) → low words ++ w % 256 ∷ [] ≡ low (words ++ w ∷ [])
low_push words w = grind (arith, common_steps)

pub low_more : (m : Memory) (address n b : ℕ) (bytes new : List ℕ) → HasRegions m → ReadsLow m address n bytes
    → (word : ℕ) × (read_of m (address + n) B ≡ Ok word) × (b ≡ word % 256) → new ≡ bytes ++ b ∷ [] → ReadsLow m address (n + 1) new
low_more m address n b bytes new has r byte is = grind (arith, begun_more, low_push)

pub low_all : (m : Memory) (address n i : ℕ) (bytes : List ℕ) → HasRegions m → 0 < n → i ≡ n → ReadsLow m address i bytes
    → Some bytes ≡ option_map low (bytes_from m address n)
unfolding bytes_from
low_all m address n i bytes has some all r = grind (arith, nat_tests)

-- one of the bytes is missing
pub low_missing : (m : Memory) (address n i : ℕ) → HasRegions m → i < n → constants_of m address n ≡ None
    → (address + i < 2 ^ 64 → (b : ℕ) → read_of m (address + i) B ≡ Ok b → ⊥) → None ≡ option_map low (bytes_from m address n)
unfolding bytes_from
low_missing m address n i has less none missing =
    ap (option_map low) (none_by m address n i (region_of m address n) has less none missing (region_says m address n))

pub shows_low : (m : Memory) (address n : ℕ) (bytes : Option (List ℕ)) (text : List ℕ) → (nat_le 1 n && nat_le n 256) ≡ true
    → bytes ≡ option_map low (bytes_from m address n) → text ≡ memory_text address bytes → text ≡ memory_text address (shown_bytes m address n)
shows_low m address n bytes text few is text_is = grind (arith, nat_tests, low_lines)
