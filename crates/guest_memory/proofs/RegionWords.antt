-- Words that are written to bytes and read back. Crates above use these.
use Rattle.guest_memory.proofs.Prelude.{◌≡◌, ℕ, ◌+◌, ◌-◌, ◌*◌, ◌^◌, ◌<◌, ◌≤◌, List, length, get_or, drop, Ok, sym, ap, ◌∙◌, arith, subst, length-drop, get_or-drop, get_or-take, length-append, All, min, cases_lt, ext_get_or, length-take, get_or-append_right, length-take-le, Memory, Region, Stack, Scratch, Verdict, Constants, IsMemory, base_of, bytes_in, with_bytes, word_of, low_bytes, part, overlay, HasWord, WordsArePut, WordsAreAccessed, put_word, word_in, read_of, write_of, Dw, get_or-append, common_steps}
use Rattle.guest_memory.proofs.Bytes.{length_low, all-low_bytes}
use Rattle.guest_memory.proofs.Digits.{word_of-bound}
use Rattle.guest_memory.proofs.Overlays.{length-overlay, all-overlay}
use Rattle.guest_memory.proofs.Reading.{length-part, get_or-part, all-part}

pub word_in-bound : (bytes : List ℕ) (i : ℕ) → HasWord bytes i → All (λ b. b < 256) bytes → word_in bytes i < 2 ^ 64
unfolding word_in
word_in-bound bytes i room all =
    subst (λ (n : ℕ). word_of (part bytes (8 * i) 8) < 256 ^ n) (length-part bytes (8 * i) 8 room) (word_of-bound (part bytes (8 * i) 8) (all-part bytes (8 * i) 8 all))

module _ (bytes : List ℕ) (i w : ℕ) (room : HasWord bytes i) where
  fits : 8 * i + length (low_bytes 8 w) ≤ length bytes
  fits = grind arith

  pub length-put_word : length (put_word bytes i w) ≡ length bytes
  unfolding put_word
  length-put_word = grind (arith, common_steps)

  pub all-put_word : All (λ b. b < 256) bytes → All (λ b. b < 256) (put_word bytes i w)
  unfolding put_word
  all-put_word all = all-overlay bytes (8 * i) (low_bytes 8 w) fits all (all-low_bytes 8 w)

  -- the word that was written
  pub put_word-same : w < 2 ^ 64 → word_in (put_word bytes i w) i ≡ w
  unfolding word_in put_word
  put_word-same small = grind (arith, common_steps)

  get_or_other : (j k : ℕ) → (j ≡ i → ⊥) → k < 8 → get_or (overlay bytes (8 * i) (low_bytes 8 w)) (8 * j + k) 0 ≡ get_or bytes (8 * j + k) 0
  get_or_other j k other inside = grind (arith, cases_lt, length-take-le, get_or-append, get_or-take, length_low, get_or-append_right, get_or-drop)

  length_other : (j : ℕ) → length (part (overlay bytes (8 * i) (low_bytes 8 w)) (8 * j) 8) ≡ length (part bytes (8 * j) 8)
  length_other j =
      let whole = length-overlay bytes (8 * i) (low_bytes 8 w) fits in
      length-take 8 (drop (8 * j) (overlay bytes (8 * i) (low_bytes 8 w))) ∙ ap (λ (n : ℕ). min 8 n) (length-drop (8 * j) (overlay bytes (8 * i) (low_bytes 8 w)) ∙ ap (λ (n : ℕ). n - 8 * j) whole ∙ sym (length-drop (8 * j) bytes)) ∙ sym (length-take 8 (drop (8 * j) bytes))

  part_other : (j : ℕ) → (j ≡ i → ⊥) → part (overlay bytes (8 * i) (low_bytes 8 w)) (8 * j) 8 ≡ part bytes (8 * j) 8
  part_other j other =
      ext_get_or 0 _ _ (length_other j) (λ k inside.
      let below : k < 8 = let t = length-take 8 (drop (8 * j) (overlay bytes (8 * i) (low_bytes 8 w))) in omega arith in
      get_or-part (overlay bytes (8 * i) (low_bytes 8 w)) (8 * j) 8 k below ∙ get_or_other j k other below ∙ sym (get_or-part bytes (8 * j) 8 k below))

  -- every other word
  pub put_word-other : (j : ℕ) → (j ≡ i → ⊥) → word_in (put_word bytes i w) j ≡ word_in bytes j
  unfolding word_in put_word
  put_word-other j other = grind (arith, part_other)

pub words_are_put : WordsArePut
words_are_put = grind (arith, word_in-bound, put_word-same, put_word-other, length-put_word, all-put_word)

pub read_word : (m : Memory) (r : Region) (i address : ℕ) → IsMemory m → HasWord (bytes_in r m) i → address ≡ base_of r + 8 * i → read_of m address Dw ≡ Ok (word_in (bytes_in r m) i)
unfolding read_of word_in
read_word m r i address is room e = grind arith

pub write_word : (m : Memory) (r : Region) (i address w : ℕ) → IsMemory m → (r ≡ Constants → ⊥) → HasWord (bytes_in r m) i
    → address ≡ base_of r + 8 * i → write_of m address Dw w ≡ Ok (with_bytes r (put_word (bytes_in r m) i w) m)
unfolding write_of put_word
write_word m r i address w is writable room e = grind arith

pub with_bytes-other : (m : Memory) (r other : Region) (bytes : List ℕ) → (other ≡ r → ⊥) → bytes_in other (with_bytes r bytes m) ≡ bytes_in other m
with_bytes-other m r other bytes ne = grind arith

module _ (m : Memory) (r : Region) (i w : ℕ) (room : HasWord (bytes_in r m) i) where
  abbrev after : Memory
  after = with_bytes r (put_word (bytes_in r m) i w) m

  -- a fact about the bytes of every region before the write, and about those with the
  -- word, holds for every region after it
  each_region : (P : Region → List ℕ → Type 0) → P r (put_word (bytes_in r m) i w) → (other : Region) → P other (bytes_in other m) → P other (bytes_in other after)
  each_region P put other old = grind arith

  length_after : (other : Region) → length (bytes_in other after) ≡ length (bytes_in other m)
  unfolding put_word
  length_after other = grind (arith, length-take-le, length-append, length-drop, length_low)

  pub with_word : IsMemory m → IsMemory after
  with_word is = record {
    stack = length_after Stack ∙ is.stack;
    scratch = length_after Scratch ∙ is.scratch;
    verdict = length_after Verdict ∙ is.verdict;
    bytes = λ other. each_region (λ q bytes. All (λ b. b < 256) bytes) (all-put_word (bytes_in r m) i w room (is.bytes r)) other (is.bytes other);
  }

pub words_are_accessed : WordsAreAccessed
words_are_accessed = record { read = read_word; write = write_word; memory = λ m r i w is room. with_word m r i w room is; kept = with_bytes-other }
