-- The words of a region by number: each has eight bytes, and word i begins 8 * i
-- bytes after the region's first address.
use Rattle.std.specs.Prelude.{◌≡◌, ℕ, ◌+◌, ◌*◌, ◌^◌, ◌<◌, ◌≤◌, All, List, length, Ok}
use Rattle.guest_memory.specs.Memory.{Memory, Region, Constants, IsMemory, base_of, bytes_in, with_bytes}
use Rattle.guest_memory.specs.Word.{word_of, low_bytes, part, overlay}
use Rattle.guest_memory.specs.Access.{read_of, write_of}
use Rattle.guest_memory.specs.declared.size.Size.TheVariants.{Dw}

-- word i of these bytes
unfoldable pub word_in : List ℕ → ℕ → ℕ
word_in bytes i = word_of (part bytes (8 * i) 8)

-- the bytes with word i replaced
unfoldable pub put_word : List ℕ → ℕ → ℕ → List ℕ
put_word bytes i word = overlay bytes (8 * i) (low_bytes 8 word)

-- word i is completely within the bytes
abbrev pub HasWord : List ℕ → ℕ → Type 0
HasWord bytes i = 8 * i + 8 ≤ length bytes

-- words that are written to bytes and read back
pub record WordsArePut : Type 0 where
  pub bound : (bytes : List ℕ) (i : ℕ) → HasWord bytes i → All (λ b. b < 256) bytes → word_in bytes i < 2 ^ 64
  -- the replaced word has its new value, every other word and the number of bytes are unchanged
  pub same : (bytes : List ℕ) (i word : ℕ) → HasWord bytes i → word < 2 ^ 64 → word_in (put_word bytes i word) i ≡ word
  pub other : (bytes : List ℕ) (i word j : ℕ) → HasWord bytes i → (j ≡ i → ⊥) → word_in (put_word bytes i word) j ≡ word_in bytes j
  pub length_is : (bytes : List ℕ) (i word : ℕ) → HasWord bytes i → length (put_word bytes i word) ≡ length bytes
  pub bytes_are : (bytes : List ℕ) (i word : ℕ) → HasWord bytes i → All (λ b. b < 256) bytes → All (λ b. b < 256) (put_word bytes i word)

-- loads and stores of eight bytes at the address of a word of a region
pub record WordsAreAccessed : Type 0 where
  pub read : (m : Memory) (r : Region) (i address : ℕ) → IsMemory m → HasWord (bytes_in r m) i → address ≡ base_of r + 8 * i
      → read_of m address Dw ≡ Ok (word_in (bytes_in r m) i)
  pub write : (m : Memory) (r : Region) (i address word : ℕ) → IsMemory m → (r ≡ Constants → ⊥) → HasWord (bytes_in r m) i → address
      ≡ base_of r + 8 * i → write_of m address Dw word ≡ Ok (with_bytes r (put_word (bytes_in r m) i word) m)
  -- the memory after such a store is one of a program, and its other regions are unchanged
  pub memory : (m : Memory) (r : Region) (i word : ℕ) → IsMemory m → HasWord (bytes_in r m) i
      → IsMemory (with_bytes r (put_word (bytes_in r m) i word) m)
  pub kept : (m : Memory) (r other : Region) (bytes : List ℕ) → (other ≡ r → ⊥) → bytes_in other (with_bytes r bytes m) ≡ bytes_in other m
