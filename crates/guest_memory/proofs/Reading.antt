-- Results of loads.
use Rattle.guest_memory.proofs.Prelude.{◌≡◌, ℕ, ◌+◌, ◌<◌, ◌≤◌, ◌^◌, List, length, get_or, Some, Ok, Err, arith, length-drop, get_or-drop, get_or-take, All, IsOk, ◌↔◌, length-take-le, Memory, Region, IsMemory, bytes_in, base_of, byte_at, word_of, part, size_bytes, read_of, ReadIsBytes, StandInOne, byte_of, F3, Size, le-leb, nat_tests, common_steps, slice_get-get_or, slice_get_past}
use Rattle.guest_memory.proofs.Digits.{byte_of-word_of, word_of-bound}
use Rattle.guest_memory.proofs.Places.{HasPlace, where_stands, one_region}

pub some_bytes : (size : Size) → 1 ≤ size_bytes size
some_bytes size = grind arith

pub length-part : (bytes : List ℕ) (at n : ℕ) → at + n ≤ length bytes → length (part bytes at n) ≡ n
length-part bytes at n h = grind (arith, length-take-le, length-drop)

pub get_or-part : (bytes : List ℕ) (at n i : ℕ) → i < n → get_or (part bytes at n) i 0 ≡ get_or bytes (at + i) 0
get_or-part bytes at n i h = grind (arith, get_or-take, get_or-drop)

pub all-part : (bytes : List ℕ) (at n : ℕ) → All (λ b. b < 256) bytes → All (λ b. b < 256) (part bytes at n)
all-part bytes at n all = grind (arith, common_steps)

-- a word was loaded: its bytes are those of a region from an offset on
pub record Loads (m : Memory) (address n word : ℕ) : Type 0 where
  pub region : Region
  pub at : ℕ
  pub place : HasPlace (base_of region) (length (bytes_in region m)) address n at
  pub is : word_of (part (bytes_in region m) at n) ≡ word

loads : (m : Memory) (address word : ℕ) (size : Size) → read_of m address size ≡ Ok word → Loads m address (size_bytes size) word
unfolding read_of
loads m address word size h = grind (arith, nat_tests)

loaded_byte : (m : Memory) (address n word : ℕ) → IsMemory m → Loads m address n word → (i : ℕ) → i < n → byte_at m (address + i) ≡ Some (byte_of word i)
unfolding byte_at
loaded_byte m address n word is l i inside =
    grind (arith, length-take-le, length-drop, le-leb, slice_get-get_or, slice_get_past, get_or-take, get_or-drop, byte_of-word_of, byte_of)

loaded_bound : (m : Memory) (address n word : ℕ) → IsMemory m → Loads m address n word → word < 256 ^ n
loaded_bound m address n word is l = grind (arith, length-part, word_of-bound, all-part)

read_done : (m : Memory) (address : ℕ) (size : Size) → IsOk (read_of m address size) ↔ StandInOne m address (size_bytes size)
unfolding read_of
read_done m address size = grind (arith, where_stands m address (size_bytes size) (some_bytes size), one_region)

read_outside : (m : Memory) (address : ℕ) (size : Size) → (read_of m address size ≡ Err F3) ↔ (StandInOne m address (size_bytes size) → ⊥)
unfolding read_of
read_outside m address size = grind (arith, where_stands m address (size_bytes size) (some_bytes size), one_region)

pub read_laws : ReadIsBytes
read_laws = record {
  bytes = λ m address size word is h. loaded_byte m address (size_bytes size) word is (loads m address word size h);
  bound = λ m address size word is h. loaded_bound m address (size_bytes size) word is (loads m address word size h);
  done = read_done;
  outside = read_outside;
}
