-- The memory after stores.
use Rattle.guest_memory.proofs.Prelude.{◌≡◌, ℕ, ◌+◌, ◌-◌, ◌<◌, ◌≤◌, List, length, get_or, Some, Ok, Err, ap, ◌∙◌, arith, length-append, length-drop, All, IsOk, ◌↔◌, ◌⊎◌, cases_lt, Memory, Region, Stack, Scratch, Verdict, Constants, IsMemory, IsWritable, is_writable, bytes_in, base_of, byte_at, byte_from, low_bytes, overlay, region_of, size_bytes, write_at, write_of, WriteIsBytes, AllStandIn, StandInOne, byte_of, F3, F4, Size, nat_tests, length-take-le}
use Rattle.guest_memory.proofs.Bytes.{length_low, all-low_bytes}
use Rattle.guest_memory.proofs.Digits.{get_or-low_bytes}
use Rattle.guest_memory.proofs.Places.{HasPlace, where_stands, one_region}
use Rattle.guest_memory.proofs.Map.{byte_at-region, byte_at-same, byte_from-below, byte_from-above}
use Rattle.guest_memory.proofs.Overlays.{get_or-overlay_inside, slice_get-overlay_outside, all-overlay}
use Rattle.guest_memory.proofs.Reading.{some_bytes}

-- bytes were stored in a writable region, and the other regions are unchanged
pub record Stores (m after : Memory) (address n : ℕ) (bytes : List ℕ) : Type 0 where
  pub region : Region
  pub at : ℕ
  pub place : HasPlace (base_of region) (length (bytes_in region m)) address n at
  pub is : bytes_in region after ≡ overlay (bytes_in region m) at bytes
  pub regions : (r : Region) → (bytes_in r after ≡ bytes_in r m) ⊎ ((r ≡ region) × (bytes_in r after ≡ overlay (bytes_in r m) at bytes))

stores : (m after : Memory) (address word : ℕ) (size : Size) → write_of m address size word ≡ Ok after → Stores m after address (size_bytes size) (low_bytes (size_bytes size) word)
unfolding write_of
stores m after address word size h = grind (arith, nat_tests)

module _ (m after : Memory) (address n : ℕ) (bytes : List ℕ) (fits : length bytes ≡ n) (s : Stores m after address n bytes) where
  room : s.at + length bytes ≤ length (bytes_in s.region m)
  room = grind arith

  room_at : (r : Region) → r ≡ s.region → s.at + length bytes ≤ length (bytes_in r m)
  room_at r e = grind arith

  same_length : (r : Region) → length (bytes_in r after) ≡ length (bytes_in r m)
  same_length r = grind (arith, length-take-le, length-append, length-drop)

  all_after : All (λ b. b < 256) bytes → (r : Region) → All (λ b. b < 256) (bytes_in r m) → All (λ b. b < 256) (bytes_in r after)
  all_after new r old = grind (arith, all-overlay, room_at)

  pub memory_after : All (λ b. b < 256) bytes → IsMemory m → IsMemory after
  memory_after new is = record {
    stack = same_length Stack ∙ is.stack;
    scratch = same_length Scratch ∙ is.scratch;
    verdict = same_length Verdict ∙ is.verdict;
    bytes = λ r. all_after new r (is.bytes r);
  }

  pub stored_byte : IsMemory after → (i : ℕ) → i < n → byte_at after (address + i) ≡ Some (get_or bytes i 0)
  stored_byte is i inside =
      let place = s.place in
      let low = place.low in
      let high = place.high in
      let at_is = place.is in
      let whole = same_length s.region in
      let index : address + i - base_of s.region ≡ s.at + i = omega arith in
      byte_at-region s.region after (address + i) is (omega arith, omega arith)
      ∙ ap Some
      (ap (λ (bs : List ℕ). get_or bs (address + i - base_of s.region) 0) s.is
      ∙ ap (λ (k : ℕ). get_or (overlay (bytes_in s.region m) s.at bytes) k 0) index
      ∙ get_or-overlay_inside (bytes_in s.region m) s.at bytes room i (omega arith))

  outside_place : (other : ℕ) → base_of s.region ≤ other → (other < address) ⊎ (address + n ≤ other) → (other - base_of s.region < s.at) ⊎ (s.at + length bytes ≤ other - base_of s.region)
  outside_place other low h = grind arith

  region_kept : (other : ℕ) → (other < address) ⊎ (address + n ≤ other) → (r : Region) → (r ≡ s.region) → bytes_in r after ≡ overlay (bytes_in r m) s.at bytes → byte_from (base_of r) (bytes_in r after) other ≡ byte_from (base_of r) (bytes_in r m) other
  region_kept other outside r e changed = grind (arith, cases_lt, byte_from-below, byte_from-above, slice_get-overlay_outside, room_at, outside_place)

  pub kept_byte : (other : ℕ) → (other < address) ⊎ (address + n ≤ other) → byte_at after other ≡ byte_at m other
  kept_byte other outside = grind (arith, byte_at-same, region_kept)

-- ---- when a store succeeds

abbrev AllWritable : ℕ → ℕ → Type 0
AllWritable address n = (i : ℕ) → i < n → IsWritable (address + i)

made_at : (m : Memory) (address n : ℕ) (bytes : List ℕ) → 1 ≤ n → IsMemory m
    → IsOk (write_at m bytes (region_of m address n)) ↔ (StandInOne m address n × AllWritable address n)
unfolding is_writable
made_at m address n bytes some is = grind (arith, nat_tests, where_stands m address n some, one_region)

write_done : (m : Memory) (address : ℕ) (size : Size) (word : ℕ) → IsMemory m
    → IsOk (write_of m address size word) ↔ (StandInOne m address (size_bytes size) × AllWritable address (size_bytes size))
unfolding write_of
write_done m address size word is = made_at m address (size_bytes size) _ (some_bytes size) is

constant_at : (m : Memory) (address n : ℕ) (bytes : List ℕ) → 1 ≤ n → IsMemory m
    → (write_at m bytes (region_of m address n) ≡ Err F4) ↔ AllStandIn Constants m address n
constant_at m address n bytes some is = grind arith

write_constant : (m : Memory) (address : ℕ) (size : Size) (word : ℕ) → IsMemory m → (write_of m address size word ≡ Err F4) ↔ AllStandIn Constants m address (size_bytes size)
unfolding write_of
write_constant m address size word is = constant_at m address (size_bytes size) _ (some_bytes size) is

write_outside : (m : Memory) (address : ℕ) (size : Size) (word : ℕ) → (write_of m address size word ≡ Err F3) ↔ (StandInOne m address (size_bytes size) → ⊥)
unfolding write_of
write_outside m address size word = grind (arith, where_stands m address (size_bytes size) (some_bytes size), one_region)

write_memory : (m after : Memory) (address : ℕ) (size : Size) (word : ℕ) → IsMemory m → write_of m address size word ≡ Ok after → IsMemory after
write_memory m after address size word is h =
    let n : ℕ = size_bytes size in
    memory_after m after address n (low_bytes n word) (length_low n word) (stores m after address word size h) (all-low_bytes n word) is

write_written : (m after : Memory) (address : ℕ) (size : Size) (word : ℕ) → IsMemory m → write_of m address size word ≡ Ok after → (i : ℕ)
    → i < size_bytes size → byte_at after (address + i) ≡ Some (byte_of word i)
write_written m after address size word is h i inside =
    let n : ℕ = size_bytes size in
    stored_byte m after address n (low_bytes n word) (length_low n word) (stores m after address word size h) (write_memory m after address size word is h) i inside
    ∙ ap Some (get_or-low_bytes n word i inside)

pub write_laws : WriteIsBytes
write_laws = record {
  written = write_written;
  kept = λ m after address size word h other outside. kept_byte m after address (size_bytes size) (low_bytes (size_bytes size) word) (length_low (size_bytes size) word) (stores m after address word size h) other outside;
  memory = write_memory;
  done = write_done;
  constant = write_constant;
  outside = write_outside;
}
