-- The bytes at addresses.
use Rattle.guest_memory.proofs.Prelude.{◌≡◌, ℕ, ◌+◌, ◌-◌, ◌<◌, ◌≤◌, List, length, get_or, false, Some, None, arith, slice_get, nat_le, le-leb, slice_get-get_or, slice_get_past, Memory, Region, Stack, Scratch, Verdict, Constants, IsMemory, bytes_in, base_of, byte_from, byte_at, StandsIn}

pub not_le : (a b : ℕ) → b < a → nat_le a b ≡ false
not_le a b h = grind arith

pub byte_from-below : (base : ℕ) (bytes : List ℕ) (address : ℕ) → address < base → byte_from base bytes address ≡ None
byte_from-below base bytes address h = grind arith

pub byte_from-above : (base : ℕ) (bytes : List ℕ) (address : ℕ) → base ≤ address → byte_from base bytes address ≡ slice_get bytes (address - base)
byte_from-above base bytes address h = grind arith

pub byte_from-past : (base : ℕ) (bytes : List ℕ) (address : ℕ) → base + length bytes ≤ address → byte_from base bytes address ≡ None
byte_from-past base bytes address h = grind (arith, le-leb, slice_get_past)

pub byte_from-inside : (base : ℕ) (bytes : List ℕ) (address : ℕ) → base ≤ address → address < base + length bytes → byte_from base bytes address ≡ Some (get_or bytes (address - base) 0)
byte_from-inside base bytes address low high = grind (arith, le-leb, slice_get-get_or)

-- the byte at an address of a region
pub byte_at-region : (r : Region) (m : Memory) (address : ℕ) → IsMemory m → StandsIn r m address → byte_at m address ≡ Some (get_or (bytes_in r m) (address - base_of r) 0)
unfolding byte_at
byte_at-region r m address is stands = grind (arith, le-leb, slice_get-get_or, slice_get_past)

-- memories whose regions have the same byte at an address
pub byte_at-same : (m other : Memory) (address : ℕ) → ((r : Region) → byte_from (base_of r) (bytes_in r other) address ≡ byte_from (base_of r) (bytes_in r m) address) → byte_at other address ≡ byte_at m address
unfolding byte_at
byte_at-same m other address same = cc (same Stack, same Scratch, same Verdict, same Constants)
