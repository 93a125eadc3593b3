-- The region of a range of addresses.
use Rattle.guest_memory.proofs.Prelude.{◌≡◌, ℕ, ◌+◌, ◌-◌, ◌*◌, ◌/◌, ◌%◌, ◌^◌, ◌<◌, ◌≤◌, length, nat_tests, Option, Some, None, arith, ◌⊎◌, Memory, Region, bytes_in, base_of, place_of, region_of, AllStandIn, StandInOne}

pub record HasPlace (base len address n at : ℕ) : Type 0 where
  pub low : base ≤ address
  pub high : address + n ≤ base + len
  pub is : at ≡ address - base

-- what a result of region_of means
abbrev Says : Memory → ℕ → ℕ → Option (Region × ℕ) → Type 0
Says m address n (Some (r, at)) = HasPlace (base_of r) (length (bytes_in r m)) address n at
Says m address n None = (r : Region) → place_of (base_of r) (length (bytes_in r m)) address n ≡ None

-- all of a range is in a region, from an offset on
pub record IsInside (m : Memory) (address n : ℕ) : Type 0 where
  pub region : Region
  pub at : ℕ
  pub is : region_of m address n ≡ Some (region, at)
  pub place : HasPlace (base_of region) (length (bytes_in region m)) address n at

-- no region has all of a range
pub record IsOutside (m : Memory) (address n : ℕ) : Type 0 where
  pub is : region_of m address n ≡ None
  pub none : StandInOne m address n → ⊥

pub all_stand : (r : Region) (m : Memory) (address n at : ℕ) → HasPlace (base_of r) (length (bytes_in r m)) address n at → AllStandIn r m address n
all_stand r m address n at p i inside = grind arith

-- a range is either in one region or in none
pub where_stands : (m : Memory) (address n : ℕ) → 1 ≤ n → IsInside m address n ⊎ IsOutside m address n
where_stands m address n some = grind arith

pub one_region : (m : Memory) (address n : ℕ) → IsInside m address n → StandInOne m address n
one_region m address n i = grind arith

-- a region in pages of 256 bytes: it begins at a page boundary, and its end fits a word
pub record IsPaged (base len : ℕ) : Type 0 where
  pub word : base < 2 ^ 64
  pub first : base % 256 ≡ 0
  pub most : len ≤ 65536

-- an address below a region is past its last page, since the difference wraps
pub place_in_page : (base len address n page : ℕ) → address < 2 ^ 64 → IsPaged base len → n ≤ 256 → page ≡ (address / 256 + (18446744073709551616 - base / 256)) % 18446744073709551616
    → page < len / 256 → address % 256 ≤ 256 - n → place_of base len address n ≡ Some (256 * page + address % 256)
place_in_page base len address n page word paged short is inside within =
    let base_word = paged.word in
    let first = paged.first in
    let most = paged.most in
    let low : base ≤ address = omega arith in
    let high : address + n ≤ base + len = omega arith in
    let at : address - base ≡ 256 * page + address % 256 = omega arith in
    grind (arith, nat_tests)

-- the first byte of a range is in no page of the region
pub place_beyond : (base len address n page : ℕ) → address < 2 ^ 64 → IsPaged base len → len % 256 ≡ 0 → 1 ≤ n
    → page ≡ (address / 256 + (18446744073709551616 - base / 256)) % 18446744073709551616 → len / 256 ≤ page → place_of base len address n ≡ None
place_beyond base len address n page word paged whole some is past =
    let base_word = paged.word in
    let first = paged.first in
    let most = paged.most in
    let outside : base ≤ address → base + len ≤ address = (λ low. omega (arith, low)) in
    grind (arith, nat_tests)
