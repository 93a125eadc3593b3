-- The checks for faults, in numbers.
use Rattle.loader.proofs.Prelude.{◌≡◌, ◌≤◌, ◌==◌, ℕ, ◌+◌, ◌*◌, Bool, false, not, ◌||◌, List, length, take, arith, if◌then◌else◌, Result, Ok, Err, ltb-false, le-ltb, nat_tests, bytes_eq-Decides, bytes_eq, Image, First, Second, magic, slots_in, constants_in, is_bad_count, is_too_long, has_magic, contents_in, image_in, LoadError, slot_limit, constants_limit}
use Rattle.std.specs.Prelude.{nat_lt}

-- the file has no fault
pub record HasNoFault (file : List ℕ) : Type 0 where
  pub short : nat_lt (length file) 16 ≡ false
  pub magic : not (has_magic First file || has_magic Second file) ≡ false
  pub slots : is_bad_count (slots_in file) ≡ false
  pub constants : is_too_long (constants_in file) ≡ false
  pub whole : not (length file == 16 + 8 * slots_in file + constants_in file) ≡ false

-- the file has no fault, in numbers
pub record HasShape (file : List ℕ) : Type 0 where
  pub magic_is : take 8 file ≡ magic (if has_magic First file then First else Second)
  pub some_slots : 1 ≤ slots_in file
  pub most_slots : slots_in file ≤ slot_limit
  pub most_constants : constants_in file ≤ constants_limit
  pub length_is : length file ≡ 16 + 8 * slots_in file + constants_in file

same_bytes : (xs ys : List ℕ) → not (bytes_eq xs ys) ≡ false → xs ≡ ys
same_bytes xs ys h = (bytes_eq-Decides xs ys).0 (grind arith)

-- a list that is the magic of a version: of the one that is compared first, or of the other
version_of : (xs : List ℕ) (first : Bool) → bytes_eq xs (magic First) ≡ first → not (first || bytes_eq xs (magic Second)) ≡ false → xs ≡ magic (if first then First else Second)
version_of xs first e h = grind (arith, same_bytes)

known_magic : (xs : List ℕ) (first : Bool) → xs ≡ magic (if first then First else Second) → not (first || bytes_eq xs (magic Second)) ≡ false
known_magic xs first e = grind (arith, bytes_eq-Decides)

pub same_number : (a b : ℕ) → not (a == b) ≡ false → a ≡ b
same_number a b h = grind (arith, nat_tests)

pub some_slots : (n : ℕ) → is_bad_count n ≡ false → 1 ≤ n
some_slots n h = grind (arith, nat_tests)

pub most_slots : (n : ℕ) → is_bad_count n ≡ false → n ≤ slot_limit
most_slots n h = grind (arith, nat_tests)

pub good_count : (n : ℕ) → 1 ≤ n → n ≤ slot_limit → is_bad_count n ≡ false
good_count n some most = grind (arith, nat_tests)

pub shape_of : (file : List ℕ) → HasNoFault file → HasShape file
shape_of file f = grind (arith, version_of, some_slots, most_slots, ltb-false, same_number)

pub no_fault : (file : List ℕ) → HasShape file → HasNoFault file
no_fault file s = grind (arith, le-ltb, known_magic, good_count, some_slots, most_slots, nat_tests)

pub passed : (b : Bool) (e : LoadError) (r : Result Image LoadError) → b ≡ false → (if b then Err e else r) ≡ r
passed b e r h = grind arith

pub holds : (file : List ℕ) → HasNoFault file → image_in file ≡ Ok (contents_in file)
unfolding image_in
holds file f = grind arith

-- an image was read, so the check passed
pub record Passes (b : Bool) (r : Result Image LoadError) (c : Image) : Type 0 where
  pub test : b ≡ false
  pub rest : r ≡ Ok c

pub passes : (b : Bool) (e : LoadError) (r : Result Image LoadError) (c : Image) → (if b then Err e else r) ≡ Ok c → Passes b r c
passes b e r c h = grind arith

-- a file that is read as an image has no fault, and the image has its contents
pub record HasContents (file : List ℕ) (c : Image) : Type 0 where
  pub no_fault : HasNoFault file
  pub are : contents_in file ≡ c

pub held : (file : List ℕ) (c : Image) → image_in file ≡ Ok c → HasContents file c
unfolding image_in
held file c h =
    let short = passes _ _ _ _ h in
    let magic_is = passes _ _ _ _ short.rest in
    let slots = passes _ _ _ _ magic_is.rest in
    let constants = passes _ _ _ _ slots.rest in
    let whole = passes _ _ _ _ constants.rest in
    let last = whole.rest in
    record {
      no_fault = record { short = short.test; magic = magic_is.test; slots = slots.test; constants = constants.test; whole = whole.test };
      are = cc;
    }
