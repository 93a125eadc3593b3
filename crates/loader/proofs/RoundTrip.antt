-- Reading and writing are inverse to each other.
use Rattle.loader.proofs.Prelude.{◌≡◌, ◌≤◌, ℕ, zero, suc, ◌+◌, ◌*◌, ◌/◌, List, [], ◌∷◌, ◌++◌, length, take, drop, sym, ap, ◌∙◌, arith, length-append, length-drop, Ok, if◌then◌else◌, take-append-drop, drop-drop, take_all, length-take-le, take-append_seam, drop-append_seam, take-length, mul-div_cancel_left, bytes_eq, little_number, little_bytes, Image, IsImage, AreBytes, Version, First, Second, magic, has_magic, slots_in, constants_in, contents_in, file_of, image_in}
use Rattle.loader.proofs.Numbers.{number_back}
use Rattle.loader.proofs.Faults.{HasNoFault, HasShape, shape_of, no_fault, holds}

-- ---- a file without a fault is the file of its contents

-- a list from index i on: the next n items, and the rest
cut : (i n : ℕ) (xs : List ℕ) → drop i xs ≡ take n (drop i xs) ++ drop (i + n) xs
cut i n xs = sym (take-append-drop n (drop i xs)) ∙ ap (λ (ys : List ℕ). take n (drop i xs) ++ ys) (drop-drop n i xs)

bytes-drop : (n : ℕ) (xs : List ℕ) → AreBytes xs → AreBytes (drop n xs)
bytes-drop zero xs bytes i = bytes i
bytes-drop (suc n) [] bytes i = bytes i
bytes-drop (suc n) (x ∷ xs) bytes i = bytes-drop n xs (λ j. bytes (suc j)) i

four : (n : ℕ) (xs : List ℕ) → n + 4 ≤ length xs → AreBytes xs → drop n xs ≡ little_bytes 4 (little_number 4 (drop n xs)) ++ drop (n + 4) xs
four n xs h bytes =
    let enough : 4 ≤ length (drop n xs) = omega (arith, length-drop n xs) in
    cut n 4 xs ∙ ap (λ (ys : List ℕ). ys ++ drop (n + 4) xs) (sym (number_back (drop n xs) enough (bytes-drop n xs bytes)))

-- the lengths of the two parts
pub record HasParts (file : List ℕ) : Type 0 where
  pub code : length (take (8 * slots_in file) (drop 16 file)) ≡ 8 * slots_in file
  pub constants : length (take (constants_in file) (drop (16 + 8 * slots_in file) file)) ≡ constants_in file

parts_of : (file : List ℕ) → HasShape file → HasParts file
parts_of file s = grind (arith, length-take-le, length-drop)

slots_first : (file : List ℕ) → 12 ≤ length file → AreBytes file → drop 8 file ≡ little_bytes 4 (slots_in file) ++ drop 12 file
unfolding slots_in
slots_first file h bytes = four 8 file h bytes

constants_next : (file : List ℕ) → 16 ≤ length file → AreBytes file → drop 12 file ≡ little_bytes 4 (constants_in file) ++ drop 16 file
unfolding constants_in
constants_next file h bytes = four 12 file h bytes

-- the rest of a text after its first part may be replaced by an equal one
behind : (text part rest other : List ℕ) → text ≡ part ++ rest → rest ≡ other → text ≡ part ++ other
behind text part rest other is same = is ∙ ap (λ (xs : List ℕ). part ++ xs) same

-- a file is its head, its code and its constants
whole : (file : List ℕ) → AreBytes file → HasShape file
    → file ≡ magic (if has_magic First file then First else Second) ++ (little_bytes 4 (slots_in file) ++ (little_bytes 4 (constants_in file) ++ (take (8 * slots_in file) (drop 16 file) ++ take (constants_in file) (drop (16 + 8 * slots_in file) file))))
whole file bytes s =
    let e = s.length_is in
    let head = sym (take-append-drop 8 file) ∙ ap (λ (xs : List ℕ). xs ++ drop 8 file) s.magic_is in
    let last = sym (take_all (constants_in file) (drop (16 + 8 * slots_in file) file) (omega (arith, length-drop (16 + 8 * slots_in file) file))) in
    behind file (magic (if has_magic First file then First else Second)) (drop 8 file) _ head
    (behind _ (little_bytes 4 (slots_in file)) (drop 12 file) _ (slots_first file (omega arith) bytes)
    (behind _ (little_bytes 4 (constants_in file)) (drop 16 file) _ (constants_next file (omega arith) bytes)
    (behind _ (take (8 * slots_in file) (drop 16 file)) (drop (16 + 8 * slots_in file) file) _ (cut 16 (8 * slots_in file) file) last)))

-- the file of the contents is written with the numbers that were read
pub file_whole : (file : List ℕ) → AreBytes file → HasNoFault file → file ≡ file_of (contents_in file)
unfolding file_of
file_whole file bytes f = grind (arith, shape_of, parts_of, mul-div_cancel_left, whole)

pub file_image : (file : List ℕ) → HasNoFault file → IsImage (contents_in file)
file_image file f =
    let s = shape_of file f in
    let p = parts_of file s in
    omega arith

-- ---- the file of an image is read as it

-- the fields of a written file
pub record HasFields (c : Image) : Type 0 where
  pub slots : slots_in (file_of c) ≡ length c.code / 8
  pub constants : constants_in (file_of c) ≡ length c.constants
  pub parts : drop 16 (file_of c) ≡ c.code ++ c.constants
  pub length_is : length (file_of c) ≡ 16 + (length c.code + length c.constants)
  pub magic_is : take 8 (file_of c) ≡ magic c.version
  pub version : (if has_magic First (file_of c) then First else Second) ≡ c.version

own_version : (v : Version) → (if bytes_eq (magic v) (magic First) then First else Second) ≡ v
unfolding magic
own_version v = grind arith

fields_of : (c : Image) → IsImage c → HasFields c
unfolding magic file_of slots_in constants_in
fields_of c i = grind (arith, length-append, own_version)

shape_written : (c : Image) → IsImage c → HasShape (file_of c)
shape_written c i =
    let f = fields_of c i in
    record {
      magic_is = f.magic_is ∙ ap magic (sym f.version);
      some_slots = omega arith;
      most_slots = omega arith;
      most_constants = omega arith;
      length_is = omega arith;
    }

contents_written : (c : Image) → IsImage c → contents_in (file_of c) ≡ c
contents_written c i =
    let f = fields_of c i in
    let slots = f.slots in
    let version = f.version in
    let whole_slots = i.whole_slots in
    let bytes : 8 * slots_in (file_of c) ≡ length c.code = omega arith in
    let code : take (8 * slots_in (file_of c)) (drop 16 (file_of c)) ≡ c.code =
    ap (λ (n : ℕ). take n (drop 16 (file_of c))) bytes
    ∙ (ap (take (length c.code)) f.parts ∙ take-append_seam c.code c.constants) in
    let rest : drop (16 + 8 * slots_in (file_of c)) (file_of c) ≡ c.constants =
    ap (λ (n : ℕ). drop (16 + n) (file_of c)) bytes
    ∙ (sym (drop-drop (length c.code) 16 (file_of c)) ∙ (ap (drop (length c.code)) f.parts ∙ drop-append_seam c.code c.constants)) in
    let constants : take (constants_in (file_of c)) (drop (16 + 8 * slots_in (file_of c)) (file_of c)) ≡ c.constants =
    ap (λ (n : ℕ). take n (drop (16 + 8 * slots_in (file_of c)) (file_of c))) f.constants
    ∙ (ap (take (length c.constants)) rest ∙ take-length c.constants) in
    λ j. record { version = version j; code = code j; constants = constants j }

pub reads_back : (c : Image) → IsImage c → image_in (file_of c) ≡ Ok c
reads_back c i = holds (file_of c) (no_fault (file_of c) (shape_written c i)) ∙ ap Ok (contents_written c i)
