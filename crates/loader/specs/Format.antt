-- The file format of an image: the eight bytes CELBPF01, or CELBPF02 for version 2; the number of slots of the
-- code; the number of bytes of the constants; the code with 8 bytes per slot; and the constants, with nothing after
-- them. Each number has four bytes in little-endian order.
use Rattle.std.specs.Prelude.{ℕ, ◌+◌, ◌*◌, ◌/◌, ◌%◌, Bool, not, ◌||◌, nat_eq, nat_lt, if◌then◌else◌, List, [], ◌∷◌, ◌++◌, length, take}
use Rattle.std.specs.Prelude.{drop, Result, Ok, Err, codes}
use Rattle.std.specs.Str.{bytes_eq}
use Rattle.byteorder.specs.Endian.{little_number, little_bytes}
use Rattle.insn_codec.specs.Limits.{slot_limit}
use Rattle.loader.specs.Limits.{constants_limit}
use Rattle.loader.specs.Contents.{Image, version_number}
use Rattle.loader.specs.declared.load_error.LoadError.{LoadError, TheVariants.TooShort, TheVariants.UnknownMagic, TheVariants.BadSlotCount, TheVariants.ConstantsTooLong, TheVariants.BadLength}
use Rattle.loader.specs.declared.version.Version.{Version, TheVariants.First, TheVariants.Second}

-- the first bytes of each file of a version: this text and the version's digit
unfoldable pub magic : Version → List ℕ
magic version = codes "CELBPF0" ++ ((48 + version_number version) ∷ [])

-- the file of an image
unfoldable pub file_of : Image → List ℕ
file_of c =
    magic c.version
    ++ (little_bytes 4 (length c.code / 8) ++ (little_bytes 4 (length c.constants) ++ (c.code ++ c.constants)))

-- whether a file begins with the first bytes of a version
abbrev pub has_magic : Version → List ℕ → Bool
has_magic version file = bytes_eq (take 8 file) (magic version)

-- the number of slots that a file states
unfoldable pub slots_in : List ℕ → ℕ
slots_in file = little_number 4 (drop 8 file)

-- the number of bytes of constants that a file states
unfoldable pub constants_in : List ℕ → ℕ
constants_in file = little_number 4 (drop 12 file)

-- whether no image has this many slots
abbrev pub is_bad_count : ℕ → Bool
is_bad_count slots = nat_eq slots 0 || nat_lt slot_limit slots

-- whether no image has this many bytes of constants
abbrev pub is_too_long : ℕ → Bool
is_too_long constants = nat_lt constants_limit constants

-- the version, the code and the constants of a file that is not refused
abbrev pub contents_in : List ℕ → Image
contents_in file = record {
  version = if has_magic First file then First else Second;
  code = take (8 * slots_in file) (drop 16 file);
  constants = take (constants_in file) (drop (16 + 8 * slots_in file) file);
}

-- the image of a file, or the first cause for which the file is refused: it has fewer than the 16 bytes before the code; it
-- begins with the first bytes of no version; it states no slots or too many, or too many bytes of constants; it has
-- another length
unfoldable pub image_in : List ℕ → Result Image LoadError
image_in file =
    if nat_lt (length file) 16 then Err TooShort
    else (if not (has_magic First file || has_magic Second file) then Err UnknownMagic
    else (if is_bad_count (slots_in file) then Err BadSlotCount
    else (if is_too_long (constants_in file) then Err ConstantsTooLong
    else (if not (nat_eq (length file) (16 + 8 * slots_in file + constants_in file)) then Err BadLength
    else Ok (contents_in file)))))

-- the image of a version with this code and these constants, or the first cause for which they are refused: the code ends
-- within a slot, it has no slots or too many, or the constants are too long
unfoldable pub image_from : Version → List ℕ → List ℕ → Result Image LoadError
image_from version code constants =
    if not (nat_eq (length code % 8) 0) then Err BadLength
    else (if is_bad_count (length code / 8) then Err BadSlotCount
    else (if is_too_long (length constants) then Err ConstantsTooLong
    else Ok (record { version = version; code = code; constants = constants })))
