-- Codes of the errors.
use Rattle.std.specs.Prelude.{ℕ, List, codes}
use Rattle.loader.specs.declared.load_error.LoadError.{LoadError}
use Rattle.loader.specs.declared.load_error.LoadError.TheVariants.{TooShort, UnknownMagic, BadSlotCount, ConstantsTooLong, BadLength, Memory}

-- the code of a refused image: L1 to L5, or memory
abbrev pub load_error_code : LoadError → List ℕ
load_error_code TooShort = codes "L1"
load_error_code UnknownMagic = codes "L2"
load_error_code BadSlotCount = codes "L3"
load_error_code ConstantsTooLong = codes "L4"
load_error_code BadLength = codes "L5"
load_error_code Memory = codes "memory"
