-- Results of the loader.
use Rattle.std.specs.Prelude.{◌≡◌, Result, Ok, Err}
use Rattle.loader.specs.Contents.{Image}
use Rattle.loader.specs.declared.load_error.LoadError.{LoadError}
use Rattle.loader.specs.declared.load_error.LoadError.TheVariants.{TooShort, UnknownMagic, BadSlotCount, ConstantsTooLong, BadLength, Memory}

-- the result is the one that is due, or an allocation failed
abbrev pub Loads : Result Image LoadError → Result Image LoadError → Type 0
Loads due (Ok image) = due ≡ Ok image
Loads due (Err TooShort) = due ≡ Err TooShort
Loads due (Err UnknownMagic) = due ≡ Err UnknownMagic
Loads due (Err BadSlotCount) = due ≡ Err BadSlotCount
Loads due (Err ConstantsTooLong) = due ≡ Err ConstantsTooLong
Loads due (Err BadLength) = due ≡ Err BadLength
Loads due (Err Memory) = Unit {0}
