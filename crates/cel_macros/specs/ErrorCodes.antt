-- Codes of the errors in macros.
use Rattle.std.specs.Prelude.{ℕ, List, codes}
use Rattle.cel_macros.specs.declared.macro_error.MacroError.{MacroError}
use Rattle.cel_macros.specs.declared.macro_error.MacroError.TheVariants.{WrongArgumentCount, InvalidIterationName, HasWithoutSelection, Memory}

-- the code of an invalid macro: M1 to M3, or memory
abbrev pub macro_error_code : MacroError → List ℕ
macro_error_code WrongArgumentCount = codes "M1"
macro_error_code InvalidIterationName = codes "M2"
macro_error_code HasWithoutSelection = codes "M3"
macro_error_code Memory = codes "memory"
