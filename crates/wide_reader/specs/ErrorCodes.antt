-- Codes and positions of the errors of a text.
use Rattle.std.specs.Prelude.{ℕ, List, Option, None, Some, codes}
use Rattle.cel_tokens.specs.ErrorCodes.{read_error_code, read_error_place}
use Rattle.wide_reader.specs.declared.wide_error.MacroFault.{MacroFault, TheVariants.ArgumentCount, TheVariants.IterationName, TheVariants.NoSelection, TheVariants.ComputedMap}
use Rattle.wide_reader.specs.declared.wide_error.WideReadError.{WideReadError, TheVariants.Text, TheVariants.Bytes, TheVariants.Double, TheVariants.Macro}

-- the words of a macro's fault
abbrev pub fault_words : MacroFault → List ℕ
fault_words ArgumentCount = codes "a macro has another number of arguments"
fault_words IterationName = codes "an iteration name is no plain identifier, or stands twice"
fault_words NoSelection = codes "the argument of `has` selects no field"
fault_words ComputedMap = codes "no expression of the profile builds a map of computed keys"

-- the code of a macro's fault
abbrev pub fault_code : MacroFault → List ℕ
fault_code ArgumentCount = codes "M1"
fault_code IterationName = codes "M2"
fault_code NoSelection = codes "M3"
fault_code ComputedMap = codes "W3"

-- the code of an error
abbrev pub error_code : WideReadError → List ℕ
error_code (Text e) = read_error_code e
error_code (Bytes place) = codes "W1"
error_code (Double place) = codes "W2"
error_code (Macro fault) = fault_code fault

-- the byte at which the text is refused, counted from 0
abbrev pub error_place : WideReadError → Option ℕ
error_place (Text e) = read_error_place e
error_place (Bytes place) = Some place
error_place (Double place) = Some place
error_place (Macro fault) = None
