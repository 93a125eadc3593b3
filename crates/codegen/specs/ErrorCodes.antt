-- The codes of this crate's errors.
use Rattle.std.specs.Prelude.{ℕ, List, codes}
use Rattle.codegen.specs.declared.code_error.CodeError.{CodeError}
use Rattle.codegen.specs.declared.code_error.CodeError.TheVariants.{NeedsTooManyWords, VariableTooDeep, TooManyNodes, TooManyTextBytes, Memory}

-- the code of a code error: G1 to G4 or memory
abbrev pub code_error_code : CodeError → List ℕ
code_error_code NeedsTooManyWords = codes "G1"
code_error_code VariableTooDeep = codes "G2"
code_error_code TooManyNodes = codes "G3"
code_error_code TooManyTextBytes = codes "G4"
code_error_code Memory = codes "memory"
