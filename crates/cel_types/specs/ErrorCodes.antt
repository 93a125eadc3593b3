-- The codes of this crate's errors.
use Rattle.std.specs.Prelude.{ℕ, List, codes}
use Rattle.cel_types.specs.declared.type_error.TypeError.{TypeError}
use Rattle.cel_types.specs.declared.type_error.TypeError.TheVariants.{UnknownIdentifier, NoMatchingOverload, MisusedVariables}

-- the code of a type error: Y1 to Y3
abbrev pub type_error_code : TypeError → List ℕ
type_error_code UnknownIdentifier = codes "Y1"
type_error_code NoMatchingOverload = codes "Y2"
type_error_code MisusedVariables = codes "Y3"
