-- Codes of the errors.
use Rattle.std.specs.Prelude.{ℕ, List, codes}
use Rattle.disassembler.specs.declared.dis_error.DisError.{DisError}
use Rattle.disassembler.specs.declared.dis_error.DisError.TheVariants.{PartialSlot, CodeTooLong, Memory}

-- the code of a refused listing: D1 or D2, or memory
abbrev pub dis_error_code : DisError → List ℕ
dis_error_code PartialSlot = codes "D1"
dis_error_code CodeTooLong = codes "D2"
dis_error_code Memory = codes "memory"
