-- Codes of the errors for a review's roots.
use Rattle.std.specs.Prelude.{ℕ, List, codes}
use Rattle.value_store.specs.declared.table_error.TableError.{TableError}
use Rattle.value_store.specs.declared.table_error.TableError.TheVariants.{NotAnObject, NumberOutOfInt64, RootsTooLarge, Memory}

-- the code of a root's error: V1 to V3, or memory
abbrev pub table_error_code : TableError → List ℕ
table_error_code (NotAnObject root) = codes "V1"
table_error_code (NumberOutOfInt64 root) = codes "V2"
table_error_code RootsTooLarge = codes "V3"
table_error_code Memory = codes "memory"
