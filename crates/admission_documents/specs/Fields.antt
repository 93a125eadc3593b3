-- The results of reading fields.
use Rattle.std.specs.Prelude.{◌≡◌, Option, Some, None, Result, Ok, Err}
use Rattle.admission_documents.specs.declared.field_error.FieldError.{FieldError}
use Rattle.admission_documents.specs.declared.field_error.FieldError.TheVariants.{InvalidField, Memory}

-- the part, as `see` shows it, or InvalidField if its form is wrong; or an allocation failed
abbrev pub ReadsField : {A B : Type 0} → (B → A) → Option A → Result B FieldError → Type 0
ReadsField see part (Ok b) = part ≡ Some (see b)
ReadsField see part (Err InvalidField) = part ≡ None
ReadsField see part (Err Memory) = Unit {0}
