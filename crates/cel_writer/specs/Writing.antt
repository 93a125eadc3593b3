-- Texts that are read as an expression.
use Rattle.std.specs.Prelude.{◌≡◌, ◌≢◌, ℕ, List, Result, Ok, Err, String, string_bytes}
use Rattle.std.specs.Global.{Global}
use Rattle.cel_tokens.specs.declared.read_error.ReadError.{ReadError}
use Rattle.cel_tokens.specs.declared.read_error.ReadError.TheVariants as read_error
use Rattle.cel_reader.specs.Answers.{HasTokens, IsExpression}
use Rattle.cel_reader.specs.Limits.{open_limit}
use Rattle.cel_reader.specs.Tree.{Tree}
use Rattle.cel_writer.specs.Printed.{printed}
use Rattle.cel_writer.specs.declared.write_error.WriteError.{WriteError, TheVariants.Unreadable, TheVariants.Memory}

-- the text of the expression is read as the expression
abbrev pub IsReadBack : Tree → Type 0
IsReadBack a = HasTokens (printed a) (λ ws. IsExpression open_limit ws a)

-- what each result means for the expression; an allocation can fail for any
abbrev pub WritesBack : Tree → Result (String Global) WriteError → Type 0
WritesBack a (Ok text) = (string_bytes text ≡ printed a) × IsReadBack a
WritesBack a (Err Unreadable) = IsReadBack a → ⊥
WritesBack a (Err Memory) = Unit {0}

-- the error for a text that is not read
abbrev pub unread_error : ReadError → WriteError
unread_error read_error.Memory = Memory
unread_error e = Unreadable

-- the text, if what was read is what was written
abbrev pub ReturnsChecked : List ℕ → Tree → Tree → Result (String Global) WriteError → Type 0
ReturnsChecked text back a (Ok s) = (string_bytes s ≡ text) × (back ≡ a)
ReturnsChecked text back a (Err Unreadable) = back ≢ a
ReturnsChecked text back a (Err Memory) = ⊥
