-- Texts that are read again.
use Rattle.std.proofs.Common.{◌≡◌, ◌≢◌, ℕ, List, Result, Ok, Err, MatchResult, sym, subst, ◌∙◌, String, Global}
use Rattle.cel_tokens.specs.Lexis.{Lexes}
use Rattle.cel_tokens.specs.Token.{Token}
use Rattle.cel_tokens.specs.declared.read_error.ReadError.{ReadError}
use Rattle.cel_tokens.specs.declared.read_error.ReadError.TheVariants as read_error
use Rattle.cel_reader.specs.Answers.{HasTokens, IsExpression, ReadReturns}
use Rattle.cel_reader.specs.Limits.{open_limit}
use Rattle.cel_reader.specs.Look.{words_only}
use Rattle.cel_reader.specs.Tree.{Tree, view}
use Rattle.cel_reader.specs.declared.expr.Expr.{Expr}
use Rattle.cel_writer.specs.Printed.{printed}
use Rattle.cel_writer.specs.Writing.{IsReadBack, ReturnsChecked, WritesBack, unread_error}
use Rattle.cel_writer.specs.declared.write_error.WriteError.{WriteError}
use Rattle.cel_writer.specs.declared.write_error.WriteError.TheVariants as error

-- what the reader says of a text that has tokens which form an expression
abbrev pub IsOnly : List ℕ → Result Expr ReadError → Type 0
IsOnly text r = (lexemes : List Token) (a : Tree) → Lexes text (Ok lexemes) → IsExpression open_limit (words_only lexemes) a → MatchResult r (λ e. view e ≡ a) (λ e. e ≡ read_error.Memory)

unread_by : (a : Tree) (e : ReadError) → (e ≢ read_error.Memory → IsReadBack a → ⊥) → WritesBack a (Err (unread_error e))
unread_by a read_error.Memory none = tt
unread_by a (read_error.UnknownCharacter place) none = none (λ is. cc)
unread_by a (read_error.InvalidTextLiteral place) none = none (λ is. cc)
unread_by a (read_error.IntOutOfRange place) none = none (λ is. cc)
unread_by a (read_error.UnexpectedToken place) none = none (λ is. cc)
unread_by a (read_error.TooManyOpen place) none = none (λ is. cc)
unread_by a (read_error.TextTooLong place) none = none (λ is. cc)

pub unread_is : (a : Tree) (text : List ℕ) (e : ReadError) (w : WriteError) → text ≡ printed a → IsOnly text (Err e) → w ≡ unread_error e → WritesBack a (Err w)
unread_is a text e w is only why =
    let none : IsOnly (printed a) (Err e) = subst (λ (t : List ℕ). IsOnly t (Err e)) is only in
    subst (λ (x : WriteError). WritesBack a (Err x)) (sym why) (unread_by a e (λ some back. some (none back.0 a back.1 back.2)))

pub checked_is : (a : Tree) (text : List ℕ) (back : Expr) (r : Result (String Global) WriteError) → text ≡ printed a → ReadReturns text (Ok back) → IsOnly text (Ok back)
    → ReturnsChecked text (view back) a r → WritesBack a r
checked_is a text back (Ok s) is reads only same =
    (same.0 ∙ is, subst (λ (b : Tree). HasTokens (printed a) (λ ws. IsExpression open_limit ws b)) same.1 (subst (λ (t : List ℕ). HasTokens t (λ ws. IsExpression open_limit ws (view back))) is reads))
checked_is a text back (Err error.Unreadable) is reads only other =
    let one : IsOnly (printed a) (Ok back) = subst (λ (t : List ℕ). IsOnly t (Ok back)) is only in
    λ whole. other (one whole.0 a whole.1 whole.2)
checked_is a text back (Err error.Memory) is reads only other = tt
