-- A question mark before a part, or none.
use Rattle.std.specs.Prelude.{◌≡◌, List, ◌∷◌}
use Rattle.wide_tokens.specs.Token.{WideWord, mark}
use Rattle.cel_tokens.specs.declared.mark.Mark.TheVariants.{Question}
use Rattle.wide_reader.specs.Look.{at, WideIsNotNext}
use Rattle.wide_reader.specs.declared.wide.Access.{Access, TheVariants.Plain, TheVariants.Optional}

-- the words begin with a question mark exactly if the part is optional, and `rest` are those after it
abbrev pub Starts : Access → List WideWord → List WideWord → Type 0
Starts Plain ws rest = (ws ≡ rest) × WideIsNotNext (at Question) ws
Starts Optional ws rest = ws ≡ mark Question ∷ rest
