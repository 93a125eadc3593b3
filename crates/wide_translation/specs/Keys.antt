-- Indices that are no literals, and indices of values.
use Rattle.std.specs.Prelude.{◌≡◌, Bool, true, false, None}
use Rattle.wide_reader.specs.Tree.{Wide}
use Rattle.wide_reader.specs.declared.wide.Access.{Access, TheVariants.Plain, TheVariants.Optional}
use Rattle.wide_translation.specs.Carried.{Carried, plain, guarded, listed}
use Rattle.wide_translation.specs.Translated.{text_literal, count_literal}

-- the index is neither a text literal nor an int literal of at least 0
abbrev pub IsNoLiteralKey : Wide → Type 0
IsNoLiteralKey k = (text_literal k ≡ None) × (count_literal k ≡ None)

-- whether an index without a question mark is that of a value
abbrev pub is_index_of_value : Access → Carried → Bool
is_index_of_value Plain (plain k t) = true
is_index_of_value Plain (guarded k g v) = false
is_index_of_value Plain (listed k l) = false
is_index_of_value Optional c = false
