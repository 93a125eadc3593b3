-- The helpers in the order of their numbers, starting with helper 1.
use Rattle.std.specs.Prelude.{ℕ, zero, suc, ℤ, List, [], ◌∷◌, Option, None, option_and_then, slice_get}
use Rattle.helper_table.specs.Operands.{place_of}
use Rattle.helper_table.specs.declared.helper.Helper.{Helper, TheVariants.Count, TheVariants.TextOfInt, TheVariants.Not}
use Rattle.helper_table.specs.declared.helper.Helper.TheVariants.{Kind, IntOf, IntNew, TextConst, Field, Has, Index, Size, Equal, Less}
use Rattle.helper_table.specs.declared.helper.Helper.TheVariants.{Join, Starts, Ends, Contains, Member, ListNew, Push, MapNew, Put, Item}

-- all helpers
abbrev pub helpers : List Helper
helpers =
    Kind ∷ IntOf ∷ IntNew ∷ TextConst ∷ Field ∷ Has ∷ Index ∷ Size ∷ Equal ∷ Less ∷ Join ∷ Starts ∷ Ends ∷ Contains ∷ Member ∷ ListNew
    ∷ Push ∷ MapNew ∷ Put ∷ Item ∷ Count ∷ TextOfInt ∷ Not ∷ []

-- the helper with a number; none has 0
abbrev pub numbered : ℕ → Option Helper
numbered zero = None
numbered (suc place) = slice_get helpers place

-- the helper with a number, if any
unfoldable pub of_number : ℤ → Option Helper
of_number z = option_and_then numbered (place_of z)
