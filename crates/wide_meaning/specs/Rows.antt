-- The cases worked out by hand.
pub mod Optional
pub mod Plain
pub mod Lists
use Rattle.wide_meaning.specs.Rows.Optional.{OptionalRows}
use Rattle.wide_meaning.specs.Rows.Plain.{PlainRows}
use Rattle.wide_meaning.specs.Rows.Lists.{ListRows}

-- each case is the meaning that the definitions give
pub record WideRowsHold : Type 0 where
  pub optional : OptionalRows
  pub plain : PlainRows
  pub lists : ListRows
