-- Each code has one listing.
use Rattle.std.specs.Prelude.{◌≡◌, ℕ, List}
use Rattle.insn_codec.specs.Statements.{Listing}

-- each code has exactly one listing
abbrev pub OneListing : Type 0
OneListing = (code : List ℕ) → (text : List ℕ) × Listing code text × ((other : List ℕ) → Listing code other → other ≡ text)
