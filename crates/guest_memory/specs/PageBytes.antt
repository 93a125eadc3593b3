-- The bytes of a page.
use Rattle.std.specs.Prelude.{ℕ, List, replicate, Option, Some, None}
use Rattle.std.specs.declared.alloc.Global.{Global}
use Rattle.std.specs.declared.rc.Rc.{Rc}

-- the bytes that are kept, or else 256 zeros
abbrev pub bytes_or_zeros : Option (Rc (List ℕ) Global) → List ℕ
bytes_or_zeros (Some kept) = kept.value
bytes_or_zeros None = replicate 256 0
