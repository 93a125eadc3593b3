-- Bytes as pages.
use Rattle.std.specs.Prelude.{ℕ, List, [], ◌∷◌, ◌++◌}
use Rattle.guest_memory.specs.PageBytes.{bytes_or_zeros}
use Rattle.guest_memory.specs.declared.page.Page.{Page}

-- the bytes of all pages, in order
abbrev pub joined : List Page → List ℕ
joined [] = []
joined (p ∷ ps) = bytes_or_zeros p.bytes ++ joined ps
