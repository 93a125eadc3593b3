-- The position of an access in a region of pages.
use Rattle.std.specs.Prelude.{◌≡◌, ℕ, ◌+◌, ◌*◌, ◌≤◌, Some, None, ⊤}
use Rattle.guest_memory.specs.Access.{place_of}
use Rattle.guest_memory.specs.declared.page_span.PageSpan.{PageSpan, TheVariants.Within, TheVariants.Across, TheVariants.Beyond}

-- the position of n bytes at an address in a region with this base and length: at this offset of one page,
-- not completely in the region, or, for `Across`, not stated
abbrev pub IsPageSpan : ℕ → ℕ → ℕ → ℕ → PageSpan → Type 0
IsPageSpan base len address n (Within page from) =
    (place_of base len address n ≡ Some (256 * page + from)) × (256 * page + 256 ≤ len) × (from + n ≤ 256)
IsPageSpan base len address n Across = ⊤
IsPageSpan base len address n Beyond = place_of base len address n ≡ None
