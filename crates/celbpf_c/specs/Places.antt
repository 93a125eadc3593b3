-- What a place for a gate owns.
use base.Fml.{Fml, feq}
use denote.RawPtr.{Ptr, null_ptr}
use Rattle.std.specs.Prelude.{Option, Some, None}
use Rattle.std.specs.Box.Ownership.{box_owns}
use Rattle.std.specs.Global.{Global}
use Rattle.std.specs.contracts.impls.GlobalAllocator.TheImpl.{ghosts}
use Rattle.admission.specs.contracts.Gate.{the_row}

-- an empty place has a null pointer and owns nothing; any other owns a gate on the heap
abbrev pub owned_by_place : Global → Option the_row.Denot → Ptr → Fml
owned_by_place alloc None p = feq Ptr p null_ptr
owned_by_place alloc (Some gate) p = box_owns (ghosts.dealloc_token alloc) the_row p gate
