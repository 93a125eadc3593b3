-- Loop invariants of `listing` (src/listing.rt).
use Rattle.debugger.proofs.Prelude.{◌≡◌, ◌-◌, ◌++◌, string_bytes, listing_lines}
use Rattle.debugger.proofs.listing.listing.Given as goal

abbrev pub invariant-loop-listed : goal.invariant-loop-listed
invariant-loop-listed l = record {
  text : string_bytes l.text ++ listing_lines (8 - l._listed) l.code l.slot ≡ listing_lines 8 l.code l.fn.slot;
}
