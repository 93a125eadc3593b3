-- The names that these proofs use, from the library, the crates below and these definitions. It declares nothing.
pub use Rattle.std.proofs.Common.{All, Bool, Err, IsOk, IsSome, List, None, Ok, Option, Some, ℕ, [], ap, arith, drop}
pub use Rattle.std.proofs.Common.{false, get_or, get_or-drop, get_or-take, if◌then◌else◌, inl, inr, length}
pub use Rattle.std.proofs.Common.{length-append, length-drop, min, nat_le, refl, replicate, slice_get, subst, suc}
pub use Rattle.std.proofs.Common.{sym, true, zero, ◌%◌, ◌*◌, ◌+◌, ◌-◌, ◌/◌, ◌<◌, ◌^◌, ◌||◌, ◌↔◌, ◌∙◌, ◌∷◌, ◌≡◌, ◌≤◌}
pub use Rattle.std.proofs.Common.{◌⊎◌, ◌++◌, take, append_assoc, append-nil, zero-add, add-one, rules}
pub use Rattle.std.proofs.Math.ListN.{get_or-append, set}
pub use Rattle.std.proofs.Math.Nat.{div-div-eq-div-mul, pow-succ'}
pub use Rattle.std.proofs.lemmas.Bool.{cases_lt, le-leb}
pub use Rattle.std.proofs.lemmas.Bool.Decides.{nat_tests}
pub use Rattle.std.proofs.lemmas.Grind.{common_steps}
pub use Rattle.std.proofs.lemmas.List.{ext_get_or, get_or-append_right, get_or-replicate, length-replicate}
pub use Rattle.std.proofs.lemmas.List.{length-take, length-take-le, take-append-le, drop-append-le, drop_all}
pub use Rattle.std.proofs.lemmas.List.{drop-replicate, replicate-append-replicate, take-replicate, take_all}
pub use Rattle.std.proofs.lemmas.List.Elements.{All-append, All-cons, All-drop, All-head, All-nil, All-replicate}
pub use Rattle.std.proofs.lemmas.List.Elements.{All-tail, All-take}
pub use Rattle.std.proofs.lemmas.Option.{slice_get-get_or, slice_get_past}
pub use Rattle.std.proofs.Math.Seq.{drop-append-add, take-append-add}
pub use Rattle.std.specs.List.{AllZip}
pub use Rattle.guest_memory.specs.Access.{place_of, region_of, size_bytes, write_at}
pub use Rattle.guest_memory.specs.Laws.{AllStandIn, LentIsBytes, ReadIsBytes, StandInOne, StandsIn, StartIsZero}
pub use Rattle.guest_memory.specs.Laws.{WriteIsBytes, byte_of}
pub use Rattle.guest_memory.specs.Memory.{Constants, IsMemory, IsWritable, Memory, Region, Scratch, Stack, Verdict}
pub use Rattle.guest_memory.specs.Memory.{base_of, byte_from, bytes_in, is_among, or_else, with_bytes}
pub use Rattle.guest_memory.specs.RegionWords.{HasWord, WordsAreAccessed, WordsArePut}
pub use Rattle.guest_memory.specs.Word.{low_bytes, overlay, part, word_of}
pub use Rattle.guest_memory.specs.declared.fault.Fault.TheVariants.{F3, F4}
pub use Rattle.guest_memory.specs.declared.size.Size.{Size}
pub use Rattle.guest_memory.specs.declared.size.Size.TheVariants.{Dw}
pub use Rattle.guest_memory.specs.PageBytes.{bytes_or_zeros}
pub use Rattle.guest_memory.specs.Pages.{joined}
pub use Rattle.guest_memory.specs.declared.page.Page.{Page}
unfoldable pub use Rattle.guest_memory.specs.Access.{constants_of, read_of, write_of}
unfoldable pub use Rattle.guest_memory.specs.Memory.{byte_at, is_writable, start_memory}
unfoldable pub use Rattle.guest_memory.specs.RegionWords.{put_word, word_in}
