-- The names that these proofs use, from the library, the crates below and these definitions. It declares nothing.
pub use Rattle.std.proofs.Common.{Bool, Err, List, Ok, Result, ℕ, [], ap, arith, drop, false, if◌then◌else◌, length}
pub use Rattle.std.proofs.Common.{length-append, length-drop, not, suc, sym, take, zero, ◌*◌, ◌++◌, ◌+◌, ◌/◌, ◌==◌}
pub use Rattle.std.proofs.Common.{◌||◌, ◌∙◌, ◌∷◌, ◌≡◌, ◌≤◌}
pub use Rattle.std.proofs.Math.Nat.{mul-div_cancel_left}
pub use Rattle.std.proofs.Math.Seq.{drop-append_seam, take-append_seam, take-length}
pub use Rattle.std.proofs.lemmas.Bool.{le-ltb, ltb-false}
pub use Rattle.std.proofs.lemmas.Bool.Decides.{nat_tests}
pub use Rattle.std.proofs.lemmas.List.{drop-drop, length-take-le, take-append-drop, take_all}
pub use Rattle.std.proofs.lemmas.Slice.Eq.{bytes_eq-Decides}
pub use Rattle.std.specs.Str.{bytes_eq}
pub use Rattle.byteorder.specs.Endian.{little_bytes, little_number}
pub use Rattle.insn_codec.specs.Limits.{slot_limit}
pub use Rattle.loader.specs.Contents.{AreBytes, Image, IsImage}
pub use Rattle.loader.specs.Format.{contents_in, has_magic}
pub use Rattle.loader.specs.Format.{is_bad_count, is_too_long}
pub use Rattle.loader.specs.Limits.{constants_limit}
pub use Rattle.loader.specs.declared.load_error.LoadError.{LoadError}
pub use Rattle.loader.specs.declared.version.Version.{Version}
pub use Rattle.loader.specs.declared.version.Version.TheVariants.{First, Second}
unfoldable pub use Rattle.loader.specs.Format.{constants_in, file_of, image_from, image_in, magic, slots_in}
