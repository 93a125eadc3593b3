-- The names that these proofs use, from the library, the crates below and these definitions. It declares nothing.
pub use Rattle.std.proofs.Common.{Bool, Equal, Fits, Greater, Less, List, Ordering, ℕ, [], ap, ap₂, arith, bit_or}
pub use Rattle.std.proofs.Common.{cond, drop, encode_utf8, encode_utf8_all, eqb, false, inl, inr, length, map}
pub use Rattle.std.proofs.Common.{nat_cmp, nat_lt, not, refl, replicate, sym, take, true, w8, ◌%◌, ◌*◌, ◌++◌, ◌+◌}
pub use Rattle.std.proofs.Common.{◌-◌, ◌/◌, ◌<◌, ◌==◌, ◌^◌, ◌∙◌, ◌∷◌, ◌≡◌, ◌≤◌, ◌⊎◌}
pub use Rattle.std.proofs.lemmas.Bool.{agree_below, agree_below_at, eq-eqb, ne_eqb}
pub use Rattle.std.proofs.lemmas.Bool.Decides.{nat_tests}
pub use Rattle.std.proofs.lemmas.List.{length-drop, length-map, length-take}
pub use Rattle.std.proofs.lemmas.List.Folds.{prefix_len-append}
pub use Rattle.std.proofs.lemmas.List.Sums.{common_prefix_len-le, count_by-le-length, prefix_len-le-length}
pub use Rattle.std.proofs.lemmas.List.Sums.{sum_by-append, sum_by-cons}
pub use Rattle.std.proofs.lemmas.Simd.{chunk-drop, leading_from_mask_l, length-chunk, length-zip2, mask_l-mod}
pub use Rattle.std.proofs.lemmas.Simd.{ones-mask_l, splat_is_map, tops_compared, trailing_mask_l, zip2_of_maps}
pub use Rattle.std.proofs.lemmas.Simd.{zip2_splat}
pub use Rattle.std.specs.Cmp.{nat_cmp_is, ranks}
pub use Rattle.std.specs.Cmp.Lexicographic.{slice_cmp}
pub use Rattle.std.specs.List.{prefix_len}
pub use Rattle.std.specs.Ordering.{MatchOrdering, ordering_then}
unfoldable pub use Rattle.std.specs.Int.RustNames.{count_ones}
pub use Rattle.text_kernels.specs.Scans.{code_points_of, first_difference_of, is_leading, is_plain, is_special}
pub use Rattle.text_kernels.specs.Scans.{skip_plain_of}
