-- The names that these proofs use, from the library, the crates below and these definitions. It declares nothing.
pub use Rattle.std.proofs.Common.{FitsSigned, ℕ, ℤ, ap, arith, false, int_div, pos, refl, rules, sym, true}
pub use Rattle.std.proofs.Common.{unsigned_abs, ◌%◌, ◌*◌, ◌+◌, ◌-ℤ◌, ◌-◌, ◌<◌, ◌^◌, ◌∙◌, ◌≡◌, ◌≤◌}
pub use Rattle.std.proofs.Math.Nat.{div-le_self, mod-lt}
pub use Rattle.std.proofs.Math.Pow.{pow_pos}
pub use Rattle.std.proofs.lemmas.Int.{int_rem_euclid_is, ints, of_z-to_z, to_z-of_z}
pub use Rattle.std.proofs.lemmas.Nat.{or_lt, xor_lt}
pub use Rattle.std.specs.Int.{IsNonZero, Width, cast_signed, cast_unsigned, int_wrapping_div, w32, w64}
pub use Rattle.std.specs.Int.Bits.{and_lt}
pub use Rattle.std.specs.Int.Signed.{mag}
pub use Rattle.bpf_word.specs.Overflow.{IsSigned, SumsOverflow, exact_sum, wrapped_sum}
pub use Rattle.insn_codec.specs.declared.comparison.Comparison.TheVariants.{Sge, Slt}
pub use Rattle.insn_codec.specs.declared.alu_op.AluOp.{AluOp}
pub use Rattle.insn_codec.specs.declared.alu_op.AluOp.TheVariants.{Add, And, Div, Lsh, Mod, Mov, Mul, Or, Rsh}
pub use Rattle.insn_codec.specs.declared.alu_op.AluOp.TheVariants.{Sdiv, Smod, Xor}
unfoldable pub use Rattle.bpf_word.specs.Arithmetic.{alu64_of, operated}
unfoldable pub use Rattle.bpf_word.specs.Comparisons.{holds_of}
unfoldable pub use Rattle.bpf_word.specs.Signs.{signed_of, word_of}
