-- Words worked out by hand from the standard's text (RFC 9669, sections 4.1 to 4.3).
use Rattle.std.specs.Prelude.{◌≡◌, true, false}
use Rattle.bpf_word.specs.Arithmetic.{alu32_of, alu64_of}
use Rattle.bpf_word.specs.Bytes.{swap_of}
use Rattle.bpf_word.specs.Comparisons.{holds_of}
use Rattle.bpf_word.specs.Signs.{sext_of}
use Rattle.insn_codec.specs.declared.alu_op.AluOp.TheVariants.{Add, Div, Sdiv, Mod, Smod}
use Rattle.insn_codec.specs.declared.comparison.Comparison.TheVariants.{Ge, Gt}
use Rattle.insn_codec.specs.declared.signed_size.SignedSize.TheVariants.{B, H, W}
use Rattle.insn_codec.specs.declared.swap_width.SwapWidth.TheVariants.{Bits16, Bits32, Bits64}

-- sums, and quotients and remainders by one (section 4.1)
pub record SumRowsHold : Type 0 where
  pub sum : alu64_of Add 2 3 ≡ 5
  pub sum_of_halves : alu32_of Add 2 3 ≡ 5
  pub div_by_one : alu64_of Div 5 1 ≡ 5
  pub sdiv_by_one : alu64_of Sdiv 0xffff_ffff_ffff_fffb 1 ≡ 0xffff_ffff_ffff_fffb
  pub mod_by_one : alu64_of Mod 5 1 ≡ 0
  pub smod_by_one : alu64_of Smod 5 1 ≡ 0
  -- only the bits that are extended count
  pub sext_of_8_below_another : sext_of B 0x180 ≡ 0xffff_ffff_ffff_ff80
  pub sext_of_16_below_another : sext_of H 0x0001_8000 ≡ 0xffff_ffff_ffff_8000
  pub sext_of_32_below_another : sext_of W 0x0001_8000_0000 ≡ 0xffff_ffff_8000_0000

-- bytes in the reverse order (section 4.2); the words are 3 ^ 16, 3 ^ 32 and one with its first and last bits
pub record SwapRowsHold : Type 0 where
  pub of_16 : swap_of Bits16 0x0290_d741 ≡ 0x41d7
  pub of_32 : swap_of Bits32 0x0006_954f_e21e_3e81 ≡ 0x813e_1ee2
  pub of_64 : swap_of Bits64 0x8000_0000_0000_0001 ≡ 0x0100_0000_0000_0080

-- a greater word without a bit in common, and a lesser one with one (section 4.3)
pub record OrderRowsHold : Type 0 where
  pub greater_or_equal : holds_of Ge 2 1 ≡ true
  pub not_greater_or_equal : holds_of Ge 1 3 ≡ false
  pub greater : holds_of Gt 2 1 ≡ true
