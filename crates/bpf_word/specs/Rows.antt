-- Words worked out by hand from the standard's text (RFC 9669, sections 4.1 to 4.3).
use Rattle.std.specs.Prelude.{◌≡◌, true, false}
use Rattle.bpf_word.specs.Arithmetic.{alu64_of, alu32_of}
use Rattle.bpf_word.specs.Bytes.{swap_of}
use Rattle.bpf_word.specs.Comparisons.{holds_of}
use Rattle.bpf_word.specs.Signs.{sext_of}
use Rattle.insn_codec.specs.declared.comparison.Comparison.TheVariants.{Eq, Gt, Ge, Set, Ne, Sgt, Sge, Lt, Le, Slt, Sle}
use Rattle.insn_codec.specs.declared.alu_op.AluOp.TheVariants.{Add, Sub, Mul, Div, Sdiv, Or, And, Lsh, Rsh, Mod, Smod, Xor, Mov, Arsh}
use Rattle.insn_codec.specs.declared.signed_size.SignedSize.TheVariants.{B, H, W}
use Rattle.insn_codec.specs.declared.swap_width.SwapWidth.TheVariants.{Bits16, Bits32, Bits64}

-- operations on two operands, with their results
pub record WordRowsHold : Type 0 where
  pub add_wraps : alu64_of Add 0xffff_ffff_ffff_ffff 1 ≡ 0
  pub add_wraps_of_32 : alu32_of Add 0xffff_ffff 1 ≡ 0
  pub sub_wraps : alu32_of Sub 2 5 ≡ 0xffff_fffd
  pub sub_wraps_of_64 : alu64_of Sub 2 5 ≡ 0xffff_ffff_ffff_fffd
  pub mul : alu64_of Mul 7 6 ≡ 42
  pub mul_wraps : alu64_of Mul 0x0000_0001_0000_0001 0x0000_0001_0000_0001 ≡ 0x0000_0002_0000_0001
  pub mul_wraps_of_32 : alu32_of Mul 0xffff_ffff 2 ≡ 0xffff_fffe
  pub div : alu64_of Div 13 4 ≡ 3
  pub div_of_32 : alu32_of Div 0x0000_0001_0000_000d 4 ≡ 3
  pub div_by_zero : alu64_of Div 7 0 ≡ 0
  pub div_by_zero_of_32 : alu32_of Div 7 0x0000_0001_0000_0000 ≡ 0
  pub div_is_unsigned : alu64_of Div 5 0xffff_ffff_ffff_ffff ≡ 0
  pub sdiv_truncates : alu64_of Sdiv 0xffff_ffff_ffff_fff9 2 ≡ 0xffff_ffff_ffff_fffd
  pub sdiv_truncates_of_32 : alu32_of Sdiv 0xffff_fff3 3 ≡ 0xffff_fffc
  pub sdiv_by_zero : alu64_of Sdiv 0xffff_ffff_ffff_fff9 0 ≡ 0
  pub sdiv_by_zero_of_32 : alu32_of Sdiv 0xffff_fff9 0 ≡ 0
  pub sdiv_least : alu64_of Sdiv 0x8000_0000_0000_0000 0xffff_ffff_ffff_ffff ≡ 0x8000_0000_0000_0000
  pub sdiv_least_of_32 : alu32_of Sdiv 0x8000_0000 0xffff_ffff ≡ 0x8000_0000
  pub bit_or : alu64_of Or 0x0f0f 0x00ff ≡ 0x0fff
  pub bit_or_of_32 : alu32_of Or 0xffff_ffff_0000_0f0f 0x00ff ≡ 0x0fff
  pub bit_and : alu64_of And 0x0f0f 0x00ff ≡ 0x000f
  pub bit_and_of_32 : alu32_of And 0xffff_ffff_0000_0f0f 0x00ff ≡ 0x000f
  pub lsh_by_width : alu64_of Lsh 1 64 ≡ 1
  pub lsh_by_width_of_32 : alu32_of Lsh 1 33 ≡ 2
  pub lsh : alu64_of Lsh 0xc000_0000_0000_0001 1 ≡ 0x8000_0000_0000_0002
  pub rsh : alu64_of Rsh 0xc000_0000_0000_0001 1 ≡ 0x6000_0000_0000_0000
  pub rsh_by_width : alu64_of Rsh 0xf0 64 ≡ 0xf0
  pub rsh_by_width_of_32 : alu32_of Rsh 0x8000_0000 33 ≡ 0x4000_0000
  pub mod_of_64 : alu64_of Mod 13 4 ≡ 1
  pub mod_is_unsigned : alu64_of Mod 5 0xffff_ffff_ffff_ffff ≡ 5
  pub mod_of_32 : alu32_of Mod 0x0000_0001_0000_000d 4 ≡ 1
  pub mod_by_zero : alu64_of Mod 0x0000_0001_0000_0007 0 ≡ 0x0000_0001_0000_0007
  pub mod_by_zero_of_32 : alu32_of Mod 0x0000_0001_0000_0007 0 ≡ 7
  pub smod_by_zero_of_32 : alu32_of Smod 0xffff_ffff_ffff_fff3 0 ≡ 0xffff_fff3
  pub smod_by_zero : alu64_of Smod 0xffff_ffff_ffff_fff3 0 ≡ 0xffff_ffff_ffff_fff3
  pub smod_truncates_of_32 : alu32_of Smod 0xffff_fff3 3 ≡ 0xffff_ffff
  pub smod_truncates : alu64_of Smod 0xffff_ffff_ffff_fff3 3 ≡ 0xffff_ffff_ffff_ffff
  pub smod_by_negative : alu64_of Smod 13 0xffff_ffff_ffff_fffd ≡ 1
  pub smod_least : alu64_of Smod 0x8000_0000_0000_0000 0xffff_ffff_ffff_ffff ≡ 0
  pub smod_least_of_32 : alu32_of Smod 0x8000_0000 0xffff_ffff ≡ 0
  pub bit_xor : alu64_of Xor 0x0f0f 0x00ff ≡ 0x0ff0
  pub bit_xor_of_32 : alu32_of Xor 0xffff_ffff_0000_0f0f 0x00ff ≡ 0x0ff0
  pub mov : alu64_of Mov 5 0xffff_ffff_ffff_ffff ≡ 0xffff_ffff_ffff_ffff
  pub mov_of_32 : alu32_of Mov 5 0xffff_ffff_ffff_ffff ≡ 0x0000_0000_ffff_ffff
  pub arsh_rounds_down : alu64_of Arsh 0xffff_ffff_ffff_fff3 1 ≡ 0xffff_ffff_ffff_fff9
  pub arsh_by_width : alu64_of Arsh 0x8000_0000_0000_0000 64 ≡ 0x8000_0000_0000_0000
  pub arsh_of_positive : alu64_of Arsh 16 2 ≡ 4
  pub arsh_of_32 : alu32_of Arsh 0x8000_0000 63 ≡ 0xffff_ffff
  pub arsh_of_32_by_33 : alu32_of Arsh 0x8000_0000 33 ≡ 0xc000_0000
  pub sext_of_8 : sext_of B 128 ≡ 0xffff_ffff_ffff_ff80
  pub sext_of_8_positive : sext_of B 0xff7f ≡ 0x7f
  pub sext_of_16 : sext_of H 0x0001_8000 ≡ 0xffff_ffff_ffff_8000
  pub sext_of_16_positive : sext_of H 0x8000_7fff ≡ 0x7fff
  pub sext_of_32_negative : sext_of W 0x8000_0000 ≡ 0xffff_ffff_8000_0000
  pub sext_of_32 : sext_of W 0xffff_ffff_0000_0001 ≡ 1
  pub swap_of_16 : swap_of Bits16 0x1234 ≡ 0x3412
  pub swap_of_32 : swap_of Bits32 0x1234 ≡ 0x3412_0000
  pub swap_of_64 : swap_of Bits64 0x0123_4567_89ab_cdef ≡ 0xefcd_ab89_6745_2301

-- comparisons of two words, and whether they hold; 0xffff_ffff_ffff_ffff is -1 if words are read as signed
pub record ComparisonRowsHold : Type 0 where
  pub equal : holds_of Eq 1 1 ≡ true
  pub equal_not : holds_of Eq 1 2 ≡ false
  pub greater : holds_of Gt 0xffff_ffff_ffff_ffff 1 ≡ true
  pub greater_than_itself : holds_of Gt 1 1 ≡ false
  pub greater_or_equal : holds_of Ge 0xffff_ffff_ffff_ffff 1 ≡ true
  pub greater_or_itself : holds_of Ge 1 1 ≡ true
  pub greater_or_equal_not : holds_of Ge 1 2 ≡ false
  pub set_in_common : holds_of Set 6 1 ≡ false
  pub set_in_both : holds_of Set 6 2 ≡ true
  pub unequal : holds_of Ne 1 2 ≡ true
  pub unequal_to_itself : holds_of Ne 1 1 ≡ false
  pub greater_signed : holds_of Sgt 0xffff_ffff_ffff_ffff 1 ≡ false
  pub one_above_minus_one : holds_of Sgt 1 0xffff_ffff_ffff_ffff ≡ true
  pub greater_signed_itself : holds_of Sgt 1 1 ≡ false
  pub greater_or_equal_signed : holds_of Sge 0xffff_ffff_ffff_ffff 0xffff_ffff_ffff_ffff ≡ true
  pub greater_or_equal_signed_not : holds_of Sge 0xffff_ffff_ffff_ffff 0 ≡ false
  pub less : holds_of Lt 1 0xffff_ffff_ffff_ffff ≡ true
  pub less_not : holds_of Lt 0xffff_ffff_ffff_ffff 1 ≡ false
  pub less_than_itself : holds_of Lt 1 1 ≡ false
  pub less_or_equal : holds_of Le 1 2 ≡ true
  pub less_or_itself : holds_of Le 1 1 ≡ true
  pub less_or_equal_not : holds_of Le 2 1 ≡ false
  pub less_signed : holds_of Slt 0xffff_ffff_ffff_ffff 0 ≡ true
  pub less_signed_not : holds_of Slt 0 0xffff_ffff_ffff_ffff ≡ false
  pub less_signed_itself : holds_of Slt 1 1 ≡ false
  pub less_or_equal_signed : holds_of Sle 0xffff_ffff_ffff_ffff 0 ≡ true
  pub less_or_equal_signed_itself : holds_of Sle 1 1 ≡ true
  pub less_or_equal_signed_not : holds_of Sle 0 0xffff_ffff_ffff_ffff ≡ false
