-- The names that these proofs use, from the library, the crates below and these definitions. It declares nothing.
pub use Rattle.std.proofs.Common.{All, Bool, Decides, FitsSigned, IfSome, List, None, Option, Some, ℕ, ℤ, [], ap}
pub use Rattle.std.proofs.Common.{append-nil, append_assoc, arith, codes, drop, false, get_or, if◌then◌else◌, inl}
pub use Rattle.std.proofs.Common.{inr, length, length-take-le, map, nat_eq, not, option_map, refl, replicate, rules}
pub use Rattle.std.proofs.Common.{slice_index, subst, suc, sym, take, take-append-drop, true, zero, ◌%◌, ◌&&◌, ◌*◌}
pub use Rattle.std.proofs.Common.{◌++◌, ◌+◌, ◌-◌, ◌/◌, ◌<◌, ◌==◌, ◌^◌, ◌∙◌, ◌∷◌, ◌≡◌, ◌≢◌, ◌≤◌}
pub use Rattle.std.proofs.lemmas.Bool.{and_from, and_parts, cases_lt, eq-eqb, eqb-true, false_from_ne_true, iff_false}
pub use Rattle.std.proofs.lemmas.Bool.{ne_eqb}
pub use Rattle.std.proofs.lemmas.Bool.Decides.{nat_tests}
pub use Rattle.std.proofs.lemmas.Fmt.{decimal-digits_of, decimal_digit}
pub use Rattle.std.proofs.lemmas.Int.{of_z-to_z}
pub use Rattle.std.proofs.lemmas.Int.Digits.{all_below_base_digits_of, digits_value_is, number_digits_of}
pub use Rattle.std.proofs.lemmas.List.{get_or-drop, get_or_past}
pub use Rattle.std.proofs.lemmas.List.Elements.{All-cons, All-nil, All-take}
pub use Rattle.std.proofs.lemmas.List.Folds.{list_all-append}
pub use Rattle.std.proofs.lemmas.Nat.{be_bytes_8}
pub use Rattle.std.proofs.lemmas.Slice.Eq.{starts_is}
pub use Rattle.std.specs.Char.{digit_value}
pub use Rattle.std.specs.Fmt.{digits_onto, format_spec}
pub use Rattle.std.specs.Int.{cast_signed, cast_unsigned, from_be_bytes, from_le_bytes, to_be_bytes, to_le_bytes, w16}
pub use Rattle.std.specs.Int.{w32, w64}
pub use Rattle.std.specs.Int.Digits.{AllBelowBase, digits_of}
pub use Rattle.std.specs.List.{list_all, starts_with}
pub use Rattle.std.specs.Str.Parse.{AllDigits, digits_value}
unfoldable pub use Rattle.std.specs.Fmt.{char_count, digits, padded_integral}
pub use Rattle.insn_codec.specs.Candidate.{◌>>=◌}
pub use Rattle.insn_codec.specs.Codes.{atomic_width, operand_at, register_number, register_of}
pub use Rattle.insn_codec.specs.Families.{alu_of, atomic_of, comparison_of, extension_of, order_of, signed_size_of}
pub use Rattle.insn_codec.specs.Families.{size_of_code, swap_of}
pub use Rattle.insn_codec.specs.Laws.{NoLineFeed, StatementIsSpelled}
pub use Rattle.insn_codec.specs.Lines.{address_text, hex_digit, line_with, offset_text, operand_text, operands_text}
pub use Rattle.insn_codec.specs.Lines.{place_text, register_text, signed_decimal, wide_text}
pub use Rattle.insn_codec.specs.Mnemonics.{mnemonic_text}
pub use Rattle.insn_codec.specs.Slots.{IsSlot, second_imm, slot_bytes, slot_of}
pub use Rattle.insn_codec.specs.Spelled.{SpelledIsSpelling}
pub use Rattle.insn_codec.specs.Spelling.{BeginsWith, IsInsn, IsOperand, first_slot, more_bytes, on_hand}
pub use Rattle.insn_codec.specs.Spelling.{second_bytes, slot_count, spelling}
pub use Rattle.insn_codec.specs.Statements.{IsStatement, statement_bytes}
pub use Rattle.insn_codec.specs.Statements.{statement_slots, statement_text}
pub use Rattle.insn_codec.specs.declared.byte_order.ByteOrder.TheVariants.{Little}
pub use Rattle.insn_codec.specs.declared.comparison.Comparison.TheVariants.{Eq}
pub use Rattle.insn_codec.specs.declared.extension.Extension.TheVariants.{From8To32}
pub use Rattle.insn_codec.specs.declared.insn.Insn.{Insn}
pub use Rattle.insn_codec.specs.declared.insn.Insn.TheVariants.{Alu, Atomic, Branch, ByteSwap, Call, CallLocal, Exit}
pub use Rattle.insn_codec.specs.declared.insn.Insn.TheVariants.{Jump, JumpLong, Load, LoadSigned, LoadWide, Neg}
pub use Rattle.insn_codec.specs.declared.insn.Insn.TheVariants.{SignExtend, Store, StoreImm}
pub use Rattle.insn_codec.specs.declared.mnemonic.Mnemonic.{Mnemonic}
pub use Rattle.insn_codec.specs.declared.operand.Operand.{Operand}
pub use Rattle.insn_codec.specs.declared.operand.Operand.TheVariants.{Imm}
pub use Rattle.insn_codec.specs.declared.register.Register.{Register}
pub use Rattle.insn_codec.specs.declared.slot.Slot.{Slot}
pub use Rattle.insn_codec.specs.declared.statement.Statement.{Statement}
pub use Rattle.insn_codec.specs.declared.width.Width.{Width}
pub use Rattle.insn_codec.specs.declared.width.Width.TheVariants.{W32}
unfoldable pub use Rattle.insn_codec.specs.Candidate.{arithmetic_at, atomic_at, branch_at, candidate_at, jump_at}
unfoldable pub use Rattle.insn_codec.specs.Candidate.{memory_at, wide_at}
unfoldable pub use Rattle.insn_codec.specs.Lines.{decimal, hex_digits}
unfoldable pub use Rattle.insn_codec.specs.Spelled.{spelled}
unfoldable pub use Rattle.insn_codec.specs.Statements.{statement_of}
