-- The names that these proofs use, from the library, the crates below and these definitions. It declares nothing.
pub use Rattle.std.proofs.Common.{All, Bool, Err, FitsSigned, IfSome, IsTrue, List, None, Ok, OnErr, Option, Result}
pub use Rattle.std.proofs.Common.{Some, Vec, ℕ, ℤ, [], ap, append-nil, append_assoc, arith, codes, drop, eq-eqb}
pub use Rattle.std.proofs.Common.{false, get_or, if◌then◌else◌, inl, inr, length, length-append, lit<, map, nat_eq}
pub use Rattle.std.proofs.Common.{neg_ℤ, negsuc, not, of_z, pos, pow-suc, refl, rules, string_bytes, subst, suc, sym}
pub use Rattle.std.proofs.Common.{take, to_z, true, zero, zero-add, ◌%◌, ◌&&◌, ◌*◌, ◌++◌, ◌+◌, ◌-◌, ◌/◌, ◌<◌, ◌==◌}
pub use Rattle.std.proofs.Common.{◌^◌, ◌∙◌, ◌∷◌, ◌≡◌, ◌≢◌, ◌≤◌, ◌⊎◌}
pub use Rattle.std.proofs.lemmas.Bool.{and_parts, both_ways, false≢true, ne_eqb}
pub use Rattle.std.proofs.lemmas.Bool.Decides.{nat_tests}
pub use Rattle.std.proofs.lemmas.Grind.{common_steps}
pub use Rattle.std.proofs.lemmas.Int.{to_z-of_z}
pub use Rattle.std.proofs.lemmas.Int.Digits.{all_below_base_digits_of, all_below_base_from_digits, digits_of_step}
pub use Rattle.std.proofs.lemmas.Int.Digits.{digits_value-lt, digits_value_is, digits_value_push, first_digits_of}
pub use Rattle.std.proofs.lemmas.Int.Digits.{number_after_ge, number_push}
pub use Rattle.std.proofs.lemmas.List.{append_cancel_left, append_cancel_right, drop_more}
pub use Rattle.std.proofs.lemmas.List.Elements.{All-tail}
pub use Rattle.std.proofs.lemmas.Map.Text.{btree_map_updates_text}
pub use Rattle.std.proofs.lemmas.Result.{IfOk-at_ok}
pub use Rattle.std.proofs.lemmas.Slice.Eq.{bytes_eq-Decides}
pub use Rattle.std.proofs.lemmas.Str.{digit_value_digit}
pub use Rattle.std.proofs.lemmas.Str.Parse.{IsNumeralModel, digit_from_value, numerals_by_value, parse_signed_digits}
pub use Rattle.std.proofs.lemmas.Str.Parse.{parse_signed_minus, parse_signed_plus, tells_all_ascii_digits}
pub use Rattle.std.proofs.lemmas.Str.Parse.{tells_digits, without_leading_plus_none}
pub use Rattle.std.proofs.lemmas.Str.Pattern.{drop_at_char, find_char, finds_char_after, split_after}
pub use Rattle.std.proofs.lemmas.Str.Pattern.{split_once_first, split_parts, strip_prefix_char, strip_suffix_char}
pub use Rattle.std.specs.BTreeMap.{get_by_text}
pub use Rattle.std.specs.Char.{digit_value}
pub use Rattle.std.specs.Global.{Global}
pub use Rattle.std.specs.Int.{w16, w32}
pub use Rattle.std.specs.Int.Digits.{AllBelowBase, digits_of, number_from_digits}
pub use Rattle.std.specs.List.{after_first, before_first, position_or_len}
pub use Rattle.std.specs.Result.{OkIff}
pub use Rattle.std.specs.Str.{IsUtf8, all_ascii_digits, bytes_eq}
pub use Rattle.std.specs.Str.Parse.{AllDigits, ParsesSigned, ParsesUnsigned, digits_value}
pub use Rattle.insn_codec.proofs.Decimals.{bytes_digits, decimal_digits, decimal_injective, decimal_some}
pub use Rattle.insn_codec.proofs.Decimals.{decimal_value, decimal_zero}
pub use Rattle.insn_codec.proofs.Plain.{all_plain, is_plain, mnemonic_plain, offset_plain, operand_plain}
pub use Rattle.insn_codec.proofs.Plain.{plain_append, register_plain, signed_decimal_plain, wide_plain}
pub use Rattle.insn_codec.specs.Laws.{NoLineFeed, SlotsAreFilled, StandsFirst, StatementIsSpelled}
pub use Rattle.insn_codec.specs.Limits.{slot_limit}
pub use Rattle.insn_codec.specs.Lines.{address_text, hex_digit, offset_text, operand_text, operands_text, place_text}
pub use Rattle.insn_codec.specs.Lines.{register_text, signed_decimal, wide_text}
pub use Rattle.insn_codec.specs.Mnemonics.{alu_text, atomic_text, comparison_text, mnemonic_text, width_text}
pub use Rattle.insn_codec.specs.Spelling.{IsOperand}
pub use Rattle.insn_codec.specs.Statements.{IsStatement, Listing, Lists, after_statement, lines_text, statement_bytes}
pub use Rattle.insn_codec.specs.Statements.{statement_slots, statement_text}
pub use Rattle.assembler.specs.Forms.{statement_mnemonic}
pub use Rattle.insn_codec.specs.Statements.Lists.{place}
pub use Rattle.insn_codec.specs.declared.alu_op.AluOp.{AluOp}
pub use Rattle.insn_codec.specs.declared.atomic_op.AtomicOp.{AtomicOp}
pub use Rattle.insn_codec.specs.declared.comparison.Comparison.{Comparison}
pub use Rattle.insn_codec.specs.declared.mnemonic.Mnemonic.{Mnemonic}
pub use Rattle.insn_codec.specs.declared.mnemonic.Mnemonic.TheVariants.{Alu, Atomic, Branch, ByteSwap, Call, Exit, Ja}
pub use Rattle.insn_codec.specs.declared.mnemonic.Mnemonic.TheVariants.{JaLong, Load, LoadSigned, LoadWide, Neg}
pub use Rattle.insn_codec.specs.declared.mnemonic.Mnemonic.TheVariants.{SignExtend, Slot, Store, StoreImm}
pub use Rattle.insn_codec.specs.declared.operand.Operand.{Operand}
pub use Rattle.insn_codec.specs.declared.operand.Operand.TheVariants.{Imm, Reg}
pub use Rattle.insn_codec.specs.declared.register.Register.{Register}
pub use Rattle.insn_codec.specs.declared.size.Size.{Size}
pub use Rattle.insn_codec.specs.declared.statement.Statement.{Statement}
pub use Rattle.insn_codec.specs.declared.swap_width.SwapWidth.{SwapWidth}
pub use Rattle.insn_codec.specs.declared.width.Width.{Width}
unfoldable pub use Rattle.insn_codec.specs.Lines.{decimal, hex_digits}
unfoldable pub use Rattle.insn_codec.specs.Statements.{statement_of}
pub use Rattle.assembler.specs.Answers.{AddsLabel, AssembleReturns, SecondPass, FirstLineSays, FirstPass, HasSlots}
pub use Rattle.assembler.specs.Answers.{IsAssemblyResult, IsFreeIn, ReadsAt, ScansOnlyTo}
pub use Rattle.assembler.specs.Assembles.{Assembles}
pub use Rattle.assembler.specs.Assembles.Assembles.{refused, resolved}
pub use Rattle.assembler.specs.Cutting.{before_line, lines_of}
pub use Rattle.assembler.specs.FirstPass.{Scans}
pub use Rattle.assembler.specs.FirstPass.Scans.{ended, formless, full, next, twice, wide}
pub use Rattle.assembler.specs.Forms.{HasNoByte, ReadsOperands, item_mnemonic, item_operands, operand_list}
pub use Rattle.assembler.specs.Hex.{all_hex_digits, is_hex_digit}
pub use Rattle.assembler.specs.Items.{HasLine, InRange, IsLabel, SourceItem, begins_name, goes_on_name, item_of}
pub use Rattle.assembler.specs.Items.{item_slots, item_text, jump, label, slots_of, statement}
pub use Rattle.assembler.specs.Jumps.{JumpInRange, fits_16, jump_by, jump_mnemonic, jump_operands, reaches}
pub use Rattle.assembler.specs.Jumps.{with_offset}
pub use Rattle.assembler.specs.Labels.{IsFree, label_slot, label_slot_from, names}
pub use Rattle.assembler.specs.LineAnswers.{ReadsAs}
pub use Rattle.assembler.specs.Mnemonics.{IsAtomic, IsOfWidth}
pub use Rattle.assembler.specs.Numbers.{is_decimal, is_immediate, is_offset, is_positive}
pub use Rattle.assembler.specs.Reading.{OneReading, LineReading, ReadsLine, no_form, out_of_range, says}
pub use Rattle.assembler.specs.Refusals.{FirstRefused, IsJumpRefused, IsShort, NoneRefused, IsSourceRefused}
pub use Rattle.assembler.specs.Refusals.IsJumpRefused.{too_far, unnamed}
pub use Rattle.assembler.specs.Refusals.IsSourceRefused.{by_first_pass, by_label}
pub use Rattle.assembler.specs.SecondPass.{after, and_then, bytes_of, code_bytes, jump_at, line_statement, offset_to}
pub use Rattle.assembler.specs.Source.{EachSays, GivesSlots, NamedAfter, Source, StandFor, StandsFor}
pub use Rattle.assembler.specs.Source.StandFor.{line, none}
pub use Rattle.assembler.specs.Source.StandsFor.{jumped, named, stated}
pub use Rattle.assembler.specs.Targets.{TargetIs}
pub use Rattle.assembler.specs.declared.asm_error.AsmError.{AsmError}
pub use Rattle.assembler.specs.declared.asm_error.AsmError.TheVariants.{UnknownLine, NumberOutOfRange, UnknownLabel}
pub use Rattle.assembler.specs.declared.asm_error.AsmError.TheVariants.{DuplicateLabel, JumpTooFar, TooManySlots}
pub use Rattle.assembler.specs.declared.asm_error.AsmError.TheVariants.{Memory}
pub use Rattle.assembler.specs.declared.lines.jump.Jump.{Jump}
pub use Rattle.assembler.specs.declared.lines.jump.Jump.TheVariants.{CallLocal, Long, Near}
pub use Rattle.assembler.specs.declared.lines.line.Line.{Line}
pub use Rattle.assembler.specs.declared.lines.line_error.LineError.{LineError}
pub use Rattle.assembler.specs.declared.lines.line_error.LineError.TheVariants.{NoForm, OutOfRange}
pub use Rattle.assembler.specs.declared.passes.scan.Scanned.{Scanned}
pub use Rattle.assembler.specs.declared.text.targets.Target.{Target}
pub use Rattle.assembler.specs.declared.text.targets.Target.TheVariants.{Name, Offset}
