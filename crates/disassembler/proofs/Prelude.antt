-- The names that these proofs use, from the library, the crates below and these definitions. It declares nothing.
pub use Rattle.std.proofs.Common.{List, None, Option, Some, ℕ, [], ap, append-nil, append_assoc, arith, drop, get_or}
pub use Rattle.std.proofs.Common.{length, length-drop, refl, rules, string_bytes, subst, suc, sym, take, zero, ◌%◌, ◌++◌, ◌<◌, ◌∙◌}
pub use Rattle.std.proofs.Common.{◌*◌, ◌∷◌, ◌≡◌, ◌≤◌}
pub use Rattle.std.proofs.lemmas.Grind.{common_steps}
pub use Rattle.std.specs.Int.{from_be_bytes, w64}
pub use Rattle.byteorder.specs.Endian.{big_number, little_number}
pub use Rattle.insn_codec.specs.Laws.{SlotsAreFilled}
pub use Rattle.insn_codec.specs.Spelling.{more_bytes, on_hand}
pub use Rattle.insn_codec.specs.Statements.{Listing, Lists, after_statement, lines_text, statement_slots, statement_text}
pub use Rattle.insn_codec.specs.Statements.Lists.{ended, place}
pub use Rattle.insn_codec.specs.declared.insn.Insn.{Insn}
pub use Rattle.insn_codec.specs.declared.statement.Statement.{Statement}
pub use Rattle.insn_codec.specs.declared.statement.Statement.TheVariants.{Slot}
unfoldable pub use Rattle.insn_codec.specs.Candidate.{arithmetic_at, branch_at, candidate_at, jump_at, memory_at}
unfoldable pub use Rattle.insn_codec.specs.Candidate.{wide_at}
unfoldable pub use Rattle.insn_codec.specs.Lines.{decimal, hex_digits}
unfoldable pub use Rattle.insn_codec.specs.Spelled.{spelled}
unfoldable pub use Rattle.insn_codec.specs.Statements.{statement_of}
pub use Rattle.disassembler.specs.Laws.{OneListing}
