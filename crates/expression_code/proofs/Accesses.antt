-- Loads and stores of words of the frame, of memos and of the verdict region.
use Rattle.expression_code.proofs.Prelude.{◌≡◌, ℕ, ◌+◌, ◌*◌, ◌%◌, ◌^◌, ◌<◌, Result, Ok, ap, ◌∙◌, arith, false, pos, w64, cast_unsigned, read_of, write_of, Memory, Region, Stack, Constants, IsMemory, base_of, bytes_in, with_bytes, HasWord, put_word, word_in, read_word, write_word, Reg, Register, R10, Dw, Image, load_row, loaded, store_row, stored, is_frame_pointer, CpuState, at, set_register, stack_index, word_offset, word_at, set_word, Framed, frame_words, memo_limit, Imm, ℤ}
use Rattle.guest_memory.specs.declared.fault.Fault.{Fault}
use Rattle.guest_memory.specs.declared.size.Size.TheVariants as bytes
use Rattle.expression_code.proofs.Effects.{operand_is, register_set}

-- the stack has word k of a frame
pub has_word : (depth k : ℕ) (b : CpuState) → Framed depth b → k < frame_words → HasWord b.memory.stack (stack_index depth k)
has_word depth k b f below = grind arith

-- a region has word i if it is long enough
pub has_memo : (i : ℕ) (m : Memory) → IsMemory m → i < memo_limit → HasWord m.scratch i
has_memo i m is below = let long = is.scratch in omega arith

pub has_verdict : (i : ℕ) (m : Memory) → IsMemory m → i < 256 → HasWord m.verdict i
has_verdict i m is below = let long = is.verdict in omega arith

module _ (image : Image) (p : ℕ) (b : CpuState) where
  -- a word of the frame is loaded through the frame pointer
  pub load_does : (depth k : ℕ) (dst : Register) → Framed depth b → k < frame_words → is_frame_pointer dst ≡ false
      → load_row Dw dst R10 (word_offset k) (at image p b) ≡ at image (p + 1) (set_register b dst (word_at depth k b))
  unfolding load_row
  load_does depth k dst f below free =
      let place = ap (λ (w : ℕ). (w + cast_unsigned w64 (word_offset k)) % 2 ^ 64) f.pointer_is ∙ (omega arith) in
      let read : read_of b.memory ((b.registers R10 + cast_unsigned w64 (word_offset k)) % 2 ^ 64) bytes.Dw ≡ Ok (word_at depth k b) = read_word b.memory Stack (stack_index depth k) _ f.memory (has_word depth k b f below) place in
      rw free (ap (λ (r : Result ℕ Fault). loaded dst (λ w. w) r (at image p b)) read ∙ register_set image p b (p + 1) dst (word_at depth k b))

  -- a word of the frame is stored through the frame pointer
  pub store_does : (depth k : ℕ) (src : Register) → Framed depth b → k < frame_words
      → store_row Dw R10 (word_offset k) (Reg src) (at image p b) ≡ at image (p + 1) (set_word depth k (b.registers src) b)
  unfolding store_row
  store_does depth k src f below =
      let place = ap (λ (w : ℕ). (w + cast_unsigned w64 (word_offset k)) % 2 ^ 64) f.pointer_is ∙ (omega arith) in
      let write : write_of b.memory ((b.registers R10 + cast_unsigned w64 (word_offset k)) % 2 ^ 64) bytes.Dw (b.registers src) ≡ Ok (set_word depth k (b.registers src) b).memory = write_word b.memory Stack (stack_index depth k) _ (b.registers src) f.memory (λ (e : Stack ≡ Constants). absurd (cc)) (has_word depth k b f below) place in
      ap (λ (w : ℕ). stored (write_of b.memory ((b.registers R10 + cast_unsigned w64 (word_offset k)) % 2 ^ 64) bytes.Dw w) (at image p b)) (operand_is image p b (Reg src))
      ∙ ap (λ (r : Result Memory Fault). stored r (at image p b)) write

  -- a number is stored in a word of the frame
  pub put_does : (depth k : ℕ) (n : ℤ) → Framed depth b → k < frame_words
      → store_row Dw R10 (word_offset k) (Imm n) (at image p b) ≡ at image (p + 1) (set_word depth k (cast_unsigned w64 n) b)
  unfolding store_row
  put_does depth k n f below =
      let place = ap (λ (w : ℕ). (w + cast_unsigned w64 (word_offset k)) % 2 ^ 64) f.pointer_is ∙ (omega arith) in
      let write : write_of b.memory ((b.registers R10 + cast_unsigned w64 (word_offset k)) % 2 ^ 64) bytes.Dw (cast_unsigned w64 n) ≡ Ok (set_word depth k (cast_unsigned w64 n) b).memory = write_word b.memory Stack (stack_index depth k) _ (cast_unsigned w64 n) f.memory (λ (e : Stack ≡ Constants). absurd (cc)) (has_word depth k b f below) place in
      ap (λ (r : Result Memory Fault). stored r (at image p b)) write

  -- a word of a region is loaded through a register that holds its address
  pub load_word_does : (r : Region) (i : ℕ) (dst src : Register) → IsMemory b.memory → HasWord (bytes_in r b.memory) i → b.registers src ≡ base_of r + 8 * i → b.registers src < 2 ^ 64 → is_frame_pointer dst ≡ false → load_row Dw dst src (pos 0) (at image p b) ≡ at image (p + 1) (set_register b dst (word_in (bytes_in r b.memory) i))
  unfolding load_row
  load_word_does r i dst src is below e small free = grind (arith, read_word, operand_is, register_set)

  -- a word of a region is stored through such a register
  pub store_word_does : (r : Region) (i : ℕ) (dst src : Register) → IsMemory b.memory → (r ≡ Constants → ⊥) → HasWord (bytes_in r b.memory) i → b.registers dst ≡ base_of r + 8 * i → b.registers dst < 2 ^ 64 → store_row Dw dst (pos 0) (Reg src) (at image p b) ≡ at image (p + 1) (record b { memory = with_bytes r (put_word (bytes_in r b.memory) i (b.registers src)) b.memory })
  unfolding store_row
  store_word_does r i dst src is writable below e small = grind (arith, write_word, operand_is)
