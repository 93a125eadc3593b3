-- The words of the verdict region, and their lines.
use Rattle.debugger.proofs.Prelude.{◌≡◌, ℕ, ◌+◌, ◌*◌, ◌≤◌, List, [], ◌++◌, Ok, refl, append_assoc, append-nil, arith, add-one, nat_tests, read_of, Memory, Dw, HasRegions, verdict_word, word_line, word_lines}

-- a word of the verdict region can be read
pub word_read : (m : Memory) (at : ℕ) → HasRegions m → at + 8 ≤ 2048 → read_of m (0x300000000 + at) Dw ≡ Ok (verdict_word m at)
unfolding read_of
word_read m at is inside = grind (arith, nat_tests)

pub words_none : (name : List ℕ) (m : Memory) (from : ℕ) → word_lines name m from 0 ≡ []
unfolding word_lines
words_none name m from = refl

pub words_more : (name : List ℕ) (m : Memory) (from i : ℕ)
    → word_lines name m from (i + 1) ≡ word_lines name m from i ++ word_line name i (verdict_word m (from + 8 * i))
unfolding word_lines
words_more name m from i = rw add-one refl

-- the lines of the words, one after another
pub ruleset words = (words_none, words_more, append_assoc, append-nil)
