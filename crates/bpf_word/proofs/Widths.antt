-- The result of an operation is a word of the operation's width.
use Rattle.bpf_word.proofs.Prelude.{ℕ, ◌+◌, ◌*◌, ◌<◌, ◌^◌, ◌%◌, arith, mod-lt, div-le_self, pow_pos, or_lt, xor_lt, and_lt, ℤ, operated, word_of, AluOp, Add, Mul, Div, Sdiv, Or, And, Lsh, Rsh, Mod, Smod, Xor, Mov}

pub word_below : (bits : ℕ) (z : ℤ) → word_of bits z < 2 ^ bits
unfolding word_of
word_below bits z = grind (arith, mod-lt, pow_pos)

pub operated_below : (bits : ℕ) (op : AluOp) (a b : ℕ) → a < 2 ^ bits → b < 2 ^ bits → operated bits op a b < 2 ^ bits
unfolding operated
operated_below bits Add a b p q = mod-lt (a + b) (pow_pos bits)
operated_below bits Mul a b p q = mod-lt (a * b) (pow_pos bits)
operated_below bits Div a b p q = grind (arith, pow_pos bits, div-le_self a b)
operated_below bits Sdiv a b p q = grind (arith, pow_pos bits, word_below)
operated_below bits Or a b p q = or_lt bits a b p q
operated_below bits And a b p q = and_lt bits a b p q
operated_below bits Lsh a b p q = mod-lt (a * 2 ^ (b % bits)) (pow_pos bits)
operated_below bits Rsh a b p q = omega (arith, div-le_self a (2 ^ (b % bits)))
operated_below bits Mod a b p q = grind arith
operated_below bits Smod a b p q = grind (arith, word_below)
operated_below bits Xor a b p q = xor_lt bits a b p q
operated_below bits Mov a b p q = q
operated_below bits _ a b p q = word_below bits _
