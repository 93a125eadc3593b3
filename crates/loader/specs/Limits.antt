-- The limit of an image's constants; that of its slots is in insn_codec.
use Rattle.std.specs.Prelude.{ℕ}

-- the maximum number of bytes of constants: 2 ^ 20
abbrev pub constants_limit : ℕ
constants_limit = 1048576
