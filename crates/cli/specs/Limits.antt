-- Limits of steps for both programs, and of reads for the gatekeeper.
use Rattle.std.specs.Prelude.{ℕ, ◌^◌}

-- the largest number of steps of a run
abbrev pub step_limit : ℕ
step_limit = 1000000000

-- the number of steps of a run if none is given
abbrev pub default_steps : ℕ
default_steps = 10000000

-- the largest limit of the bytes that helper calls read in a run
abbrev pub most_reads : ℕ
most_reads = 2 ^ 62

-- the limit of these bytes if none is given
abbrev pub default_reads : ℕ
default_reads = 16777216
