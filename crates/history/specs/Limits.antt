-- The limits of the checkpoints of a run.
use Rattle.std.specs.Prelude.{ℕ}

-- the maximum number of checkpoints
abbrev pub checkpoint_limit : ℕ
checkpoint_limit = 64

-- the distance between two places for checkpoints, in steps
abbrev pub checkpoint_interval : ℕ
checkpoint_interval = 1024
