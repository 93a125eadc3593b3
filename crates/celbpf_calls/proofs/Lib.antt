-- The proofs of `celbpf_calls`.

pub mod WideGates
