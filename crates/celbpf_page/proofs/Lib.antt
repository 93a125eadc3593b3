-- The proofs of `celbpf_page`.

mod Refused
mod Replies
