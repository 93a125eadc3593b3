-- The program as a whole cluster: its start, its lines on the policies, and the answers to lines.
pub mod Starting
pub mod Telling
pub mod Counts
pub mod Lines
