-- The program under given policies: their joint decisions, the answers to lines, and the start.
pub mod Together
pub mod Tally
pub mod Lines
pub mod Starting
