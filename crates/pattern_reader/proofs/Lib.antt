pub mod Measured
pub mod Loop
pub mod Outcomes
pub mod OneOutcome
pub mod Bytes
pub mod Compiled
pub mod Spans
pub mod Searched
