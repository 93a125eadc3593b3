-- Definitions for reviews: their roots, their decisions, their results and the runs of programs.

pub mod ErrorCodes
pub mod Refusals
pub mod Reviews
pub mod GatePolicies
pub mod Deciding
pub mod Starting
pub mod Lent
pub mod OneAnswer
pub mod Decisions
pub mod Findings
pub mod Exiting
pub mod Standing
pub mod Endings
pub mod WideCases
pub mod RootRows
pub mod RootValues
