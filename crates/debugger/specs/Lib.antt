-- Definitions of debugger: the list of their modules.
pub mod Limits
pub mod Commands
pub mod CommandLines
pub mod Breakpoints
pub mod Listing
pub mod Inspection
pub mod Verdict
pub mod Answers
pub mod Session
pub mod Replies
pub mod Transcript
pub mod Rows
