-- The definitions of line_answers, file by file.
pub mod Lines
pub mod AnsweredLines
pub mod Telling
pub mod Rows
