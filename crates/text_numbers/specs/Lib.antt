-- Definitions of text_numbers: the list of their modules.
pub mod Numbers
