-- Definitions for translations of policies: which policies have one, and its text.

pub mod Translations
pub mod TranslationText
pub mod TranslationTokens
