-- The proofs of `policy_translation`.

pub mod Tokens
mod TranslationTexts
