-- Definitions for the calls of a page: translations, listings and sessions.

pub mod Translations
pub mod Images
pub mod Sessions
