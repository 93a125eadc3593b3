-- Definitions for lists that copies share: their items, and how they grow.

pub mod Items
pub mod Pool
pub mod Lending
