-- The program of a policy: its code, the values it computes, and that it decides as the policy does.
pub mod Conditions
pub mod Parts
pub mod Runs
pub mod Sizes
pub mod Validations
pub mod Whole
pub mod Words
