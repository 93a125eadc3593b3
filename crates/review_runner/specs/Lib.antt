-- Definitions for celbpf: its commands and orders, what each does, and the whole program.

pub mod Running
pub mod Output
pub mod Commands
pub mod Order
pub mod Rows
pub mod Opening
pub mod Debugging
pub mod PolicyFiles
pub mod Telling
pub mod Making
pub mod Performing
pub mod Effect
pub mod Program
