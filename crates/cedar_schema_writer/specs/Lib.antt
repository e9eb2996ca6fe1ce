pub mod Definitions
pub mod Parts
pub mod Refusal
pub mod Sound
pub mod Words
