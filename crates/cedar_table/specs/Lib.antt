pub mod Entries
pub mod Hints
pub mod StandsAt
pub mod Words
