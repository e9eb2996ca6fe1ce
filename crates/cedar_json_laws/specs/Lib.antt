pub mod Rewritten
pub mod Words
