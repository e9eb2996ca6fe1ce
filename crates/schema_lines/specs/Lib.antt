pub mod Hidden
pub mod Samples
pub mod Words
