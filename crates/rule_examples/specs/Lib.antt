pub mod Samples
pub mod TakesText
pub mod Words
