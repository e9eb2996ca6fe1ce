pub mod EntitySamples
pub mod Samples
pub mod Words
pub mod WrittenSamples
