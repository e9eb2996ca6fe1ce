pub mod Places
pub mod Weights
