pub mod Relaid
pub mod Separators
pub mod Words
