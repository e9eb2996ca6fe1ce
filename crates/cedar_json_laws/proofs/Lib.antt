pub mod Declared
pub mod Placed
