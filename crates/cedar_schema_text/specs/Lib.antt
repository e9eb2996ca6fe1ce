pub mod Placed
pub mod Shown
pub mod Meaning
pub mod Faults
pub mod Named
pub mod Here
pub mod TextFormat
pub mod Told
