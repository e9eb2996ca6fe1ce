pub mod Checked
pub mod Flawless
pub mod Held
pub mod Lines
pub mod NamesGiven
pub mod Reserved
pub mod Spelled
pub mod Written
