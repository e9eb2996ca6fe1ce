pub mod ByName
pub mod Entries
pub mod FromBelow
pub mod Words
pub mod formers
