pub mod Figures
pub mod Gathered
pub mod Known
pub mod Listed
pub mod Words
