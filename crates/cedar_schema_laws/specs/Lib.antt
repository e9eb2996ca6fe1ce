pub mod EndToEnd
pub mod Words
