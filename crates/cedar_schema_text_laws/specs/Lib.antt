pub mod RoundTrip
pub mod Sayable
pub mod TextForm
pub mod TextNames
pub mod Words
