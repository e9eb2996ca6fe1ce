pub mod Listing
pub mod Mark
pub mod PlaceLaws
pub mod RefusalPlace
pub mod Table
pub mod TypeMarks
pub mod Words
