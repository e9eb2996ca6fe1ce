pub mod LaidOut
pub mod Linked
pub mod SameTokens
pub mod Statuses
pub mod Words
