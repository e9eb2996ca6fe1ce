pub mod Flaws
pub mod Layout
pub mod Names
pub mod Pieces
pub mod Scope
pub mod TypeLayout
