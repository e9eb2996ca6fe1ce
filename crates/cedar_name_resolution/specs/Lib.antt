pub mod BuiltIn
pub mod DeclaredJust
pub mod HeldNames
pub mod QualifyFault
pub mod Refused
pub mod ShadowedNames
pub mod Words
pub mod WrittenTypes
