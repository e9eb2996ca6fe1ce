pub mod SoFar
pub mod Before
pub mod Printed
