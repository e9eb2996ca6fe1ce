pub mod Mismatch
pub mod Naming
pub mod Plain
pub mod RequestFault
pub mod ValueFault
