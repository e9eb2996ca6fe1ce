pub mod Token
pub mod Lexical
pub mod Class
pub mod Reads
pub mod Written
pub mod Spelled
pub mod Refused
