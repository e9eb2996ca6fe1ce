pub mod by_name
