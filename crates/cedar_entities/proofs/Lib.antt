pub mod ExchangeLemmas
pub mod FreshTypes
pub mod KeptIds
pub mod KeptLemmas
