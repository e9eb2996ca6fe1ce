pub mod MadeLemmas
pub mod RisingLemmas
pub mod SearchLemmas
