pub mod SampleLemmas
pub mod StatedRecords
