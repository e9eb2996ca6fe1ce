pub mod TextForm
pub mod TextMeaning
pub mod TogetherWritten
pub mod WritableBag
