pub mod CallLemmas
pub mod HelpExamples
pub mod JoinExamples
pub mod TypeExamples
