pub mod WholeExported
pub mod AskAnswers
