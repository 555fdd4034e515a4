pub mod EightLaws
pub mod ProbeLaws
