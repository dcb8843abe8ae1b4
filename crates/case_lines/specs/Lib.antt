-- The line of a case's answer.
pub mod Answers
