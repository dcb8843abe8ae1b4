-- Decimal numbers, read and printed, and the line of an answer.
pub mod Numbers
pub mod Print
