-- A cut of whole programs as text.
pub mod Text
pub mod Given
