-- What was handed over of a file gives the verdict on it.
pub mod Counting
pub mod Seeing
pub mod Parts
