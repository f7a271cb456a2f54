pub mod Governed
pub mod Json
pub mod Segments
pub mod Shown
