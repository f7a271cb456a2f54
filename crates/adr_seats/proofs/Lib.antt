pub mod Members
pub mod Among
pub mod Chunks
pub mod Crossing
