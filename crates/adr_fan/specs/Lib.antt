pub mod Laws
pub mod Levels
pub mod Parts
pub mod Queries
