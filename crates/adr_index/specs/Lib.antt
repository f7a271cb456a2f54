pub mod Chunks
pub mod Index
pub mod Query
pub mod Reach
pub mod Tables
pub mod Tree
