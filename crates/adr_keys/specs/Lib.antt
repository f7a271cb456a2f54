pub mod Key
pub mod Places
pub mod Blocks
pub mod Rows
pub mod Sets
