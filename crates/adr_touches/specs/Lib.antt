pub mod Applied
pub mod Edited
pub mod Windows
