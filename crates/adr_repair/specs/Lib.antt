pub mod Answers
pub mod Laws
pub mod Ranks
pub mod Table
pub mod Windows
