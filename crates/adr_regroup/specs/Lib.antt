pub mod Compared
pub mod Edited
pub mod Kinds
pub mod Party
pub mod Program
