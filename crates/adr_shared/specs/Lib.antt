pub mod Map
pub mod Tree
pub mod Node
pub mod Sides
pub mod Laws
pub mod Lead
