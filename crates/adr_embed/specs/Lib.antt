pub mod Answered
pub mod Governor
pub mod Held
pub mod Instants
pub mod Laws
pub mod Steps
