pub mod Offers
pub mod Query
pub mod Rows
pub mod Asks
pub mod Laws
pub mod Keys
