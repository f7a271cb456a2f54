pub mod Laws
pub mod Scene
