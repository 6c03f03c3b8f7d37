pub mod Laws
pub mod Named
