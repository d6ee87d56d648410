pub mod Buffer
pub mod Laws
