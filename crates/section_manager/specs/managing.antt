pub mod Lending
pub mod Lent
pub mod Managed
pub mod Finding
pub mod Opening
pub mod Settling
pub mod Removing
pub mod Cutting
