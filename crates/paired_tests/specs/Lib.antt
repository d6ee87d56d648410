pub mod ContentLaws
pub mod Contents
pub mod Stores
