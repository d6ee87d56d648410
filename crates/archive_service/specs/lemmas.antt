pub mod Line
pub mod Made
pub mod Run
pub mod Script
pub mod Store
pub mod Word
