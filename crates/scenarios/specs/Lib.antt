-- What the store of records in a list means.
pub mod ListedKind
