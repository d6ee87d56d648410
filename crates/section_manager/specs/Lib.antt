-- What this layer means to the layers above: a map from sections, by number, to lists of bytes, with a floor and a ceiling
-- (`Sections`). Each section is a buffer over a blob of its own. What a crash at any moment of a call leaves of the blobs is said
-- blob by blob (`Leaving`, `Lasting`), by the test that each buffer brings: one over sealed pages (`Sealed`), one without seals
-- (`unsealed/Buffer`), whose contents since its blob settled are prefixes of its bytes (`Prefixes`).
pub mod Answers
pub mod Doomed
pub mod Entries
pub mod Prefixes
pub mod Lasting
pub mod Leaving
pub mod Raised
pub mod Refusing
pub mod Sealed
pub mod SealedLaws
pub mod Sections
pub mod Setting
pub mod lemmas
pub mod managing
pub mod unsealed
