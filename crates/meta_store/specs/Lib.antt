-- What this layer means to the layers above: a map of keys to values and a floor, kept in the two blobs `left` and `right`
-- (`Copies`, `Pairs`). At every moment of a call, a chance seal aside, a crash leaves map and floor as they were last synced or as
-- they are being synced (`Crashes`); no other blob is touched. Between calls the blobs have settled (`Store`). What each call
-- promises is one relation: `Reads` in `Copies`, `Opening`, `Staging`, `Syncs`, `Removing`.
pub mod Blobs
pub mod Calls
pub mod Copies
pub mod Crashes
pub mod Entries
pub mod Errors
pub mod Format
pub mod Lends
pub mod Opening
pub mod Pairs
pub mod Removing
pub mod Staging
pub mod Store
pub mod Syncs
pub mod lemmas
