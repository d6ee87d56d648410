-- What this layer means to the layers above: a glob is a map from sections, by number, to lists of bytes, in which frames stand by place
-- (`Frames`, `glob/Sections`). A frame is a value's spelling with its seal behind it. What a crash at any moment of a call leaves of the
-- sections' blobs is said in the bytes that had settled, and in the contents since, which are all prefixes of a section's bytes
-- (`glob/Lasting`).
pub mod CodecShown
pub mod Crashes
pub mod Frames
pub mod Holding
pub mod Kept
pub mod Opening
pub mod OpeningFound
pub mod OpeningRefusing
pub mod Openings
pub mod Pair
pub mod PairDestroys
pub mod PairFaults
pub mod PairPrunes
pub mod PairRefusing
pub mod PairShown
pub mod PairSync
pub mod PairSyncs
pub mod PairUse
pub mod Places
pub mod Reconciling
pub mod Records
pub mod ReplayShown
pub mod Replaying
pub mod Tails
pub mod Tracked
pub mod glob
pub mod lemmas
pub mod sighted
