-- What this layer means to the layers above: a disk of named blobs, with the history of each at every moment, and what a crash
-- may leave of it (`Disk`, `Change`, `Timeline`); the list of opened blobs (`Opened`) and the counts of calls and faults (`Counts`); what a
-- call touches of all that (`Footprint`);
-- sources and sinks of bytes (`Streams`).
pub mod Agreeing
pub mod Building
pub mod Calls
pub mod Change
pub mod Counts
pub mod Disk
pub mod Errors
pub mod Failing
pub mod FileMeaning
pub mod FolderNames
pub mod Footprint
pub mod Guards
pub mod Histories
pub mod Images
pub mod Keeps
pub mod Laws
pub mod Lengths
pub mod Listed
pub mod MemStreams
pub mod MemoryMeaning
pub mod NameList
pub mod NamesThere
pub mod Opened
pub mod Picked
pub mod Places
pub mod StdStreams
pub mod Stops
pub mod Streams
pub mod Tables
pub mod Timeline
pub mod Tracks
pub mod lemmas
