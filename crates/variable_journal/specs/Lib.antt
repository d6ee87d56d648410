-- What this layer means to the layers above: of each section a list of items of any length (`Lists`), each in a
-- frame at its offset (`Frames`). What calls promise is in `Opening`, `OpeningAtMost`, `Adding`,
-- `Reading`, `Trying`, `Settling` and `Removing`, and of a replay in `Replaying`, `Advancing` and `Finishing`. How far
-- a read of a frame goes is in `Reaching`. What a crash leaves of a section is said of
-- its bytes in these, and of its items in `Lasting`.
pub mod Adding
pub mod Advancing
pub mod Bytes
pub mod Draining
pub mod Finishing
pub mod FrameReading
pub mod Frames
pub mod Lasting
pub mod Laws
pub mod Lists
pub mod Opening
pub mod OpeningAtMost
pub mod Reaching
pub mod Reading
pub mod Removing
pub mod Replaying
pub mod Resting
pub mod Settling
pub mod Shown
pub mod Trying
pub mod Turning
pub mod Walking
pub mod lemmas
