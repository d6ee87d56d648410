-- What this layer means to the layers above: which replies a list of commands may get, as a run of a machine
-- whose state is a list of records for each section; and which images are lawful for an archive, what they
-- keep, and which states they stand for. `Changes` has what every archive promises of its calls, and
-- `Indices` what it tells of its indices; `Puts`, `Syncs`, `Prunes`, `Gets`, `Entries`, `Opens` and
-- `Destroys` what the prunable one does beside.
pub mod Archives
pub mod Changes
pub mod Commands
pub mod Config
pub mod Decoding
pub mod Destroys
pub mod Enters
pub mod Entries
pub mod Filing
pub mod FilingLaws
pub mod Finding
pub mod Gets
pub mod Growing
pub mod IndexRecord
pub mod IndexRecordLaws
pub mod Indices
pub mod Lawful
pub mod Limits
pub mod Machine
pub mod Opening
pub mod Opens
pub mod Outlasts
pub mod Prunable
pub mod Prunes
pub mod Puts
pub mod Putting
pub mod PuttingLaws
pub mod Raised
pub mod Reading
pub mod Refusing
pub mod Replies
pub mod Rows
pub mod Shown
pub mod Standing
pub mod Syncing
pub mod Syncs
pub mod Words
pub mod lemmas
pub mod plain
