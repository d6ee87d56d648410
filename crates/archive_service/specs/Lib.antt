-- What this layer means to the layers above: which bytes are a script, which texts replies and errors have, and what
-- a store of records is (`Kinds`), the prunable archive as one (`PrunableKind`), by what a command does (`Families`),
-- and what a run of a script's commands over a store promises (`Serves`). What contracts promise of one command, or of
-- an opening, is in `StoreCalls`.
pub mod Causes
pub mod Ended
pub mod ErrorTexts
pub mod Families
pub mod Kinds
pub mod Made
pub mod MadeCounts
pub mod PrunableKind
pub mod PrunableStore
pub mod PuttingNames
pub mod Reading
pub mod ReadingLaws
pub mod RunLaws
pub mod Script
pub mod Serves
pub mod ServesOne
pub mod Settings
pub mod Starts
pub mod StoreCalls
pub mod Stores
pub mod Texts
pub mod Words
pub mod Writing
pub mod lemmas
