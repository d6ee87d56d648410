-- What this layer means to the layer above: of each section a list of rows, an index and a key each, by position
-- (`Rows`); and what lookups by index and by the word of a key find of them (`Tables`). How the rows stand in memory,
-- as vectors, maps and handles, is in `Slots`, `Positions` and `Words`; `Tables.AreInOrder` and `Tables.HaveWords` tie
-- both together.
pub mod Rows
pub mod Handles
pub mod Slots
pub mod Firsts
pub mod Positions
pub mod Words
pub mod Tables
pub mod Plain
