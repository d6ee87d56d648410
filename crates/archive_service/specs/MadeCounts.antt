-- How the program makes its script, and how it counts what replies tell (`Sums`).
use Rattle.std.specs.Prelude.{◌≡◌, ℕ, ◌+◌, ◌^◌, ◌≤◌, List, [], ◌∷◌, ◌++◌, length, sum_by, Option, Result, Ok, Err}
use Rattle.std.specs.List.{flat_map}
use Rattle.archives.specs.Replies.{Reply}
use Rattle.archive_service.specs.Made.{first_of, last_of, made, sums_of}
use Rattle.archive_service.specs.Texts.{Spelled}
use Rattle.archive_service.specs.declared.made.Counts.{Counts}
use Rattle.archive_service.specs.declared.script.ScriptError.{ScriptError}
use Rattle.archive_service.specs.declared.script.ScriptError.TheVariants as script

-- the script was made, or there was no memory
abbrev pub Makes : ℕ → Result (List Spelled) ScriptError → Type 0
Makes n (Ok commands) = commands ≡ made n
Makes n (Err e) = e ≡ script.Mem

-- of one reply: how many values were found, how many bytes these have, how many times it says yes, how many runs it has,
-- and the index that it tells of
abbrev pub value_count : Reply (List ℕ) → ℕ
value_count r = (sums_of r).values

abbrev pub value_bytes : Reply (List ℕ) → ℕ
value_bytes r = (sums_of r).bytes

abbrev pub yes_count : Reply (List ℕ) → ℕ
yes_count r = (sums_of r).keys

abbrev pub range_count : Reply (List ℕ) → ℕ
range_count r = (sums_of r).ranges

abbrev pub index_of_reply : Reply (List ℕ) → List (Option ℕ)
index_of_reply r = (sums_of r).indices

-- of these replies
pub record AreCounted (counts : Counts) (replies : List (Reply (List ℕ))) : Type 0 where
  -- the values found
  pub values : counts.values ≡ sum_by value_count replies
  -- the keys that are there
  pub keys : counts.keys ≡ sum_by yes_count replies
  -- the runs
  pub ranges : counts.ranges ≡ sum_by range_count replies
  -- the bytes of the values
  pub bytes : counts.bytes ≡ sum_by value_bytes replies
  -- the indices
  pub indices : counts.indices ≡ length (flat_map index_of_reply replies)
  -- the first of them
  pub first : counts.first ≡ first_of (flat_map index_of_reply replies)
  -- and the last
  pub last : counts.last ≡ last_of (flat_map index_of_reply replies)

-- each sum is at most this number
pub record AreUpTo (most : ℕ) (counts : Counts) : Type 0 where
  -- that of the values found
  pub values : counts.values ≤ most
  -- of the keys that are there
  pub keys : counts.keys ≤ most
  -- of the runs
  pub ranges : counts.ranges ≤ most
  -- of the bytes of the values
  pub bytes : counts.bytes ≤ most
  -- of the indices
  pub indices : counts.indices ≤ most

-- One reply more is counted.
pub record AddsReply (old : Counts) (reply : Reply (List ℕ)) (new : Counts) : Type 0 where
  -- whatever was counted before, it is counted with it
  pub counted : (replies : List (Reply (List ℕ))) → AreCounted old replies → AreCounted new (replies ++ reply ∷ [])
  -- no sum grows by more than a number of 64 bits
  pub grows : (most : ℕ) → AreUpTo most old → AreUpTo (most + 2 ^ 64) new
