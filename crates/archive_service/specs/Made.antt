-- A script that is generated, and the line that sums up what it got: for a count n, n records are put, each
-- at an even index, and read back.
use Rattle.std.specs.Prelude.{ℕ, ◌+◌, ◌*◌, ◌%◌, ◌==◌, if◌then◌else◌, List, [], ◌∷◌, ◌++◌, length, map, replicate, sum_by, Option, Some, None, codes}
use Rattle.std.specs.Int.{w64, to_be_bytes}
use Rattle.std.specs.List.{flat_map, range_with_len}
use Rattle.std.specs.Fmt.{decimal}
use Rattle.archives.specs.Commands.{Put, Get, HasKey, Ranges, First, Last, Sync, Reopen}
use Rattle.archives.specs.Replies as reply
use Rattle.archives.specs.Replies.{Reply}
use Rattle.archives.specs.declared.error.Error.TheVariants.{Mem}
use Rattle.archive_service.specs.ErrorTexts.{error_line}
use Rattle.archive_service.specs.Texts.{Spelled, number_text}
use Rattle.archive_service.specs.declared.replies.End.{End}
use Rattle.archive_service.specs.declared.replies.End.TheVariants.{Done, Failed}

-- ---- the script

-- the key of record i is i as eight bytes, and its value i mod 17 bytes, each of them i mod 256
abbrev pub made_key : ℕ → List ℕ
made_key i = to_be_bytes w64 i

abbrev pub made_value : ℕ → List ℕ
made_value i = replicate (i % 17) (i % 256)

-- record i is put at index 2i; behind each hundredth stands a sync
abbrev pub made_puts : ℕ → List Spelled
made_puts i =
    Put (2 * i) (made_key i) (made_value i) ∷ (if (i + 1) % 100 == 0 then Sync ∷ [] else [])

-- each thousandth key is asked for, from the first on
abbrev pub made_tests : ℕ → List Spelled
made_tests i = if i % 1000 == 0 then HasKey (made_key i) ∷ [] else []

-- All n records are put, synced, and opened again; then each is read, keys are asked for, and at last the
-- ranges and both ends.
abbrev pub made : ℕ → List Spelled
made n = flat_map made_puts (range_with_len 0 n)
    ++ (Sync ∷ Reopen ∷ [])
    ++ map (λ i. Get (2 * i)) (range_with_len 0 n)
    ++ flat_map made_tests (range_with_len 0 n)
    ++ (Ranges ∷ First ∷ Last ∷ [])

-- ---- its summary

-- What replies tell, summed up: values that were found, and their bytes; keys that are there; runs of indices; and
-- each index that was asked for, or that there is none.
pub record Sums : Type 0 where
  pub values : ℕ
  pub bytes : ℕ
  pub keys : ℕ
  pub ranges : ℕ
  pub indices : List (Option ℕ)

abbrev pub nothing_told : Sums
nothing_told = record { values = 0; bytes = 0; keys = 0; ranges = 0; indices = [] }

-- what one reply tells
abbrev pub sums_of : Reply (List ℕ) → Sums
sums_of (reply.Value (Some value)) = record nothing_told { values = 1; bytes = length value }
sums_of (reply.Flag holds) = record nothing_told { keys = if holds then 1 else 0 }
sums_of (reply.Ranges runs) = record nothing_told { ranges = length runs }
sums_of (reply.Index index) = record nothing_told { indices = index ∷ [] }
sums_of reply.Done = nothing_told
sums_of (reply.Value None) = nothing_told
sums_of (reply.Values values) = nothing_told
sums_of (reply.Gap end next) = nothing_told
sums_of (reply.Items numbers) = nothing_told
sums_of reply.Unsupported = nothing_told
sums_of reply.Closed = nothing_told

-- the first and the last of the indices that came, each if there is one; the script asks for the least first,
-- and then for the greatest
abbrev pub first_of : List (Option ℕ) → Option ℕ
first_of [] = None
first_of (index ∷ indices) = index

abbrev pub last_of : List (Option ℕ) → Option ℕ
last_of [] = None
last_of (index ∷ []) = index
last_of (index ∷ next ∷ indices) = last_of (next ∷ indices)

-- So many records were made; so many values were found, keys were there, and ranges; the values found have so
-- many bytes; and these are the least and the greatest index, or a dash where there is none.
abbrev pub summary_text : ℕ → List (Reply (List ℕ)) → List ℕ
summary_text n replies = codes "made " ++ decimal n
    ++ codes " found " ++ decimal (sum_by (λ r. (sums_of r).values) replies)
    ++ codes " keys " ++ decimal (sum_by (λ r. (sums_of r).keys) replies)
    ++ codes " ranges " ++ decimal (sum_by (λ r. (sums_of r).ranges) replies)
    ++ codes " bytes " ++ decimal (sum_by (λ r. (sums_of r).bytes) replies)
    ++ codes " first " ++ number_text (first_of (flat_map (λ r. (sums_of r).indices) replies))
    ++ codes " last " ++ number_text (last_of (flat_map (λ r. (sums_of r).indices) replies))
    ++ codes "\n"

-- What is written of a run over a generated script: its summary, or the line of its error alone. Of want of
-- memory no line tells.
abbrev pub made_text : ℕ → List (Reply (List ℕ)) → End → List ℕ
made_text n replies Done = summary_text n replies
made_text n replies (Failed Mem) = []
made_text n replies (Failed e) = error_line e
