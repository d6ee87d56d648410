-- The law of what a crash leaves of a section's records, in one statement.
use Rattle.std.proofs.Common.{◌≡◌, ℕ, ◌*◌, ◌%◌, ◌≤◌, List, length, map, take, IsTrue, arith}
use Rattle.std.specs.List.{AllByRecursion}
use Rattle.sealed_pages.specs.SealedPrefix.{sealed_prefix, Prefix}
use Rattle.section_manager.specs.Prefixes.{IsPrefixOf}
use Rattle.paired.specs.Records.{records, entries_of, is_sound, unbroken_prefix, entry_of}
use Rattle.paired.specs.Places.{Follow, end_of}
use Rattle.paired.specs.Crashes.{IsPrefix, WasThere}
use Rattle.paired.specs.lemmas.Records.{records-prefix, records-enough}
use Rattle.paired.specs.lemmas.Kept.{kept_prefix, marker_sound}

-- Where a crash leaves a prefix of the index bytes that holds `synced` records, and of the values those that had settled, what is kept is a
-- prefix of the list with the synced records; the marker is true, and the records that stand there are the first ones of the list.
pub kept_law : (seal : List ℕ → ℕ) (P size : ℕ) (place : List ℕ → ℕ × ℕ) (index values : List ℕ) (synced least settled marker : ℕ) (ci cv : List ℕ) (contents : List (List ℕ))
    → 1 ≤ size → length index % size ≡ 0 → synced * size ≤ least → marker ≤ synced
    → Follow place 0 (records size index) (length values)
    → AllByRecursion (λ r. IsTrue (is_sound seal values (place r))) (records size index)
    → end_of place 0 (take synced (records size index)) ≤ settled
    → Prefix seal P index least ci
    → IsPrefixOf (take settled values) cv
    → AllByRecursion (λ c. IsPrefixOf c values) contents
    → AllByRecursion (λ r. IsTrue (is_sound seal cv (place r)) → WasThere contents cv (place r)) (records size (sealed_prefix seal P ci))
    → IsPrefix (entries_of place size index values) synced (map (entry_of place cv) (unbroken_prefix (λ r. is_sound seal cv (place r)) marker 0 (records size (sealed_prefix seal P ci))))
    × ((marker ≤ length (records size (sealed_prefix seal P ci)))
    × (AllByRecursion (λ r. IsTrue (is_sound seal cv (place r))) (take marker (records size (sealed_prefix seal P ci)))
    × (records size (sealed_prefix seal P ci) ≡ take (length (records size (sealed_prefix seal P ci))) (records size index))))
kept_law seal P size place index values synced least settled marker ci cv contents pos whole long marked follow sound reach prefix is_prefix prefixes none =
    let left : List ℕ = sealed_prefix seal P ci in
    let first : records size left ≡ take (length (records size left)) (records size index) = records-prefix size index left pos prefix.is prefix.no_longer in
    let enough : synced ≤ length (records size left) = records-enough size synced left pos (omega (arith, long, prefix.no_shorter)) in (
      kept_prefix seal place values cv (records size index) (records size left) (length values) synced settled marker contents marked enough first follow (omega arith) sound reach is_prefix prefixes none,
      (
        omega (arith, marked, enough),
        (
          marker_sound seal place values cv (records size index) (records size left) (length values) synced settled marker contents marked enough first follow (omega arith) sound reach is_prefix prefixes none,
          first,
        ),
      ),
    )
