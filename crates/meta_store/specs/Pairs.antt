-- What two copies hold together: that of the newer one, and which one is written next.
use Rattle.std.specs.Prelude.{◌≡◌, ℕ, ◌==◌, nat_lt, if◌then◌else◌, List, [], Result, Ok, Err}
use Rattle.meta_store.specs.declared.copy.Contents.{Contents}
use Rattle.meta_store.specs.declared.copy.CopyText.{CopyText}
use Rattle.meta_store.specs.declared.copy.CopyText.TheVariants.{Absent, Refused, Whole}
use Rattle.meta_store.specs.declared.error.Side.{Side}
use Rattle.meta_store.specs.declared.error.Side.TheVariants.{Left, Right}
use Rattle.meta_store.specs.declared.pair.Chosen.{Chosen}
use Rattle.meta_store.specs.Format.{Format}
use Rattle.meta_store.specs.Copies.{ReadsAs}

-- no entries, and floor 0
abbrev pub empty_map : {K V : Type 0} → Contents K V
empty_map = record { floor = 0; entries = [] }

-- of two whole copies the one with the greater version holds the map; where they have one version, the right one is refused
abbrev pub newer_of : {K V : Type 0} → ℕ → Contents K V → ℕ → Contents K V → Result (Chosen K V) Side
newer_of v mine w theirs =
    if v == w then Err Right
    else if nat_lt v w then Ok (record { version = w; older = Left; contents = theirs })
    else Ok (record { version = v; older = Right; contents = mine })

-- What two copies hold, or the side that is refused. With no copy the map is empty and the next version is 1.
abbrev pub chosen_of : {K V : Type 0} → CopyText K V → CopyText K V → Result (Chosen K V) Side
chosen_of (Refused v) right = Err Left
chosen_of Absent (Refused w) = Err Right
chosen_of (Whole v floor entries) (Refused w) = Err Right
chosen_of Absent Absent = Ok (record { version = 0; older = Left; contents = empty_map })
chosen_of (Whole v floor entries) Absent =
    Ok (record { version = v; older = Right; contents = record { floor = floor; entries = entries } })
chosen_of Absent (Whole w floor entries) =
    Ok (record { version = w; older = Left; contents = record { floor = floor; entries = entries } })
chosen_of (Whole v floor entries) (Whole w floor' others) =
    newer_of v (record { floor = floor; entries = entries }) w (record { floor = floor'; entries = others })

-- these bytes of the two blobs read as copies with this outcome
pub record ReadsPair {K V : Type 0} (f : Format K V) (left right : List ℕ) (outcome : Result (Chosen K V) Side) : Type 0 where
  pub left_text : CopyText K V
  pub right_text : CopyText K V
  pub left_reads : ReadsAs f left left_text
  pub right_reads : ReadsAs f right right_text
  pub is : chosen_of left_text right_text ≡ outcome

-- these bytes of the two blobs hold this map and floor
pub record HoldMap {K V : Type 0} (f : Format K V) (left right : List ℕ) (contents : Contents K V) : Type 0 where
  pub chosen : Chosen K V
  pub reads : ReadsPair f left right (Ok chosen)
  pub map : chosen.contents ≡ contents
