-- A device made from an image, and images made from a device.
use Rattle.std.proofs.Common.{◌≡◌, ◌&&◌, ℕ, not, List, [], Option, Some, None, is_some, Vec, refl, sym, ap, subst}
use Rattle.std.specs.List.{list_all}
use Rattle.std.specs.Option.{option_map, option_and_then}
use Rattle.std.specs.declared.alloc.Global.{Global}
use Rattle.std.proofs.lemmas.Option.{same_Some}
use Rattle.blob_device.specs.declared.memory.blob_log.BlobLog.{BlobLog}
use Rattle.blob_device.specs.declared.memory.blob_log.Call.{Call}
use Rattle.blob_device.specs.Disk.{Blob, AbsentIsNothing, nothing, begun}
use Rattle.blob_device.specs.Calls.{started, now, replay, change_of, writes_bytes, IsSound}
use Rattle.blob_device.specs.Tracks.{track_of, track_at}
use Rattle.blob_device.specs.Laws.{all_below}

abbrev bytes_in : Option (Vec ℕ Global) → Option (List ℕ)
bytes_in i = option_map (λ (v : Vec ℕ Global). v.items) i

-- the log of a blob of the image
pub track_started : (o : Option BlobLog) (i : Option (Vec ℕ Global)) → option_map track_of o ≡ option_and_then (λ (v : Vec ℕ Global). Some (started v.items)) i
    → track_at o ≡ record { start = bytes_in i; calls = []; reads = None }
track_started None None is = refl
track_started None (Some v) is = absurd (cc is)
track_started (Some l) None is = absurd (cc is)
track_started (Some l) (Some v) is = same_Some (track_of l) (started v.items) is

-- what is made of each log is made of the blob that it tells
pub made_at : {T : Type 0} (makes : Blob → Option T) → makes nothing ≡ None → (o : Option BlobLog) → option_and_then (λ (l : BlobLog). makes (now (track_of l))) o ≡ makes (now (track_at o))
unfolding replay
made_at makes none None = sym none
made_at makes none (Some l) = refl

absent_begun : (start : Option (List ℕ)) → AbsentIsNothing (begun start)
absent_begun None = λ gone sure. refl
absent_begun (Some c) = λ gone sure. absurd (cc gone)

absent_uncalled : (cs : List Call) (start : Option (List ℕ)) → cs ≡ [] → AbsentIsNothing (replay cs (begun start))
unfolding replay
absent_uncalled cs start is = subst (λ (l : List Call). AbsentIsNothing (replay l (begun start))) (sym is) (absent_begun start)

-- what holds of a log before the first call
pub sound_begun : (o : Option BlobLog) → (track_at o).calls ≡ [] → (track_at o).reads ≡ None → IsSound 0 (track_at o)
sound_begun None calls reads = record { below = refl; bytes = refl; start = refl; open_there = refl; absent = absent_uncalled [] None refl }
sound_begun (Some l) calls reads = record {
  below = ap (λ (cs : List Call). all_below 0 cs) calls;
  bytes = ap (λ (cs : List Call). list_all (λ (c : Call). writes_bytes (change_of c.step)) cs) calls;
  start = l.bytes;
  open_there = ap (λ (r : Option ℕ). is_some r && not (now (track_of l)).there) reads;
  absent = absent_uncalled (track_of l).calls (track_of l).start calls;
}
