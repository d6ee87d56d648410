-- What an opening that a crash stops leaves, and that what stands below a checkpoint stays.
use Rattle.std.proofs.Common.{◌≡◌, inl, inr, ℕ, ◌^◌, ◌<◌, ◌≤◌, ◌==◌, min, if◌then◌else◌, Bool, true, false, List, [], length, take, refl, ◌∙◌, ap, arith}
use Rattle.std.specs.Prelude.{nat_lt}
use Rattle.std.proofs.lemmas.Bool.{cases_lt, eqb-true, ltb-true}
use Rattle.std.proofs.lemmas.List.{take_all, take-take}
use Rattle.blob_device.specs.Disk.{AbsentIsNothing, Image, Key}
use Rattle.blob_device.specs.Timeline.{Timeline, disk, Always}
use Rattle.blob_device.specs.lemmas.Moments.{always_weaker}
use Rattle.paired.specs.Kept.{Layout, Markers, kept_by}
use Rattle.paired.specs.Opening.{as_read, MayBeOpened, Relation, UpTo, IsUpTo, KeepsBy, KeepsAllBy, RecallsAloneBy}
use Rattle.paired.specs.Openings.{Recovers, committed}
use Rattle.paired.specs.Records.{Entry}
use Rattle.paired.specs.lemmas.opening.Laws.{nothing_pending, recalls_all_by}

-- A call that recalls at each moment recovers, whatever it may touch.
pub recovers : (l : Layout) (Rel : Relation) (MayTouch : Key → Type 0) (old new : Timeline) → ((k : Key) → AbsentIsNothing (disk old k))
    → (MayBeOpened l (disk old) → Always old new (RecallsAloneBy l Rel MayTouch (disk old))) → Recovers l Rel old new
recovers l Rel MayTouch old new absent moments settled markers lawful =
    always_weaker old new (RecallsAloneBy l Rel MayTouch (disk old)) (KeepsAllBy l Rel (as_read (disk old)) markers)
    (λ d is. recalls_all_by l Rel (disk old) d markers settled lawful is.recalls) (moments (nothing_pending l (disk old) settled absent))

-- what stands below the checkpoint stays
take_same : (n : ℕ) (found list : List Entry) → found ≡ take (length found) list → min n (length list) ≤ length found → take n found ≡ take n list
take_same n found list first enough = elim (cases_lt (length found) n) [
  | inl short ↦
      let all : length list ≤ length found = omega (arith, short, enough) in
      ap (take n) (first ∙ take_all (length found) list all)
  | inr long ↦ ap (take n) first ∙ take-take n (length found) list long
]

pub committed_same : (l : Layout) (section n : ℕ) (old : Image) (markers : Markers) (new : Image) (keeps : KeepsBy l (UpTo section n) old markers new) (s : ℕ) → s < 2 ^ 64
    → committed l section n new keeps.markers s ≡ committed l section n old markers s
committed_same l section n old markers new keeps s small =
    go (nat_lt s section) (s == section) (kept_by l new keeps.markers s) (kept_by l old markers s) refl refl (keeps.same s small)
  where
    lt_of : nat_lt s section ≡ true → s < section
    lt_of is = ltb-true s section is

    go : (b e : Bool) (found list : List Entry) → nat_lt s section ≡ b → (s == section) ≡ e → IsUpTo section n s found list
        → (if b then found else (if e then take n found else [])) ≡ (if b then list else (if e then take n list else []))
    go true e found list is same up = up.before (lt_of is)
    go false true found list is same up = take_same n found list up.prefix (up.here (eqb-true s section same))
    go false false found list is same up = refl
