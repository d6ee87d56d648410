-- What the parts of an opening of an archive leave at each moment, one after another.
use Rattle.std.proofs.Common.{◌≡◌, ◌⊎◌, inl, inr, refl, sym, ◌∙◌, subst, ℕ, List, [], None, Some}
use Rattle.std.proofs.Math.Seq.{take-length}
use Rattle.std.specs.Prelude.{⊤}
use Rattle.blob_device.specs.Disk.{Disk, Key}
use Rattle.blob_device.specs.Opened.{OpenedList}
use Rattle.blob_device.specs.Timeline.{Timeline, disk, Always}
use Rattle.blob_device.specs.lemmas.Moments.{always_now, always_then, always_weaker}
use Rattle.paired.specs.Crashes.{IsOwn}
use Rattle.paired.specs.Kept.{Layout, IsSameLayout, stored_records}
use Rattle.paired.specs.Opening.{MayBeOpened, OnlyOpens, Recalls, RecallsAlone}
use Rattle.paired.specs.lemmas.opening.Laws.{recalls_on}
use Rattle.paired.specs.lemmas.pair.Synced.{layout_as}
use Rattle.archives.specs.Commands.{Reopen}
use Rattle.archives.specs.Filing.{Filing, kept}
use Rattle.archives.specs.Machine.{State}
use Rattle.archives.specs.Opening.{LeavesLawful}
use Rattle.archives.specs.Standing.{IsGoing, IsPrefix, Leaves}
use Rattle.archives.proofs.RecallLemmas.{lawful_still, recalls_stand}

-- a layout with the partitions and the page size of another, and the rest of its own, is that
pub same_layout : (l m : Layout) → IsSameLayout l m → record l { index = m.index; values = m.values; metadata = m.metadata; page_size = m.page_size } ≡ l
same_layout l m is = layout_as l m.index m.values m.metadata m.page_size is.index is.values is.metadata is.page_size

-- no blob but the pair's has changed
abbrev pub OthersStay : Layout → Disk → Disk → Type 0
OthersStay l from d = (q : Key) → (IsOwn l (λ _. ⊤) q → ⊥) → d q ≡ from q

module _ (l : Layout) where
  abbrev pub RecallsAll : Disk → Disk → Type 0
  RecallsAll from d = RecallsAlone l (IsOwn l (λ _. ⊤)) from d

  pub recalls_alone_on : (a b c : Disk) → RecallsAll a b → RecallsAll b c → RecallsAll a c
  recalls_alone_on a b c first second = record {
    recalls = recalls_on l a b c first.recalls second.recalls;
    others = λ q other. second.others q other ∙ first.others q other;
  }

  pub moments_on : (a b c : Timeline) → Always a b (RecallsAll (disk a)) → Always b c (RecallsAll (disk b)) → Always a c (RecallsAll (disk a))
  moments_on a b c first second =
      always_then a b c (RecallsAll (disk a)) first
      (always_weaker b c (RecallsAll (disk b)) (RecallsAll (disk a)) (λ d later. recalls_alone_on (disk a) (disk b) d (always_now a b (RecallsAll (disk a)) first) later) second)

  pub others_on : (a b c : Timeline) → Always a b (OthersStay l (disk a)) → Always b c (OthersStay l (disk b)) → Always a c (OthersStay l (disk a))
  others_on a b c first second =
      always_then a b c (OthersStay l (disk a)) first
      (always_weaker b c (OthersStay l (disk b)) (OthersStay l (disk a)) (λ d later. λ q other. later q other ∙ always_now a b (OthersStay l (disk a)) first q other) second)

  pub others_opened : (a b : Timeline) → Always a b (OnlyOpens l (disk a)) → Always a b (OthersStay l (disk a))
  others_opened a b opens = always_weaker a b (OnlyOpens l (disk a)) (OthersStay l (disk a)) (λ d only. only.others) opens

-- a disk keeps what it keeps
pub recalls_itself : (l : Layout) (d : Disk) → RecallsAlone l (IsOwn l (λ _. ⊤)) d d
recalls_itself l d = record {
  recalls = λ image crash no_chance. record {
    old = image;
    crash = crash;
    no_chance = no_chance;
    keeps = λ markers lawful. record { markers = markers; lawful = lawful; same = λ s small. refl; stored = λ s small. sym (take-length (stored_records l image s)) };
  };
  others = λ q other. refl;
}

-- what stood for a state with nothing under way stands for it while it is opened
pub reopening : (f : Filing) (st : State (List ℕ)) (d : Disk) → Leaves f st None d → Leaves f st (Some Reopen) d
reopening f st d leaves image crash no_chance =
    let stands = leaves image crash no_chance in
    record {
      markers = stands.markers;
      lawful = stands.lawful;
      each = λ s small. elim (stands.each s small) as (λ _. IsPrefix f st (Some Reopen) image stands.markers s ⊎ ((kept f image stands.markers s ≡ []) × IsGoing f.items st (Some Reopen) s)) [
        | inl held ↦ inl (record { same = held.same; synced = held.synced })
        | inr gone ↦ absurd gone.1
      ];
    }

-- each lawful image that a crash before would have left stays one
pub recalls_lawful : (f : Filing) (from d : Disk) → LeavesLawful f from → Recalls f.layout from d → LeavesLawful f d
recalls_lawful f from d leaves recalls image crash no_chance =
    let was = recalls image crash no_chance in
    let old = leaves was.old was.crash was.no_chance in
    let keeps = was.keeps old.0 old.1.pair in
    (keeps.markers, lawful_still f was.old old.0 image keeps old.1)

module _ (f : Filing) (a b : Timeline) (moments : Always a b (RecallsAll f.layout (disk a))) where
  pub moments_lawful : LeavesLawful f (disk a) → Always a b (LeavesLawful f)
  moments_lawful leaves = always_weaker a b (RecallsAll f.layout (disk a)) (LeavesLawful f) (λ d keeps. recalls_lawful f (disk a) d leaves keeps.recalls) moments

  pub moments_stand : (st : State (List ℕ)) → Leaves f st None (disk a) → Always a b (Leaves f st (Some Reopen))
  moments_stand st leaves =
      always_weaker a b (RecallsAll f.layout (disk a)) (Leaves f st (Some Reopen)) (λ d keeps. recalls_stand f st (Some Reopen) (disk a) d (reopening f st (disk a) leaves) keeps.recalls) moments

-- ---- one part after another
-- where the disk may be opened, each moment keeps what a crash before would have kept
abbrev pub Recalling : Layout → Timeline → Timeline → Type 0
Recalling l a b = MayBeOpened l (disk a) → Always a b (RecallsAlone l (IsOwn l (λ _. ⊤)) (disk a))

abbrev pub StaysOpen : Layout → Timeline → Timeline → Type 0
StaysOpen l a b = MayBeOpened l (disk a) → MayBeOpened l (disk b)

pub open_as : (l m : Layout) → l ≡ m → (a b : Timeline) → StaysOpen l a b → StaysOpen m a b
open_as l m same a b stays = subst (λ x. StaysOpen x a b) same stays

pub recalling_on : (l : Layout) (a b c : Timeline) → Recalling l a b → StaysOpen l a b → Recalling l b c → Recalling l a c
recalling_on l a b c first stays second may = moments_on l a b c (first may) (second (stays may))

-- no entry but those of the pair's blobs has changed
abbrev pub EntriesStay : Layout → OpenedList → OpenedList → Type 0
EntriesStay l o p = (q : Key) → (IsOwn l (λ _. ⊤) q → ⊥) → p q ≡ o q

pub entries_on : (l : Layout) (o p r : OpenedList) → EntriesStay l o p → EntriesStay l p r → EntriesStay l o r
entries_on l o p r first second q other = second q other ∙ first q other
