-- An opening as a step of the machine, and what a disk with nothing pending stands for before the first one.
use Rattle.std.proofs.Common.{◌≡◌, inl, inr, refl, sym, ◌∙◌, ap, subst, ℕ, ◌<◌, ◌≤◌, ◌^◌, Bool, true, false, if◌then◌else◌, List, length, take, None, arith}
use Rattle.std.specs.Prelude.{MatchBool}
use Rattle.std.proofs.Math.Seq.{take-length}
use Rattle.std.proofs.lemmas.Bool.{cases_lt}
use Rattle.blob_device.specs.Disk.{Disk, Image, NothingPending}
use Rattle.paired.specs.Kept.{Markers}
use Rattle.paired.specs.Opening.{as_read}
use Rattle.paired.specs.lemmas.opening.Laws.{crash_as_read}
use Rattle.archives.specs.Commands.{Reopen}
use Rattle.archives.specs.Filing.{Filing, kept}
use Rattle.archives.specs.Lawful.{Lawful}
use Rattle.archives.specs.Machine.{Entry, IsReopened, State, Step}
use Rattle.archives.specs.Replies as reply
use Rattle.archives.specs.Standing.{IsPrefix, IsStart, Leaves, StandsFor, submitted}

-- with no command under way the lists are submitted as they are
no_choice : {X : Type 0} (b : Bool) (x : X) → (if b then x else x) ≡ x
no_choice true x = refl
no_choice false x = refl

as_they_are : (items : ℕ) (st : State (List ℕ)) (s : ℕ) → submitted items st None s ≡ st.lists s
as_they_are items st s = no_choice st.is_open (st.lists s)

module _ (f : Filing) (image : Image) (st : State (List ℕ)) where
  -- ---- an opening

  module _ (new : State (List ℕ)) (stands : StandsFor f st None image) (start : IsStart f image stands.markers new) where
    abbrev kept_of : ℕ → List (Entry (List ℕ))
    kept_of s = kept f image stands.markers s

    prefix : (s : ℕ) → s < 2 ^ 64 → IsPrefix f st None image stands.markers s
    prefix s small = elim (stands.each s small) [ inl held ↦ held | inr gone ↦ absurd gone.1 ]

    cut_small : (s : ℕ) → s < 2 ^ 64 → new.lists s ≡ take (length (new.lists s)) (st.lists s)
    cut_small s small =
        start.lists s small ∙ (prefix s small).same ∙ ap (take (length (kept_of s))) (as_they_are f.items st s)
        ∙ ap (λ (xs : List (Entry (List ℕ))). take (length xs) (st.lists s)) (sym (start.lists s small))

    cut_far : (s : ℕ) → 2 ^ 64 ≤ s → new.lists s ≡ take (length (new.lists s)) (st.lists s)
    cut_far s far = start.no_more s far ∙ ap (λ (xs : List (Entry (List ℕ))). take (length xs) (st.lists s)) (sym (start.no_more s far))

    -- of a disk that stands for a state it is the state's reopening
    pub reopened : ((s : ℕ) → 2 ^ 64 ≤ s → st.synced s ≡ 0) → IsReopened st new
    reopened none = record {
      opened = start.is_open;
      cut = λ s. elim (cases_lt s (2 ^ 64)) [ inl small ↦ cut_small s small | inr far ↦ cut_far s far ];
      at_least = λ s. elim (cases_lt s (2 ^ 64)) [
        | inl small ↦ omega (arith, (prefix s small).synced, ap length (start.lists s small))
        | inr far ↦ omega (arith, none s far)
      ];
      synced = start.synced;
      floor = start.floor ∙ stands.lawful.pair.floor;
    }

    pub reopens : (items : ℕ) → ((s : ℕ) → 2 ^ 64 ≤ s → st.synced s ≡ 0) → Step items st Reopen reply.Done new
    reopens items none = go st.is_open
      where
        go : (b : Bool) → MatchBool b (IsReopened st new) (IsReopened st new)
        go true = reopened none
        go false = reopened none

  -- ---- before the first opening

  -- a lawful image stands for its start state
  pub start_stands : (markers : Markers) → Lawful f image markers → IsStart f image markers st → StandsFor f st None image
  start_stands markers lawful start = record {
    markers = markers;
    lawful = lawful;
    each = λ s small. inl (record {
      same = sym (take-length (kept f image markers s)) ∙ ap (take (length (kept f image markers s))) (sym (start.lists s small) ∙ sym (as_they_are f.items st s));
      synced = omega (arith, start.synced s, ap length (start.lists s small));
    });
  }

-- each crash of a disk with nothing pending leaves it as it reads
pub start_leaves : (f : Filing) (d : Disk) (markers : Markers) (st : State (List ℕ)) → NothingPending d → Lawful f (as_read d) markers → IsStart f (as_read d) markers st → Leaves f st None d
start_leaves f d markers st settled lawful start image crash no_chance =
    subst (StandsFor f st None) (sym (crash_as_read d image settled crash)) (start_stands f (as_read d) st markers lawful start)
