-- What stands for a state with a command under way that puts nothing and empties nothing.
use Rattle.std.proofs.Common.{◌≡◌, ◌⊎◌, inl, inr, refl, sym, subst, ℕ, List, [], length, take, Option, None, Some}
use Rattle.blob_device.specs.Disk.{Disk}
use Rattle.blob_device.specs.Timeline.{Timeline, Always}
use Rattle.blob_device.specs.lemmas.Moments.{always_weaker}
use Rattle.archives.specs.Commands.{Command, Start, Sync}
use Rattle.archives.specs.Filing.{Filing, kept}
use Rattle.archives.specs.Machine.{Entry, State}
use Rattle.archives.specs.Standing.{IsGoing, IsPrefix, Leaves, submitted}

module _ (f : Filing) (st : State (List ℕ)) where
  -- What stands for the state without a command stands for it with one that submits the same.
  pub stands_under : (under_way : Option (Command (List ℕ))) → ((s : ℕ) → submitted f.items st under_way s ≡ submitted f.items st None s) → (d : Disk) → Leaves f st None d → Leaves f st under_way d
  stands_under under_way same d leaves image crash no_chance =
      let stands = leaves image crash no_chance in
      record {
        markers = stands.markers;
        lawful = stands.lawful;
        each = λ s small. elim (stands.each s small) as (λ _. IsPrefix f st under_way image stands.markers s ⊎ ((kept f image stands.markers s ≡ []) × IsGoing f.items st under_way s)) [
          | inl held ↦ inl (record {
            same = subst (λ (xs : List (Entry (List ℕ))). kept f image stands.markers s ≡ take (length (kept f image stands.markers s)) xs) (sym (same s)) held.same;
            synced = held.synced;
          })
          | inr gone ↦ absurd gone.1
        ];
      }

  pub under_sync : (old new : Timeline) → Always old new (Leaves f st None) → Always old new (Leaves f st (Some Sync))
  under_sync old new = always_weaker old new (Leaves f st None) (Leaves f st (Some Sync)) (stands_under (Some Sync) (λ s. refl))

  pub under_start : (old new : Timeline) → Always old new (Leaves f st None) → Always old new (Leaves f st (Some Start))
  under_start old new = always_weaker old new (Leaves f st None) (Leaves f st (Some Start)) (stands_under (Some Start) (λ s. refl))
