-- What a store of records in a list promises, over devices that are plain variables: no call of the device is made.
use Rattle.std.specs.Prelude.{⊤}
use Rattle.std.specs.List.{AllByRecursion}
use Rattle.std.proofs.Common.{◌≡◌, refl, sym, ℕ, List, [], ◌∷◌, Option, None, Some, Ok}
use Rattle.blob_device.specs.Footprint.{Footprint, NoBound}
use Rattle.blob_device.specs.Timeline.{Always, disk}
use Rattle.blob_device.specs.declared.device.Device as device
use Rattle.blob_device.specs.lemmas.Footprint.{footprint_none}
use Rattle.value_codec.specs.Keys.{key8_bytes}
use Rattle.value_codec.specs.declared.key.Key8.{Key8}
use Rattle.paired.specs.Opening.{as_read}
use Rattle.archives.specs.Changes.{Asked, Replied}
use Rattle.archives.specs.Commands.{Reopen}
use Rattle.archives.specs.Machine.{State, Step, asked, empty_state}
use Rattle.archives.specs.plain.Machine.{state_of}
use Rattle.archives.specs.Replies as reply
use Rattle.archives.specs.declared.commands.Command as asking
use Rattle.archives.specs.declared.commands.Command.TheVariants as ask
use Rattle.archive_service.specs.StoreCalls.{Answers, OpensStore}
use Rattle.archive_service.specs.Stores.{PutsOnly}
use Rattle.archive_service.specs.lemmas.Store.{nothing_done, unchanged_always}
use Rattle.scenarios.specs.ListedKind.{ListedState, ListedStep, listed_kind, listed_serving}
use Rattle.scenarios.specs.declared.listed.Listed.{Listed}

-- any command may be asked
puts_any : (command : asking.Command Key8 (List ℕ)) → PutsOnly (λ (v : List ℕ). ⊤) command
puts_any (ask.Put index key value) = tt
puts_any (ask.PutSync index key value) = tt
puts_any (ask.PutStart index key value) = tt
puts_any (ask.Multi index key value) = tt
puts_any (ask.MultiSync index key value) = tt
puts_any (ask.MultiStart index key value) = tt
puts_any (ask.Get index) = tt
puts_any (ask.GetKey key) = tt
puts_any (ask.Has index) = tt
puts_any (ask.HasKey key) = tt
puts_any (ask.HasAt index key) = tt
puts_any (ask.All index) = tt
puts_any (ask.Gap index) = tt
puts_any (ask.Missing index count) = tt
puts_any ask.Ranges = tt
puts_any (ask.RangesFrom index) = tt
puts_any ask.First = tt
puts_any ask.Last = tt
puts_any ask.Sync = tt
puts_any ask.Start = tt
puts_any (ask.Prune bound) = tt
puts_any ask.Reopen = tt
puts_any ask.Destroy = tt

pub all_any : (commands : List (asking.Command Key8 (List ℕ))) → AllByRecursion (PutsOnly (λ (v : List ℕ). ⊤)) commands
all_any [] = tt
all_any (command ∷ commands) = (puts_any command, all_any commands)

-- but for a reopening, the step is one of the record machine
pub listed_step : (command : asking.Command Key8 (List ℕ)) (given : Replied) (old new : State (List ℕ)) → (command ≡ ask.Reopen → ⊥)
    → Step 1 old (asked key8_bytes (λ v. v) command) given new → ListedStep old (asked key8_bytes (λ v. v) command) given new
listed_step ask.Reopen given old new never step = absurd (never refl)
listed_step (ask.Put i k v) given old new never step = step
listed_step (ask.PutSync i k v) given old new never step = step
listed_step (ask.PutStart i k v) given old new never step = step
listed_step (ask.Multi i k v) given old new never step = step
listed_step (ask.MultiSync i k v) given old new never step = step
listed_step (ask.MultiStart i k v) given old new never step = step
listed_step (ask.Get i) given old new never step = step
listed_step (ask.GetKey k) given old new never step = step
listed_step (ask.Has i) given old new never step = step
listed_step (ask.HasKey k) given old new never step = step
listed_step (ask.HasAt i k) given old new never step = step
listed_step (ask.All i) given old new never step = step
listed_step (ask.Gap i) given old new never step = step
listed_step (ask.Missing i n) given old new never step = step
listed_step ask.Ranges given old new never step = step
listed_step (ask.RangesFrom i) given old new never step = step
listed_step ask.First given old new never step = step
listed_step ask.Last given old new never step = step
listed_step ask.Sync given old new never step = step
listed_step ask.Start given old new never step = step
listed_step (ask.Prune bound) given old new never step = step
listed_step ask.Destroy given old new never step = step

begins_anew : (command : Asked) (given : Replied) (old new : State (List ℕ)) → command ≡ Reopen → ListedStep old command given new → new ≡ empty_state
begins_anew Reopen reply.Done old new is step = step
begins_anew Reopen given old new is step = absurd step
begins_anew command given old new is step = absurd (cc is)

module _ {D : Type 0} (dev : device.Ghosts D) (d : D) where
  -- the disk stays, so it reads as it did
  always_reads : (st : ListedState) (under_way : Option Asked) → as_read (disk (dev.time d)) ≡ st.image → Always (dev.time d) (dev.time d) (listed_kind.Leaves st under_way)
  always_reads st under_way same = unchanged_always (dev.time d) (dev.time d) (listed_kind.Leaves st under_way) (nothing_done dev.time d d refl) same

  untouched : Footprint dev listed_kind.IsOwn NoBound d d
  untouched = footprint_none dev listed_kind.IsOwn NoBound d d refl

  pub listed_opens : (a : Listed) → state_of key8_bytes a.machine ≡ empty_state → OpensStore listed_serving dev (Ok a) d d
  listed_opens a empty = record {
    moments = λ t pending lawful st start. always_reads st None (sym start.0);
    footprint = untouched;
    ends = record {
      usable = tt;
      sound = λ t pending lawful. tt;
      start = λ t pending lawful. (refl, empty);
      allowed = λ t pending lawful must. must;
      rest = λ t pending lawful. refl;
      found = λ t. refl;
      allowed_anywhere = λ t must. must;
    };
  }

  module _ (a : Listed) (command : Asked) where
    abbrev was : ListedState
    was = listed_serving.state a (disk (dev.time d))

    pub listed_answers : (r : Listed) (given : Replied) → ListedStep (state_of key8_bytes a.machine) command given (state_of key8_bytes r.machine)
        → Answers listed_serving dev a command (Ok (r, given)) d d
    listed_answers r given step = record {
      moments = λ t sound. always_reads was (Some command) refl;
      alone = λ t. unchanged_always (dev.time d) (dev.time d) _ (nothing_done dev.time d d refl) (λ q other. refl);
      footprint = untouched;
      quiet = λ t still. refl;
      ends = record {
        usable = tt;
        sound = λ t sound. tt;
        step = λ t sound. (refl, step);
        reopened = λ t sound is. (refl, begins_anew command given (state_of key8_bytes a.machine) (state_of key8_bytes r.machine) is step);
        allowed = λ t sound must. must;
        rest = λ t sound. refl;
        learns = λ t. refl;
        cleared = λ t q none. absurd none;
        allowed_anywhere = λ t must. must;
      };
    }
