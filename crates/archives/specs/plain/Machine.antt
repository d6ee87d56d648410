-- The state that a plain list of records stands for, and what the machine on such a list promises.
use Rattle.std.specs.Prelude.{◌≡◌, ℕ, Bool, ◌==◌, List, filter, find, length, map, Option, Result, Ok, Err}
use Rattle.std.specs.Option.{option_map}
use Rattle.ordinal_store.specs.Numbers.{IsSameSet}
use Rattle.ordinal_store.specs.Plain.{listed}
use Rattle.ordinal_store.specs.declared.plain.PlainSet.{PlainSet}
use Rattle.archives.specs.Commands.{Command}
use Rattle.archives.specs.declared.commands.Command as asking
use Rattle.archives.specs.declared.commands.Reply as answering
use Rattle.archives.specs.declared.commands.Reply.TheVariants.{Done}
use Rattle.archives.specs.declared.error.Error.{Error}
use Rattle.archives.specs.declared.error.Error.TheVariants.{Mem}
use Rattle.archives.specs.declared.plain.Item.{Item}
use Rattle.archives.specs.declared.plain.Machine.{Machine}
use Rattle.archives.specs.Machine.{Entry, IsReopened, OpenStep, State, Step, asked, empty_state, entries_at, has_index, replied, section_of}

module _ {K V : Type 0} (key_bytes : K → List ℕ) where
  abbrev pub entry_of : Item K V → Entry V
  entry_of r = record { index = r.index; key = key_bytes r.key; value = r.value }

  -- each section has its records in the order in which they were put, and synced is what was there at the
  -- last sync
  abbrev pub state_with : (items floor : ℕ) → Bool → List (Item K V) → State V
  state_with items floor is_open all = record {
    is_open = is_open;
    lists = λ s. map entry_of (filter (λ r. s == section_of items r.index) all);
    synced = λ s. length (filter (λ r. r.is_synced) (filter (λ r. s == section_of items r.index) all));
    floor = floor;
  }

  abbrev pub state_of : Machine K V → State V
  state_of machine =
      state_with machine.items_per_section machine.floor machine.is_open machine.items.items

  -- the records that have the index, in list order
  abbrev pub items_at : Machine K V → ℕ → List (Entry V)
  items_at machine index = entries_at machine.items_per_section (state_of machine) index

-- the value of the first record with this index, if any
abbrev pub first_at : {K V : Type 0} → ℕ → List (Item K V) → Option V
first_at index all = option_map (λ r. r.value) (find (λ r. r.index == index) all)

-- the value of the first record with this key, if any
abbrev pub first_under : {K V : Type 0} → (K → Bool) → List (Item K V) → Option V
first_under is_it all = option_map (λ r. r.value) (find (λ r. is_it r.key) all)

-- ---- what the machine promises

module _ {K V : Type 0} (key_bytes : K → List ℕ) where
  -- A machine with room for so many indices to a section, which keeps nothing yet.
  pub record IsNew (items : ℕ) (machine : Machine K V) : Type 0 where
    -- its state is the empty one
    pub state : state_of key_bytes machine ≡ empty_state
    -- and so many indices fit into a section
    pub same : machine.items_per_section ≡ items

  -- ---- commands that change the machine

  -- A command was carried out, which makes another state of the one before.
  pub record Turned (old new : Machine K V) (after : State V → State V)
      (reply : answering.Reply V) : Type 0 where
    -- it is answered by done
    pub done : reply ≡ Done
    -- the state is what the command makes of the one before
    pub state : state_of key_bytes new ≡ after (state_of key_bytes old)
    -- its sections have room for as many indices
    pub same : new.items_per_section ≡ old.items_per_section

  -- It gave no reply.
  pub record IsStopped (e : Error) (old new : Machine K V) : Type 0 where
    -- there was no memory
    pub cause : e ≡ Mem
    -- and its state stays
    pub unchanged : state_of key_bytes new ≡ state_of key_bytes old
    -- and its sections have room for as many indices
    pub same : new.items_per_section ≡ old.items_per_section

  abbrev pub Turns : Machine K V → Machine K V → (State V → State V)
      → Result (answering.Reply V) Error → Type 0
  Turns old new after (Ok reply) = Turned old new after reply
  Turns old new after (Err e) = IsStopped e old new

  -- The machine was opened again. It loses nothing: what is cut is free up to what was synced.
  pub record HasReopened (old new : Machine K V) (reply : answering.Reply V) : Type 0 where
    -- it is answered by done
    pub done : reply ≡ Done
    -- the state is one that a reopening may make
    pub state : IsReopened (state_of key_bytes old) (state_of key_bytes new)
    -- its sections have room for as many indices
    pub same : new.items_per_section ≡ old.items_per_section

  -- ---- commands that ask

  -- The indices of all records are those of the state.
  abbrev pub HasIndices : Machine K V → Result PlainSet Error → Type 0
  HasIndices machine (Ok set) =
      IsSameSet (listed set.numbers.items)
      (has_index machine.items_per_section (state_of key_bytes machine))
  -- there was no memory
  HasIndices machine (Err e) = e ≡ Mem

  -- The reply of an open machine to a command that only asks. It is a step of the record machine.
  abbrev pub Tells : Machine K V → Command V → Result (answering.Reply V) Error → Type 0
  Tells machine command (Ok reply) =
      OpenStep machine.items_per_section (state_of key_bytes machine) command
      (replied (λ v. v) reply) (state_of key_bytes machine)
  -- there was no memory
  Tells machine command (Err e) = e ≡ Mem

  -- ---- all commands

  -- One command was carried out.
  pub record HasCarriedOut (command : asking.Command K V) (reply : answering.Reply V)
      (old new : Machine K V) : Type 0 where
    -- the reply is a step of the record machine
    pub step : Step old.items_per_section (state_of key_bytes old)
        (asked key_bytes (λ v. v) command) (replied (λ v. v) reply) (state_of key_bytes new)
    -- its sections have room for as many indices
    pub same : new.items_per_section ≡ old.items_per_section

  -- It carried out a command, or there was no memory.
  abbrev pub CarriesOut : asking.Command K V → Result (answering.Reply V) Error → Machine K V
      → Machine K V → Type 0
  CarriesOut command (Ok reply) old new = HasCarriedOut command reply old new
  CarriesOut command (Err e) old new = IsStopped e old new
