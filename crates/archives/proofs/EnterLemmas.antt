-- A record is entered into the tables, or refused.
use Rattle.std.proofs.Common.{◌≡◌, ◌↔◌, sym, ◌∙◌, ap, subst, ℕ, ◌≤◌, Bool, List, Result, Err}
use Rattle.record_tables.specs.Tables as tables
use Rattle.record_tables.specs.declared.tables.Tables.{Tables}
use Rattle.archives.specs.Enters.{EntersRow, HasEnteredRow, HasRoomHere}
use Rattle.archives.specs.Machine.{section_of}
use Rattle.archives.specs.Rows.{AreTables, HasRoom, Row, row_of, rows_of}
use Rattle.archives.specs.declared.error.Error.{Error}
use Rattle.archives.specs.declared.error.Error.TheVariants.{Mem}
use Rattle.archives.specs.declared.prunable.limits.Limits.{Limits}
use Rattle.archives.proofs.opening.Enter.{within_entered}
use Rattle.archives.proofs.TableLemmas.{room_shown, row_pushed, rows_kept, tied_still}

-- the section that was computed is that of the record
pub section_here : (items index found section is : ℕ) → index ≡ found → is ≡ section_of items index → is ≡ section → section_of items found ≡ section
section_here items index found section is same computed here = ap (section_of items) (sym same) ∙ sym computed ∙ here

module _ {K W : Type 0} (key_bytes : K → List ℕ) (eq : W → W → Bool) (word_of : List ℕ → W) (items : ℕ) (limits : Limits) (old : Tables W K) (section : ℕ)
    (row : Row) where
  -- there is room for the record where there is for its row
  pub room_here : HasRoom limits.sections limits.per_section (tables.rows_of old) section ↔ HasRoomHere key_bytes eq word_of items limits old section row
  room_here = room_shown (row_of key_bytes) (tables.rows_of old) limits.sections limits.per_section section

  -- Room was made for it, and it was added.
  pub row_entered : (mid new : Tables W K) (index : ℕ) (word : W) (key : K) → row_of key_bytes (record { index = index; key = key }) ≡ row
      → word_of (key_bytes key) ≡ word → section_of items row.index ≡ section → 1 ≤ limits.per_section
      → HasRoom limits.sections limits.per_section (tables.rows_of old) section → AreTables key_bytes eq word_of old
      → ((s : ℕ) → tables.rows_of mid s ≡ tables.rows_of old s) → tables.HasReserved eq section index word old mid
      → tables.Pushes eq section index word key mid new → HasEnteredRow key_bytes eq word_of items limits old section row new
  row_entered mid new index word key is its here some room tied same reserved pushed =
      let last = row_pushed key_bytes eq word_of section index word key old mid new same pushed row is in
      let others = rows_kept key_bytes eq word_of section index word key old mid new same pushed in
      record {
        entered = last;
        others = others;
        tied = tied_still key_bytes eq word_of section index word key old mid new same pushed reserved its tied;
        within = within_entered items limits.sections limits.per_section section row (rows_of key_bytes old) (rows_of key_bytes new) last others some here (room_here.0 room);
        here = here;
      }

  -- Memory was short for it.
  pub row_unroomed : (new : Tables W K) (r : Result Unit Error) → r ≡ Err Mem → section_of items row.index ≡ section
      → HasRoom limits.sections limits.per_section (tables.rows_of old) section → EntersRow key_bytes eq word_of items limits old section row r new
  row_unroomed new r is here room = subst (λ (x : Result Unit Error). EntersRow key_bytes eq word_of items limits old section row x new) (sym is) (here, λ none. none (room_here.0 room))
