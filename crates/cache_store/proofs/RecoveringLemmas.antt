-- An opening of what a crash left.
use Rattle.std.specs.Prelude.{ℕ, List, Option, Result, Ok, Err}
use Rattle.std.proofs.Common.{sym, subst}
use Rattle.blob_device.specs.Timeline.{disk}
use Rattle.blob_device.specs.declared.device.Device as device
use Rattle.sealed_pages.specs.declared.page_blob.PageBlob.{PageBlob}
use Rattle.section_manager.specs.Setting.{Setting}
use Rattle.section_manager.specs.declared.buffer.SectionBuffer as buffer
use Rattle.section_manager.specs.declared.journal.Error.{Error}
use Rattle.section_manager.specs.declared.sealed.AppendFactory.{AppendFactory}
use Rattle.value_codec.specs.declared.codec.Error as codec
use Rattle.cache_store.specs.Changes.{Seen, state_over}
use Rattle.cache_store.specs.Config.{layout_of}
use Rattle.cache_store.specs.Machine.{Entry}
use Rattle.cache_store.specs.Opens.{HoldsImage, Opened, Opens, NotOpened}
use Rattle.cache_store.specs.Recovering.{Recovers, Recovery}
use Rattle.cache_store.specs.Reopening.{MayOpen, as_read}
use Rattle.cache_store.specs.Standing.{IsHeld, Keeps, Wanted}
use Rattle.cache_store.specs.declared.config.Config.{Config}

module _ {S C D : Type 0} {gs : _} (g : buffer.Ghosts (PageBlob S gs)) (gives : AppendFactory S → Setting) (dev : device.Ghosts D)
    (seal : List ℕ → ℕ) (refusal : List ℕ → C → Option codec.Error) (cfg : Config C) (w : Wanted) where
  pub recovered : Recovery g gives dev seal refusal cfg w
  recovered t d old new leaves left result kept opens = go result opens
    where
      keeps : Keeps (layout_of seal refusal cfg) w (as_read (disk (dev.time old)))
      keeps = leaves (as_read (disk (dev.time old))) left.crash left.clear

      go : (r : Result (Seen g gives dev) Error) → Opens g gives dev seal refusal cfg old new r kept → Recovers g gives dev (layout_of seal refusal cfg) w old new r
      go (Err e) opens = (let failed : NotOpened g gives dev (layout_of seal refusal cfg) old new e = opens.ends in failed.complete t keeps.lawful)
      go (Ok r) opens =
          let opened : Opened g gives dev seal refusal cfg old new r = opens.ends in
          let holds : HoldsImage g gives dev (layout_of seal refusal cfg) old new r = opened.told t in
          let may : MayOpen (layout_of seal refusal cfg) (state_over g gives dev r new) (disk (dev.time old)) = opens.begins t left.settled keeps.lawful (state_over g gives dev r new) holds.start in
          record {
            each = λ s small. subst (λ (xs : List (Entry (List ℕ))). IsHeld (layout_of seal refusal cfg) w s xs) (sym (holds.start.lists s small)) (keeps.each s small);
            no_more = holds.start.no_more;
            synced = holds.start.synced;
            floor = holds.start.floor;
            sound = holds.sound (state_over g gives dev r new) may;
            rest = holds.rest (state_over g gives dev r new) may;
          }
