-- The pair that a replay gives back may be used again.
use Rattle.std.proofs.Common.{◌≡◌, false, sym, ◌∙◌, ap, subst, ℕ, List}
use Rattle.blob_device.specs.Disk.{Disk}
use Rattle.blob_device.specs.Opened.{OpenedList}
use Rattle.sealed_pages.specs.declared.page_blob.PageBlob.{PageBlob}
use Rattle.sealed_pages.specs.declared.write_blob.WriteBlob.{WriteBlob}
use Rattle.section_manager.specs.declared.buffer.SectionBuffer as buffer
use Rattle.section_manager.specs.declared.unsealed.WriteFactory.{WriteFactory}
use Rattle.section_manager.specs.Sections.{Sections, IsOver}
use Rattle.section_manager.specs.Setting.{Setting}
use Rattle.segments.specs.FixedLists.{AreSealed}
use Rattle.value_codec.specs.declared.key.Key8.{Key8}
use Rattle.meta_store.specs.Calls.{IsOpened}
use Rattle.meta_store.specs.Store.{Store, Stands, MayBeSynced, contents_of}
use Rattle.paired.specs.glob.Sections.{IsGlob}
use Rattle.paired.specs.Pair.{Pair, IsPair}
use Rattle.paired.specs.Replaying.{Run, IsRun, GivesBack}

-- A pair that a replay over an open pair gives back, of records as large as those of the replay, under the same seals.
pub given_back : {F S : Type 0} {gs : _} {g : buffer.Ghosts (PageBlob S gs)} {gives : F → Setting} {h : buffer.Ghosts WriteBlob} {takes : WriteFactory → Setting} {told : Type 0} (run : Run F (PageBlob S gs)) (p : Pair F (PageBlob S gs)) (opened : OpenedList) (d : Disk)
    → p.layout.seal ≡ run.layout.seal → p.layout.record_size ≡ run.layout.record_size → p.layout.markers ≡ run.layout.markers
    → run.tracked ≡ false → IsRun run g gives h takes told opened d → GivesBack run p → IsPair g gives h takes told p opened d
given_back {F} {S} {gs} {g} {gives} {h} {takes} {told} run p opened d seal size markers live over back = record {
  index = record {
    over = subst (λ (m : Sections F (PageBlob S gs)). IsOver g gives told m opened d) (sym back.sections) over.index.over;
    owes_held = (back.owes over.index.walk).0;
    owes_settled = (back.owes over.index.walk).1;
    disk = λ t. subst (λ (n : ℕ). AreSealed p.layout.seal n p.index d) (sym size)
        (subst (λ (f : List ℕ → ℕ). AreSealed f run.layout.record_size p.index d) (sym seal) (back.sealed d (over.index.disk t)).0);
    unopened = λ t. (back.sealed d (over.index.disk t)).1;
  };
  values = subst (λ (m : Sections WriteFactory WriteBlob). IsGlob h takes told m opened d) (sym back.values) over.values;
  apart = record {
    values = λ same. over.apart.values (sym back.layout.index ∙ same ∙ back.layout.values);
    metadata = λ same. over.apart.metadata (sym back.layout.index ∙ same ∙ back.layout.metadata);
    both = λ same. over.apart.both (sym back.layout.values ∙ same ∙ back.layout.metadata);
  };
  whole = (back.live (over.live live)).0;
  markers = (back.live (over.live live)).1;
  settled = (back.live (over.live live)).2;
  metadata_opened = subst (λ (u : Store Key8 ℕ). IsOpened u.partition opened) (sym back.store) over.metadata_opened;
  storable = subst (λ (u : Store Key8 ℕ). MayBeSynced p.layout.markers u.entries) (sym back.store) (subst (λ f. MayBeSynced f run.store.entries) (sym markers) over.storable);
  synced = ap (λ (u : Store Key8 ℕ). u.staged) back.store ∙ over.synced;
  disk = λ t. record {
    markers = subst (λ (u : Store Key8 ℕ). Stands p.layout.markers u (contents_of u) d) (sym back.store) (subst (λ f. Stands f run.store (contents_of run.store) d) (sym markers) (over.markers t));
  };
}
