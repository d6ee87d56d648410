-- A replay over a pair: it is over the same pair.
use Rattle.std.proofs.Common.{◌≡◌, sym, ◌∙◌, ap, subst}
use Rattle.blob_device.specs.Disk.{Disk}
use Rattle.blob_device.specs.Opened.{OpenedList}
use Rattle.sealed_pages.specs.declared.page_blob.PageBlob.{PageBlob}
use Rattle.sealed_pages.specs.declared.write_blob.WriteBlob.{WriteBlob}
use Rattle.section_manager.specs.declared.sealed.AppendFactory.{AppendFactory}
use Rattle.section_manager.specs.declared.unsealed.WriteFactory.{WriteFactory}
use Rattle.section_manager.specs.Sections.{Sections}
use Rattle.section_manager.specs.Setting.{Setting}
use Rattle.section_manager.specs.declared.buffer.SectionBuffer as buffer
use Rattle.segments.specs.FixedLists.{Lists}
use Rattle.paired.specs.glob.Sections.{IsGlob}
use Rattle.paired.specs.Pair.{Pair}

module _ {S : Type 0} {gs : _} (p : Pair (AppendFactory S) (PageBlob S gs)) where
  -- the pair with another index and other values
  abbrev pub paired_as : Lists (AppendFactory S) (PageBlob S gs) → Sections WriteFactory WriteBlob → Pair (AppendFactory S) (PageBlob S gs)
  paired_as j v = record p {
    layout = record p.layout { index = j.sections.partition; values = v.partition; page_size = j.sections.factory.pages.page_size };
    index = j;
    values = v;
  }

  pub paired_same : (j : Lists (AppendFactory S) (PageBlob S gs)) (v : Sections WriteFactory WriteBlob) → paired_as p.index p.values ≡ p → j ≡ p.index → v ≡ p.values → paired_as j v ≡ p
  paired_same j v is index values =
      ap (λ (x : Lists (AppendFactory S) (PageBlob S gs)). paired_as x v) index ∙ ap (λ (x : Sections WriteFactory WriteBlob). paired_as p.index x) values ∙ is

-- the same values, over the same disk
pub values_as : {h : buffer.Ghosts WriteBlob} {takes : WriteFactory → Setting} {told : Type 0} (m n : Sections WriteFactory WriteBlob) (o p : OpenedList) (d e : Disk) → n ≡ m → p ≡ o → e ≡ d → IsGlob h takes told m o d → IsGlob h takes told n p e
values_as {h} {takes} {told} m n o p d e same opens blobs is =
    subst (λ (x : Sections WriteFactory WriteBlob). IsGlob h takes told x p e) (sym same)
    (subst (λ (y : OpenedList). IsGlob h takes told m y e) (sym opens) (subst (IsGlob h takes told m o) (sym blobs) is))
