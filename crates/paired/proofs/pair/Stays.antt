-- A journal of which some other blobs change.
use Rattle.std.proofs.Common.{◌≡◌, inl, ℕ, ◌^◌, ◌<◌, List, Option, Some, IsSome, IsSomeAnd, IsTrue, refl, sym, subst}
use Rattle.blob_device.specs.Disk.{Blob, Disk}
use Rattle.blob_device.specs.Opened.{Opened, OpenedList}
use Rattle.sealed_pages.specs.Buffer.{IsSealed}
use Rattle.sealed_pages.specs.declared.page_blob.PageBlob.{PageBlob}
use Rattle.sealed_pages.specs.Shown.{shown}
use Rattle.section_manager.specs.declared.buffer.SectionBuffer as buffer
use Rattle.section_manager.specs.Sections.{key_of}
use Rattle.section_manager.specs.Setting.{Setting}
use Rattle.segments.specs.FixedLists.{Lists, IsJournal}

-- a journal stays what it is where the blobs of its sections stay, in the list and on the disk
pub journal_stays : {F S : Type 0} {gs : _} {g : buffer.Ghosts (PageBlob S gs)} {gives : F → Setting} {told : Type 0} (seal : List ℕ → ℕ) (size : ℕ) (j : Lists F (PageBlob S gs)) (old new : OpenedList) (d e : Disk)
    → ((s : ℕ) → s < 2 ^ 64 → new (key_of j.sections s) ≡ old (key_of j.sections s)) → (told → (s : ℕ) → s < 2 ^ 64 → e (key_of j.sections s) ≡ d (key_of j.sections s))
    → IsJournal g gives seal size told j old d → IsJournal g gives seal size told j new e
journal_stays {S = S} {gs = gs} {g = g} seal size j old new d e opens blobs is = record {
  over = record {
    opened_list = record {
      key = is.over.opened_list.key;
      setting = is.over.opened_list.setting;
      is_open = λ s u held. subst (λ (o : Option Opened). IsSomeAnd o (λ x. x.len ≡ g.extent u)) (sym (opens s (number s u held))) (is.over.opened_list.is_open s u held);
      to_ceiling = is.over.opened_list.to_ceiling;
      apart = is.over.opened_list.apart;
      from_floor = is.over.opened_list.from_floor;
      number = is.over.opened_list.number;
    };
    disk = λ t. record {
      stands = λ s u held. subst (g.Stands u) (sym (blobs t s (number s u held))) ((is.over.disk t).stands s u held);
      whose = λ s small there. (is.over.disk t).whose s small (subst (λ (b : Blob). IsTrue b.there) (blobs t s small) there);
    };
  };
  owes_held = is.owes_held;
  owes_settled = is.owes_settled;
  disk = λ t. record {
    sealed = λ s u held free. subst (IsSealed seal (shown u)) (sym (blobs t s (number s u held))) ((is.disk t).sealed s u held free);
    whole = (is.disk t).whole;
  };
  unopened = is.unopened;
}
  where
    number : (s : ℕ) (u : PageBlob S gs) → j.sections.held s ≡ Some u → s < 2 ^ 64
    number s u held = is.over.opened_list.number s (inl (subst IsSome (sym held) refl))
