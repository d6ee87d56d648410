-- A replay goes on where the caller has written elsewhere: what is asked of the device is of its partition alone.
use Rattle.std.specs.Prelude.{◌≡◌, ◌⊎◌, ℕ, ◌+◌, ◌<◌, List, length, Option, None, Some, IsSomeAnd, IsTrue}
use Rattle.std.proofs.Common.{sym, ap, ◌∙◌, subst}
use Rattle.blob_device.specs.Disk.{Blob, Disk}
use Rattle.blob_device.specs.Opened.{Opened}
use Rattle.blob_device.specs.Timeline.{disk}
use Rattle.blob_device.specs.declared.device.Device as device
use Rattle.sealed_pages.specs.Buffer.{IsSealed}
use Rattle.sealed_pages.specs.Entries.{IsOpenAt}
use Rattle.sealed_pages.specs.Readers.{IsReplayOf}
use Rattle.sealed_pages.specs.Reads.{IsCovered}
use Rattle.sealed_pages.specs.Shown.{shown}
use Rattle.sealed_pages.specs.declared.page_blob.PageBlob.{PageBlob}
use Rattle.section_manager.specs.Sections.{key_of}
use Rattle.section_manager.specs.Setting.{Setting}
use Rattle.section_manager.specs.declared.buffer.SectionBuffer as buffer
use Rattle.segments.specs.FixedLists.{bytes_held}
use Rattle.segments.specs.FixedReplay.{Walk, Place, ReadsIn, kept_of}
use Rattle.variable_journal.specs.Frames.{rest_of}
use Rattle.variable_journal.specs.Replaying.{IsBoundary, given_bytes}
use Rattle.variable_journal.specs.Advancing.{IsGoing}

module _ {F S D : Type 0} {gs : _} (g : buffer.Ghosts (PageBlob S gs)) (gives : F → Setting) (seal : List ℕ → ℕ) (dev : device.Ghosts D) (w : Walk F (PageBlob S gs)) (a b : D)
    (entries : (s : ℕ) → dev.opened b (key_of w.journal.sections s) ≡ dev.opened a (key_of w.journal.sections s))
    (blobs : dev.Tells → (s : ℕ) → disk (dev.time b) (key_of w.journal.sections s) ≡ disk (dev.time a) (key_of w.journal.sections s)) where
  abbrev d : Disk
  d = disk (dev.time a)

  abbrev e : Disk
  e = disk (dev.time b)

  -- what is said of a section's blob before is said of it then
  moved : dev.Tells → (s : ℕ) (P : Blob → Type 0) → P (d (key_of w.journal.sections s)) → P (e (key_of w.journal.sections s))
  moved t s P has = subst P (sym (blobs t s)) has

  given_moved : dev.Tells → (s : ℕ) → given_bytes seal w e s ≡ given_bytes seal w d s
  given_moved t s = ap (λ (x : Blob). kept_of seal (w.journal.unrecovered s) (w.journal.sections.held s) x.content) (blobs t s)

  reads_moved : dev.Tells → (r : Place) (u : PageBlob S gs) → ReadsIn seal w d r u → ReadsIn seal w e r u
  reads_moved t r u has = record {
    replays = moved t r.section (λ x. IsReplayOf seal x.content r.reader) has.replays;
    checked = λ whole. moved t r.section (λ x. IsCovered seal u.page_size x.content 0 (r.reader.at + length r.reader.bytes)) (has.checked whole);
  }

  pub going_elsewhere : IsGoing g gives seal dev w a → IsGoing g gives seal dev w b
  going_elsewhere was = record {
    bytes = record {
      over = record {
        opened_list = record {
          key = was.bytes.over.opened_list.key;
          setting = was.bytes.over.opened_list.setting;
          is_open = λ s u held. opened_moved s u (was.bytes.over.opened_list.is_open s u held);
          to_ceiling = was.bytes.over.opened_list.to_ceiling;
          apart = was.bytes.over.opened_list.apart;
          from_floor = was.bytes.over.opened_list.from_floor;
          number = was.bytes.over.opened_list.number;
        };
        disk = λ t. record {
          stands = λ s u held. moved t s (g.Stands u) ((was.bytes.over.disk t).stands s u held);
          whose = λ s small there. (was.bytes.over.disk t).whose s small (subst (λ (x : Blob). IsTrue x.there) (blobs t s) there);
        };
      };
      walk = was.bytes.walk;
      disk = λ t. record {
        sealed = record {
          sealed = λ s u held proven. moved t s (IsSealed seal (shown u)) ((was.bytes.disk t).sealed.sealed s u held proven);
          whole = (was.bytes.disk t).sealed.whole;
        };
        gone_over = λ fine s u held over read. (let has = (was.bytes.disk t).gone_over fine s u held over read in (moved t s (IsSealed seal (shown u)) has.0, has.1));
        unopened = (was.bytes.disk t).unopened;
        place = λ r at. some_map (w.journal.sections.held r.section) (ReadsIn seal w d r) (ReadsIn seal w e r) (reads_moved t r) ((was.bytes.disk t).place r at);
      };
    };
    free = was.free;
    place = λ t r at. subst (λ (l : List ℕ). IsBoundary l r.position) (sym (given_moved t r.section)) (was.place t r at);
    walked = λ t. record {
      start = λ going near held. subst (λ (l : List ℕ). IsBoundary l w.start_position ⊎ (length l < w.start_position)) (sym (given_moved t w.start_section)) ((was.walked t).start going near held);
      framed = λ s free. ap (λ (x : Blob). rest_of (bytes_held (w.journal.sections.held s) x.content)) (blobs t s) ∙ (was.walked t).framed s free;
      gone_over = λ fine s over. ap rest_of (given_moved t s) ∙ (was.walked t).gone_over fine s over;
    };
  }
    where
      opened_moved : (s : ℕ) (u : PageBlob S gs) → IsOpenAt (dev.opened a) (key_of w.journal.sections s) (g.extent u) → IsOpenAt (dev.opened b) (key_of w.journal.sections s) (g.extent u)
      opened_moved s u has = subst (λ (o : Option Opened). IsSomeAnd o (λ x. x.len ≡ g.extent u)) (sym (entries s)) has

      some_map : {A : Type 0} (o : Option A) (P Q : A → Type 0) → ((v : A) → P v → Q v) → IsSomeAnd o P → IsSomeAnd o Q
      some_map None P Q f has = has
      some_map (Some v) P Q f has = f v has
