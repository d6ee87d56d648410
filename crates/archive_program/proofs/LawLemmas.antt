-- An image with no blob is lawful, and keeps nothing.
use Rattle.std.proofs.Common.{◌≡◌, ℕ, zero, suc, ◌^◌, ◌<◌, ◌≤◌, false, true, List, [], ◌∷◌, length, map, None, refl, sym, ap, subst, arith}
use Rattle.std.specs.List.{AllByRecursion}
use Rattle.blob_device.specs.Disk.{Disk, NothingPending, nothing}
use Rattle.blob_device.specs.Timeline.{Timeline, disk}
use Rattle.meta_store.specs.declared.copy.CopyText.TheVariants.{Absent}
use Rattle.meta_store.specs.declared.error.Side.TheVariants.{Left}
use Rattle.meta_store.specs.lemmas.Sealing.{empty_absent}
use Rattle.sealed_pages.specs.lemmas.Reaching.{prefix_size}
use Rattle.sealed_pages.specs.lemmas.looking.Looking.{slot_short}
use Rattle.sealed_pages.specs.SealedPrefix.{pages_in, sealed_prefix, size_below}
use Rattle.sealed_pages.specs.Slots.{page_length}
use Rattle.paired.specs.Kept.{is_sound_in, marker_of, stored_records}
use Rattle.paired.specs.Opening.{as_read}
use Rattle.paired.specs.Places.{Follow}
use Rattle.paired.specs.Records.{Entry, entry_of, unbroken_prefix, records}
use Rattle.archives.specs.Filing.{kept_entries}
use Rattle.archives.specs.IndexRecord.{index_of}
use Rattle.archives.specs.Lawful.{Lawful}
use Rattle.archives.specs.Machine.{section_of}
use Rattle.archive_service.specs.declared.settings.Settings.{Settings}
use Rattle.archive_program.specs.Program.{MayBeServed, program_filing}
use Rattle.meta_store.specs.Pairs.{empty_map}

module _ (seal : List ℕ → ℕ) (P : ℕ) where
  no_page : (k : ℕ) → page_length seal P [] k ≡ 0
  unfolding page_length
  no_page k = omega (arith, slot_short seal P [] k false (omega arith), slot_short seal P [] k true (omega arith))

  nothing_below : (n : ℕ) → size_below seal P [] n ≡ 0
  unfolding size_below
  nothing_below zero = refl
  nothing_below (suc n) = rw (no_page n) (nothing_below n)

  empty_list : (bytes : List ℕ) → length bytes ≤ 0 → bytes ≡ []
  empty_list [] none = refl
  empty_list (byte ∷ bytes) none = absurd (omega arith)

  -- no bytes have no sealed prefix
  no_prefix : sealed_prefix seal P [] ≡ []
  no_prefix = empty_list (sealed_prefix seal P []) (omega (arith, prefix_size seal P [], nothing_below (pages_in P [])))

module _ (settings : Settings) (items : ℕ) where
  no_records : (s : ℕ) → stored_records (program_filing settings items).layout (as_read (λ q. nothing)) s ≡ []
  no_records s = ap (records 28) (no_prefix (program_filing settings items).layout.seal settings.page_size)

  no_entries : (s : ℕ) → kept_entries (program_filing settings items) (as_read (λ q. nothing)) empty_map s ≡ []
  no_entries s = ap (λ (rs : List (List ℕ)). map (entry_of (program_filing settings items).layout.place [])
      (unbroken_prefix (is_sound_in (program_filing settings items).layout (as_read (λ q. nothing)) s) (marker_of [] s) 0 rs)) (no_records s)

  no_sections : (most : ℕ) (ss : List ℕ) → AllByRecursion (λ s. (s < 2 ^ 64) × (kept_entries (program_filing settings items) (as_read (λ q. nothing)) empty_map s ≡ [] → ⊥)) ss → length ss ≤ most
  no_sections most [] all = omega arith
  no_sections most (s ∷ ss) all = absurd (all.0.1 (no_entries s))

  nothing_lawful : Lawful (program_filing settings items) (as_read (λ q. nothing)) empty_map
  nothing_lawful = record {
    pair = record {
      names = record { index = λ name some. absurd (cc some); values = λ name some. absurd (cc some) };
      held = record {
        copies = λ is. record {
          chosen = record { version = 0; older = Left; contents = empty_map };
          reads = record {
            left_text = Absent;
            right_text = Absent;
            left_reads = empty_absent (program_filing settings items).layout.markers.seal;
            right_reads = empty_absent (program_filing settings items).layout.markers.seal;
            is = refl;
          };
          map = refl;
        };
        none = λ not. refl;
      };
      floor = refl;
      true_markers = λ s m marked. absurd (cc marked.1);
      places = λ s small. record {
        end = 0;
        fits = omega arith;
        follow = subst (λ (rs : List (List ℕ)). Follow (program_filing settings items).layout.place 0 rs 0) (sym (no_records s)) refl;
      };
    };
    in_section = λ s small. subst (λ (rs : List (List ℕ)). AllByRecursion (λ r. section_of items (index_of r) ≡ s) rs) (sym (no_records s)) tt;
    decoded = λ s small. subst (λ (es : List Entry). AllByRecursion (λ e. (program_filing settings items).refusal e.value ≡ None) es) (sym (no_entries s)) tt;
    few_sections = λ ss sorted all. no_sections settings.limits.sections ss all;
    few_records = λ s small. subst (λ (es : List Entry). length es ≤ settings.limits.per_section) (sym (no_entries s)) (omega arith);
  }

  pub nothing_may_be_served : (t : Timeline) → disk t ≡ (λ q. nothing) → MayBeServed settings items t
  nothing_may_be_served t none = record {
    nothing_pending = subst NothingPending (sym none) (λ q. record { sure = refl; since = refl; loose = refl; content = refl });
    markers = empty_map;
    lawful = subst (λ (d : Disk). Lawful (program_filing settings items) (as_read d) empty_map) (sym none) nothing_lawful;
  }
