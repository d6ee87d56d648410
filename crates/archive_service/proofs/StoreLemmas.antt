-- How the results of an archive's calls are seen as those of a store, and which commands are refused.
use Rattle.std.proofs.Common.{◌≡◌, ◌⊎◌, inl, inr, refl, sym, ◌∙◌, ap, subst, ℕ, ◌*◌, ◌&&◌, not, Bool, true, false, List, [], length, take, Option, Result, Ok, Err, arith}
use Rattle.blob_device.specs.Disk.{Disk}
use Rattle.blob_device.specs.Timeline.{Timeline, disk}
use Rattle.blob_device.specs.declared.device.Device as device
use Rattle.sealed_pages.specs.Reading.{Unchanged}
use Rattle.sealed_pages.specs.Shown as page_blob
use Rattle.sealed_pages.specs.declared.page_blob.PageBlob.{PageBlob}
use Rattle.section_manager.specs.declared.buffer.SectionBuffer as buffer
use Rattle.paired.specs.lemmas.reconcile.Entries.{markers_readable}
use Rattle.archives.specs.Changes.{Asked, Replied, outcome}
use Rattle.archives.specs.Commands.{Reopen}
use Rattle.archives.specs.Config.{IsValid}
use Rattle.archives.specs.Filing.{Filing, kept}
use Rattle.archives.specs.Machine.{State}
use Rattle.archives.specs.Outlasts.{Outlasts}
use Rattle.archives.specs.Shown.{means, setup_for}
use Rattle.archives.specs.Standing.{IsGoing, IsPrefix, Leaves, submitted}
use Rattle.archives.specs.declared.error.Error.{Error}
use Rattle.archives.specs.declared.prunable.Archive.{Archive}
use Rattle.archives.specs.declared.prunable.config.Config.{Config}
use Rattle.archive_service.specs.StoreCalls.{Answers, OpensStore, Serving}
use Rattle.archive_service.specs.PrunableStore.{IsUsableStore}
use Rattle.archive_service.specs.lemmas.Store.{Given, d, f, here, r, st}

-- ---- moments

pub unchanged_end : (a b : Timeline) → Unchanged a b → disk b ≡ disk a
unchanged_end a b unchanged = unchanged.each (2 * b.calls) (omega (arith, unchanged.later)) (omega arith)

-- where another command under way submits the same, and no section is going
pub leaves_as : (f : Filing) (st : State (List ℕ)) (a b : Option Asked) (d : Disk) → ((s : ℕ) → submitted f.items st a s ≡ submitted f.items st b s) → ((s : ℕ) → IsGoing f.items st a s → ⊥)
    → Leaves f st a d → Leaves f st b d
leaves_as f st a b d same stays leaves image crash calm =
    let stands = leaves image crash calm in
    record {
      markers = stands.markers;
      lawful = stands.lawful;
      each = λ s small. elim (stands.each s small) as (λ _. IsPrefix f st b image stands.markers s ⊎ ((kept f image stands.markers s ≡ []) × IsGoing f.items st b s)) [
        | inl held ↦ inl (record { same = held.same ∙ ap (take (length (kept f image stands.markers s))) (same s); synced = held.synced })
        | inr gone ↦ absurd (stays s gone.1)
      ];
    }

-- ---- results

-- how a store's result is seen that is made of an archive's
pub seen_so : {R Q P : Type 0} (see : Q → P) (made : R → Q) (result : Result R Error) (outer : Result Q Error) → outer ≡ outcome made result → outcome see outer ≡ outcome (λ r. see (made r)) result
seen_so see made (Ok r) outer is = ap (outcome see) is
seen_so see made (Err e) outer is = ap (outcome see) is

-- the same where it is seen by its first part, as by the archive of a sync that is started
pub seen_first : {R Q P A : Type 0} (see : Q → P) (made : R → Q) (first : R → A) (again : A → P) (result : Result R Error) (outer : Result Q Error) → outer ≡ outcome made result
    → ((r : R) → see (made r) ≡ again (first r)) → outcome see outer ≡ outcome again (outcome first result)
seen_first see made first again (Ok r) outer is same = ap (outcome see) is ∙ ap (λ x. Ok x) (same r)
seen_first see made first again (Err e) outer is same = ap (outcome see) is

-- ---- quiet commands

-- of an open archive a command is quiet only where it is so of open ones
pub quiet_open : {Q R : Type 0} → ((true ≡ false) × Q) ⊎ R → R
quiet_open (inl closed) = (let shut = closed.0 in cc shut)
quiet_open (inr still) = still

-- ---- answers

module _ {A V D : Type 0} (s : Serving A V) (dev : device.Ghosts D) where
  -- of the same store, written otherwise
  pub answers_of : (a other : A) (command : Asked) (result : Result (A × Replied) Error) (old new : D) → other ≡ a
      → Answers s dev a command result old new → Answers s dev other command result old new
  answers_of a other command result old new same answers = subst (λ (x : A). Answers s dev x command result old new) (sym same) answers

  -- the same of an opening
  pub opens_with : (result other : Result A Error) (old new : D) → other ≡ result → OpensStore s dev result old new → OpensStore s dev other old new
  opens_with result other old new same opens = subst (λ (o : Result A Error). OpensStore s dev o old new) (sym same) opens

-- ---- numbers

-- what puts nothing, moves no marker, and is no reopening is not refused
pub refused_by_none : {X Y : Type 0} (c : Asked) → (c ≡ Reopen → ⊥) → ⊥ ⊎ ((⊥ × X) ⊎ ((c ≡ Reopen) × Y)) → ⊥
refused_by_none c never (inl puts) = puts
refused_by_none c never (inr (inl moves)) = moves.0
refused_by_none c never (inr (inr over)) = never over.0

pub refused_by_none_now : {X : Type 0} → ⊥ ⊎ (⊥ × X) → ⊥
refused_by_none_now (inl puts) = puts
refused_by_none_now (inr moves) = moves.0

pub no_refusal : {X Y : Type 0} → (X × ⊥) ⊎ (Y × ⊥) → ⊥
no_refusal (inl full) = full.1
no_refusal (inr large) = large.1

-- what adds to a section, and what does not
pub adds_where : (taken here : Bool) → (not taken && here) ≡ true → (taken ≡ false) × (here ≡ true)
adds_where true here is = absurd (cc is)
adds_where false here is = (refl, is)

pub adds_not : (taken here : Bool) → (not taken && here) ≡ false → here ≡ true → taken ≡ true
adds_not true here is at = refl
adds_not false here is at = absurd (cc (is, at))

-- ---- the archive of a configuration

-- What a call may use it for, and its laws of crashes, tell what is known of it: its markers and buffers are as its configuration says.
pub given_by : {T K V S W C D : Type 0} {translator word_eq word_hash key key_eq key_ord key_partial codec seal stored fixed stored_codec : _} (pages : buffer.Ghosts (PageBlob S seal))
    (sets : (u : PageBlob S seal) → pages.setting u ≡ record { page_size = u.page_size; capacity = u.capacity; cache_pages = (page_blob.shown u).cache_pages }) (dev : device.Ghosts D) (cfg : Config T C)
    (a : Archive T K V S W C translator word_eq word_hash key key_eq key_ord key_partial codec seal stored fixed stored_codec) (old : D)
    → IsUsableStore (means pages) (setup_for key.SIZE seal codec translator.word_of word_eq.eq cfg) a dev.Tells (dev.opened old) (disk (dev.time old))
    → Outlasts (means pages) dev a old
    → Given (means pages) (setup_for key.SIZE seal codec translator.word_of word_eq.eq cfg) (IsValid cfg) dev a old
given_by {seal = seal} pages sets dev cfg a old usable laws = record {
  usable = usable;
  laws = laws;
  markers = λ x. refl;
  readable = markers_readable seal;
  partition = refl;
  marked = refl;
  buffers = λ s u held. (let made = sym (sets u) ∙ usable.usable.pair.index.over.opened_list.setting s u held in (ap (λ x. x.page_size) made, ap (λ x. x.capacity) made));
}
