-- Reads of an opened blob: its size is learned, and then its pages are read.
use Rattle.std.proofs.Common.{◌≡◌, ◌⊎◌, inl, inr, ℕ, ◌+◌, ◌-◌, ◌<◌, ◌≤◌, ◌^◌, List, [], length, Result, Ok, Err, refl, sym, ◌∙◌, ap, subst, arith}
use Rattle.std.specs.Prelude.{IfOk, OnErr, OnOk}
use Rattle.std.specs.Result.{IsErr, IsErrOf}
use Rattle.blob_device.specs.Disk.{Blob, Key, Disk}
use Rattle.blob_device.specs.Timeline.{disk}
use Rattle.blob_device.specs.declared.device.Device as device
use Rattle.blob_device.specs.Counts.{Rose}
use Rattle.blob_device.specs.declared.error.DevError.{DevError}
use Rattle.blob_device.specs.declared.runtime.RError.{RError}
use Rattle.blob_device.specs.declared.runtime.RError.TheVariants.{BlobInsufficientLength, Fault, InvalidChecksum, Mem, OffsetOverflow}
use Rattle.sealed_pages.specs.BlobReads.{LearnsSize, ReadsPages, ReadsOpened, ReadsLast}
use Rattle.sealed_pages.specs.Calls.{FailsBelow}
use Rattle.sealed_pages.specs.PageReads.{ReadsRange, ReadsTail}
use Rattle.sealed_pages.specs.Reopening.{OpensAgain}
use Rattle.sealed_pages.specs.Reads.{IsCovered, IsShort, IsTailShort}
use Rattle.sealed_pages.specs.SealedPrefix.{adopted_size, data_from, place}
use Rattle.sealed_pages.specs.View.{view}
use Rattle.sealed_pages.specs.lemmas.Entries.{only_read_then, only_read_of}
use Rattle.sealed_pages.specs.lemmas.looking.Looking.{unchanged_now, unchanged_then}
use Rattle.sealed_pages.specs.lemmas.looking.Read.{read_data}
use Rattle.sealed_pages.proofs.memory.MemoryLemmas.{none_cached}
use Rattle.sealed_pages.proofs.looking.ReadLemmas.{same_error}
use Rattle.sealed_pages.proofs.adopted.Reopen.{settles_then, stays_then}
use Rattle.sealed_pages.proofs.cutting.TruncateEnds.{no_page}
use Rattle.sealed_pages.proofs.cutting.Truncating.{no_value}
use Rattle.blob_device.proofs.general.Results.{ok_with, on_err, on_ok}

-- an error, of this kind of result
abbrev pub failure : (T : Type 0) → RError → Result T RError
failure T e = Err e

-- memory was short, or the device failed: whatever else might have been answered,
pub fails_as : {D T U : Type 0} (dev : device.Ghosts D) (e : RError) (a b : D) → FailsBelow {D = D} {T = T} dev (Err e) a b → FailsBelow {D = D} {T = U} dev (Err e) a b
fails_as dev e a b (inl mem) = inl (same_error mem)
fails_as dev e a b (inr (fault, rose)) = inr (same_error fault, rose)

-- also seen from an earlier moment,
pub fails_since : {D T : Type 0} (dev : device.Ghosts D) (r : Result T RError) (a b c : D) → dev.faults a ≤ dev.faults b → FailsBelow dev r b c → FailsBelow dev r a c
fails_since dev r a b c le (inl mem) = inl mem
fails_since dev r a b c le (inr (fault, rose)) = inr (fault, omega (arith, le, rose))

-- and then no page is named, nor a length
pub names_none : {D T U : Type 0} (dev : device.Ghosts D) (e : RError) (a b : D) (p : ℕ) → FailsBelow {D = D} {T = T} dev (Err e) a b → IsErrOf {T = U} {E = RError} (Err e) (InvalidChecksum p) → ⊥
names_none dev e a b p (inl mem) is = absurd (cc (mem, is))
names_none dev e a b p (inr (fault, rose)) is = absurd (cc (fault, is))

pub not_short : {D T U : Type 0} (dev : device.Ghosts D) (e : RError) (a b : D) → FailsBelow {D = D} {T = T} dev (Err e) a b → IsErrOf {T = U} {E = RError} (Err e) BlobInsufficientLength → ⊥
not_short dev e a b (inl mem) is = absurd (cc (mem, is))
not_short dev e a b (inr (fault, rose)) is = absurd (cc (fault, is))

-- a read of pages never says that the blob is too short
never_short : {T : Type 0} (A : ℕ → Type 0) (B : Type 0) (r : Result T RError) → OnErr r (((p : ℕ) × (r ≡ Err (InvalidChecksum p)) × A p) ⊎ ((r ≡ Err Mem) ⊎ ((r ≡ Err Fault) × B))) → IsErrOf r BlobInsufficientLength → ⊥
never_short A B (Ok v) cause is = absurd (cc is)
never_short A B (Err e) (inl (p, page, w)) is = absurd (cc (page, is))
never_short A B (Err e) (inr (inl mem)) is = absurd (cc (mem, is))
never_short A B (Err e) (inr (inr (fault, b))) is = absurd (cc (fault, is))

module _ {D : Type 0} (dev : device.Ghosts D) (seal : List ℕ → ℕ) (P : ℕ) (blob : Key) (a b : D) (room got : List ℕ) where
  -- the size could not be learned
  pub opened_unlearned : {T : Type 0} (m : ℕ) (e : RError) → LearnsSize dev seal P blob a b (Err e) → ReadsOpened dev seal P blob a b m room got (failure T e)
  opened_unlearned m e learned = record {
    bytes = λ t. tt;
    within = λ t. tt;
    checked = λ t. tt;
    checksum = λ t p is. absurd (names_none dev e a b p learned.cause is);
    short = λ t is. absurd (not_short dev e a b learned.cause is);
    past = λ t over. inr (fails_as dev e a b learned.cause);
    unchanged = learned.unchanged;
    entries = learned.entries;
    faults = learned.faults;
    cause = inr (inr (fails_as dev e a b learned.cause));
  }

  pub last_unlearned : (e : RError) → LearnsSize dev seal P blob a b (Err e) → ReadsLast dev seal P blob a b room got (Err e)
  last_unlearned e learned = record {
    size = λ t. tt;
    within = tt;
    bytes = λ t. tt;
    checked = λ t. tt;
    checksum = λ t p is. absurd (names_none dev e a b p learned.cause is);
    short = λ t is. absurd (not_short dev e a b learned.cause is);
    past = λ t less. inr (fails_as dev e a b learned.cause);
    unchanged = learned.unchanged;
    entries = learned.entries;
    faults = learned.faults;
    cause = inr (inr (fails_as dev e a b learned.cause));
  }

  -- the blob is too short
  pub opened_refused : {T : Type 0} (m n : ℕ) → LearnsSize dev seal P blob a b (Ok n) → n < m + length room → ReadsOpened dev seal P blob a b m room got (failure T BlobInsufficientLength)
  opened_refused m n learned over = record {
    bytes = λ t. tt;
    within = λ t. tt;
    checked = λ t. tt;
    checksum = λ t p is. absurd (cc is);
    short = λ t is. omega (arith, over, learned.size t);
    past = λ t more. inl refl;
    unchanged = learned.unchanged;
    entries = learned.entries;
    faults = learned.faults;
    cause = inl refl;
  }

  pub last_refused : (n : ℕ) → LearnsSize dev seal P blob a b (Ok n) → n < length room → ReadsLast dev seal P blob a b room got (Err BlobInsufficientLength)
  last_refused n learned less = record {
    size = λ t. tt;
    within = tt;
    bytes = λ t. tt;
    checked = λ t. tt;
    checksum = λ t p is. absurd (cc is);
    short = λ t is. omega (arith, less, learned.size t);
    past = λ t more. inl refl;
    unchanged = learned.unchanged;
    entries = learned.entries;
    faults = learned.faults;
    cause = inl refl;
  }

  -- the pages were read, with none of them in memory
  module _ (c : D) (held : List (ℕ × List ℕ)) (n : ℕ) (learned : LearnsSize dev seal P blob a b (Ok n)) (empty : held ≡ []) where
    same : dev.Tells → disk (dev.time b) ≡ disk (dev.time a)
    same t = unchanged_now (dev.time a) (dev.time b) (learned.unchanged t)

    pub opened_read : {T : Type 0} (m : ℕ) (r : Result T RError) → m + length room ≤ n → length got ≡ length room → ReadsPages dev seal P blob b c held m room got r → ReadsOpened dev seal P blob a c m room got r
    opened_read m r fits long read = record {
      bytes = λ t. on_ok r (λ each. read_data P m (length room) (view (disk (dev.time a) blob).content) got long (λ i lt. each i lt ∙ ap (λ (d : Disk). view (d blob).content (place P (m + i))) (same t))) (read.bytes t (none_cached seal P (disk (dev.time b) blob).content held empty));
      within = λ t. ok_with r (omega (arith, fits, learned.size t));
      checked = λ t. on_ok r (λ all. subst (λ (d : Disk). IsCovered seal P (d blob).content m (length room)) (same t) all) (read.covered t (none_cached seal P (disk (dev.time b) blob).content held empty));
      checksum = λ t p is. subst (λ (d : Disk). IsShort seal P (d blob).content m (length room) p) (same t) (read.short t p is);
      short = λ t is. absurd (never_short _ _ r read.cause is);
      past = λ t over. absurd (omega (arith, over, fits, learned.size t));
      unchanged = λ t. unchanged_then _ _ _ (learned.unchanged t) (read.unchanged t);
      entries = only_read_then _ _ _ _ learned.entries (only_read_of _ _ _ _ read.entries);
      faults = omega (arith, learned.faults, read.faults);
      cause = on_err r (λ why. inr (elim why [
        | inl page ↦ inl page
        | inr below ↦ inr (fails_since dev r a b c learned.faults below)
      ])) read.cause;
    }

    -- the last bytes could not be read
    pub last_failed : {T : Type 0} (e : RError) → length room ≤ n → ReadsPages dev seal P blob b c held (n - length room) room got (failure T e) → ReadsLast dev seal P blob a c room got (Err e)
    last_failed {T = T} e fits read = record {
      size = λ t. tt;
      within = tt;
      bytes = λ t. tt;
      checked = λ t. tt;
      checksum = λ t p is. subst (λ (x : ℕ). (length room ≤ x) × IsShort seal P (disk (dev.time a) blob).content (x - length room) (length room) p) (learned.size t)
          (fits, subst (λ (d : Disk). IsShort seal P (d blob).content (n - length room) (length room) p) (same t) (read.short t p (same_error is)));
      short = λ t is. absurd (never_short {T = T} _ _ (Err e) read.cause (same_error is));
      past = λ t less. absurd (omega (arith, less, fits, learned.size t));
      unchanged = λ t. unchanged_then _ _ _ (learned.unchanged t) (read.unchanged t);
      entries = only_read_then _ _ _ _ learned.entries (only_read_of _ _ _ _ read.entries);
      faults = omega (arith, learned.faults, read.faults);
      cause = inr (elim read.cause [
        | inl (p, page, w) ↦ inl (p, same_error page)
        | inr below ↦ inr (fails_as dev e a c (fails_since {T = T} dev (Err e) a b c learned.faults below))
      ]);
    }

    pub last_read : {T : Type 0} (v : T) → length room ≤ n → length got ≡ length room → ReadsPages dev seal P blob b c held (n - length room) room got (Ok v) → ReadsLast dev seal P blob a c room got (Ok n)
    last_read v fits long read = record {
      size = learned.size;
      within = fits;
      bytes = λ t. read_data P (n - length room) (length room) (view (disk (dev.time a) blob).content) got long
          (λ i lt. read.bytes t (none_cached seal P (disk (dev.time b) blob).content held empty) i lt ∙ ap (λ (d : Disk). view (d blob).content (place P (n - length room + i))) (same t));
      checked = λ t. subst (λ (d : Disk). IsCovered seal P (d blob).content (n - length room) (length room)) (same t) (read.covered t (none_cached seal P (disk (dev.time b) blob).content held empty));
      checksum = λ t p is. absurd (cc is);
      short = λ t is. absurd (cc is);
      past = λ t less. absurd (omega (arith, less, fits, learned.size t));
      unchanged = λ t. unchanged_then _ _ _ (learned.unchanged t) (read.unchanged t);
      entries = only_read_then _ _ _ _ learned.entries (only_read_of _ _ _ _ read.entries);
      faults = omega (arith, learned.faults, read.faults);
      cause = tt;
    }

-- an error, and what is said of it
no_ok : {T E : Type 0} (P : Type 0) (r : Result T E) → IsErr r → OnOk r P
no_ok P (Ok v) none = absurd (cc none)
no_ok P (Err e) none = tt

fails_with : {T E : Type 0} (P : Type 0) (r : Result T E) → IsErr r → OnErr r P → P
fails_with P (Ok v) none p = absurd (cc none)
fails_with P (Err e) none p = p

never : {T : Type 0} (B : Type 0) (r : Result T RError) → OnErr r ((r ≡ Err Mem) ⊎ ((r ≡ Err Fault) × B)) → (r ≡ Err OffsetOverflow) ⊎ (r ≡ Err BlobInsufficientLength) → ⊥
never B (Ok v) cause (inl is) = cc is
never B (Ok v) cause (inr is) = cc is
never B (Err e) (inl mem) (inl is) = cc (mem, is)
never B (Err e) (inl mem) (inr is) = cc (mem, is)
never B (Err e) (inr (fault, b)) (inl is) = cc (fault, is)
never B (Err e) (inr (fault, b)) (inr is) = cc (fault, is)

-- a read below 2^64 never says that it passes it
never_over : {T : Type 0} (A : ℕ → Type 0) (B : Type 0) (r : Result T RError) → OnErr r ((r ≡ Err BlobInsufficientLength) ⊎ (((p : ℕ) × (r ≡ Err (InvalidChecksum p)) × A p) ⊎ ((r ≡ Err Mem) ⊎ ((r ≡ Err Fault) × B)))) → IsErrOf r OffsetOverflow → ⊥
never_over A B (Ok v) cause is = cc is
never_over A B (Err e) (inl short) is = cc (short, is)
never_over A B (Err e) (inr (inl (p, page, w))) is = cc (page, is)
never_over A B (Err e) (inr (inr (inl mem))) is = cc (mem, is)
never_over A B (Err e) (inr (inr (inr (fault, b)))) is = cc (fault, is)

module _ {D : Type 0} (dev : device.Ghosts D) (seal : List ℕ → ℕ) (P : ℕ) (blob : Key) (a b : D) (room got : List ℕ) where
  -- the blob could not be opened again
  pub range_unopened : {T : Type 0} (m : ℕ) (q : Result ℕ DevError) (r : Result T RError) → OpensAgain dev blob a b q → m + length room < 2 ^ 64 → IsErr r → OnErr r (FailsBelow dev r a b) → ReadsRange dev seal P blob a b m room got r
  range_unopened m q r opened fits none cause = record {
    bytes = λ t. no_ok _ r none;
    within = λ t. no_ok _ r none;
    checked = λ t. no_ok _ r none;
    checksum = λ t p is. absurd (no_page (Rose (dev.faults a) (dev.faults b)) r p cause is);
    overflow = (λ is. absurd (never (Rose (dev.faults a) (dev.faults b)) r cause (inl is)), λ over. absurd (omega (arith, over, fits)));
    refused = λ over. absurd (omega (arith, over, fits));
    short = λ t is. absurd (never (Rose (dev.faults a) (dev.faults b)) r cause (inr is));
    past = λ t over. inr (fails_with _ r none cause);
    settles = opened.settles;
    entries = opened.entries;
    faults = opened.faults;
    cause = on_err r (λ why. inr (inr (inr why))) cause;
    length = opened.same;
  }

  pub tail_unopened : (q : Result ℕ DevError) (r : Result ℕ RError) → OpensAgain dev blob a b q → IsErr r → OnErr r (FailsBelow dev r a b) → ReadsTail dev seal P blob a b room got r
  tail_unopened q r opened none cause = record {
    size = λ t. no_value _ r none;
    within = no_value _ r none;
    bytes = λ t. no_value _ r none;
    checked = λ t. no_value _ r none;
    checksum = λ t p is. absurd (no_page (Rose (dev.faults a) (dev.faults b)) r p cause is);
    short = λ t is. absurd (never (Rose (dev.faults a) (dev.faults b)) r cause (inr is));
    past = λ t over. inr (fails_with _ r none cause);
    settles = opened.settles;
    entries = opened.entries;
    faults = opened.faults;
    cause = on_err r (λ why. inr (inr why)) cause;
    length = opened.same;
  }

  module _ (c : D) (n : ℕ) (opened : OpensAgain dev blob a b (Ok n)) where
    stays : dev.Tells → (disk (dev.time b) blob).content ≡ (disk (dev.time a) blob).content
    stays t = ap (λ (x : Blob). x.content) (opened.settled t)

    -- it was, and then read
    pub range_opened : {T : Type 0} (m : ℕ) (r : Result T RError) → m + length room < 2 ^ 64 → ReadsOpened dev seal P blob b c m room got r → ReadsRange dev seal P blob a c m room got r
    range_opened m r fits read = record {
      bytes = λ t. subst (λ (l : List ℕ). OnOk r (got ≡ data_from P (view l) m (length room))) (stays t) (read.bytes t);
      within = λ t. subst (λ (l : List ℕ). OnOk r (m + length room ≤ adopted_size seal P l)) (stays t) (read.within t);
      checked = λ t. subst (λ (l : List ℕ). OnOk r (IsCovered seal P l m (length room))) (stays t) (read.checked t);
      checksum = λ t p is. subst (λ (l : List ℕ). IsShort seal P l m (length room) p) (stays t) (read.checksum t p is);
      overflow = (λ is. absurd (never_over _ _ r read.cause is), λ over. absurd (omega (arith, over, fits)));
      refused = λ over. absurd (omega (arith, over, fits));
      short = λ t is. record { fits = fits; past = subst (λ (l : List ℕ). adopted_size seal P l < m + length room) (stays t) (read.short t is) };
      past = λ t over. elim (read.past t (subst (λ (l : List ℕ). adopted_size seal P l < m + length room) (sym (stays t)) over.past)) [
        | inl is ↦ inl is
        | inr below ↦ inr (fails_since dev r a b c opened.faults below)
      ];
      settles = λ t. settles_then blob (dev.time a) (dev.time b) (dev.time c) (opened.settles t) (read.unchanged t);
      entries = stays_then blob (dev.opened a) (dev.opened b) (dev.opened c) opened.entries read.entries;
      faults = omega (arith, opened.faults, read.faults);
      cause = on_err r (λ why. inr (elim why [
        | inl short ↦ inl short
        | inr (inl page) ↦ inr (inl page)
        | inr (inr below) ↦ inr (inr (fails_since dev r a b c opened.faults below))
      ])) read.cause;
      length = λ t len was. read.entries.length len (opened.same t len was);
    }

    pub tail_opened : (r : Result ℕ RError) → ReadsLast dev seal P blob b c room got r → ReadsTail dev seal P blob a c room got r
    tail_opened r read = record {
      size = λ t. subst (λ (l : List ℕ). IfOk r (λ x. x ≡ adopted_size seal P l)) (stays t) (read.size t);
      within = read.within;
      bytes = λ t. subst (λ (l : List ℕ). IfOk r (λ x. got ≡ data_from P (view l) (x - length room) (length room))) (stays t) (read.bytes t);
      checked = λ t. subst (λ (l : List ℕ). IfOk r (λ x. IsCovered seal P l (x - length room) (length room))) (stays t) (read.checked t);
      checksum = λ t p is. subst (λ (l : List ℕ). IsTailShort seal P l (length room) p) (stays t) (read.checksum t p is);
      short = λ t is. subst (λ (l : List ℕ). adopted_size seal P l < length room) (stays t) (read.short t is);
      past = λ t over. elim (read.past t (subst (λ (l : List ℕ). adopted_size seal P l < length room) (sym (stays t)) over)) [
        | inl is ↦ inl is
        | inr below ↦ inr (fails_since dev r a b c opened.faults below)
      ];
      settles = λ t. settles_then blob (dev.time a) (dev.time b) (dev.time c) (opened.settles t) (read.unchanged t);
      entries = stays_then blob (dev.opened a) (dev.opened b) (dev.opened c) opened.entries read.entries;
      faults = omega (arith, opened.faults, read.faults);
      cause = on_err r (λ why. elim why [
        | inl short ↦ inl short
        | inr (inl page) ↦ inr (inl page)
        | inr (inr below) ↦ inr (inr (fails_since dev r a b c opened.faults below))
      ]) read.cause;
      length = λ t len was. read.entries.length len (opened.same t len was);
    }
