-- What an opening of an archive answers where its parts fail.
use Rattle.std.proofs.Common.{◌≡◌, ◌≢◌, ◌⊎◌, inl, inr, refl, sym, ◌∙◌, ap, subst, ℕ, ◌≤◌, List, Result, Ok, Err, arith}
use Rattle.std.specs.Result.{IsErrOf}
use Rattle.blob_device.specs.Counts.{Rose}
use Rattle.blob_device.specs.declared.runtime.RError.TheVariants.{Fault, InvalidChecksum}
use Rattle.value_codec.specs.declared.codec.Error as codec
use Rattle.meta_store.specs.declared.error.Error as meta
use Rattle.meta_store.specs.declared.error.Error.TheVariants as store
use Rattle.meta_store.specs.declared.error.Side.{Side}
use Rattle.section_manager.specs.declared.journal.Damage.{Damage}
use Rattle.section_manager.specs.declared.journal.Error as journal
use Rattle.section_manager.specs.declared.journal.Error.TheVariants as section
use Rattle.section_manager.specs.Refusing as below
use Rattle.segments.specs.FixedReading.{HasNotRead}
use Rattle.paired.specs.PairRefusing as pair
use Rattle.archives.proofs.opening.Causes.{HasLostMarkers, IsOpeningError}
use Rattle.archives.specs.Raised.{raised, raised_metadata}
use Rattle.archives.proofs.read.Causes.{HasFailed}
use Rattle.archives.specs.declared.error.Error.{Error}
use Rattle.archives.specs.declared.error.Error.TheVariants.{Journal, Metadata, RecordCorrupted, Full}

-- ---- which error was handed on
lower_metadata : (m : meta.Error) (x : meta.Error) → raised_metadata m ≡ Metadata x → m ≡ x
lower_metadata (store.Runtime y) x same = cc same
lower_metadata (store.Corruption y) x same = cc same
lower_metadata store.Full x same = absurd (cc same)
lower_metadata store.Mem x same = absurd (cc same)

no_journal : (m : meta.Error) (x : journal.Error) → raised_metadata m ≡ Journal x → {P : Type 0} → P
no_journal (store.Runtime y) x same = absurd (cc same)
no_journal (store.Corruption y) x same = absurd (cc same)
no_journal store.Full x same = absurd (cc same)
no_journal store.Mem x same = absurd (cc same)

no_stray : (m : meta.Error) → raised_metadata m ≡ RecordCorrupted → {P : Type 0} → P
no_stray (store.Runtime y) same = absurd (cc same)
no_stray (store.Corruption y) same = absurd (cc same)
no_stray store.Full same = absurd (cc same)
no_stray store.Mem same = absurd (cc same)

pub journal_error : (e x : journal.Error) → raised e ≡ Journal x → e ≡ x
journal_error (section.Runtime y) x same = cc same
journal_error (section.Metadata m) x same = no_journal m x same
journal_error (section.Codec y) x same = cc same
journal_error (section.InvalidBlobName y) x same = cc same
journal_error (section.ItemOutOfRange y) x same = cc same
journal_error (section.SectionOutOfRange y) x same = cc same
journal_error (section.AlreadyPrunedToSection y) x same = cc same
journal_error (section.ChecksumMismatch y z) x same = cc same
journal_error section.ValueTooLarge x same = cc same
journal_error section.OffsetOverflow x same = cc same
journal_error (section.Corruption y) x same = cc same
journal_error section.ReplayFailed x same = cc same
journal_error section.Full x same = absurd (cc same)
journal_error section.Mem x same = absurd (cc same)

pub metadata_error : (e : journal.Error) (x : meta.Error) → raised e ≡ Metadata x → e ≡ section.Metadata x
metadata_error (section.Runtime y) x same = absurd (cc same)
metadata_error (section.Metadata m) x same = ap section.Metadata (lower_metadata m x same)
metadata_error (section.Codec y) x same = absurd (cc same)
metadata_error (section.InvalidBlobName y) x same = absurd (cc same)
metadata_error (section.ItemOutOfRange y) x same = absurd (cc same)
metadata_error (section.SectionOutOfRange y) x same = absurd (cc same)
metadata_error (section.AlreadyPrunedToSection y) x same = absurd (cc same)
metadata_error (section.ChecksumMismatch y z) x same = absurd (cc same)
metadata_error section.ValueTooLarge x same = absurd (cc same)
metadata_error section.OffsetOverflow x same = absurd (cc same)
metadata_error (section.Corruption y) x same = absurd (cc same)
metadata_error section.ReplayFailed x same = absurd (cc same)
metadata_error section.Full x same = absurd (cc same)
metadata_error section.Mem x same = absurd (cc same)

pub never_stray : (e : journal.Error) → raised e ≡ RecordCorrupted → {P : Type 0} → P
never_stray (section.Runtime y) same = absurd (cc same)
never_stray (section.Metadata m) same = no_stray m same
never_stray (section.Codec y) same = absurd (cc same)
never_stray (section.InvalidBlobName y) same = absurd (cc same)
never_stray (section.ItemOutOfRange y) same = absurd (cc same)
never_stray (section.SectionOutOfRange y) same = absurd (cc same)
never_stray (section.AlreadyPrunedToSection y) same = absurd (cc same)
never_stray (section.ChecksumMismatch y z) same = absurd (cc same)
never_stray section.ValueTooLarge same = absurd (cc same)
never_stray section.OffsetOverflow same = absurd (cc same)
never_stray (section.Corruption y) same = absurd (cc same)
never_stray section.ReplayFailed same = absurd (cc same)
never_stray section.Full same = absurd (cc same)
never_stray section.Mem same = absurd (cc same)

-- ---- a count of faults that rose rose since before
pub rose_before : (a b c : ℕ) → a ≤ b → Rose b c → Rose a c
rose_before a b c le rose = omega (arith, le, rose)

-- ---- a part's error, handed on
module _ {T : Type 0} (r : Result T Error) where
  -- the device failed, or memory was short
  abbrev pub GivesUp : ℕ → ℕ → Type 0
  GivesUp a b = HasFailed r a b ⊎ HasLostMarkers r a b

  abbrev pub Stops : ℕ → ℕ → Type 0
  Stops a b = IsOpeningError r ⊎ GivesUp a b

  pub gives_up_before : (a b c : ℕ) → a ≤ b → GivesUp b c → GivesUp a c
  gives_up_before a b c le (inl (inl memory)) = inl (inl memory)
  gives_up_before a b c le (inl (inr fault)) = inl (inr (fault.0, rose_before a b c le fault.1))
  gives_up_before a b c le (inr lost) = inr (lost.0, rose_before a b c le lost.1)

  module _ (U : Type 0) (e : journal.Error) (is : r ≡ Err (raised e)) where
    abbrev pub Lower : Result U journal.Error
    Lower = Err e

    pub handed : (x : journal.Error) → IsErrOf Lower x → r ≡ Err (raised x)
    handed x has =
        let f : journal.Error → Result T Error = λ y. Err (raised y) in
        let same : e ≡ x = cc has in
        is ∙ ap f same

    pub journal_back : (x : journal.Error) → IsErrOf r (Journal x) → IsErrOf Lower x
    journal_back x has =
        let f : journal.Error → Result U journal.Error = λ y. Err y in
        let same : raised e ≡ Journal x = cc (is, has) in
        ap f (journal_error e x same)

    pub metadata_back : (x : meta.Error) → IsErrOf r (Metadata x) → IsErrOf Lower (section.Metadata x)
    metadata_back x has =
        let f : journal.Error → Result U journal.Error = λ y. Err y in
        let same : raised e ≡ Metadata x = cc (is, has) in
        ap f (metadata_error e x same)

    pub no_stray_back : IsErrOf r RecordCorrupted → {P : Type 0} → P
    no_stray_back has =
        let same : raised e ≡ RecordCorrupted = cc (is, has) in
        never_stray e same

    pub failed_on : (a b : ℕ) → below.HasFailed Lower a b → HasFailed r a b
    failed_on a b (inl memory) = inl (handed section.Mem memory)
    failed_on a b (inr fault) = inr (handed (section.Runtime Fault) fault.0, fault.1)

    pub lost_on : (a b : ℕ) → pair.HasLostMarkers Lower a b → HasLostMarkers r a b
    lost_on a b lost = (handed (section.Metadata (store.Runtime Fault)) lost.0, lost.1)

    pub gives_up_on : (a b : ℕ) → below.HasFailed Lower a b ⊎ pair.HasLostMarkers Lower a b → GivesUp a b
    gives_up_on a b (inl failed) = inl (failed_on a b failed)
    gives_up_on a b (inr lost) = inr (lost_on a b lost)

    -- the opening of the pair refuses
    abbrev pub PairRefuses : ℕ → ℕ → Type 0
    PairRefuses a b = ((side : Side) × IsErrOf Lower (section.Metadata (store.Corruption side))) ⊎ (((n : List ℕ) × IsErrOf Lower (section.InvalidBlobName n)) ⊎ (((x : Damage) × IsErrOf Lower (section.Corruption x))
        ⊎ (((y : codec.Error) × IsErrOf Lower (section.Codec y)) ⊎ (below.HasFailed Lower a b ⊎ pair.HasLostMarkers Lower a b))))

    pub pair_stops : (a b : ℕ) → PairRefuses a b → Stops a b
    pair_stops a b (inl corrupt) = inl (inl (corrupt.0, handed (section.Metadata (store.Corruption corrupt.0)) corrupt.1))
    pair_stops a b (inr (inl named)) = inl (inr (inl (named.0, handed (section.InvalidBlobName named.0) named.1)))
    pair_stops a b (inr (inr (inl damage))) = inl (inr (inr (inl (damage.0, handed (section.Corruption damage.0) damage.1))))
    pair_stops a b (inr (inr (inr (inl refused)))) = inl (inr (inr (inr (inr (inr (inl (refused.0, handed (section.Codec refused.0) refused.1)))))))
    pair_stops a b (inr (inr (inr (inr gave)))) = inr (gives_up_on a b gave)

    -- the end of the pair's opening refuses
    abbrev pub EndRefuses : ℕ → ℕ → Type 0
    EndRefuses a b = IsErrOf Lower section.Full ⊎ (pair.HasLostMarkers Lower a b ⊎ (((x : Damage) × IsErrOf Lower (section.Corruption x)) ⊎ HasNotRead Lower a b))

    pub end_stops : (a b c : ℕ) → a ≤ b → EndRefuses b c → Stops a c
    end_stops a b c le (inl full) = inl (inr (inr (inr (inr (inr (inr (inr (handed section.Full full))))))))
    end_stops a b c le (inr (inl lost)) = inr (gives_up_before a b c le (inr (lost_on b c lost)))
    end_stops a b c le (inr (inr (inl damage))) = inl (inr (inr (inl (damage.0, handed (section.Corruption damage.0) damage.1))))
    end_stops a b c le (inr (inr (inr (inl page)))) = inl (inr (inr (inr (inl (page.0, handed (section.Runtime (InvalidChecksum page.0)) page.1)))))
    end_stops a b c le (inr (inr (inr (inr (inl refused))))) = inl (inr (inr (inr (inr (inr (inl (refused.0, handed (section.Codec refused.0) refused.1)))))))
    end_stops a b c le (inr (inr (inr (inr (inr failed))))) = inr (gives_up_before a b c le (inl (failed_on b c failed)))

    this : (x : journal.Error) → IsErrOf Lower x → x ≡ e
    this x has = let same : e ≡ x = cc has in sym same

    -- what holds of each error of the pair's opening, or of its end, holds of this one
    pub pair_only : (Q : journal.Error → Type 0) → ((side : Side) → Q (section.Metadata (store.Corruption side))) → ((n : List ℕ) → Q (section.InvalidBlobName n)) → ((x : Damage) → Q (section.Corruption x)) → ((y : codec.Error) → Q (section.Codec y))
        → Q section.Mem → Q (section.Runtime Fault) → Q (section.Metadata (store.Runtime Fault)) → (a b : ℕ) → PairRefuses a b → Q e
    pair_only Q corrupt named damage refused memory fault lost a b (inl is_corrupt) = subst Q (this (section.Metadata (store.Corruption is_corrupt.0)) is_corrupt.1) (corrupt is_corrupt.0)
    pair_only Q corrupt named damage refused memory fault lost a b (inr (inl has)) = subst Q (this (section.InvalidBlobName has.0) has.1) (named has.0)
    pair_only Q corrupt named damage refused memory fault lost a b (inr (inr (inl has))) = subst Q (this (section.Corruption has.0) has.1) (damage has.0)
    pair_only Q corrupt named damage refused memory fault lost a b (inr (inr (inr (inl has)))) = subst Q (this (section.Codec has.0) has.1) (refused has.0)
    pair_only Q corrupt named damage refused memory fault lost a b (inr (inr (inr (inr (inl (inl has)))))) = subst Q (this section.Mem has) memory
    pair_only Q corrupt named damage refused memory fault lost a b (inr (inr (inr (inr (inl (inr has)))))) = subst Q (this (section.Runtime Fault) has.0) fault
    pair_only Q corrupt named damage refused memory fault lost a b (inr (inr (inr (inr (inr has))))) = subst Q (this (section.Metadata (store.Runtime Fault)) has.0) lost

    pub end_only : (Q : journal.Error → Type 0) → Q section.Full → Q (section.Metadata (store.Runtime Fault)) → ((x : Damage) → Q (section.Corruption x)) → ((k : ℕ) → Q (section.Runtime (InvalidChecksum k))) → ((y : codec.Error) → Q (section.Codec y))
        → Q section.Mem → Q (section.Runtime Fault) → (a b : ℕ) → EndRefuses a b → Q e
    end_only Q full lost damage page refused memory fault a b (inl has) = subst Q (this section.Full has) full
    end_only Q full lost damage page refused memory fault a b (inr (inl has)) = subst Q (this (section.Metadata (store.Runtime Fault)) has.0) lost
    end_only Q full lost damage page refused memory fault a b (inr (inr (inl has))) = subst Q (this (section.Corruption has.0) has.1) (damage has.0)
    end_only Q full lost damage page refused memory fault a b (inr (inr (inr (inl has)))) = subst Q (this (section.Runtime (InvalidChecksum has.0)) has.1) (page has.0)
    end_only Q full lost damage page refused memory fault a b (inr (inr (inr (inr (inl has))))) = subst Q (this (section.Codec has.0) has.1) (refused has.0)
    end_only Q full lost damage page refused memory fault a b (inr (inr (inr (inr (inr (inl has)))))) = subst Q (this section.Mem has) memory
    end_only Q full lost damage page refused memory fault a b (inr (inr (inr (inr (inr (inr has)))))) = subst Q (this (section.Runtime Fault) has.0) fault

    -- so its opening refuses no page and no start, and is not full
    pub pair_no_page : (a b : ℕ) → PairRefuses a b → (k : ℕ) → IsErrOf r (Journal (section.Runtime (InvalidChecksum k))) → ⊥
    pair_no_page a b why k has =
        let Q : journal.Error → Type 0 = λ y. y ≢ section.Runtime (InvalidChecksum k) in
        pair_only Q (λ side same. cc same) (λ n same. cc same) (λ x same. cc same) (λ y same. cc same) (λ same. cc same) (λ same. cc same) (λ same. cc same) a b why
        (let same : raised e ≡ Journal (section.Runtime (InvalidChecksum k)) = cc (is, has) in journal_error e (section.Runtime (InvalidChecksum k)) same)

    pub pair_no_start : (a b : ℕ) → PairRefuses a b → (n : ℕ) → IsErrOf r (Journal (section.ItemOutOfRange n)) → ⊥
    pair_no_start a b why n has =
        let Q : journal.Error → Type 0 = λ y. y ≢ section.ItemOutOfRange n in
        pair_only Q (λ side same. cc same) (λ m same. cc same) (λ x same. cc same) (λ y same. cc same) (λ same. cc same) (λ same. cc same) (λ same. cc same) a b why
        (let same : raised e ≡ Journal (section.ItemOutOfRange n) = cc (is, has) in journal_error e (section.ItemOutOfRange n) same)

    pub pair_no_full : (a b : ℕ) → PairRefuses a b → IsErrOf r Full → ⊥
    pair_no_full a b why has =
        let Q : journal.Error → Type 0 = λ y. raised y ≢ Full in
        pair_only Q (λ side same. cc same) (λ m same. cc same) (λ x same. cc same) (λ y same. cc same) (λ same. cc same) (λ same. cc same) (λ same. cc same) a b why
        (let same : raised e ≡ Full = cc (is, has) in same)

    -- and its end no copy, no name and no start; it is full where that says so
    pub end_no_copy : (a b : ℕ) → EndRefuses a b → (side : Side) → IsErrOf r (Metadata (store.Corruption side)) → ⊥
    end_no_copy a b why side has =
        let Q : journal.Error → Type 0 = λ y. y ≢ section.Metadata (store.Corruption side) in
        end_only Q (λ same. cc same) (λ same. cc same) (λ x same. cc same) (λ k same. cc same) (λ y same. cc same) (λ same. cc same) (λ same. cc same) a b why
        (let same : raised e ≡ Metadata (store.Corruption side) = cc (is, has) in metadata_error e (store.Corruption side) same)

    pub end_no_name : (a b : ℕ) → EndRefuses a b → (n : List ℕ) → IsErrOf r (Journal (section.InvalidBlobName n)) → ⊥
    end_no_name a b why n has =
        let Q : journal.Error → Type 0 = λ y. y ≢ section.InvalidBlobName n in
        end_only Q (λ same. cc same) (λ same. cc same) (λ x same. cc same) (λ k same. cc same) (λ y same. cc same) (λ same. cc same) (λ same. cc same) a b why
        (let same : raised e ≡ Journal (section.InvalidBlobName n) = cc (is, has) in journal_error e (section.InvalidBlobName n) same)

    pub end_no_start : (a b : ℕ) → EndRefuses a b → (n : ℕ) → IsErrOf r (Journal (section.ItemOutOfRange n)) → ⊥
    end_no_start a b why n has =
        let Q : journal.Error → Type 0 = λ y. y ≢ section.ItemOutOfRange n in
        end_only Q (λ same. cc same) (λ same. cc same) (λ x same. cc same) (λ k same. cc same) (λ y same. cc same) (λ same. cc same) (λ same. cc same) a b why
        (let same : raised e ≡ Journal (section.ItemOutOfRange n) = cc (is, has) in journal_error e (section.ItemOutOfRange n) same)

    pub end_full : (a b : ℕ) → EndRefuses a b → IsErrOf r Full → IsErrOf Lower section.Full
    end_full a b why has =
        let Q : journal.Error → Type 0 = λ y. raised y ≡ Full → y ≡ section.Full in
        let f : journal.Error → Result U journal.Error = λ y. Err y in
        ap f (end_only Q (λ same. refl) (λ same. absurd (cc same)) (λ x same. absurd (cc same)) (λ k same. absurd (cc same)) (λ y same. absurd (cc same)) (λ same. absurd (cc same)) (λ same. absurd (cc same)) a b why
        (let same : raised e ≡ Full = cc (is, has) in same))

-- what cannot be gives anything
pub never : {P : Type 0} → ⊥ → P
never is = absurd is

-- the second of two, where the first is not so
pub after_replay : {A B : Type 0} → (A → ⊥) → A ⊎ B → B
after_replay never (inl is) = absurd (never is)
after_replay never (inr is) = is

-- what went well was not refused
pub no_refusal : {T : Type 0} (v : T) (x : journal.Error) (a b : ℕ) → IsErrOf {T = T} {E = journal.Error} (Ok v) x ⊎ (below.HasFailed (Ok v) a b ⊎ pair.HasLostMarkers (Ok v) a b) → {P : Type 0} → P
no_refusal v x a b (inl corrupt) = absurd (cc corrupt)
no_refusal v x a b (inr (inl (inl memory))) = absurd (cc memory)
no_refusal v x a b (inr (inl (inr fault))) = absurd (cc (fault.0))
no_refusal v x a b (inr (inr lost)) = absurd (cc (lost.0))
