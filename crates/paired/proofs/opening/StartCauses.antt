-- Why an opening by markers fails: what its parts answer, handed on.
use Rattle.std.specs.Prelude.{◌≡◌, ◌⊎◌, ℕ, ◌≤◌, List, Option, Result, Ok, Err, OnErr, MatchResult}
use Rattle.std.proofs.Common.{inl, inr, ◌∙◌, ap, subst}
use Rattle.std.specs.Result.{IsErrOf}
use Rattle.blob_device.specs.Disk.{Disk}
use Rattle.blob_device.specs.declared.runtime.RError.TheVariants.{Fault}
use Rattle.value_codec.specs.declared.codec.Error as codec
use Rattle.meta_store.specs.Calls.{GaveUp}
use Rattle.meta_store.specs.declared.error.Error as meta
use Rattle.meta_store.specs.declared.error.Error.TheVariants as store
use Rattle.meta_store.specs.declared.error.Side.{Side}
use Rattle.meta_store.specs.Opening.{PairOn}
use Rattle.section_manager.specs.Raised.{raised_metadata}
use Rattle.section_manager.specs.declared.journal.Damage.{Damage}
use Rattle.section_manager.specs.declared.journal.Error.{Error}
use Rattle.section_manager.specs.declared.journal.Error.TheVariants as journal
use Rattle.section_manager.specs.Refusing.{HasFailed}
use Rattle.paired.specs.Kept.{Layout}
use Rattle.paired.specs.OpeningFound.{HasCause}
use Rattle.paired.specs.PairRefusing.{HasLostMarkers}
use Rattle.paired.proofs.FailLemmas.{failed_as}
use Rattle.paired.proofs.pair.Failing.{failed_before}
use Rattle.blob_device.proofs.general.Results.{err_with}

-- what an opening answers where it fails
module _ {T : Type 0} (r : Result T Error) (a b : ℕ) where
  -- the device failed, or memory was short
  abbrev pub GivesUp : Type 0
  GivesUp = HasFailed r a b ⊎ HasLostMarkers r a b

  -- a name, a marker or a record is refused
  abbrev pub Refusals : Type 0
  Refusals = ((n : List ℕ) × IsErrOf r (journal.InvalidBlobName n)) ⊎ (((x : Damage) × IsErrOf r (journal.Corruption x)) ⊎ (((e : codec.Error) × IsErrOf r (journal.Codec e)) ⊎ GivesUp))

  abbrev pub Refuses : Type 0
  Refuses = ((side : Side) × IsErrOf r (journal.Metadata (store.Corruption side))) ⊎ Refusals

-- ---- the markers are refused
-- why their opening fails
abbrev pub MarkersRefuse : (U : Type 0) → meta.Error → ℕ → ℕ → Type 0
MarkersRefuse U e a b = ((side : Side) × (◌≡◌ {A = Result U meta.Error} (Err e) (Err (store.Corruption side)))) ⊎ GaveUp {T = U} (Err e) a b

module _ {T U : Type 0} (r : Result T Error) (e : meta.Error) (is : r ≡ Err (raised_metadata e)) (a b : ℕ) where
  same_error : (x : meta.Error) → ◌≡◌ {A = Result U meta.Error} (Err e) (Err x) → e ≡ x
  same_error x has = cc has

  gave_up : (why : GaveUp {T = U} (Err e) a b) → GivesUp r a b
  gave_up (inl memory) =
      let f : meta.Error → Result T Error = λ x. Err (raised_metadata x) in
      inl (inl (is ∙ ap f (same_error store.Mem memory)))
  gave_up (inr fault) =
      let f : meta.Error → Result T Error = λ x. Err (raised_metadata x) in
      inr (is ∙ ap f (same_error (store.Runtime Fault) fault.0), fault.1)

  pub markers_refuse : MarkersRefuse U e a b → ((side : Side) × IsErrOf r (journal.Metadata (store.Corruption side))) ⊎ GivesUp r a b
  markers_refuse (inl corrupt) =
      let f : meta.Error → Result T Error = λ x. Err (raised_metadata x) in
      inl (corrupt.0, is ∙ ap f (same_error (store.Corruption corrupt.0) corrupt.1))
  markers_refuse (inr why) = inr (gave_up why)

  pub markers_gave_up : GaveUp {T = U} (Err e) a b → GivesUp r a b
  markers_gave_up why = gave_up why

  -- a copy is corrupt where that was answered
  pub corrupt_back : (side : Side) → IsErrOf r (journal.Metadata (store.Corruption side)) → ◌≡◌ {A = Result U meta.Error} (Err e) (Err (store.Corruption side))
  corrupt_back side has =
      let f : meta.Error → Result U meta.Error = λ x. Err x in
      let back : raised_metadata e ≡ journal.Metadata (store.Corruption side) = cc (is, has) in
      ap f (lowered e side back)
    where
      lowered : (x : meta.Error) (side : Side) → raised_metadata x ≡ journal.Metadata (store.Corruption side) → x ≡ store.Corruption side
      lowered (store.Runtime y) side same = absurd (cc same)
      lowered (store.Corruption y) side same = cc same
      lowered store.Full side same = absurd (cc same)
      lowered store.Mem side same = absurd (cc same)

  pub corrupt_on : (side : Side) → ◌≡◌ {A = Result U meta.Error} (Err e) (Err (store.Corruption side)) → IsErrOf r (journal.Metadata (store.Corruption side))
  corrupt_on side same =
      let f : meta.Error → Result T Error = λ x. Err (raised_metadata x) in
      is ∙ ap f (same_error (store.Corruption side) same)

-- ---- which errors are none of the others
module _ {T : Type 0} (r : Result T Error) (a b : ℕ) where
  -- where the markers are refused, or memory was short
  abbrev pub StopsEarly : Type 0
  StopsEarly = ((side : Side) × IsErrOf r (journal.Metadata (store.Corruption side))) ⊎ GivesUp r a b

  early_name : StopsEarly → (n : List ℕ) → IsErrOf r (journal.InvalidBlobName n) → ⊥
  early_name (inl corrupt) n has = cc (corrupt.1, has)
  early_name (inr (inl (inl memory))) n has = cc (memory, has)
  early_name (inr (inl (inr fault))) n has = cc (fault.0, has)
  early_name (inr (inr lost)) n has = cc (lost.0, has)

  early_damage : StopsEarly → (x : Damage) → IsErrOf r (journal.Corruption x) → ⊥
  early_damage (inl corrupt) x has = cc (corrupt.1, has)
  early_damage (inr (inl (inl memory))) x has = cc (memory, has)
  early_damage (inr (inl (inr fault))) x has = cc (fault.0, has)
  early_damage (inr (inr lost)) x has = cc (lost.0, has)

  early_codec : StopsEarly → (e : codec.Error) → IsErrOf r (journal.Codec e) → ⊥
  early_codec (inl corrupt) e has = cc (corrupt.1, has)
  early_codec (inr (inl (inl memory))) e has = cc (memory, has)
  early_codec (inr (inl (inr fault))) e has = cc (fault.0, has)
  early_codec (inr (inr lost)) e has = cc (lost.0, has)

  pub early_cause : StopsEarly → OnErr r (Refuses r a b)
  early_cause why = err_with r (go why)
    where
      go : StopsEarly → Refuses r a b
      go (inl corrupt) = inl corrupt
      go (inr given) = inr (inr (inr (inr given)))

  pub early_has_cause : StopsEarly → (l : Layout) (from : Disk) (refusal : List ℕ → Unit {0} → Option codec.Error) → ((side : Side) → IsErrOf r (journal.Metadata (store.Corruption side)) → PairOn l.markers l.metadata from (Err side)) → HasCause l from refusal r
  early_has_cause why l from refusal corrupt = record {
    corrupt = corrupt;
    named = λ n has. absurd (early_name why n has);
    damage = λ x has. absurd (early_damage why x has);
    refused = λ e has. absurd (early_codec why e has);
  }

-- ---- the parts are refused
-- why their opening fails
abbrev pub PartsRefuse : {T : Type 0} → Result T Error → ℕ → ℕ → Type 0
PartsRefuse r a b = ((n : List ℕ) × IsErrOf r (journal.InvalidBlobName n)) ⊎ (((x : Damage) × IsErrOf r (journal.Corruption x)) ⊎ (((e : codec.Error) × IsErrOf r (journal.Codec e)) ⊎ HasFailed r a b))

module _ {T U : Type 0} (r : Result T Error) (e : Error) (is : r ≡ Err e) where
  other_error : (x : Error) → ◌≡◌ {A = Result U Error} (Err e) (Err x) → r ≡ Err x
  other_error x has =
      let f : Error → Result T Error = λ y. Err y in
      let same : e ≡ x = cc has in
      is ∙ ap f same

  pub error_back : (x : Error) → r ≡ Err x → ◌≡◌ {A = Result U Error} (Err e) (Err x)
  error_back x has =
      let f : Error → Result U Error = λ y. Err y in
      let same : e ≡ x = cc (is, has) in
      ap f same

  pub parts_refuse : (a b c : ℕ) → a ≤ b → PartsRefuse {T = U} (Err e) b c → PartsRefuse r a c
  parts_refuse a b c le (inl named) = inl (named.0, other_error (journal.InvalidBlobName named.0) named.1)
  parts_refuse a b c le (inr (inl damage)) = inr (inl (damage.0, other_error (journal.Corruption damage.0) damage.1))
  parts_refuse a b c le (inr (inr (inl refused))) = inr (inr (inl (refused.0, other_error (journal.Codec refused.0) refused.1)))
  parts_refuse a b c le (inr (inr (inr failed))) = inr (inr (inr (failed_before (failed_as {U = U} r e b c is failed) le)))

module _ {T : Type 0} (r : Result T Error) (a b : ℕ) where
  pub parts_cause : PartsRefuse r a b → OnErr r (Refuses r a b)
  parts_cause why = err_with r (inr (go why))
    where
      go : PartsRefuse r a b → Refusals r a b
      go (inl named) = inl named
      go (inr (inl damage)) = inr (inl damage)
      go (inr (inr (inl refused))) = inr (inr (inl refused))
      go (inr (inr (inr failed))) = inr (inr (inr (inl failed)))

  -- no copy is
  pub parts_corrupt : PartsRefuse r a b → (side : Side) → IsErrOf r (journal.Metadata (store.Corruption side)) → ⊥
  parts_corrupt (inl named) side has = cc (named.1, has)
  parts_corrupt (inr (inl damage)) side has = cc (damage.1, has)
  parts_corrupt (inr (inr (inl refused))) side has = cc (refused.1, has)
  parts_corrupt (inr (inr (inr (inl memory)))) side has = cc (memory, has)
  parts_corrupt (inr (inr (inr (inr fault)))) side has = cc (fault.0, has)

  -- where nothing is refused, the device failed or memory was short
  pub parts_give_up : PartsRefuse r a b → ((n : List ℕ) → IsErrOf r (journal.InvalidBlobName n) → ⊥) → ((x : Damage) → IsErrOf r (journal.Corruption x) → ⊥) → ((e : codec.Error) → IsErrOf r (journal.Codec e) → ⊥)
      → OnErr r (GivesUp r a b)
  parts_give_up why name damage codec = err_with r (go why)
    where
      go : PartsRefuse r a b → GivesUp r a b
      go (inl named) = absurd (name named.0 named.1)
      go (inr (inl lost)) = absurd (damage lost.0 lost.1)
      go (inr (inr (inl refused))) = absurd (codec refused.0 refused.1)
      go (inr (inr (inr failed))) = inl failed

-- ---- want of memory in a call of the markers, and a call of theirs that went well
pub memory_raised : {T U : Type 0} (e : meta.Error) → ◌≡◌ {A = Result U meta.Error} (Err e) (Err store.Mem) → ◌≡◌ {A = Result T Error} (Err (raised_metadata e)) (Err journal.Mem)
memory_raised {T = T} {U = U} e has =
    let f : meta.Error → Result T Error = λ x. Err (raised_metadata x) in
    let same : e ≡ store.Mem = cc has in
    ap f same

pub no_corruption : {T U : Type 0} (r : Result T Error) (e : meta.Error) → r ≡ Err (raised_metadata e) → ◌≡◌ {A = Result U meta.Error} (Err e) (Err store.Mem) → (side : Side) → IsErrOf r (journal.Metadata (store.Corruption side)) → ⊥
no_corruption {T = T} {U = U} r e is memory side has = cc (is ∙ memory_raised {T = T} {U = U} e memory, has)

pub no_refusal : {M : Type 0} (v : M) (e : meta.Error) (a b : ℕ) → (◌≡◌ {A = Result M meta.Error} (Ok v) (Err e)) ⊎ GaveUp {T = M} (Ok v) a b → ⊥
no_refusal v e a b (inl is) = cc is
no_refusal v e a b (inr (inl memory)) = cc memory
no_refusal v e a b (inr (inr fault)) = cc fault.0

-- an answer that is never an error
pub never : {T : Type 0} (r : Result T Error) (e : Error) → OnErr r ⊥ → r ≡ Err e → ⊥
never r e cause is = subst (λ x. OnErr x ⊥) is cause

pub never_cause : {T : Type 0} (r : Result T Error) → OnErr r ⊥ → (l : Layout) (from : Disk) (refusal : List ℕ → Unit {0} → Option codec.Error) → HasCause l from refusal r
never_cause r cause l from refusal = record {
  corrupt = λ side has. absurd (never r (journal.Metadata (store.Corruption side)) cause has);
  named = λ n has. absurd (never r (journal.InvalidBlobName n) cause has);
  damage = λ x has. absurd (never r (journal.Corruption x) cause has);
  refused = λ e has. absurd (never r (journal.Codec e) cause has);
}

-- ---- what the markers' map answers is handed on as it is
pub gave_up_as : {T U : Type 0} (r : Result T meta.Error) (e : meta.Error) (a b : ℕ) → r ≡ Err e → GaveUp {T = U} (Err e) a b → GaveUp r a b
gave_up_as {T = T} {U = U} r e a b is (inl memory) =
    let f : meta.Error → Result T meta.Error = λ x. Err x in
    let same : e ≡ store.Mem = cc memory in
    inl (is ∙ ap f same)
gave_up_as {T = T} {U = U} r e a b is (inr fault) =
    let f : meta.Error → Result T meta.Error = λ x. Err x in
    let same : e ≡ store.Runtime Fault = cc fault.0 in
    inr (is ∙ ap f same, fault.1)

pub refused_as : {T U : Type 0} (r : Result T meta.Error) (e x : meta.Error) (a b : ℕ) → r ≡ Err e → (◌≡◌ {A = Result U meta.Error} (Err e) (Err x)) ⊎ GaveUp {T = U} (Err e) a b → (r ≡ Err x) ⊎ GaveUp r a b
refused_as {T = T} {U = U} r e x a b is (inl has) =
    let f : meta.Error → Result T meta.Error = λ y. Err y in
    let same : e ≡ x = cc has in
    inl (is ∙ ap f same)
refused_as {T = T} {U = U} r e x a b is (inr gave) = inr (gave_up_as r e a b is gave)

pub match_err : {T E : Type 0} (r : Result T E) (e : E) (P : T → Type 0) (Q : Type 0) → r ≡ Err e → Q → MatchResult r P (λ x. Q)
match_err (Ok v) e P Q is has = absurd (cc is)
match_err (Err y) e P Q is has = has
