-- What the end of an opening answers where one of its calls failed.
use Rattle.std.proofs.Common.{◌≡◌, ◌↔◌, ◌⊎◌, inl, inr, ℕ, ◌-◌, ◌*◌, ◌/◌, ◌^◌, ◌<◌, ◌≤◌, min, take, unwrap_or, List, [], length, get_or, Option, Result, Ok, Err, IfOk, OnOk, OnErr, sym, ◌∙◌, ap, subst, arith, length-take}
use Rattle.std.specs.Result.{IsErrOf}
use Rattle.std.proofs.lemmas.Bool.{cases_lt}
use Rattle.std.proofs.lemmas.List.{get_or-take, take_all}
use Rattle.std.proofs.lemmas.Nat.{le-div}
use Rattle.blob_device.specs.Disk.{Disk}
use Rattle.blob_device.specs.Opened.{OpenedList}
use Rattle.blob_device.specs.declared.runtime.RError.TheVariants.{InvalidChecksum}
use Rattle.sealed_pages.specs.declared.page_blob.PageBlob.{PageBlob}
use Rattle.sealed_pages.specs.Shown.{shown}
use Rattle.section_manager.specs.declared.buffer.SectionBuffer as buffer
use Rattle.section_manager.specs.declared.unsealed.WriteFactory.{WriteFactory}
use Rattle.section_manager.specs.declared.journal.Damage.{Damage}
use Rattle.section_manager.specs.declared.journal.Error.{Error}
use Rattle.section_manager.specs.declared.journal.Error.TheVariants.{Codec, Corruption, Full, Mem, ReplayFailed, Runtime}
use Rattle.section_manager.specs.Refusing.{HasDamage, HasFailed}
use Rattle.section_manager.specs.Sections.{key_of}
use Rattle.section_manager.specs.SealedLaws.{counted as index_counted}
use Rattle.section_manager.specs.Setting.{Setting}
use Rattle.segments.specs.FixedLists.{Lists}
use Rattle.segments.specs.FixedLists as fixed
use Rattle.segments.specs.FixedReading.{HasNotRead}
use Rattle.value_codec.specs.declared.codec.Error as codec
use Rattle.paired.specs.glob.Sections as glob
use Rattle.paired.specs.OpeningRefusing.{place_end}
use Rattle.paired.specs.Places.{last_end}
use Rattle.paired.specs.PairRefusing.{HasLostMarkers}
use Rattle.paired.specs.Reconciling.{IsEndWithin}
use Rattle.paired.specs.Replaying.{Run, IsVouchedFor, marker, records_over, records_given}
use Rattle.paired.proofs.FailLemmas.{failed_as}
use Rattle.paired.specs.lemmas.Glob.{section_counted}
use Rattle.paired.specs.lemmas.Kept.{sound_parts}
use Rattle.paired.specs.lemmas.opening.Ends.{marked_is, marked_or_zero}
use Rattle.paired.specs.lemmas.reconcile.Start.{Drained, GaveBack, end_of, given_all, given_good, given_to, none_left, opening, over_records, walk_unfailed}
use Rattle.paired.proofs.pair.Failing.{failed_before}
use Rattle.paired.specs.lemmas.Records.{last_end_at, length-records, no_end}
use Rattle.blob_device.proofs.general.Options.{none_or_value}
use Rattle.blob_device.proofs.general.Results.{err_with}

abbrev answer : (T : Type 0) → Error → Result T Error
answer T e = Err e

same_error : {T : Type 0} (e x : Error) → answer T e ≡ answer T x → e ≡ x
same_error e x is = cc is

-- an error that is handed on
pub handed_on : {T U : Type 0} (r : Result T Error) (e x : Error) → r ≡ Err e → IsErrOf {T = U} (Err e) x → IsErrOf r x
handed_on {T = T} {U = U} r e x is has = is ∙ ap (answer T) (same_error {T = U} e x has)

pub handed_back : {T U : Type 0} (r : Result T Error) (e x : Error) → r ≡ Err e → IsErrOf r x → IsErrOf {T = U} (Err e) x
handed_back {T = T} {U = U} r e x is has = ap (answer U) (same_error {T = T} e x (sym is ∙ has))

pub no_ok : {T : Type 0} (r : Result T Error) (e : Error) → r ≡ Err e → OnOk r ⊥
no_ok {T = T} r e is = subst (λ (x : Result T Error). OnOk x ⊥) (sym is) tt

pub on_error : {T : Type 0} {P : Type 0} (r : Result T Error) → P → OnErr r P
on_error r p = err_with r p

-- ---- errors that are no refusals
module _ {T : Type 0} (r : Result T Error) where
  -- why the call ended
  abbrev pub Cause : ℕ → ℕ → Type 0
  Cause a b = (r ≡ Err ReplayFailed) ⊎ (IsErrOf r Full ⊎ (HasLostMarkers r a b ⊎ (((x : Damage) × IsErrOf r (Corruption x)) ⊎ HasNotRead r a b)))

  -- where it told its disk and that was lawful
  abbrev pub Complete : ℕ → ℕ → Type 0
  Complete a b = (r ≡ Err ReplayFailed) ⊎ (IsErrOf r Full ⊎ (HasFailed r a b ⊎ HasLostMarkers r a b))

  module _ (a b : ℕ) (failed : HasFailed r a b) where
    pub failed_replay : r ≡ Err ReplayFailed → ⊥
    failed_replay is = elim failed [ inl memory ↦ absurd (cc (memory, is)) | inr fault ↦ absurd (cc (fault.0, is)) ]

    pub failed_full : IsErrOf r Full → ⊥
    failed_full is = elim failed [ inl memory ↦ absurd (cc (memory, is)) | inr fault ↦ absurd (cc (fault.0, is)) ]

    pub failed_codec : (e : codec.Error) → IsErrOf r (Codec e) → ⊥
    failed_codec e is = elim failed [ inl memory ↦ absurd (cc (memory, is)) | inr fault ↦ absurd (cc (fault.0, is)) ]

    pub failed_corrupt : (x : Damage) → IsErrOf r (Corruption x) → ⊥
    failed_corrupt x is = elim failed [ inl memory ↦ absurd (cc (memory, is)) | inr fault ↦ absurd (cc (fault.0, is)) ]

    pub failed_damage : HasDamage r → ⊥
    failed_damage is = elim failed [ inl memory ↦ absurd (cc (memory, is.1)) | inr fault ↦ absurd (cc (fault.0, is.1)) ]

    pub failed_cause : OnErr r (Cause a b)
    failed_cause = err_with r (inr (inr (inr (inr (inr (inr failed))))))

    pub failed_complete : OnErr r (Complete a b)
    failed_complete = err_with r (inr (inr (inl failed)))

  -- one that is a failure or finds damage
  module _ (a b : ℕ) (why : HasDamage r ⊎ HasFailed r a b) where
    pub damaged_replay : r ≡ Err ReplayFailed → ⊥
    damaged_replay is = elim why [ inl damage ↦ absurd (cc (damage.1, is)) | inr failed ↦ failed_replay a b failed is ]

    pub damaged_full : IsErrOf r Full → ⊥
    damaged_full is = elim why [ inl damage ↦ absurd (cc (damage.1, is)) | inr failed ↦ failed_full a b failed is ]

    pub damaged_codec : (e : codec.Error) → IsErrOf r (Codec e) → ⊥
    damaged_codec e is = elim why [ inl damage ↦ absurd (cc (damage.1, is)) | inr failed ↦ failed_codec a b failed e is ]

    pub damaged_corrupt : (x : Damage) → IsErrOf r (Corruption x) → ⊥
    damaged_corrupt x is = elim why [ inl damage ↦ absurd (cc (damage.1, is)) | inr failed ↦ failed_corrupt a b failed x is ]

    pub damaged_cause : OnErr r (Cause a b)
    damaged_cause = err_with r (inr (inr (inr (inr (elim why [ inl damage ↦ inl damage | inr failed ↦ inr (inr failed) ])))))

    pub damaged_complete : (HasDamage r → ⊥) → OnErr r (Complete a b)
    damaged_complete none = err_with r (elim why [ inl damage ↦ absurd (none damage) | inr failed ↦ inr (inr (inl failed)) ])

  -- one of the markers
  module _ (a b c : ℕ) (le : a ≤ b) where
    pub marks_complete : OnErr r (IsErrOf r Full ⊎ (HasFailed r b c ⊎ HasLostMarkers r b c)) → OnErr r (Complete a c)
    marks_complete why = go r why
      where
        go : (x : Result T Error) → OnErr x (IsErrOf x Full ⊎ (HasFailed x b c ⊎ HasLostMarkers x b c)) → OnErr x ((x ≡ Err ReplayFailed) ⊎ (IsErrOf x Full ⊎ (HasFailed x a c ⊎ HasLostMarkers x a c)))
        go (Ok v) is = tt
        go (Err e) (inl full) = inr (inl full)
        go (Err e) (inr (inl failed)) = inr (inr (inl (failed_before failed le)))
        go (Err e) (inr (inr lost)) = inr (inr (inr (lost.0, omega (arith, le, lost.1))))

    pub marks_cause : OnErr r (IsErrOf r Full ⊎ (HasFailed r b c ⊎ HasLostMarkers r b c)) → OnErr r (Cause a c)
    marks_cause why = go r why
      where
        go : (x : Result T Error) → OnErr x (IsErrOf x Full ⊎ (HasFailed x b c ⊎ HasLostMarkers x b c))
            → OnErr x ((x ≡ Err ReplayFailed) ⊎ (IsErrOf x Full ⊎ (HasLostMarkers x a c ⊎ (((y : Damage) × IsErrOf x (Corruption y)) ⊎ HasNotRead x a c))))
        go (Ok v) is = tt
        go (Err e) (inl full) = inr (inl full)
        go (Err e) (inr (inl failed)) = inr (inr (inr (inr (inr (inr (failed_before failed le))))))
        go (Err e) (inr (inr lost)) = inr (inr (inl (lost.0, omega (arith, le, lost.1))))

-- ---- a refusal that is handed on
module _ {T U : Type 0} (r : Result T Error) (e : Error) (is : r ≡ Err e) (a b c : ℕ) (le : a ≤ b) where
  pub failed_on : HasFailed {T = U} (Err e) b c → HasFailed r a c
  failed_on failed = failed_before (failed_as r e b c is failed) le

  pub memory_on : IsErrOf {T = U} (Err e) Mem → HasFailed r a c
  memory_on memory = inl (handed_on r e Mem is memory)

  pub damaged_on : HasDamage {T = U} (Err e) ⊎ HasFailed {T = U} (Err e) b c → HasDamage r ⊎ HasFailed r a c
  damaged_on (inl damage) = inl (damage.0, handed_on r e (Runtime (InvalidChecksum damage.0)) is damage.1)
  damaged_on (inr failed) = inr (failed_on failed)

-- a refusal of the whole
pub replay_or_not : {T : Type 0} (r : Result T Error) (P Q R : Type 0) → (r ≡ Err ReplayFailed → ⊥) → (P → ⊥) → (Q → ⊥) → (R → ⊥) → (r ≡ Err ReplayFailed) ↔ (P ⊎ (Q ⊎ R))
replay_or_not r P Q R never no_p no_q no_r = (
  λ is. absurd (never is),
  λ any. elim any [
    | inl p ↦ absurd (no_p p)
    | inr more ↦ elim more [ inl q ↦ absurd (no_q q) | inr w ↦ absurd (no_r w) ]
  ],
)

-- ---- what the disk excludes

module _ {F S : Type 0} {gs : _} {g : buffer.Ghosts (PageBlob S gs)} {gives : F → Setting} {takes : WriteFactory → Setting} {told : Type 0} {run : Run F (PageBlob S gs)} {o : OpenedList} {d : Disk} (e : Drained g gives takes told run o d) (t : told)
    (j : Lists F (PageBlob S gs)) (back : GaveBack run j) where
  -- a record that was given stands where it did
  given_here : (s q : ℕ) → q < length (records_given run d s) → (get_or (records_given run d s) q [] ≡ get_or (records_over run d s) q []) × (q < length (records_over run d s))
  given_here s q lt = elim (none_or_value (run.ends.at s)) [
    | inl none ↦ (ap (λ (rs : List (List ℕ)). get_or rs q []) (given_all e t s none), omega (arith, lt, ap length (given_all e t s none)))
    | inr some ↦
        let same = given_to e t s some.0 some.1 in
        let less : q < some.0 = omega (arith, lt, ap length same, length-take some.0 (records_over run d s)) in
        (ap (λ (rs : List (List ℕ)). get_or rs q []) same ∙ get_or-take some.0 (records_over run d s) q [] less, omega (arith, lt, ap length same, length-take some.0 (records_over run d s)))
  ]

  -- a section has its marker's records, and they are given
  marker_given : (s : ℕ) → marker run s ≤ length (records_given run d s)
  marker_given s = elim (none_or_value (run.ends.at s)) [
    | inl none ↦ omega (arith, over, ap length (given_all e t s none))
    | inr some ↦ omega (arith, (end_of e t s some.0 some.1).from, (end_of e t s some.0 some.1).within, ap length (given_to e t s some.0 some.1), length-take some.0 (records_over run d s))
  ]
    where
      sized : length (fixed.section_bytes j.sections d s) ≡ fixed.section_size j.sections s
      sized = elim (none_or_value (j.sections.held s)) [
        | inl none ↦ ap (λ (x : Option (PageBlob S gs)). length (fixed.bytes_held x (d (key_of j.sections s)).content)) none ∙ sym (ap (λ (x : Option (PageBlob S gs)). fixed.size_held x) none)
        | inr some ↦ ap (λ (x : Option (PageBlob S gs)). length (fixed.bytes_held x (d (key_of j.sections s)).content)) some.1 ∙ index_counted (shown some.0) (d (key_of j.sections s)).content
            ∙ sym (ap (λ (x : Option (PageBlob S gs)). fixed.size_held x) some.1)
      ]

      over : marker run s ≤ length (records_over run d s)
      over =
          let reached : marker run s * run.layout.record_size ≤ fixed.section_size j.sections s =
          subst (λ m. marker run s * run.layout.record_size ≤ fixed.section_size m s) (sym back.sections) (omega (arith, (opening e).floors s, (opening e).reached (walk_unfailed e) s)) in
          let few : marker run s ≤ length (fixed.section_bytes j.sections d s) / run.layout.record_size = le-div (marker run s) (length (fixed.section_bytes j.sections d s)) run.layout.record_size (omega (arith, e.here.some)) (omega (arith, reached, sized)) in
          omega (arith, few, length-records run.layout.record_size (fixed.section_bytes j.sections d s), ap length (over_records e j back t s))

  -- the last record that was given ends within the values
  last_ends : (s : ℕ) → 0 < length (records_given run d s) → place_end run.layout.place (get_or (records_given run d s) (length (records_given run d s) - 1) []) ≤ glob.section_size run.values s
  last_ends s some =
      let last : ℕ = length (records_given run d s) - 1 in
      let lt : last < length (records_given run d s) = omega (arith, some) in
      let here = given_here s last lt in
      elim (given_good e t s last lt) [
        | inr sound ↦ omega (
          arith,
          (sound_parts run.layout.seal (glob.section_bytes run.values d s) (run.layout.place (get_or (records_given run d s) last [])).0 (run.layout.place (get_or (records_given run d s) last [])).1 sound).1,
          section_counted takes run.values o d e.over.values t s,
        )
        | inl below ↦ elim (marked_or_zero run.store.entries s) [
          | inr nil ↦ absurd (omega (arith, below, nil))
          | inl is ↦
              let vouched : IsVouchedFor run d = (opening e).vouched t in
              let m : ℕ = is.0 in
              let same : marker run s ≡ m = marked_is run.store.entries s m is.1 in
              let exact : m - 1 ≡ last = omega (arith, below, same, marker_given s, some) in
              let ends : place_end run.layout.place (get_or (records_over run d s) (m - 1) []) ≤ glob.section_size run.values s = vouched.bounded s m is.1 (omega (arith, below, same)) (omega (arith, same, marker_given s, here.1, exact, some)) in
              subst (λ (r : List ℕ). place_end run.layout.place r ≤ glob.section_size run.values s) (sym here.0) (subst (λ (q : ℕ). place_end run.layout.place (get_or (records_over run d s) q []) ≤ glob.section_size run.values s) exact ends)
        ]
      ]

  -- so it is known where the values of what was given end
  pub values_end : (s : ℕ) → IsEndWithin (last_end run.layout.place (records_given run d s)) (glob.section_size run.values s) (unwrap_or (run.ends.values s) 0)
  values_end s =
      let given : List (List ℕ) = records_given run d s in
      let all : take (length given) given ≡ given = take_all (length given) given (omega arith) in
      record {
        counted = ((opening e).checked t).values e.unfailed s (length given) (record { within = omega arith; past = λ q lt left. none_left e s q left; left = λ q le lt. absurd (omega (arith, le, lt)) })
            ∙ ap (λ (rs : List (List ℕ)). min (last_end run.layout.place rs) (2 ^ 64 - 1)) all;
        within = elim (cases_lt 0 (length given)) [
          | inl some ↦ omega (arith, last_end_at run.layout.place given (length given - 1) (omega (arith, some)), last_ends s some)
          | inr none ↦ omega (arith, no_end run.layout.place given (omega (arith, none)))
        ];
      }

-- nothing is said of an answer that there is not
pub if_err : {T : Type 0} (r : Result T Error) (e : Error) → r ≡ Err e → (P : T → Type 0) → IfOk r P
if_err {T = T} r e is P = subst (λ (x : Result T Error). IfOk x P) (sym is) tt

-- the markers' call gives no error of another part
module _ {T : Type 0} (r : Result T Error) (a b : ℕ) where
  abbrev MarksFailed : Result T Error → Type 0
  MarksFailed x = IsErrOf x Full ⊎ (HasFailed x a b ⊎ HasLostMarkers x a b)

  pub marked_no_replay : OnErr r (MarksFailed r) → r ≡ Err ReplayFailed → ⊥
  marked_no_replay why is = go r why is
    where
      go : (x : Result T Error) → OnErr x (MarksFailed x) → x ≡ Err ReplayFailed → ⊥
      go (Ok v) cause has = absurd (cc has)
      go (Err w) (inl full) has = absurd (cc (full, has))
      go (Err w) (inr (inl failed)) has = failed_replay (Err w) a b failed has
      go (Err w) (inr (inr lost)) has = absurd (cc (lost.0, has))

  pub marked_no_codec : (e : codec.Error) → OnErr r (MarksFailed r) → IsErrOf r (Codec e) → ⊥
  marked_no_codec e why is = go r why is
    where
      go : (x : Result T Error) → OnErr x (MarksFailed x) → IsErrOf x (Codec e) → ⊥
      go (Ok v) cause has = absurd (cc has)
      go (Err w) (inl full) has = absurd (cc (full, has))
      go (Err w) (inr (inl failed)) has = failed_codec (Err w) a b failed e has
      go (Err w) (inr (inr lost)) has = absurd (cc (lost.0, has))

  pub marked_no_corrupt : (d : Damage) → OnErr r (MarksFailed r) → IsErrOf r (Corruption d) → ⊥
  marked_no_corrupt d why is = go r why is
    where
      go : (x : Result T Error) → OnErr x (MarksFailed x) → IsErrOf x (Corruption d) → ⊥
      go (Ok v) cause has = absurd (cc has)
      go (Err w) (inl full) has = absurd (cc (full, has))
      go (Err w) (inr (inl failed)) has = failed_corrupt (Err w) a b failed d has
      go (Err w) (inr (inr lost)) has = absurd (cc (lost.0, has))

  pub marked_no_damage : OnErr r (MarksFailed r) → HasDamage r → ⊥
  marked_no_damage why is = go r why is
    where
      go : (x : Result T Error) → OnErr x (MarksFailed x) → HasDamage x → ⊥
      go (Ok v) cause has = absurd (cc has.1)
      go (Err w) (inl full) has = absurd (cc (full, has.1))
      go (Err w) (inr (inl failed)) has = failed_damage (Err w) a b failed has
      go (Err w) (inr (inr lost)) has = absurd (cc (lost.0, has.1))
