-- What is left of a glob where its sections were settled, cut, removed or opened.
use Rattle.std.specs.Prelude.{◌≡◌, ℕ, ◌<◌, ◌≤◌, min, ⊤, Bool, true, false, List, take, Option, None, Some, IsSome, IsSomeAnd}
use Rattle.std.proofs.Common.{inl, inr, refl, sym, ◌∙◌, ap, subst, arith}
use Rattle.std.proofs.lemmas.Bool.{cases_lt}
use Rattle.blob_device.specs.Disk.{Key, Blob, Disk}
use Rattle.blob_device.specs.Opened.{OpenedList}
use Rattle.std.specs.Option.{is_some}
use Rattle.blob_device.specs.Timeline.{Timeline, disk, Always, OnlyAt, Each}
use Rattle.blob_device.specs.lemmas.Moments.{always_weaker}
use Rattle.sealed_pages.specs.Cutting.{StandsSettled}
use Rattle.sealed_pages.specs.declared.write_blob.WriteBlob.{WriteBlob}
use Rattle.section_manager.specs.declared.unopened.Unopened.{Unopened}
use Rattle.section_manager.specs.declared.unopened.Unopened.TheVariants.{Section, Leftover}
use Rattle.section_manager.specs.Leaving.{Leaves, AllMoments}
use Rattle.section_manager.specs.Setting.{Setting}
use Rattle.section_manager.specs.Sections.{Sections, key_of, section_key, IsHeld, IsOver, IsSynced, IsCut}
use Rattle.section_manager.specs.Lasting.{Syncing, Cutting, Truncating, IsLonger, IsUnsettled}
use Rattle.section_manager.specs.unsealed.Buffer.{Stands, IsWhole, MayKeep, content_of, count_of, is_unsettled}
use Rattle.section_manager.specs.unsealed.Laws.{all_settled, rested, found_again}
use Rattle.paired.specs.glob.Lasting as lasting
use Rattle.paired.specs.glob.Sections.{section_bytes, HadPrefixes, HasSettled, IsAllSettled, IsGlob}
use Rattle.paired.proofs.GlobLemmas.{idle_takes, idle_behind, rested_prefixes, idle_serves}
use Rattle.blob_device.proofs.general.Options.{has_value, none_or_value}
use Rattle.paired.specs.lemmas.Glob.{Serves, buffers, glob_of, has_settled, held_bytes, idle_whole, outlasts_of, serves_of}

pub of_some : {T : Type 0} (o : Option T) (P : T → Type 0) (v : T) → o ≡ Some v → IsSomeAnd o P → P v
of_some {T = T} o P v is has = subst (λ (x : Option T). IsSomeAnd x P) is has

-- a call made the buffer v of u, over a blob that was x and is y
abbrev pub Steps : (told : Type 0) (u v : WriteBlob) (x y : Blob) → Type 0
Steps told u v x y = Serves told u x → Serves told v y

module _ {told : Type 0} (u v : WriteBlob) (x y : Blob) where
  pub step_same : v ≡ u → (told → y ≡ x) → Steps told u v x y
  step_same same blob before = subst (λ (w : WriteBlob). Serves told w y) (sym same) (record {
    ends = before.ends;
    behind = before.behind;
    whole = λ t. subst (IsWhole u) (sym (blob t)) (before.whole t);
    prefixes = λ t. subst (λ (b : Blob). HadPrefixes (content_of u b.content) b) (sym (blob t)) (before.prefixes t);
  })

  pub step_synced : IsSynced buffers told u v x y → Steps told u v x y
  step_synced synced before = record {
    ends = idle_takes v synced.done;
    behind = idle_behind v synced.done;
    whole = λ t. synced.whole t (before.whole t);
    prefixes = λ t. rested_prefixes v y (synced.rests t) (synced.again t (before.whole t));
  }

  pub step_cut : (n : ℕ) → IsCut buffers told n u v x y → Steps told u v x y
  step_cut n cut before = elim (cases_lt n (count_of u)) [
    | inl longer ↦ record {
      ends = idle_takes v (cut.done longer);
      behind = idle_behind v (cut.done longer);
      whole = λ t. cut.whole t (before.whole t);
      prefixes = λ t. rested_prefixes v y (cut.rests t longer) (cut.again t longer);
    }
    | inr within ↦ step_same (cut.same within) (λ t. cut.stays t within) before
  ]

module _ {F : Type 0} (gives : F → Setting) {told : Type 0} (m n : Sections F WriteBlob) (old new : OpenedList) (d e : Disk)
    (glob : IsGlob buffers gives told m old d) (over : IsOver buffers gives told n new e) (place : n.partition ≡ m.partition)
    (none : (s : ℕ) → m.held s ≡ None → n.held s ≡ None) where
  stays_key : (s : ℕ) → key_of n s ≡ key_of m s
  stays_key s = ap (λ (p : List ℕ). section_key p s) place

  -- the sections are a glob again where each buffer comes from that of the same section
  pub glob_steps : ((s : ℕ) (u v : WriteBlob) → m.held s ≡ Some u → n.held s ≡ Some v → Steps told u v (d (key_of m s)) (e (key_of m s)))
      → (told → (s : ℕ) → IsSome (n.unopened s) → n.ceiling < s) → IsGlob buffers gives told n new e
  glob_steps steps unopened = glob_of n new e over
      (λ s v held. elim (none_or_value (m.held s)) [
        | inl absent ↦ absurd (cc (held, none s absent))
        | inr was ↦ subst (λ (k : Key). Serves told v (e k)) (sym (stays_key s)) (steps s was.0 v was.1 held (serves_of gives m old d glob s was.0 was.1))
      ])
      unopened

  module _ (s : ℕ) (u v : WriteBlob) (was : m.held s ≡ Some u) (is : n.held s ≡ Some v) where
    settled_as : StandsSettled (e (key_of m s)) → (e (key_of m s)).content ≡ content_of v (e (key_of m s)).content → HasSettled n e s
    settled_as rests again = has_settled n e s v is (subst (λ (k : Key). StandsSettled (e k)) (sym (stays_key s)) rests)
        (subst (λ (k : Key). (e k).content ≡ content_of v (e k).content) (sym (stays_key s)) again)

    pub synced_bytes : told → IsSynced buffers told u v (d (key_of m s)) (e (key_of m s)) → section_bytes n e s ≡ section_bytes m d s
    synced_bytes t synced = held_bytes n e s v is ∙ ap (λ (k : Key). content_of v (e k).content) (stays_key s) ∙ synced.bytes t ∙ sym (held_bytes m d s u was)

    pub synced_settled : told → IsSynced buffers told u v (d (key_of m s)) (e (key_of m s)) → HasSettled n e s
    synced_settled t synced = settled_as (synced.rests t) (synced.again t (glob.whole t s u was))

    pub synced_all : IsSynced buffers told u v (d (key_of m s)) (e (key_of m s)) → IsAllSettled n s
    synced_all synced = has_value (n.held s) (λ w. (w.settled ≡ count_of w) × (is_unsettled w ≡ false)) v is (synced.settled ∙ sym synced.size, synced.done)

    module _ (size : ℕ) (cut : IsCut buffers told size u v (d (key_of m s)) (e (key_of m s))) where
      pub cut_bytes : told → section_bytes n e s ≡ take size (section_bytes m d s)
      cut_bytes t = held_bytes n e s v is ∙ ap (λ (k : Key). content_of v (e k).content) (stays_key s) ∙ cut.bytes t ∙ ap (take size) (sym (held_bytes m d s u was))

      longer_than : IsLonger buffers m s size → size < count_of u
      longer_than longer = of_some (m.held s) (λ w. size < count_of w) u was longer

      pub cut_settled : told → IsLonger buffers m s size → HasSettled n e s
      cut_settled t longer = settled_as (cut.rests t (longer_than longer)) (cut.again t (longer_than longer))

      pub cut_all : IsLonger buffers m s size → IsAllSettled n s
      cut_all longer = has_value (n.held s) (λ w. (w.settled ≡ count_of w) × (is_unsettled w ≡ false)) v is
          (omega (arith, cut.settled (longer_than longer), cut.size, longer_than longer), cut.done (longer_than longer))

module _ {F : Type 0} (gives : F → Setting) {told : Type 0} (m : Sections F WriteBlob) (old : OpenedList) (d : Disk) (glob : IsGlob buffers gives told m old d) (t : told) where
  stood : (s : ℕ) (u : WriteBlob) (q : Key) → m.held s ≡ Some u → q ≡ key_of m s → Stands u (d q)
  stood s u q held is = subst (λ (k : Key). Stands u (d k)) (sym is) ((glob.over.disk t).stands s u held)

  serves_at : (s : ℕ) (u : WriteBlob) (q : Key) → m.held s ≡ Some u → q ≡ key_of m s → Serves told u (d q)
  serves_at s u q held is = subst (λ (k : Key). Serves told u (d k)) (sym is) (serves_of gives m old d glob s u held)

  -- each crash leaves the section's first bytes, as many as the buffer's promise keeps, and behind them only what its bytes make
  pub crash_keeps : (s : ℕ) (u : WriteBlob) (q : Key) (b : Blob) (least : ℕ) → m.held s ≡ Some u → q ≡ key_of m s → least ≤ u.settled
      → Leaves (λ _ _. ⊤) (MayKeep u (d q) least) b → lasting.Outlasts (take least (content_of u (d q).content)) (content_of u (d q).content) b
  crash_keeps s u q b least held is few leaves = outlasts_of u (d q) b least (stood s u q held is) (serves_at s u q held is) t few leaves

  pub settling_of : (Named : ℕ → Type 0) (q : Key) (b : Blob) → Syncing buffers m Named d q b → lasting.Settling m Named d q b
  settling_of Named q b syncing = record {
    named = λ s u is held key. crash_keeps s u q b u.settled held key (omega arith) (syncing.named s u is held key);
    others = syncing.others;
  }

  pub cutting_of : (size_of : ℕ → Option ℕ) (q : Key) (b : Blob) → Cutting buffers m size_of d q b → lasting.Cutting m size_of d q b
  cutting_of size_of q b cutting = record {
    shortened = λ s n u is held key. crash_keeps s u q b (min u.settled n) held key (omega arith) (cutting.shortened s n u is held key);
    others = cutting.others;
  }

  pub truncating_of : (target n : ℕ) (e : Disk) → Truncating buffers m target n d e → lasting.Truncating m target n d e
  truncating_of target n e truncating = record {
    later = truncating.later;
    cut = λ u held. crash_keeps target u (key_of m target) (e (key_of m target)) (min u.settled n) held refl (omega arith) (truncating.cut u held);
    last = truncating.last;
    others = truncating.others;
  }

-- what the manager's calls leave at every moment, in bytes
module _ {F : Type 0} (gives : F → Setting) {told : Type 0} (m : Sections F WriteBlob) (old : OpenedList) (a b : Timeline) (glob : IsGlob buffers gives told m old (disk a)) (t : told) where
  pub settling_moments : (Named : ℕ → Type 0) → Always a b (Each (Syncing buffers m Named (disk a))) → Always a b (Each (lasting.Settling m Named (disk a)))
  settling_moments Named = always_weaker a b (Each (Syncing buffers m Named (disk a))) (Each (lasting.Settling m Named (disk a)))
      (λ d each q. settling_of gives m old (disk a) glob t Named q (d q) (each q))

  pub cutting_moments : (size_of : ℕ → Option ℕ) → Always a b (Each (Cutting buffers m size_of (disk a))) → Always a b (Each (lasting.Cutting m size_of (disk a)))
  cutting_moments size_of = always_weaker a b (Each (Cutting buffers m size_of (disk a))) (Each (lasting.Cutting m size_of (disk a)))
      (λ d each q. cutting_of gives m old (disk a) glob t size_of q (d q) (each q))

  pub truncating_moments : (target n : ℕ) → Always a b (Truncating buffers m target n (disk a)) → Always a b (lasting.Truncating m target n (disk a))
  truncating_moments target n = always_weaker a b (Truncating buffers m target n (disk a)) (lasting.Truncating m target n (disk a)) (truncating_of gives m old (disk a) glob t target n)

  -- of one section that is cut
  pub one_moments : (s n : ℕ) → AllMoments (key_of m s) (λ x. (u : WriteBlob) → m.held s ≡ Some u → Leaves (λ _ _. ⊤) (MayKeep u (disk a (key_of m s)) (min u.settled n)) x) a b
      → AllMoments (key_of m s) (λ x. (u : WriteBlob) → m.held s ≡ Some u → lasting.Outlasts (lasting.settled_to n u (disk a (key_of m s)).content) (content_of u (disk a (key_of m s)).content) x) a b
  one_moments s n = always_weaker a b (OnlyAt (key_of m s) (disk a) (λ x. (u : WriteBlob) → m.held s ≡ Some u → Leaves (λ _ _. ⊤) (MayKeep u (disk a (key_of m s)) (min u.settled n)) x))
      (OnlyAt (key_of m s) (disk a) (λ x. (u : WriteBlob) → m.held s ≡ Some u → lasting.Outlasts (lasting.settled_to n u (disk a (key_of m s)).content) (content_of u (disk a (key_of m s)).content) x))
      (λ d only. record { here = λ u held. crash_keeps gives m old (disk a) glob t s u (key_of m s) (d (key_of m s)) (min u.settled n) held refl (omega arith) (only.here u held); others = only.others })

-- what is unopened stays above the ceiling
pub same_unopened : {F : Type 0} (gives : F → Setting) {told : Type 0} (m n : Sections F WriteBlob) (old : OpenedList) (d : Disk) → IsGlob buffers gives told m old d
    → n.ceiling ≡ m.ceiling → ((s : ℕ) → n.unopened s ≡ m.unopened s) → told → (s : ℕ) → IsSome (n.unopened s) → n.ceiling < s
same_unopened gives m n old d glob ceiling same t s some = omega (arith, ceiling, glob.unopened t s (subst IsSome (same s) some))

not_true : (b : Bool) → (b ≡ true → ⊥) → b ≡ false
not_true true never = absurd (never refl)
not_true false never = refl

pub none_unsettled : {F : Type 0} (m : Sections F WriteBlob) (s : ℕ) (u : WriteBlob) → m.held s ≡ Some u → (IsUnsettled buffers m s → ⊥) → is_unsettled u ≡ false
none_unsettled m s u held none = not_true (is_unsettled u) (λ yes. none (has_value (m.held s) (λ w. is_unsettled w ≡ true) u held yes))

-- a glob that was opened: nothing is unsettled
module _ {F : Type 0} (gives : F → Setting) {told : Type 0} (m : Sections F WriteBlob) (opened : OpenedList) (d : Disk) (over : IsOver buffers gives told m opened d)
    (idle : (s : ℕ) (u : WriteBlob) → m.held s ≡ Some u → is_unsettled u ≡ false) where
  pub opened_glob : (told → (s : ℕ) → IsSome (m.unopened s) → m.ceiling < s) → IsGlob buffers gives told m opened d
  opened_glob unopened = glob_of m opened d over (λ s u held. idle_serves u (d (key_of m s)) (λ t. (over.disk t).stands s u held) (idle s u held)) unopened

  pub opened_settled : told → (s : ℕ) → IsHeld m s → HasSettled m d s
  opened_settled t s held = elim (none_or_value (m.held s)) [
    | inl none ↦ absurd (cc (held, ap is_some none))
    | inr some ↦
        let u = some.0 in
        let stands = (over.disk t).stands s u some.1 in
        let quiet = idle s u some.1 in
        has_settled m d s u some.1 (rested u (d (key_of m s)) stands quiet) (found_again u (d (key_of m s)) stands (idle_whole u (d (key_of m s)) stands quiet) quiet)
  ]

  pub opened_all : (s : ℕ) → IsHeld m s → IsAllSettled m s
  opened_all s held = elim (none_or_value (m.held s)) [
    | inl none ↦ absurd (cc (held, ap is_some none))
    | inr some ↦ has_value (m.held s) (λ w. (w.settled ≡ count_of w) × (is_unsettled w ≡ false)) some.0 some.1 (all_settled some.0 (idle s some.0 some.1), idle s some.0 some.1)
  ]

-- what is no leftover is a section
pub no_leftover : (o : Option Unopened) (P : Type 0) → IsSome o → (o ≡ Some Leftover → ⊥) → (o ≡ Some Section → P) → P
no_leftover None P some never so = absurd (cc some)
no_leftover (Some Section) P some never so = so refl
no_leftover (Some Leftover) P some never so = absurd (never refl)
