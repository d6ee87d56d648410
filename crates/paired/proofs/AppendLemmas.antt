-- What adding bytes at the end of a section's buffer leaves of it, and of a section that was made for it.
use Rattle.std.specs.Prelude.{◌≡◌, ◌⊎◌, ℕ, ◌+◌, ◌-◌, ◌^◌, ◌<◌, ◌≤◌, ◌++◌, max, cond, Bool, true, false, List, [], ◌∷◌, length, Option, None, Some}
use Rattle.std.proofs.Common.{inl, inr, refl, ◌∙◌, ap, arith, subst, IsSome, sym}
use Rattle.std.specs.Option.{is_some}
use Rattle.std.specs.Prelude.{IsSomeAnd, MatchOption, MatchResult, IfSome, Result, Ok, Err, IfOk, OnErr}
use Rattle.std.proofs.lemmas.Bool.Decides.{nat_tests}
use Rattle.std.proofs.lemmas.Bool.{cases_lt}
use Rattle.std.specs.Result.{is_ok, IsErrOf}
use Rattle.blob_device.specs.declared.runtime.RError.{RError}
use Rattle.blob_device.specs.declared.runtime.RError.TheVariants.{OffsetOverflow, Fault}
use Rattle.blob_device.specs.declared.runtime.RError.TheVariants.{Mem as RMem}
use Rattle.section_manager.specs.declared.journal.Error.{Error}
use Rattle.section_manager.specs.declared.journal.Error.TheVariants as journal
use Rattle.section_manager.specs.declared.journal.Error.TheVariants.{Full, Runtime}
use Rattle.section_manager.specs.Raised.{raised}
use Rattle.blob_device.specs.Disk.{Key, Blob, Disk, Outside}
use Rattle.blob_device.specs.Change.{Make, done}
use Rattle.blob_device.specs.Opened.{Opened, OpenedList}
use Rattle.blob_device.specs.Timeline.{Timeline, disk, OnlyAt}
use Rattle.blob_device.specs.lemmas.Moments.{always_start, always_then, always_weaker, always_now}
use Rattle.sealed_pages.specs.declared.write_blob.WriteBlob.{WriteBlob}
use Rattle.sealed_pages.specs.Contents.{KeepsAll, AddsOnly}
use Rattle.sealed_pages.specs.Sparing.{Sparing}
use Rattle.sealed_pages.specs.unsealed.Writing.{shown, blob_key, run_of, Joins, HoldsOnly, StaysBelow, is_idle}
use Rattle.paired.specs.lemmas.Glob.{Serves, buffers, held_bytes, kept_prefix, no_bytes, outlasts_of, serves_of}
use Rattle.sealed_pages.specs.lemmas.unsealed.Content.{adds_keep, keeps_now}
use Rattle.section_manager.specs.lemmas.buffers.UnsealedCalls.{crash_keeps, prefix_itself}
use Rattle.section_manager.specs.Prefixes.{IsPrefixOf}
use Rattle.section_manager.specs.Leaving.{AllMoments}
use Rattle.section_manager.specs.Lasting.{IsOpening}
use Rattle.section_manager.specs.Setting.{Setting}
use Rattle.section_manager.specs.Sections.{Sections, key_of}
use Rattle.section_manager.specs.unsealed.Buffer.{Stands, IsWhole, KeepsBytes, content_of, count_of, is_unsettled}
use Rattle.section_manager.specs.unsealed.Laws.{passes, idle_parts}
use Rattle.paired.specs.glob.Lasting.{Outlasts, IsBeginning, settled_bytes}
use Rattle.paired.specs.glob.Sections.{section_bytes, section_size, settled_size, size_held, settled_held, HadPrefixes, TakesMore, IsGlob}
use Rattle.paired.proofs.GlobLemmas.{prefix_longer, prefixes_longer, idle_serves}
use Rattle.blob_device.specs.Lengths.{length-written}
use Rattle.blob_device.proofs.general.Options.{none_or_value}

outside_none : (at n i : ℕ) → n ≡ 0 → (i < at) ⊎ (at + n ≤ i)
outside_none at n i none = elim (cases_lt i at) [
  | inl below ↦ inl below
  | inr beyond ↦ inr (omega (arith, none, beyond))
]

idle_or_joins : (u : WriteBlob) → u.pending.items ≡ [] → TakesMore u
idle_or_joins u none = elim (cases_lt u.end u.at) [
  | inl beyond ↦ inl (record { low = omega (arith, beyond); high = omega (arith, beyond, ap length none) })
  | inr within ↦ inr (grind (arith, nat_tests, within, ap length none))
]

module _ (u v : WriteBlob) (bytes : List ℕ) (size : count_of v ≡ count_of u + length bytes) (run : HoldsOnly (shown u) (count_of u) bytes (shown v)) where
  pub appended_takes : TakesMore v
  appended_takes = elim run [
    | inl joined ↦
        let long : length v.pending.items ≡ max (length u.pending.items) (count_of u - u.at + length bytes) = ap length joined.2 ∙ length-written u.pending.items (count_of u - u.at) bytes in
        inl (record { low = omega (arith, size, joined.1, joined.0.low); high = omega (arith, size, joined.1, joined.0.low, long) })
    | inr other ↦ elim other [
      | inl alone ↦ inl (record { low = omega (arith, size, alone.0); high = omega (arith, size, alone.0, ap length alone.1) })
      | inr none ↦ idle_or_joins v none
    ]
  ]

  pub appended_apart : v.settled ≡ u.settled → (i : ℕ) → i < v.settled → Outside (run_of (shown u) ∷ []) i → Outside (run_of (shown v) ∷ []) i
  appended_apart settled i low out = elim run [
    | inl joined ↦ elim out.0 [
      | inl before ↦ (inl (omega (arith, before, joined.1)), tt)
      | inr behind ↦ absurd (omega (arith, behind, joined.0.high, u.order, low, settled))
    ]
    | inr other ↦ elim other [
      | inl alone ↦ (inl (omega (arith, alone.0, u.order, low, settled)), tt)
      | inr none ↦ (outside_none v.at (length v.pending.items) i (ap length none), tt)
    ]
  ]

  pub appended_whole : (x y : Blob) → v.settled ≡ u.settled → IsWhole u x → ((i : ℕ) → Outside ((count_of u, length bytes) ∷ run_of (shown u) ∷ []) i → Outside x.loose i → Outside y.loose i) → IsWhole v y
  appended_whole x y settled whole loose i low =
      let was = whole i (omega (arith, low, settled)) in
      (appended_apart settled i low was.0, loose i (inl (omega (arith, low, settled, u.order)), was.0) was.1)

-- where bytes are not flushed one by one, all that is handed in goes with the run, or stays
pub goes_whole : {Dev : Type 0} (u v : WriteBlob) (bytes : List ℕ) (old new : Dev) → TakesMore u → HoldsOnly (shown u) (count_of u) bytes (shown v)
    → (Joins (shown u) (count_of u) → (new ≡ old) ⊎ (v.pending.items ≡ [])) → (StaysBelow (shown u) (count_of u) (length bytes) → new ≡ old)
    → v.capacity ≡ u.capacity → (length v.pending.items < v.capacity) ⊎ (is_idle (shown v) ≡ true) → (new ≡ old) ⊎ (length v.pending.items ≡ 0)
goes_whole u v bytes old new takes run joined below capacity full = elim takes [
  | inl joins ↦ elim (joined joins) [
    | inl same ↦ inl same
    | inr none ↦ inr (ap length none)
  ]
  | inr idle ↦ elim run [
    | inl in_run ↦ elim (joined in_run.0) [
      | inl same ↦ inl same
      | inr none ↦ inr (ap length none)
    ]
    | inr other ↦ elim other [
      | inl alone ↦ elim full [
        | inl few ↦ inl (below (inr (idle, omega (arith, few, capacity, ap length alone.1))))
        | inr flushed ↦ inr (grind (arith, nat_tests, flushed))
      ]
      | inr none ↦ inr (ap length none)
    ]
  ]
]

module _ {F : Type 0} (gives : F → Setting) {told : Type 0} (m : Sections F WriteBlob) (opened : OpenedList) (d : Disk) (glob : IsGlob buffers gives told m opened d) (t : told) where
  -- a section that is not held and may be made has no blob
  pub none_there : (s : ℕ) → s < 2 ^ 64 → s ≤ m.ceiling → m.held s ≡ None → (d (key_of m s)).there ≡ false
  none_there s small below none = go (d (key_of m s)).there refl
    where
      go : (b : Bool) → (d (key_of m s)).there ≡ b → b ≡ false
      go false is = refl
      go true is = elim ((glob.over.disk t).whose s small is) [
        | inl held ↦ absurd (cc (held, ap is_some none))
        | inr unopened ↦ absurd (omega (arith, glob.unopened t s unopened, below))
      ]

  pub made_empty : (s : ℕ) → s < 2 ^ 64 → s ≤ m.ceiling → m.held s ≡ None → (done Make (d (key_of m s))).content ≡ []
  made_empty s small below none = ap (λ (b : Bool). cond b (d (key_of m s)).content []) (none_there s small below none)

-- a new buffer over a blob of no bytes
pub new_empty : (u : WriteBlob) (b : Blob) → Stands u b → is_unsettled u ≡ false → b.content ≡ [] → (count_of u ≡ 0) × (u.settled ≡ 0)
new_empty u b stands idle none =
    let end : u.end ≡ 0 = omega (arith, stands.size, ap length none) in
    let parts = idle_parts u.dirty (length u.pending.items) u.at u.end idle in
    (omega (arith, end, parts.1.0, parts.1.1), omega (arith, end, u.order))

-- bytes were added behind what had settled
module _ {told : Type 0} (u : WriteBlob) (bytes added : List ℕ) (is : bytes ≡ added) (k : Key) (a b : Timeline) (key : blob_key (shown u) ≡ k) (t : told) (stands : Stands u (disk a k)) (serves : Serves told u (disk a k))
    (sparing : Sparing (Outside ((count_of u, length bytes) ∷ run_of (shown u) ∷ [])) u.settled (blob_key (shown u)) a b)
    (adds : AddsOnly (content_of u (disk a (blob_key (shown u))).content ∷ (content_of u (disk a (blob_key (shown u))).content ++ bytes) ∷ []) (blob_key (shown u)) a b) where
  all_prefixes : KeepsAll (λ c. IsPrefixOf c (content_of u (disk a k).content ++ added)) k a b
  all_prefixes =
      let had : List ℕ = content_of u (disk a k).content in
      adds_keep (λ c. IsPrefixOf c (content_of u (disk a k).content ++ added)) (content_of u (disk a k).content ∷ (content_of u (disk a k).content ++ added) ∷ []) k a b
      (prefixes_longer (content_of u (disk a k).content) added (disk a k) (serves.prefixes t))
      (prefix_longer had had added (prefix_itself had), (prefix_itself (had ++ added), tt))
      (subst (λ (q : Key). AddsOnly (content_of u (disk a q).content ∷ (content_of u (disk a q).content ++ added) ∷ []) q a b) key
      (subst (λ (l : List ℕ). AddsOnly (content_of u (disk a (blob_key (shown u))).content ∷ (content_of u (disk a (blob_key (shown u))).content ++ l) ∷ []) (blob_key (shown u)) a b) is adds))

  -- what the blob has had are prefixes of the bytes with those added
  pub append_prefixes : HadPrefixes (content_of u (disk a k).content ++ added) (disk b k)
  append_prefixes = keeps_now (λ c. IsPrefixOf c (content_of u (disk a k).content ++ added)) k a b all_prefixes

  -- so at each moment, and each crash leaves what had settled
  pub append_moments : AllMoments k (Outlasts (settled_bytes u (disk a k).content) (content_of u (disk a k).content ++ added)) a b
  append_moments = record {
    later = spares.later;
    kept = spares.kept;
    each = λ m low high. record {
      here = record {
        leaves = λ left may. prefix_of left (crash_keeps u (Outside ((count_of u, length bytes) ∷ run_of (shown u) ∷ [])) u.settled u.settled (omega arith) (omega arith) (λ i less out. (inl (omega (arith, less, u.order)), out))
            (disk a k) (b.at m k) stands (spares.each m low high).here left may);
        since = λ left may. all_prefixes.each m low high;
      };
      others = (spares.each m low high).others;
    };
  }
    where
      spares : Sparing (Outside ((count_of u, length bytes) ∷ run_of (shown u) ∷ [])) u.settled k a b
      spares = subst (λ (q : Key). Sparing (Outside ((count_of u, length bytes) ∷ run_of (shown u) ∷ [])) u.settled q a b) key sparing

      prefix_of : (l : Option (List ℕ)) → IsSomeAnd l (KeepsBytes u (disk a k) u.settled) → IsSomeAnd l (IsPrefixOf (settled_bytes u (disk a k).content))
      prefix_of None has = absurd has
      prefix_of (Some c) has = kept_prefix u (disk a k) u.settled c stands (serves.whole t) (omega arith) has

outlasts_longer : (kept bytes added : List ℕ) (b : Blob) → Outlasts kept bytes b → Outlasts kept (bytes ++ added) b
outlasts_longer kept bytes added b outlasts = record { leaves = outlasts.leaves; since = λ left may. prefixes_longer bytes added b (outlasts.since left may) }

pub still_moments : {told : Type 0} (u : WriteBlob) (added : List ℕ) (k : Key) (a : Timeline) → told → Stands u (disk a k) → Serves told u (disk a k)
    → AllMoments k (Outlasts (settled_bytes u (disk a k).content) (content_of u (disk a k).content ++ added)) a a
still_moments u added k a t stands serves =
    always_start a (OnlyAt k (disk a) (Outlasts (settled_bytes u (disk a k).content) (content_of u (disk a k).content ++ added)))
    (record {
      here = outlasts_longer (settled_bytes u (disk a k).content) (content_of u (disk a k).content) added (disk a k)
          (outlasts_of u (disk a k) (disk a k) u.settled stands serves t (omega arith) (passes u (disk a k) stands));
      others = λ q other. refl;
    })

outlasts_none : (kept bytes : List ℕ) (b : Blob) → Outlasts kept bytes b → Outlasts [] bytes b
outlasts_none kept bytes b outlasts = record { leaves = λ left may. go left (outlasts.leaves left may); since = outlasts.since }
  where
    go : (l : Option (List ℕ)) → IsSomeAnd l (IsPrefixOf kept) → IsSomeAnd l (IsPrefixOf [])
    go None is = absurd is
    go (Some c) is = refl

pub begin_moments : (bytes : List ℕ) (k : Key) (a b : Timeline) → AllMoments k (IsOpening (disk a k)) a b → AllMoments k (IsBeginning bytes (disk a k)) a b
begin_moments bytes k a b opens = always_weaker a b (OnlyAt k (disk a) (IsOpening (disk a k))) (OnlyAt k (disk a) (IsBeginning bytes (disk a k)))
    (λ d only. record { here = inl only.here; others = only.others }) opens

-- the section is made, and then bytes are added to it
pub begun_moments : (kept bytes whole : List ℕ) → bytes ≡ whole → (k : Key) (a b c : Timeline) → AllMoments k (IsOpening (disk a k)) a b → AllMoments k (Outlasts kept bytes) b c → AllMoments k (IsBeginning whole (disk a k)) a c
begun_moments kept bytes whole is k a b c opens adds =
    always_then a b c (OnlyAt k (disk a) (IsBeginning whole (disk a k))) (begin_moments whole k a b opens)
    (always_weaker b c (OnlyAt k (disk b) (Outlasts kept whole)) (OnlyAt k (disk a) (IsBeginning whole (disk a k)))
    (λ d only. record {
      here = inr (outlasts_none kept whole (d k) only.here);
      others = λ q other. only.others q other ∙ (always_now a b (OnlyAt k (disk a) (IsOpening (disk a k))) opens).others q other;
    }) (subst (λ (l : List ℕ). AllMoments k (Outlasts kept l) b c) is adds))

-- a buffer that was taken out is as a glob has them
pub taken_serves : {F : Type 0} (gives : F → Setting) {told : Type 0} (m : Sections F WriteBlob) (opened : OpenedList) (d : Disk) → IsGlob buffers gives told m opened d → (s : ℕ) (w : WriteBlob) (e : Disk)
    → ((u : WriteBlob) → m.held s ≡ Some u → w ≡ u) → (IsSome (m.held s) → e ≡ d) → (m.held s ≡ None → is_unsettled w ≡ false) → (told → Stands w (e (key_of m s))) → Serves told w (e (key_of m s))
taken_serves gives {told = told} m opened d glob s w e same untouched idle stands = elim (none_or_value (m.held s)) [
  | inl none ↦ idle_serves w (e (key_of m s)) stands (idle none)
  | inr some ↦ subst (λ (x : Disk). Serves told w (x (key_of m s))) (sym (untouched (subst IsSome (sym some.1) refl)))
      (subst (λ (x : WriteBlob). Serves told x (d (key_of m s))) (sym (same some.0 some.1)) (serves_of gives m opened d glob s some.0 some.1))
]

-- where taking the buffer out made no call
pub held_moments : {Dev : Type 0} (time : Dev → Timeline) (x y z : Dev) (u w : WriteBlob) (added : List ℕ) (k : Key) → y ≡ x → w ≡ u
    → AllMoments k (Outlasts (settled_bytes w (disk (time y) k).content) (content_of w (disk (time y) k).content ++ added)) (time y) (time z)
    → AllMoments k (Outlasts (settled_bytes u (disk (time x) k).content) (content_of u (disk (time x) k).content ++ added)) (time x) (time z)
held_moments {Dev = Dev} time x y z u w added k same is moments =
    subst (λ (q : Dev). AllMoments k (Outlasts (settled_bytes u (disk (time q) k).content) (content_of u (disk (time q) k).content ++ added)) (time q) (time z)) same
    (subst (λ (v : WriteBlob). AllMoments k (Outlasts (settled_bytes v (disk (time y) k).content) (content_of v (disk (time y) k).content ++ added)) (time y) (time z)) is moments)

-- bytes at the end of a run that stays below the capacity with them
pub stays_below : (u : WriteBlob) (n capacity : ℕ) → TakesMore u → u.capacity ≡ capacity → length u.pending.items + n < capacity → StaysBelow (shown u) (count_of u) n
stays_below u n capacity takes is few = elim takes [
  | inl joins ↦ inl (joins, omega (arith, joins.high, joins.low, is, few))
  | inr idle ↦ inr (idle, omega (arith, is, few))
]

-- a section that would pass the greatest number is held
pub full_held : (o : Option WriteBlob) (end size n : ℕ) → MatchOption o (end ≡ 0) (λ u. end ≡ count_of u) → 2 ^ 64 - 1 - end < size → size ≡ n → n < 2 ^ 64 → IsSomeAnd o (λ u. 2 ^ 64 ≤ count_of u + n)
full_held None end size n is more same small = absurd (omega (arith, is, more, same, small))
full_held (Some u) end size n is more same small = omega (arith, is, more, same)

pub ok_at : {T E : Type 0} (r : Result T E) (v : T) (P : T → Type 0) → r ≡ Ok v → IfOk r P → P v
ok_at {T = T} {E = E} r v P is all = subst (λ (x : Result T E). IfOk x P) is all

abbrev answer_of : {T : Type 0} (G : Type 0) → T → Result T G
answer_of G v = Ok v

-- a result that was Ok before its error was mapped
pub mapped_ok : {T E : Type 0} (G : Type 0) (r : Result T E) (v : T) → MatchResult r (λ x. answer_of G v ≡ answer_of G x) (λ e. ⊥) → r ≡ Ok v
mapped_ok G (Ok x) v is = cc is
mapped_ok G (Err e) v is = absurd is

module _ {F : Type 0} (gives : F → Setting) {told : Type 0} (m : Sections F WriteBlob) (opened : OpenedList) (d : Disk) (glob : IsGlob buffers gives told m opened d) (s : ℕ) (small : s < 2 ^ 64) (below : s ≤ m.ceiling)
    (w : WriteBlob) (e : Disk) (same : (u : WriteBlob) → m.held s ≡ Some u → w ≡ u) (untouched : IsSome (m.held s) → e ≡ d)
    (idle : m.held s ≡ None → is_unsettled w ≡ false) (made : told → m.held s ≡ None → e (key_of m s) ≡ done Make (d (key_of m s))) where
  -- a buffer that was taken out has as many bytes as the section, and as many of them have settled
  pub taken_size : (told → Stands w (e (key_of m s))) → told ⊎ IsSome (m.held s) → (count_of w ≡ section_size m s) × (w.settled ≡ settled_size m s)
  taken_size stands known = elim (none_or_value (m.held s)) [
    | inr some ↦ (
      ap count_of (same some.0 some.1) ∙ sym (ap size_held some.1),
      ap (λ (x : WriteBlob). x.settled) (same some.0 some.1) ∙ sym (ap settled_held some.1),
    )
    | inl none ↦ elim known [
      | inl t ↦
          let empty = new_empty w (e (key_of m s)) (stands t) (idle none) (ap (λ (b : Blob). b.content) (made t none) ∙ made_empty gives m opened d glob t s small below none) in
          (empty.0 ∙ sym (ap size_held none), empty.1 ∙ sym (ap settled_held none))
      | inr held ↦ absurd (cc (held, ap is_some none))
    ]
  ]

  -- and the section's bytes
  pub taken_bytes : told → (m.held s ≡ None → content_of w (e (key_of m s)).content ≡ (e (key_of m s)).content) → content_of w (e (key_of m s)).content ≡ section_bytes m d s
  taken_bytes t fresh = elim (none_or_value (m.held s)) [
    | inr some ↦
        ap (λ (x : Disk). content_of w (x (key_of m s)).content) (untouched (subst IsSome (sym some.1) refl)) ∙ ap (λ (x : WriteBlob). content_of x (d (key_of m s)).content) (same some.0 some.1) ∙ sym (held_bytes m d s some.0 some.1)
    | inl none ↦ fresh none ∙ ap (λ (b : Blob). b.content) (made t none) ∙ made_empty gives m opened d glob t s small below none ∙ sym (no_bytes m d s none)
  ]

pub open_long : (o : Option Opened) (n long : ℕ) (A : Type 0) → IsSomeAnd o (λ p. p.len ≡ n) → IfSome o (λ p. A × (long ≡ p.len)) → long ≡ n
open_long None n long A is all = absurd is
open_long (Some p) n long A is all = all.1 ∙ is

pub end_size : (o : Option WriteBlob) (end : ℕ) → MatchOption o (end ≡ 0) (λ u. end ≡ count_of u) → end ≡ size_held o
end_size None end is = is
end_size (Some u) end is = is

pub some_size : (o : Option WriteBlob) (n : ℕ) → IsSomeAnd o (λ u. 2 ^ 64 ≤ count_of u + n) → 2 ^ 64 ≤ size_held o + n
some_size None n is = absurd is
some_size (Some u) n is = is

-- the error of a result that is none
pub match_err : {T E : Type 0} (r : Result T E) (P : T → Type 0) (Q : E → Type 0) → MatchResult r P Q → is_ok r ≡ false → (e : E) × (r ≡ Err e) × Q e
match_err (Ok v) P Q is failed = absurd (cc failed)
match_err (Err e) P Q is failed = (e, refl, is)

pub never_full : (e : RError) (x : Error) → (e ≡ RMem) ⊎ (e ≡ Fault) → ((e ≡ OffsetOverflow → ⊥) → x ≡ raised e) → x ≡ Full → ⊥
never_full e x why so full = elim why [
  | inl memory ↦ never_memory (sym full ∙ so (λ over. cc (memory, over)) ∙ ap raised memory)
  | inr fault ↦ never_fault (sym full ∙ so (λ over. cc (fault, over)) ∙ ap raised fault)
]
  where
    never_memory : Full ≡ journal.Mem → ⊥
    never_memory is = cc is

    never_fault : Full ≡ Runtime Fault → ⊥
    never_fault is = cc is

pub why_of : {T : Type 0} (A : Type 0) (r : Result T RError) (e : RError) → r ≡ Err e → (IsErrOf r OffsetOverflow → ⊥)
    → OnErr r ((r ≡ Err OffsetOverflow) ⊎ ((r ≡ Err RMem) ⊎ ((r ≡ Err Fault) × A))) → (e ≡ RMem) ⊎ (e ≡ Fault)
why_of A (Ok v) e is over why = absurd (cc is)
why_of A (Err x) e is over why = elim why [
  | inl past ↦ absurd (over past)
  | inr more ↦ elim more [
    | inl memory ↦ inl (cc (is, memory))
    | inr fault ↦ inr (cc (is, fault.0))
  ]
]

abbrev error_in : (T : Type 0) → Error → Result T Error
error_in T x = Err x

pub same_error : {T : Type 0} (x y : Error) → error_in T x ≡ error_in T y → x ≡ y
same_error x y is = cc is
