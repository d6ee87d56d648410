-- A replay of a fixed journal, where one of its sections changed: what is left, what a crash may leave, and that it is a replay again.
use Rattle.std.specs.Prelude.{◌≡◌, ◌≢◌, ◌⊎◌, ◌↔◌, ℕ, ◌*◌, ◌/◌, ◌^◌, ◌<◌, ◌≤◌, eqb, cond, Bool, false, List, length, IsTrue, IsSomeAnd, Option, None, Some, IsSome}
use Rattle.std.proofs.Common.{inl, inr, refl, sym, ◌∙◌, ap, subst, arith}
use Rattle.std.proofs.lemmas.Bool.{cases_eq}
use Rattle.blob_device.specs.Disk.{Key, Blob, Disk}
use Rattle.sealed_pages.specs.declared.page_blob.PageBlob.{PageBlob}
use Rattle.sealed_pages.specs.Shown.{shown}
use Rattle.sealed_pages.specs.Buffer.{size_of, bytes_of, IsSealed}
use Rattle.sealed_pages.specs.ChanceSeal.{Leaves}
use Rattle.sealed_pages.specs.SealedPrefix.{sealed_prefix}
use Rattle.sealed_pages.specs.Unrecovered.{IsUnrecovered}
use Rattle.section_manager.specs.Sections.{section_key, key_of, IsHeld, IsKeyOf, IsSame}
use Rattle.section_manager.specs.lemmas.Keys.{keys_differ}
use Rattle.segments.specs.FixedReplay.{Place, Walk, IsAhead, IsIn, IsReadWhole, IsLeft, first_of, kept_of, kept_bytes, SameWalk, HasSameBytes, StaysStill, Replaying}
use Rattle.blob_device.proofs.general.Options.{none_in, some_there}

-- where it stands in a section at most at item q, it stands in the section
pub in_section : (o : Option Place) (t q : ℕ) → IsSomeAnd o (λ r. (r.section ≡ t) × (r.position ≤ q)) → IsSomeAnd o (λ r. r.section ≡ t)
in_section None t q has = has
in_section (Some r) t q has = has.0

-- the same buffer has the same bytes
pub same_bytes : {S : Type 0} {gs : _} (told : Type 0) (u v : PageBlob S gs) (b c : Blob) → v ≡ u → (told → c ≡ b) → HasSameBytes told u b v c
same_bytes {S = S} {gs = gs} told u v b c same blob = record {
  size = ap (λ (x : PageBlob S gs). size_of (shown x)) same;
  settled = ap (λ (x : PageBlob S gs). x.settled) same;
  bytes = λ t. (let at = blob t in λ i. bytes_of (shown (same i)) (at i).content);
}

-- Of a section that owes a replay a crash may leave this: it is as before, or has a prefix of its sealed prefix with all whole items of it,
-- and these reach its floor.
abbrev pub MayCut : {S : Type 0} {gs : _} → (List ℕ → ℕ) → ℕ → PageBlob S gs → ℕ → Blob → Blob → Type 0
MayCut seal size u floor from b = (b ≡ from)
    ⊎ ((floor ≤ length (sealed_prefix seal u.page_size from.content) / size * size) × Leaves seal u.page_size (sealed_prefix seal u.page_size from.content) (length (sealed_prefix seal u.page_size from.content) / size * size) b)

-- Of one that owes none, and is sealed, a crash may leave a prefix of its bytes, no shorter than what had settled.
abbrev pub MayFlush : {S : Type 0} {gs : _} → (List ℕ → ℕ) → PageBlob S gs → Blob → Blob → Type 0
MayFlush seal u from b = Leaves seal u.page_size (bytes_of (shown u) from.content) u.settled b

-- And of one that is not all of its sealed prefix.
abbrev pub MayPrefix : {S : Type 0} {gs : _} → (List ℕ → ℕ) → PageBlob S gs → Blob → Blob → Type 0
MayPrefix seal u from b = Leaves seal u.page_size (sealed_prefix seal u.page_size from.content) (length (sealed_prefix seal u.page_size from.content)) b

module _ {F S : Type 0} {gs : _} (seal : List ℕ → ℕ) (size : ℕ) where
  -- Nothing changed but the section s and its blob.
  pub record OnlyOne (told : Type 0) (s : ℕ) (old new : Walk F (PageBlob S gs)) (d e : Disk) : Type 0 where
    pub same : SameWalk old new
    pub small : s < 2 ^ 64
    pub numbers : (q : ℕ) → IsHeld old.journal.sections q → q < 2 ^ 64
    pub others : (q : ℕ) → q ≢ s → IsSame old.journal.sections new.journal.sections q
    pub blobs : told → (q : Key) → q ≢ key_of old.journal.sections s → e q ≡ d q

  -- The replay stood in s at most, and s and all before it are behind the new one.
  pub record IsBehind (s : ℕ) (old new : Walk F (PageBlob S gs)) : Type 0 where
    pub in_old : (t : ℕ) → IsIn old t → t ≡ s
    pub ahead : (t : ℕ) → t < 2 ^ 64 → IsAhead new t ↔ (IsAhead old t × (s < t))
    pub later : (t : ℕ) → IsHeld old.journal.sections t → IsAhead old t → t ≢ s → s < t

  -- a section that is ahead, or in which the replay stands
  pub record IsReached (s : ℕ) (old : Walk F (PageBlob S gs)) : Type 0 where
    pub held : IsHeld old.journal.sections s
    pub near : IsAhead old s ⊎ IsIn old s

  module _ {told : Type 0} (s : ℕ) (old new : Walk F (PageBlob S gs)) (d e : Disk) (one : OnlyOne told s old new d e) where
    pub key_new : (q : ℕ) → key_of new.journal.sections q ≡ key_of old.journal.sections q
    key_new q = ap (λ p. section_key p q) one.same.bounds.place.partition

    pub blob_other : told → (q : ℕ) → q ≢ s → IsHeld old.journal.sections q → e (key_of new.journal.sections q) ≡ d (key_of old.journal.sections q)
    blob_other t q other held = ap e (key_new q) ∙ one.blobs t (key_of old.journal.sections q) (keys_differ old.journal.sections.partition q s (one.numbers q held) one.small other)

    pub held_back : (q : ℕ) → q ≢ s → IsHeld new.journal.sections q → IsHeld old.journal.sections q
    held_back q other held = subst IsSome (one.others q other).held held

    pub held_on : (q : ℕ) → q ≢ s → IsHeld old.journal.sections q → IsHeld new.journal.sections q
    held_on q other held = subst IsSome (sym (one.others q other).held) held

    pub first_same : (t : ℕ) → first_of new t ≡ first_of old t
    first_same t = λ i. cond (eqb t (one.same.section i)) (one.same.position i) 0

    -- the items of another section are in the same bytes
    pub kept_other : told → (q : ℕ) → q ≢ s → kept_bytes seal size new e q ≡ kept_bytes seal size old d q
    kept_other t q other = go (old.journal.sections.held q) refl
      where
        go : (h : Option (PageBlob S gs)) → old.journal.sections.held q ≡ h → kept_bytes seal size new e q ≡ kept_bytes seal size old d q
        go None is =
            ap (λ (h : Option (PageBlob S gs)). kept_of seal (new.journal.unrecovered q) h (e (key_of new.journal.sections q)).content) ((one.others q other).held ∙ is)
            ∙ sym (ap (λ (h : Option (PageBlob S gs)). kept_of seal (old.journal.unrecovered q) h (d (key_of old.journal.sections q)).content) is)
        go (Some u) is =
            let there = blob_other t q other (some_there (old.journal.sections.held q) u is) in
            λ i. kept_of seal (one.same.unrecovered q i) ((one.others q other).held i) (there i).content

    pub reads_back : (t : ℕ) → IsReadWhole new t → IsReadWhole old t
    reads_back t is = elim is [ inl owed ↦ inl (subst IsTrue (one.same.unrecovered t) owed) | inr first ↦ inr (sym (first_same t) ∙ first) ]

    pub ahead_number : (t : ℕ) → IsHeld new.journal.sections t → t < 2 ^ 64
    ahead_number t held = elim (cases_eq t s) [
      | inl is ↦ subst (λ (k : ℕ). k < 2 ^ 64) (sym is) one.small
      | inr other ↦ one.numbers t (held_back t other held)
    ]

    -- no item of an earlier section was left
    pub left_first : IsBehind s old new → (t q : ℕ) → IsLeft seal size old d t q → t < s → ⊥
    left_first behind t q l lt = elim l.ahead [
      | inl here ↦ (let far : s < t = behind.later t here.0 here.1 (λ is. omega (arith, is, lt)) in omega (arith, far, lt))
      | inr there ↦ (let at : t ≡ s = behind.in_old t (in_section old.place t q there) in omega (arith, at, lt))
    ]

    module _ (behind : IsBehind s old new) (none : new.place ≡ None) where
      pub not_ahead : IsAhead new s → ⊥
      not_ahead ahead = omega (arith, ((behind.ahead s one.small).0 ahead).1)

      pub not_near : IsAhead new s ⊎ IsIn new s → ⊥
      not_near (inl ahead) = not_ahead ahead
      not_near (inr there) = none_in new.place (λ r. r.section ≡ s) none there

      -- the items that are left are those of the later sections that were
      pub left_later : told → new.ended ≡ old.ended → (t q : ℕ) → IsLeft seal size new e t q ↔ (IsLeft seal size old d t q × (s < t))
      left_later tells ended t q = (forth, λ l. back l.0 l.1)
        where
          forth : IsLeft seal size new e t q → IsLeft seal size old d t q × (s < t)
          forth l = elim l.ahead [
            | inr there ↦ absurd (none_in new.place (λ r. (r.section ≡ t) × (r.position ≤ q)) none there)
            | inl here ↦
                let far = (behind.ahead t (ahead_number t here.0)).0 here.1 in
                let other : t ≢ s = λ is. omega (arith, far.1, is) in
                let begun : first_of old t ≤ q = subst (λ (n : ℕ). n ≤ q) (first_same t) l.begun in
                let whole : q < length (kept_bytes seal size old d t) / size = subst (λ (c : List ℕ). q < length c / size) (kept_other tells t other) l.whole in
                (record { goes_on = sym ended ∙ l.goes_on; begun = begun; whole = whole; ahead = inl (held_back t other here.0, far.0) }, far.1)
          ]

          back : IsLeft seal size old d t q → s < t → IsLeft seal size new e t q
          back l lt =
              let other : t ≢ s = λ is. omega (arith, lt, is) in
              let begun : first_of new t ≤ q = subst (λ (n : ℕ). n ≤ q) (sym (first_same t)) l.begun in
              let whole : q < length (kept_bytes seal size new e t) / size = subst (λ (c : List ℕ). q < length c / size) (sym (kept_other tells t other)) l.whole in
              record {
                goes_on = ended ∙ l.goes_on;
                begun = begun;
                whole = whole;
                ahead = elim l.ahead [
                  | inl here ↦ inl (held_on t other here.0, (behind.ahead t (one.numbers t here.0)).1 (here.1, lt))
                  | inr there ↦ absurd (other (behind.in_old t (in_section old.place t q there)))
                ];
              }

      -- where none of the section was left, as many are left as before
      pub left_all : told → new.ended ≡ old.ended → ((q : ℕ) → IsLeft seal size old d s q → ⊥) → (t q : ℕ) → IsLeft seal size new e t q ↔ IsLeft seal size old d t q
      left_all tells ended never t q = (λ l. ((left_later tells ended t q).0 l).0, λ l. (left_later tells ended t q).1 (l, lt l))
        where
          lt : IsLeft seal size old d t q → s < t
          lt l = elim (cases_eq t s) [
            | inl is ↦ absurd (never q (subst (λ (k : ℕ). IsLeft seal size old d k q) is l))
            | inr other ↦ elim l.ahead [
              | inl here ↦ behind.later t here.0 here.1 other
              | inr there ↦ absurd (other (behind.in_old t (in_section old.place t q there)))
            ]
          ]

    -- what a later call leaves, this one's replay may leave too
    pub later_one : told → IsReached s old → ((t : ℕ) → IsAhead new t ⊎ IsIn new t → IsAhead old t ⊎ IsIn old t)
        → (v : PageBlob S gs) → new.journal.sections.held s ≡ Some v
        → ((u : PageBlob S gs) → old.journal.sections.held s ≡ Some u → old.journal.unrecovered s ≡ false → IsSealed seal (shown u) (d (key_of old.journal.sections s))
        → IsSealed seal (shown v) (e (key_of old.journal.sections s)) × ((b : Blob) → MayFlush seal v (e (key_of old.journal.sections s)) b → MayFlush seal u (d (key_of old.journal.sections s)) b))
        → ((u : PageBlob S gs) → old.journal.sections.held s ≡ Some u → old.journal.unrecovered s ≡ false → IsUnrecovered seal (shown u) (d (key_of old.journal.sections s))
        → IsUnrecovered seal (shown v) (e (key_of old.journal.sections s)) × ((b : Blob) → MayPrefix seal v (e (key_of old.journal.sections s)) b → MayPrefix seal u (d (key_of old.journal.sections s)) b))
        → ((u : PageBlob S gs) → old.journal.sections.held s ≡ Some u → IsTrue (old.journal.unrecovered s) → (b : Blob) → MayCut seal size v (old.journal.floor_of s) (e (key_of old.journal.sections s)) b → MayCut seal size u (old.journal.floor_of s) (d (key_of old.journal.sections s)) b)
        → ((u : PageBlob S gs) → old.journal.sections.held s ≡ Some u → StaysStill seal size (old.journal.unrecovered s) u (d (key_of old.journal.sections s))
        → StaysStill seal size (old.journal.unrecovered s) v (e (key_of old.journal.sections s)) × (e (key_of old.journal.sections s) ≡ d (key_of old.journal.sections s)))
        → (q : Key) (b : Blob) → Replaying seal size new e q b → Replaying seal size old d q b
    later_one tells reached onward v held flush prefix cuts stays q b rep = record {
      flushed = may_still (λ u x. IsSealed seal (shown u) x) (MayFlush seal) flush rep.flushed;
      prefix = may_still (λ u x. IsUnrecovered seal (shown u) x) (MayPrefix seal) prefix rep.prefix;
      cut = cut;
      still = still;
      others = others;
    }
      where
        -- of a section that owes no replay, where it is as `Is` says
        may_still : (Is : PageBlob S gs → Blob → Type 0) (May : PageBlob S gs → Blob → Blob → Type 0)
            → ((u : PageBlob S gs) → old.journal.sections.held s ≡ Some u → old.journal.unrecovered s ≡ false → Is u (d (key_of old.journal.sections s))
            → Is v (e (key_of old.journal.sections s)) × ((x : Blob) → May v (e (key_of old.journal.sections s)) x → May u (d (key_of old.journal.sections s)) x))
            → ((t : ℕ) (u : PageBlob S gs) → new.journal.sections.held t ≡ Some u → new.journal.unrecovered t ≡ false → Is u (e q) → q ≡ key_of new.journal.sections t → May u (e q) b)
            → (t : ℕ) (u : PageBlob S gs) → old.journal.sections.held t ≡ Some u → old.journal.unrecovered t ≡ false → Is u (d q) → q ≡ key_of old.journal.sections t → May u (d q) b
        may_still Is May changed may t u is free sound here = elim (cases_eq t s) [
          | inl at ↦
              let key : q ≡ key_of old.journal.sections s = here ∙ ap (key_of old.journal.sections) at in
              let free_s : old.journal.unrecovered s ≡ false = subst (λ (k : ℕ). old.journal.unrecovered k ≡ false) at free in
              let has = changed u (subst (λ (k : ℕ). old.journal.sections.held k ≡ Some u) at is) free_s (subst (λ (k : Key). Is u (d k)) key sound) in
              let after : May v (e (key_of old.journal.sections s)) b =
              subst (λ (k : Key). May v (e k) b) key (may s v held (one.same.unrecovered s ∙ free_s) (subst (λ (k : Key). Is v (e k)) (sym key) has.0) (key ∙ sym (key_new s))) in
              subst (λ (k : Key). May u (d k) b) (sym key) (has.1 b after)
          | inr other ↦
              let same : e q ≡ d q = ap e here ∙ sym (ap e (key_new t)) ∙ blob_other tells t other (some_there (old.journal.sections.held t) u is) ∙ sym (ap d here) in
              subst (λ (x : Blob). May u x b) same (may t u ((one.others t other).held ∙ is) (one.same.unrecovered t ∙ free) (subst (Is u) (sym same) sound) (here ∙ sym (key_new t)))
        ]

        cut : (t : ℕ) (u : PageBlob S gs) → old.journal.sections.held t ≡ Some u → IsTrue (old.journal.unrecovered t) → q ≡ key_of old.journal.sections t → MayCut seal size u (old.journal.floor_of t) (d q) b
        cut t u is owed here = elim (cases_eq t s) [
          | inl at ↦
              let key : q ≡ key_of old.journal.sections s = here ∙ ap (key_of old.journal.sections) at in
              let owed_s : IsTrue (old.journal.unrecovered s) = subst (λ (k : ℕ). IsTrue (old.journal.unrecovered k)) at owed in
              let after : MayCut seal size v (old.journal.floor_of s) (e (key_of old.journal.sections s)) b =
              subst (λ (n : ℕ). MayCut seal size v n (e (key_of old.journal.sections s)) b) (one.same.floors s)
              (subst (λ (k : Key). MayCut seal size v (new.journal.floor_of s) (e k) b) key (rep.cut s v held (subst IsTrue (sym (one.same.unrecovered s)) owed_s) (key ∙ sym (key_new s)))) in
              subst (λ (k : ℕ). MayCut seal size u (old.journal.floor_of k) (d q) b) (sym at) (subst (λ (k : Key). MayCut seal size u (old.journal.floor_of s) (d k) b) (sym key) (cuts u (subst (λ (k : ℕ). old.journal.sections.held k ≡ Some u) at is) owed_s b after))
          | inr other ↦
              let same : e q ≡ d q = ap e here ∙ sym (ap e (key_new t)) ∙ blob_other tells t other (some_there (old.journal.sections.held t) u is) ∙ sym (ap d here) in
              subst (λ (n : ℕ). MayCut seal size u n (d q) b) (one.same.floors t) (subst (λ (x : Blob). MayCut seal size u (new.journal.floor_of t) x b) same
              (rep.cut t u ((one.others t other).held ∙ is) (subst IsTrue (sym (one.same.unrecovered t)) owed) (here ∙ sym (key_new t))))
        ]

        still : (t : ℕ) (u : PageBlob S gs) → old.journal.sections.held t ≡ Some u → StaysStill seal size (old.journal.unrecovered t) u (d q) → q ≡ key_of old.journal.sections t → b ≡ d q
        still t u is rest here = elim (cases_eq t s) [
          | inl at ↦
              let key : q ≡ key_of old.journal.sections s = here ∙ ap (key_of old.journal.sections) at in
              let rest_s : StaysStill seal size (old.journal.unrecovered s) u (d (key_of old.journal.sections s)) =
              subst (λ (k : Key). StaysStill seal size (old.journal.unrecovered s) u (d k)) key (subst (λ (k : ℕ). StaysStill seal size (old.journal.unrecovered k) u (d q)) at rest) in
              let now = stays u (subst (λ (k : ℕ). old.journal.sections.held k ≡ Some u) at is) rest_s in
              let rest_v : StaysStill seal size (new.journal.unrecovered s) v (e q) =
              subst (λ (o : Bool). StaysStill seal size o v (e q)) (sym (one.same.unrecovered s)) (subst (λ (k : Key). StaysStill seal size (old.journal.unrecovered s) v (e k)) (sym key) now.0) in
              rep.still s v held rest_v (key ∙ sym (key_new s)) ∙ ap e key ∙ now.1 ∙ sym (ap d key)
          | inr other ↦
              let same : e q ≡ d q = ap e here ∙ sym (ap e (key_new t)) ∙ blob_other tells t other (some_there (old.journal.sections.held t) u is) ∙ sym (ap d here) in
              let rest_new : StaysStill seal size (new.journal.unrecovered t) u (e q) =
              subst (λ (x : Blob). StaysStill seal size (new.journal.unrecovered t) u x) (sym same) (subst (λ (o : Bool). StaysStill seal size o u (d q)) (sym (one.same.unrecovered t)) rest) in
              rep.still t u ((one.others t other).held ∙ is) rest_new (here ∙ sym (key_new t)) ∙ same
        ]

        held_new : (t : ℕ) → IsHeld new.journal.sections t → IsHeld old.journal.sections t
        held_new t has = elim (cases_eq t s) [
          | inl at ↦ subst (IsHeld old.journal.sections) (sym at) reached.held
          | inr other ↦ held_back t other has
        ]

        others : (IsKeyOf old.journal.sections (λ t. IsHeld old.journal.sections t × (IsAhead old t ⊎ IsIn old t)) q → ⊥) → b ≡ d q
        others not =
            rep.others (λ k. not (k.0, (held_new k.0 k.1.0, onward k.0 k.1.1), k.2 ∙ key_new k.0))
            ∙ one.blobs tells q (λ is. not (s, (reached.held, reached.near), is))
