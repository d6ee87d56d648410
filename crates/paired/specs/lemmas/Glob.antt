-- What a glob is over, its sections' bytes, and what of them has settled, where calls went by.
use Rattle.std.specs.Prelude.{◌≡◌, ◌≢◌, ℕ, ◌^◌, ◌<◌, ◌≤◌, ⊤, true, false, List, [], length, take, Option, None, Some, IsSome, IsSomeAnd}
use Rattle.std.proofs.Common.{inl, inr, refl, sym, ◌∙◌, ap, subst, arith}
use Rattle.std.proofs.lemmas.Bool.{cases_eq}
use Rattle.std.proofs.lemmas.List.{ext_get_or, get_or-take, length-take-le}
use Rattle.std.proofs.lemmas.List.Elements.{All-from_recursion, All-contains}
use Rattle.blob_device.specs.Disk.{Key, Blob, Disk, past, settled_at}
use Rattle.blob_device.specs.Opened.{Opened, OpenedList}
use Rattle.blob_device.specs.lemmas.Puts.{same_or_other}
use Rattle.sealed_pages.specs.declared.write_blob.WriteBlob.{WriteBlob}
use Rattle.sealed_pages.specs.Cutting.{StandsSettled}
use Rattle.sealed_pages.specs.Entries.{IsOpenAt, ReadsAtMost}
use Rattle.sealed_pages.specs.unsealed.Writing.{shown, StandsBehind}
use Rattle.section_manager.specs.declared.buffer.SectionBuffer as buffer
use Rattle.section_manager.specs.contracts.unsealed.WriteBlobSectionBuffer.TheImpl as write_blob
use Rattle.section_manager.specs.Prefixes.{IsPrefixOf}
use Rattle.section_manager.specs.Leaving.{Leaves}
use Rattle.section_manager.specs.Setting.{Setting}
use Rattle.section_manager.specs.Sections.{Sections, key_of, IsHeld, IsSame, SameBounds, IsKeyOf, IsOver}
use Rattle.section_manager.specs.unsealed.Buffer.{Stands, IsWhole, KeepsBytes, IsOldOrPrefix, MayKeep, content_of, is_unsettled}
use Rattle.section_manager.specs.unsealed.Laws.{all_weaker, counted, settled_within, rested}
use Rattle.section_manager.specs.lemmas.Keys.{key_injective, keys_differ}
use Rattle.section_manager.specs.lemmas.buffers.UnsealedCalls.{whole_settled}
use Rattle.section_manager.specs.lemmas.sections.Over.{same_key}
use Rattle.paired.specs.glob.Lasting.{Outlasts}
use Rattle.paired.specs.glob.Sections.{bytes_held, size_held, section_bytes, section_size, HadPrefixes, HasSettled, TakesMore, IsGlob}
use Rattle.blob_device.specs.Places.{written_out}
use Rattle.blob_device.proofs.general.Options.{none_or_value}

-- what sections are kept in
abbrev pub buffers : buffer.Ghosts WriteBlob
buffers = write_blob.ghosts

-- of its bytes none was written since they settled
pub idle_whole : (u : WriteBlob) (b : Blob) → Stands u b → is_unsettled u ≡ false → IsWhole u b
idle_whole u b stands is = whole_settled u b is (ap (λ (x : Blob). x.loose) (rested u b stands is))

-- Where only bytes were added since the settled ones settled, what a crash may leave begins with those.
pub kept_prefix : (u : WriteBlob) (b : Blob) (least : ℕ) (c : List ℕ) → Stands u b → IsWhole u b → least ≤ u.settled → KeepsBytes u b least c → IsPrefixOf (take least (content_of u b.content)) c
kept_prefix u b least c stands whole few keeps =
    let all : List ℕ = content_of u b.content in
    let enough : least ≤ length all = omega (arith, few, counted u b stands, settled_within u b stands) in
    let long : length (take least all) ≡ least = length-take-le least all enough in
    let has : length (take least c) ≡ least = length-take-le least c keeps.long in
    ap (λ (k : ℕ). take k c) long ∙ ext_get_or 0 (take least c) (take least all) (has ∙ sym long) (λ i lt.
    let low : i < least = omega (arith, lt, has) in
    let spared = whole i (omega (arith, low, few)) in
    get_or-take least c i 0 low ∙ (keeps.same i low spared.0 spared.1).same
    ∙ sym (written_out b.content u.at u.pending.items i spared.0.0) ∙ sym (get_or-take least all i 0 low))

-- where the contents that the blob had were prefixes
old_prefixes : (u : WriteBlob) (from : Blob) → HadPrefixes (content_of u from.content) from → (c : List ℕ) → IsOldOrPrefix u from c → IsPrefixOf c (content_of u from.content)
old_prefixes u from had c (inl old) = All-contains (λ x. IsPrefixOf x (content_of u from.content)) (past from) c (All-from_recursion (λ x. IsPrefixOf x (content_of u from.content)) (past from) had) old
old_prefixes u from had c (inr prefix) = prefix

-- the buffer, over this blob, is as a glob has those of its sections
pub record Serves (told : Type 0) (u : WriteBlob) (b : Blob) : Type 0 where
  pub ends : TakesMore u
  pub behind : StandsBehind (shown u)
  pub whole : told → IsWhole u b
  pub prefixes : told → HadPrefixes (content_of u b.content) b

-- what the test of the buffer leaves, in bytes
pub outlasts_of : {told : Type 0} (u : WriteBlob) (from b : Blob) (least : ℕ) → Stands u from → Serves told u from → told → least ≤ u.settled → Leaves (λ _ _. ⊤) (MayKeep u from least) b
    → Outlasts (take least (content_of u from.content)) (content_of u from.content) b
outlasts_of u from b least stands serves t few leaves = record { leaves = λ left may. kept left (leaves left may); since = λ left may. prefixes left (leaves left may) }
  where
    kept : (l : Option (List ℕ)) → IsSomeAnd l (λ c. ⊤ → MayKeep u from least (past b) c) → IsSomeAnd l (IsPrefixOf (take least (content_of u from.content)))
    kept None is = absurd is
    kept (Some c) is = kept_prefix u from least c stands (serves.whole t) few (is tt).bytes

    prefixes : (l : Option (List ℕ)) → IsSomeAnd l (λ c. ⊤ → MayKeep u from least (past b) c) → HadPrefixes (content_of u from.content) b
    prefixes None is = absurd is
    prefixes (Some c) is = all_weaker (IsOldOrPrefix u from) (λ x. IsPrefixOf x (content_of u from.content)) (past b) (old_prefixes u from (serves.prefixes t)) ((is tt).since serves.behind)

module _ {F : Type 0} (m : Sections F WriteBlob) where
  pub held_bytes : (d : Disk) (s : ℕ) (u : WriteBlob) → m.held s ≡ Some u → section_bytes m d s ≡ content_of u (d (key_of m s)).content
  held_bytes d s u held = ap (λ (o : Option WriteBlob). bytes_held o (d (key_of m s)).content) held

  pub no_bytes : (d : Disk) (s : ℕ) → m.held s ≡ None → section_bytes m d s ≡ []
  no_bytes d s none = ap (λ (o : Option WriteBlob). bytes_held o (d (key_of m s)).content) none

  -- the section's blob holds all its bytes where it is settled and a new buffer over it would have them
  pub has_settled : (d : Disk) (s : ℕ) (u : WriteBlob) → m.held s ≡ Some u → StandsSettled (d (key_of m s)) → (d (key_of m s)).content ≡ content_of u (d (key_of m s)).content → HasSettled m d s
  has_settled d s u held rests again = rests ∙ ap settled_at (again ∙ sym (held_bytes d s u held))

  -- a section that is not among these has a key that is none of theirs
  pub other_key : (P : ℕ → Type 0) → ((t : ℕ) → P t → t < 2 ^ 64) → (s : ℕ) → s < 2 ^ 64 → (P s → ⊥) → IsKeyOf m P (key_of m s) → ⊥
  other_key P small s s_small none found =
      none (subst P (sym (key_injective m.partition s found.0 s_small (small found.0 found.1) found.2)) found.1)

-- a section that stays, over a blob that stays
pub same_bytes : {F : Type 0} (m n : Sections F WriteBlob) (d e : Disk) (s : ℕ) → n.held s ≡ m.held s → (IsHeld m s → e (key_of n s) ≡ d (key_of m s)) → section_bytes n e s ≡ section_bytes m d s
same_bytes m n d e s same blob = elim (none_or_value (m.held s)) [
  | inl none ↦ no_bytes n e s (same ∙ none) ∙ sym (no_bytes m d s none)
  | inr some ↦ held_bytes n e s some.0 (same ∙ some.1) ∙ ap (λ (b : Blob). content_of some.0 b.content) (blob (subst IsSome (sym some.1) refl)) ∙ sym (held_bytes m d s some.0 some.1)
]

-- sections of which each buffer serves are a glob
pub glob_of : {F : Type 0} {gives : F → Setting} {told : Type 0} (n : Sections F WriteBlob) (new : OpenedList) (e : Disk) → IsOver buffers gives told n new e
    → ((s : ℕ) (u : WriteBlob) → n.held s ≡ Some u → Serves told u (e (key_of n s))) → (told → (s : ℕ) → IsSome (n.unopened s) → n.ceiling < s) → IsGlob buffers gives told n new e
glob_of n new e over serves unopened = record {
  over = over;
  ends = λ s u held. (serves s u held).ends;
  behind = λ s u held. (serves s u held).behind;
  whole = λ t s u held. (serves s u held).whole t;
  prefixes = λ t s u held. subst (λ (bytes : List ℕ). HadPrefixes bytes (e (key_of n s))) (sym (held_bytes n e s u held)) ((serves s u held).prefixes t);
  unopened = unopened;
}

module _ {F : Type 0} (gives : F → Setting) {told : Type 0} (m : Sections F WriteBlob) (old : OpenedList) (d : Disk) (glob : IsGlob buffers gives told m old d) where
  pub number_of : (s : ℕ) (u : WriteBlob) → m.held s ≡ Some u → s < 2 ^ 64
  number_of s u held = glob.over.opened_list.number s (inl (subst IsSome (sym held) refl))

  -- each section's buffer serves
  pub serves_of : (s : ℕ) (u : WriteBlob) → m.held s ≡ Some u → Serves told u (d (key_of m s))
  serves_of s u held = record {
    ends = glob.ends s u held;
    behind = glob.behind s u held;
    whole = λ t. glob.whole t s u held;
    prefixes = λ t. subst (λ (bytes : List ℕ). HadPrefixes bytes (d (key_of m s))) (held_bytes m d s u held) (glob.prefixes t s u held);
  }

  same_serves : (n : Sections F WriteBlob) (e : Disk) (s : ℕ) → n.held s ≡ m.held s → (told → e (key_of n s) ≡ d (key_of m s)) → (u : WriteBlob) → n.held s ≡ Some u → Serves told u (e (key_of n s))
  same_serves n e s same blob u held =
      let was = serves_of s u (sym same ∙ held) in record {
        ends = was.ends;
        behind = was.behind;
        whole = λ t. subst (IsWhole u) (sym (blob t)) (was.whole t);
        prefixes = λ t. subst (λ (b : Blob). HadPrefixes (content_of u b.content) b) (sym (blob t)) (was.prefixes t);
      }

  -- A glob stays what it is where the blobs of its partition's sections stay, in the list and on the disk.
  pub glob_stays : (new : OpenedList) (e : Disk) → ((s len : ℕ) → s < 2 ^ 64 → IsOpenAt old (key_of m s) len → IsOpenAt new (key_of m s) len)
      → (told → (s : ℕ) → s < 2 ^ 64 → e (key_of m s) ≡ d (key_of m s)) → IsGlob buffers gives told m new e
  glob_stays new e opens blobs = record {
    over = record {
      opened_list = record {
        key = glob.over.opened_list.key;
        setting = glob.over.opened_list.setting;
        is_open = λ s u held. opens s u.end (number_of s u held) (glob.over.opened_list.is_open s u held);
        to_ceiling = glob.over.opened_list.to_ceiling;
        apart = glob.over.opened_list.apart;
        from_floor = glob.over.opened_list.from_floor;
        number = glob.over.opened_list.number;
      };
      disk = λ t. record {
        stands = λ s u held. subst (Stands u) (sym (blobs t s (number_of s u held))) ((glob.over.disk t).stands s u held);
        whose = λ s small there. (glob.over.disk t).whose s small (subst (λ (b : Blob). b.there ≡ true) (blobs t s small) there);
      };
    };
    ends = glob.ends;
    behind = glob.behind;
    whole = λ t s u held. subst (IsWhole u) (sym (blobs t s (number_of s u held))) (glob.whole t s u held);
    prefixes = λ t s u held. subst (λ (b : Blob). HadPrefixes (bytes_held (m.held s) b.content) b) (sym (blobs t s (number_of s u held))) (glob.prefixes t s u held);
    unopened = glob.unopened;
  }

  -- so it does where one blob alone was read
  pub glob_read : (k : Key) (new : OpenedList) (e : Disk) → ReadsAtMost 1 k old new → (told → e ≡ d) → IsGlob buffers gives told m new e
  glob_read k new e reads same = glob_stays new e
      (λ s len small is. elim (same_or_other (key_of m s) k) [
        | inl here ↦ subst (λ (q : Key). IsOpenAt new q len) (sym here) (reads.length len (subst (λ (q : Key). IsOpenAt old q len) here is))
        | inr other ↦ subst (λ (o : Option Opened). IsSomeAnd o (λ p. p.len ≡ len)) (sym (reads.others (key_of m s) other)) is
      ])
      (λ t s small. ap (λ (x : Disk). x (key_of m s)) (same t))

  module _ (n : Sections F WriteBlob) (new : OpenedList) (e : Disk) (s : ℕ) (over : IsOver buffers gives told n new e) (bounds : SameBounds m n)
      (others : (q : ℕ) → q ≢ s → IsSame m n q) (small : s < 2 ^ 64) (blobs : told → (q : Key) → q ≢ key_of m s → e q ≡ d q) where
    other_blob : told → (q : ℕ) → q < 2 ^ 64 → q ≢ s → e (key_of n q) ≡ d (key_of m q)
    other_blob t q q_small other = ap e (same_key m n bounds q) ∙ blobs t (key_of m q) (keys_differ m.partition q s q_small small other)

    -- the bytes of the other sections stay
    pub other_bytes : told → (q : ℕ) → q ≢ s → section_bytes n e q ≡ section_bytes m d q
    other_bytes t q other = same_bytes m n d e q (others q other).held (λ held. other_blob t q (glob.over.opened_list.number q (inl held)) other)

    -- one section alone changed
    pub glob_one : ((u : WriteBlob) → n.held s ≡ Some u → Serves told u (e (key_of n s))) → (told → IsSome (n.unopened s) → n.ceiling < s) → IsGlob buffers gives told n new e
    glob_one serves unopened = glob_of n new e over
        (λ q u held. elim (cases_eq q s) [
          | inl is ↦ subst (λ (k : ℕ). Serves told u (e (key_of n k))) (sym is) (serves u (subst (λ (k : ℕ). n.held k ≡ Some u) is held))
          | inr other ↦
              let was = (others q other).held in
              same_serves n e q was (λ t. other_blob t q (number_of q u (sym was ∙ held)) other) u held
        ])
        (λ t q some. elim (cases_eq q s) [
          | inl is ↦ subst (λ (k : ℕ). n.ceiling < k) (sym is) (unopened t (subst (λ (k : ℕ). IsSome (n.unopened k)) is some))
          | inr other ↦ omega (arith, bounds.ceiling, glob.unopened t q (subst IsSome (others q other).unopened some))
        ])

  -- a section has as many bytes as it counts
  pub section_counted : told → (s : ℕ) → length (section_bytes m d s) ≡ section_size m s
  section_counted t s = elim (none_or_value (m.held s)) [
    | inl none ↦ ap length (no_bytes m d s none) ∙ sym (ap size_held none)
    | inr some ↦ ap length (held_bytes m d s some.0 some.1) ∙ counted some.0 (d (key_of m s)) ((glob.over.disk t).stands s some.0 some.1) ∙ sym (ap size_held some.1)
  ]
