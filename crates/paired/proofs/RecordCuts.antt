-- What cuts of some sections of a fixed journal, each to so many records, make of the journal and leave of its blobs.
use Rattle.std.specs.Prelude.{◌≡◌, ◌≢◌, ◌⊎◌, ◌↔◌, ℕ, ◌*◌, ◌-◌, ◌%◌, ◌^◌, ◌<◌, ◌≤◌, min, false, List, [], ◌∷◌, ◌++◌, take, Option, None, Some, IsSome, IsSomeAnd, Result, OnErr}
use Rattle.std.proofs.Common.{Err, inl, inr, refl, sym, ◌∙◌, ap, subst, arith}
use Rattle.std.proofs.Math.Nat.{mul-mod_left}
use Rattle.std.specs.List.{Contains}
use Rattle.std.specs.Option.{unwrap_or}
use Rattle.std.proofs.lemmas.Bool.{cases_lt, cases_eq}
use Rattle.std.proofs.lemmas.List.{take_all}
use Rattle.blob_device.specs.declared.runtime.RError.TheVariants.{Fault, InvalidChecksum}
use Rattle.blob_device.specs.Disk.{Key, Blob, Disk}
use Rattle.blob_device.specs.Opened.{OpenedList}
use Rattle.blob_device.specs.Timeline.{Timeline, disk, Always, OnlyAt, Each}
use Rattle.blob_device.specs.lemmas.Moments.{always_weaker}
use Rattle.sealed_pages.specs.Buffer.{size_of, bytes_of, IsSealed}
use Rattle.sealed_pages.specs.ChanceSeal.{NoChanceSeal, Sealing}
use Rattle.sealed_pages.specs.ChanceSeal as chance
use Rattle.sealed_pages.specs.declared.page_blob.PageBlob.{PageBlob}
use Rattle.sealed_pages.specs.Flushing.{Alone}
use Rattle.sealed_pages.specs.Shown.{shown}
use Rattle.sealed_pages.specs.lemmas.memory.Holding.{fit_size}
use Rattle.section_manager.specs.lemmas.sections.Cut.{CutCall, CutMade, CutTried, CutWalked, cut_at, cut_moves, cut_same, cut_tried_more, cut_tried_start, cut_walked_more, cut_walked_start, cutting_of}
use Rattle.section_manager.specs.lemmas.sections.Over.{same_key}
use Rattle.section_manager.specs.lemmas.sections.Sync.{BufferLaws}
use Rattle.segments.specs.lemmas.adding.Write.{ArePages, are_pages, bytes_here, leaves_sealed, size_here}
use Rattle.section_manager.specs.contracts.sealed.PageBlobSectionBuffer.TheImpl.{ghosts}
use Rattle.section_manager.specs.declared.buffer.SectionBuffer as buffer
use Rattle.section_manager.specs.declared.journal.Error.{Error}
use Rattle.section_manager.specs.declared.journal.Error.TheVariants.{Runtime, Mem}
use Rattle.section_manager.specs.Entries.{OnlyOwnEntry}
use Rattle.section_manager.specs.Lasting.{IsLonger}
use Rattle.section_manager.specs.Lasting as lasting
use Rattle.section_manager.specs.Leaving.{Leaves}
use Rattle.section_manager.specs.Refusing.{HasDamage, HasFailed, IsPruned}
use Rattle.section_manager.specs.Sealed.{MayKeep}
use Rattle.section_manager.specs.SealedLaws.{passes, looser, counted, all_settled, rested, found_again, sealed_keeps}
use Rattle.section_manager.specs.Sections.{Sections, key_of, IsHeld, IsSame, SameBounds, IsKeyOf, IsCut}
use Rattle.section_manager.specs.Setting.{Setting}
use Rattle.segments.specs.FixedLists.{Lists, IsJournal, IsProven, section_bytes, section_size}
use Rattle.paired.specs.Reconciling.{CutTo, Shortening}
use Rattle.blob_device.proofs.general.Options.{none_or_value, some_of, some_same, value_of}

-- the laws of page blobs under this seal, and what their ghosts say
pub record PageLaws {S : Type 0} {gs : _} (g : buffer.Ghosts (PageBlob S gs)) (seal : List ℕ → ℕ) : Type 0 where
  pub buffers : BufferLaws g
  pub pages : ArePages g seal
  pub keeps : (u : PageBlob S gs) (b : Blob) (least : ℕ) (contents : List (List ℕ)) (c : List ℕ) → MayKeep seal (shown u) b least c → g.MayKeep u b least contents c
  pub chance : (u : PageBlob S gs) (contents : List (List ℕ)) (c : List ℕ) → g.NoChanceSeal u contents c → NoChanceSeal seal u.page_size contents c
  pub starts : g.StartsReads

pub page_laws : (R : _) (gs : _) (dict : _) → PageLaws (ghosts R gs dict) gs.seal_of
page_laws R gs dict = record {
  buffers = record {
    passes = λ u b stands. passes gs.seal_of (shown u) u.fit u.order b stands;
    looser = λ u b few more contents c le keeps. looser gs.seal_of (shown u) b few more c le keeps;
    counted = λ u b stands. counted (shown u) b.content;
    all_settled = λ u idle. all_settled (shown u) idle;
    rested = λ u b stands idle. rested gs.seal_of (shown u) b stands idle;
    found_again = λ u b stands sealed idle. found_again gs.seal_of (shown u) u.fit u.order b sealed idle;
  };
  pages = are_pages R gs dict;
  keeps = λ u b least contents c is. is;
  chance = λ u contents c no. no;
  starts = tt;
}

-- a section's size and what has settled of it are u64s
buffer_small : {S : Type 0} {gs : _} (u : PageBlob S gs) → size_of (shown u) < 2 ^ 64
buffer_small u = fit_size u.page_size u.first u.from u.tip.items u.fit

settled_small : {S : Type 0} {gs : _} (u : PageBlob S gs) → u.settled ≤ size_of (shown u)
settled_small u = omega (arith, u.order, u.fit.within)

-- the number to which a product is cut off
abbrev pub cut_off : ℕ → ℕ
cut_off n = min n (2 ^ 64 - 1)

small_or_off : (n : ℕ) → (cut_off n ≡ n) ⊎ (2 ^ 64 - 1 ≤ cut_off n)
small_or_off n = elim (cases_lt n (2 ^ 64)) [
  | inl lt ↦ inl (omega (arith, lt))
  | inr le ↦ inr (omega (arith, le))
]

-- a buffer's first bytes, of which there are fewer than 2^64, are the same up to such a number
pub same_min : (size n : ℕ) → size < 2 ^ 64 → min size (cut_off n) ≡ min size n
same_min size n lt = omega (arith, lt)

pub longer_same : (size n : ℕ) → size < 2 ^ 64 → cut_off n < size → n < size
longer_same size n lt longer = omega (arith, lt, longer)

-- a cut of one section to m bytes, as the call promises it, also where it fails
pub record CutsOne {F S Dev : Type 0} {gs : _} (j : Lists F (PageBlob S gs)) (seal : List ℕ → ℕ) (told : Type 0) (time : Dev → Timeline) (opened : Dev → OpenedList) (faults_of : Dev → ℕ) (m s : ℕ) (b c : Dev) : Type 0 where
  pub alone : told → Alone (key_of j.sections s) (time b) (time c)
  pub moments : told → (u : PageBlob S gs) → j.sections.held s ≡ Some u → IsSealed seal (shown u) (disk (time b) (key_of j.sections s))
      → Sealing seal u.page_size (section_bytes j.sections (disk (time b)) s) (min u.settled m) (key_of j.sections s) (time b) (time c)
  pub idle : (IsSomeAnd (j.sections.held s) (λ u. m < size_of (shown u)) → ⊥) → c ≡ b
  pub entries : OnlyOwnEntry (key_of j.sections s) (opened b) (opened c)
  pub faults : faults_of b ≤ faults_of c

-- and where it succeeds
pub record CutOne {F S Dev : Type 0} {gs : _} (j k : Lists F (PageBlob S gs)) (g : buffer.Ghosts (PageBlob S gs)) (gives : F → Setting) (seal : List ℕ → ℕ) (size : ℕ) (told : Type 0) (time : Dev → Timeline) (opened : Dev → OpenedList)
    (m s : ℕ) (b c : Dev) : Type 0 where
  pub over : IsJournal g gives seal size told k (opened c) (disk (time c))
  pub cut : (u : PageBlob S gs) → j.sections.held s ≡ Some u → IsSomeAnd (k.sections.held s) (λ v. IsCut g told m u v (disk (time b) (key_of j.sections s)) (disk (time c) (key_of j.sections s)))
  pub absent : j.sections.held s ≡ None → k.sections.held s ≡ None
  pub unopened : k.sections.unopened s ≡ j.sections.unopened s
  pub others : (q : ℕ) → q ≢ s → IsSame j.sections k.sections q
  pub bounds : SameBounds j.sections k.sections
  pub emptied : m ≡ 0 → k.unrecovered s ≡ false
  pub unrecovered : (q : ℕ) → (q ≢ s) ⊎ (0 < m) → k.unrecovered q ≡ j.unrecovered q
  pub lowered : k.floor_of s ≡ min (j.floor_of s) m
  pub floors : (q : ℕ) → q ≢ s → k.floor_of q ≡ j.floor_of q

-- what the cuts of the listed sections left of a journal, of which no section owes a replay, also where the last one failed
pub record RecordsTried {F S Dev : Type 0} {gs : _} (j : Lists F (PageBlob S gs)) (g : buffer.Ghosts (PageBlob S gs)) (gives : F → Setting) (size : ℕ) (told : Type 0) (time : Dev → Timeline) (opened : Dev → OpenedList) (faults_of : Dev → ℕ)
    (ends : ℕ → Option ℕ) (a b : Dev) : Type 0 where
  pub tried : CutTried g gives told time opened faults_of (λ s. CutTo size (ends s)) j.sections a b

-- what they made of it
pub record RecordsCut {F S Dev : Type 0} {gs : _} (j k : Lists F (PageBlob S gs)) (g : buffer.Ghosts (PageBlob S gs)) (gives : F → Setting) (seal : List ℕ → ℕ) (size : ℕ) (told : Type 0) (time : Dev → Timeline) (opened : Dev → OpenedList) (faults_of : Dev → ℕ)
    (ends : ℕ → Option ℕ) (ks : List ℕ) (a b : Dev) : Type 0 where
  pub walked : CutWalked g gives told time opened faults_of (λ s. CutTo size (ends s)) (Contains ks) j.sections k.sections a b
  pub tried : RecordsTried j g gives size told time opened faults_of ends a b
  pub journal : IsJournal g gives seal size told k (opened b) (disk (time b))
  pub proven : (s : ℕ) → IsProven k s

-- where a section is held, with how much of it
pub has_more : {T : Type 0} (o : Option T) (P Q : T → Type 0) → ((u : T) → P u → Q u) → IsSomeAnd o P → IsSomeAnd o Q
has_more None P Q more has = has
has_more (Some u) P Q more has = more u has

none_end : (size : ℕ) (o : Option ℕ) → o ≡ None → IsSome (CutTo size o) → ⊥
none_end size o is some = absurd (cc (subst (λ (x : Option ℕ). IsSome (CutTo size x)) is some))

some_end : (size : ℕ) (o : Option ℕ) → IsSome (CutTo size o) → IsSome o
some_end size None some = some
some_end size (Some n) some = refl

cut_some : (size : ℕ) (o : Option ℕ) → IsSome (CutTo size o) → (n : ℕ) × ((o ≡ Some n) × (CutTo size o ≡ Some (n * size)))
cut_some size None some = absurd (cc some)
cut_some size (Some n) some = (n, (refl, refl))

module _ {F S Dev : Type 0} {gs : _} (g : buffer.Ghosts (PageBlob S gs)) (gives : F → Setting) (seal : List ℕ → ℕ) (size : ℕ) (told : Type 0) (time : Dev → Timeline) (opened : Dev → OpenedList) (faults_of : Dev → ℕ)
    (laws : PageLaws g seal) (ends : ℕ → Option ℕ) where
  abbrev Size : ℕ → Option ℕ
  Size s = CutTo size (ends s)

  -- nothing was cut yet
  pub cuts_start : (j : Lists F (PageBlob S gs)) (a : Dev) → IsJournal g gives seal size told j (opened a) (disk (time a)) → ((s : ℕ) → IsProven j s)
      → RecordsCut j j g gives seal size told time opened faults_of ends [] a a
  cuts_start j a journal proven = record {
    walked = cut_walked_start g gives told time opened faults_of Size j.sections a journal.over;
    tried = record { tried = cut_tried_start g gives told time opened faults_of Size laws.buffers j.sections a journal.over };
    journal = journal;
    proven = proven;
  }

  -- a cut of a proven section to as many bytes as a u64 counts is one to n bytes
  module _ (k : Lists F (PageBlob S gs)) (n s : ℕ) (b c : Dev) (journal : IsJournal g gives seal size told k (opened b) (disk (time b))) (proven : (s : ℕ) → IsProven k s) where
    abbrev here : Key
    here = key_of k.sections s

    keeps_at : CutsOne k seal told time opened faults_of (cut_off n) s b c → told → (u : PageBlob S gs) → k.sections.held s ≡ Some u
        → Always (time b) (time c) (OnlyAt here (disk (time b)) (λ x. (w : PageBlob S gs) → k.sections.held s ≡ Some w → Leaves (g.NoChanceSeal w) (g.MayKeep w (disk (time b) here) (min (g.settled w) n)) x))
    keeps_at call t u held =
        let from : Blob = disk (time b) here in
        let sealed : IsSealed seal (shown u) from = (journal.disk t).sealed s u held (proven s) in
        let least : min u.settled (cut_off n) ≡ min (g.settled u) n = omega (arith, buffer_small u, settled_small u, laws.pages.settled u) in
        always_weaker (time b) (time c) (OnlyAt here (disk (time b)) (chance.Leaves seal u.page_size (section_bytes k.sections (disk (time b)) s) (min u.settled (cut_off n))))
        (OnlyAt here (disk (time b)) (λ x. (w : PageBlob S gs) → k.sections.held s ≡ Some w → Leaves (g.NoChanceSeal w) (g.MayKeep w from (min (g.settled w) n)) x))
        (λ d only. record {
          here = λ w is. subst (λ (v : PageBlob S gs). Leaves (g.NoChanceSeal v) (g.MayKeep v from (min (g.settled v) n)) (d here)) (some_same u w (sym held ∙ is))
              (to_ghosts u from (d here) (min (g.settled u) n) (sealed_keeps seal (shown u) from (d here) (min (g.settled u) n) sealed
              (subst (λ (m : ℕ). chance.Leaves seal u.page_size (bytes_of (shown u) from.content) m (d here)) least
              (subst (λ (bytes : List ℕ). chance.Leaves seal u.page_size bytes (min u.settled (cut_off n)) (d here)) (bytes_here k.sections s u held (disk (time b))) only.here))));
          others = only.others;
        }) (call.moments t u held sealed)
      where
        keeps_some : (u : PageBlob S gs) (from x : Blob) (least : ℕ) (contents : List (List ℕ)) (o : Option (List ℕ)) → IsSomeAnd o (λ c. NoChanceSeal seal u.page_size contents c → MayKeep seal (shown u) from least c)
            → IsSomeAnd o (λ c. g.NoChanceSeal u contents c → g.MayKeep u from least contents c)
        keeps_some u from x least contents None has = has
        keeps_some u from x least contents (Some c) has = λ no. laws.keeps u from least contents c (has (laws.chance u contents c no))

        to_ghosts : (u : PageBlob S gs) (from x : Blob) (least : ℕ) → Leaves (NoChanceSeal seal u.page_size) (λ _. MayKeep seal (shown u) from least) x → Leaves (g.NoChanceSeal u) (g.MayKeep u from least) x
        to_ghosts u from x least leaves left may = keeps_some u from x least _ left (leaves left may)

    cut_call : CutsOne k seal told time opened faults_of (cut_off n) s b c → CutCall g gives told time opened faults_of n s k.sections b c
    cut_call call = record {
      moments = λ t. elim (none_or_value (k.sections.held s)) [
        | inl none ↦ always_weaker (time b) (time c) (OnlyAt here (disk (time b)) (λ x. Unit {0}))
            (OnlyAt here (disk (time b)) (λ x. (w : PageBlob S gs) → k.sections.held s ≡ Some w → Leaves (g.NoChanceSeal w) (g.MayKeep w (disk (time b) here) (min (g.settled w) n)) x))
            (λ d only. record { here = λ w is. absurd (cc (none, is)); others = only.others }) (call.alone t)
        | inr some ↦ keeps_at call t some.0 some.1
      ];
      idle = λ not. call.idle (λ longer. not (has_more (k.sections.held s) (λ u. cut_off n < size_of (shown u)) (λ u. n < g.byte_count u)
          (λ u is. omega (arith, longer_same (size_of (shown u)) n (buffer_small u) is, laws.pages.count u)) longer));
      entries = call.entries;
      reads = λ none. absurd (none laws.starts);
      faults = call.faults;
    }

    cut_to : (u v : PageBlob S gs) (x y : Blob) → (told → g.Stands u x) → IsCut g told (cut_off n) u v x y → IsCut g told n u v x y
    cut_to u v x y stands did = elim (small_or_off n) [
      | inl is ↦ subst (λ (m : ℕ). IsCut g told m u v x y) is did
      | inr off ↦
          let small : g.byte_count u ≤ cut_off n = omega (arith, off, buffer_small u, laws.pages.count u) in
          let few : g.byte_count u ≤ n = omega (arith, small) in
          cut_moves g gives told n u v x x x y (λ t. refl) (λ t. did.stays t small)
          (subst (λ (w : PageBlob S gs). IsCut g told n u w x x) (sym (did.same small)) (cut_same g gives told laws.buffers n u x stands few))
    ]

    cut_made : (r : Lists F (PageBlob S gs)) → CutOne k r g gives seal size told time opened (cut_off n) s b c → CutMade g gives told time opened n s k.sections r.sections b c
    cut_made r made = record {
      over = made.over.over;
      cut = λ u held. has_more (r.sections.held s) (λ v. IsCut g told (cut_off n) u v (disk (time b) here) (disk (time c) here)) (λ v. IsCut g told n u v (disk (time b) here) (disk (time c) here))
          (λ v did. cut_to u v (disk (time b) here) (disk (time c) here) (λ t. (journal.over.disk t).stands s u held) did) (made.cut u held);
      absent = made.absent;
      unopened = made.unopened;
      others = made.others;
      bounds = made.bounds;
    }

    -- it is to whole records, and safe
    pub whole_cut : (count : ℕ) → n ≡ count * size → IsSomeAnd (k.sections.held s) (λ u. cut_off n < size_of (shown u)) → cut_off n % size ≡ 0
    whole_cut count is longer =
        let u = value_of (k.sections.held s) (λ u. cut_off n < size_of (shown u)) longer in
        let same : cut_off n ≡ count * size = omega (arith, is, buffer_small u.value, u.has) in
        rw same (times_rest count size)
      where
        times_rest : (a m : ℕ) → (a * m) % m ≡ 0
        times_rest a m = mul-mod_left a m

    still_proven : (r : Lists F (PageBlob S gs)) → CutOne k r g gives seal size told time opened (cut_off n) s b c → (q : ℕ) → IsProven r q
    still_proven r made q = record {
      checked = elim (cases_eq q s) [
        | inl is ↦ elim (cases_eq (cut_off n) 0) [
          | inl none ↦ subst (λ (x : ℕ). r.unrecovered x ≡ false) (sym is) (made.emptied none)
          | inr some ↦ made.unrecovered q (inr (omega (arith, some))) ∙ (proven q).checked
        ]
        | inr other ↦ made.unrecovered q (inl other) ∙ (proven q).checked
      ];
      free = elim (cases_eq q s) [
        | inl is ↦ subst (λ (x : ℕ). r.floor_of x ≡ 0) (sym is) (omega (arith, made.lowered, (proven s).free))
        | inr other ↦ made.floors q other ∙ (proven q).free
      ];
    }

  -- one cut more
  module _ (j k : Lists F (PageBlob S gs)) (ks : List ℕ) (s count : ℕ) (is_end : ends s ≡ Some count) (a b : Dev) (began : IsJournal g gives seal size told j (opened a) (disk (time a)))
      (cut : RecordsCut j k g gives seal size told time opened faults_of ends ks a b) (c : Dev) (call : CutsOne k seal told time opened faults_of (cut_off (count * size)) s b c) where
    to_size : Size s ≡ Some (count * size)
    to_size = ap (λ (o : Option ℕ). CutTo size o) is_end

    -- also where it fails
    pub tried_more : RecordsTried j g gives size told time opened faults_of ends a c
    tried_more = record {
      tried = cut_tried_more g gives told time opened faults_of Size laws.buffers ks s (count * size) to_size j.sections k.sections a b began.over cut.walked c cut.tried.tried
          (cut_call k (count * size) s b c cut.journal cut.proven call);
    }

    pub cuts_more : (r : Lists F (PageBlob S gs)) → CutOne k r g gives seal size told time opened (cut_off (count * size)) s b c → RecordsCut j r g gives seal size told time opened faults_of ends (ks ++ s ∷ []) a c
    cuts_more r made = record {
      walked = cut_walked_more g gives told time opened faults_of Size laws.buffers ks s (count * size) to_size j.sections k.sections a b began.over cut.walked c cut.tried.tried
          (cut_call k (count * size) s b c cut.journal cut.proven call) r.sections (cut_made k (count * size) s b c cut.journal cut.proven r made);
      tried = tried_more;
      journal = made.over;
      proven = still_proven k (count * size) s b c cut.journal cut.proven r made;
    }

  -- what the cuts leave of the blobs
  module _ (j : Lists F (PageBlob S gs)) (a b : Dev) (began : IsJournal g gives seal size told j (opened a) (disk (time a))) (proven : (s : ℕ) → IsProven j s)
      (tried : RecordsTried j g gives size told time opened faults_of ends a b) where
    longer_of : (s : ℕ) (o : Option ℕ) → IsSomeAnd o (IsLonger g j.sections s) → IsSomeAnd o (λ n. IsSomeAnd (j.sections.held s) (λ u. n < size_of (shown u)))
    longer_of s o = has_more o (IsLonger g j.sections s) (λ n. IsSomeAnd (j.sections.held s) (λ u. n < size_of (shown u)))
        (λ n. has_more (j.sections.held s) (λ u. n < g.byte_count u) (λ u. n < size_of (shown u)) (λ u is. omega (arith, is, laws.pages.count u)))

    pub cuts_moments : told → Always (time a) (time b) (Each (Shortening seal j.sections (λ s. CutTo size (ends s)) (disk (time a))))
    cuts_moments t = always_weaker (time a) (time b) (Each (lasting.Cutting g j.sections Size (disk (time a)))) (Each (Shortening seal j.sections (λ s. CutTo size (ends s)) (disk (time a))))
        (λ d each q. record {
          shortened = λ s n u to held is. leaves_sealed seal g laws.pages u (disk (time a) q) (d q) (min (g.settled u) n) (min u.settled n) (ap (λ (m : ℕ). min m n) (laws.pages.settled u))
              (subst (λ (x : Key). IsSealed seal (shown u) (disk (time a) x)) (sym is) ((began.disk t).sealed s u held (proven s))) ((each q).shortened s n u to held is);
          others = λ none. (each q).others (λ k. none (k.0, longer_of k.0 (Size k.0) k.1, k.2));
        }) (cutting_of g gives told Size time opened faults_of j.sections a b tried.tried t)

    pub cuts_idle : ((s n : ℕ) → ends s ≡ Some n → section_size j.sections s ≤ n * size) → b ≡ a
    cuts_idle within = tried.tried.idle (λ s u named held acts.
        let n = cut_some size (ends s) named in
        let to : cut_at g gives told Size s ≡ n.0 * size = ap (λ (o : Option ℕ). unwrap_or o 0) n.1.1 in
        let all : section_size j.sections s ≡ size_of (shown u) = size_here j.sections s u held in
        absurd (omega (arith, acts, to, all, laws.pages.count u, within s n.0 n.1.0)))

    pub cuts_entries : (q : Key) → (IsKeyOf j.sections (λ s. IsSome (ends s)) q → ⊥) → opened b q ≡ opened a q
    cuts_entries q none = tried.tried.entries q (λ k. none (k.0, some_end size (ends k.0) k.1.0, k.2))

  -- what the cuts of all sections that have an end made of the journal
  module _ (j k : Lists F (PageBlob S gs)) (ks : List ℕ) (a b : Dev) (cut : RecordsCut j k g gives seal size told time opened faults_of ends ks a b)
      (all : (s : ℕ) → Contains ks s ↔ IsSome (ends s)) where
    done_of : (s n : ℕ) → ends s ≡ Some n → Contains ks s
    done_of s n is = (all s).1 (subst IsSome (sym is) refl)

    at_is : (s n : ℕ) → ends s ≡ Some n → cut_at g gives told Size s ≡ n * size
    at_is s n is = ap (λ (o : Option ℕ). unwrap_or (CutTo size o) 0) is

    key_now : (s : ℕ) → key_of k.sections s ≡ key_of j.sections s
    key_now s = same_key j.sections k.sections cut.walked.bounds s

    -- the section that was cut, as it is now
    record Shorter (s n : ℕ) (u : PageBlob S gs) : Type 0 where
      pub v : PageBlob S gs
      pub now : k.sections.held s ≡ Some v
      pub did : IsCut g told (n * size) u v (disk (time a) (key_of j.sections s)) (disk (time b) (key_of j.sections s))

    shorter : (s n : ℕ) (u : PageBlob S gs) → ends s ≡ Some n → j.sections.held s ≡ Some u → Shorter s n u
    shorter s n u is held =
        let w = value_of (k.sections.held s) (λ v. IsCut g told (cut_at g gives told Size s) u v (disk (time a) (key_of j.sections s)) (disk (time b) (key_of j.sections s))) (cut.walked.did s u (done_of s n is) held) in
        record {
          v = w.value;
          now = w.is;
          did = subst (λ (m : ℕ). IsCut g told m u w.value (disk (time a) (key_of j.sections s)) (disk (time b) (key_of j.sections s))) (at_is s n is) w.has;
        }

    pub cuts_cut : told → (s n : ℕ) → ends s ≡ Some n → section_bytes k.sections (disk (time b)) s ≡ take (n * size) (section_bytes j.sections (disk (time a)) s)
    cuts_cut t s n is = elim (none_or_value (j.sections.held s)) [
      | inl none ↦ no_bytes k.sections (disk (time b)) s (cut.walked.absent s none) ∙ sym (ap (take (n * size)) (no_bytes j.sections (disk (time a)) s none) ∙ take_all (n * size) [] (omega arith))
      | inr some ↦
          let w = shorter s n some.0 is some.1 in
          bytes_here k.sections s w.v w.now (disk (time b)) ∙ ap (λ (q : Key). bytes_of (shown w.v) (disk (time b) q).content) (key_now s) ∙ sym (laws.pages.bytes w.v (disk (time b) (key_of j.sections s)).content)
          ∙ w.did.bytes t ∙ ap (take (n * size)) (laws.pages.bytes some.0 (disk (time a) (key_of j.sections s)).content ∙ sym (bytes_here j.sections s some.0 some.1 (disk (time a))))
    ]
      where
        no_bytes : (m : Sections F (PageBlob S gs)) (d : Disk) (s : ℕ) → m.held s ≡ None → section_bytes m d s ≡ []
        no_bytes m d s none = rw none refl

    pub cuts_sizes : (s n : ℕ) → ends s ≡ Some n → section_size k.sections s ≡ min (section_size j.sections s) (n * size)
    cuts_sizes s n is = elim (none_or_value (j.sections.held s)) [
      | inl none ↦ no_size k.sections s (cut.walked.absent s none) ∙ sym (ap (λ (m : ℕ). min m (n * size)) (no_size j.sections s none) ∙ (let e : min 0 (n * size) ≡ 0 = omega arith in e))
      | inr some ↦
          let w = shorter s n some.0 is some.1 in
          size_here k.sections s w.v w.now ∙ sym (laws.pages.count w.v) ∙ w.did.size ∙ ap (λ (m : ℕ). min m (n * size)) (laws.pages.count some.0 ∙ sym (size_here j.sections s some.0 some.1))
    ]
      where
        no_size : (m : Sections F (PageBlob S gs)) (s : ℕ) → m.held s ≡ None → section_size m s ≡ 0
        no_size m s none = rw none refl

    pub cuts_others : (s : ℕ) → ends s ≡ None → IsSame j.sections k.sections s
    cuts_others s none = record { held = cut.walked.others s (λ done. absurd (cc (subst IsSome none ((all s).0 done)))); unopened = cut.walked.unopened s }

    pub cuts_held : (s : ℕ) → IsHeld k.sections s ↔ IsHeld j.sections s
    cuts_held s = (
      λ is. elim (none_or_value (j.sections.held s)) [
        | inl none ↦ absurd (cc (subst IsSome (cut.walked.absent s none) is))
        | inr some ↦ subst IsSome (sym some.1) refl
      ],
      λ is. elim (none_or_value (ends s)) [
        | inl none ↦ subst IsSome (sym (cuts_others s none).held) is
        | inr end ↦ (let u = some_of (j.sections.held s) is in let w = shorter s end.0 u.0 end.1 u.1 in subst IsSome (sym w.now) refl)
      ],
    )

    pub cuts_settled : ((s : ℕ) (u : PageBlob S gs) → j.sections.held s ≡ Some u → g.unsettled u ≡ false) → (s : ℕ) (u : PageBlob S gs) → k.sections.held s ≡ Some u → g.unsettled u ≡ false
    cuts_settled settled s v held = elim (none_or_value (ends s)) [
      | inl none ↦ settled s v (sym (cuts_others s none).held ∙ held)
      | inr end ↦ elim (none_or_value (j.sections.held s)) [
        | inl absent ↦ absurd (cc (cut.walked.absent s absent, held))
        | inr some ↦ (let w = shorter s end.0 some.0 end.1 some.1 in
            subst (λ (x : PageBlob S gs). g.unsettled x ≡ false) (some_same w.v v (sym w.now ∙ held)) (elim (cases_lt (end.0 * size) (g.byte_count some.0)) [
              | inl longer ↦ w.did.done longer
              | inr within ↦ subst (λ (x : PageBlob S gs). g.unsettled x ≡ false) (sym (w.did.same within)) (settled s some.0 some.1)
            ]))
      ]
    ]

-- ---- errors that are handed on, where no section was pruned
module _ {T U : Type 0} (r : Result T Error) (e : Error) (floor first before now s : ℕ) (is : r ≡ Err e) (le : first ≤ before) (none : floor ≡ 0) (guard : IsPruned {T = U} (Err e) floor → s < floor) where
  failed_since : HasFailed {T = U} (Err e) before now → HasFailed r first now
  failed_since (inl memory) = let same : e ≡ Mem = cc memory in inl (is ∙ ap (λ (y : Error). let some : Result T Error = Err y in some) same)
  failed_since (inr fault) = let same : e ≡ Runtime Fault = cc fault.0 in inr (is ∙ ap (λ (y : Error). let some : Result T Error = Err y in some) same, omega (arith, fault.1, le))

  pub cause_cut : IsPruned {T = U} (Err e) floor ⊎ (HasDamage {T = U} (Err e) ⊎ HasFailed {T = U} (Err e) before now) → OnErr r (HasDamage r ⊎ HasFailed r first now)
  cause_cut why = subst (λ (y : Result T Error). OnErr y (HasDamage r ⊎ HasFailed r first now)) (sym is) (go why)
    where
      go : IsPruned {T = U} (Err e) floor ⊎ (HasDamage {T = U} (Err e) ⊎ HasFailed {T = U} (Err e) before now) → HasDamage r ⊎ HasFailed r first now
      go (inl pruned) = absurd (omega (arith, guard pruned, none))
      go (inr (inl damage)) = let same : e ≡ Runtime (InvalidChecksum damage.0) = cc damage.1 in inl (damage.0, is ∙ ap (λ (y : Error). let some : Result T Error = Err y in some) same)
      go (inr (inr failed)) = inr (failed_since failed)

  pub cause_gone : IsPruned {T = U} (Err e) floor ⊎ HasFailed {T = U} (Err e) before now → OnErr r (HasFailed r first now)
  cause_gone why = subst (λ (y : Result T Error). OnErr y (HasFailed r first now)) (sym is) (go why)
    where
      go : IsPruned {T = U} (Err e) floor ⊎ HasFailed {T = U} (Err e) before now → HasFailed r first now
      go (inl pruned) = absurd (omega (arith, guard pruned, none))
      go (inr failed) = failed_since failed
