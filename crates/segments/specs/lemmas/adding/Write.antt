-- What a fixed journal keeps of one section, and that it is a journal where it keeps that of each.
use Rattle.std.proofs.Common.{◌≡◌, ◌⊎◌, inl, inr, ℕ, ◌%◌, ◌<◌, min, Bool, true, false, List, length, Option, None, Some, IsSome, IsSomeAnd, IsTrue, refl, sym, ◌∙◌, ap, subst, arith, not, ◌==◌}
use Rattle.std.proofs.lemmas.Bool.{cases_eq}
use Rattle.std.proofs.lemmas.Bool.Decides.{nat_tests}
use Rattle.blob_device.specs.Disk.{Key, Blob, Disk, past}
use Rattle.blob_device.specs.Opened.{OpenedList}
use Rattle.sealed_pages.specs.Buffer.{size_of, bytes_of, IsSealed}
use Rattle.sealed_pages.specs.Buffer.{key_of as page_key}
use Rattle.sealed_pages.specs.ChanceSeal.{NoChanceSeal}
use Rattle.sealed_pages.specs.ChanceSeal as chance
use Rattle.sealed_pages.specs.declared.page_blob.PageBlob.{PageBlob}
use Rattle.sealed_pages.specs.SealedPrefix.{sealed_prefix, Prefix}
use Rattle.sealed_pages.specs.Unrecovered.{IsUnrecovered}
use Rattle.sealed_pages.specs.Shown.{shown}
use Rattle.section_manager.specs.contracts.sealed.PageBlobSectionBuffer.TheImpl.{ghosts}
use Rattle.section_manager.specs.declared.buffer.SectionBuffer as buffer
use Rattle.section_manager.specs.Leaving.{Leaves}
use Rattle.section_manager.specs.Sealed.{is_unsettled, adopted_bytes, Stands, MayKeep}
use Rattle.section_manager.specs.Sections.{Sections, key_of, IsHeld, IsSame, SameBounds, IsOver, IsSynced}
use Rattle.section_manager.specs.Setting.{Setting}
use Rattle.section_manager.specs.lemmas.sections.Over.{same_key}
use Rattle.segments.specs.FixedLists.{Lists, section_bytes, section_size, IsJournal, IsProven}
use Rattle.blob_device.proofs.general.Options.{some_same}

pub settled_idle : (m n : ℕ) → m ≡ n → not (m == n) ≡ false
settled_idle m n is = grind (arith, nat_tests)

-- The buffers are page blobs under this seal.
pub record ArePages {S : Type 0} {gs : _} (g : buffer.Ghosts (PageBlob S gs)) (seal : List ℕ → ℕ) : Type 0 where
  pub key : (u : PageBlob S gs) → g.key u ≡ page_key (shown u)
  pub count : (u : PageBlob S gs) → g.byte_count u ≡ size_of (shown u)
  pub settled : (u : PageBlob S gs) → g.settled u ≡ u.settled
  pub unsettled : (u : PageBlob S gs) → g.unsettled u ≡ is_unsettled (shown u)
  pub page_size : (u : PageBlob S gs) → (g.setting u).page_size ≡ u.page_size
  pub bytes : (u : PageBlob S gs) (c : List ℕ) → g.bytes u c ≡ bytes_of (shown u) c
  pub holds : (s : Setting) (c : List ℕ) → g.holds s c ≡ adopted_bytes seal s.page_size c
  pub stands : (u : PageBlob S gs) (b : Blob) → g.Stands u b → Stands seal (shown u) b
  pub is_stands : (u : PageBlob S gs) (b : Blob) → Stands seal (shown u) b → g.Stands u b
  pub is_whole : (u : PageBlob S gs) (b : Blob) → IsSealed seal (shown u) b → g.IsWhole u b
  pub whole : (u : PageBlob S gs) (b : Blob) → g.IsWhole u b → IsSealed seal (shown u) b
  pub keeps : (u : PageBlob S gs) (b : Blob) (least : ℕ) (contents : List (List ℕ)) (c : List ℕ) → g.MayKeep u b least contents c → MayKeep seal (shown u) b least c
  pub no_chance : (u : PageBlob S gs) (contents : List (List ℕ)) (c : List ℕ) → NoChanceSeal seal u.page_size contents c → g.NoChanceSeal u contents c

pub are_pages : (R : _) (gs : _) (dict : _) → ArePages (ghosts R gs dict) gs.seal_of
are_pages R gs dict = record {
  key = λ u. refl;
  count = λ u. refl;
  settled = λ u. refl;
  unsettled = λ u. refl;
  page_size = λ u. refl;
  bytes = λ u c. refl;
  holds = λ s c. refl;
  stands = λ u b is. is;
  is_stands = λ u b is. is;
  is_whole = λ u b is. is;
  whole = λ u b is. is;
  keeps = λ u b least contents c is. is;
  no_chance = λ u contents c no. no;
}

module _ {F S : Type 0} {gs : _} (m : Sections F (PageBlob S gs)) (s : ℕ) (u : PageBlob S gs) (held : m.held s ≡ Some u) where
  pub size_here : section_size m s ≡ size_of (shown u)
  size_here = rw held refl

  pub bytes_here : (d : Disk) → section_bytes m d s ≡ bytes_of (shown u) (d (key_of m s)).content
  bytes_here d = rw held refl

-- a section that is proven was, if it owed no more and had the same floor
pub proven_back : {F B : Type 0} (j k : Lists F B) (s : ℕ) → k.unrecovered s ≡ j.unrecovered s → k.floor_of s ≡ j.floor_of s → IsProven k s → IsProven j s
proven_back j k s owes floors is = record { checked = sym owes ∙ is.checked; free = sym floors ∙ is.free }

pub proven_or_not : {F B : Type 0} (j : Lists F B) (s : ℕ) → IsProven j s ⊎ (IsProven j s → ⊥)
proven_or_not j s = go (j.unrecovered s) refl
  where
    go : (owes : Bool) → j.unrecovered s ≡ owes → IsProven j s ⊎ (IsProven j s → ⊥)
    go true owed = inr (λ is. absurd (cc (owed, is.checked)))
    go false checked = elim (cases_eq (j.floor_of s) 0) [ inl free ↦ inl (record { checked = checked; free = free }) | inr floor ↦ inr (λ is. floor is.free) ]

module _ {F S : Type 0} {gs : _} (seal : List ℕ → ℕ) (size : ℕ) (told : Type 0) where
  -- what a journal keeps of one section
  pub record IsFine (j : Lists F (PageBlob S gs)) (d : Disk) (s : ℕ) : Type 0 where
    pub owes_held : IsTrue (j.unrecovered s) → IsHeld j.sections s
    pub owes_settled : (u : PageBlob S gs) → j.sections.held s ≡ Some u → IsTrue (j.unrecovered s) → u.settled ≡ size_of (shown u)
    pub sealed : told → (u : PageBlob S gs) → j.sections.held s ≡ Some u → IsProven j s → IsSealed seal (shown u) (d (key_of j.sections s))
    pub whole : told → (u : PageBlob S gs) → j.sections.held s ≡ Some u → j.unrecovered s ≡ false → size_of (shown u) % size ≡ 0
    pub later : told → IsSome (j.sections.unopened s) → j.sections.ceiling < s

  module _ (g : buffer.Ghosts (PageBlob S gs)) (gives : F → Setting) (j : Lists F (PageBlob S gs)) (opened : OpenedList) (d : Disk) where
    pub fine_of : IsJournal g gives seal size told j opened d → (s : ℕ) → IsFine j d s
    fine_of is s = record {
      owes_held = is.owes_held.held s;
      owes_settled = is.owes_settled.settled s;
      sealed = λ t. (is.disk t).sealed s;
      whole = λ t. (is.disk t).whole s;
      later = λ t. (is.unopened t).later s;
    }

    pub journal_of : IsOver g gives told j.sections opened d → ((s : ℕ) → IsFine j d s) → IsJournal g gives seal size told j opened d
    journal_of over fine = record {
      over = over;
      owes_held = record { held = λ s. (fine s).owes_held };
      owes_settled = record { settled = λ s. (fine s).owes_settled };
      disk = λ t. record { sealed = λ s. (fine s).sealed t; whole = λ s. (fine s).whole t };
      unopened = λ t. record { later = λ s. (fine s).later t };
    }

  module _ (j k : Lists F (PageBlob S gs)) (d e : Disk) (s : ℕ) (bounds : SameBounds j.sections k.sections) (fine : IsFine j d s) where
    -- the section is as before, and owes a replay as before
    pub fine_same : IsSame j.sections k.sections s → k.unrecovered s ≡ j.unrecovered s → (IsProven k s → IsProven j s) → (told → (u : PageBlob S gs) → j.sections.held s ≡ Some u → e (key_of j.sections s) ≡ d (key_of j.sections s)) → IsFine k e s
    fine_same same owes proven blob = record {
      owes_held = λ is. subst IsSome (sym same.held) (fine.owes_held (sym owes ∙ is));
      owes_settled = λ u held is. fine.owes_settled u (sym same.held ∙ held) (sym owes ∙ is);
      sealed = λ t u held is. (let was : j.sections.held s ≡ Some u = sym same.held ∙ held in
          subst (IsSealed seal (shown u)) (sym (ap e (same_key j.sections k.sections bounds s) ∙ blob t u was)) (fine.sealed t u was (proven is)));
      whole = λ t u held is. fine.whole t u (sym same.held ∙ held) (sym owes ∙ is);
      later = λ t is. omega (arith, bounds.ceiling, fine.later t (subst IsSome same.unopened is));
    }

    -- it is held no more than before
    pub fine_none : j.sections.held s ≡ None → k.sections.held s ≡ None → k.sections.unopened s ≡ j.sections.unopened s → (IsTrue (k.unrecovered s) → IsTrue (j.unrecovered s)) → IsFine k e s
    fine_none was none unopened owes = record {
      owes_held = λ is. absurd (none_held was (fine.owes_held (owes is)));
      owes_settled = λ u held is. absurd (cc (none, held));
      sealed = λ t u held is. absurd (cc (none, held));
      whole = λ t u held is. absurd (cc (none, held));
      later = λ t is. omega (arith, bounds.ceiling, fine.later t (subst IsSome unopened is));
    }
      where
        none_held : {T : Type 0} {o : Option T} → o ≡ None → IsSome o → ⊥
        none_held none some = absurd (cc (subst IsSome none some))

    -- a sync made it
    pub fine_synced : (g : buffer.Ghosts (PageBlob S gs)) → ArePages g seal → (u v : PageBlob S gs) → j.sections.held s ≡ Some u → k.sections.held s ≡ Some v → k.sections.unopened s ≡ j.sections.unopened s → k.unrecovered s ≡ j.unrecovered s
        → (IsProven k s → IsProven j s) → IsSynced g told u v (d (key_of j.sections s)) (e (key_of j.sections s)) → IsFine k e s
    fine_synced g pages u v was now unopened owes proven did = record {
      owes_held = λ is. subst IsSome (sym now) refl;
      owes_settled = λ w held is. subst (λ (x : PageBlob S gs). x.settled ≡ size_of (shown x)) (some_same v w (sym now ∙ held)) (sym (pages.settled v) ∙ did.settled ∙ sym did.size ∙ pages.count v);
      sealed = λ t w held is. subst (λ (x : PageBlob S gs). IsSealed seal (shown x) (e (key_of k.sections s))) (some_same v w (sym now ∙ held))
          (subst (λ (q : Key). IsSealed seal (shown v) (e q)) (sym (same_key j.sections k.sections bounds s))
          (pages.whole v (e (key_of j.sections s)) (did.whole t (pages.is_whole u (d (key_of j.sections s)) (fine.sealed t u was (proven is))))));
      whole = λ t w held is. subst (λ (x : PageBlob S gs). size_of (shown x) % size ≡ 0) (some_same v w (sym now ∙ held))
          (ap (λ (n : ℕ). n % size) (sym (pages.count v) ∙ did.size ∙ pages.count u) ∙ fine.whole t u was (sym owes ∙ is));
      later = λ t is. omega (arith, bounds.ceiling, fine.later t (subst IsSome unopened is));
    }

module _ {S : Type 0} {gs : _} (seal : List ℕ → ℕ) (g : buffer.Ghosts (PageBlob S gs)) (pages : ArePages g seal) (u : PageBlob S gs) where
  -- what passes the test of a sealed buffer is a prefix of its bytes
  pub leaves_sealed : (from b : Blob) (least n : ℕ) → least ≡ n → IsSealed seal (shown u) from → Leaves (g.NoChanceSeal u) (g.MayKeep u from least) b → chance.Leaves seal u.page_size (bytes_of (shown u) from.content) n b
  leaves_sealed from b least n same sealed leaves left may = go left (leaves left may)
    where
      go : (l : Option (List ℕ)) → IsSomeAnd l (λ c. g.NoChanceSeal u (past b) c → g.MayKeep u from least (past b) c)
          → IsSomeAnd l (λ c. NoChanceSeal seal u.page_size (past b) c → Prefix seal u.page_size (bytes_of (shown u) from.content) n c)
      go None has = has
      go (Some c) has = λ no. subst (λ (m : ℕ). Prefix seal u.page_size (bytes_of (shown u) from.content) m c) same ((pages.keeps u from least (past b) c (has (pages.no_chance u (past b) c no))).sealed sealed)

  -- what passes the test of one that is not is a prefix of its sealed prefix
  pub leaves_prefix : (from b : Blob) (least n : ℕ) → min least (length (sealed_prefix seal u.page_size from.content)) ≡ n → IsUnrecovered seal (shown u) from → Leaves (g.NoChanceSeal u) (g.MayKeep u from least) b
      → chance.Leaves seal u.page_size (sealed_prefix seal u.page_size from.content) n b
  leaves_prefix from b least n same un leaves left may = go left (leaves left may)
    where
      go : (l : Option (List ℕ)) → IsSomeAnd l (λ c. g.NoChanceSeal u (past b) c → g.MayKeep u from least (past b) c)
          → IsSomeAnd l (λ c. NoChanceSeal seal u.page_size (past b) c → Prefix seal u.page_size (sealed_prefix seal u.page_size from.content) n c)
      go None has = has
      go (Some c) has = λ no. subst (λ (m : ℕ). Prefix seal u.page_size (sealed_prefix seal u.page_size from.content) m c) same ((pages.keeps u from least (past b) c (has (pages.no_chance u (past b) c no))).unrecovered un)
