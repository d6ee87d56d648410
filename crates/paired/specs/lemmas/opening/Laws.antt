-- A disk with nothing pending may be opened, and each crash leaves it as it reads; and what two calls after one another recall.
use Rattle.std.specs.Prelude.{◌≡◌, ℕ, ◌^◌, ◌<◌, ◌≤◌, ⊤, cond, Bool, true, false, List, [], ◌∷◌, length, take, IsTrue, Option, None, Some, unwrap_or}
use Rattle.std.proofs.Common.{inl, inr, refl, sym, ◌∙◌, ap, subst, arith, length-take}
use Rattle.std.specs.List.{AllByRecursion}
use Rattle.std.proofs.lemmas.List.{take_all, take-take}
use Rattle.std.proofs.lemmas.List.Elements.{Contains-push}
use Rattle.blob_device.specs.Disk.{Key, Blob, Disk, Image, IsCrashOf, IsSettled, NothingPending, AbsentIsNothing, AreBytes, MayLeave, past, reads, longest}
use Rattle.sealed_pages.specs.ChanceSeal as pages
use Rattle.section_manager.specs.SealedLaws.{no_chance}
use Rattle.section_manager.specs.Sections.{section_key}
use Rattle.meta_store.specs.declared.error.Side.{Side}
use Rattle.meta_store.specs.Blobs.{blob_of}
use Rattle.meta_store.specs.Crashes as metadata
use Rattle.meta_store.specs.lemmas.Leaving.{settled_content}
use Rattle.paired.specs.lemmas.opening.Ends.{same_order}
use Rattle.paired.specs.Crashes.{IsOwn, NoChanceSeal, WasThere}
use Rattle.paired.specs.Kept.{Layout, Markers, marker_of, content_at, stored_records, is_sound_in, kept}
use Rattle.paired.specs.Records.{Entry}
use Rattle.paired.specs.Opening.{as_read, IsLawful, Relation, IsOrder, Same, KeepsBy, KeepsAllBy, KeepsAll, MayBeOpened, RecallsBy, Recalls}

-- a blob of which nothing is pending
abbrev pub settled_as : Bool → List ℕ → Blob
settled_as there c = record { there = there; content = c; unsure = false; settled = c; since = []; loose = [] }

pub shaped : (b : Blob) → IsSettled b → b ≡ settled_as b.there b.content
shaped b settled = λ i. record { there = b.there; content = b.content; unsure = settled.sure i; settled = sym settled.content i; since = settled.since i; loose = settled.loose i }

left_so : (there : Bool) (c : List ℕ) (l : Option (List ℕ)) → MayLeave (settled_as there c) l → l ≡ reads (settled_as there c)
left_so true c None may = absurd (cc may)
left_so false c None may = refl
left_so true c (Some x) may = ap (λ (y : List ℕ). let some : List ℕ → Option (List ℕ) = λ z. Some z in some y) (settled_content c x may.1)
left_so false c (Some x) may = absurd (cc may.0)

-- each crash leaves it as it reads
pub left_as_read : (b : Blob) → IsSettled b → (l : Option (List ℕ)) → MayLeave b l → l ≡ reads b
left_as_read b settled l = subst (λ (x : Blob). MayLeave x l → l ≡ reads x) (sym (shaped b settled)) (left_so b.there b.content l)

pub crash_as_read : (d : Disk) (image : Image) → NothingPending d → IsCrashOf d image → image ≡ as_read d
crash_as_read d image settled crash = λ i k. left_as_read (d k) (settled k) (image k) (crash k) i

-- it had one content
one_past : (b : Blob) → IsSettled b → past b ≡ b.content ∷ []
one_past b settled = λ i. sym settled.content i ∷ settled.since i

-- which is what it reads as, none where it is not there
reads_content : (b : Blob) → IsSettled b → AbsentIsNothing b → unwrap_or (reads b) [] ≡ b.content
reads_content b settled absent = go b.there refl
  where
    go : (there : Bool) → b.there ≡ there → unwrap_or (reads b) [] ≡ b.content
    go true is = ap (λ (t : Bool). unwrap_or (cond t (Some b.content) None) []) is
    go false is = ap (λ (t : Bool). unwrap_or (cond t (Some b.content) None) []) is ∙ sym (ap (λ (x : Blob). x.content) (absent is settled.sure))

-- what holds of what a content is, and of that content alone in the past, holds of the blob
of_content : (P : List (List ℕ) → List ℕ → Type 0) (b : Blob) → IsSettled b → AbsentIsNothing b → ((c : List ℕ) → P (c ∷ []) c) → P (past b) (unwrap_or (reads b) [])
of_content P b settled absent has =
    subst (λ (contents : List (List ℕ)). P contents (unwrap_or (reads b) [])) (sym (one_past b settled))
    (subst (P (b.content ∷ [])) (sym (reads_content b settled absent)) (has b.content))

each_of : {X : Type 0} (P : X → Type 0) → ((x : X) → P x) → (xs : List X) → AllByRecursion P xs
each_of P has [] = tt
each_of P has (x ∷ xs) = (has x, each_of P has xs)

was_there : (c : List ℕ) (at : ℕ × ℕ) → WasThere (c ∷ []) c at
was_there c (at, n) = inl refl

module _ (l : Layout) where
  -- a blob of any section, or of the markers
  abbrev pub IsPairs : Key → Type 0
  IsPairs q = IsOwn l (λ _. ⊤) q

  -- Nothing is pending of the pair's blobs.
  pub record AreSettled (d : Disk) : Type 0 where
    pub settled : (q : Key) → IsPairs q → IsSettled (d q)
    pub absent : (q : Key) → IsPairs q → AbsentIsNothing (d q)
    pub bytes : (q : Key) → IsPairs q → AreBytes (d q).content

  pub index_own : (s : ℕ) → s < 2 ^ 64 → IsPairs (section_key l.index s)
  index_own s small = inl (s, small, tt, refl)

  pub values_own : (s : ℕ) → s < 2 ^ 64 → IsPairs (section_key l.values s)
  values_own s small = inr (inl (s, small, tt, refl))

  pub copy_own : (side : Side) → IsPairs (blob_of l.metadata side)
  copy_own side = inr (inr (side, refl))

  -- an image that has the pair's blobs as they read has no chance seal
  module _ (d : Disk) (settled : (q : Key) → IsPairs q → IsSettled (d q)) (absent : (q : Key) → IsPairs q → AbsentIsNothing (d q)) (image : Image) (same : (q : Key) → IsPairs q → image q ≡ reads (d q)) where
    at_own : (P : List (List ℕ) → List ℕ → Type 0) (q : Key) → IsPairs q → ((c : List ℕ) → P (c ∷ []) c) → P (past (d q)) (unwrap_or (image q) [])
    at_own P q own has = subst (λ (o : Option (List ℕ)). P (past (d q)) (unwrap_or o [])) (sym (same q own)) (of_content P (d q) (settled q own) (absent q own) has)

    pub no_chance_read : NoChanceSeal l d image
    no_chance_read = record {
      slots = λ s small. at_own (λ contents c. pages.NoChanceSeal l.seal l.page_size contents c) (section_key l.index s) (index_own s small) (λ c. no_chance l.seal l.page_size (c ∷ []) c (Contains-push [] c));
      frames = λ s small. each_of (λ r. IsTrue (is_sound_in l image s r) → WasThere (past (d (section_key l.values s))) (content_at image l.values s) (l.place r))
          (λ r sound. at_own (λ contents c. WasThere contents c (l.place r)) (section_key l.values s) (values_own s small) (λ c. was_there c (l.place r))) (stored_records l image s);
      copies = λ is side. at_own (λ contents c. metadata.NoChanceSeal l.markers.seal contents c) (blob_of l.metadata side) (copy_own side) (λ c version form body sealed. inl refl);
    }

  pub nothing_pending : (d : Disk) → NothingPending d → ((k : Key) → AbsentIsNothing (d k)) → MayBeOpened l d
  nothing_pending d settled absent = record {
    no_chance = no_chance_read d (λ q own. settled q) (λ q own. absent q) (as_read d) (λ q own. refl);
    named = λ image crash s small slots. each_of (λ r. IsTrue (is_sound_in l (as_read d) s r) → WasThere (past (d (section_key l.values s))) (content_at (as_read d) l.values s) (l.place r))
        (λ r sound. at_own d (λ q own. settled q) (λ q own. absent q) (as_read d) (λ q own. refl) (λ contents c. WasThere contents c (l.place r)) (section_key l.values s) (values_own s small) (λ c. was_there c (l.place r))) (stored_records l image s);
    absent = λ s small none. ap longest (absent (section_key l.index s) none (settled (section_key l.index s)).sure);
    values_absent = λ s small none. ap longest (absent (section_key l.values s) none (settled (section_key l.values s)).sure);
  }

  -- ---- by a relation
  module _ (Rel : Relation) where
    pub recalls_all_by : (from d : Disk) (markers : Markers) → NothingPending from → IsLawful l (as_read from) markers → RecallsBy l Rel from d → KeepsAllBy l Rel (as_read from) markers d
    recalls_all_by from d markers settled lawful recalls image crash fresh =
        let known = recalls image crash fresh in
        let same : known.old ≡ as_read from = crash_as_read from known.old settled known.crash in
        subst (λ (old : Image). IsLawful l old markers → KeepsBy l Rel old markers image) same (known.keeps markers) lawful

    module _ (order : IsOrder Rel) where
      -- an image keeps what it keeps
      pub keeps_itself : (image : Image) (markers : Markers) → IsLawful l image markers → KeepsBy l Rel image markers image
      keeps_itself image markers lawful = record {
        markers = markers;
        lawful = lawful;
        same = λ s small. order.itself s (kept l image (marker_of markers.entries s) s);
        stored = λ s small. sym (take_all (length (stored_records l image s)) (stored_records l image s) (omega arith));
      }

      -- a disk recalls itself
      pub recalls_itself : (d : Disk) → RecallsBy l Rel d d
      recalls_itself d image crash fresh = record { old = image; crash = crash; no_chance = fresh; keeps = keeps_itself image }

      -- what keeps what keeps
      pub keeps_on_by : (a b c : Image) (one : Markers) (keeps : KeepsBy l Rel a one b) → KeepsBy l Rel b keeps.markers c → KeepsBy l Rel a one c
      keeps_on_by a b c one first second = record {
        markers = second.markers;
        lawful = second.lawful;
        same = λ s small. order.onward s (kept l c (marker_of second.markers.entries s) s) (kept l b (marker_of first.markers.entries s) s) (kept l a (marker_of one.entries s) s) (second.same s small) (first.same s small);
        stored = λ s small.
            let m : ℕ = length (stored_records l b s) in
            let n : ℕ = length (stored_records l c s) in
            let le : n ≤ m = omega (arith, ap length (second.stored s small), length-take n (stored_records l b s)) in
            second.stored s small ∙ ap (take n) (first.stored s small) ∙ take-take n m (stored_records l a s) le;
      }

      pub recalls_on_by : (a b c : Disk) → RecallsBy l Rel a b → RecallsBy l Rel b c → RecallsBy l Rel a c
      recalls_on_by a b c first second image crash fresh =
          let now = second image crash fresh in
          let before = first now.old now.crash now.no_chance in
          record {
            old = before.old;
            crash = before.crash;
            no_chance = before.no_chance;
            keeps = λ markers lawful. (let kept_before = before.keeps markers lawful in keeps_on_by before.old now.old image markers kept_before (now.keeps kept_before.markers kept_before.lawful));
          }

    -- what keeps all keeps so much, where each relation holds of what the other holds of
    pub recalls_weaker : (Less : Relation) → ((s : ℕ) (found list : List Entry) → Rel s found list → Less s found list) → (a b : Disk) → RecallsBy l Rel a b → RecallsBy l Less a b
    recalls_weaker Less weaker a b recalls image crash fresh =
        let now = recalls image crash fresh in
        record {
          old = now.old;
          crash = now.crash;
          no_chance = now.no_chance;
          keeps = λ markers lawful. (let keeps = now.keeps markers lawful in
              record { markers = keeps.markers; lawful = keeps.lawful; same = λ s small. weaker s (kept l image (marker_of keeps.markers.entries s) s) (kept l now.old (marker_of markers.entries s) s) (keeps.same s small); stored = keeps.stored });
        }

  pub recalls_all : (from d : Disk) (markers : Markers) → NothingPending from → IsLawful l (as_read from) markers → Recalls l from d → KeepsAll l (as_read from) markers d
  recalls_all = recalls_all_by Same

  pub recalls_on : (a b c : Disk) → Recalls l a b → Recalls l b c → Recalls l a c
  recalls_on = recalls_on_by Same same_order
