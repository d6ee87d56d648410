-- What a crash leaves while the two blobs are opened reads as something that a crash left before.
use Rattle.std.proofs.Common.{◌≡◌, inl, inr, ℕ, ◌<◌, ◌≤◌, ◌^◌, min, max, Bool, true, false, not, ◌||◌, cond, List, [], ◌∷◌, ◌++◌, length, take, Option, Some, None, refl, sym, ◌∙◌, ap, subst, arith}
use Rattle.std.specs.List.{AllByRecursion}
use Rattle.blob_device.specs.Disk.{Blob, Disk, HoldsBytes, PastAgrees, Agrees, AreBytes, AbsentIsNothing, MayHold, MayLeave, reads, past, least, greatest, shortest, longest, settled_at, nothing}
use Rattle.blob_device.specs.Change.{Make, during}
use Rattle.meta_store.specs.declared.copy.Contents.{Contents}
use Rattle.meta_store.specs.declared.copy.CopyText.{CopyText}
use Rattle.meta_store.specs.declared.copy.CopyText.TheVariants.{Absent, Refused, Whole}
use Rattle.meta_store.specs.declared.copy.Form.{Form}
use Rattle.meta_store.specs.declared.error.Side.TheVariants.{Left, Right}
use Rattle.meta_store.specs.Format.{Format}
use Rattle.meta_store.specs.Copies.{IsSealedAs, IsAbsentBy, ReadsAs, copy_length}
use Rattle.meta_store.specs.Pairs.{HoldMap}
use Rattle.meta_store.specs.Blobs.{blob_of, bytes_of, read_bytes}
use Rattle.meta_store.specs.Crashes.{SamePlace, SomeByRecursion, NoChanceSeal, ReadsNoChance, Keeps, KeepsAlone, HoldEither}
use Rattle.meta_store.specs.Opening.{Opens, as_before, begun, made, settled, Opening}
use Rattle.meta_store.specs.lemmas.Leaving.{settled_content}
use Rattle.meta_store.specs.lemmas.Sealing.{empty_absent, reads_alike, same_place, sealed_or_absent}
use Rattle.std.proofs.lemmas.Bool.{cases_Bool}

-- what a device promises of a blob
pub record IsPromised (b : Blob) : Type 0 where
  pub bytes : HoldsBytes b
  pub agrees : PastAgrees b
  pub absent : AbsentIsNothing b
  pub as_read : MayLeave b (reads b)

-- the lengths of contents are between the least and the greatest
between_least : (n : ℕ) (cs : List (List ℕ)) → (least n cs ≤ n) × AllByRecursion (λ c. least n cs ≤ length c) cs
between_least n [] = (omega arith, tt)
between_least n (c ∷ cs) =
    let rest = between_least n cs in
    let low : min (length c) (least n cs) ≤ least n cs = omega arith in
    (omega (arith, rest.0), (omega arith, lower (least n cs) (min (length c) (least n cs)) low cs rest.1))
  where
    lower : (high low : ℕ) → low ≤ high → (ds : List (List ℕ)) → AllByRecursion (λ d. high ≤ length d) ds → AllByRecursion (λ d. low ≤ length d) ds
    lower high low le [] all = tt
    lower high low le (d ∷ ds) all = (omega (arith, le, all.0), lower high low le ds all.1)

between_greatest : (n : ℕ) (cs : List (List ℕ)) → (n ≤ greatest n cs) × AllByRecursion (λ c. length c ≤ greatest n cs) cs
between_greatest n [] = (omega arith, tt)
between_greatest n (c ∷ cs) =
    let rest = between_greatest n cs in
    let high : greatest n cs ≤ max (length c) (greatest n cs) = omega arith in
    (omega (arith, rest.0), (omega arith, higher (greatest n cs) (max (length c) (greatest n cs)) high cs rest.1))
  where
    higher : (low high : ℕ) → low ≤ high → (ds : List (List ℕ)) → AllByRecursion (λ d. length d ≤ low) ds → AllByRecursion (λ d. length d ≤ high) ds
    higher low high le [] all = tt
    higher low high le (d ∷ ds) all = (omega (arith, le, all.0), higher low high le ds all.1)

-- a crash may leave each content that the blob had
past_held : (b : Blob) → IsPromised b → AllByRecursion (MayHold b) (past b)
past_held b lawful =
    let low = between_least (length b.settled) b.since in
    let high = between_greatest (length b.settled) b.since in
    each (past b) (low.0, low.1) (high.0, high.1) lawful.agrees lawful.bytes.past
  where
    each : (cs : List (List ℕ)) → AllByRecursion (λ c. shortest b ≤ length c) cs → AllByRecursion (λ c. length c ≤ longest b) cs → AllByRecursion (Agrees b) cs → AllByRecursion AreBytes cs → AllByRecursion (MayHold b) cs
    each [] low high agrees bytes = tt
    each (c ∷ cs) low high agrees bytes = (record { no_shorter = low.0; no_longer = high.0; kept = agrees.0; bytes = bytes.0 }, each cs low.1 high.1 agrees.1 bytes.1)

module _ {K V : Type 0} (f : Format K V) where
  -- a content that a crash of the blob leaves, without a chance seal, reads as these bytes do
  pub record LikeBefore (b : Blob) (c : List ℕ) : Type 0 where
    pub left : Option (List ℕ)
    pub may : MayLeave b left
    pub none : NoChanceSeal f.seal (past b) (bytes_of left)
    pub alike : (t : CopyText K V) → ReadsAs f (bytes_of left) t → ReadsAs f c t

  same_as_before : (b : Blob) (l : Option (List ℕ)) → MayLeave b l → NoChanceSeal f.seal (past b) (bytes_of l) → LikeBefore b (bytes_of l)
  same_as_before b l may none = record { left = l; may = may; none = none; alike = λ t is. is }

  -- where the blob is not there, bytes without a copy read as no blob
  lacks_copy : (b : Blob) (c : List ℕ) → b.there ≡ false → IsAbsentBy f.seal c → LikeBefore b c
  lacks_copy b c there lacks = record { left = None; may = ap (λ (t : Bool). not t || b.unsure) there; none = λ v form body s. absurd (empty_absent f.seal v form body s); alike = alike }
    where
      alike : (t : CopyText K V) → ReadsAs f [] t → ReadsAs f c t
      alike Absent is = lacks
      alike (Refused v) is = absurd (empty_absent f.seal v is.form is.body is.sealed)
      alike (Whole v floor entries) is = absurd (empty_absent f.seal v _ _ is.sealed)

  -- bytes with the copy of a content that the blob had read as that content
  module _ (b : Blob) (lawful : IsPromised b) (c : List ℕ) (v : ℕ) (form : Form) (body : List ℕ) (s : IsSealedAs f.seal c v form body) (maybe : b.unsure ≡ true) where
    from_past : (p : List ℕ) → MayHold b p → SamePlace (copy_length form body) p c → NoChanceSeal f.seal (past b) p → LikeBefore b c
    from_past p held same none = record {
      left = Some p;
      may = (ap (λ (u : Bool). b.there || u) maybe ∙ either b.there, held);
      none = none;
      alike = reads_alike f p c v form body (same_place f.seal p c v form body same s) s;
    }
      where
        either : (t : Bool) → (t || true) ≡ true
        either true = refl
        either false = refl

    find : (ps : List (List ℕ)) → AllByRecursion (MayHold b) ps → ((p : List ℕ) → SomeByRecursion (λ q. q ≡ p) ps → NoChanceSeal f.seal (past b) p) → SomeByRecursion (λ p. SamePlace (copy_length form body) p c) (ps ++ [] ∷ []) → LikeBefore b c
    find [] held none (inl same) = absurd (empty_absent f.seal v form body (same_place f.seal [] c v form body same s))
    find [] held none (inr nothing) = absurd nothing
    find (p ∷ ps) held none (inl same) = from_past p held.0 same (none p (inl refl))
    find (p ∷ ps) held none (inr later) = find ps held.1 (λ q is. none q (inr is)) later

  -- a content that the blob had has no chance seal
  own_seal : (ps : List (List ℕ)) (p : List ℕ) → SomeByRecursion (λ q. q ≡ p) ps → NoChanceSeal f.seal ps p
  own_seal [] p none v form body s = absurd none
  own_seal (q ∷ ps) p (inl is) v form body s = inl (ap (take (copy_length form body)) is)
  own_seal (q ∷ ps) p (inr later) v form body s = inr (own_seal ps p later v form body s)

  module _ (fits : (l : List ℕ) → f.seal l < 2 ^ 32) where
    -- a blob that is not there, while it is made
    making : (there' : Bool) (b : Blob) → IsPromised b → b.there ≡ false → (l : Option (List ℕ)) → MayLeave (record b { there = there'; content = []; unsure = true; since = b.since ++ [] ∷ [] }) l
        → NoChanceSeal f.seal (b.settled ∷ (b.since ++ [] ∷ [])) (bytes_of l) → LikeBefore b (bytes_of l)
    making there' b lawful there None may none = lacks_copy b [] there (empty_absent f.seal)
    making there' b lawful there (Some c) may none = elim (sealed_or_absent f.seal fits c may.1.bytes) [
      | inl s ↦ elim (cases_Bool b.unsure) [
        | inl maybe ↦ find b lawful c s.version s.form s.body s.is maybe (past b) (past_held b lawful) (λ p is. own_seal (past b) p is) (none s.version s.form s.body s.is)
        | inr sure ↦ absurd (no_past s.version s.form s.body s.is (subst (λ (x : Blob). SomeByRecursion (λ p. SamePlace (copy_length s.form s.body) p c) (past x ++ [] ∷ [])) (lawful.absent there sure) (none s.version s.form s.body s.is)))
      ]
      | inr lacks ↦ lacks_copy b c there lacks
    ]
      where
        no_past : (v : ℕ) (form : Form) (body : List ℕ) → IsSealedAs f.seal c v form body → SomeByRecursion (λ p. SamePlace (copy_length form body) p c) ([] ∷ [] ∷ []) → ⊥
        no_past v form body s (inl same) = empty_absent f.seal v form body (same_place f.seal [] c v form body same s)
        no_past v form body s (inr (inl same)) = empty_absent f.seal v form body (same_place f.seal [] c v form body same s)
        no_past v form body s (inr (inr none)) = none

    pub by_opens : (b d : Blob) → IsPromised b → ReadsNoChance f.seal b → Opens b d → (l : Option (List ℕ)) → MayLeave d l → NoChanceSeal f.seal (past d) (bytes_of l) → LikeBefore b (bytes_of l)
    by_opens b d lawful chance opens l may none = go opens l may none
      where
        as_it_was : (x : Blob) → x ≡ b → (l : Option (List ℕ)) → MayLeave x l → NoChanceSeal f.seal (past x) (bytes_of l) → LikeBefore b (bytes_of l)
        as_it_was x is l may none = same_as_before b l (subst (λ (y : Blob). MayLeave y l) is may) (subst (λ (y : Blob). NoChanceSeal f.seal (past y) (bytes_of l)) is none)

        as_read : (l : Option (List ℕ)) → MayLeave (settled_at (read_bytes b)) l → LikeBefore b (bytes_of l)
        as_read None may = absurd (cc may)
        as_read (Some c) may = record { left = reads b; may = lawful.as_read; none = chance; alike = λ t is. subst (λ (x : List ℕ). ReadsAs f x t) (sym (settled_content (read_bytes b) c may.1)) is }

        begins : (v : Bool) → b.there ≡ v → (x : Blob) → x ≡ during Make b → (l : Option (List ℕ)) → MayLeave x l → NoChanceSeal f.seal (past x) (bytes_of l) → LikeBefore b (bytes_of l)
        begins true there x is l may none = as_it_was x (is ∙ ap (λ (t : Bool). cond t b (record b { content = []; unsure = true; since = b.since ++ [] ∷ [] })) there) l may none
        begins false there x is l may none =
            let same = is ∙ ap (λ (t : Bool). cond t b (record b { content = []; unsure = true; since = b.since ++ [] ∷ [] })) there in
            making b.there b lawful there l (subst (λ (y : Blob). MayLeave y l) same may) (subst (λ (y : Blob). NoChanceSeal f.seal (past y) (bytes_of l)) same none)

        makes : (v : Bool) → b.there ≡ v → (x : Blob) → x ≡ record (during Make b) { there = true } → (l : Option (List ℕ)) → MayLeave x l → NoChanceSeal f.seal (past x) (bytes_of l) → LikeBefore b (bytes_of l)
        makes true there x is l may none = as_it_was x
            (is ∙ ap (λ (t : Bool). record (cond t b (record b { content = []; unsure = true; since = b.since ++ [] ∷ [] })) { there = true }) there ∙ ap (λ (t : Bool). record b { there = t }) (sym there)) l may none
        makes false there x is l may none =
            let same = is ∙ ap (λ (t : Bool). record (cond t b (record b { content = []; unsure = true; since = b.since ++ [] ∷ [] })) { there = true }) there in
            making true b lawful there l (subst (λ (y : Blob). MayLeave y l) same may) (subst (λ (y : Blob). NoChanceSeal f.seal (past y) (bytes_of l)) same none)

        go : Opens b d → (l : Option (List ℕ)) → MayLeave d l → NoChanceSeal f.seal (past d) (bytes_of l) → LikeBefore b (bytes_of l)
        go (as_before is) l may none = as_it_was d is l may none
        go (begun is) l may none = begins b.there refl d is l may none
        go (made is) l may none = makes b.there refl d is l may none
        go (settled is) l may none = as_read l (subst (λ (y : Blob). MayLeave y l) is may)

    holds_alike : (left right left' right' : List ℕ) (contents : Contents K V) → ((t : CopyText K V) → ReadsAs f left t → ReadsAs f left' t) → ((t : CopyText K V) → ReadsAs f right t → ReadsAs f right' t)
        → HoldMap f left right contents → HoldMap f left' right' contents
    holds_alike left right left' right' contents l r h = record {
      chosen = h.chosen;
      reads = record {
        left_text = h.reads.left_text;
        right_text = h.reads.right_text;
        left_reads = l h.reads.left_text h.reads.left_reads;
        right_reads = r h.reads.right_text h.reads.right_reads;
        is = h.reads.is;
      };
      map = h.map;
    }

    -- while both blobs are opened a crash leaves what it left before
    pub opening_keeps : (p : List ℕ) (one other : Contents K V) (from : Disk) → IsPromised (from (blob_of p Left)) → IsPromised (from (blob_of p Right)) → Keeps f p one other from
        → ReadsNoChance f.seal (from (blob_of p Left)) → ReadsNoChance f.seal (from (blob_of p Right)) → (d : Disk) → Opening p from d → KeepsAlone f p one other from d
    opening_keeps p one other from lawful_l lawful_r keeps chance_l chance_r d opening = record {
      keeps = record {
        crash = λ l r may_l may_r none_l none_r.
            let x = by_opens (from (blob_of p Left)) (d (blob_of p Left)) lawful_l chance_l opening.left l may_l none_l in
            let y = by_opens (from (blob_of p Right)) (d (blob_of p Right)) lawful_r chance_r opening.right r may_r none_r in
            either x.left y.left l r x.alike y.alike (keeps.crash x.left y.left x.may y.may x.none y.none);
      };
      others = opening.others;
    }
      where
        either : (l' r' l r : Option (List ℕ)) → ((t : CopyText K V) → ReadsAs f (bytes_of l') t → ReadsAs f (bytes_of l) t) → ((t : CopyText K V) → ReadsAs f (bytes_of r') t → ReadsAs f (bytes_of r) t)
            → HoldEither f p one other (bytes_of l') (bytes_of r') → HoldEither f p one other (bytes_of l) (bytes_of r)
        either l' r' l r of_l of_r (inl h) = inl (holds_alike (bytes_of l') (bytes_of r') (bytes_of l) (bytes_of r) one of_l of_r h)
        either l' r' l r of_l of_r (inr h) = inr (holds_alike (bytes_of l') (bytes_of r') (bytes_of l) (bytes_of r) other of_l of_r h)
