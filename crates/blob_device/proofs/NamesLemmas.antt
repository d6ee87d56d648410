-- The names that are there, found in the order of a map.
use Rattle.std.proofs.Common.{◌≡◌, ◌≢◌, ◌⊎◌, ◌↔◌, inl, inr, ⊎_elim, ℕ, zero, suc, ◌<◌, Bool, true, false, cond, List, [], ◌∷◌, ◌++◌, length, get_or, Option, Some, Vec, IsTrue, append_assoc, refl, sym, ◌∙◌, ap, subst, arith}
use Rattle.std.specs.List.{Contains, AllByRecursion}
use Rattle.std.specs.List.Sorted.{IsStrictlySortedBy}
use Rattle.std.specs.Map.{lookup, keys_of}
use Rattle.std.specs.Ordering.{nat_cmp, is_eq}
use Rattle.std.specs.declared.cmp.Ordering.TheVariants.{Less}
use Rattle.std.specs.Cmp.Lexicographic.{slice_cmp}
use Rattle.std.specs.declared.alloc.Global.{Global}
use Rattle.std.proofs.lemmas.Map.Text.{is_eq-slice_cmp}
use Rattle.std.proofs.lemmas.Slice.Eq.{bytes_eq-Decides}
use Rattle.blob_device.specs.declared.memory.blob_log.BlobLog.{BlobLog}
use Rattle.blob_device.specs.Disk.{Key, Blob, AreNamesIn}
use Rattle.blob_device.specs.Timeline.{disk}
use Rattle.blob_device.specs.Laws.{disk_now}
use Rattle.blob_device.specs.NamesThere.{names_where, there_in, NamesThere}
use Rattle.blob_device.specs.Calls.{now, replay, Track, no_track, timeline_of, IsSound}
use Rattle.blob_device.specs.Tracks.{track_of, track_at}
use Rattle.blob_device.specs.Tables.{by_bytes}
use Rattle.blob_device.proofs.Maps.{same_or_differ, differ}

abbrev pub Logs : Type 0
Logs = List (Vec ℕ Global × BlobLog)

in_head : (x : List ℕ) (xs : List (List ℕ)) → Contains (x ∷ xs) x
in_head x xs = (0, omega arith, refl)

in_tail : (x y : List ℕ) (xs : List (List ℕ)) → Contains xs y → Contains (x ∷ xs) y
in_tail x y xs found = (suc found.0, omega (arith, found.1), found.2)

in_split : (x y : List ℕ) (xs : List (List ℕ)) → Contains (x ∷ xs) y → (x ≡ y) ⊎ Contains xs y
in_split x y xs found = go found.0 found.1 found.2
  where
    go : (k : ℕ) → k < length (x ∷ xs) → get_or (x ∷ xs) k y ≡ y → (x ≡ y) ⊎ Contains xs y
    go zero lt is = inl is
    go (suc k) lt is = inr (k, omega arith, is)

in_none : (y : List ℕ) → Contains [] y → ⊥
in_none y found = absurd (omega (arith, found.1))

-- names behind a key come after it
behind_step : (x y : Vec ℕ Global) (ys : List (List ℕ)) (name : List ℕ) → by_bytes x y ≡ Less → (Contains ys name → slice_cmp nat_cmp x.items name ≡ Less) → (v : Bool) → Contains (cond v (y.items ∷ ys) ys) name → slice_cmp nat_cmp x.items name ≡ Less
behind_step x y ys name less more true found = ⊎_elim (λ (is : y.items ≡ name). subst (λ (l : List ℕ). slice_cmp nat_cmp x.items l ≡ Less) is less) more (in_split y.items name ys found)
behind_step x y ys name less more false found = more found

-- the same, as a fact of each of them
all_step : (P : List ℕ → Type 0) (y : List ℕ) (ys : List (List ℕ)) (v : Bool) → P y → AllByRecursion P ys → AllByRecursion P (cond v (y ∷ ys) ys)
all_step P y ys true here more = (here, more)
all_step P y ys false here more = more

sorted_step : (y : List ℕ) (ys : List (List ℕ)) (v : Bool) → AllByRecursion (λ (z : List ℕ). slice_cmp nat_cmp y z ≡ Less) ys → IsStrictlySortedBy (slice_cmp nat_cmp) ys → IsStrictlySortedBy (slice_cmp nat_cmp) (cond v (y ∷ ys) ys)
unfolding IsStrictlySortedBy
sorted_step y ys true all sorted = (all, sorted)
sorted_step y ys false all sorted = sorted

abbrev pub found_at : Logs → List ℕ → Option BlobLog
found_at es name = lookup (λ (k : Vec ℕ Global). is_eq (slice_cmp nat_cmp name k.items)) es

pub not_before_itself : (x : List ℕ) → slice_cmp nat_cmp x x ≡ Less → ⊥
not_before_itself x less = let same : is_eq (slice_cmp nat_cmp x x) ≡ true = is_eq-slice_cmp x x ∙ (bytes_eq-Decides x x).1 refl in
    let differs : is_eq (slice_cmp nat_cmp x x) ≡ false = ap is_eq less in cc (same, differs)

module _ (e : Vec ℕ Global × BlobLog) (es : Logs) where
  pub here : found_at (e ∷ es) e.0.items ≡ Some e.1
  here = ap (λ (b : Bool). cond b (Some e.1) (found_at es e.0.items)) (is_eq-slice_cmp e.0.items e.0.items ∙ (bytes_eq-Decides e.0.items e.0.items).1 refl)

  pub past : (name : List ℕ) → name ≢ e.0.items → found_at (e ∷ es) name ≡ found_at es name
  past name other = ap (λ (b : Bool). cond b (Some e.1) (found_at es name)) (is_eq-slice_cmp name e.0.items ∙ differ e.0.items name (λ is. other (sym is)))

-- The names of the logs whose blob passes a test.
module _ (keep : Blob → Bool) where
  behind : (x : Vec ℕ Global) (es : Logs) → AllByRecursion (λ y. by_bytes x y ≡ Less) (keys_of es) → (name : List ℕ) → Contains (names_where keep es) name → slice_cmp nat_cmp x.items name ≡ Less
  behind x [] all name found = absurd (in_none name found)
  behind x (e ∷ es) all name found = behind_step x e.0 (names_where keep es) name all.0 (λ more. behind x es all.1 name more) (keep (now (track_of e.1))) found

  behind_all : (x : Vec ℕ Global) (es : Logs) → AllByRecursion (λ y. by_bytes x y ≡ Less) (keys_of es) → AllByRecursion (λ (y : List ℕ). slice_cmp nat_cmp x.items y ≡ Less) (names_where keep es)
  behind_all x [] all = tt
  behind_all x (e ∷ es) all = all_step (λ (y : List ℕ). slice_cmp nat_cmp x.items y ≡ Less) e.0.items (names_where keep es) (keep (now (track_of e.1))) all.0 (behind_all x es all.1)

  pub where_ascending : (es : Logs) → IsStrictlySortedBy by_bytes (keys_of es) → IsStrictlySortedBy (slice_cmp nat_cmp) (names_where keep es)
  unfolding IsStrictlySortedBy
  where_ascending [] sorted = tt
  where_ascending (e ∷ es) sorted = sorted_step e.0.items (names_where keep es) (keep (now (track_of e.1))) (behind_all e.0 es sorted.0) (where_ascending es sorted.1)

  module _ (e : Vec ℕ Global × BlobLog) (es : Logs) where
    at_head : AllByRecursion (λ y. by_bytes e.0 y ≡ Less) (keys_of es) → (v : Bool) → keep (now (track_of e.1)) ≡ v
        → Contains (cond (keep (now (track_of e.1))) (e.0.items ∷ names_where keep es) (names_where keep es)) e.0.items ↔ IsTrue (keep (now (track_at (found_at (e ∷ es) e.0.items))))
    at_head all true is = (
      λ found. ap (λ (o : Option BlobLog). keep (now (track_at o))) (here e es) ∙ is,
      λ there. subst (λ (w : Bool). Contains (cond w (e.0.items ∷ names_where keep es) (names_where keep es)) e.0.items) (sym is) (in_head e.0.items (names_where keep es)),
    )
    at_head all false is = (
      λ found. absurd (not_before_itself e.0.items (behind e.0 es all e.0.items (subst (λ (w : Bool). Contains (cond w (e.0.items ∷ names_where keep es) (names_where keep es)) e.0.items) is found))),
      λ there. absurd (let gone = ap (λ (o : Option BlobLog). keep (now (track_at o))) (here e es) in cc (there, gone, is)),
    )

    smaller : (name : List ℕ) → name ≢ e.0.items → (v : Bool) → Contains (cond v (e.0.items ∷ names_where keep es) (names_where keep es)) name → Contains (names_where keep es) name
    smaller name other true found = ⊎_elim (λ (is : e.0.items ≡ name). absurd (other (sym is))) (λ (more : Contains (names_where keep es) name). more) (in_split e.0.items name (names_where keep es) found)
    smaller name other false found = found

    larger : (name : List ℕ) (v : Bool) → Contains (names_where keep es) name → Contains (cond v (e.0.items ∷ names_where keep es) (names_where keep es)) name
    larger name true found = in_tail e.0.items name (names_where keep es) found
    larger name false found = found

    at_tail : (name : List ℕ) → name ≢ e.0.items → (Contains (names_where keep es) name ↔ IsTrue (keep (now (track_at (found_at es name)))))
        → (v : Bool) → Contains (cond v (e.0.items ∷ names_where keep es) (names_where keep es)) name ↔ IsTrue (keep (now (track_at (found_at (e ∷ es) name))))
    at_tail name other rest v = let same = ap (λ (o : Option BlobLog). keep (now (track_at o))) (past e es name other) in
        (λ found. same ∙ rest.0 (smaller name other v found), λ there. larger name v (rest.1 (sym same ∙ there)))

  pub where_each : keep (now no_track) ≡ false → (es : Logs) → IsStrictlySortedBy by_bytes (keys_of es) → (name : List ℕ) → Contains (names_where keep es) name ↔ IsTrue (keep (now (track_at (found_at es name))))
  unfolding IsStrictlySortedBy
  where_each none [] sorted name = (λ found. absurd (in_none name found), λ is. absurd (cc (is, none)))
  where_each none (e ∷ es) sorted name = elim (same_or_differ name e.0.items) [
    | inl is ↦ subst (λ (l : List ℕ). Contains (names_where keep (e ∷ es)) l ↔ IsTrue (keep (now (track_at (found_at (e ∷ es) l))))) (sym is) (at_head e es sorted.0 (keep (now (track_of e.1))) refl)
    | inr other ↦ at_tail e es name other (where_each none es sorted.1 name) (keep (now (track_of e.1)))
  ]

-- a blob that never was is not there
never_there : (now no_track).there ≡ false
unfolding replay
never_there = refl

-- one entry more is looked at
pub there_more : (names : List (List ℕ)) (e : Vec ℕ Global × BlobLog) (es : Logs) (all : List (List ℕ)) (v : Bool) → (now (track_of e.1)).there ≡ v → names ++ there_in (e ∷ es) ≡ all → cond v (names ++ e.0.items ∷ []) names ++ there_in es ≡ all
there_more names e es all true is was = append_assoc names (e.0.items ∷ []) (there_in es) ∙ sym (ap (λ (w : Bool). names ++ cond w (e.0.items ∷ there_in es) (there_in es)) is) ∙ was
there_more names e es all false is was = sym (ap (λ (w : Bool). names ++ cond w (e.0.items ∷ there_in es) (there_in es)) is) ∙ was

-- the names that were found are those of the partition
pub names_found : (tracks : Key → Track) (partition : List ℕ) (es : Logs) (names : List (List ℕ)) → IsStrictlySortedBy by_bytes (keys_of es) → names ≡ there_in es
    → ((name : List ℕ) → tracks (partition, name) ≡ track_at (found_at es name)) → NamesThere tracks partition names
names_found tracks partition es names sorted is same = record {
  ascending = subst (IsStrictlySortedBy (slice_cmp nat_cmp)) (sym is) (where_ascending (λ (b : Blob). b.there) es sorted);
  each = λ name. subst (λ (l : List (List ℕ)). Contains l name ↔ IsTrue (now (tracks (partition, name))).there) (sym is)
      (subst (λ (t : Track). Contains (there_in es) name ↔ IsTrue (now t).there) (sym (same name)) (where_each (λ (b : Blob). b.there) never_there es sorted name));
}

pub no_names_found : (tracks : Key → Track) (partition : List ℕ) (names : List (List ℕ)) → names ≡ [] → ((name : List ℕ) → tracks (partition, name) ≡ no_track) → NamesThere tracks partition names
unfolding IsStrictlySortedBy
no_names_found tracks partition names none same = names_found tracks partition [] names tt none (λ name. same name)

pub names_on_disk : (tracks : Key → Track) (n : ℕ) → ((q : Key) → IsSound n (tracks q)) → (partition : List ℕ) (names : List (List ℕ)) → NamesThere tracks partition names → AreNamesIn (disk (timeline_of tracks n)) partition names
names_on_disk tracks n sound partition names found = record {
  ascending = found.ascending;
  each = λ name. subst (λ (b : Blob). Contains names name ↔ IsTrue b.there) (sym (disk_now tracks n (partition, name) (sound (partition, name)))) (found.each name);
}
