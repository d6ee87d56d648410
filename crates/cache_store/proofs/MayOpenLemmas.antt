-- Which disks a cache may be opened on, and what each crash of such a disk leaves.
use Rattle.std.specs.Prelude.{◌≡◌, ◌≢◌, ℕ, ◌^◌, ◌<◌, ◌≤◌, Bool, false, true, List, [], ◌∷◌, length, take, cond, Option, None, Some, unwrap_or}
use Rattle.std.proofs.Common.{inl, inr, ⊎_elim, refl, sym, ap, ◌∙◌, subst, arith}
use Rattle.std.proofs.Math.Seq.{take-length}
use Rattle.std.proofs.lemmas.Bool.{cases_eq, cases_lt}
use Rattle.std.proofs.lemmas.List.{ext_get_or}
use Rattle.std.proofs.lemmas.List.Elements.{Contains-push}
use Rattle.blob_device.specs.Disk.{Key, AbsentIsNothing, Blob, Disk, Image, IsCrashOf, IsSettled, MayLeave, longest, past, put, reads}
use Rattle.blob_device.specs.lemmas.Puts.{put_other, put_same, same_or_other}
use Rattle.sealed_pages.specs.ChanceSeal as pages
use Rattle.section_manager.specs.SealedLaws.{no_chance}
use Rattle.section_manager.specs.Sections.{section_key}
use Rattle.section_manager.specs.lemmas.Number.{length-number_name}
use Rattle.cache_store.specs.Kept.{IsLawfulIn, IsStart, Layout, Lawful, entries_of, kept, sealed_in}
use Rattle.cache_store.specs.Machine.{IsReopened, Reopen, State}
use Rattle.cache_store.specs.Reopening.{MayOpen, NothingPending, as_read}
use Rattle.cache_store.specs.Standing.{IsHeld, Keeps, wanted_of}
use Rattle.cache_store.proofs.LeavingLemmas.{SectionLeaves}

-- a blob of which nothing is pending
settled_as : Bool → List ℕ → Blob
settled_as there c = record { there = there; content = c; unsure = false; settled = c; since = []; loose = [] }

shaped : (b : Blob) → IsSettled b → b ≡ settled_as b.there b.content
unfolding settled_as
shaped b settled = λ i. record { there = b.there; content = b.content; unsure = settled.sure i; settled = sym settled.content i; since = settled.since i; loose = settled.loose i }

-- each crash leaves it as it reads
pub left_as_read : (b : Blob) → IsSettled b → (l : Option (List ℕ)) → MayLeave b l → l ≡ reads b
unfolding settled_as
left_as_read b settled l = subst (λ (x : Blob). MayLeave x l → l ≡ reads x) (sym (shaped b settled)) (by b.there b.content l)
  where
    by : (there : Bool) (c : List ℕ) (o : Option (List ℕ)) → MayLeave (settled_as there c) o → o ≡ reads (settled_as there c)
    by true c None may = absurd (cc may)
    by false c None may = refl
    by true c (Some x) may = ap (λ (y : List ℕ). Some y) (ext_get_or 0 x c (omega (arith, may.1.no_shorter, may.1.no_longer)) (λ i lt. may.1.kept i (omega (arith, lt, may.1.no_longer)) tt))
    by false c (Some x) may = absurd (cc may.0)

-- it reads as its one content
reads_content : (b : Blob) → IsSettled b → AbsentIsNothing b → unwrap_or (reads b) [] ≡ b.content
reads_content b settled absent = go b.there refl
  where
    go : (there : Bool) → b.there ≡ there → unwrap_or (reads b) [] ≡ b.content
    go true is = ap (λ (t : Bool). unwrap_or (cond t (Some b.content) None) []) is
    go false is = ap (λ (t : Bool). unwrap_or (cond t (Some b.content) None) []) is ∙ sym (ap (λ (x : Blob). x.content) (absent is settled.sure))

-- so it has no chance seal
read_clear : (seal : List ℕ → ℕ) (P : ℕ) (b : Blob) → IsSettled b → AbsentIsNothing b → pages.NoChanceSeal seal P (past b) (unwrap_or (reads b) [])
read_clear seal P b settled absent =
    subst (pages.NoChanceSeal seal P (past b)) (sym (reads_content b settled absent))
    (subst (λ (contents : List (List ℕ)). pages.NoChanceSeal seal P contents b.content) (λ i. settled.content i ∷ sym settled.since i)
    (no_chance seal P (b.content ∷ []) b.content (Contains-push [] b.content)))

module _ (l : Layout) (from : Disk) where
  -- A lawful image with nothing pending.
  module _ (pending : NothingPending l from) (absents : (q : Key) → AbsentIsNothing (from q)) (lawful : Lawful l (as_read from)) (st : State (List ℕ)) (start : IsStart l (as_read from) st) where
    read_start : Keeps l (wanted_of l.items st None) (as_read from)
    read_start = record {
      lawful = lawful;
      each = λ s small. inl (record {
        same = sym (take-length (kept l (as_read from) s)) ∙ ap (take (length (kept l (as_read from) s))) (sym (start.lists s small));
        synced = omega (arith, start.synced s, ap length (start.lists s small));
      });
    }

    -- a crash leaves each blob as it reads
    crash_is : (image : Image) → IsCrashOf from image → (name : List ℕ) → image (l.partition, name) ≡ as_read from (l.partition, name)
    crash_is image crash name = left_as_read (from (l.partition, name)) (pending name) (image (l.partition, name)) (crash (l.partition, name))

    crash_keeps : (image : Image) → IsCrashOf from image → Keeps l (wanted_of l.items st None) image
    crash_keeps image crash = record {
      lawful = record {
        names = λ name c is. lawful.names name c (sym (crash_is image crash name) ∙ is);
        sections = λ s small. subst (λ (o : Option (List ℕ)). IsLawfulIn l s (sealed_in l o)) (sym (crash_is image crash (section_key l.partition s).1)) (lawful.sections s small);
      };
      each = λ s small. subst (λ (o : Option (List ℕ)). IsHeld l (wanted_of l.items st None) s (entries_of (sealed_in l o))) (sym (crash_is image crash (section_key l.partition s).1)) (read_start.each s small);
    }

    -- it may be opened: it stands for its start state
    pub may_start : MayOpen l st from
    may_start = record {
      no_chance = λ s small. read_clear l.seal l.page_size (from (section_key l.partition s)) (pending (section_key l.partition s).1) (absents (section_key l.partition s));
      absent = λ s small none. ap longest (absents (section_key l.partition s) none (pending (section_key l.partition s).1).sure);
      stands = λ image crash clear. crash_keeps image crash;
    }

  -- A disk that may be opened.
  module _ (st : State (List ℕ)) (may : MayOpen l st from) (reads_so : (q : Key) → MayLeave (from q) (reads (from q))) where
    -- the image as it reads is one that a crash leaves
    pub read_stands : Keeps l (wanted_of l.items st (Some Reopen)) (as_read from)
    read_stands = may.stands (as_read from) reads_so may.no_chance

    -- a crash may leave one blob so, and the others as they read
    module _ (k : Key) (left : Option (List ℕ)) (leaves : MayLeave (from k) left) where
      is_crash : IsCrashOf from (put (as_read from) k left)
      is_crash q = elim (same_or_other q k) [
        | inl here ↦ subst (λ (x : Key). MayLeave (from x) (put (as_read from) k left x)) (sym here) (subst (MayLeave (from k)) (sym (put_same (as_read from) k left)) leaves)
        | inr away ↦ subst (MayLeave (from q)) (sym (put_other (as_read from) k left q away)) (reads_so q)
      ]

    -- what each crash leaves of a section
    pub section_stands : (s : ℕ) → s < 2 ^ 64 → SectionLeaves l (wanted_of l.items st (Some Reopen)) s (from (section_key l.partition s))
    section_stands s small left leaves clear = record {
      lawful = subst (λ (o : Option (List ℕ)). IsLawfulIn l s (sealed_in l o)) (put_same (as_read from) k left) (keeps.lawful.sections s small);
      held = subst (λ (o : Option (List ℕ)). IsHeld l (wanted_of l.items st (Some Reopen)) s (entries_of (sealed_in l o))) (put_same (as_read from) k left) (keeps.each s small);
    }
      where
        k : Key
        k = section_key l.partition s

        clear_at : (r : ℕ) → r < 2 ^ 64 → pages.NoChanceSeal l.seal l.page_size (past (from (section_key l.partition r))) (unwrap_or (put (as_read from) k left (section_key l.partition r)) [])
        clear_at r r_small = elim (same_or_other (section_key l.partition r) k) [
          | inl here ↦ subst (λ (q : Key). pages.NoChanceSeal l.seal l.page_size (past (from q)) (unwrap_or (put (as_read from) k left q) [])) (sym here)
              (subst (λ (o : Option (List ℕ)). pages.NoChanceSeal l.seal l.page_size (past (from k)) (unwrap_or o [])) (sym (put_same (as_read from) k left)) clear)
          | inr away ↦ subst (λ (o : Option (List ℕ)). pages.NoChanceSeal l.seal l.page_size (past (from (section_key l.partition r))) (unwrap_or o []))
              (sym (put_other (as_read from) k left (section_key l.partition r) away)) (may.no_chance r r_small)
        ]

        keeps : Keeps l (wanted_of l.items st (Some Reopen)) (put (as_read from) k left)
        keeps = may.stands (put (as_read from) k left) (is_crash k left leaves) clear_at

    -- no crash leaves a name that is no section's
    pub names_stand : (name x : List ℕ) → MayLeave (from (l.partition, name)) (Some x) → length name ≡ 8
    names_stand name x leaves = ⊎_elim (λ eight. eight) (λ (long : length name ≢ 8). (keeps long).lawful.names name x (put_same (as_read from) k (Some x))) (cases_eq (length name) 8)
      where
        k : Key
        k = (l.partition, name)

        keeps : length name ≢ 8 → Keeps l (wanted_of l.items st (Some Reopen)) (put (as_read from) k (Some x))
        keeps long = may.stands (put (as_read from) k (Some x)) (is_crash k (Some x) leaves)
            (λ r r_small. subst (λ (o : Option (List ℕ)). pages.NoChanceSeal l.seal l.page_size (past (from (section_key l.partition r))) (unwrap_or o []))
            (sym (put_other (as_read from) k (Some x) (section_key l.partition r) (λ is. long (ap (λ (q : Key). length q.1) (sym is) ∙ length-number_name r)))) (may.no_chance r r_small))

    -- what the image keeps is the reopening of the state
    pub reopened : (now : State (List ℕ)) → IsStart l (as_read from) now → ((s : ℕ) → 2 ^ 64 ≤ s → st.synced s ≡ 0) → IsReopened st now
    reopened now start none = record { cut = λ s. (each s).0; at_least = λ s. (each s).1; synced = start.synced; floor = start.floor }
      where
        each : (s : ℕ) → (now.lists s ≡ take (length (now.lists s)) (st.lists s)) × (st.synced s ≤ length (now.lists s))
        each s = elim (cases_lt s (2 ^ 64)) [
          | inl small ↦ elim (read_stands.each s small) [
            | inl prefix ↦ (
              subst (λ (xs : List _). xs ≡ take (length xs) (st.lists s)) (sym (start.lists s small)) prefix.same,
              omega (arith, prefix.synced, ap length (start.lists s small)),
            )
            | inr gone ↦ absurd gone.1
          ]
          | inr large ↦ (
            subst (λ (xs : List _). xs ≡ take (length xs) (st.lists s)) (sym (start.no_more s large)) refl,
            omega (arith, none s large),
          )
        ]
