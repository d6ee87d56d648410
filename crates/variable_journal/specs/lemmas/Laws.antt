-- What each call leaves of the items of its sections, at every moment.
use Rattle.std.specs.Prelude.{◌≡◌, ◌≢◌, ◌⊎◌, ℕ, zero, suc, ◌-◌, ◌^◌, ◌<◌, Bool, List, [], ◌∷◌, ◌++◌, length, Option, None, Some, Result, Ok, Err, slice_index_or}
use Rattle.std.specs.List.{Contains}
use Rattle.std.proofs.Common.{refl, sym, ap, ◌∙◌, subst, inl, inr, arith}
use Rattle.std.proofs.lemmas.Bool.{cases_eq, cases_lt}
use Rattle.blob_device.specs.Disk.{Disk, Key}
use Rattle.blob_device.specs.Timeline.{disk, Always, Each, OnlyAt}
use Rattle.blob_device.specs.declared.device.Device as device
use Rattle.blob_device.specs.lemmas.Moments.{always_start, always_weaker}
use Rattle.value_codec.specs.declared.codec.Error as codec
use Rattle.sealed_pages.specs.ChanceSeal.{Leaves}
use Rattle.sealed_pages.specs.declared.page_blob.PageBlob.{PageBlob}
use Rattle.section_manager.specs.Lasting.{IsOpening, Removing}
use Rattle.section_manager.specs.Sections.{key_of, IsKnown}
use Rattle.section_manager.specs.Setting.{Setting}
use Rattle.section_manager.specs.declared.buffer.SectionBuffer as buffer
use Rattle.section_manager.specs.declared.journal.Error.{Error}
use Rattle.section_manager.specs.declared.sealed.AppendFactory.{AppendFactory}
use Rattle.section_manager.specs.lemmas.Keys.{keys_differ}
use Rattle.section_manager.specs.managing.Removing.{Destroys}
use Rattle.segments.specs.FixedLasting.{IsBeginning, Settling}
use Rattle.segments.specs.FixedLists.{Lists, section_bytes, IsRecovered}
use Rattle.segments.specs.FixedReplay.{Walk}
use Rattle.segments.specs.lemmas.adding.Write.{ArePages}
use Rattle.variable_journal.specs.Adding.{Appends}
use Rattle.variable_journal.specs.Advancing.{Keeps, NextEnds}
use Rattle.variable_journal.specs.Frames.{frame, items_of, items_within}
use Rattle.variable_journal.specs.Laws.{AppendsRest, CallsRest, ClearsRest, DestroysRest, IsSynced, IsUsed, JournalRests, NextsRest, OpeningRests, OpeningToRests, PrunesRest, SettlesRest}
use Rattle.variable_journal.specs.Lists.{section_items}
use Rattle.variable_journal.specs.Replaying.{GivenItem, ReplayingFrames}
use Rattle.variable_journal.specs.Resting.{AllGo, AppendRests, HasFirst, HasKept, LeavesKept, LeavesWith, MayLeaveKept, RemovalRests, Rests}
use Rattle.variable_journal.specs.lemmas.Frame.{one_more, rest_none}
use Rattle.blob_device.proofs.general.Options.{some_there}
use Rattle.variable_journal.specs.lemmas.Resting.{IsGood, good_journal, good_walk, rests_now, rests_same, settling_rests, removing_rests, removing_goes, replaying_rests, replaying_items, settling_opens, bounding_opens, first_more, has_first, leaves_more, leaves_with, settled_within}

contains_or : (xs : List ℕ) (s : ℕ) → Contains xs s ⊎ (Contains xs s → ⊥)
contains_or [] s = inr (λ has. omega (arith, has.1))
contains_or (x ∷ xs) s = elim (cases_eq x s) [
  | inl same ↦ inl (zero, omega arith, same)
  | inr other ↦ elim (contains_or xs s) [
    | inl has ↦ inl (suc has.0, omega (arith, has.1), has.2)
    | inr none ↦ inr (λ has. nowhere other none has.0 has.1 has.2)
  ]
]
  where
    nowhere : x ≢ s → (Contains xs s → ⊥) → (k : ℕ) → k < length (x ∷ xs) → slice_index_or (x ∷ xs) k s ≡ s → ⊥
    nowhere other none zero lt is = other is
    nowhere other none (suc k) lt is = none (k, omega (arith, lt), is)

items_none : items_of [] ≡ []
unfolding items_within
items_none = refl

module _ {S D : Type 0} {gs : _} (g : buffer.Ghosts (PageBlob S gs)) (gives : AppendFactory S → Setting) (seal : List ℕ → ℕ) (are : ArePages g seal) (dev : device.Ghosts D) where
  module _ (j : Lists (AppendFactory S) (PageBlob S gs)) (old : D) (used : IsUsed g gives seal dev j old) where
    good : (s : ℕ) (u : PageBlob S gs) → j.sections.held s ≡ Some u → IsGood seal j (disk (dev.time old)) s u
    good = good_journal g gives seal are dev.Tells used.0 (dev.opened old) (disk (dev.time old)) j used.1

    number : (t : ℕ) → IsKnown j.sections t → t < 2 ^ 64
    number = used.1.bytes.over.opened_list.number

    -- from what is said of each moment
    moments : (new : D) (M : Disk → Type 0) → Always (dev.time old) (dev.time new) M → (s : ℕ) (u : PageBlob S gs) → ((d : Disk) → M d → Rests seal j (disk (dev.time old)) s u d)
        → Always (dev.time old) (dev.time new) (Rests seal j (disk (dev.time old)) s u)
    moments new M always s u at = always_weaker (dev.time old) (dev.time new) M (Rests seal j (disk (dev.time old)) s u) at always

    removed : (new : D) (IsDoomed IsNamed : ℕ → Type 0) → ((t : ℕ) → IsDoomed t → IsKnown j.sections t × IsNamed t) → ((t : ℕ) → IsKnown j.sections t → IsNamed t → IsDoomed t)
        → Always (dev.time old) (dev.time new) (Removing j.sections IsDoomed (λ s t. s < t) (disk (dev.time old))) → RemovalRests seal j IsNamed (dev.time old) (dev.time new)
    removed new IsDoomed IsNamed doomed named always = record {
      others = λ s u stays held. moments new (Removing j.sections IsDoomed (λ s t. s < t) (disk (dev.time old))) always s u (λ d at.
          removing_rests seal j (disk (dev.time old)) d number s u (good s u held) IsDoomed (λ s t. s < t) (λ t is. (doomed t is).0) (λ is. stays (doomed s is).1) at);
      going = λ s u goes held. always_weaker (dev.time old) (dev.time new) (Removing j.sections IsDoomed (λ s t. s < t) (disk (dev.time old))) (MayLeaveKept seal j (disk (dev.time old)) s u) (λ d at.
          removing_goes seal j (disk (dev.time old)) d number s u (good s u held) IsDoomed (λ s t. s < t) (named s (inl (some_there (j.sections.held s) u held)) goes) at) always;
    }

    destroyed : {T : Type 0} (result : Result T Error) (new : D) → Destroys dev j.sections old new result → AllGo seal j (λ s. Unit {0}) (dev.time old) (dev.time new)
    destroyed result new did = (removed new (IsKnown j.sections) (λ s. Unit {0}) (λ t known. (known, tt)) (λ t known all. known) (did.moments used.0)).going

  pub journal_rests : JournalRests g gives seal dev
  journal_rests j old used s u named held = always_start (dev.time old) (Rests seal j (disk (dev.time old)) s u) (rests_now seal j (disk (dev.time old)) s u (good j old used s u held))

  pub destroys_rest : DestroysRest g gives seal dev
  destroys_rest j result old new used did = destroyed j old used result new did

  module _ (C : Type 0) where
    pub settles_rest : SettlesRest g gives seal dev C
    settles_rest names j result cfg kept old new used did s u all held =
        moments j old used new (Each (Settling seal j (IsSynced g gives seal dev j names) (disk (dev.time old)))) (did.moments used.0) s u (λ d each.
        settling_rests seal j (disk (dev.time old)) d (number j old used) s u (good j old used s u held) (IsSynced g gives seal dev j names) (named names) each)
      where
        named : (names : Option (List ℕ)) → IsSynced g gives seal dev j names s ⊎ (IsSynced g gives seal dev j names s → ⊥)
        named None = inl (some_there (j.sections.held s) u held)
        named (Some sections) = contains_or sections s

    pub prunes_rest : PrunesRest g gives seal dev C
    prunes_rest j min result cfg kept old new used did =
        removed j old used new (λ s. IsKnown j.sections s × (s < min)) (λ s. s < min) (λ t is. is) (λ t known low. (known, low)) (did.moments used.0)

    pub clears_rest : ClearsRest g gives seal dev C
    clears_rest j result cfg kept old new used did = destroyed j old used result new did.removes

    module _ (section : ℕ) (spelled : List ℕ) (j : Lists (AppendFactory S) (PageBlob S gs)) (result : Result (Lists (AppendFactory S) (PageBlob S gs) × ℕ × ℕ) Error) (cfg : C)
        (kept : Result C Error) (old new : D) (used : IsUsed g gives seal dev j old) (recovered : IsRecovered j section) (did : Appends g gives seal dev section spelled j result cfg kept old new) where
      abbrev before : Disk
      before = disk (dev.time old)

      abbrev key : Key
      key = key_of j.sections section

      abbrev HasNew : PageBlob S gs → List ℕ → Type 0
      HasNew u = HasFirst (section_items j before section ++ spelled ∷ []) u.settled

      -- where it was refused first, nothing has changed
      refused_own : (u : PageBlob S gs) → j.sections.held section ≡ Some u → LeavesWith seal u.page_size (HasNew u) (before key)
      refused_own u held =
          let it = good j old used section u held in
          let now : LeavesWith seal u.page_size (HasFirst (section_items j before section) u.settled) (before key) =
          subst (λ (y : Bool). LeavesWith seal u.page_size (HasKept seal j before section u y) (before key)) recovered.checked (rests_now seal j before section u it).items in
          leaves_more seal u.page_size (HasFirst (section_items j before section) u.settled) (HasNew u) (λ bytes has.
          first_more (section_items j before section) spelled u.settled bytes (settled_within seal j before section u it recovered.checked) has) (before key) now

      own : (u : PageBlob S gs) → j.sections.held section ≡ Some u → Always (dev.time old) (dev.time new) (λ d. LeavesWith seal u.page_size (HasNew u) (d key))
      own u held = elim (cases_lt (length spelled) (2 ^ 32)) [
        | inl fits ↦ (let bytes = section_bytes j.sections before section in let more = one_more bytes spelled ((good j old used section u held).framed recovered.checked) fits in
            always_weaker (dev.time old) (dev.time new) (OnlyAt key before (Leaves seal u.page_size (bytes ++ frame spelled) u.settled)) (λ d. LeavesWith seal u.page_size (HasNew u) (d key)) (λ d at.
            leaves_with seal u.page_size (HasNew u) (bytes ++ frame spelled) u.settled (d key) (λ c prefix.
            has_first seal u.page_size (bytes ++ frame spelled) u.settled c prefix (section_items j before section ++ spelled ∷ []) more.0 more.1) at.here)
            (did.moments used.0 u held))
        | inr big ↦ subst (λ (n : D). Always (dev.time old) (dev.time n) (λ d. LeavesWith seal u.page_size (HasNew u) (d key))) (sym (did.refuses (inl big)))
            (always_start (dev.time old) (λ d. LeavesWith seal u.page_size (HasNew u) (d key)) (refused_own u held))
      ]

      abbrev Begins : Disk → Type 0
      Begins d = IsOpening (before key) (d key) ⊎ LeavesWith seal j.sections.factory.pages.page_size (HasFirst (spelled ∷ []) 0) (d key)

      made : j.sections.held section ≡ None → Always (dev.time old) (dev.time new) Begins
      made none = elim (cases_lt (length spelled) (2 ^ 32)) [
        | inl fits ↦ (let P = j.sections.factory.pages.page_size in let more = one_more [] spelled rest_none fits in
            always_weaker (dev.time old) (dev.time new) (OnlyAt key before (IsBeginning seal P (frame spelled) (before key))) Begins (λ d at. elim at.here [
              | inl opening ↦ inl opening
              | inr leaves ↦ inr (leaves_with seal P (HasFirst (spelled ∷ []) 0) (frame spelled) 0 (d key) (λ c prefix.
                  has_first seal P (frame spelled) 0 c prefix (spelled ∷ []) (more.0 ∙ ap (λ (xs : List (List ℕ)). xs ++ spelled ∷ []) items_none) more.1) leaves)
            ]) (did.made used.0 none))
        | inr big ↦ subst (λ (n : D). Always (dev.time old) (dev.time n) Begins) (sym (did.refuses (inl big))) (always_start (dev.time old) Begins (inl (inl refl)))
      ]

      appended : section < 2 ^ 64 → AppendRests seal j section spelled (dev.time old) (dev.time new)
      appended small = record {
        others = λ s u other held. moments j old used new (OnlyAt key before (λ b. Unit {0})) (did.alone used.0) s u (λ d at.
            rests_same seal j before s u (good j old used s u held) d
            (at.others (key_of j.sections s) (keys_differ j.sections.partition s section (number j old used s (inl (some_there (j.sections.held s) u held))) small other)));
        own = own;
        made = made;
      }

    pub appends_rest : AppendsRest g gives seal dev C
    appends_rest section spelled j result cfg kept old new used recovered small did = appended section spelled j result cfg kept old new used recovered did small

module _ {S D : Type 0} {gs : _} (g : buffer.Ghosts (PageBlob S gs)) (gives : AppendFactory S → Setting) (seal : List ℕ → ℕ) (dev : device.Ghosts D) where
  pub opening_rests : (C : Type 0) → OpeningRests g gives seal dev C
  opening_rests C place paged capacity result cfg kept old new tells pos did s = settling_opens seal paged.page_size place pos s (2 ^ 64 - 1) (dev.time old) (dev.time new) (did.bytes.moments tells)

  module _ {V C : Type 0} (spelling : V → List ℕ) (accepted : V → C → Type 0) (refusal : List ℕ → C → Option codec.Error) where
    pub opening_to_rests : OpeningToRests g gives seal dev spelling accepted refusal
    opening_to_rests P partition last end config paged capacity result kept old new tells pos did s under there =
        bounding_opens seal P partition pos s last end (dev.time old) (dev.time new) (did.moments tells) under there

    module _ (config : C) (w k : Walk (AppendFactory S) (PageBlob S gs)) (old new : D) where
      -- what `next` keeps, whatever it answers
      keeps_of : (answer : Option (Result (GivenItem V) Error)) → NextEnds g gives seal dev spelling accepted refusal config w k old new answer → Keeps g gives seal dev w k old new
      keeps_of None ends = ends.passed.gone.keeps
      keeps_of (Some (Ok x)) ends = ends.gone.keeps
      keeps_of (Some (Err e)) ends = ends.keeps

    pub nexts_rest : ArePages g seal → NextsRest g gives seal dev spelling accepted refusal
    nexts_rest are config w k old new answer kept tells over did =
        let before = disk (dev.time old) in
        let always = (keeps_of config w k old new answer did.ends).moments tells in
        let number = over.bytes.over.opened_list.number in record {
          others = λ s u free held. always_weaker (dev.time old) (dev.time new) (Each (ReplayingFrames seal w before)) (Rests seal w.journal before s u) (λ d each.
              replaying_rests seal w before d number s u (good_walk g gives seal are dev.Tells tells (dev.opened old) before w over s u held) each free) always;
          items = λ s u named held. always_weaker (dev.time old) (dev.time new) (Each (ReplayingFrames seal w before)) (LeavesKept seal w.journal before s u) (λ d each.
              replaying_items seal w before d number s u (good_walk g gives seal are dev.Tells tells (dev.opened old) before w over s u held) each) always;
        }

    pub calls_rest : ArePages g seal → CallsRest g gives seal dev spelling accepted refusal
    calls_rest are = record {
      now = journal_rests g gives seal are dev;
      appends = appends_rest g gives seal are dev C;
      syncs = settles_rest g gives seal are dev C;
      prunes = prunes_rest g gives seal are dev C;
      destroys = (clears_rest g gives seal are dev C, destroys_rest g gives seal are dev);
      opens = opening_rests C;
      opens_to = opening_to_rests;
      nexts = nexts_rest are;
    }
