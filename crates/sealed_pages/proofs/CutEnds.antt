-- A buffer that is cut where a page begins, or within a page: what the calls owe, from what the steps of the cut say.
use Rattle.std.proofs.Common.{◌≡◌, ◌⊎◌, ◌+◌, ◌*◌, ◌≤◌, ◌<◌, ◌^◌, ◌∙◌, inl, inr, min, not, ap, sym, subst, refl, ℕ, Bool, false, List, [], length, take, drop, Result, Ok, Err, arith, length-take}
use Rattle.std.specs.Result.{IsErrAnd}
use Rattle.blob_device.specs.Counts.{Rose}
use Rattle.blob_device.specs.Disk.{Key, Disk, Blob, settled_at}
use Rattle.blob_device.specs.Errors.{raised}
use Rattle.blob_device.specs.declared.device.Device as device
use Rattle.blob_device.specs.declared.error.DevError.{DevError}
use Rattle.blob_device.specs.declared.runtime.RError.{RError}
use Rattle.blob_device.specs.declared.runtime.RError.TheVariants.{Fault, InvalidChecksum, Mem}
use Rattle.sealed_pages.specs.declared.cut.Head.{Head}
use Rattle.sealed_pages.specs.Buffer.{Buffer, key_of, Holds}
use Rattle.sealed_pages.specs.Calls.{FailsBelow}
use Rattle.sealed_pages.specs.ChanceSeal.{Sealing}
use Rattle.sealed_pages.specs.Cuts.{CutsPages, CutsInside, ReadsHead}
use Rattle.sealed_pages.specs.CutsTo.{CutsAt, CutsWithin, ended_with}
use Rattle.sealed_pages.specs.Cutting.{StandsSettled, page_cut, FewReads}
use Rattle.sealed_pages.specs.Entries.{IsOpenAt}
use Rattle.sealed_pages.specs.Flushing.{Alone, Data, Ready}
use Rattle.sealed_pages.specs.SealedPrefix.{adopted_size}
use Rattle.sealed_pages.specs.SlotNames.{is_b}
use Rattle.sealed_pages.specs.Slots.{page_length}
use Rattle.sealed_pages.specs.Unrecovered.{blob_of, prefix_of, SparesPrefix}
use Rattle.sealed_pages.specs.View.{page_at, view, StandsAt}
use Rattle.sealed_pages.proofs.cutting.Cuts.{resized_take}
use Rattle.sealed_pages.specs.lemmas.cutting.Calls.{sealing_less}
use Rattle.sealed_pages.specs.lemmas.cutting.Shortening.{cut_covers, shorter_at, shorter_within}
use Rattle.sealed_pages.specs.lemmas.cutting.Steps.{settled_rest}
use Rattle.sealed_pages.specs.lemmas.cutting.Truncating.{rose_since}
use Rattle.sealed_pages.specs.lemmas.looking.Looking.{unchanged_now}
use Rattle.sealed_pages.proofs.cutting.Entries.{few_then}
use Rattle.sealed_pages.proofs.Prefixes.{prefix_look, prefix_then}
use Rattle.sealed_pages.proofs.slots.PageCalls.{alone_start}
use Rattle.sealed_pages.proofs.cutting.Truncating.{as_of, at_ready, holds_cut, stands_none, resized_data, cut_bytes, cut_backed, raised_cause, look_sealing, look_then, look_alone, within_ready, within_stands, head_stands, page_cut_data}
use Rattle.sealed_pages.proofs.cutting.TruncateEnds.{no_page}
use Rattle.blob_device.proofs.general.Numbers.{times_next}

module _ {D : Type 0} (dev : device.Ghosts D) (seal : List ℕ → ℕ) (u : Buffer) (begun : u.from < u.page_size) {B : Type 0} (see : B → Buffer) (page : ℕ) where
  pos : 1 ≤ u.page_size
  pos = omega (arith, begun)

  -- the call's result where it fails
  abbrev gave_up : RError → Result B RError
  gave_up e = Err e

  -- where a page begins, by other names of the blob and the page size
  module _ (old new : D) {blob : Key} {P : ℕ} (key : blob ≡ key_of u) (size : P ≡ u.page_size) where
    pages : {T : Type 0} (r : Result T DevError) → CutsPages dev seal P blob old new page r → CutsPages dev seal u.page_size (key_of u) old new page r
    pages r says = as_of (λ (k : Key) (p : ℕ). CutsPages dev seal p k old new page r) key size says

    at_crash : {T : Type 0} (r : Result T DevError) → CutsPages dev seal u.page_size (key_of u) old new page r → dev.Tells → StandsSettled (blob_of u (dev.time old)) → page_at u.page_size page ≤ length (blob_of u (dev.time old)).content
        → page * u.page_size ≤ length (prefix_of seal u (dev.time old)) → Sealing seal u.page_size (prefix_of seal u (dev.time old)) (page * u.page_size) (key_of u) (dev.time old) (dev.time new)
    at_crash r says t rest long inside = sealing_less seal u.page_size (prefix_of seal u (dev.time old)) (min (page * u.page_size) (length (prefix_of seal u (dev.time old)))) (page * u.page_size) (key_of u) (dev.time old) (dev.time new)
        (omega (arith, inside)) (says.crashes t rest long)

    -- the cut failed
    pub at_failed : (e : DevError) (r : Result B RError) → IsErrAnd r (λ x. x ≡ raised e) → CutsPages dev seal P blob old new {T = Unit {0}} page (Err e) → CutsAt dev seal u old new see page r
    at_failed e (Ok v) is says = absurd is
    at_failed e (Err x) is says = let cut = pages (Err e) says in record {
      crashes = at_crash (Err e) cut;
      done = λ t rest long inside. tt;
      bytes = λ t all same long. tt;
      backed = λ t all same long. tt;
      memory = λ t. tt;
      rests = λ t. tt;
      same = tt;
      alone = cut.alone;
      prefix = cut.prefix;
      shorter = λ t. tt;
      «length» = tt;
      entries = cut.entries;
      faults = cut.faults;
      cause = raised_cause (Err x) e (dev.faults old) (dev.faults new) is (λ failed. cut.cause (ap Err failed));
    }

    -- it did not: the tip is empty
    module _ (v : B) (end : ℕ) (tip : List ℕ) (none : tip ≡ []) (ends : end ≡ page_at u.page_size page) (is : see v ≡ ended_with u end page tip false) (says : CutsPages dev seal P blob old new {T = Unit {0}} page (Ok tt)) where
      at_cut : CutsPages dev seal u.page_size (key_of u) old new {T = Unit {0}} page (Ok tt)
      at_cut = pages (Ok tt) says

      is_ended : see v ≡ ended_with u end page [] false
      is_ended = is ∙ ap (λ (l : List ℕ). ended_with u end page l false) none

      more : page * u.page_size ≡ page * u.page_size + 0
      more = omega arith

      left : dev.Tells → (all : List ℕ) → Data u.page_size all (page * u.page_size) (view (blob_of u (dev.time old)).content) → Data u.page_size all (page * u.page_size + 0) (view (blob_of u (dev.time new)).content)
      left t all same = subst (λ (i : Blob × ℕ). Data u.page_size all i.1 (view i.0.content)) (λ i. (sym (at_cut.settles t) i, more i)) (resized_data u.page_size all (page * u.page_size) (blob_of u (dev.time old)).content page (omega arith) same)

      pub at_done : CutsAt dev seal u old new see page (Ok v)
      at_done = record {
        crashes = at_crash (Ok tt) at_cut;
        done = λ t rest long inside.
            let all : List ℕ = take (page * u.page_size) (prefix_of seal u (dev.time old)) in
            let taken : length (take (page * u.page_size) (prefix_of seal u (dev.time old))) ≡ page * u.page_size = omega (arith, length-take (page * u.page_size) (prefix_of seal u (dev.time old)), inside) in
            let ready = at_ready seal u.page_size (blob_of u (dev.time new)) (blob_of u (dev.time old)).content page false pos (at_cut.settles t ∙ ap settled_at (resized_take (blob_of u (dev.time old)).content (page_at u.page_size page) long)) inside in
            holds_cut seal u (see v) all (blob_of u (dev.time new)) page end [] false is_ended (subst (λ (n : ℕ). Ready seal u.page_size all n n false (blob_of u (dev.time new))) more ready)
            (stands_none all [] (page * u.page_size) refl (omega (arith, taken))) (taken ∙ more);
        bytes = λ t all same long. cut_bytes u (see v) all (blob_of u (dev.time new)).content page end [] false pos is_ended (left t all same) (stands_none all [] (page * u.page_size) refl (omega (arith, long))) (long ∙ more);
        backed = λ t all same long. cut_backed u (see v) all (blob_of u (dev.time new)).content page end [] false pos is_ended (left t all same) (stands_none all [] (page * u.page_size) refl (omega (arith, long))) (long ∙ more);
        memory = λ t. (omega (arith, ap (λ (x : Buffer). x.from) is_ended), ap (λ (x : Buffer). x.cache) is_ended);
        rests = λ t. settled_rest (blob_of u (dev.time new)) _ (at_cut.settles t);
        same = subst (λ (x : Buffer). x ≡ ended_with u x.end page [] x.newest) (sym is_ended) refl;
        alone = at_cut.alone;
        prefix = at_cut.prefix;
        shorter = λ t. omega (arith, ap (λ (b : Blob). adopted_size seal u.page_size b.content) (at_cut.settles t), shorter_at seal u.page_size (blob_of u (dev.time old)).content page);
        «length» = subst (λ (n : ℕ). IsOpenAt (dev.opened new) (key_of u) n) (sym (ap (λ (x : Buffer). x.end) is_ended ∙ ends)) at_cut.«length»;
        entries = at_cut.entries;
        faults = at_cut.faults;
        cause = tt;
      }

  -- within a page, whose first bytes are read before
  module _ (keep : ℕ) (old mid : D) {blob : Key} {P n : ℕ} (key : blob ≡ key_of u) (size : P ≡ u.page_size) where
    head : (r : Result Head RError) → ReadsHead dev seal P blob old mid n page keep r → ReadsHead dev seal u.page_size (key_of u) old mid n page keep r
    head r says = as_of (λ (k : Key) (p : ℕ). ReadsHead dev seal p k old mid n page keep r) key size says

    -- why reading them failed, as the result of the cut
    cause_as : (e : RError) → ReadsHead dev seal u.page_size (key_of u) old mid n page keep (Err e) → (gave_up e ≡ Err (InvalidChecksum page)) ⊎ FailsBelow dev (gave_up e) old mid
    cause_as e read = elim read.cause [
      | inl named ↦ inl (let is : e ≡ InvalidChecksum page = cc named in ap Err is)
      | inr below ↦ elim below [
        | inl short ↦ inr (inl (let is : e ≡ Mem = cc short in ap Err is))
        | inr failed ↦ inr (inr (let at = failed.0 in (let is : e ≡ Fault = cc at in ap Err is), failed.1))
      ]
    ]

    -- they were not read
    pub within_unread : (e : RError) (r : Result B RError) → r ≡ Err e → ReadsHead dev seal P blob old mid n page keep (Err e) → CutsWithin dev seal u old mid see page keep r
    within_unread e r is says = let read = head (Err e) says in subst (λ (x : Result B RError). CutsWithin dev seal u old mid see page keep x) (sym is) (record {
      crashes = λ t rest inside. look_sealing seal u.page_size pos (key_of u) (dev.time old) (dev.time mid) (read.unchanged t) (page * u.page_size + keep) rest inside;
      done = λ t rest inside. tt;
      bytes = λ t all same long. tt;
      backed = λ t all same long. tt;
      memory = λ t. tt;
      rests = λ t. tt;
      same = tt;
      long = tt;
      alone = λ t. look_alone seal u.page_size pos (key_of u) (dev.time old) (dev.time mid) (read.unchanged t) (dev.time mid) (alone_start (dev.time mid) (key_of u));
      prefix = λ t. prefix_look (page_at u.page_size page) (key_of u) (dev.time old) (dev.time mid) (read.unchanged t);
      shorter = λ t. tt;
      «length» = tt;
      entries = read.entries;
      faults = read.faults;
      checksum = λ t p named. read.checksum t p (let named_is : e ≡ InvalidChecksum p = cc named in ap Err named_is);
      covered = λ t. tt;
      refused = λ t short. read.unchanged t;
      cause = cause_as e read;
    })

    -- they were, and the page is cut to them
    module _ (new : D) {blob2 : Key} {Q : ℕ} (key2 : blob2 ≡ key_of u) (size2 : Q ≡ u.page_size) (h : Head) {bytes : List ℕ} (part : bytes ≡ h.bytes.items) (read_says : ReadsHead dev seal P blob old mid n page keep (Ok h)) where
      read : ReadsHead dev seal u.page_size (key_of u) old mid n page keep (Ok h)
      read = head (Ok h) read_says

      abbrev Cut : Result ℕ DevError → Type 0
      Cut r = CutsInside dev seal u.page_size (key_of u) mid new page h.bytes.items (is_b h.slot) r

      inside_as : (r : Result ℕ DevError) → CutsInside dev seal Q blob2 mid new page bytes (is_b h.slot) r → Cut r
      inside_as r says = as_of (λ (k : Key) (p : ℕ). CutsInside dev seal p k mid new page h.bytes.items (is_b h.slot) r) key2 size2 (subst (λ (l : List ℕ). CutsInside dev seal Q blob2 mid new page l (is_b h.slot) r) part says)

      covers : dev.Tells → length h.bytes.items ≤ page_length seal u.page_size (blob_of u (dev.time old)).content page
      covers t = omega (arith, read.covered t, read.long)

      page_is : dev.Tells → h.bytes.items ≡ take (length h.bytes.items) (drop (page_at u.page_size page) (blob_of u (dev.time old)).content)
      page_is t = read.bytes t ∙ ap (λ (m : ℕ). take m (drop (page_at u.page_size page) (blob_of u (dev.time old)).content)) (sym read.long)

      to_keep : page * u.page_size + length h.bytes.items ≡ page * u.page_size + keep
      to_keep = ap (λ (m : ℕ). page * u.page_size + m) read.long

      within_crash : (r : Result ℕ DevError) → Cut r → dev.Tells → StandsSettled (blob_of u (dev.time old)) → page * u.page_size + keep ≤ length (prefix_of seal u (dev.time old))
          → Sealing seal u.page_size (prefix_of seal u (dev.time old)) (page * u.page_size + keep) (key_of u) (dev.time old) (dev.time new)
      within_crash r cut t rest inside = subst (λ (m : ℕ). Sealing seal u.page_size (prefix_of seal u (dev.time old)) m (key_of u) (dev.time old) (dev.time new)) to_keep
          (look_then seal u.page_size pos (key_of u) (dev.time old) (dev.time mid) (read.unchanged t) page (is_b h.slot) h.bytes.items (dev.time new) (cut.crashes t) rest (read.best t) (covers t) (page_is t) (omega (arith, inside, to_keep)))

      within_alone : (r : Result ℕ DevError) → Cut r → dev.Tells → Alone (key_of u) (dev.time old) (dev.time new)
      within_alone r cut t = look_alone seal u.page_size pos (key_of u) (dev.time old) (dev.time mid) (read.unchanged t) (dev.time new) (cut.alone t)

      within_prefix : (r : Result ℕ DevError) → Cut r → dev.Tells → SparesPrefix (page_at u.page_size page) (key_of u) (dev.time old) (dev.time new)
      within_prefix r cut t = prefix_then (page_at u.page_size page) (key_of u) (dev.time old) (dev.time mid) (dev.time new) (prefix_look (page_at u.page_size page) (key_of u) (dev.time old) (dev.time mid) (read.unchanged t)) (cut.prefix t)

      within_entries : (r : Result ℕ DevError) → Cut r → FewReads 1 (key_of u) (dev.opened old) (dev.opened new)
      within_entries r cut = few_then 1 (key_of u) (dev.opened old) (dev.opened mid) (dev.opened new) read.entries cut.entries

      -- the cut failed
      pub within_failed : (e : DevError) (r : Result B RError) → IsErrAnd r (λ x. x ≡ raised e) → CutsInside dev seal Q blob2 mid new page bytes (is_b h.slot) (Err e) → CutsWithin dev seal u old new see page keep r
      within_failed e (Ok v) is says = absurd is
      within_failed e (Err x) is says =
          let cut = inside_as (Err e) says in
          let below = raised_cause (gave_up x) e (dev.faults old) (dev.faults new) is (λ failed. rose_since (dev.faults old) (dev.faults mid) (dev.faults new) read.faults (cut.cause (ap Err failed))) in
          record {
            crashes = within_crash (Err e) cut;
            done = λ t rest inside. tt;
            bytes = λ t all same long. tt;
            backed = λ t all same long. tt;
            memory = λ t. tt;
            rests = λ t. tt;
            same = tt;
            long = tt;
            alone = within_alone (Err e) cut;
            prefix = within_prefix (Err e) cut;
            shorter = λ t. tt;
            «length» = tt;
            entries = within_entries (Err e) cut;
            faults = omega (arith, read.faults, cut.faults);
            checksum = λ t p named. absurd (no_page (Rose (dev.faults old) (dev.faults new)) (gave_up x) p below named);
            covered = λ t. tt;
            refused = λ t short. absurd (omega (arith, short, read.covered t));
            cause = inr below;
          }

      -- it did not
      module _ (some : 0 < keep) (short : keep < u.page_size) (small : u.page_size < 2 ^ 16) (fits : (l : List ℕ) → seal l < 2 ^ 32) (room : page_at u.page_size page + (u.page_size + 12) < 2 ^ 64)
          (v : B) (end : ℕ) (newest : Bool) (other : newest ≡ not (is_b h.slot)) (is : see v ≡ ended_with u end page h.bytes.items newest) (says : CutsInside dev seal Q blob2 mid new page bytes (is_b h.slot) (Ok end)) where
        done_cut : Cut (Ok end)
        done_cut = inside_as (Ok end) says

        is_within : see v ≡ ended_with u end page h.bytes.items (not (is_b h.slot))
        is_within = is ∙ ap (λ (b : Bool). ended_with u end page h.bytes.items b) other

        settles : dev.Tells → blob_of u (dev.time new) ≡ settled_at (page_cut seal u.page_size (blob_of u (dev.time old)).content page (is_b h.slot) h.bytes.items)
        settles t = done_cut.settles t ∙ ap (λ (d : Disk). settled_at (page_cut seal u.page_size (d (key_of u)).content page (is_b h.slot) h.bytes.items)) (unchanged_now (dev.time old) (dev.time mid) (read.unchanged t))

        long_some : 0 < length h.bytes.items
        long_some = omega (arith, read.long, some)

        long_short : length h.bytes.items < u.page_size
        long_short = omega (arith, read.long, short)

        long_small : length h.bytes.items < 2 ^ 16
        long_small = omega (arith, read.long, short, small)

        left_within : dev.Tells → (all : List ℕ) → Data u.page_size all (page * u.page_size + keep) (view (blob_of u (dev.time old)).content) → Data u.page_size all (page * u.page_size + length h.bytes.items) (view (blob_of u (dev.time new)).content)
        left_within t all same = subst (λ (i : Blob × ℕ). Data u.page_size all i.1 (view i.0.content)) (λ i. (sym (settles t) i, sym to_keep i))
            (page_cut_data seal u.page_size all (page * u.page_size + keep) (blob_of u (dev.time old)).content page (is_b h.slot) h.bytes.items (omega (arith, short, times_next page u.page_size)) same)

        stands : dev.Tells → (all : List ℕ) → Data u.page_size all (page * u.page_size + keep) (view (blob_of u (dev.time old)).content) → length all ≡ page * u.page_size + keep → StandsAt all (page * u.page_size) h.bytes.items
        stands t all same long = head_stands u.page_size all (blob_of u (dev.time old)).content page keep h.bytes.items (omega (arith, short)) (read.bytes t) read.long long same

        pub within_done : CutsWithin dev seal u old new see page keep (Ok v)
        within_done = record {
          crashes = within_crash (Ok end) done_cut;
          done = λ t rest inside.
              let within : page * u.page_size + length h.bytes.items ≤ length (prefix_of seal u (dev.time old)) = omega (arith, inside, to_keep) in
              let all : List ℕ = take (page * u.page_size + length h.bytes.items) (prefix_of seal u (dev.time old)) in
              let ready = within_ready seal u.page_size pos (blob_of u (dev.time old)).content page (is_b h.slot) h.bytes.items fits small long_some long_short (read.best t) (covers t) (page_is t) within (blob_of u (dev.time new)) (settles t) in
              let at = within_stands seal u.page_size pos (blob_of u (dev.time old)).content page (is_b h.slot) h.bytes.items fits small long_some long_short (read.best t) (covers t) (page_is t) within in
              subst (λ (m : ℕ). Holds seal (see v) (take m (prefix_of seal u (dev.time old))) (blob_of u (dev.time new))) to_keep
              (holds_cut seal u (see v) all (blob_of u (dev.time new)) page end h.bytes.items (not (is_b h.slot)) is_within ready at
              (omega (arith, length-take (page * u.page_size + length h.bytes.items) (prefix_of seal u (dev.time old)), within)));
          bytes = λ t all same long. cut_bytes u (see v) all (blob_of u (dev.time new)).content page end h.bytes.items (not (is_b h.slot)) pos is_within (left_within t all same) (stands t all same long) (long ∙ sym to_keep);
          backed = λ t all same long. cut_backed u (see v) all (blob_of u (dev.time new)).content page end h.bytes.items (not (is_b h.slot)) pos is_within (left_within t all same) (stands t all same long) (long ∙ sym to_keep);
          memory = λ t.
              let covered = cut_covers seal u.page_size (blob_of u (dev.time old)).content page (is_b h.slot) h.bytes.items long_small fits small room (omega (arith, long_short)) (page_is t) in
              let at : page_length seal u.page_size (blob_of u (dev.time new)).content (see v).first ≡ page_length seal u.page_size (page_cut seal u.page_size (blob_of u (dev.time old)).content page (is_b h.slot) h.bytes.items) page
              = (λ i. page_length seal u.page_size (settles t i).content (is_within i).first) in
              (omega (arith, ap (λ (x : Buffer). x.from) is_within, covered, at), ap (λ (x : Buffer). x.cache) is_within);
          rests = λ t. settled_rest (blob_of u (dev.time new)) _ (settles t);
          same = subst (λ (x : Buffer). x ≡ ended_with u x.end page x.tip x.newest) (sym is_within) refl;
          long = ap (λ (x : Buffer). length x.tip) is_within ∙ read.long;
          alone = within_alone (Ok end) done_cut;
          prefix = within_prefix (Ok end) done_cut;
          shorter = λ t. omega (arith, ap (λ (b : Blob). adopted_size seal u.page_size b.content) (settles t), shorter_within seal u.page_size (blob_of u (dev.time old)).content page (is_b h.slot) h.bytes.items long_small, to_keep);
          «length» = subst (λ (m : ℕ). IsOpenAt (dev.opened new) (key_of u) m) (sym (ap (λ (x : Buffer). x.end) is_within)) done_cut.«length»;
          entries = within_entries (Ok end) done_cut;
          faults = omega (arith, read.faults, done_cut.faults);
          checksum = λ t p named. absurd (cc named);
          covered = read.covered;
          refused = λ t less. absurd (omega (arith, less, read.covered t));
          cause = tt;
        }
