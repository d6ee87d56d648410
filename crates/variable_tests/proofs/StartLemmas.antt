-- Where a replay of frames may begin.
use Rattle.std.proofs.Common.{◌≡◌, ◌∙◌, ℕ, ◌≤◌, Bool, true, false, cond, List, [], ◌++◌, length, take, drop, Option, None, Some, IsTrue, IsSome, ◌↔◌, inl, refl, sym, ap, subst, arith, length-take, take-append-drop}
use Rattle.blob_device.specs.Disk.{Disk, Key, reads}
use Rattle.sealed_pages.specs.SealedPrefix.{sealed_prefix}
use Rattle.sealed_pages.specs.declared.page_blob.PageBlob.{PageBlob}
use Rattle.section_manager.specs.Sections.{key_of, IsHeld}
use Rattle.segments.specs.FixedLists.{Lists, IsRecovered}
use Rattle.segments.specs.FixedReplay.{kept_of}
use Rattle.variable_journal.specs.Frames.{AreFirst, items_of, rest_of}
use Rattle.variable_journal.specs.Replaying.{IsStart}
use Rattle.variable_journal.specs.lemmas.Frame.{first_of_cut}
use Rattle.variable_journal.specs.lemmas.Offset.{whole_is}
use Rattle.variable_tests.specs.Stores.{Begins}

-- a replay may begin with the first item
pub at_first : (bytes : List ℕ) → Begins bytes 0
at_first bytes = inl (record { before = []; after = items_of bytes; are = refl; at = refl })

-- or where the frames of all bytes before end
pub at_end : (bytes before rest : List ℕ) (offset : ℕ) → offset ≤ length bytes → before ≡ take offset bytes → rest ≡ rest_of before → length rest ≡ 0 → Begins bytes offset
at_end bytes before rest offset within is left none =
    let kept = items_of before in
    let first = subst (λ b. AreFirst (items_of bytes) offset (items_of b)) (sym is) (first_of_cut bytes offset) in
    inl (record {
      before = kept;
      after = drop (length kept) (items_of bytes);
      are = sym (take-append-drop (length kept) (items_of bytes)) ∙ ap (λ xs. xs ++ drop (length kept) (items_of bytes)) (sym first.same);
      at = omega (arith, within, none, ap length is, length-take offset bytes, whole_is before, ap length left);
    })

-- a blob that reads so has this content
content_of : (there : Bool) (content bytes : List ℕ) → cond there (Some content) None ≡ Some bytes → content ≡ bytes
content_of true content bytes is = let e : Some content ≡ Some bytes = is in cc
content_of false content bytes is = absurd (cc is)

-- the blob at a key of an image reads so
pub reads_so : (d : Disk) (image : Key → Option (List ℕ)) (place partition number name bytes : List ℕ)
    → ((k : Key) → image k ≡ reads (d k)) → image (partition, name) ≡ Some bytes → partition ≡ place → name ≡ number
    → reads (d (place, number)) ≡ Some bytes
reads_so d image place partition number name bytes all is placed named =
    let there : image (place, number) ≡ Some bytes = subst (λ p. image (p, number) ≡ Some bytes) placed (subst (λ n. image (partition, n) ≡ Some bytes) named is) in
    sym (all (place, number)) ∙ there

-- a section that takes no append owes a replay
pub owed : {F B : Type 0} (j : Lists F B) (s : ℕ) (r : Bool) → IsTrue r ↔ IsRecovered j s → r ≡ false → s ≤ j.sections.ceiling → IsTrue (j.unrecovered s)
owed j s r says not below = go (j.unrecovered s) refl
  where
    go : (u : Bool) → j.unrecovered s ≡ u → IsTrue u
    go true is = refl
    go false is = absurd (cc (not, says.1 (record { below = below; checked = is })))

-- what is kept of a section that owes a replay
of_kept : {S : Type 0} {gs : _} (seal : List ℕ → ℕ) (P offset : ℕ) (owes : Bool) (held : Option (PageBlob S gs)) (content : List ℕ)
    → IsTrue owes → ((u : PageBlob S gs) → held ≡ Some u → u.page_size ≡ P)
    → Begins (sealed_prefix seal P content) offset → IsSome held → Begins (kept_of seal owes held content) offset
of_kept seal P offset true (Some u) content owes sized begins is = subst (λ p. Begins (sealed_prefix seal p content) offset) (sym (sized u refl)) begins
of_kept seal P offset true None content owes sized begins is = absurd (cc is)
of_kept seal P offset false held content owes sized begins is = absurd (cc owes)

-- A replay may begin where one may of a section's sealed bytes, if it owes a replay.
pub begins_here : {F S : Type 0} {gs : _} (seal : List ℕ → ℕ) (j : Lists F (PageBlob S gs)) (d : Disk) (s offset P : ℕ) (bytes : List ℕ)
    → IsTrue (j.unrecovered s) → ((u : PageBlob S gs) → j.sections.held s ≡ Some u → u.page_size ≡ P)
    → reads (d (key_of j.sections s)) ≡ Some bytes
    → Begins (sealed_prefix seal P bytes) offset → IsHeld j.sections s → IsStart seal j d s offset
begins_here seal j d s offset P bytes owes sized is begins held =
    let b = d (key_of j.sections s) in
    of_kept seal P offset (j.unrecovered s) (j.sections.held s) b.content owes sized
    (subst (λ c. Begins (sealed_prefix seal P c) offset) (sym (content_of b.there b.content bytes is)) begins) held
