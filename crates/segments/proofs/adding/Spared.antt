-- Which bytes of a fixed journal's sections a call leaves: those of a section that it does not touch.
use Rattle.std.proofs.Common.{ap, sym, List, ◌≡◌, ◌∙◌, ℕ, Option, None, Some, refl}
use Rattle.blob_device.specs.Disk.{Disk}
use Rattle.sealed_pages.specs.declared.page_blob.PageBlob.{PageBlob}
use Rattle.section_manager.specs.Sections.{Sections, section_key, key_of, IsSame, SamePlace}
use Rattle.segments.specs.FixedLists.{bytes_held, section_bytes}

-- A section that is held as before, over a blob as before, has the bytes that it had.
pub bytes_spared : {F S : Type 0} {gs : _} (m n : Sections F (PageBlob S gs)) (d e : Disk) (s : ℕ)
    → IsSame m n s → SamePlace m n → ((u : PageBlob S gs) → m.held s ≡ Some u → e (key_of m s) ≡ d (key_of m s))
    → section_bytes n e s ≡ section_bytes m d s
bytes_spared {S = S} {gs = gs} m n d e s same place blob =
    (λ i. bytes_held (same.held i) (e (section_key (place.partition i) s)).content) ∙ here (m.held s) blob
  where
    here : (o : Option (PageBlob S gs)) → ((u : PageBlob S gs) → o ≡ Some u → e (key_of m s) ≡ d (key_of m s))
        → bytes_held o (e (key_of m s)).content ≡ bytes_held o (d (key_of m s)).content
    here None blob = refl
    here (Some u) blob = λ i. bytes_held (Some u) (blob u refl i).content

-- A section that goes on to have none has none.
pub bytes_none : {S : Type 0} {gs : _} (o p : Option (PageBlob S gs)) (c e : List ℕ) → o ≡ None → p ≡ None → bytes_held p e ≡ bytes_held o c
bytes_none {S = S} {gs = gs} o p c e was now = ap (λ (x : Option (PageBlob S gs)). bytes_held x e) now ∙ sym (ap (λ (x : Option (PageBlob S gs)). bytes_held x c) was)
