-- What a flush keeps: the slots that have settled, and that nothing else can come to match but the right bytes.
use Rattle.std.specs.Prelude.{◌≡◌, ◌⊎◌, ℕ, ◌+◌, ◌*◌, ◌-◌, ◌<◌, ◌≤◌, ltb, eqb, not, min, Bool, false, cond, List, [], ◌∷◌, length, get_or, Result, OnOk}
use Rattle.blob_device.specs.Disk.{Key, Blob, settled_at}
use Rattle.blob_device.specs.Guards.{Sealed}
use Rattle.blob_device.specs.Timeline.{Timeline, disk, Always, OnlyAt}
use Rattle.sealed_pages.specs.View.{View, view, page_at, slot_at, Within}
use Rattle.sealed_pages.specs.Slots.{named_length, slot_length, page_length}
use Rattle.sealed_pages.specs.ChanceSeal.{Sealing}
use Rattle.sealed_pages.specs.Contents.{IsHad}

-- the slot that a flush writes on page k: the one that is not settled, and slot A where none is
abbrev pub next_slot : ℕ → ℕ → Bool → ℕ → Bool
next_slot P L newest k = cond (ltb (k * P) L) (not newest) false

-- the slot that covers the last page as far as F, where F ends within it
abbrev pub last_slot : ℕ → ℕ → ℕ → Bool → ℕ → Bool
last_slot P F L newest k = cond (eqb F L) newest (next_slot P L newest k)

-- six zeros
abbrev pub no_slot : List ℕ
no_slot = 0 ∷ 0 ∷ 0 ∷ 0 ∷ 0 ∷ 0 ∷ []

-- τ with one page's slot changed
abbrev pub with_slot : (ℕ → Bool) → ℕ → Bool → ℕ → Bool
with_slot τ k second j = cond (eqb j k) second (τ j)

module _ (P : ℕ) where
  -- Of the pages that are not full at F, no slot names more than F leaves it. So no byte written from F on can make a slot match.
  abbrev pub Quiet : ℕ → View → Type 0
  Quiet F v = (k : ℕ) (second : Bool) → F < k * P + P → named_length v (slot_at P k second) ≤ F - k * P

  -- the data up to F are these bytes
  abbrev pub Data : List ℕ → ℕ → View → Type 0
  Data bytes F v = (k i : ℕ) → i < P → k * P + i < F → v (page_at P k + i) ≡ get_or bytes (k * P + i) 0

module _ (seal : List ℕ → ℕ) (P : ℕ) where
  -- each place that matches has these bytes
  pub record Sound (bytes : List ℕ) (c : List ℕ) : Type 0 where
    pub within : (k : ℕ) (second : Bool) → 1 ≤ slot_length seal P c k second → k * P + slot_length seal P c k second ≤ length bytes
    pub same : (k : ℕ) (second : Bool) (i : ℕ) → i < slot_length seal P c k second → view c (page_at P k + i) ≡ get_or bytes (k * P + i) 0

  -- in each page below L one slot, picked by σ, covers the page as far as L goes
  abbrev pub Covers : List ℕ → ℕ → (ℕ → Bool) → Type 0
  Covers c L σ = (k : ℕ) → k * P < L → min P (L - k * P) ≤ slot_length seal P c k (σ k)

  -- the places of these slots, and of the data that they cover
  abbrev pub Held : List ℕ → ℕ → (ℕ → Bool) → ℕ → Type 0
  Held c L σ i = (k : ℕ) × (k * P < L) × (Within (slot_at P k (σ k)) 6 i ⊎ Within (page_at P k) (slot_length seal P c k (σ k)) i)

  -- The blob at each moment: what is held of the content w that settled stands, and in each content since, each place that matches has these bytes.
  abbrev pub Stands : List ℕ → List ℕ → ℕ → (ℕ → Bool) → Blob → Type 0
  Stands bytes w L σ = Sealed (Held w L σ) (view w) (Sound bytes)

  -- the content of a blob whose first F bytes are flushed: the slots picked by τ cover them
  pub record Flushed (bytes : List ℕ) (F : ℕ) (τ : ℕ → Bool) (c : List ℕ) : Type 0 where
    pub fits : F ≤ length bytes
    pub quiet : Quiet P F (view c)
    pub same : Data P bytes F (view c)
    pub covers : Covers c F τ

  -- A blob between calls: of these bytes the first F are flushed and the first L settled, the last of those by the slot
  -- `newest` where they end within a page. Where all that is flushed has settled, the blob has. It reads as a content that it has
  -- had, since a write that failed gives the buffer up.
  pub record Ready (bytes : List ℕ) (F L : ℕ) (newest : Bool) (b : Blob) : Type 0 where
    pub w : List ℕ
    pub σ : ℕ → Bool
    pub τ : ℕ → Bool
    pub stands : Stands bytes w L σ b
    pub settled : Covers w L σ
    pub flushed : Flushed bytes F τ b.content
    pub order : L ≤ F
    pub last : (k : ℕ) → k * P < L → L < k * P + P → σ k ≡ newest
    pub head : (k : ℕ) → k * P < F → F < k * P + P → τ k ≡ last_slot P F L newest k
    pub rest : L ≡ F → b ≡ settled_at b.content
    pub had : IsHad b

  -- no slot covers more than F
  abbrev pub Below : ℕ → List ℕ → Type 0
  Below F c = (k : ℕ) (second : Bool) → 1 ≤ slot_length seal P c k second → k * P + slot_length seal P c k second ≤ F

  -- an adopted content, before what a crash left in it is removed
  pub record KeptContent (bytes : List ℕ) (F : ℕ) (σ : ℕ → Bool) (c : List ℕ) : Type 0 where
    pub fits : F ≤ length bytes
    pub below : Below F c
    pub same : Data P bytes F (view c)
    pub covers : Covers c F σ

  -- the blob while that is removed
  pub record Kept (bytes : List ℕ) (F : ℕ) (w : List ℕ) (σ : ℕ → Bool) (b : Blob) : Type 0 where
    pub stands : Stands bytes w F σ b
    pub covers : Covers w F σ
    pub content : KeptContent bytes F σ b.content

  -- Pages up to G are flushed: at each moment what settled stands, and then they are flushed too.
  pub record PageFlushed {T E : Type 0} (bytes : List ℕ) (G L : ℕ) (newest : Bool) (key : Key) (result : Result T E) (old new : Timeline) : Type 0 where
    pub any_moment : Sealing seal P bytes L key old new
    pub done : OnOk result (Ready bytes G L newest (disk new key))

-- each page from `first` on that begins below G is covered as far as G goes
abbrev pub CoversFrom : (List ℕ → ℕ) → ℕ → List ℕ → ℕ → ℕ → Type 0
CoversFrom seal P c first G = (k : ℕ) → first ≤ k → k * P < G → min P (G - k * P) ≤ page_length seal P c k

-- no other blob changes at any moment
abbrev pub Alone : Key → Timeline → Timeline → Type 0
Alone key old new = Always old new (OnlyAt key (disk old) (λ b. Unit {0}))

-- whatever the slots say: no other blob changes, and then the data up to G are these bytes
pub record Wrote {T E : Type 0} (P : ℕ) (bytes : List ℕ) (G : ℕ) (key : Key) (result : Result T E) (old new : Timeline) : Type 0 where
  pub alone : Alone key old new
  pub done : OnOk result (Data P bytes G (view (disk new key).content))

module _ (seal : List ℕ → ℕ) (P : ℕ) where
  -- a slot that matches, or that names no length
  abbrev pub IsClean : List ℕ → ℕ → Bool → Type 0
  IsClean c k second = (1 ≤ slot_length seal P c k second) ⊎ (named_length (view c) (slot_at P k second) ≡ 0)

  -- A step of the first flush after adopting: at each moment what settled stands, and then the blob is as clean as before, and has D.
  pub record Removed {T E : Type 0} (bytes : List ℕ) (F : ℕ) (w : List ℕ) (σ : ℕ → Bool) (D : List ℕ → Type 0) (key : Key) (result : Result T E) (old new : Timeline) : Type 0 where
    pub any_moment : Sealing seal P bytes F key old new
    pub done : OnOk result (Kept seal P bytes F w σ (disk new key) × D (disk new key).content)
