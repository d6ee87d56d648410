-- How far a content is sealed, where its first pages are taken as full.
use Rattle.std.specs.Prelude.{ℕ, ◌+◌, ◌*◌, ◌-◌, min, List, length}
use Rattle.sealed_pages.specs.SealedPrefix.{pages_in, sealed_from}

-- the first k pages, and what is sealed of the pages from there on
abbrev pub proven_prefix : (List ℕ → ℕ) → ℕ → List ℕ → ℕ → ℕ
proven_prefix seal P c k = k * P + length (sealed_from seal P c k (pages_in P c - k))

-- the same of the pages below `upto` alone
abbrev pub prefix_upto : (List ℕ → ℕ) → ℕ → List ℕ → ℕ → ℕ → ℕ
prefix_upto seal P c k upto = k * P + length (sealed_from seal P c k (min (pages_in P c) upto - k))
