-- Where the parts of a pair are, and that a section without a marker counts as marked with 0.
use Rattle.std.proofs.Common.{◌≡◌, inl, inr, ℕ, ◌^◌, ◌≤◌, if◌then◌else◌, Bool, List, Option, None, Some, unwrap_or, IsTrue, refl, ◌∙◌, ap}
use Rattle.std.specs.Int.{w64, to_be_bytes}
use Rattle.std.specs.Map.{lookup}
use Rattle.std.specs.Str.{bytes_eq}
use Rattle.std.proofs.lemmas.Bool.{cases_lt, lt-ltb, le-ltb}
use Rattle.section_manager.specs.declared.sealed.AppendFactory.{AppendFactory}
use Rattle.section_manager.specs.Setting.{Setting}
use Rattle.value_codec.specs.Keys.{key8_bytes}
use Rattle.paired.specs.Kept.{Layout, MarkerMap, IsMarked, marker_of}
use Rattle.paired.specs.Pair.{Pair}
use Rattle.paired.specs.PairShown.{shown}
use Rattle.paired.specs.declared.oversized.Oversized.{Oversized}

abbrev found_for : MarkerMap → ℕ → Option ℕ
found_for markers s = lookup (λ k. bytes_eq (key8_bytes k) (to_be_bytes w64 s)) markers

-- a section that has no marker counts as marked with 0
pub unmarked_zero : (markers : MarkerMap) (s : ℕ) → ((m : ℕ) → IsMarked markers s m → ⊥) → marker_of markers s ≡ 0
unmarked_zero markers s none = elim (cases_lt s (2 ^ 64)) [
  | inl lt ↦ ap (λ (b : Bool). if b then unwrap_or (found_for markers s) 0 else 0) (lt-ltb s (2 ^ 64) lt) ∙ go (found_for markers s) (λ m is. none m (lt, is))
  | inr past ↦ ap (λ (b : Bool). if b then unwrap_or (found_for markers s) 0 else 0) (le-ltb s (2 ^ 64) past)
]
  where
    go : (o : Option ℕ) → ((m : ℕ) → o ≡ Some m → ⊥) → unwrap_or o 0 ≡ 0
    go None never = refl
    go (Some m) never = absurd (never m refl)

-- The parts of a pair are where its layout says, and none is where another is.
pub record Here {F B : Type 0} (gives : F → Setting) (p : Pair F B) : Type 0 where
  pub index : p.index.sections.partition ≡ p.layout.index
  pub values : p.values.partition ≡ p.layout.values
  pub store : p.store.partition ≡ p.layout.metadata
  pub page_size : (gives p.index.sections.factory).page_size ≡ p.layout.page_size
  pub some : 1 ≤ p.layout.record_size
  pub marked : IsTrue p.layout.marked

-- how an index is kept
abbrev pub page_setting : {S : Type 0} → AppendFactory S → Setting
page_setting f = record { page_size = f.pages.page_size; capacity = f.write_buffer; cache_pages = f.pages.cache_pages }

pub here_of : {I V S C : Type 0} {fixed codec seal : _} (place : List ℕ → ℕ × ℕ) (o : Oversized I V S C fixed codec seal) → 1 ≤ fixed.SIZE → Here page_setting (shown place o)
here_of place o pos = record { index = refl; values = refl; store = refl; page_size = refl; some = pos; marked = refl }

-- the layout of such a pair
pub layout_as : (l : Layout) (index values metadata : List ℕ) (size : ℕ) → index ≡ l.index → values ≡ l.values → metadata ≡ l.metadata → size ≡ l.page_size
    → record l { index = index; values = values; metadata = metadata; page_size = size } ≡ l
layout_as l index values metadata size index_is values_is metadata_is size_is =
    ap (λ (x : List ℕ). record l { index = x; values = values; metadata = metadata; page_size = size }) index_is ∙ ap (λ (x : List ℕ). record l { values = x; metadata = metadata; page_size = size }) values_is
    ∙ ap (λ (x : List ℕ). record l { metadata = x; page_size = size }) metadata_is ∙ ap (λ (x : ℕ). record l { page_size = x }) size_is
