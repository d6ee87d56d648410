-- Which sections a call removes, and in which order.
use Rattle.std.specs.Prelude.{ℕ, ◌<◌, ◌≤◌}
use Rattle.section_manager.specs.declared.manager.removing.Doomed.{Doomed}
use Rattle.section_manager.specs.declared.manager.removing.Doomed.TheVariants.{Through, After}
use Rattle.section_manager.specs.Sections.{Sections, IsKnown}

module _ {F B : Type 0} (m : Sections F B) where
  -- the section is removed
  abbrev pub IsDoomed : Doomed → ℕ → Type 0
  IsDoomed (Through last) s = IsKnown m s × (s ≤ last)
  IsDoomed (After kept) s = IsKnown m s × (kept < s)

-- s is removed before t
abbrev pub GoesBefore : Doomed → ℕ → ℕ → Type 0
GoesBefore (Through last) s t = s < t
GoesBefore (After kept) s t = t < s
