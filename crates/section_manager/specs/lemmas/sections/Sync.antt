-- The laws of a buffer of which a manager's syncs make use.
use Rattle.std.specs.Prelude.{◌≡◌, ℕ, ◌≤◌, false, List, length}
use Rattle.blob_device.specs.Disk.{Blob}
use Rattle.sealed_pages.specs.Cutting.{StandsSettled}
use Rattle.section_manager.specs.declared.buffer.SectionBuffer as buffer
use Rattle.section_manager.specs.Leaving.{Leaves}

-- what is known of each buffer
pub record BufferLaws {B : Type 0} (g : buffer.Ghosts B) : Type 0 where
  pub passes : (u : B) (b : Blob) → g.Stands u b → Leaves (g.NoChanceSeal u) (g.MayKeep u b (g.settled u)) b
  pub looser : (u : B) (b : Blob) (few more : ℕ) (contents : List (List ℕ)) (c : List ℕ) → few ≤ more → g.MayKeep u b more contents c → g.MayKeep u b few contents c
  pub counted : (u : B) (b : Blob) → g.Stands u b → length (g.bytes u b.content) ≡ g.byte_count u
  pub all_settled : (u : B) → g.unsettled u ≡ false → g.settled u ≡ g.byte_count u
  pub rested : (u : B) (b : Blob) → g.Stands u b → g.unsettled u ≡ false → StandsSettled b
  pub found_again : (u : B) (b : Blob) → g.Stands u b → g.IsWhole u b → g.unsettled u ≡ false → g.holds (g.setting u) b.content ≡ g.bytes u b.content
