-- The start state of a lawful image.
use Rattle.std.specs.Prelude.{ℕ, ◌^◌, true, nat_lt, if◌then◌else◌, List, [], length}
use Rattle.std.proofs.Common.{refl, ap}
use Rattle.std.proofs.lemmas.Bool.{le-ltb, lt-ltb}
use Rattle.blob_device.specs.Disk.{Image}
use Rattle.paired.specs.Kept.{Markers}
use Rattle.archives.specs.Filing.{Filing, floor_of, kept}
use Rattle.archives.specs.Lawful.{Lawful}
use Rattle.archives.specs.Machine.{State}
use Rattle.archives.specs.Standing.{IsStart}

-- what the image keeps, all of it synced
abbrev pub start_of : Filing → Image → Markers → State (List ℕ)
start_of f image markers = record {
  is_open = true;
  lists = λ s. if nat_lt s (2 ^ 64) then kept f image markers s else [];
  synced = λ s. length (if nat_lt s (2 ^ 64) then kept f image markers s else []);
  floor = floor_of markers;
}

pub starts : (f : Filing) (image : Image) (markers : Markers) → Lawful f image markers
    → IsStart f image markers (start_of f image markers)
starts f image markers lawful = record {
  held = lawful.pair.held;
  is_open = refl;
  lists = λ s small. ap (λ b. if b then kept f image markers s else []) (lt-ltb s (2 ^ 64) small);
  no_more = λ s large. ap (λ b. if b then kept f image markers s else []) (le-ltb s (2 ^ 64) large);
  synced = λ s. refl;
  floor = refl;
}

-- as a store of the kind has to have one
abbrev pub start_with : (f : Filing) (image : Image) → (markers : Markers) × Lawful f image markers
    → (st : State (List ℕ)) × ((markers : Markers) × IsStart f image markers st)
start_with f image lawful = (start_of f image lawful.0, (lawful.0, starts f image lawful.0 lawful.1))
