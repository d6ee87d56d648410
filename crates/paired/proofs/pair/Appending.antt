-- What is known of a section of a pair to whose values more is added.
use Rattle.std.proofs.Common.{◌≡◌, ℕ, ◌≤◌, List, ◌++◌, length, IsTrue, refl, arith, length-append}
use Rattle.std.proofs.Math.Seq.{take-length}
use Rattle.paired.specs.Records.{records, is_sound, entry_of}
use Rattle.paired.specs.Kept.{Layout}
use Rattle.paired.specs.Holding.{Facts, list_in, AreGood}
use Rattle.paired.specs.lemmas.Records.{map-same}
use Rattle.paired.specs.lemmas.pair.Holding.{IsMore}
use Rattle.blob_device.proofs.general.Lists.{all_by}
use Rattle.paired.specs.lemmas.pair.Appending.{entry_stays, prefix_added, sound_added}

-- Of a section, to whose values more is added.
module _ (l : Layout) (f : Facts) (good : AreGood l f) (more : List ℕ) where
  abbrev pub lengthened : Facts
  lengthened = record f { values = f.values ++ more }

  -- a record is sound in the values that were there, and in those that are there now
  abbrev HadSound : List ℕ → Type 0
  HadSound x = IsTrue (is_sound l.seal f.values (l.place x))

  abbrev HasSound : List ℕ → Type 0
  HasSound x = IsTrue (is_sound l.seal (f.values ++ more) (l.place x))

  pub lengthen_good : AreGood l lengthened
  lengthen_good = record {
    end = good.end;
    follow = good.follow;
    room = omega (arith, good.room, length-append f.values more);
    sound = all_by HadSound HasSound (λ x was. sound_added l.seal f.values more (l.place x).0 (l.place x).1 was) (records l.record_size f.index) good.sound;
    index_settled = good.index_settled;
    values_settled = good.values_settled;
  }

  pub lengthen_list : list_in l lengthened ≡ list_in l f
  lengthen_list = map-same (entry_of l.place (f.values ++ more)) (entry_of l.place f.values) (records l.record_size f.index)
      (all_by HadSound (λ x. entry_of l.place (f.values ++ more) x ≡ entry_of l.place f.values x) (λ x was. entry_stays l f.values more x was) (records l.record_size f.index) good.sound)

  pub lengthen_more : f.values_settled ≤ length f.values → IsMore f lengthened
  lengthen_more within = record {
    index = take-length f.index;
    values = prefix_added f.values more;
    index_settled = omega arith;
    values_settled = omega arith;
    within = within;
    synced = refl;
  }
