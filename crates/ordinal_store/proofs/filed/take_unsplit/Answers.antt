use Rattle.ordinal_store.proofs.ranges.Cuts.{TakesWithin-then, TakesAway-then}
use Rattle.ordinal_store.proofs.filed.take_unsplit.Goals as goal

pub cut_back-requires : goal.cut_back-requires
cut_back-requires c = record { sound = c.requires.sound; forward = c.requires.forward; whole = c.requires.whole }

pub take_whole-requires : goal.take_whole-requires
take_whole-requires c = record { sound = c.cut_back.ensures.sound; clear = c.cut_back.ensures.clear }

pub cut_below-requires : goal.cut_below-requires
cut_below-requires c =
    let left = c.take_whole.ensures.taking in
    record { sound = left.sound; forward = c.requires.forward; clear = left.clear; none = c.take_whole.ensures.none }

pub returns : goal.returns
returns c = record {
  sound = c.cut_below.ensures.sound;
  cut = TakesAway-then _ _ _ _ _ (TakesWithin-then _ _ _ _ _ c.cut_back.ensures.cut c.take_whole.ensures.taking.cut) c.cut_below.ensures.cut;
}
