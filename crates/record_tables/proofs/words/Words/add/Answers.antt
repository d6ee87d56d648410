use Rattle.std.proofs.Common.{◌≡◌, sym, ◌∙◌, ap, Some, arith, rules}
use Rattle.std.specs.HashMap.{get}
use Rattle.std.specs.Option.{option_copied_mut}
use Rattle.smallvec.specs.SmallVec.{HasRoomFor}
use Rattle.record_tables.specs.Words.{handles_in}
use Rattle.record_tables.proofs.LentLemmas.{is_lent, lent_has}
use Rattle.record_tables.proofs.WordLemmas.{adds}
use Rattle.record_tables.proofs.words.Words.add.Goals as goal

pub unwrap-requires : goal.unwrap-requires
unwrap-requires g c = is_lent c.get_mut.result _ (λ handles. HasRoomFor handles 1) c.get_mut.ensures.value c.requires

pub push_reserved-requires : goal.push_reserved-requires
push_reserved-requires g c = (omega arith, lent_has c.get_mut.result c.unwrap.result _ (λ handles. HasRoomFor handles 1) c.unwrap.ensures c.get_mut.ensures.value c.requires)

pub returns : goal.returns
returns g c =
    let was : get g.W.PartialEq.eq c.args.self.now.handles c.args.word.now ≡ Some c.unwrap.result.now = sym c.get_mut.ensures.value ∙ ap option_copied_mut c.unwrap.ensures in
    let writes = (c.get_mut.follows.holds c.push_reserved.new.self).3 (search rules) in
    adds g.met.W.Eq.laws c.args.word.now c.args.self.now _ c.unwrap.result.now.items (Some c.push_reserved.new.self) (ap handles_in was) writes.0 c.args.handle c.push_reserved.ensures.items
