use Rattle.std.proofs.Common.{◌≡◌, ◌+◌, ◌-◌, ◌/◌, ◌%◌, ◌∙◌, inl, inr, ℕ, length, take, drop, length-drop, length-append, ap, arith}
use Rattle.std.proofs.lemmas.List.{take_rest}
use Rattle.sealed_pages.specs.Readers.{reading, next_of}
use Rattle.sealed_pages.proofs.looking.ReplayLemmas.{pushed_cases}
use Rattle.sealed_pages.proofs.replay.PageReplay.take_tip.Given as given
use Rattle.sealed_pages.proofs.replay.PageReplay.take_tip.Goals.{After-extend_from_slice}
use Rattle.sealed_pages.proofs.replay.PageReplay.take_tip.Goals as goal
use Rattle.sealed_pages.specs.lemmas.looking.Replay.{tip_bytes, tip_covered, tip_ends}

-- the next byte that is not at hand
next : (g : given.Over) (c : After-extend_from_slice g) → c.args.self.now.at + c.remaining.result ≡ next_of (reading c.args.self.now)
next g c = ap (λ (n : ℕ). c.args.self.now.at + n) c.remaining.ensures

-- what is added is the rest of the tip
rest : (g : given.Over) (c : After-extend_from_slice g) → take (length c.deref.result.now - (c.args.self.now.at + c.remaining.result) % c.from.result) (drop ((c.args.self.now.at + c.remaining.result) % c.from.result) c.deref.result.now) ≡ drop ((c.args.self.now.at + c.remaining.result) % c.args.self.now.page_size) c.args.self.now.tip.items
rest g c =
    let skip : (c.args.self.now.at + c.remaining.result) % c.from.result ≡ (c.args.self.now.at + c.remaining.result) % c.args.self.now.page_size = ap (λ (n : ℕ). (c.args.self.now.at + c.remaining.result) % n) c.from.ensures in
    take_rest c.deref.result.now ((c.args.self.now.at + c.remaining.result) % c.from.result) ∙ (λ i. drop (skip i) (c.deref.ensures.value i))

pub invariant_of-self : goal.invariant_of-self
invariant_of-self g c =
    elim (pushed_cases c.extend_from_slice.result c.extend_from_slice.new.self.items _ c.args.self.now.held.items c.extend_from_slice.ensures.items) [
      | inl more ↦ (let ends = tip_ends g.S.Seal.seal_of c.args.self.now.page_size c.args.self.now.size c.args.self.now.at c.args.self.now.used (c.args.self.now.at + c.remaining.result) c.args.self.now.held.items c.args.self.now.tip.items _ c.extend_from_slice.new.self.items c.args.self.now.held.items c.args.self.now.some c.args.self.now.taken (next g (goal.at.invariant_of-self g c).After-extend_from_slice)
          (omega (arith, c.requires.full, ap (λ (n : ℕ). (c.args.self.now.at + n) / c.args.self.now.page_size) c.remaining.ensures)) (omega (arith, c.requires.within, c.remaining.ensures)) c.args.self.now.tip_long
          (rest g (goal.at.invariant_of-self g c).After-extend_from_slice) more in record {
            taken = omega (arith, ap length more, length-append c.args.self.now.held.items (take (length c.deref.result.now - (c.args.self.now.at + c.remaining.result) % c.from.result) (drop ((c.args.self.now.at + c.remaining.result) % c.from.result) c.deref.result.now)), c.args.self.now.taken);
            inside = omega (arith, ends, length-drop c.args.self.now.used c.extend_from_slice.new.self.items);
            some = c.args.self.now.some;
            room = c.args.self.now.room;
            tip_long = c.args.self.now.tip_long;
            same_pages = c.args.self.now.same_pages;
          })
      | inr same ↦ record {
        taken = omega (arith, ap length same, c.args.self.now.taken);
        inside = omega (arith, ap length same, c.args.self.now.inside);
        some = c.args.self.now.some;
        room = c.args.self.now.room;
        tip_long = c.args.self.now.tip_long;
        same_pages = c.args.self.now.same_pages;
      }
    ]

pub returns-clause-replays : goal.returns-clause-replays
returns-clause-replays g c content is =
    record {
      bytes = tip_bytes g.S.Seal.seal_of c.args.self.now.page_size c.args.self.now.size c.args.self.now.at c.args.self.now.used (c.args.self.now.at + c.remaining.result) c.args.self.now.held.items c.args.self.now.tip.items _ c.extend_from_slice.new.self.items content c.args.self.now.some c.args.self.now.taken (next g (goal.at.returns-clause-replays g c).After-extend_from_slice)
          (omega (arith, c.requires.full, ap (λ (n : ℕ). (c.args.self.now.at + n) / c.args.self.now.page_size) c.remaining.ensures)) (omega (arith, c.requires.within, c.remaining.ensures)) c.args.self.now.tip_long (rest g (goal.at.returns-clause-replays g c).After-extend_from_slice) c.in_ok-extend_from_slice.ensures.items is.tip is.bytes is.covered;
      covered = tip_covered g.S.Seal.seal_of c.args.self.now.page_size c.args.self.now.size c.args.self.now.at c.args.self.now.used (c.args.self.now.at + c.remaining.result) c.args.self.now.held.items c.args.self.now.tip.items _ c.extend_from_slice.new.self.items content c.args.self.now.some c.args.self.now.taken (next g (goal.at.returns-clause-replays g c).After-extend_from_slice)
          (omega (arith, c.requires.full, ap (λ (n : ℕ). (c.args.self.now.at + n) / c.args.self.now.page_size) c.remaining.ensures)) (omega (arith, c.requires.within, c.remaining.ensures)) c.args.self.now.tip_long (rest g (goal.at.returns-clause-replays g c).After-extend_from_slice) c.in_ok-extend_from_slice.ensures.items is.tip is.bytes is.covered;
      piece = is.piece;
      tip = is.tip;
    }

pub returns-clause-ends : goal.returns-clause-ends
returns-clause-ends g c =
    tip_ends g.S.Seal.seal_of c.args.self.now.page_size c.args.self.now.size c.args.self.now.at c.args.self.now.used (c.args.self.now.at + c.remaining.result) c.args.self.now.held.items c.args.self.now.tip.items _ c.extend_from_slice.new.self.items c.args.self.now.held.items c.args.self.now.some c.args.self.now.taken (next g (goal.at.returns-clause-ends g c).After-extend_from_slice)
    (omega (arith, c.requires.full, ap (λ (n : ℕ). (c.args.self.now.at + n) / c.args.self.now.page_size) c.remaining.ensures)) (omega (arith, c.requires.within, c.remaining.ensures)) c.args.self.now.tip_long
    (rest g (goal.at.returns-clause-ends g c).After-extend_from_slice) c.in_ok-extend_from_slice.ensures.items
