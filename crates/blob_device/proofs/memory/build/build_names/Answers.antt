use Rattle.std.proofs.Common.{◌≡◌, ◌∷◌, None}
use Rattle.std.specs.Map.Iter.{deref_pair}
use Rattle.std.proofs.lemmas.Map.Iter.{rest_more}
use Rattle.blob_device.specs.Tables.{at_name}
use Rattle.blob_device.specs.Building.{names_built, after_all}
use Rattle.blob_device.proofs.Building.{build_more, after_more}
use Rattle.blob_device.proofs.memory.build.build_names.Goals as goal

pub loop-name-preserved : goal.loop-name-preserved
loop-name-preserved g c =
    let is : c.loop-name.name-iterator ≡ (c.in-Some.name.now, c.in-Some.value.now) ∷ c.next.new.self = rest_more deref_pair _ _ c.next.result (c.in-Some.name, c.in-Some.value) c.in-Some.is c.next.ensures.steps in
    record {
      made = build_more g.M.Make.makes g.M.Make.next g.M.Make.sees c.loop-name.maker c.make.new.self (at_name c.loop-name.built) (at_name c.place.new.names) c.in-Some.name.now c.as_slice.result.now c.in-Some.value.now c.loop-name.name-iterator c.next.new.self c.in_ok-made.made
          is c.as_slice.ensures.value c.in_ok-made.ensures.made c.in_ok-made.ensures.next c.in_ok-place.ensures
          (names_built g.M.Make.makes g.M.Make.next c.args.maker.now c.args.names.now.entries (λ _. None)) c.loop-name.invariant.made;
      next = after_more g.M.Make.makes g.M.Make.next g.M.Make.sees c.loop-name.maker c.make.new.self (at_name c.loop-name.built) (at_name c.place.new.names) c.in-Some.name.now c.as_slice.result.now c.in-Some.value.now c.loop-name.name-iterator c.next.new.self c.in_ok-made.made
          is c.as_slice.ensures.value c.in_ok-made.ensures.made c.in_ok-made.ensures.next c.in_ok-place.ensures
          (after_all g.M.Make.next c.args.maker.now c.args.names.now.entries) c.loop-name.invariant.next;
    }
