use Rattle.std.proofs.Common.{◌≡◌, ◌≢◌, ◌∙◌, ⊎_elim, Some, List, ℕ, ap, sym, rules}
use Rattle.blob_device.specs.Calls.{pushed, Track}
use Rattle.blob_device.specs.Tracks.{track_at, tracks_in}
use Rattle.blob_device.proofs.Maps.{map_here, map_other, same_or_differ}
use Rattle.blob_device.proofs.memory.logs.step_in.Goals as goal
use Rattle.blob_device.proofs.general.Results.{err_with, ok_with, on_err, on_ok}

pub returns-in_err-make_name-clause-err : goal.returns-in_err-make_name-clause-err
returns-in_err-make_name-clause-err c = err_with c.from_residual.result (λ q. ap (λ (f : List ℕ → Track). f q) c.make_name.ensures.same)

pub returns-clause-here : goal.returns-clause-here
returns-clause-here c =
    let updates = (c.get_mut.follows.holds c.step.new.self).3 (search rules) in
    let room = c.make_name.new.names in
    let more = c.get_mut.follows.lender c.step.new.self in
    on_ok c.step.result (λ w. (
      w.0,
      w.1,
      ap track_at (map_here c.args.name.now room more (Some c.step.new.self) updates) ∙ w.2
          ∙ ap (pushed w.0) (ap track_at c.in-Some.ensures.value ∙ ap (λ (f : List ℕ → Track). f c.args.name.now) c.make_name.ensures.same),
    )) c.step.ensures.ok

pub returns-clause-others : goal.returns-clause-others
returns-clause-others c =
    let updates = (c.get_mut.follows.holds c.step.new.self).3 (search rules) in
    let room = c.make_name.new.names in
    let more = c.get_mut.follows.lender c.step.new.self in
    ok_with c.step.result (λ q other. ap track_at (map_other c.args.name.now room more (Some c.step.new.self) updates q other) ∙ ap (λ (f : List ℕ → Track). f q) c.make_name.ensures.same)

pub returns-clause-err : goal.returns-clause-err
returns-clause-err c =
    let updates = (c.get_mut.follows.holds c.step.new.self).3 (search rules) in
    let room = c.make_name.new.names in
    let more = c.get_mut.follows.lender c.step.new.self in
    on_err c.step.result (λ same q. ⊎_elim
    (λ (is : q ≡ c.args.name.now). ap (tracks_in more) is ∙ ap track_at (map_here c.args.name.now room more (Some c.step.new.self) updates) ∙ same
    ∙ ap track_at c.in-Some.ensures.value ∙ ap (λ (f : List ℕ → Track). f c.args.name.now) c.make_name.ensures.same ∙ ap (tracks_in c.args.names.now) (sym is))
    (λ (other : q ≢ c.args.name.now). ap track_at (map_other c.args.name.now room more (Some c.step.new.self) updates q other) ∙ ap (λ (f : List ℕ → Track). f q) c.make_name.ensures.same)
    (same_or_differ q c.args.name.now)) c.step.ensures.err
