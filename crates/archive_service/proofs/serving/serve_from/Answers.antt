use Rattle.archive_service.proofs.serving.serve_from.Goals as goal

pub returns : goal.returns
returns g c = rw c.ended-end.ensures c.serve_each-done.ensures
