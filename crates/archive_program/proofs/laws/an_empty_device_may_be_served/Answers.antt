use Rattle.archive_program.proofs.LawLemmas.{nothing_may_be_served}
use Rattle.archive_program.proofs.laws.an_empty_device_may_be_served.Goals as goal

pub returns : goal.returns
returns c = record {
  lawful = λ settings items valid some t none. nothing_may_be_served settings items t none;
}
