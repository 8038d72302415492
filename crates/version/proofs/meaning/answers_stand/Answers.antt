use Rattle.version.proofs.Answered.{answers_mean}
use Rattle.version.proofs.meaning.answers_stand.Goals as goal

pub returns : goal.returns
returns c = record { meaning = answers_mean; order = c.order_examples.ensures }
