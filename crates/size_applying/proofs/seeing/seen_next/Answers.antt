use Rattle.size_applying.proofs.SeeingForms.{follows_on}
use Rattle.size_applying.proofs.seeing.seen_next.Goals as goal

pub returns-in-Some-clause-seen : goal.returns-in-Some-clause-seen
returns-in-Some-clause-seen c = λ σ held on. follows_on c.args.table.now c.args.last.now.seen c.args.later.now c.in-Some.seen σ c.seen_behind.result c.in-Some.is c.seen_behind.ensures held on
