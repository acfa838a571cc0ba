use Rattle.std.proofs.Common.{take, Ok, sym, ap, ◌∙◌}
use Rattle.uniqueness.proofs.Growing.{apart_is}
use Rattle.uniqueness.proofs.steps.end_body.Goals as goal

pub returns : goal.returns
returns c = λ body ls n e g. apart_is body ls c.args.losses.now e g ∙ ap (λ z. Ok (record { result = tt; losses = z })) (ap (λ k. take k c.args.losses.now) (sym n) ∙ sym c.put_back.ensures)
