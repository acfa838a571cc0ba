use Rattle.std.proofs.Common.{ℕ, ◌<◌, Option, IfSome, IfNone, subst}
use Rattle.fut_typing.specs.Program.{program_of}
use Rattle.type_answers.specs.Left.{Decided, IsUndecided, Stands_in_type}
use Rattle.type_infer.proofs.Answering.{decided, undecided}
use Rattle.type_infer.proofs.decide.Goals as goal

pub returns-in-Ok-None-clause-ok : goal.returns-in-Ok-None-clause-ok
returns-in-Ok-None-clause-ok c = decided (program_of c.args.flat.now) c.args.inference.now c.requires.graph
    (subst (λ m. (n : ℕ) → n < m → Decided c.args.inference.now.nodes n) c.requires.base (subst (λ (o : Option (ℕ × ℕ)). IfNone o ((n : ℕ) → n < c.args.base → Decided c.args.inference.now.nodes n)) c.in-Ok-None.field-0-is c.in-Ok-None.ensures.none))

pub returns-in-Ok-Some-clause-err : goal.returns-in-Ok-Some-clause-err
returns-in-Ok-Some-clause-err c = let p : ℕ × ℕ = (c.in-Ok-Some.at, c.in-Ok-Some.field-0-0-1) in undecided (program_of c.args.flat.now) c.args.inference.now c.requires.graph p.0 p.1
    (subst (λ m. p.0 < m) c.requires.base (subst (λ (o : Option (ℕ × ℕ)). IfSome o (λ q. q.0 < c.args.base)) c.in-Ok-Some.field-0-is c.in-Ok-Some.ensures.within))
    (subst (λ (o : Option (ℕ × ℕ)). IfSome o (λ q. Stands_in_type c.args.inference.now.nodes q.0 q.1)) c.in-Ok-Some.field-0-is c.in-Ok-Some.ensures.stands)
    (subst (λ (o : Option (ℕ × ℕ)). IfSome o (λ q. IsUndecided c.args.inference.now.nodes q.1)) c.in-Ok-Some.field-0-is c.in-Ok-Some.ensures.left)
