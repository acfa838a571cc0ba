use Rattle.std.proofs.Common.{◌∙◌, refl, ap}
use Rattle.fut_flat.specs.Terms.{Typed_pattern}
use Rattle.fut_flat.specs.Erased.{pattern_of, type_of}
use Rattle.fut_flat.proofs.ErasedPatterns.{pattern_typed}
use Rattle.elab_nodes.specs.Built.{built0, no_memory2}
use Rattle.elab_nodes.proofs.Joined.{two_then, two_stop}
use Rattle.elab_nodes.proofs.pats.typed.Goals as goal

pub returns-in-Ok-try_alloc : goal.returns-in-Ok-try_alloc
returns-in-Ok-try_alloc c = two_then c.in-Ok.ensures (λ z s. s) (built0 (pattern_typed _ _ _ refl ∙ ap (λ q. Typed_pattern (pattern_of q) (type_of c.in-Ok.ty.now)) c.in-Ok-try_alloc.ensures))

pub returns-in-Err-try_alloc : goal.returns-in-Err-try_alloc
returns-in-Err-try_alloc c = no_memory2

pub returns-in-Err : goal.returns-in-Err
returns-in-Err c = two_stop c.in-Err.ensures
