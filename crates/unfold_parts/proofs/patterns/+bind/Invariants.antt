use Rattle.std.proofs.Common.{◌≡◌, ◌+◌, ◌*◌, map}
use Rattle.fut_flat.specs.Erased.{pattern_of, patterns}
use Rattle.unfold_parts.specs.States.{steps_of}
use Rattle.unfold_parts.proofs.Binding.{All_lead, pattern_size, patterns_size}
use Rattle.unfold_parts.proofs.patterns.+bind.Given as goal

abbrev pub decreases-bind_known : goal.decreases-bind_known
decreases-bind_known l = 2 * pattern_size (pattern_of l.pat.now)

abbrev pub decreases-bind_inside : goal.decreases-bind_inside
decreases-bind_inside l = 2 * patterns_size (patterns (map pattern_of l.parts.now)) + 1

abbrev pub decreases-bind_all : goal.decreases-bind_all
decreases-bind_all l = 2 * patterns_size (patterns (map pattern_of l.parts.now))

abbrev pub invariant-bind_all-loop-part : goal.invariant-bind_all-loop-part
invariant-bind_all-loop-part l = (l.part-index ≡ l.at) × All_lead l.sizes l.parts l.given l.names l.fn.work.next l.part-index l.at l.work.next (steps_of l.fn.work) (steps_of l.work) l.behind
