use Rattle.std.proofs.Common.{◌≡◌, ◌+◌, ◌-◌, ◌*◌}
use Rattle.unfold_parts.proofs.Layings.{All_from, Fields_from, Leads}
use Rattle.unfold_parts.proofs.laying.+lay.Given as goal

abbrev pub decreases-lay_behind : goal.decreases-lay_behind
decreases-lay_behind l = 2 * (1001 - l.deep)

abbrev pub decreases-lay_all : goal.decreases-lay_all
decreases-lay_all l = 2 * (1001 - l.deep) + 1

abbrev pub decreases-lay_fields : goal.decreases-lay_fields
decreases-lay_fields l = 2 * (1001 - l.deep) + 1

abbrev pub invariant-lay_all-loop-like : goal.invariant-lay_all-loop-like
invariant-lay_all-loop-like l = (l.like-index ≡ l.at) × Leads (All_from l.likes l.parts 0 0) (All_from l.likes l.parts l.like-index l.at) l.fn.laying.atoms.items l.laying.atoms.items

abbrev pub invariant-lay_fields-loop-like : goal.invariant-lay_fields-loop-like
invariant-lay_fields-loop-like l = (l.like-index ≡ l.at) × Leads (Fields_from l.likes l.fields 0 0) (Fields_from l.likes l.fields l.like-index l.at) l.fn.laying.atoms.items l.laying.atoms.items
