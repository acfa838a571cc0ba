use Rattle.std.proofs.Common.{◌≡◌, vec_len}
use Rattle.fut_aliases.specs.Aliases.{first_name_alone}
use Rattle.fut_aliases.specs.Looking.{wanted_part}
use Rattle.fut_flat.specs.Erased.{operation_of}
use Rattle.fut_typing.specs.Names.{Names}
use Rattle.alias_applications.specs.Shown.{wanted_of}
use Rattle.alias_parts.specs.Known.{Knows}
use Rattle.alias_scopes.specs.Scopes.{scope_of}
use Rattle.uniqueness.specs.Held.{here_of}
use Rattle.alias_forms.specs.Walked.{here_at, kinds_at, types_at}
use Rattle.alias_forms.proofs.PartForms.{Walking}
use Rattle.alias_forms.proofs.RowWalks.{Going_on}
use Rattle.alias_walk.proofs.walk.+look.Given as goal

abbrev pub invariant-all_looked-loop-exp : goal.invariant-all_looked-loop-exp
invariant-all_looked-loop-exp l = Walking first_name_alone (kinds_at l.site) (types_at l.site) (Knows l.site.program.names) (λ (M : Names). wanted_part first_name_alone M (kinds_at l.site) (types_at l.site) (operation_of l.act) l.node (wanted_of l.wanted)) l.exps l.at (here_at l.site) l.fn.losses l.losses l.parts.items l.next l.first_name l.exp-index × (vec_len l.parts ≡ l.exp-index)

abbrev pub invariant-row_looked-loop-i : goal.invariant-row_looked-loop-i
invariant-row_looked-loop-i l = Going_on first_name_alone (kinds_at l.site) (types_at l.site) (Knows l.site.program.names) l.site.here l.lets l.at (here_of (scope_of l.scope) l.site.here) l.fn.losses l.losses l.inside l.i
