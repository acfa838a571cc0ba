-- Where the body of a function stands, and a function's step, given that of its body.
use Rattle.std.specs.Prelude.{◌≡◌, ℕ, ◌+◌, Option}
use Rattle.fut_flat.specs.Erased.{FlatTerm}
use Rattle.fut_flat.specs.Terms.{Lambda, Patterns}
use Rattle.fut_flat.specs.declared.prim.Ref.{Ref}
use Rattle.fut_scalar.specs.declared.place.BindId.{BindId}
use Rattle.fut_typing.specs.Names.{Names}
use Rattle.fut_aliases.specs.Aliases.{first_name_alone}
use Rattle.fut_aliases.specs.Calls as definition
use Rattle.fut_aliases.specs.Capturing.{capture, captures}
use Rattle.fut_aliases.specs.Looking.{body_node, body_stars, body_wanted, capture_fits, function_stars, give_back, in_body, whole}
use Rattle.fut_aliases.specs.Stars.{Stars}
use Rattle.fut_aliases.specs.Steps.{Step, and_then, apart}
use Rattle.fut_aliases.specs.Values.{Function}
use Rattle.alias_applications.specs.Shown.{wanted_of}
use Rattle.alias_scopes.specs.Scopes.{scope_of}
use Rattle.alias_values.specs.Trees.{stars_of}
use Rattle.uniqueness.specs.Held.{here_of}
use Rattle.alias_forms.specs.declared.functions.Entered.{Entered}
use Rattle.alias_forms.specs.declared.seen.Site.{Site}
use Rattle.alias_forms.specs.Walked.{here_at, kinds_at, types_at}

-- a body is entered from a function of these parameters at a node
pub record Enters (N : Names) (s : Site) (ps : Patterns Ref BindId) (e : FlatTerm) (at : ℕ) (w : Option Stars) (b : Entered) : Type 0 where
  pub stands : here_of (scope_of b.scope.now) b.here ≡ in_body first_name_alone N (kinds_at s) (types_at s) ps at (here_at s)
  pub begins : b.node ≡ body_node first_name_alone N (kinds_at s) (types_at s) ps at
  pub asks : wanted_of b.wanted ≡ body_wanted first_name_alone N (kinds_at s) (types_at s) ps e at w
  pub gives : stars_of b.stars.now ≡ body_stars first_name_alone N (kinds_at s) (types_at s) ps e at w

-- a function of these parameters at a node, whose body is looked at by a step
abbrev pub function_step : Names → Site → Patterns Ref BindId → FlatTerm → ℕ → Option Stars → Step definition.Held → Step definition.Part
function_step N s ps e at w m =
    and_then (apart (and_then m (λ a. give_back first_name_alone N (kinds_at s) (types_at s) (in_body first_name_alone N (kinds_at s) (types_at s) ps at (here_at s)) (body_stars first_name_alone N (kinds_at s) (types_at s) ps e at w) a))) (λ z.
    and_then (capture_fits first_name_alone N (kinds_at s) (types_at s) (here_at s) at (captures (capture N (scope_of s.scope.now) e))) (λ y.
    whole first_name_alone N (kinds_at s) (types_at s) (Lambda ps e) at (Function (captures (capture N (scope_of s.scope.now) e)) (function_stars first_name_alone N (kinds_at s) (types_at s) ps (1 + at) (body_stars first_name_alone N (kinds_at s) (types_at s) ps e at w)))))
