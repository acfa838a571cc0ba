-- Functions.
use Rattle.std.proofs.Common.{◌≡◌, ℕ, ◌+◌, true, false, Option, Some, None, length, Result, Ok, Err, refl, sym, ap, ◌∙◌, subst, arith}
use Rattle.fut_flat.specs.Erased.{FlatTerm}
use Rattle.fut_flat.specs.Numbers.{all_pattern_numbers}
use Rattle.fut_flat.specs.Terms.{Lambda, Patterns}
use Rattle.fut_flat.specs.declared.prim.Ref.{Ref}
use Rattle.fut_scalar.specs.declared.place.BindId.{BindId}
use Rattle.fut_typing.specs.Names.{Names}
use Rattle.fut_types.specs.Types.{Kinds, Sub}
use Rattle.fut_aliases.specs.Aliases.{Naming, Set, first_name_alone}
use Rattle.fut_aliases.specs.Calls as definition
use Rattle.fut_aliases.specs.Looking.{all_kept, both_wanted, body_node, body_stars, body_wanted, capture_fits, declared_stars, function_stars, give_back, in_body, in_function, or_plain, whole, wanted_result, with_parameters}
use Rattle.fut_aliases.specs.Patterns.{Scope}
use Rattle.fut_aliases.specs.Stars.{Stars, spread}
use Rattle.fut_aliases.specs.Steps.{Answer, Done, Losses, Step, and_then, apart, demand, give, lost, refuse, then_do}
use Rattle.fut_aliases.specs.Values.{Function, Value}
use Rattle.uniqueness.specs.Answers.{Grows, Stepped, stepped, refused, no_memory}
use Rattle.uniqueness.specs.declared.held.Stop.{Stop}
use Rattle.uniqueness.specs.declared.held.Stop.TheVariants as stop
use Rattle.uniqueness.proofs.Growing.{grows_not}
use Rattle.fut_aliases.specs.declared.refusals.Broken.{Broken}
use Rattle.fut_aliases.specs.declared.refusals.Spot.TheVariants.{First}
use Rattle.fut_aliases.specs.declared.refusals.Named.{Named}
use Rattle.fut_aliases.specs.declared.refusals.Named.TheVariants.{AFunction, ByAlias}
use Rattle.fut_aliases.specs.Capturing.{capture, captures, some_name}
use Rattle.alias_applications.specs.Shown.{wanted_of}
use Rattle.alias_scopes.specs.Scopes.{scope_of}
use Rattle.alias_values.specs.Trees.{stars_of}
use Rattle.uniqueness.specs.Held.{here_of}
use Rattle.alias_forms.specs.declared.functions.Entered.{Entered}
use Rattle.alias_forms.specs.declared.seen.Found.{Found}
use Rattle.alias_forms.specs.declared.seen.Seen.{Seen}
use Rattle.alias_forms.specs.declared.seen.Site.{Site}
use Rattle.alias_forms.specs.Functions.{Enters, function_step}
use Rattle.alias_forms.specs.Seen.{Names_in, held_found, part_seen}
use Rattle.alias_forms.specs.Walked.{here_at, kinds_at, types_at}
use Rattle.alias_forms.proofs.Binding.{bind_ok, bind_stop, gave, grew}

-- a function's body, and what it gives back, whose consumption is put back; then the function
module _ (naming : Naming) (N : Names) (K : Kinds) (types : Sub) (m : Step definition.Held) (h : definition.Here) (u : Stars) (next : Step definition.Part) (ls mid : Losses) where
  abbrev back_step : definition.Held → Step (Unit {0})
  back_step a = give_back naming N K types h u a

  abbrev body_step : Step (Unit {0})
  body_step = and_then m back_step

  abbrev pub whole_step : Step definition.Part
  whole_step = and_then (apart body_step) (λ z. next)

  abbrev after_body : Done definition.Held → Answer (Done (Unit {0}))
  after_body d = back_step d.result d.losses

  abbrev put_back : Done (Unit {0}) → Answer (Done (Unit {0}))
  put_back d = give d.result ls

  abbrev then_next : Done (Unit {0}) → Answer (Done definition.Part)
  then_next d = next d.losses

  pub body_stops : {s : Stop} {new : Losses} → Stepped held_found m ls mid (Err s) → Stepped part_seen whole_step ls new (Err s)
  body_stops (refused q) = refused (ap (λ z. then_do (then_do (then_do z after_body) put_back) then_next) q)
  body_stops no_memory = no_memory

  module _ (f : Found) (found : Stepped held_found m ls mid (Ok f)) where
    pub back_stops : {s : Stop} {end new : Losses} → Stepped (λ (z : Unit {0}). tt) (back_step (held_found f)) mid end (Err s) → Stepped part_seen whole_step ls new (Err s)
    back_stops (refused q) = refused (ap (λ z. then_do (then_do (then_do z after_body) put_back) then_next) (gave found) ∙ ap (λ z. then_do (then_do z put_back) then_next) q)
    back_stops no_memory = no_memory

    module _ {new : Losses} (back : Stepped (λ (z : Unit {0}). tt) (back_step (held_found f)) mid mid (Ok tt)) (before : ℕ) (b : before ≡ length ls) (ended : (body : Step (Unit {0})) (xs : Losses) → before ≡ length xs → body xs ≡ Ok (record { result = tt; losses = mid }) → Grows xs mid → apart body xs ≡ Ok (record { result = tt; losses = new })) where
      apart_done : apart body_step ls ≡ Ok (record { result = tt; losses = new })
      apart_done = ended body_step ls b (ap (λ z. then_do z after_body) (gave found) ∙ gave back) (grew found)

      abbrev losses_of : Answer (Done (Unit {0})) → Losses
      losses_of (Ok d) = d.losses
      losses_of (Err e) = ls

      new_is : new ≡ ls
      new_is = ap losses_of (sym apart_done ∙ ap (λ z. then_do z put_back) (ap (λ z. then_do z after_body) (gave found) ∙ gave back))

      pub function_done : (r : Result Seen Stop) → Stepped part_seen next new new r → Stepped part_seen whole_step ls new r
      function_done (Ok s) (stepped q g) = stepped (ap (λ z. then_do z then_next) apart_done ∙ q) (subst (Grows ls) (sym new_is) (grows_not ls))
      function_done (Err e) (refused q) = refused (ap (λ z. then_do z then_next) apart_done ∙ q)
      function_done (Err e) no_memory = no_memory

-- ---- where a body stands

module _ (N : Names) (s : Site) (ps : Patterns Ref BindId) (e : FlatTerm) (at : ℕ) (w : Option Stars) where
  pub enters_as : (b : Entered) (first : ℕ) (declared also : Option Stars) → first ≡ at + 1 → b.node ≡ first + all_pattern_numbers ps → ((scope : Scope) → here_of scope b.here ≡ in_function at (all_kept first_name_alone N (kinds_at s) (types_at s) ps first) scope (here_at s)) → scope_of b.scope.now ≡ with_parameters first_name_alone N (kinds_at s) (types_at s) ps first (scope_of s.scope.now) → declared ≡ declared_stars first_name_alone N (kinds_at s) (types_at s) e b.node → also ≡ wanted_result ps w → wanted_of b.wanted ≡ both_wanted first_name_alone N (kinds_at s) (types_at s) declared also → stars_of b.stars.now ≡ or_plain (wanted_of b.wanted) (spread false (types_at s b.node)) → Enters N s ps e at w b
  enters_as b first declared also f n here scope d a both g = record {
    stands = here (scope_of b.scope.now) ∙ ap (λ z. in_function at (all_kept first_name_alone N (kinds_at s) (types_at s) ps first) z (here_at s)) scope ∙ ap (λ n. in_function at (all_kept first_name_alone N (kinds_at s) (types_at s) ps n) (with_parameters first_name_alone N (kinds_at s) (types_at s) ps n (scope_of s.scope.now)) (here_at s)) one;
    begins = node_is;
    asks = asked;
    gives = g ∙ ap (λ z. or_plain z (spread false (types_at s b.node))) asked ∙ ap (λ n. or_plain (body_wanted first_name_alone N (kinds_at s) (types_at s) ps e at w) (spread false (types_at s n))) node_is;
  }
    where
      one : first ≡ 1 + at
      one = omega (arith, f)

      node_is : b.node ≡ body_node first_name_alone N (kinds_at s) (types_at s) ps at
      node_is = omega (arith, f, n)

      asked : wanted_of b.wanted ≡ body_wanted first_name_alone N (kinds_at s) (types_at s) ps e at w
      asked = both ∙ ap (λ z. both_wanted first_name_alone N (kinds_at s) (types_at s) z also) (d ∙ ap (declared_stars first_name_alone N (kinds_at s) (types_at s) e) node_is) ∙ ap (both_wanted first_name_alone N (kinds_at s) (types_at s) (declared_stars first_name_alone N (kinds_at s) (types_at s) e (body_node first_name_alone N (kinds_at s) (types_at s) ps at))) a

  -- ---- the end of a body

  module _ (b : Entered) (en : Enters N s ps e at w b) (m : Step definition.Held) (ls mid : Losses) (f : Found) (found : Stepped held_found m ls mid (Ok f)) where
    abbrev body_here : definition.Here
    body_here = in_body first_name_alone N (kinds_at s) (types_at s) ps at (here_at s)

    abbrev result_stars : Stars
    result_stars = body_stars first_name_alone N (kinds_at s) (types_at s) ps e at w

    abbrev given_back : definition.Here → Stars → Step (Unit {0})
    given_back h u = give_back first_name_alone N (kinds_at s) (types_at s) h u (held_found f)

    abbrev value_of_all : Stars → Value
    value_of_all u = Function (captures (capture N (scope_of s.scope.now) e)) (function_stars first_name_alone N (kinds_at s) (types_at s) ps (1 + at) u)

    abbrev names : Set
    names = captures (capture N (scope_of s.scope.now) e)

    abbrev caught : Step (Unit {0})
    caught = capture_fits first_name_alone N (kinds_at s) (types_at s) (here_at s) at names

    abbrev valued : (Unit {0}) → Step definition.Part
    valued y = whole first_name_alone N (kinds_at s) (types_at s) (Lambda ps e) at (value_of_all result_stars)

    abbrev next_step : Step definition.Part
    next_step = and_then caught valued

    back_at : (r : Result (Unit {0}) Stop) → Stepped (λ (z : Unit {0}). tt) (given_back (here_of (scope_of b.scope.now) b.here) (stars_of b.stars.now)) mid mid r → Stepped (λ (z : Unit {0}). tt) (given_back body_here result_stars) mid mid r
    back_at r x = subst (λ h. Stepped (λ (z : Unit {0}). tt) (given_back h result_stars) mid mid r) en.stands (subst (λ u. Stepped (λ (z : Unit {0}). tt) (given_back (here_of (scope_of b.scope.now) b.here) u) mid mid r) en.gives x)

    pub function_stops : {stop : Stop} {new : Losses} → Stepped (λ (z : Unit {0}). tt) (given_back (here_of (scope_of b.scope.now) b.here) (stars_of b.stars.now)) mid mid (Err stop) → Stepped part_seen (function_step N s ps e at w m) ls new (Err stop)
    function_stops {stop = stop} x = back_stops first_name_alone N (kinds_at s) (types_at s) m body_here result_stars next_step ls mid f found (back_at (Err stop) x)

    module _ {new : Losses} (back : Stepped (λ (z : Unit {0}). tt) (given_back (here_of (scope_of b.scope.now) b.here) (stars_of b.stars.now)) mid mid (Ok tt)) (before : ℕ) (l : before ≡ length ls) (ended : (body : Step (Unit {0})) (xs : Losses) → before ≡ length xs → body xs ≡ Ok (record { result = tt; losses = mid }) → Grows xs mid → apart body xs ≡ Ok (record { result = tt; losses = new })) where
      behind_body : {r : Result Seen Stop} → Stepped part_seen next_step new new r → Stepped part_seen (function_step N s ps e at w m) ls new r
      behind_body {r = r} x = function_done first_name_alone N (kinds_at s) (types_at s) m body_here result_stars next_step ls mid f found (back_at (Ok tt) back) before l ended r x

      caught_at : {r : Result (Unit {0}) Stop} {s2 : Set} → s2 ≡ names → Stepped (λ (z : Unit {0}). tt) (capture_fits first_name_alone N (kinds_at s) (types_at s) (here_at s) at s2) new new r → Stepped (λ (z : Unit {0}). tt) caught new new r
      caught_at {r = r} x y = subst (λ z. Stepped (λ (z : Unit {0}). tt) (capture_fits first_name_alone N (kinds_at s) (types_at s) (here_at s) at z) new new r) x y

      -- what it names from outside was consumed
      pub capture_stops : {stop : Stop} {s2 : Set} → s2 ≡ names → Stepped (λ (z : Unit {0}). tt) (capture_fits first_name_alone N (kinds_at s) (types_at s) (here_at s) at s2) new new (Err stop) → Stepped part_seen (function_step N s ps e at w m) ls new (Err stop)
      capture_stops x y = behind_body (bind_stop valued (caught_at x y))

      pub function_ends : {s2 : Set} {v : Value} {r : Result Seen Stop} → s2 ≡ names → Stepped (λ (z : Unit {0}). tt) (capture_fits first_name_alone N (kinds_at s) (types_at s) (here_at s) at s2) new new (Ok tt) → v ≡ Function s2 (function_stars first_name_alone N (kinds_at s) (types_at s) ps (1 + at) (stars_of b.stars.now))
          → Stepped part_seen (whole first_name_alone N (kinds_at s) (types_at s) (Lambda ps e) at v) new new r → Stepped part_seen (function_step N s ps e at w m) ls new r
      function_ends {r = r} x y v z = behind_body (bind_ok valued (caught_at x y) (subst (λ k. Stepped part_seen (whole first_name_alone N (kinds_at s) (types_at s) (Lambda ps e) at k) new new r) (v ∙ ap (λ k. Function k (function_stars first_name_alone N (kinds_at s) (types_at s) ps (1 + at) (stars_of b.stars.now))) x ∙ ap value_of_all en.gives) z))

pub lambda_named : (ps : Patterns Ref BindId) (e : FlatTerm) {name : Option Named} → name ≡ some_name e → Names_in (Lambda ps e) AFunction name
unfolding some_name
lambda_named ps e n = record { called_so = refl; first_so = n }

-- ---- what a function names from outside

module _ (naming : Naming) (N : Names) (K : Kinds) (types : Sub) (h : definition.Here) (at : ℕ) (names : Set) (ls : Losses) where
  pub fits_unasked : h.asked ≡ false → Stepped (λ (z : Unit {0}). tt) (capture_fits naming N K types h at names) ls ls (Ok tt)
  fits_unasked e = stepped (ap (λ z. demand z (lost ls ByAlias (First at) names) ls) e) (grows_not ls)

  module _ (asked : h.asked ≡ true) {o : Option Broken} (is : o ≡ lost ls ByAlias (First at) names) where
    pub fits_not : {b : Broken} → o ≡ Some b → Stepped (λ (z : Unit {0}). tt) (capture_fits naming N K types h at names) ls ls (Err (stop.Refused b))
    fits_not e = refused (ap (λ z. demand z (lost ls ByAlias (First at) names) ls) asked ∙ ap (λ z. refuse z ls) (sym is ∙ e))

    pub fits_all : o ≡ None → Stepped (λ (z : Unit {0}). tt) (capture_fits naming N K types h at names) ls ls (Ok tt)
    fits_all e = stepped (ap (λ z. demand z (lost ls ByAlias (First at) names) ls) asked ∙ ap (λ z. refuse z ls) (sym is ∙ e)) (grows_not ls)
