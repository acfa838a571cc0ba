-- Another name for a local function has its uses.
use Rattle.std.proofs.Common.{◌≡◌, ◌↔◌, ℕ, zero, suc, ◌+◌, ◌<◌, refl, sym, ◌∙◌, ap, subst, arith, Bool, true, []}
use Rattle.fut_scalar.specs.declared.place.BindId.{BindId}
use Rattle.fut_scalar.specs.declared.place.Place.{Place}
use Rattle.fut_flat.specs.declared.prim.Ref.{Ref}
use Rattle.fut_flat.specs.declared.prim.Ref.TheVariants as ref
use Rattle.fut_flat.specs.Terms.{Bound_pattern, Use, Strict, Lambda, Apply, Let, If, Loop, Terms, no_term, term_and, Counted, Over, While}
use Rattle.fut_flat.specs.Numbers.{pattern_numbers, numbers}
use Rattle.fut_flat.specs.Erased.{FlatTerm, FlatTurns, FlatPattern}
use Rattle.fut_types.specs.declared.Kind.{Kind}
use Rattle.fut_types.specs.Types.{Ty, Sub, Kinds}
use Rattle.fut_typing.specs.Names.{Names}
use Rattle.fut_typing.specs.Scopes.{Uses, Scope, nothing, with_sizes}
use Rattle.fut_typing.specs.Patterns.{with_pattern, with_parameters}
use Rattle.fut_typing.specs.Generalised.{own_types, Scheme, Reused}
use Rattle.fut_typing.specs.Typing.{FlatBinding, let_scheme, let_uses, with_let, Typed}
use Rattle.fut_typing.specs.Exact.{behind, scope_behind, Way, found, part, Leads, Leads_in, Leads_turns, scheme_along}
use Rattle.fut_typing.proofs.Local.{AllLocal, uses_here, local_parameters}
use Rattle.fut_typing.proofs.Locals.{up_to, body_local}
use Rattle.fut_typing.proofs.Exact.{local_exact}
use Rattle.typing_laws.specs.Ways.{Ends_at, Ends_in, Ends_in_turns, and_body, Renamed_let}
use Rattle.typing_laws.specs.Claims.{LocalUsesAreExact}
use Rattle.typing_laws.proofs.Chosen.{scope_local}
use Rattle.typing_laws.proofs.Spots.{locals, Spot, spot}
use Rattle.typing_laws.proofs.Renamed.{used_renamed, renamed_used}

-- the other name is written as a function
mutual
  leads_on : (t : FlatTerm) (w : Way) → Ends_at Renamed_let t w → Leads t (and_body w)
  leads_on t found r = subst (λ t. Leads t (part (suc zero) found)) (sym r.is) (refl, refl)
  leads_on (Use r at k) (part i w) h = absurd h
  leads_on (Strict o mark ts) (part i w) h = leads_on_in ts i w h
  leads_on (Lambda ps e) (part i w) h = leads_on e w h
  leads_on (Apply f e) (part zero w) h = leads_on f w h
  leads_on (Apply f e) (part (suc i) w) h = leads_on e w h
  leads_on (Let b v e) (part zero w) h = leads_on v w h
  leads_on (Let b v e) (part (suc i) w) h = leads_on e w h
  leads_on (If c t e) (part zero w) h = leads_on c w h
  leads_on (If c t e) (part (suc zero) w) h = leads_on t w h
  leads_on (If c t e) (part (suc (suc i)) w) h = leads_on e w h
  leads_on (Loop mark sizes p first turns body) (part zero w) h = leads_on first w h
  leads_on (Loop mark sizes p first turns body) (part (suc zero) w) h = leads_on_turns turns w h
  leads_on (Loop mark sizes p first turns body) (part (suc (suc i)) w) h = leads_on body w h

  leads_on_in : (ts : Terms Ref BindId) (i : ℕ) (w : Way) → Ends_in Renamed_let ts i w → Leads_in ts i (and_body w)
  leads_on_in no_term i w h = absurd h
  leads_on_in (term_and t ts) zero w h = leads_on t w h
  leads_on_in (term_and t ts) (suc i) w h = leads_on_in ts i w h

  leads_on_turns : (t : FlatTurns) (w : Way) → Ends_in_turns Renamed_let t w → Leads_turns t (and_body w)
  leads_on_turns (Counted b n) w h = leads_on n w h
  leads_on_turns (Over p e) w h = leads_on e w h
  leads_on_turns (While c) w h = leads_on c w h

module _ (N : Names) (places : Kind) (K : Kinds) (a : Sub) (u : Ty) where
  abbrev Same_uses : Scheme → Scheme → Type 0
  Same_uses s s' = Reused places s s.first K a u ↔ Reused places s' s'.first K a u

  function_uses : (f : Bool) (s : Scheme) (n : ℕ) → f ≡ true → let_uses N places f s n ≡ Reused places s n
  function_uses f s n e = ap (λ g. let_uses N places g s n) e

  here : (b : FlatBinding) (v : FlatTerm) (x y : BindId) (at : Place) (k : ℕ) (rest : FlatTerm) (lo : ℕ) (scope : Scope) → AllLocal (λ n. n < lo) scope → b.is_function ≡ true → b.pattern ≡ Bound_pattern y
      → Same_uses (scheme_along N places (Let b v (Let (record { sizes = []; parameters = []; is_function = true; pattern = Bound_pattern x }) (Use (ref.Bound y) at k) rest)) lo scope found)
      (scheme_along N places (Let b v (Let (record { sizes = []; parameters = []; is_function = true; pattern = Bound_pattern x }) (Use (ref.Bound y) at k) rest)) lo scope (part (suc zero) found))
  here b v x y at k rest lo scope all function named =
      let s : Scheme = let_scheme N places b v lo scope (Typed N places v (1 + lo + pattern_numbers b.pattern)) in
      let end : ℕ = 1 + lo + pattern_numbers b.pattern + numbers v in
      let inner : Scope = with_let N places b lo scope s in
      let local : AllLocal (λ n. n < 1 + end) inner = up_to N places end (1 + end) inner (omega arith)
      (body_local N places (λ n. n < end) b v lo scope (up_to N places lo end scope (omega arith) all) (λ n f k. let k1 : n < 1 + lo + (pattern_numbers b.pattern + numbers v) = k.0.1 in omega arith) (λ n f p q. omega arith)) in
      let uses : inner.uses y.0 ≡ Reused places s (1 + lo) = ap (λ (q : FlatPattern). (with_pattern (let_uses N places b.is_function s) q (1 + lo) (with_sizes b.sizes scope)).uses y.0) named
      ∙ uses_here y.0 (let_uses N places b.is_function s (1 + lo)) (with_sizes b.sizes scope) ∙ function_uses b.is_function s (1 + lo) function in (
        λ r. renamed_used N places x y at k (1 + end) inner local K a u (subst (λ (q : Uses). q K a u) (sym uses) r),
        λ r. subst (λ (q : Uses). q K a u) uses (used_renamed N places x y at k (1 + end) inner local K a u r),
      )

  spot_same : (s s' : Scheme) → Spot N places Renamed_let (λ n. Unit {0}) (λ lo scope. AllLocal (λ n. n < lo) scope) s s' → Same_uses s s'
  spot_same s s' x =
      let r : Renamed_let x.term = x.ends in
      let same : Same_uses (scheme_along N places x.term x.first x.scope found) (scheme_along N places x.term x.first x.scope (part (suc zero) found)) =
      subst (λ t. Same_uses (scheme_along N places t x.first x.scope found) (scheme_along N places t x.first x.scope (part (suc zero) found))) (sym r.is) (here r.bound r.value r.other r.name r.at r.many r.rest x.first x.scope x.holds r.function r.named) in
      subst (λ q. Same_uses q s') x.is (subst (Same_uses (scheme_along N places x.term x.first x.scope found)) x.body same)

pub local_uses_are_exact : LocalUsesAreExact
local_uses_are_exact N places before after d w ends p K a typing t =
    let at : ℕ = behind before 0 + pattern_numbers d.name in
    let outer : Scope = scope_behind N places before 0 nothing in
    let local : AllLocal (λ n. n < at) outer = up_to N places (behind before 0) at outer (omega arith) (scope_local N places before 0 nothing (λ b K a a' t e u. absurd u)) in
    let own : Scope = with_parameters d.parameters (own_types places d.parameters) outer in
    let same = spot_same N places K a t (scheme_along N places d.value at own w) (scheme_along N places d.value at own (and_body w)) (spot N places Renamed_let (λ n. Unit {0}) (λ lo scope. AllLocal (λ n. n < lo) scope) (locals N places) d.value at own w ends (λ n i. tt) (local_parameters (λ n. n < at) d.parameters (own_types places d.parameters) outer local)) in
    let exact = local_exact N places before after d (and_body w) (leads_on d.value w ends) p K a typing t in
    (λ r. exact.0 (same.0 r), λ i. same.1 (exact.1 i))
