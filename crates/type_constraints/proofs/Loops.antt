-- Loops.
use Rattle.std.proofs.Common.{◌≡◌, ℕ, ◌+◌, ◌≤◌, ◌<◌, List, [], ◌∷◌, ◌++◌, length, refl, sym, ◌∙◌, ap, subst, arith}
use mathlib.Core.Logic.{inl, inr}
use Rattle.fut_scalar.specs.declared.place.BindId.{BindId}
use Rattle.fut_scalar.specs.declared.place.Place.{Place}
use Rattle.fut_scalar.specs.declared.scalar.ScalarType.TheVariants as scalar
use Rattle.fut_types.specs.declared.Kind.{Kind}
use Rattle.fut_types.specs.declared.Kind.TheVariants as kind
use Rattle.fut_types.specs.declared.shapes.ShapeTable.{ShapeTable}
use Rattle.fut_types.specs.Types.{Sub, Kinds, HasKind}
use Rattle.fut_flat.specs.Terms.{Loop, Counted, While}
use Rattle.fut_flat.specs.Numbers.{numbers, pattern_numbers}
use Rattle.fut_flat.specs.Erased.{FlatTerm, FlatPattern, FlatTurns}
use Rattle.fut_typing.specs.Names.{Names}
use Rattle.fut_typing.specs.Primitives.{bool_ty}
use Rattle.fut_typing.specs.Scopes.{Scope, with_sizes, the_one}
use Rattle.fut_typing.specs.Patterns.{with_pattern}
use Rattle.fut_typing.specs.Homes.{Env, At_home, Homed, Turns_homed, one, scope_of, env_pattern, env_sizes}
use Rattle.fut_typing.specs.Rows.{Row_homed}
use Rattle.fut_typing.specs.Typing.{Typed, Turns_typed, with_turns}
use Rattle.fut_typing.proofs.Ranges.{numbers_some}
use Rattle.fut_typing.proofs.Envs.{scope_pattern, scope_sizes, scope_turns}
use Rattle.type_rules.specs.declared.demand.Demand.{Demand}
use Rattle.type_rules.specs.declared.demand.Demand.TheVariants as demand
use Rattle.type_rules.specs.Demands.{Met, Allows, IsDemand, Are_demands, All_met, All_allow, Say, Always_allowed}
use Rattle.type_scopes.specs.declared.Inference.{Inference}
use Rattle.type_scopes.specs.declared.names.Past.{Past}
use Rattle.type_scopes.specs.Table.{undone, entered, known_at}
use Rattle.type_scopes.specs.declared.names.Known.TheVariants as known
use Rattle.type_scopes.specs.Scopes.{Around, Claim, Homes, Safe, Claimed, Opened, Refused, Binds, Depends, nothing_claimed}
use Rattle.type_scopes.proofs.Claiming.{depends_both, depends_wider, claimed_low, claimed_then, refused_as, refused_then}
use Rattle.type_scopes.proofs.Opening.{opened_both, opened_number, opened_refused, opened_then, then_opened, closed_after}
use Rattle.type_constraints.specs.Parts.{Term_claim, Term_homes, Constrained, Unconstrained, value_row, Row_claim, Row_homes, env_row, behind_first, behind_head, Head_claim, Head_homes, env_head, Ruled, Unruled}
use Rattle.type_constraints.proofs.Depending.{depends_term}
use Rattle.type_constraints.proofs.Forms.{anywhere, ruled, unruled}
use Rattle.type_constraints.proofs.Values.{depends_row}

-- what the names of a loop stand for
module _ (places : Kind) (lo : ℕ) (sizes : List BindId) (p : FlatPattern) (N : Names) (E : Env) where
  pub scope_carried : scope_of N places (env_pattern p (1 + lo) (env_sizes sizes E)) ≡ with_pattern the_one p (1 + lo) (with_sizes sizes (scope_of N places E))
  scope_carried = scope_pattern N places p (1 + lo) (env_sizes sizes E) ∙ ap (with_pattern the_one p (1 + lo)) (scope_sizes N places sizes E)

-- a body behind all else
module _ (places : Kind) (base d lo from : ℕ) (mark : Place) (sizes : List BindId) (p : FlatPattern) (first : FlatTerm) (turns : FlatTurns) (body : FlatTerm) (eq : from ≡ behind_head p first turns lo) where
  abbrev whole : FlatTerm
  whole = Loop mark sizes p first turns body

  abbrev head : Claim
  head = Head_claim places sizes p first turns lo

  abbrev head_homes : Homes
  head_homes = Head_homes d sizes p first turns lo

  abbrev into : Env → Env
  into = env_head sizes p first turns lo

  abbrev inner : Scope → Scope
  inner scope = with_turns turns (behind_first p first lo) (with_pattern the_one p (1 + lo) (with_sizes sizes scope))

  abbrev all_but : Claim
  all_but N scope K a = head N scope K a × Typed N places body (behind_head p first turns lo) (inner scope) K a

  sees : (N : Names) (E : Env) → scope_of N places (into E) ≡ inner (scope_of N places E)
  sees N E = scope_turns N places turns (behind_first p first lo) (env_pattern p (1 + lo) (env_sizes sizes E)) ∙ ap (with_turns turns (behind_first p first lo)) (scope_carried places lo sizes p N E)

  homes : (home : ℕ → ℕ) → Term_homes d whole lo home → head_homes home × Term_homes d body from home
  homes home h = ((h.0, ((h.1.0 lo (omega arith) (omega arith), (λ n x y. h.1.0 n (omega arith) (omega arith)), h.1.1), h.1.2)), (h.0, subst (λ m. Homed home d h.0.0 body m) (sym eq) h.1.3))

  split : (N : Names) (E : Env) (K : Kinds) (a : Sub) → all_but N (scope_of N places E) K a → head N (scope_of N places E) K a × Term_claim places body from N (scope_of N places (into E)) K a
  split N E K a h = (h.0, subst (λ (s : Scope). Typed N places body from s K a) (sym (sees N E)) (subst (λ m. Typed N places body m (inner (scope_of N places E)) K a) (sym eq) h.1))

  join : (N : Names) (E : Env) (K : Kinds) (a : Sub) → head N (scope_of N places E) K a → Term_claim places body from N (scope_of N places (into E)) K a → all_but N (scope_of N places E) K a
  join N E K a x y = (x, subst (λ m. Typed N places body m (inner (scope_of N places E)) K a) eq (subst (λ (s : Scope). Typed N places body from s K a) (sees N E) y))

  pub loop_err1 : (i0 i1 : Inference) → Refused places base d lo head head_homes i0 i1 → Unconstrained places base d lo whole i0 i1
  loop_err1 i0 i1 c = refused_as places base d lo head (Term_claim places whole lo) head_homes (Term_homes d whole lo) i0 i1 (λ N E K a h. h.0.0) (λ home h. (homes home h).0) c

  module _ (i0 i1 : Inference) (x : Opened places base d lo (behind_head p first turns lo) head head_homes into i0 i1) where
    at_from : Opened places base d lo from head head_homes into i0 i1
    at_from = subst (λ m. Opened places base d lo m head head_homes into i0 i1) (sym eq) x

    loop_err2 : (i2 : Inference) → Unconstrained places base d from body i1 i2 → Unconstrained places base d lo whole i0 i2
    loop_err2 i2 c = opened_refused places base d lo from head (Term_claim places body from) (Term_claim places whole lo) head_homes (Term_homes d body from) (Term_homes d whole lo) into i0 i1 i2 (λ N E K a h. split N E K a h.0) homes at_from c

    module _ (i2 i3 : Inference) (c : Constrained places base d from body i1 i2) (ds : List Demand) (say : Say ds (λ K a. (a lo ≡ a (1 + lo)) × (a lo ≡ a from) × HasKind K places (a lo))) (allowed : Always_allowed ds) where
      abbrev rule : Claim
      rule N scope K a = (a lo ≡ a (1 + lo)) × (a lo ≡ a from) × HasKind K places (a lo)

      both : Opened places base d lo (from + numbers body) all_but (Term_homes d whole lo) into i0 i2
      both = opened_then places base d lo from head (Term_claim places body from) all_but head_homes (Term_homes d body from) (Term_homes d whole lo) into i0 i1 i2 split homes at_from (from + numbers body) (omega arith) (depends_term places body from (from + numbers body) refl) join c

      apart : (N : Names) (E : Env) (K : Kinds) (a : Sub) → Term_claim places whole lo N (scope_of N places E) K a → all_but N (scope_of N places E) K a × rule N (scope_of N places (into E)) K a
      apart N E K a h = (h.0, (h.1, subst (λ m. a lo ≡ a m) (sym eq) h.2, h.3))

      loop_err3 : ((places : Kind) (d lo' : ℕ) → Refused places base d lo' (λ N scope K a. All_met N.shapes K a ds) (λ home. All_allow home ds) i2 i3) → Unconstrained places base d lo whole i0 i3
      loop_err3 r = opened_refused places base d lo (from + numbers body) all_but rule (Term_claim places whole lo) (Term_homes d whole lo) anywhere (Term_homes d whole lo) into i0 i2 i3 apart (λ home h. (h, tt)) both
          (unruled places base d (from + numbers body) ds (λ K a. (a lo ≡ a (1 + lo)) × (a lo ≡ a from) × HasKind K places (a lo)) say allowed i2 i3 (r places d (from + numbers body)))

      loop_ok : (i4 : Inference) → Safe base i0 → ((places : Kind) (d lo' : ℕ) → Claimed places base d lo' (λ N scope K a. All_met N.shapes K a ds) (λ home. All_allow home ds) i2 i3)
          → ((before added : List Past) → i3.past ≡ before ++ added → length before ≡ length i0.past → i4 ≡ record i3 { names = undone added i3.names; past = before }) → Constrained places base d lo whole i0 i4
      loop_ok i4 s r back = closed_after places base d lo (from + numbers body) all_but rule (Term_claim places whole lo) (Term_homes d whole lo) anywhere (Term_homes d whole lo) into i0 i2 i3 i4 s apart (λ home h. (h, tt)) both
          (λ N E K a x y. (x, y.0, subst (λ m. a lo ≡ a m) eq y.1, y.2))
          (ruled places base d (from + numbers body) ds (λ K a. (a lo ≡ a (1 + lo)) × (a lo ≡ a from) × HasKind K places (a lo)) say allowed i2 i3 (r places d (from + numbers body))) back

    module _ (ds : List Demand) (say : Say ds (λ K a. (a lo ≡ a (1 + lo)) × (a lo ≡ a from) × HasKind K places (a lo))) (allowed : Always_allowed ds) where
      pub loop_unruled : (i3 : Inference) → Unruled places base d from body ds i1 i3 → Unconstrained places base d lo whole i0 i3
      loop_unruled i3 (inl u) = loop_err2 i3 u
      loop_unruled i3 (inr w) = loop_err3 w.0 i3 w.1.0 ds say allowed w.1.1

      pub loop_ruled : (i3 i4 : Inference) → Safe base i0 → Ruled places base d from body ds i1 i3
          → ((before added : List Past) → i3.past ≡ before ++ added → length before ≡ length i0.past → i4 ≡ record i3 { names = undone added i3.names; past = before }) → Constrained places base d lo whole i0 i4
      loop_ruled i3 i4 s r back = loop_ok r.0 i3 r.1.0 ds say allowed i4 s r.1.1 back

-- a condition, which sees the names that the loop carries
pub truth_within : (table : ShapeTable) (base i : ℕ) → i < base → Are_demands table base (demand.Is i scalar.Bool ∷ [])
unfolding Are_demands IsDemand
truth_within table base i p = (p, tt)

pub truth_says : (i : ℕ) → Say (demand.Is i scalar.Bool ∷ []) (λ K a. a i ≡ bool_ty)
unfolding All_met Met
truth_says i S K a = ((λ h. h.0), (λ h. (h, tt)))

pub truth_allowed : (i : ℕ) → Always_allowed (demand.Is i scalar.Bool ∷ [])
unfolding All_allow Allows
truth_allowed i home = (tt, tt)

module _ (places : Kind) (base d lo from : ℕ) (sizes : List BindId) (p : FlatPattern) (first test : FlatTerm) (eq : from ≡ behind_first p first lo) where
  abbrev row_claim : Claim
  row_claim = Row_claim places (value_row sizes p first) lo

  abbrev row_homes : Homes
  row_homes = Row_homes d (value_row sizes p first) lo

  abbrev while_claim : Claim
  while_claim = Head_claim places sizes p first (While test) lo

  abbrev while_homes : Homes
  while_homes = Head_homes d sizes p first (While test) lo

  abbrev true_claim : Claim
  true_claim N scope K a = Typed N places test from scope K a × (a from ≡ bool_ty)

  abbrev carried : Env → Env
  carried = env_row (value_row sizes p first) lo

  while_apart : (home : ℕ → ℕ) → while_homes home → row_homes home × Term_homes d test from home
  while_apart home h = ((h.0, h.1.0), (h.0, subst (λ m. Homed home d h.0.0 test m) (sym eq) h.1.1))

  while_split : (N : Names) (E : Env) (K : Kinds) (a : Sub) → while_claim N (scope_of N places E) K a → row_claim N (scope_of N places E) K a × true_claim N (scope_of N places (carried E)) K a
  while_split N E K a h = (
    h.0,
    (
      subst (λ (s : Scope). Typed N places test from s K a) (sym (scope_carried places lo sizes p N E)) (subst (λ m. Typed N places test m (with_pattern the_one p (1 + lo) (with_sizes sizes (scope_of N places E))) K a) (sym eq) h.1.0),
      subst (λ m. a m ≡ bool_ty) (sym eq) h.1.1,
    ),
  )

  while_join : (N : Names) (E : Env) (K : Kinds) (a : Sub) → row_claim N (scope_of N places E) K a → true_claim N (scope_of N places (carried E)) K a → while_claim N (scope_of N places E) K a
  while_join N E K a x y = (
    x,
    (
      subst (λ m. Typed N places test m (with_pattern the_one p (1 + lo) (with_sizes sizes (scope_of N places E))) K a) eq (subst (λ (s : Scope). Typed N places test from s K a) (scope_carried places lo sizes p N E) y.0),
      subst (λ m. a m ≡ bool_ty) eq y.1,
    ),
  )

  depends_true : Depends places true_claim from (from + numbers test)
  depends_true N E K a b same h = let z : 0 < numbers test = numbers_some test in (depends_term places test from (from + numbers test) refl N E K a b same h.0, sym (same from (inr (omega arith, omega arith))) ∙ h.1)

  pub while_err1 : (i0 i1 : Inference) → Refused places base d lo row_claim row_homes i0 i1 → Refused places base d lo while_claim while_homes i0 i1
  while_err1 i0 i1 c = refused_as places base d lo row_claim while_claim row_homes while_homes i0 i1 (λ N E K a h. h.0) (λ home h. (while_apart home h).0) c

  module _ (i0 i1 : Inference) (x : Opened places base d lo (behind_first p first lo) row_claim row_homes carried i0 i1) where
    while_from : Opened places base d lo from row_claim row_homes carried i0 i1
    while_from = subst (λ m. Opened places base d lo m row_claim row_homes carried i0 i1) (sym eq) x

    while_err2 : (i2 : Inference) → Unconstrained places base d from test i1 i2 → Refused places base d lo while_claim while_homes i0 i2
    while_err2 i2 c = opened_refused places base d lo from row_claim (Term_claim places test from) while_claim row_homes (Term_homes d test from) while_homes carried i0 i1 i2 (λ N E K a h. let g = while_split N E K a h in (g.0, g.1.0)) while_apart while_from c

    module _ (i2 i3 : Inference) (c : Constrained places base d from test i1 i2) where
      while_err3 : ((places : Kind) (d lo' : ℕ) → Refused places base d lo' (λ N scope K a. All_met N.shapes K a (demand.Is from scalar.Bool ∷ [])) (λ home. All_allow home (demand.Is from scalar.Bool ∷ [])) i2 i3) → Refused places base d lo while_claim while_homes i0 i3
      while_err3 r = opened_refused places base d lo from row_claim true_claim while_claim row_homes (Term_homes d test from) while_homes carried i0 i1 i3 while_split while_apart while_from
          (refused_then places base d from (from + numbers test) (Term_claim places test from) (λ N scope K a. a from ≡ bool_ty) true_claim (Term_homes d test from) anywhere (Term_homes d test from) i1 i2 i3 x.later.safe (omega arith) (depends_term places test from (from + numbers test) refl)
          (λ N E K a h. h) (λ home h. (h, tt)) c (unruled places base d (from + numbers test) (demand.Is from scalar.Bool ∷ []) (λ K a. a from ≡ bool_ty) (truth_says from) (truth_allowed from) i2 i3 (r places d (from + numbers test))))

      while_ok : ((places : Kind) (d lo' : ℕ) → Claimed places base d lo' (λ N scope K a. All_met N.shapes K a (demand.Is from scalar.Bool ∷ [])) (λ home. All_allow home (demand.Is from scalar.Bool ∷ [])) i2 i3)
          → Opened places base d lo (behind_head p first (While test) lo) while_claim while_homes (env_head sizes p first (While test) lo) i0 i3
      while_ok r = subst (λ m. Opened places base d lo (m + numbers test) while_claim while_homes (env_head sizes p first (While test) lo) i0 i3) eq
          (opened_then places base d lo from row_claim true_claim while_claim row_homes (Term_homes d test from) while_homes carried i0 i1 i3 while_split while_apart while_from (from + numbers test) (omega arith) depends_true while_join
          (claimed_then places base d from (from + numbers test) (Term_claim places test from) (λ N scope K a. a from ≡ bool_ty) true_claim (Term_homes d test from) anywhere (Term_homes d test from) i1 i2 i3 x.later.safe (omega arith) (depends_term places test from (from + numbers test) refl)
          (λ N E K a h. h) (λ home h. (h, tt)) c (λ N E K a u v. (u, v)) (ruled places base d (from + numbers test) (demand.Is from scalar.Bool ∷ []) (λ K a. a from ≡ bool_ty) (truth_says from) (truth_allowed from) i2 i3 (r places d (from + numbers test)))))

    pub while_unruled : (i3 : Inference) → Unruled places base d from test (demand.Is from scalar.Bool ∷ []) i1 i3 → Refused places base d lo while_claim while_homes i0 i3
    while_unruled i3 (inl u) = while_err2 i3 u
    while_unruled i3 (inr w) = while_err3 w.0 i3 w.1.0 w.1.1

    pub while_ruled : (i3 : Inference) → Ruled places base d from test (demand.Is from scalar.Bool ∷ []) i1 i3 → Opened places base d lo (behind_head p first (While test) lo) while_claim while_homes (env_head sizes p first (While test) lo) i0 i3
    while_ruled i3 r = while_ok r.0 i3 r.1.0 r.1.1

-- a number of turns, which does not see the names that the loop carries
module _ (places : Kind) (base d lo from : ℕ) (sizes : List BindId) (p : FlatPattern) (first n : FlatTerm) (i : BindId) (eq : from ≡ behind_first p first lo) where
  abbrev first_claim : Claim
  first_claim = Row_claim places (value_row sizes p first) lo

  abbrev first_homes : Homes
  first_homes = Row_homes d (value_row sizes p first) lo

  abbrev counts : Claim
  counts N scope K a = Turns_typed N places (Counted i n) from scope scope K a

  abbrev count_homes : Homes
  count_homes = Term_homes d n (1 + from)

  abbrev counted_claim : ℕ → Claim
  counted_claim m N scope K a = first_claim N scope K a × Turns_typed N places (Counted i n) m scope scope K a

  abbrev counted_homes : ℕ → Homes
  counted_homes m home = (w : Around d) × (Row_homed home d w.0 (value_row sizes p first) lo × Turns_homed home d w.0 (Counted i n) m)

  abbrev end : ℕ
  end = from + (1 + numbers n)

  abbrev integer : Claim
  integer N scope K a = (a from ≡ a (1 + from)) × HasKind K kind.Integer (a from)

  parts : (home : ℕ → ℕ) → counted_homes from home → first_homes home × count_homes home
  parts home h = ((h.0, h.1.0), (h.0, h.1.1.1))

  depends_first : (hi : ℕ) → from ≤ hi → Depends places first_claim lo hi
  depends_first hi le = depends_wider places first_claim lo (1 + lo + pattern_numbers p + numbers first) lo hi (omega arith) (omega (arith, eq)) (depends_row places base d lo (1 + lo + pattern_numbers p) sizes p first refl)

  depends_count : Depends places (Term_claim places n (1 + from)) from end
  depends_count = depends_wider places (Term_claim places n (1 + from)) (1 + from) end from end (omega arith) (omega arith) (depends_term places n (1 + from) end (let e : from + (1 + numbers n) ≡ 1 + from + numbers n = omega arith in e))

  depends_counts : Depends places counts from end
  depends_counts N E K a b same h = let z : 0 < numbers n = numbers_some n in let at : (m : ℕ) → from ≤ m → m < end → a m ≡ b m = λ m x y. same m (inr (x, y)) in (
    depends_count N E K a b same h.0,
    sym (at from (omega arith) (omega arith)) ∙ h.1 ∙ at (1 + from) (omega arith) (omega arith),
    subst (HasKind K kind.Integer) (at from (omega arith) (omega arith)) h.2,
  )

  pub counted_err1 : (i0 i1 : Inference) → Refused places base d lo first_claim first_homes i0 i1 → Refused places base d lo (Head_claim places sizes p first (Counted i n) lo) (Head_homes d sizes p first (Counted i n) lo) i0 i1
  counted_err1 i0 i1 c = refused_as places base d lo first_claim (Head_claim places sizes p first (Counted i n) lo) first_homes (Head_homes d sizes p first (Counted i n) lo) i0 i1 (λ N E K a h. h.0) (λ home h. (h.0, h.1.0)) c

  at_place : (i0 i1 : Inference) → Refused places base d lo (counted_claim from) (counted_homes from) i0 i1 → Refused places base d lo (Head_claim places sizes p first (Counted i n) lo) (Head_homes d sizes p first (Counted i n) lo) i0 i1
  at_place i0 i1 r = subst (λ m. Refused places base d lo (counted_claim m) (counted_homes m) i0 i1) eq r

  module _ (i0 i1 i2 : Inference) (s : Safe base i0) (x : Claimed places base d lo first_claim first_homes i0 i1) where
    counted_err2 : Unconstrained places base d (1 + from) n i1 i2 → Refused places base d lo (Head_claim places sizes p first (Counted i n) lo) (Head_homes d sizes p first (Counted i n) lo) i0 i2
    counted_err2 c = at_place i0 i2 (refused_then places base d lo (1 + from) first_claim (Term_claim places n (1 + from)) (counted_claim from) first_homes count_homes (counted_homes from) i0 i1 i2 s (omega (arith, eq)) (depends_first (1 + from) (omega arith)) (λ N E K a h. (h.0, h.1.0)) parts x c)

    module _ (i3 : Inference) (c : Constrained places base d (1 + from) n i1 i2) (ds : List Demand) (say : Say ds (λ K a. (a from ≡ a (1 + from)) × HasKind K kind.Integer (a from))) (allowed : Always_allowed ds) where
      low : Claimed places base d from (Term_claim places n (1 + from)) count_homes i1 i2
      low = claimed_low places base d from (1 + from) (Term_claim places n (1 + from)) count_homes i1 i2 (omega arith) c

      counted_err3 : ((places : Kind) (d lo' : ℕ) → Refused places base d lo' (λ N scope K a. All_met N.shapes K a ds) (λ home. All_allow home ds) i2 i3) → Refused places base d lo (Head_claim places sizes p first (Counted i n) lo) (Head_homes d sizes p first (Counted i n) lo) i0 i3
      counted_err3 r = at_place i0 i3 (refused_then places base d lo from first_claim counts (counted_claim from) first_homes count_homes (counted_homes from) i0 i1 i3 s (omega (arith, eq)) (depends_first from (omega arith)) (λ N E K a h. (h.0, h.1)) parts x
          (refused_then places base d from end (Term_claim places n (1 + from)) integer counts count_homes anywhere count_homes i1 i2 i3 x.later.safe (omega arith) depends_count (λ N E K a h. (h.0, (h.1, h.2))) (λ home h. (h, tt)) low
          (unruled places base d end ds (λ K a. (a from ≡ a (1 + from)) × HasKind K kind.Integer (a from)) say allowed i2 i3 (r places d end))))

      module _ (r : (places : Kind) (d lo' : ℕ) → Claimed places base d lo' (λ N scope K a. All_met N.shapes K a ds) (λ home. All_allow home ds) i2 i3) where
        turned : Claimed places base d lo (counted_claim from) (counted_homes from) i0 i3
        turned = claimed_then places base d lo from first_claim counts (counted_claim from) first_homes count_homes (counted_homes from) i0 i1 i3 s (omega (arith, eq)) (depends_first from (omega arith)) (λ N E K a h. (h.0, h.1)) parts x (λ N E K a u v. (u, v))
            (claimed_then places base d from end (Term_claim places n (1 + from)) integer counts count_homes anywhere count_homes i1 i2 i3 x.later.safe (omega arith) depends_count (λ N E K a h. (h.0, (h.1, h.2))) (λ home h. (h, tt)) low (λ N E K a u v. (u, v.0, v.1))
            (ruled places base d end ds (λ K a. (a from ≡ a (1 + from)) × HasKind K kind.Integer (a from)) say allowed i2 i3 (r places d end)))

        depends_turned : Depends places (counted_claim from) lo end
        depends_turned = depends_both places first_claim counts (counted_claim from) lo from from end (omega (arith, eq)) (omega arith) (omega arith) (λ N E K a h. (h.0, h.1)) (λ N E K a u v. (u, v)) (depends_first from (omega arith)) depends_counts

        abbrev name_homes : Homes
        name_homes home = At_home home d (1 + lo) (pattern_numbers p) × (home from ≡ d)

        module _ (i5 i6 : Inference) (names : Binds base (1 + lo) (pattern_numbers p) (env_row (value_row sizes p first) lo) i3 i5) (safe : Safe base i5) (room : from < base) (inn : i.0 < length i5.names) (fresh : known_at i5.names i.0 ≡ known.Nothing) (is : i6 ≡ entered i5 i.0 (known.Number from)) where
          carries : Opened places base d end end nothing_claimed (λ home. At_home home d (1 + lo) (pattern_numbers p)) (env_row (value_row sizes p first) lo) i3 i5
          carries = names places d end (omega (arith, eq))

          named : Opened places base d end end nothing_claimed name_homes (λ E. one i.0 from (env_row (value_row sizes p first) lo E)) i3 (entered i5 i.0 (known.Number from))
          named = opened_both places base d end end nothing_claimed nothing_claimed nothing_claimed (λ home. At_home home d (1 + lo) (pattern_numbers p)) (λ home. home from ≡ d) name_homes (env_row (value_row sizes p first) lo) i3 i5 (entered i5 i.0 (known.Number from)) (λ N E K a h. (tt, tt)) (λ home h. h) carries
              end (one i.0 from) (λ N E K a u v. tt) (opened_number places base d end i5 i.0 safe inn fresh from room (omega arith))

          counted_ok : Opened places base d lo (behind_head p first (Counted i n) lo) (Head_claim places sizes p first (Counted i n) lo) (Head_homes d sizes p first (Counted i n) lo) (env_head sizes p first (Counted i n) lo) i0 i6
          counted_ok = subst (λ (j : Inference). Opened places base d lo (behind_head p first (Counted i n) lo) (Head_claim places sizes p first (Counted i n) lo) (Head_homes d sizes p first (Counted i n) lo) (env_head sizes p first (Counted i n) lo) i0 j) (sym is)
              (subst (λ m. Opened places base d lo (m + (1 + numbers n)) (counted_claim m) (counted_homes m) (λ E. one i.0 m (env_row (value_row sizes p first) lo E)) i0 (entered i5 i.0 (known.Number from))) eq
              (then_opened places base d lo end end (counted_claim from) nothing_claimed (counted_claim from) (counted_homes from) name_homes (counted_homes from) (λ E. one i.0 from (env_row (value_row sizes p first) lo E)) i0 i3 (entered i5 i.0 (known.Number from)) s (omega (arith, eq)) depends_turned
              (λ home h. (h, (h.1.0.1, h.1.1.0))) turned (λ N E K a h. (h, tt)) (λ N E K a u v. u) named))

  module _ (i0 i1 i3 : Inference) (s : Safe base i0) (x : Claimed places base d lo first_claim first_homes i0 i1) (ds : List Demand) (say : Say ds (λ K a. (a from ≡ a (1 + from)) × HasKind K kind.Integer (a from))) (allowed : Always_allowed ds) where
    pub counted_unruled : Unruled places base d (1 + from) n ds i1 i3 → Refused places base d lo (Head_claim places sizes p first (Counted i n) lo) (Head_homes d sizes p first (Counted i n) lo) i0 i3
    counted_unruled (inl u) = counted_err2 i0 i1 i3 s x u
    counted_unruled (inr w) = counted_err3 i0 i1 w.0 s x i3 w.1.0 ds say allowed w.1.1

    pub counted_ruled : Ruled places base d (1 + from) n ds i1 i3 → (i5 i6 : Inference) → Binds base (1 + lo) (pattern_numbers p) (env_row (value_row sizes p first) lo) i3 i5 → Safe base i5 → from < base → i.0 < length i5.names → known_at i5.names i.0 ≡ known.Nothing → i6 ≡ entered i5 i.0 (known.Number from)
        → Opened places base d lo (behind_head p first (Counted i n) lo) (Head_claim places sizes p first (Counted i n) lo) (Head_homes d sizes p first (Counted i n) lo) (env_head sizes p first (Counted i n) lo) i0 i6
    counted_ruled r i5 i6 names safe room inn fresh is = counted_ok i0 i1 r.0 s x i3 r.1.0 ds say allowed r.1.1 i5 i6 names safe room inn fresh is
