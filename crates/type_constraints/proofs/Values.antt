-- Lets that are not written as functions.
use Rattle.std.proofs.Common.{◌≡◌, ℕ, ◌+◌, ◌≤◌, ◌<◌, List, [], ◌∷◌, ◌++◌, length, refl, sym, ◌∙◌, subst, arith}
use mathlib.Core.Logic.{◌⊎◌, inl, inr}
use Rattle.fut_scalar.specs.declared.place.BindId.{BindId}
use Rattle.fut_types.specs.declared.Kind.{Kind}
use Rattle.fut_types.specs.Types.{Sub, Kinds}
use Rattle.fut_flat.specs.Numbers.{numbers, pattern_numbers}
use Rattle.fut_flat.specs.Erased.{FlatTerm, FlatPattern}
use Rattle.fut_typing.specs.Names.{Names}
use Rattle.fut_typing.specs.Scopes.{Scope, with_sizes}
use Rattle.fut_typing.specs.Patterns.{Pattern_typed}
use Rattle.fut_typing.specs.Homes.{Env, Needs, At_home, Homed, scope_of, env_pattern, env_sizes}
use Rattle.fut_typing.specs.Typing.{Typed}
use Rattle.fut_typing.proofs.Ranges.{numbers_some, pattern_some}
use Rattle.fut_typing.proofs.Local.{all_local_more, local_sizes, pattern_same}
use Rattle.fut_typing.proofs.Envs.{scope_sizes}
use Rattle.fut_typing.proofs.Cong.{scope_local}
use Rattle.type_rules.specs.declared.demand.Demand.{Demand}
use Rattle.type_rules.specs.declared.demand.Demand.TheVariants as demand
use Rattle.fut_types.specs.declared.shapes.ShapeTable.{ShapeTable}
use Rattle.type_rules.specs.Demands.{Met, Allows, IsDemand, Are_demands, All_met, All_allow, Say, Always_allowed}
use Rattle.type_scopes.specs.declared.Inference.{Inference}
use Rattle.type_scopes.specs.declared.names.Past.{Past}
use Rattle.type_scopes.specs.Table.{undone}
use Rattle.type_scopes.specs.Scopes.{Claim, Homes, Safe, Claimed, Opened, Refused, Binds, Depends, nothing_claimed}
use Rattle.type_scopes.proofs.Claiming.{depends_wider, claimed_low, claimed_then, refused_as, refused_low, refused_then}
use Rattle.type_scopes.proofs.Opening.{opened_refused, opened_then, then_opened, closed}
use Rattle.type_scopes.proofs.Binding.{binds_then, binds_within}
use Rattle.type_constraints.specs.Parts.{Term_claim, Term_homes, Constrained, Unconstrained, Pattern_claim, Ruled, Unruled, value_row, Row_claim, Row_homes, env_row}
use Rattle.type_constraints.proofs.Depending.{depends_term, depends_pattern}
use Rattle.type_constraints.proofs.Forms.{anywhere, ruled, unruled}

module _ (places : Kind) (base d lo from : ℕ) (sizes : List BindId) (p : FlatPattern) (v : FlatTerm) (eq : from ≡ 1 + lo + pattern_numbers p) where
  -- the pattern sees the size names
  abbrev sized : Claim
  sized N scope K a = Pattern_typed N places K a p (1 + lo) (with_sizes sizes scope)

  abbrev bound : Claim
  bound N scope K a = sized N scope K a × Typed N places v (1 + lo + pattern_numbers p) scope K a

  abbrev homes_p : Homes
  homes_p home = At_home home d (1 + lo) (pattern_numbers p)

  abbrev row_homes : Homes
  row_homes = Row_homes d (value_row sizes p v) lo

  abbrev row_claim : Claim
  row_claim = Row_claim places (value_row sizes p v) lo

  abbrev end : ℕ
  end = 1 + lo + pattern_numbers p + numbers v

  -- of a pattern under the size names, and of both
  depends_sized : (hi : ℕ) → hi ≡ 1 + lo + pattern_numbers p → Depends places sized lo hi
  depends_sized hi e N E K a b same h = let M : ℕ → Type 0 = λ n. Needs E n ⊎ ((lo ≤ n) × (n < hi)) in let all = all_local_more (Needs E) M (scope_of N places E) (λ n m. inl m) (scope_local N places E) in
      pattern_same M N places K a b same p (1 + lo) (with_sizes sizes (scope_of N places E)) (local_sizes M sizes (scope_of N places E) all) (λ n x y. inr (omega arith, omega arith)) h

  depends_bound : Depends places bound lo end
  depends_bound N E K a b same h = (
    depends_wider places sized lo (1 + lo + pattern_numbers p) lo end (omega arith) (omega arith) (depends_sized (1 + lo + pattern_numbers p) refl) N E K a b same h.0,
    depends_wider places (Term_claim places v (1 + lo + pattern_numbers p)) (1 + lo + pattern_numbers p) end lo end (omega arith) (omega arith) (depends_term places v (1 + lo + pattern_numbers p) end refl) N E K a b same h.1,
  )

  pub depends_row : Depends places row_claim lo end
  depends_row N E K a b same h = let z : 0 < pattern_numbers p = pattern_some p in let y : 0 < numbers v = numbers_some v in
      let at : (n : ℕ) → lo ≤ n → n < end → a n ≡ b n = λ n x u. same n (inr (x, u)) in
      let w = depends_bound N E K a b same (h.0.0, h.0.1) in ((w.0, w.1), sym (at (1 + lo) (omega arith) (omega arith)) ∙ h.1 ∙ at (1 + lo + pattern_numbers p) (omega arith) (omega arith))

  sees : (N : Names) (E : Env) (K : Kinds) (a : Sub) → sized N (scope_of N places E) K a → Pattern_claim places p (1 + lo) N (scope_of N places (env_sizes sizes E)) K a
  sees N E K a h = subst (λ (s : Scope). Pattern_typed N places K a p (1 + lo) s) (sym (scope_sizes N places sizes E)) h

  seen : (N : Names) (E : Env) (K : Kinds) (a : Sub) → Pattern_claim places p (1 + lo) N (scope_of N places (env_sizes sizes E)) K a → sized N (scope_of N places E) K a
  seen N E K a h = subst (λ (s : Scope). Pattern_typed N places K a p (1 + lo) s) (scope_sizes N places sizes E) h

  homes_of : (home : ℕ → ℕ) → row_homes home → homes_p home × Term_homes d v from home
  homes_of home h = (h.1.1, (h.0, subst (λ m. Homed home d h.0.0 v m) (sym eq) h.1.2))

  -- the pattern, behind its size names
  module _ (i0 i1 : Inference) (x : Binds base (1 + lo) 0 (env_sizes sizes) i0 i1) where
    opened_names : Opened places base d (1 + lo) (1 + lo) nothing_claimed (λ home. At_home home d (1 + lo) 0) (env_sizes sizes) i0 i1
    opened_names = x places d (1 + lo) (omega arith)

    none_homes : (home : ℕ → ℕ) → homes_p home → At_home home d (1 + lo) 0 × homes_p home
    none_homes home h = ((λ n a b. absurd (omega arith)), h)

    pub value_err1 : (i2 : Inference) → ((d : ℕ) → Refused places base d (1 + lo) (Pattern_claim places p (1 + lo)) (λ home. At_home home d (1 + lo) (pattern_numbers p)) i1 i2) → Refused places base d lo row_claim row_homes i0 i2
    value_err1 i2 c = refused_low places base d lo (1 + lo) row_claim row_homes i0 i2 (omega arith)
        (refused_as places base d (1 + lo) sized row_claim homes_p row_homes i0 i2 (λ N E K a h. h.0.0) (λ home h. (homes_of home h).0)
        (opened_refused places base d (1 + lo) (1 + lo) nothing_claimed (Pattern_claim places p (1 + lo)) sized (λ home. At_home home d (1 + lo) 0) homes_p homes_p (env_sizes sizes) i0 i1 i2 (λ N E K a h. (tt, sees N E K a h)) none_homes opened_names (c d)))

    module _ (i2 i3 : Inference) (s : Safe base i0) (c : (d : ℕ) → Claimed places base d (1 + lo) (Pattern_claim places p (1 + lo)) (λ home. At_home home d (1 + lo) (pattern_numbers p)) i1 i2)
        (back : (before added : List Past) → i2.past ≡ before ++ added → length before ≡ length i0.past → i3 ≡ record i2 { names = undone added i2.names; past = before }) where
      pub pattern_claimed : Claimed places base d lo sized homes_p i0 i3
      pattern_claimed = claimed_low places base d lo (1 + lo) sized homes_p i0 i3 (omega arith) (closed places base d (1 + lo) (1 + lo + pattern_numbers p) sized homes_p (env_sizes sizes) i0 i2 i3 s
          (opened_then places base d (1 + lo) (1 + lo) nothing_claimed (Pattern_claim places p (1 + lo)) sized (λ home. At_home home d (1 + lo) 0) homes_p homes_p (env_sizes sizes) i0 i1 i2 (λ N E K a h. (tt, sees N E K a h)) none_homes opened_names
          (1 + lo + pattern_numbers p) (omega arith) (depends_pattern places p (1 + lo) (1 + lo + pattern_numbers p) refl) (λ N E K a n h. seen N E K a h) (c d)) back)

  -- the value
  module _ (i0 i3 : Inference) (s : Safe base i0) (x : Claimed places base d lo sized homes_p i0 i3) where
    value_err2 : (i4 : Inference) → Unconstrained places base d from v i3 i4 → Refused places base d lo row_claim row_homes i0 i4
    value_err2 i4 c = refused_then places base d lo from sized (Term_claim places v from) row_claim homes_p (Term_homes d v from) row_homes i0 i3 i4 s (omega arith) (depends_sized from eq)
        (λ N E K a h. (h.0.0, subst (λ m. Typed N places v m (scope_of N places E) K a) (sym eq) h.0.1)) homes_of x c

    module _ (i4 : Inference) (c : Constrained places base d from v i3 i4) (ds : List Demand) (say : Say ds (λ K a. a (1 + lo) ≡ a from)) (allowed : Always_allowed ds) where
      both : Claimed places base d lo bound row_homes i0 i4
      both = claimed_then places base d lo from sized (Term_claim places v from) bound homes_p (Term_homes d v from) row_homes i0 i3 i4 s (omega arith) (depends_sized from eq)
          (λ N E K a h. (h.0, subst (λ m. Typed N places v m (scope_of N places E) K a) (sym eq) h.1)) homes_of x (λ N E K a p q. (p, subst (λ m. Typed N places v m (scope_of N places E) K a) eq q)) c

      abbrev rule : Claim
      rule N scope K a = a (1 + lo) ≡ a from

      split : (N : Names) (E : Env) (K : Kinds) (a : Sub) → row_claim N (scope_of N places E) K a → bound N (scope_of N places E) K a × rule N (scope_of N places E) K a
      split N E K a h = ((h.0.0, h.0.1), subst (λ m. a (1 + lo) ≡ a m) (sym eq) h.1)

      value_err3 : (i5 : Inference) → ((places : Kind) (d lo' : ℕ) → Refused places base d lo' (λ N scope K a. All_met N.shapes K a ds) (λ home. All_allow home ds) i4 i5) → Refused places base d lo row_claim row_homes i0 i5
      value_err3 i5 r = refused_then places base d lo end bound rule row_claim row_homes anywhere row_homes i0 i4 i5 s (omega arith) depends_bound split (λ home h. (h, tt)) both (unruled places base d end ds (λ K a. a (1 + lo) ≡ a from) say allowed i4 i5 (r places d end))

      module _ (i5 : Inference) (r : (places : Kind) (d lo' : ℕ) → Claimed places base d lo' (λ N scope K a. All_met N.shapes K a ds) (λ home. All_allow home ds) i4 i5) where
        row : Claimed places base d lo row_claim row_homes i0 i5
        row = claimed_then places base d lo end bound rule row_claim row_homes anywhere row_homes i0 i4 i5 s (omega arith) depends_bound split (λ home h. (h, tt)) both
            (λ N E K a p q. (p, subst (λ m. a (1 + lo) ≡ a m) eq q)) (ruled places base d end ds (λ K a. a (1 + lo) ≡ a from) say allowed i4 i5 (r places d end))

    module _ (i5 : Inference) (ds : List Demand) (say : Say ds (λ K a. a (1 + lo) ≡ a from)) (allowed : Always_allowed ds) where
      pub value_unruled : Unruled places base d from v ds i3 i5 → Refused places base d lo row_claim row_homes i0 i5
      value_unruled (inl u) = value_err2 i5 u
      value_unruled (inr w) = value_err3 w.0 w.1.0 ds say allowed i5 w.1.1

      pub value_ruled : Ruled places base d from v ds i3 i5 → Claimed places base d lo row_claim row_homes i0 i5
      value_ruled r = row r.0 r.1.0 ds say allowed i5 r.1.1

  -- what it binds
  pub value_ok : (i0 i5 i7 : Inference) → Binds base (1 + lo) (pattern_numbers p) (env_row (value_row sizes p v) lo) i5 i7 → Safe base i0 → Claimed places base d lo row_claim row_homes i0 i5 → Opened places base d lo end row_claim row_homes (env_row (value_row sizes p v) lo) i0 i7
  value_ok i0 i5 i7 names s gone = then_opened places base d lo end end row_claim nothing_claimed row_claim row_homes homes_p row_homes (env_row (value_row sizes p v) lo) i0 i5 i7 s (omega arith) depends_row (λ home h. (h, (homes_of home h).0)) gone (λ N E K a h. (h, tt)) (λ N E K a x y. x)
      (names places d end (omega arith))

-- size names, and a pattern that sees them
pub bound_names : (base lo : ℕ) (sizes : List BindId) (p : FlatPattern) (i0 i1 i2 : Inference) → ((lo : ℕ) → Binds base lo 0 (env_sizes sizes) i0 i1) → Binds base lo (pattern_numbers p) (env_pattern p lo) i1 i2 → Binds base lo (pattern_numbers p) (λ E. env_pattern p lo (env_sizes sizes E)) i0 i2
bound_names base lo sizes p i0 i1 i2 y z = binds_within base lo lo (0 + pattern_numbers p) (pattern_numbers p) (λ E. env_pattern p lo (env_sizes sizes E)) (λ E. env_pattern p lo (env_sizes sizes E)) i0 i2 (omega arith) (omega arith) refl
    (binds_then base lo 0 (pattern_numbers p) (env_sizes sizes) (env_pattern p lo) i0 i1 i2 (y lo) (subst (λ m. Binds base m (pattern_numbers p) (env_pattern p lo) i1 i2) (let e : lo ≡ lo + 0 = omega arith in e) z))

-- that two numbers have one type
pub same_within : (table : ShapeTable) (base i j : ℕ) → i < base → j < base → Are_demands table base (demand.Same i j ∷ [])
unfolding Are_demands IsDemand
same_within table base i j p q = ((p, q), tt)

pub same_says : (i j : ℕ) → Say (demand.Same i j ∷ []) (λ K a. a i ≡ a j)
unfolding All_met Met
same_says i j S K a = ((λ h. h.0), (λ h. (h, tt)))

pub same_allowed : (i j : ℕ) → Always_allowed (demand.Same i j ∷ [])
unfolding All_allow Allows
same_allowed i j home = (tt, tt)
