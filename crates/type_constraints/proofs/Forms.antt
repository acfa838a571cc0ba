-- The forms of expressions.
use Rattle.std.proofs.Common.{◌≡◌, ℕ, ◌+◌, ◌<◌, List, [], ◌∷◌, refl, sym, subst, arith}
use mathlib.Core.Logic.{inl, inr}
use Rattle.fut_types.specs.declared.Kind.{Kind}
use Rattle.fut_types.specs.Types.{Sub, Kinds, HasKind, fun_ty}
use Rattle.fut_scalar.specs.declared.place.Place.{Place}
use Rattle.fut_flat.specs.declared.prim.Ref.{Ref}
use Rattle.fut_typing.specs.Scopes.{Used}
use Rattle.fut_flat.specs.Terms.{Apply, If}
use Rattle.fut_flat.specs.Numbers.{numbers}
use Rattle.fut_flat.specs.Erased.{FlatTerm}
use Rattle.fut_typing.specs.Names.{Names}
use Rattle.fut_typing.specs.Primitives.{bool_ty}
use Rattle.fut_typing.specs.Homes.{Env, Homed, scope_of}
use Rattle.fut_typing.specs.Typing.{Typed}
use Rattle.type_rules.specs.declared.demand.Demand.{Demand}
use Rattle.type_rules.specs.Demands.{All_below, All_met, All_allow, Say, Always_allowed}
use Rattle.type_scopes.specs.declared.Inference.{Inference}
use Rattle.type_scopes.specs.Scopes.{Around, Claim, Homes, Safe, Claimed, Refused, Depends}
use Rattle.type_scopes.proofs.Claiming.{depends_wider, depends_both, claimed_low, refused_low, claimed_as, refused_as, claimed_then, refused_then}
use Rattle.type_constraints.specs.Parts.{Term_claim, Term_homes, Constrained, Unconstrained, Ruled, Unruled, use_term}
use Rattle.type_constraints.proofs.Depending.{depends_term}

abbrev pub Same_claim : Kind → Claim → Claim → Type 0
Same_claim places P R = (N : Names) (E : Env) (K : Kinds) (a : Sub) → (P N (scope_of N places E) K a → R N (scope_of N places E) K a) × (R N (scope_of N places E) K a → P N (scope_of N places E) K a)

-- no claim on homes
abbrev pub anywhere : Homes
anywhere home = Unit {0}

-- a rule that is put in by demands
module _ (places : Kind) (base d lo : ℕ) (ds : List Demand) (P : Kinds → Sub → Type 0) (say : Say ds P) (allowed : Always_allowed ds) (i i' : Inference) where
  pub ruled : Claimed places base d lo (λ N scope K a. All_met N.shapes K a ds) (λ home. All_allow home ds) i i' → Claimed places base d lo (λ N scope K a. P K a) anywhere i i'
  ruled c = claimed_as places base d lo (λ N scope K a. All_met N.shapes K a ds) (λ N scope K a. P K a) (λ home. All_allow home ds) anywhere i i' (λ N E K a h. (say N.shapes K a).1 h) (λ N E K a h. (say N.shapes K a).0 h) (λ home h. allowed home) c

  pub unruled : Refused places base d lo (λ N scope K a. All_met N.shapes K a ds) (λ home. All_allow home ds) i i' → Refused places base d lo (λ N scope K a. P K a) anywhere i i'
  unruled c = refused_as places base d lo (λ N scope K a. All_met N.shapes K a ds) (λ N scope K a. P K a) (λ home. All_allow home ds) anywhere i i' (λ N E K a h. (say N.shapes K a).1 h) (λ home h. allowed home) c

-- two parts and a rule that speaks of types alone
module _ (places : Kind) (base d lo mid : ℕ) (f x : FlatTerm) (i0 i1 i2 i3 : Inference) (s : Safe base i0) (eq : mid ≡ 1 + lo + numbers f) where
  abbrev pub two_claim : Claim
  two_claim N scope K a = Typed N places f (1 + lo) scope K a × Typed N places x (1 + lo + numbers f) scope K a

  abbrev pub two_homes : Homes
  two_homes home = (w : Around d) × (Homed home d w.0 f (1 + lo) × Homed home d w.0 x (1 + lo + numbers f))

  first : Constrained places base d (1 + lo) f i0 i1 → Claimed places base d lo (Term_claim places f (1 + lo)) (Term_homes d f (1 + lo)) i0 i1
  first c = claimed_low places base d lo (1 + lo) (Term_claim places f (1 + lo)) (Term_homes d f (1 + lo)) i0 i1 (omega arith) c

  both : Constrained places base d (1 + lo) f i0 i1 → Constrained places base d mid x i1 i2 → Claimed places base d lo two_claim two_homes i0 i2
  both c1 c2 = claimed_then places base d lo mid (Term_claim places f (1 + lo)) (Term_claim places x mid) two_claim (Term_homes d f (1 + lo)) (Term_homes d x mid) two_homes i0 i1 i2 s (omega arith)
      (depends_wider places (Term_claim places f (1 + lo)) (1 + lo) mid lo mid (omega arith) (omega arith) (depends_term places f (1 + lo) mid eq))
      (λ N E K a h. (h.0, subst (λ m. Typed N places x m (scope_of N places E) K a) (sym eq) h.1)) (λ home h. ((h.0, h.1.0), (h.0, subst (λ m. Homed home d h.0.0 x m) (sym eq) h.1.1))) (first c1)
      (λ N E K a p q. (p, subst (λ m. Typed N places x m (scope_of N places E) K a) eq q)) c2

  two_depends : (hi : ℕ) → hi ≡ 1 + lo + numbers f + numbers x → Depends places two_claim lo hi
  two_depends hi e = depends_both places (Term_claim places f (1 + lo)) (Term_claim places x (1 + lo + numbers f)) two_claim lo (1 + lo + numbers f) (1 + lo + numbers f) hi (omega arith) (omega arith) (omega arith) (λ N E K a h. h) (λ N E K a p q. (p, q))
      (depends_wider places (Term_claim places f (1 + lo)) (1 + lo) (1 + lo + numbers f) lo (1 + lo + numbers f) (omega arith) (omega arith) (depends_term places f (1 + lo) (1 + lo + numbers f) refl)) (depends_term places x (1 + lo + numbers f) hi e)

  two_refused2 : (R : Claim) (I : Homes) → ((N : Names) (E : Env) (K : Kinds) (a : Sub) → R N (scope_of N places E) K a → two_claim N (scope_of N places E) K a) → ((home : ℕ → ℕ) → I home → two_homes home) → Constrained places base d (1 + lo) f i0 i1 → Unconstrained places base d mid x i1 i2 → Refused places base d lo R I i0 i2
  two_refused2 R I split homes c1 c2 = refused_then places base d lo mid (Term_claim places f (1 + lo)) (Term_claim places x mid) R (Term_homes d f (1 + lo)) (Term_homes d x mid) I i0 i1 i2 s (omega arith)
      (depends_wider places (Term_claim places f (1 + lo)) (1 + lo) mid lo mid (omega arith) (omega arith) (depends_term places f (1 + lo) mid eq))
      (λ N E K a h. let g = split N E K a h in (g.0, subst (λ m. Typed N places x m (scope_of N places E) K a) (sym eq) g.1)) (λ home h. let g = homes home h in ((g.0, g.1.0), (g.0, subst (λ m. Homed home d g.0.0 x m) (sym eq) g.1.1))) (first c1) c2

-- application
module _ (places : Kind) (base d lo mid : ℕ) (f x : FlatTerm) (i0 i1 i2 i3 : Inference) (s : Safe base i0) (eq : mid ≡ 1 + lo + numbers f) (ds : List Demand) (say : Say ds (λ K a. a (1 + lo) ≡ fun_ty (a mid) (a lo))) (allowed : Always_allowed ds) where
  apply_homes : (home : ℕ → ℕ) → Term_homes d (Apply f x) lo home → two_homes places base d lo mid f x i0 i1 i2 i3 s eq home
  apply_homes home h = (h.0, (h.1.1, h.1.2))

  apply_ok : Constrained places base d (1 + lo) f i0 i1 → Constrained places base d mid x i1 i2
      → ((places : Kind) (d lo : ℕ) → Claimed places base d lo (λ N scope K a. All_met N.shapes K a ds) (λ home. All_allow home ds) i2 i3) → Constrained places base d lo (Apply f x) i0 i3
  apply_ok c1 c2 c3 = claimed_then places base d lo (1 + lo + numbers f + numbers x) (two_claim places base d lo mid f x i0 i1 i2 i3 s eq) (λ N scope K a. a (1 + lo) ≡ fun_ty (a mid) (a lo)) (Term_claim places (Apply f x) lo)
      (two_homes places base d lo mid f x i0 i1 i2 i3 s eq) anywhere (Term_homes d (Apply f x) lo) i0 i2 i3 s (omega arith) (two_depends places base d lo mid f x i0 i1 i2 i3 s eq (1 + lo + numbers f + numbers x) refl)
      (λ N E K a h. (h.0, subst (λ m. a (1 + lo) ≡ fun_ty (a m) (a lo)) (sym eq) h.1)) (λ home h. (apply_homes home h, tt)) (both places base d lo mid f x i0 i1 i2 i3 s eq c1 c2)
      (λ N E K a p q. (p, subst (λ m. a (1 + lo) ≡ fun_ty (a m) (a lo)) eq q)) (ruled places base d (1 + lo + numbers f + numbers x) ds (λ K a. a (1 + lo) ≡ fun_ty (a mid) (a lo)) say allowed i2 i3 (c3 places d (1 + lo + numbers f + numbers x)))

  apply_err3 : Constrained places base d (1 + lo) f i0 i1 → Constrained places base d mid x i1 i2
      → ((places : Kind) (d lo : ℕ) → Refused places base d lo (λ N scope K a. All_met N.shapes K a ds) (λ home. All_allow home ds) i2 i3) → Unconstrained places base d lo (Apply f x) i0 i3
  apply_err3 c1 c2 c3 = refused_then places base d lo (1 + lo + numbers f + numbers x) (two_claim places base d lo mid f x i0 i1 i2 i3 s eq) (λ N scope K a. a (1 + lo) ≡ fun_ty (a mid) (a lo)) (Term_claim places (Apply f x) lo)
      (two_homes places base d lo mid f x i0 i1 i2 i3 s eq) anywhere (Term_homes d (Apply f x) lo) i0 i2 i3 s (omega arith) (two_depends places base d lo mid f x i0 i1 i2 i3 s eq (1 + lo + numbers f + numbers x) refl)
      (λ N E K a h. (h.0, subst (λ m. a (1 + lo) ≡ fun_ty (a m) (a lo)) (sym eq) h.1)) (λ home h. (apply_homes home h, tt)) (both places base d lo mid f x i0 i1 i2 i3 s eq c1 c2)
      (unruled places base d (1 + lo + numbers f + numbers x) ds (λ K a. a (1 + lo) ≡ fun_ty (a mid) (a lo)) say allowed i2 i3 (c3 places d (1 + lo + numbers f + numbers x)))

-- three parts and the rule of a choice
abbrev pub Choice : Kind → ℕ → ℕ → ℕ → ℕ → Kinds → Sub → Type 0
Choice places lo c t e K a = (a c ≡ bool_ty) × (a lo ≡ a t) × (a lo ≡ a e) × HasKind K places (a lo)

module _ (places : Kind) (base d lo m1 m2 : ℕ) (c t e : FlatTerm) (i0 i1 i2 i3 i4 : Inference) (s : Safe base i0) (eq1 : m1 ≡ 1 + lo + numbers c) (eq2 : m2 ≡ 1 + lo + numbers c + numbers t) (ds : List Demand) (say : Say ds (Choice places lo (1 + lo) m1 m2)) (allowed : Always_allowed ds) where
  abbrev end : ℕ
  end = 1 + lo + numbers c + numbers t + numbers e

  abbrev three_claim : Claim
  three_claim N scope K a = (Typed N places c (1 + lo) scope K a × Typed N places t (1 + lo + numbers c) scope K a) × Typed N places e (1 + lo + numbers c + numbers t) scope K a

  abbrev three_homes : Homes
  three_homes home = (w : Around d) × (Homed home d w.0 c (1 + lo) × Homed home d w.0 t (1 + lo + numbers c) × Homed home d w.0 e (1 + lo + numbers c + numbers t))

  two_of : (home : ℕ → ℕ) → three_homes home → two_homes places base d lo m1 c t i0 i1 i2 i3 s eq1 home
  two_of home h = (h.0, (h.1.0, h.1.1))

  last_of : (home : ℕ → ℕ) → three_homes home → Term_homes d e m2 home
  last_of home h = (h.0, subst (λ m. Homed home d h.0.0 e m) (sym eq2) h.1.2)

  if_homes : (home : ℕ → ℕ) → Term_homes d (If c t e) lo home → three_homes home
  if_homes home h = (h.0, (h.1.1, h.1.2, h.1.3))

  three : Constrained places base d (1 + lo) c i0 i1 → Constrained places base d m1 t i1 i2 → Constrained places base d m2 e i2 i3 → Claimed places base d lo three_claim three_homes i0 i3
  three c1 c2 c3 = claimed_then places base d lo m2 (two_claim places base d lo m1 c t i0 i1 i2 i3 s eq1) (Term_claim places e m2) three_claim (two_homes places base d lo m1 c t i0 i1 i2 i3 s eq1) (Term_homes d e m2) three_homes i0 i2 i3 s (omega arith)
      (two_depends places base d lo m1 c t i0 i1 i2 i3 s eq1 m2 eq2) (λ N E K a h. (h.0, subst (λ m. Typed N places e m (scope_of N places E) K a) (sym eq2) h.1)) (λ home h. (two_of home h, last_of home h)) (both places base d lo m1 c t i0 i1 i2 i3 s eq1 c1 c2)
      (λ N E K a p q. (p, subst (λ m. Typed N places e m (scope_of N places E) K a) eq2 q)) c3

  three_depends : Depends places three_claim lo end
  three_depends = depends_both places (two_claim places base d lo m1 c t i0 i1 i2 i3 s eq1) (Term_claim places e (1 + lo + numbers c + numbers t)) three_claim lo (1 + lo + numbers c + numbers t) (1 + lo + numbers c + numbers t) end (omega arith) (omega arith) (omega arith)
      (λ N E K a h. h) (λ N E K a p q. (p, q)) (two_depends places base d lo m1 c t i0 i1 i2 i3 s eq1 (1 + lo + numbers c + numbers t) refl) (depends_term places e (1 + lo + numbers c + numbers t) end refl)

  split : (N : Names) (E : Env) (K : Kinds) (a : Sub) → Typed N places (If c t e) lo (scope_of N places E) K a → three_claim N (scope_of N places E) K a × Choice places lo (1 + lo) m1 m2 K a
  split N E K a h = (h.0, (h.1, subst (λ m. a lo ≡ a m) (sym eq1) h.2, subst (λ m. a lo ≡ a m) (sym eq2) h.3, h.4))

  if_ok : Constrained places base d (1 + lo) c i0 i1 → Constrained places base d m1 t i1 i2 → Constrained places base d m2 e i2 i3
      → ((places : Kind) (d lo : ℕ) → Claimed places base d lo (λ N scope K a. All_met N.shapes K a ds) (λ home. All_allow home ds) i3 i4) → Constrained places base d lo (If c t e) i0 i4
  if_ok c1 c2 c3 c4 = claimed_then places base d lo end three_claim (λ N scope K a. Choice places lo (1 + lo) m1 m2 K a) (Term_claim places (If c t e) lo) three_homes anywhere (Term_homes d (If c t e) lo) i0 i3 i4 s (omega arith) three_depends
      split (λ home h. (if_homes home h, tt)) (three c1 c2 c3) (λ N E K a p q. (p, q.0, subst (λ m. a lo ≡ a m) eq1 q.1, subst (λ m. a lo ≡ a m) eq2 q.2, q.3)) (ruled places base d end ds (Choice places lo (1 + lo) m1 m2) say allowed i3 i4 (c4 places d end))

  if_err4 : Constrained places base d (1 + lo) c i0 i1 → Constrained places base d m1 t i1 i2 → Constrained places base d m2 e i2 i3
      → ((places : Kind) (d lo : ℕ) → Refused places base d lo (λ N scope K a. All_met N.shapes K a ds) (λ home. All_allow home ds) i3 i4) → Unconstrained places base d lo (If c t e) i0 i4
  if_err4 c1 c2 c3 x = refused_then places base d lo end three_claim (λ N scope K a. Choice places lo (1 + lo) m1 m2 K a) (Term_claim places (If c t e) lo) three_homes anywhere (Term_homes d (If c t e) lo) i0 i3 i4 s (omega arith) three_depends
      split (λ home h. (if_homes home h, tt)) (three c1 c2 c3) (unruled places base d end ds (Choice places lo (1 + lo) m1 m2) say allowed i3 i4 (x places d end))

-- a use of a name
module _ (places : Kind) (base d lo : ℕ) (r : Ref) (at : Place) (k : ℕ) (i i' : Inference) where
  abbrev use_claim : Claim
  use_claim N scope K a = Used places scope K a r (a lo)

  pub use_ok : ((d : ℕ) → Claimed places base d lo (λ N scope K a. Used places scope K a r (a lo)) (λ home. Unit {0}) i i') → Constrained places base d lo (use_term r at k) i i'
  use_ok c = claimed_as places base d lo use_claim (Term_claim places (use_term r at k) lo) anywhere (Term_homes d (use_term r at k) lo) i i' (λ N E K a h. h) (λ N E K a h. h) (λ home h. tt) (c d)

  pub use_err : ((d : ℕ) → Refused places base d lo (λ N scope K a. Used places scope K a r (a lo)) (λ home. Unit {0}) i i') → Unconstrained places base d lo (use_term r at k) i i'
  use_err c = refused_as places base d lo use_claim (Term_claim places (use_term r at k) lo) anywhere (Term_homes d (use_term r at k) lo) i i' (λ N E K a h. h) (λ home h. tt) (c d)

-- demands on numbers below base
pub below_two : (base x y z : ℕ) → x < base → y < base → z < base → All_below base (x ∷ y ∷ z ∷ [])
below_two base x y z p q r = (p, (q, (r, tt)))

pub below_four : (base x y z w : ℕ) → x < base → y < base → z < base → w < base → All_below base (x ∷ y ∷ z ∷ w ∷ [])
below_four base x y z w p q r s = (p, (q, (r, (s, tt))))

-- refusals of the first parts, with no word on what would come behind
module _ (places : Kind) (base d lo : ℕ) (f x : FlatTerm) (i0 i1 : Inference) where
  pub refused_apply : Unconstrained places base d (1 + lo) f i0 i1 → Unconstrained places base d lo (Apply f x) i0 i1
  refused_apply c = refused_as places base d lo (Term_claim places f (1 + lo)) (Term_claim places (Apply f x) lo) (Term_homes d f (1 + lo)) (Term_homes d (Apply f x) lo) i0 i1 (λ N E K a h. h.0.0) (λ home h. (h.0, h.1.1))
      (refused_low places base d lo (1 + lo) (Term_claim places f (1 + lo)) (Term_homes d f (1 + lo)) i0 i1 (omega arith) c)

module _ (places : Kind) (base d lo : ℕ) (c t e : FlatTerm) (i0 i1 : Inference) where
  pub refused_if : Unconstrained places base d (1 + lo) c i0 i1 → Unconstrained places base d lo (If c t e) i0 i1
  refused_if x = refused_as places base d lo (Term_claim places c (1 + lo)) (Term_claim places (If c t e) lo) (Term_homes d c (1 + lo)) (Term_homes d (If c t e) lo) i0 i1 (λ N E K a h. h.0.0.0) (λ home h. (h.0, h.1.1))
      (refused_low places base d lo (1 + lo) (Term_claim places c (1 + lo)) (Term_homes d c (1 + lo)) i0 i1 (omega arith) x)

refused_apply2 : (places : Kind) (base d lo mid : ℕ) (f x : FlatTerm) (i0 i1 i2 : Inference) → Safe base i0 → mid ≡ 1 + lo + numbers f → Constrained places base d (1 + lo) f i0 i1 → Unconstrained places base d mid x i1 i2 → Unconstrained places base d lo (Apply f x) i0 i2
refused_apply2 places base d lo mid f x i0 i1 i2 s eq c1 c2 = two_refused2 places base d lo mid f x i0 i1 i2 i2 s eq (Term_claim places (Apply f x) lo) (Term_homes d (Apply f x) lo) (λ N E K a h. h.0) (λ home h. (h.0, (h.1.1, h.1.2))) c1 c2

pub refused_if2 : (places : Kind) (base d lo mid : ℕ) (c t e : FlatTerm) (i0 i1 i2 : Inference) → Safe base i0 → mid ≡ 1 + lo + numbers c → Constrained places base d (1 + lo) c i0 i1 → Unconstrained places base d mid t i1 i2 → Unconstrained places base d lo (If c t e) i0 i2
refused_if2 places base d lo mid c t e i0 i1 i2 s eq c1 x = two_refused2 places base d lo mid c t i0 i1 i2 i2 s eq (Term_claim places (If c t e) lo) (Term_homes d (If c t e) lo) (λ N E K a h. h.0.0) (λ home h. (h.0, (h.1.1, h.1.2))) c1 x

refused_if3 : (places : Kind) (base d lo m1 m2 : ℕ) (c t e : FlatTerm) (i0 i1 i2 i3 : Inference) → Safe base i0 → m1 ≡ 1 + lo + numbers c → m2 ≡ 1 + lo + numbers c + numbers t
    → Constrained places base d (1 + lo) c i0 i1 → Constrained places base d m1 t i1 i2 → Unconstrained places base d m2 e i2 i3 → Unconstrained places base d lo (If c t e) i0 i3
refused_if3 places base d lo m1 m2 c t e i0 i1 i2 i3 s eq1 eq2 c1 c2 x = refused_then places base d lo m2 (two_claim places base d lo m1 c t i0 i1 i2 i3 s eq1) (Term_claim places e m2) (Term_claim places (If c t e) lo) (two_homes places base d lo m1 c t i0 i1 i2 i3 s eq1) (Term_homes d e m2) (Term_homes d (If c t e) lo) i0 i2 i3 s (omega arith)
    (two_depends places base d lo m1 c t i0 i1 i2 i3 s eq1 m2 eq2) (λ N E K a h. (h.0.0, subst (λ m. Typed N places e m (scope_of N places E) K a) (sym eq2) h.0.1)) (λ home h. ((h.0, (h.1.1, h.1.2)), (h.0, subst (λ m. Homed home d h.0.0 e m) (sym eq2) h.1.3))) (both places base d lo m1 c t i0 i1 i2 i3 s eq1 c1 c2) x

-- the last part and the rule together
module _ (places : Kind) (base d lo mid : ℕ) (f x : FlatTerm) (i0 i1 i3 : Inference) (s : Safe base i0) (eq : mid ≡ 1 + lo + numbers f) (ds : List Demand) (say : Say ds (λ K a. a (1 + lo) ≡ fun_ty (a mid) (a lo))) (allowed : Always_allowed ds) (c : Constrained places base d (1 + lo) f i0 i1) where
  pub apply_ruled : Ruled places base d mid x ds i1 i3 → Constrained places base d lo (Apply f x) i0 i3
  apply_ruled r = apply_ok places base d lo mid f x i0 i1 r.0 i3 s eq ds say allowed c r.1.0 r.1.1

  pub apply_unruled : Unruled places base d mid x ds i1 i3 → Unconstrained places base d lo (Apply f x) i0 i3
  apply_unruled (inl u) = refused_apply2 places base d lo mid f x i0 i1 i3 s eq c u
  apply_unruled (inr w) = apply_err3 places base d lo mid f x i0 i1 w.0 i3 s eq ds say allowed c w.1.0 w.1.1

module _ (places : Kind) (base d lo m1 m2 : ℕ) (c t e : FlatTerm) (i0 i1 i2 i4 : Inference) (s : Safe base i0) (eq1 : m1 ≡ 1 + lo + numbers c) (eq2 : m2 ≡ 1 + lo + numbers c + numbers t) (ds : List Demand) (say : Say ds (Choice places lo (1 + lo) m1 m2)) (allowed : Always_allowed ds)
    (c1 : Constrained places base d (1 + lo) c i0 i1) (c2 : Constrained places base d m1 t i1 i2) where
  pub if_ruled : Ruled places base d m2 e ds i2 i4 → Constrained places base d lo (If c t e) i0 i4
  if_ruled r = if_ok places base d lo m1 m2 c t e i0 i1 i2 r.0 i4 s eq1 eq2 ds say allowed c1 c2 r.1.0 r.1.1

  pub if_unruled : Unruled places base d m2 e ds i2 i4 → Unconstrained places base d lo (If c t e) i0 i4
  if_unruled (inl u) = refused_if3 places base d lo m1 m2 c t e i0 i1 i2 i4 s eq1 eq2 c1 c2 u
  if_unruled (inr w) = if_err4 places base d lo m1 m2 c t e i0 i1 i2 w.0 i4 s eq1 eq2 ds say allowed c1 c2 w.1.0 w.1.1
