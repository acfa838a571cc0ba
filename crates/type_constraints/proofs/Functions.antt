-- Parameters in a row, and functions of them.
use Rattle.std.proofs.Common.{◌≡◌, ℕ, ◌+◌, ◌≤◌, ◌<◌, List, [], ◌∷◌, ◌++◌, length, refl, sym, ◌∙◌, ap, subst, arith, append_assoc}
use mathlib.Core.Logic.{◌⊎◌, inl, inr}
use Rattle.fut_scalar.specs.declared.place.BindId.{BindId}
use Rattle.fut_types.specs.declared.Kind.{Kind}
use Rattle.fut_types.specs.Types.{Sub, Kinds, more}
use Rattle.fut_flat.specs.declared.prim.Ref.{Ref}
use Rattle.fut_flat.specs.Terms.{Lambda, Patterns, no_pattern, pattern_and}
use Rattle.fut_flat.specs.Numbers.{numbers, pattern_numbers, all_pattern_numbers}
use Rattle.fut_flat.specs.Erased.{FlatTerm, FlatPattern, patterns}
use Rattle.fut_typing.specs.Names.{Names}
use Rattle.fut_typing.specs.Scopes.{Scope, the_one}
use Rattle.fut_typing.specs.Patterns.{pattern_types, arrows, with_pattern, with_patterns, Pattern_typed, Parameters_typed}
use Rattle.fut_typing.specs.Homes.{Env, Needs, At_home, Homed, scope_of, env_pattern, env_patterns}
use Rattle.fut_typing.specs.Typing.{Typed}
use Rattle.fut_typing.proofs.Ranges.{pattern_some}
use Rattle.fut_typing.proofs.Local.{all_local_more, local_all_ones, parameters_same}
use Rattle.fut_typing.proofs.Envs.{scope_patterns}
use Rattle.fut_typing.proofs.Cong.{cong, scope_local}
use Rattle.type_graph.specs.Graph.{Each}
use Rattle.type_graph.specs.Claims.{types_of}
use Rattle.type_scopes.specs.declared.Inference.{Inference}
use Rattle.type_scopes.specs.declared.names.Past.{Past}
use Rattle.type_scopes.specs.Table.{undone}
use Rattle.type_scopes.specs.Scopes.{Claim, Homes, Safe, Claimed, Opened, Refused, Binds, Depends, nothing_claimed}
use Rattle.type_scopes.proofs.Claiming.{claimed_low, claimed_then, refused_as, refused_low, refused_then}
use Rattle.type_scopes.proofs.Opening.{opened_as, opened_both, opened_refused, opened_then, then_opened, closed}
use Rattle.type_scopes.proofs.Binding.{binds_none}
use Rattle.type_constraints.specs.Parts.{Term_claim, Term_homes, Constrained, Unconstrained, Pattern_claim, Parameters_claim, pattern_starts}
use Rattle.type_constraints.proofs.Depending.{depends_term}

-- patterns in a row, split at one
pub no_numbers : all_pattern_numbers (patterns []) ≡ 0
unfolding patterns
no_numbers = refl

pub numbers_split : (qs : List FlatPattern) (p : FlatPattern) (rs : List FlatPattern) → all_pattern_numbers (patterns (qs ++ p ∷ rs)) ≡ all_pattern_numbers (patterns qs) + (pattern_numbers p + all_pattern_numbers (patterns rs))
unfolding patterns
numbers_split [] p rs = omega arith
numbers_split (q ∷ qs) p rs = let e = numbers_split qs p rs in omega (arith, e)

pub starts_more : (qs : List FlatPattern) (p : FlatPattern) (lo : ℕ) → pattern_starts (patterns (qs ++ p ∷ [])) lo ≡ pattern_starts (patterns qs) lo ++ (lo + all_pattern_numbers (patterns qs)) ∷ []
unfolding patterns pattern_starts
starts_more [] p lo = λ k. (let e : lo ≡ lo + 0 = omega arith in e k) ∷ []
starts_more (q ∷ qs) p lo = ap (λ l. lo ∷ l) (starts_more qs p (lo + pattern_numbers q) ∙ (λ k. pattern_starts (patterns qs) (lo + pattern_numbers q) ++ (let e : lo + pattern_numbers q + all_pattern_numbers (patterns qs) ≡ lo + (pattern_numbers q + all_pattern_numbers (patterns qs)) = omega arith in e k) ∷ []))

env_more : (qs : List FlatPattern) (p : FlatPattern) (lo : ℕ) (E : Env) → env_patterns (patterns (qs ++ p ∷ [])) lo E ≡ env_pattern p (lo + all_pattern_numbers (patterns qs)) (env_patterns (patterns qs) lo E)
unfolding patterns
env_more [] p lo E = ap (λ n. env_pattern p n E) (let e : lo ≡ lo + 0 = omega arith in e)
env_more (q ∷ qs) p lo E = env_more qs p (lo + pattern_numbers q) (env_pattern q lo E) ∙ ap (λ n. env_pattern p n (env_patterns (patterns qs) (lo + pattern_numbers q) (env_pattern q lo E))) (let e : lo + pattern_numbers q + all_pattern_numbers (patterns qs) ≡ lo + (pattern_numbers q + all_pattern_numbers (patterns qs)) = omega arith in e)

module _ (N : Names) (places : Kind) (K : Kinds) (a : Sub) where
  typed_split : (qs : List FlatPattern) (p : FlatPattern) (rs : List FlatPattern) (lo : ℕ) (scope : Scope) → Parameters_typed N places K a (patterns (qs ++ p ∷ rs)) lo scope → Parameters_typed N places K a (patterns qs) lo scope × Pattern_typed N places K a p (lo + all_pattern_numbers (patterns qs)) (with_patterns the_one (patterns qs) lo scope)
  unfolding patterns
  typed_split [] p rs lo scope h = (tt, subst (λ m. Pattern_typed N places K a p m scope) (let e : lo ≡ lo + 0 = omega arith in e) h.0)
  typed_split (q ∷ qs) p rs lo scope h = let w = typed_split qs p rs (lo + pattern_numbers q) (with_pattern the_one q lo scope) h.1 in
      ((h.0, w.0), subst (λ m. Pattern_typed N places K a p m (with_patterns the_one (patterns qs) (lo + pattern_numbers q) (with_pattern the_one q lo scope))) (let e : lo + pattern_numbers q + all_pattern_numbers (patterns qs) ≡ lo + (pattern_numbers q + all_pattern_numbers (patterns qs)) = omega arith in e) w.1)

  typed_join : (qs : List FlatPattern) (p : FlatPattern) (lo : ℕ) (scope : Scope) → Parameters_typed N places K a (patterns qs) lo scope → Pattern_typed N places K a p (lo + all_pattern_numbers (patterns qs)) (with_patterns the_one (patterns qs) lo scope) → Parameters_typed N places K a (patterns (qs ++ p ∷ [])) lo scope
  unfolding patterns
  typed_join [] p lo scope h g = (subst (λ m. Pattern_typed N places K a p m scope) (let e : lo + 0 ≡ lo = omega arith in e) g, tt)
  typed_join (q ∷ qs) p lo scope h g = (
    h.0,
    typed_join qs p (lo + pattern_numbers q) (with_pattern the_one q lo scope) h.1
        (subst (λ m. Pattern_typed N places K a p m (with_patterns the_one (patterns qs) (lo + pattern_numbers q) (with_pattern the_one q lo scope))) (let e : lo + (pattern_numbers q + all_pattern_numbers (patterns qs)) ≡ lo + pattern_numbers q + all_pattern_numbers (patterns qs) = omega arith in e) g),
  )

-- how far parameters are gone over
pub record Row_open (places : Kind) (base d lo at : ℕ) (qs : List FlatPattern) (begins begins' : List ℕ) (i i' : Inference) : Type 0 where
  pub next : at ≡ lo + all_pattern_numbers (patterns qs)
  pub noted : begins' ≡ begins ++ pattern_starts (patterns qs) lo
  pub opened : Opened places base d lo (lo + all_pattern_numbers (patterns qs)) (Parameters_claim places (patterns qs) lo) (λ home. At_home home d lo (all_pattern_numbers (patterns qs))) (env_patterns (patterns qs) lo) i i'

pub append_none : (xs : List ℕ) → xs ++ [] ≡ xs
append_none [] = refl
append_none (x ∷ xs) = ap (λ l. x ∷ l) (append_none xs)

pub open_none : (places : Kind) (base d lo : ℕ) (begins : List ℕ) (i : Inference) → Safe base i → Row_open places base d lo lo [] begins begins i i
unfolding patterns pattern_starts
open_none places base d lo begins i s = record {
  next = omega arith;
  noted = sym (append_none begins);
  opened = subst (λ m. Opened places base d m (lo + 0) (Parameters_claim places (patterns []) lo) (λ home. At_home home d lo 0) (λ E. E) i i) (let e : lo + 0 ≡ lo = omega arith in e)
      (opened_as places base d (lo + 0) (lo + 0) nothing_claimed (Parameters_claim places (patterns []) lo) (λ home. At_home home d lo 0) (λ home. At_home home d lo 0) (λ E. E) (λ E. E) i i (λ N E K a h. (tt, tt)) (λ N E K a p q. tt) (λ home h. h) refl
      (binds_none base lo i s places d (lo + 0) (omega arith)));
}

module _ (places : Kind) (base d lo at : ℕ) (qs : List FlatPattern) (p : FlatPattern) (begins b1 : List ℕ) (i0 i1 i2 i3 : Inference) (g : Row_open places base d lo at qs begins b1 i0 i1) where
  abbrev here : ℕ
  here = lo + all_pattern_numbers (patterns qs)

  abbrev pattern_homes : Homes
  pattern_homes home = At_home home d here (pattern_numbers p)

  seen : (N : Names) (E : Env) (K : Kinds) (a : Sub) → Pattern_typed N places K a p here (with_patterns the_one (patterns qs) lo (scope_of N places E)) → Pattern_claim places p here N (scope_of N places (env_patterns (patterns qs) lo E)) K a
  seen N E K a h = subst (λ (s : Scope). Pattern_typed N places K a p here s) (sym (scope_patterns N places (patterns qs) lo E)) h

  unseen : (N : Names) (E : Env) (K : Kinds) (a : Sub) → Pattern_claim places p here N (scope_of N places (env_patterns (patterns qs) lo E)) K a → Pattern_typed N places K a p here (with_patterns the_one (patterns qs) lo (scope_of N places E))
  unseen N E K a h = subst (λ (s : Scope). Pattern_typed N places K a p here s) (scope_patterns N places (patterns qs) lo E) h

  pub open_more : (next : ℕ) (b2 : List ℕ) → b2 ≡ b1 ++ at ∷ [] → next ≡ at + pattern_numbers p → Depends places (Pattern_claim places p here) here (here + pattern_numbers p) → ((d : ℕ) → Claimed places base d at (Pattern_claim places p at) (λ home. At_home home d at (pattern_numbers p)) i1 i2)
      → Binds base at (pattern_numbers p) (env_pattern p at) i2 i3 → Row_open places base d lo next (qs ++ p ∷ []) begins b2 i0 i3
  open_more next b2 eb en dep c b = let z : all_pattern_numbers (patterns (qs ++ p ∷ [])) ≡ all_pattern_numbers (patterns qs) + (pattern_numbers p + 0) = numbers_split qs p [] ∙ ap (λ n. all_pattern_numbers (patterns qs) + (pattern_numbers p + n)) no_numbers in
      let ga : at ≡ lo + all_pattern_numbers (patterns qs) = g.next in
      let c' : Claimed places base d here (Pattern_claim places p here) pattern_homes i1 i2 = subst (λ m. Claimed places base d m (Pattern_claim places p m) (λ home. At_home home d m (pattern_numbers p)) i1 i2) g.next (c d) in
      let b' : Binds base here (pattern_numbers p) (env_pattern p here) i2 i3 = subst (λ m. Binds base m (pattern_numbers p) (env_pattern p m) i2 i3) g.next b in
      let one = then_opened places base d here (here + pattern_numbers p) (here + pattern_numbers p) (Pattern_claim places p here) nothing_claimed (Pattern_claim places p here) pattern_homes pattern_homes pattern_homes (env_pattern p here) i1 i2 i3 g.opened.later.safe (omega arith) dep
      (λ home h. (h, h)) c' (λ N E K a h. (h, tt)) (λ N E K a x y. x) (b' places d (here + pattern_numbers p) (omega arith)) in record {
        next = omega (arith, z, en, ga);
        noted = eb ∙ ap (λ l. l ++ at ∷ []) g.noted ∙ append_assoc begins (pattern_starts (patterns qs) lo) (at ∷ []) ∙ ap (λ l. begins ++ l) ((λ k. pattern_starts (patterns qs) lo ++ g.next k ∷ []) ∙ sym (starts_more qs p lo));
        opened = opened_as places base d lo (lo + all_pattern_numbers (patterns (qs ++ p ∷ []))) (Parameters_claim places (patterns (qs ++ p ∷ [])) lo) (Parameters_claim places (patterns (qs ++ p ∷ [])) lo)
            (λ home. At_home home d lo (all_pattern_numbers (patterns (qs ++ p ∷ [])))) (λ home. At_home home d lo (all_pattern_numbers (patterns (qs ++ p ∷ [])))) (λ E. env_pattern p here (env_patterns (patterns qs) lo E)) (env_patterns (patterns (qs ++ p ∷ [])) lo) i0 i3
            (λ N E K a h. (h, tt)) (λ N E K a x y. x) (λ home h. h) (λ k E. sym (env_more qs p lo E) k)
            (opened_both places base d lo here (Parameters_claim places (patterns qs) lo) (Pattern_claim places p here) (Parameters_claim places (patterns (qs ++ p ∷ [])) lo) (λ home. At_home home d lo (all_pattern_numbers (patterns qs))) pattern_homes (λ home. At_home home d lo (all_pattern_numbers (patterns (qs ++ p ∷ []))))
            (env_patterns (patterns qs) lo) i0 i1 i3 (λ N E K a h. let w = typed_split N places K a qs p [] lo (scope_of N places E) h in (w.0, seen N E K a w.1)) (λ home h. ((λ n x y. h n x (omega (arith, z))), (λ n x y. h n (omega arith) (omega (arith, z)))))
            g.opened (lo + all_pattern_numbers (patterns (qs ++ p ∷ []))) (env_pattern p here) (λ N E K a x y. typed_join N places K a qs p lo (scope_of N places E) x (unseen N E K a y))
            (subst (λ m. Opened places base d here m (Pattern_claim places p here) pattern_homes (env_pattern p here) i1 i3) (let e : here + pattern_numbers p ≡ lo + all_pattern_numbers (patterns (qs ++ p ∷ [])) = omega (arith, z) in e) one));
      }

  pub open_refused : (all rest : List FlatPattern) → all ≡ qs ++ p ∷ rest → ((d : ℕ) → Refused places base d at (Pattern_claim places p at) (λ home. At_home home d at (pattern_numbers p)) i1 i2) → Refused places base d lo (Parameters_claim places (patterns all) lo) (λ home. At_home home d lo (all_pattern_numbers (patterns all))) i0 i2
  open_refused all rest ea c = subst (λ l. Refused places base d lo (Parameters_claim places (patterns l) lo) (λ home. At_home home d lo (all_pattern_numbers (patterns l))) i0 i2) (sym ea)
      (let z : all_pattern_numbers (patterns (qs ++ p ∷ rest)) ≡ all_pattern_numbers (patterns qs) + (pattern_numbers p + all_pattern_numbers (patterns rest)) = numbers_split qs p rest in
      opened_refused places base d lo here (Parameters_claim places (patterns qs) lo) (Pattern_claim places p here) (Parameters_claim places (patterns (qs ++ p ∷ rest)) lo) (λ home. At_home home d lo (all_pattern_numbers (patterns qs))) pattern_homes (λ home. At_home home d lo (all_pattern_numbers (patterns (qs ++ p ∷ rest))))
      (env_patterns (patterns qs) lo) i0 i1 i2 (λ N E K a h. let w = typed_split N places K a qs p rest lo (scope_of N places E) h in (w.0, seen N E K a w.1)) (λ home h. ((λ n x y. h n x (omega (arith, z))), (λ n x y. h n (omega arith) (omega (arith, z)))))
      g.opened (subst (λ m. Refused places base d m (Pattern_claim places p m) (λ home. At_home home d m (pattern_numbers p)) i1 i2) g.next (c d)))

-- the pattern at a place, and those before and behind it
pub starts_below : (base : ℕ) (ps : Patterns Ref BindId) (lo : ℕ) → lo + all_pattern_numbers ps ≤ base → Each (λ n. n < base) (pattern_starts ps lo)
unfolding pattern_starts
starts_below base no_pattern lo h = tt
starts_below base (pattern_and p ps) lo h = let z : 0 < pattern_numbers p = pattern_some p in (omega arith, starts_below base ps (lo + pattern_numbers p) (omega arith))

pub types_are : (a : Sub) (ps : Patterns Ref BindId) (lo : ℕ) → types_of a (pattern_starts ps lo) ≡ pattern_types a ps lo
unfolding types_of pattern_starts
types_are a no_pattern lo = refl
types_are a (pattern_and p ps) lo = ap (λ us. more (a lo) us) (types_are a ps (lo + pattern_numbers p))

-- a function
module _ (places : Kind) (base d lo from : ℕ) (ps : Patterns Ref BindId) (e : FlatTerm) (eq : from ≡ 1 + lo + all_pattern_numbers ps) where
  abbrev inside : Claim
  inside N scope K a = Parameters_typed N places K a ps (1 + lo) scope × Typed N places e (1 + lo + all_pattern_numbers ps) (with_patterns the_one ps (1 + lo) scope) K a

  abbrev params_homes : Homes
  params_homes home = At_home home d (1 + lo) (all_pattern_numbers ps)

  homes : (home : ℕ → ℕ) → Term_homes d (Lambda ps e) lo home → params_homes home × Term_homes d e from home
  homes home h = ((λ n x y. h.1.0 n (omega arith) (omega arith)), (h.0, subst (λ m. Homed home d h.0.0 e m) (sym eq) h.1.1))

  split : (N : Names) (E : Env) (K : Kinds) (a : Sub) → inside N (scope_of N places E) K a → Parameters_claim places ps (1 + lo) N (scope_of N places E) K a × Term_claim places e from N (scope_of N places (env_patterns ps (1 + lo) E)) K a
  split N E K a h = (h.0, subst (λ (s : Scope). Typed N places e from s K a) (sym (scope_patterns N places ps (1 + lo) E)) (subst (λ m. Typed N places e m (with_patterns the_one ps (1 + lo) (scope_of N places E)) K a) (sym eq) h.1))

  join : (N : Names) (E : Env) (K : Kinds) (a : Sub) → Parameters_claim places ps (1 + lo) N (scope_of N places E) K a → Term_claim places e from N (scope_of N places (env_patterns ps (1 + lo) E)) K a → inside N (scope_of N places E) K a
  join N E K a p q = (p, subst (λ m. Typed N places e m (with_patterns the_one ps (1 + lo) (scope_of N places E)) K a) eq (subst (λ (s : Scope). Typed N places e from s K a) (scope_patterns N places ps (1 + lo) E) q))

  depends_inside : (hi : ℕ) → hi ≡ 1 + lo + all_pattern_numbers ps + numbers e → Depends places inside lo hi
  depends_inside hi eh N E K a b same h =
      let M : ℕ → Type 0 = λ n. Needs E n ⊎ ((lo ≤ n) × (n < hi)) in let all = all_local_more (Needs E) M (scope_of N places E) (λ n m. inl m) (scope_local N places E) in (
        parameters_same M N places K a b same ps (1 + lo) (scope_of N places E) all (λ n x y. inr (omega arith, omega arith)) h.0,
        cong N places M e (1 + lo + all_pattern_numbers ps) (with_patterns the_one ps (1 + lo) (scope_of N places E)) (local_all_ones M ps (1 + lo) (scope_of N places E) (λ n x y. inr (omega arith, omega arith)) all) (λ n x y. inr (omega arith, omega arith)) K a b same h.1,
      )

  pub lambda_err1 : (i0 i1 : Inference) → Refused places base d (1 + lo) (Parameters_claim places ps (1 + lo)) params_homes i0 i1 → Unconstrained places base d lo (Lambda ps e) i0 i1
  lambda_err1 i0 i1 c = refused_low places base d lo (1 + lo) (Term_claim places (Lambda ps e) lo) (Term_homes d (Lambda ps e) lo) i0 i1 (omega arith)
      (refused_as places base d (1 + lo) (Parameters_claim places ps (1 + lo)) (Term_claim places (Lambda ps e) lo) params_homes (Term_homes d (Lambda ps e) lo) i0 i1 (λ N E K a h. h.0.0) (λ home h. (homes home h).0) c)

  module _ (i0 i1 : Inference) (x : Opened places base d (1 + lo) (1 + lo + all_pattern_numbers ps) (Parameters_claim places ps (1 + lo)) params_homes (env_patterns ps (1 + lo)) i0 i1) where
    at_from : Opened places base d (1 + lo) from (Parameters_claim places ps (1 + lo)) params_homes (env_patterns ps (1 + lo)) i0 i1
    at_from = subst (λ m. Opened places base d (1 + lo) m (Parameters_claim places ps (1 + lo)) params_homes (env_patterns ps (1 + lo)) i0 i1) (sym eq) x

    pub lambda_err2 : (i2 : Inference) → Unconstrained places base d from e i1 i2 → Unconstrained places base d lo (Lambda ps e) i0 i2
    lambda_err2 i2 c = refused_low places base d lo (1 + lo) (Term_claim places (Lambda ps e) lo) (Term_homes d (Lambda ps e) lo) i0 i2 (omega arith)
        (opened_refused places base d (1 + lo) from (Parameters_claim places ps (1 + lo)) (Term_claim places e from) (Term_claim places (Lambda ps e) lo) params_homes (Term_homes d e from) (Term_homes d (Lambda ps e) lo) (env_patterns ps (1 + lo)) i0 i1 i2
        (λ N E K a h. split N E K a h.0) homes at_from c)

    module _ (i2 i3 : Inference) (s : Safe base i0) (body : Constrained places base d from e i1 i2) (back : (before added : List Past) → i2.past ≡ before ++ added → length before ≡ length i0.past → i3 ≡ record i2 { names = undone added i2.names; past = before }) where
      both : Claimed places base d lo inside (Term_homes d (Lambda ps e) lo) i0 i3
      both = claimed_low places base d lo (1 + lo) inside (Term_homes d (Lambda ps e) lo) i0 i3 (omega arith) (closed places base d (1 + lo) (from + numbers e) inside (Term_homes d (Lambda ps e) lo) (env_patterns ps (1 + lo)) i0 i2 i3 s
          (opened_then places base d (1 + lo) from (Parameters_claim places ps (1 + lo)) (Term_claim places e from) inside params_homes (Term_homes d e from) (Term_homes d (Lambda ps e) lo) (env_patterns ps (1 + lo)) i0 i1 i2 split homes at_from
          (from + numbers e) (omega arith) (depends_term places e from (from + numbers e) refl) join body) back)

      pub lambda_safe : Safe base i3
      lambda_safe = both.later.safe

      abbrev of_type : List ℕ → Claim
      of_type begins N scope K a = a lo ≡ arrows (types_of a begins) (a from)

      to_type : (begins : List ℕ) → begins ≡ pattern_starts ps (1 + lo) → (a : Sub) → (a lo ≡ arrows (pattern_types a ps (1 + lo)) (a (1 + lo + all_pattern_numbers ps))) ≡ (a lo ≡ arrows (types_of a begins) (a from))
      to_type begins eb a = λ k. a lo ≡ arrows ((sym (types_are a ps (1 + lo)) ∙ ap (types_of a) (sym eb)) k) (a (sym eq k))

      pub lambda_ok : (i4 : Inference) (begins : List ℕ) → begins ≡ pattern_starts ps (1 + lo) → ((places : Kind) (d lo' : ℕ) → Claimed places base d lo' (of_type begins) (λ home. Unit {0}) i3 i4) → Constrained places base d lo (Lambda ps e) i0 i4
      lambda_ok i4 begins eb c = claimed_then places base d lo (from + numbers e) inside (of_type begins) (Term_claim places (Lambda ps e) lo) (Term_homes d (Lambda ps e) lo) (λ home. Unit {0}) (Term_homes d (Lambda ps e) lo) i0 i3 i4 s (omega arith)
          (depends_inside (from + numbers e) (omega arith)) (λ N E K a h. (h.0, subst (λ (X : Type 0). X) (to_type begins eb a) h.1)) (λ home h. (h, tt)) both (λ N E K a p q. (p, subst (λ (X : Type 0). X) (sym (to_type begins eb a)) q)) (c places d (from + numbers e))

      pub lambda_err3 : (i4 : Inference) (begins : List ℕ) → begins ≡ pattern_starts ps (1 + lo) → ((places : Kind) (d lo' : ℕ) → Refused places base d lo' (of_type begins) (λ home. Unit {0}) i3 i4) → Unconstrained places base d lo (Lambda ps e) i0 i4
      lambda_err3 i4 begins eb c = refused_then places base d lo (from + numbers e) inside (of_type begins) (Term_claim places (Lambda ps e) lo) (Term_homes d (Lambda ps e) lo) (λ home. Unit {0}) (Term_homes d (Lambda ps e) lo) i0 i3 i4 s (omega arith)
          (depends_inside (from + numbers e) (omega arith)) (λ N E K a h. (h.0, subst (λ (X : Type 0). X) (to_type begins eb a) h.1)) (λ home h. (h, tt)) both (c places d (from + numbers e))
