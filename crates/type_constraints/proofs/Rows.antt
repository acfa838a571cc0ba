-- Expressions in a row, and an operation on them.
use Rattle.std.proofs.Common.{◌≡◌, ℕ, zero, suc, ◌+◌, ◌*◌, ◌≤◌, ◌<◌, List, [], ◌∷◌, ◌++◌, length, map, take, slice_index_or, refl, sym, ◌∙◌, ap, subst, arith, append_assoc}
use Rattle.std.proofs.Math.Seq.{take-suc}
use Rattle.fut_scalar.specs.declared.place.BindId.{BindId}
use Rattle.fut_scalar.specs.declared.place.Place.{Place}
use Rattle.fut_types.specs.declared.Kind.{Kind}
use Rattle.fut_types.specs.Types.{Sub, Kinds, more}
use Rattle.fut_flat.specs.declared.exp.Exp.{Exp}
use Rattle.fut_flat.specs.declared.prim.Ref.{Ref}
use Rattle.fut_flat.specs.Terms.{Operation, Strict, Terms, no_term, term_and}
use Rattle.fut_flat.specs.Numbers.{own_numbers, numbers, all_numbers}
use Rattle.fut_flat.specs.Erased.{FlatTerm, term_of, terms}
use Rattle.fut_typing.specs.Names.{Names}
use Rattle.fut_typing.specs.Scopes.{Scope}
use Rattle.fut_typing.specs.Rules.{Rule}
use Rattle.fut_typing.specs.Homes.{Env, Homed, All_homed, scope_of}
use Rattle.fut_typing.specs.Typing.{operand, term_types, Typed, All_typed}
use Rattle.fut_typing.proofs.Ranges.{numbers_some}
use Rattle.type_graph.specs.Graph.{Each}
use Rattle.type_graph.specs.Claims.{types_of}
use Rattle.type_scopes.specs.declared.Inference.{Inference}
use Rattle.type_scopes.specs.Scopes.{Safe, Claimed, Refused, Depends}
use Rattle.type_scopes.proofs.Claiming.{depends_wider, claimed_low, refused_low, claimed_none, claimed_then, refused_as, refused_then}
use Rattle.type_constraints.specs.Parts.{Term_claim, Term_homes, Constrained, Unconstrained, Terms_claim, Terms_homes, Rule_claim, Rule_homes, starts}
use Rattle.type_constraints.proofs.Depending.{depends_terms}

no_numbers : all_numbers (terms []) ≡ 0
unfolding terms
no_numbers = refl

-- a row, split at one of its expressions
pub numbers_split : (xs : List FlatTerm) (t : FlatTerm) (ys : List FlatTerm) → all_numbers (terms (xs ++ t ∷ ys)) ≡ all_numbers (terms xs) + (numbers t + all_numbers (terms ys))
unfolding terms
numbers_split [] t ys = omega arith
numbers_split (x ∷ xs) t ys = let e = numbers_split xs t ys in omega (arith, e)

starts_more : (xs : List FlatTerm) (t : FlatTerm) (lo : ℕ) → starts (terms (xs ++ t ∷ [])) lo ≡ starts (terms xs) lo ++ (lo + all_numbers (terms xs)) ∷ []
unfolding terms starts
starts_more [] t lo = λ k. (let e : lo ≡ lo + 0 = omega arith in e k) ∷ []
starts_more (x ∷ xs) t lo = ap (λ l. lo ∷ l) (starts_more xs t (lo + numbers x) ∙ (λ k. starts (terms xs) (lo + numbers x) ++ (let e : lo + numbers x + all_numbers (terms xs) ≡ lo + (numbers x + all_numbers (terms xs)) = omega arith in e k) ∷ []))

module _ (N : Names) (places : Kind) (scope : Scope) (K : Kinds) (a : Sub) where
  typed_split : (xs : List FlatTerm) (t : FlatTerm) (ys : List FlatTerm) (lo : ℕ) → All_typed N places (terms (xs ++ t ∷ ys)) lo scope K a → All_typed N places (terms xs) lo scope K a × Typed N places t (lo + all_numbers (terms xs)) scope K a
  unfolding terms
  typed_split [] t ys lo h = (tt, subst (λ m. Typed N places t m scope K a) (let e : lo ≡ lo + 0 = omega arith in e) h.0)
  typed_split (x ∷ xs) t ys lo h = let w = typed_split xs t ys (lo + numbers x) h.1 in ((h.0, w.0), subst (λ m. Typed N places t m scope K a) (let e : lo + numbers x + all_numbers (terms xs) ≡ lo + (numbers x + all_numbers (terms xs)) = omega arith in e) w.1)

  typed_join : (xs : List FlatTerm) (t : FlatTerm) (lo : ℕ) → All_typed N places (terms xs) lo scope K a → Typed N places t (lo + all_numbers (terms xs)) scope K a → All_typed N places (terms (xs ++ t ∷ [])) lo scope K a
  unfolding terms
  typed_join [] t lo h g = (subst (λ m. Typed N places t m scope K a) (let e : lo + 0 ≡ lo = omega arith in e) g, tt)
  typed_join (x ∷ xs) t lo h g = (h.0, typed_join xs t (lo + numbers x) h.1 (subst (λ m. Typed N places t m scope K a) (let e : lo + (numbers x + all_numbers (terms xs)) ≡ lo + numbers x + all_numbers (terms xs) = omega arith in e) g))

homed_split : (home : ℕ → ℕ) (d w : ℕ) (xs : List FlatTerm) (t : FlatTerm) (ys : List FlatTerm) (lo : ℕ) → All_homed home d w (terms (xs ++ t ∷ ys)) lo → All_homed home d w (terms xs) lo × Homed home d w t (lo + all_numbers (terms xs))
unfolding terms
homed_split home d w [] t ys lo h = (tt, subst (λ m. Homed home d w t m) (let e : lo ≡ lo + 0 = omega arith in e) h.0)
homed_split home d w (x ∷ xs) t ys lo h = let g = homed_split home d w xs t ys (lo + numbers x) h.1 in ((h.0, g.0), subst (λ m. Homed home d w t m) (let e : lo + numbers x + all_numbers (terms xs) ≡ lo + (numbers x + all_numbers (terms xs)) = omega arith in e) g.1)

-- how far a row is gone over
pub record Gone_over (places : Kind) (base d lo at : ℕ) (es : List Exp) (begins begins' : List ℕ) (i i' : Inference) : Type 0 where
  pub next : at ≡ lo + all_numbers (terms (map term_of es))
  pub noted : begins' ≡ begins ++ starts (terms (map term_of es)) lo
  pub claimed : Claimed places base d lo (Terms_claim places (terms (map term_of es)) lo) (Terms_homes d (terms (map term_of es)) lo) i i'

append_none : (xs : List ℕ) → xs ++ [] ≡ xs
append_none [] = refl
append_none (x ∷ xs) = ap (λ l. x ∷ l) (append_none xs)

map_both : (xs ys : List Exp) → map term_of (xs ++ ys) ≡ map term_of xs ++ map term_of ys
map_both [] ys = refl
map_both (x ∷ xs) ys = ap (λ l. term_of x ∷ l) (map_both xs ys)

-- the expression at a place, and those before and behind it
pub at_place : (es : List Exp) (n : ℕ) (e : Exp) → n < length es → (rest : List Exp) × (es ≡ take n es ++ slice_index_or es n e ∷ rest)
at_place [] n e lt = absurd (omega arith)
at_place (x ∷ es) zero e lt = (es, refl)
at_place (x ∷ es) (suc n) e lt = let w = at_place es n e (omega arith) in (w.0, ap (λ l. x ∷ l) w.1)

pub take_more : (es : List Exp) (n : ℕ) (e : Exp) → n < length es → take n es ++ slice_index_or es n e ∷ [] ≡ take (n + 1) es
take_more es n e lt = let z : suc n ≡ n + 1 = omega arith in sym (take-suc es n e lt) ∙ ap (λ m. take m es) z

-- its numbers are some of the row's
pub numbers_in : (es : List Exp) (n : ℕ) (e : Exp) → n < length es → all_numbers (terms (map term_of (take n es))) + numbers (term_of (slice_index_or es n e)) ≤ all_numbers (terms (map term_of es))
numbers_in es n e lt = let w = at_place es n e lt in let x : Exp = slice_index_or es n e in
    let q : all_numbers (terms (map term_of es)) ≡ all_numbers (terms (map term_of (take n es))) + (numbers (term_of x) + all_numbers (terms (map term_of w.0))) = ap (λ l. all_numbers (terms (map term_of l))) w.1 ∙ ap (λ l. all_numbers (terms l)) (map_both (take n es) (x ∷ w.0)) ∙ numbers_split (map term_of (take n es)) (term_of x) (map term_of w.0) in
    omega (arith, q)

pub falls_in : (es : List Exp) (n : ℕ) (e : Exp) (t : ℕ) → n < length es → t ≡ 3 * all_numbers (terms (map term_of es)) + 2 → 3 * numbers (term_of (slice_index_or es n e)) + 1 < t
falls_in es n e t lt is = let z = numbers_in es n e lt in omega (arith, z)

pub room_in : (es : List Exp) (n : ℕ) (e : Exp) (lo at base : ℕ) → n < length es → at ≡ lo + all_numbers (terms (map term_of (take n es))) → lo + all_numbers (terms (map term_of es)) ≤ base → at + numbers (term_of (slice_index_or es n e)) ≤ base
room_in es n e lo at base lt is h = let z = numbers_in es n e lt in omega (arith, z)

module _ (places : Kind) (base d lo : ℕ) where
  pub gone_none : (begins : List ℕ) (i : Inference) → Safe base i → Gone_over places base d lo lo [] begins begins i i
  unfolding terms starts
  gone_none begins i s = record { next = omega arith; noted = sym (append_none begins); claimed = claimed_none places base d lo (Terms_claim places (terms []) lo) (Terms_homes d (terms []) lo) i s (λ N E K a. tt) }

  module _ (at : ℕ) (es : List Exp) (e : Exp) (begins b1 : List ℕ) (i0 i1 i2 : Inference) (s : Safe base i0) (g : Gone_over places base d lo at es begins b1 i0 i1) where
    rows : List FlatTerm
    rows = map term_of es

    depends : Depends places (Terms_claim places (terms (map term_of es)) lo) lo at
    depends = depends_terms places (terms (map term_of es)) lo at g.next

    pub gone_more : (next : ℕ) (b2 : List ℕ) → b2 ≡ b1 ++ at ∷ [] → next ≡ at + numbers (term_of e) → Constrained places base d at (term_of e) i1 i2 → Gone_over places base d lo next (es ++ e ∷ []) begins b2 i0 i2
    gone_more next b2 eb en c = let m : map term_of (es ++ e ∷ []) ≡ map term_of es ++ term_of e ∷ [] = map_both es (e ∷ []) in record {
      next = let q : all_numbers (terms (map term_of (es ++ e ∷ []))) ≡ all_numbers (terms (map term_of es)) + (numbers (term_of e) + all_numbers (terms [])) = ap (λ l. all_numbers (terms l)) m ∙ numbers_split (map term_of es) (term_of e) [] in let z : all_numbers (terms []) ≡ 0 = no_numbers in let p : at ≡ lo + all_numbers (terms (map term_of es)) = g.next in omega (arith, q, p, en, z);
      noted = eb ∙ ap (λ l. l ++ at ∷ []) g.noted ∙ append_assoc begins (starts (terms (map term_of es)) lo) (at ∷ []) ∙ ap (λ l. begins ++ l) ((λ k. starts (terms (map term_of es)) lo ++ g.next k ∷ []) ∙ sym (starts_more (map term_of es) (term_of e) lo) ∙ ap (λ l. starts (terms l) lo) (sym m));
      claimed = subst (λ l. Claimed places base d lo (Terms_claim places (terms l) lo) (Terms_homes d (terms l) lo) i0 i2) (sym m)
          (claimed_then places base d lo at (Terms_claim places (terms (map term_of es)) lo) (Term_claim places (term_of e) at) (Terms_claim places (terms (map term_of es ++ term_of e ∷ [])) lo)
          (Terms_homes d (terms (map term_of es)) lo) (Term_homes d (term_of e) at) (Terms_homes d (terms (map term_of es ++ term_of e ∷ [])) lo) i0 i1 i2 s (let p : at ≡ lo + all_numbers (terms (map term_of es)) = g.next in omega arith) depends
          (λ N E K a h. let w = typed_split N places (scope_of N places E) K a (map term_of es) (term_of e) [] lo h in (w.0, subst (λ m. Typed N places (term_of e) m (scope_of N places E) K a) (sym g.next) w.1))
          (λ home h. let w = homed_split home d h.0.0 (map term_of es) (term_of e) [] lo h.1 in ((h.0, w.0), (h.0, subst (λ m. Homed home d h.0.0 (term_of e) m) (sym g.next) w.1))) g.claimed
          (λ N E K a p q. typed_join N places (scope_of N places E) K a (map term_of es) (term_of e) lo p (subst (λ m. Typed N places (term_of e) m (scope_of N places E) K a) g.next q)) c);
    }

    pub gone_refused : (all rest : List Exp) → all ≡ es ++ e ∷ rest → Unconstrained places base d at (term_of e) i1 i2 → Refused places base d lo (Terms_claim places (terms (map term_of all)) lo) (Terms_homes d (terms (map term_of all)) lo) i0 i2
    gone_refused all rest ea c = let m : map term_of all ≡ map term_of es ++ term_of e ∷ map term_of rest = ap (λ l. map term_of l) ea ∙ map_both es (e ∷ rest) in
        subst (λ l. Refused places base d lo (Terms_claim places (terms l) lo) (Terms_homes d (terms l) lo) i0 i2) (sym m)
        (refused_then places base d lo at (Terms_claim places (terms (map term_of es)) lo) (Term_claim places (term_of e) at) (Terms_claim places (terms (map term_of es ++ term_of e ∷ map term_of rest)) lo)
        (Terms_homes d (terms (map term_of es)) lo) (Term_homes d (term_of e) at) (Terms_homes d (terms (map term_of es ++ term_of e ∷ map term_of rest)) lo) i0 i1 i2 s (let p : at ≡ lo + all_numbers (terms (map term_of es)) = g.next in omega arith) depends
        (λ N E K a h. let w = typed_split N places (scope_of N places E) K a (map term_of es) (term_of e) (map term_of rest) lo h in (w.0, subst (λ m. Typed N places (term_of e) m (scope_of N places E) K a) (sym g.next) w.1))
        (λ home h. let w = homed_split home d h.0.0 (map term_of es) (term_of e) (map term_of rest) lo h.1 in ((h.0, w.0), (h.0, subst (λ m. Homed home d h.0.0 (term_of e) m) (sym g.next) w.1))) g.claimed c)

-- the types of a row are those of its numbers
types_are : (a : Sub) (ts : Terms Ref BindId) (lo : ℕ) → types_of a (starts ts lo) ≡ term_types a ts lo
unfolding types_of starts
types_are a no_term lo = refl
types_are a (term_and t ts) lo = ap (λ us. more (a lo) us) (types_are a ts (lo + numbers t))

pub starts_below : (base : ℕ) (ts : Terms Ref BindId) (lo : ℕ) → lo + all_numbers ts ≤ base → Each (λ n. n < base) (starts ts lo)
unfolding starts
starts_below base no_term lo h = tt
starts_below base (term_and t ts) lo h = let z : 0 < numbers t = numbers_some t in (omega arith, starts_below base ts (lo + numbers t) (omega arith))

-- an operation on a row
module _ (places : Kind) (base d lo from : ℕ) (o : Operation Ref BindId) (mark : Place) (ts : Terms Ref BindId) (i0 i1 i2 : Inference) (s : Safe base i0) (eq : from ≡ lo + own_numbers o) (begins : List ℕ) (eb : begins ≡ starts ts from) where
  split : (N : Names) (E : Env) (K : Kinds) (a : Sub) → Typed N places (Strict o mark ts) lo (scope_of N places E) K a → Terms_claim places ts from N (scope_of N places E) K a × Rule_claim places o lo begins N (scope_of N places E) K a
  split N E K a h = (
    subst (λ m. All_typed N places ts m (scope_of N places E) K a) (sym eq) h.0,
    (subst (Rule N places K o (a lo) (a (operand o lo))) (ap (term_types a ts) (sym eq) ∙ sym (types_are a ts from) ∙ ap (types_of a) (sym eb)) h.1, h.2),
  )

  homes : (home : ℕ → ℕ) → Term_homes d (Strict o mark ts) lo home → Terms_homes d ts from home × Rule_homes d o lo home
  homes home h = ((h.0, subst (λ m. All_homed home d h.0.0 ts m) (sym eq) h.1.1), (h.0, h.1.0))

  below : Claimed places base d from (Terms_claim places ts from) (Terms_homes d ts from) i0 i1 → Claimed places base d lo (Terms_claim places ts from) (Terms_homes d ts from) i0 i1
  below c = claimed_low places base d lo from (Terms_claim places ts from) (Terms_homes d ts from) i0 i1 (omega arith) c

  depends_on : Depends places (Terms_claim places ts from) lo (from + all_numbers ts)
  depends_on = depends_wider places (Terms_claim places ts from) from (from + all_numbers ts) lo (from + all_numbers ts) (omega arith) (omega arith) (depends_terms places ts from (from + all_numbers ts) refl)

  pub strict_ok : Claimed places base d from (Terms_claim places ts from) (Terms_homes d ts from) i0 i1 → Claimed places base d (from + all_numbers ts) (Rule_claim places o lo begins) (Rule_homes d o lo) i1 i2 → Constrained places base d lo (Strict o mark ts) i0 i2
  strict_ok c r = claimed_then places base d lo (from + all_numbers ts) (Terms_claim places ts from) (Rule_claim places o lo begins) (Term_claim places (Strict o mark ts) lo) (Terms_homes d ts from) (Rule_homes d o lo) (Term_homes d (Strict o mark ts) lo) i0 i1 i2 s (omega arith)
      depends_on split homes (below c) (λ N E K a p q. (subst (λ m. All_typed N places ts m (scope_of N places E) K a) eq p, subst (Rule N places K o (a lo) (a (operand o lo))) (ap (types_of a) eb ∙ types_are a ts from ∙ ap (term_types a ts) eq) q.0, q.1)) r

  pub strict_err2 : Claimed places base d from (Terms_claim places ts from) (Terms_homes d ts from) i0 i1 → Refused places base d (from + all_numbers ts) (Rule_claim places o lo begins) (Rule_homes d o lo) i1 i2 → Unconstrained places base d lo (Strict o mark ts) i0 i2
  strict_err2 c r = refused_then places base d lo (from + all_numbers ts) (Terms_claim places ts from) (Rule_claim places o lo begins) (Term_claim places (Strict o mark ts) lo) (Terms_homes d ts from) (Rule_homes d o lo) (Term_homes d (Strict o mark ts) lo) i0 i1 i2 s (omega arith)
      depends_on split homes (below c) r

pub refused_strict : (places : Kind) (base d lo from : ℕ) (o : Operation Ref BindId) (mark : Place) (ts : Terms Ref BindId) (i0 i1 : Inference) → Safe base i0 → from ≡ lo + own_numbers o → Refused places base d from (Terms_claim places ts from) (Terms_homes d ts from) i0 i1 → Unconstrained places base d lo (Strict o mark ts) i0 i1
refused_strict places base d lo from o mark ts i0 i1 s eq c = refused_as places base d lo (Terms_claim places ts from) (Term_claim places (Strict o mark ts) lo) (Terms_homes d ts from) (Term_homes d (Strict o mark ts) lo) i0 i1
    (λ N E K a h. subst (λ m. All_typed N places ts m (scope_of N places E) K a) (sym eq) h.0) (λ home h. (h.0, subst (λ m. All_homed home d h.0.0 ts m) (sym eq) h.1.1)) (refused_low places base d lo from (Terms_claim places ts from) (Terms_homes d ts from) i0 i1 (omega arith) c)
