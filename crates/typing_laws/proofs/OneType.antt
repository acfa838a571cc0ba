-- A definition that is used at one type alone is used so in each typing, under each numbering: what stands in its type stands
-- in types that have one type in all uses.
use Rattle.std.proofs.Common.{◌≡◌, ℕ, zero, suc, ◌+◌, ◌≤◌, ◌<◌, min, refl, sym, ◌∙◌, ap, subst, arith, true, false, List, [], ◌∷◌, ◌++◌}
use Rattle.std.specs.List.{All}
use mathlib.Core.Logic.{◌⊎◌, inl, inr}
use native.Mathlib.Decide.{ℕ_discrete}
use Rattle.fut_scalar.specs.declared.scalar.IntType.{IntType}
use Rattle.fut_scalar.specs.declared.scalar.IntType.TheVariants as int
use Rattle.fut_scalar.specs.declared.scalar.ScalarType.TheVariants as scalar
use Rattle.fut_flat.specs.Numbers.{pattern_numbers, numbers}
use Rattle.fut_types.specs.declared.Kind.{Kind}
use Rattle.fut_types.specs.declared.Kind.TheVariants as kind
use Rattle.fut_types.specs.declared.Head.TheVariants as head
use Rattle.fut_types.specs.Types.{Ty, Var, Made, Tys, none, more, Sub, Kinds, HasKind, level, applied, all_applied, scalar_ty}
use Rattle.fut_types.proofs.TyLaws.{level_most, rank_made, least_none, applied_agree, Occurs, Occurs_in, same_parts, same_first, same_rest}
use Rattle.fut_typing.specs.Names.{Names, AreNames}
use Rattle.fut_typing.specs.Free.{has_types}
use Rattle.fut_typing.specs.Generalised.{Scheme, Reused}
use Rattle.fut_typing.specs.Program.{Defined, program_numbers, Program_typed}
use Rattle.fut_typing.specs.Answers.{Met, Principal, Typing_is}
use Rattle.fut_typing.specs.Exact.{behind, scheme_behind, Fixed}
use Rattle.fut_typing.proofs.Ranges.{pattern_some, true_or}
use Rattle.fut_typing.proofs.Exact.{definition_exact}
use Rattle.typing_laws.specs.Alike.{Settled}
use Rattle.typing_laws.specs.NumberingClaims.{Used_alone, OneTypeIsOne}
use Rattle.typing_laws.proofs.Moved.{moved}
use Rattle.typing_laws.proofs.Typings.{program_moves}
use Rattle.typing_laws.proofs.Back.{to, from, from_faithful, there_and_back}
use Rattle.typing_laws.proofs.Settled.{settled_is_one}

-- two substitutions that make the same of a type agree on what stands in it
mutual
  unfolding applied

  at_variable : (f g : Sub) (t : Ty) → applied f t ≡ applied g t → (v : ℕ) → Occurs v t → f v ≡ g v
  at_variable f g (Var n) e v o = subst (λ k. f k ≡ g k) (sym o) e
  at_variable f g (Made h ts) e v o = at_variables f g ts (same_parts h h (all_applied f ts) (all_applied g ts) e) v o

  at_variables : (f g : Sub) (ts : Tys) → all_applied f ts ≡ all_applied g ts → (v : ℕ) → Occurs_in v ts → f v ≡ g v
  at_variables f g none e v o = absurd o
  at_variables f g (more t ts) e v (inl o) = at_variable f g t (same_first (applied f t) (applied g t) (all_applied f ts) (all_applied g ts) e) v o
  at_variables f g (more t ts) e v (inr o) = at_variables f g ts (same_rest (applied f t) (applied g t) (all_applied f ts) (all_applied g ts) e) v o

-- ---- what can be decided
abbrev Or_not : Type 0 → Type 0
Or_not P = P ⊎ (P → ⊥)

mutual
  occurs_or : (v : ℕ) (t : Ty) → Or_not (Occurs v t)
  occurs_or v (Var n) = elim (ℕ_discrete v n) as (λ d. Or_not (v ≡ n)) [ yes e ↦ inl e | no ne ↦ inr ne ]
  occurs_or v (Made h ts) = occurs_in_or v ts

  occurs_in_or : (v : ℕ) (ts : Tys) → Or_not (Occurs_in v ts)
  occurs_in_or v none = inr (λ o. o)
  occurs_in_or v (more t ts) = elim (occurs_or v t) as (λ d. Or_not (Occurs v t ⊎ Occurs_in v ts)) [
    | inl o ↦ inl (inl o)
    | inr first ↦ elim (occurs_in_or v ts) as (λ d. Or_not (Occurs v t ⊎ Occurs_in v ts)) [ inl o ↦ inl (inr o) | inr rest ↦ inr (elim [ inl o ↦ first o | inr o ↦ rest o ]) ]
  ]

lt_or : (m n : ℕ) → (m < n) ⊎ (n ≤ m)
lt_or zero zero = inr (omega arith)
lt_or zero (suc n) = inl (omega arith)
lt_or (suc m) zero = inr (omega arith)
lt_or (suc m) (suc n) = elim (lt_or m n) as (λ x. (suc m < suc n) ⊎ (suc n ≤ suc m)) [ inl h ↦ inl (omega (arith, h)) | inr h ↦ inr (omega (arith, h)) ]

true_false : true ≡ false → ⊥
true_false e = cc

fixed_or : (s : Scheme) (n : ℕ) → Or_not (Fixed s n)
fixed_or s n = elim (lt_or n s.first) as (λ d. Or_not (Fixed s n)) [
  | inl below ↦ inl (inl (inl below))
  | inr from_on ↦ elim (lt_or n (s.first + s.many)) as (λ d. Or_not (Fixed s n)) [
    | inr past ↦ inl (inl (inr past))
    | inl within ↦ elim (true_or (s.free n)) as (λ d. Or_not (Fixed s n)) [
      | inr f ↦ inl (inr f)
      | inl f ↦ inr (elim [ inl out ↦ elim out as (λ x. ⊥) [ inl below ↦ omega (arith, below, from_on) | inr past ↦ omega (arith, past, within) ] | inr g ↦ true_false (sym f ∙ g) ])
    ]
  ]
]

-- one of the first numbers, or none
first_or : (P : ℕ → Type 0) → ((n : ℕ) → Or_not (P n)) → (count : ℕ) → ((n : ℕ) × (n < count) × P n) ⊎ ((n : ℕ) → n < count → P n → ⊥)
first_or P dec zero = inr (λ n lt p. absurd (let z : n < 0 = lt in omega arith))
first_or P dec (suc count) = elim (first_or P dec count) as (λ d. ((n : ℕ) × (n < suc count) × P n) ⊎ ((n : ℕ) → n < suc count → P n → ⊥)) [
  | inl f ↦ let lt : f.0 < count = f.1 in inl (f.0, omega (arith, lt), f.2)
  | inr before ↦ elim (dec count) as (λ d. ((n : ℕ) × (n < suc count) × P n) ⊎ ((n : ℕ) → n < suc count → P n → ⊥)) [
    | inl p ↦ inl (count, omega arith, p)
    | inr deny ↦ inr (λ n lt p. elim (ℕ_discrete n count) as (λ d. ⊥) [ yes e ↦ deny (subst P e p) | no ne ↦ before n (omega (arith, lt, ne)) p ])
  ]
]

-- ---- integers in the place of a variable
integer_suits : (K : Kinds) (k : Kind) (t : IntType) → HasKind K k (scalar_ty (scalar.Int t))
integer_suits K k t = let most : level k ≤ 4 = level_most k in subst (λ n. level k ≤ n) (sym (rank_made K (head.Scalar (scalar.Int t)) none ∙ ap (λ n. min 4 n) (least_none K))) (omega (arith, most))

abbrev integer : IntType → Ty
integer i = scalar_ty (scalar.Int i)

two_integers : scalar_ty (scalar.Int int.I32) ≡ scalar_ty (scalar.Int int.U8) → ⊥
two_integers e = cc

abbrev put : ℕ → Ty → Sub → Sub
put v t by w = elim (ℕ_discrete w v) as (λ d. Ty) [ yes e ↦ t | no ne ↦ by w ]

put_here : (v : ℕ) (t : Ty) (by : Sub) → put v t by v ≡ t
put_here v t by = elim (ℕ_discrete v v) as (λ d. (elim d as (λ d. Ty) [ yes e ↦ t | no ne ↦ by v ]) ≡ t) [ yes e ↦ refl | no ne ↦ absurd (ne refl) ]

put_other : (v : ℕ) (t : Ty) (by : Sub) (w : ℕ) → (w ≡ v → ⊥) → put v t by w ≡ by w
put_other v t by w other = elim (ℕ_discrete w v) as (λ d. (elim d as (λ d. Ty) [ yes e ↦ t | no ne ↦ by w ]) ≡ by w) [ yes e ↦ absurd (other e) | no ne ↦ refl ]

put_suits : (K L : Kinds) (v : ℕ) (t : Ty) (by : Sub) → ((k : Kind) → HasKind L k t) → ((w : ℕ) → HasKind L (K w) (by w)) → (w : ℕ) → HasKind L (K w) (put v t by w)
put_suits K L v t by all suits w = elim (ℕ_discrete w v) as (λ d. HasKind L (K w) (elim d as (λ d. Ty) [ yes e ↦ t | no ne ↦ by w ])) [ yes e ↦ all (K w) | no ne ↦ suits w ]

-- ---- one numbering
behind_in : (before after : List Defined) (d : Defined) (lo : ℕ) → behind before lo < lo + program_numbers (before ++ d ∷ after)
behind_in [] after d lo = let z : 0 < pattern_numbers d.name = pattern_some d.name in omega (arith, z)
behind_in (e ∷ before) after d lo = let z : behind before (lo + (pattern_numbers e.name + numbers e.value)) < lo + (pattern_numbers e.name + numbers e.value) + program_numbers (before ++ d ∷ after) = behind_in before after d (lo + (pattern_numbers e.name + numbers e.value)) in omega (arith, z)

module _ (M : Names) (before after : List Defined) (d : Defined) (unwritten : has_types d.parameters ≡ false) where
  abbrev ds : List Defined
  ds = before ++ d ∷ after

  abbrev s : Scheme
  s = scheme_behind M kind.Data before d

  abbrev first : ℕ
  first = behind before 0

  first_in : first < program_numbers ds
  first_in = let z : behind before 0 < 0 + program_numbers (before ++ d ∷ after) = behind_in before after d 0 in omega (arith, z)

  module _ (p : Principal M.shapes (program_numbers ds) (Program_typed M kind.Data ds)) (K : Kinds) (a : Sub) (typed : Program_typed M kind.Data ds K a) where
    -- an instance with the types at hand for all that is fixed is a use
    instance_used : (by : Sub) → ((v : ℕ) → HasKind K (p.kinds v) (by v)) → All (Met M.shapes by) p.opens → ((n : ℕ) → n < program_numbers ds → Fixed s n → applied by (p.types n) ≡ a n) → Reused kind.Data s first K a (applied by (p.types first))
    instance_used by suits met fixed = (definition_exact M kind.Data before after d unwritten p K a typed (applied by (p.types first))).1 (record { by = by; kinds = suits; met = met; fixed = fixed; is = refl })

    own_use : Reused kind.Data s first K a (a first)
    own_use = let w = p.instance K a typed in subst (Reused kind.Data s first K a) (sym (w.3 first first_in)) (instance_used w.0 w.1 w.2 (λ n lt f. sym (w.3 n lt)))

    abbrev own : (by : Sub) × ((v : ℕ) → HasKind K (p.kinds v) (by v)) × All (Met M.shapes by) p.opens × ((n : ℕ) → n < program_numbers ds → a n ≡ applied by (p.types n))
    own = p.instance K a typed

    module _ (closed : p.opens ≡ []) (t : Ty) (alone : Used_alone M before d K a t) where
      module _ (v : ℕ) (absent : (n : ℕ) → n < program_numbers ds → Fixed s n × Occurs v (p.types n) → ⊥) where
        -- another type in the place of a variable that stands in nothing that is fixed
        put_is : (i : IntType) → applied (put v (integer i) own.0) (p.types first) ≡ t
        put_is i = alone.1 (applied (put v (integer i) own.0) (p.types first)) (instance_used (put v (integer i) own.0) (put_suits p.kinds K v (integer i) own.0 (λ k. integer_suits K k i) own.1)
            (subst (All (Met M.shapes (put v (integer i) own.0))) (sym closed) (λ k y lt. absurd (omega arith)))
            (λ n lt f. applied_agree (put v (integer i) own.0) own.0 (p.types n) (λ x at. put_other v (integer i) own.0 x (λ e. absent n lt (f, subst (λ y. Occurs y (p.types n)) e at))) ∙ sym (own.3 n lt)))

        -- a variable of its type stands in a type that is fixed
        variable_fixed : Occurs v (p.types first) → ⊥
        variable_fixed o = two_integers (sym (put_here v (integer int.I32) own.0) ∙ at_variable (put v (integer int.I32) own.0) (put v (integer int.U8) own.0) (p.types first) (put_is int.I32 ∙ sym (put_is int.U8)) v o ∙ put_here v (integer int.U8) own.0)

      -- what agrees on all that is fixed agrees on its type
      fixed_decides : (f g : Sub) → ((n : ℕ) → n < program_numbers ds → Fixed s n → applied f (p.types n) ≡ applied g (p.types n)) → applied f (p.types first) ≡ applied g (p.types first)
      fixed_decides f g same = applied_agree f g (p.types first) (λ v o. elim (first_or (λ n. Fixed s n × Occurs v (p.types n)) (both v) (program_numbers ds)) as (λ x. f v ≡ g v) [
        | inl found ↦ at_variable f g (p.types found.0) (same found.0 found.1 found.2.0) v found.2.1
        | inr absent ↦ absurd (variable_fixed v absent o)
      ])
        where
          both : (v n : ℕ) → Or_not (Fixed s n × Occurs v (p.types n))
          both v n = elim (fixed_or s n) as (λ x. Or_not (Fixed s n × Occurs v (p.types n))) [
            | inl f ↦ elim (occurs_or v (p.types n)) as (λ x. Or_not (Fixed s n × Occurs v (p.types n))) [ inl o ↦ inl (f, o) | inr deny ↦ inr (λ h. deny h.1) ]
            | inr deny ↦ inr (λ h. deny h.0)
          ]

-- ---- two numberings
module _ (M N : Names) (m : AreNames M) (n : AreNames N) (before after : List Defined) (d : Defined) (unwritten : has_types d.parameters ≡ false) (types others : Sub)
    (t : Typing_is M (before ++ d ∷ after) types) (o : Typing_is N (before ++ d ∷ after) others) (K L : Kinds) (typed : Program_typed M kind.Data (before ++ d ∷ after) K types) (also : Program_typed N kind.Data (before ++ d ∷ after) L others)
    (u : Ty) (settled : Settled u) (alone : Used_alone M before d K types u) where
  abbrev back : Ty → Ty
  back x = moved (from M N m n 0) x

  abbrev forth : Ty → Ty
  forth x = moved (to M N m n 0) x

  here : types (behind before 0) ≡ u
  here = alone.1 (types (behind before 0)) (own_use M before after d unwritten t.principal K types typed)

  there : others (behind before 0) ≡ u
  there = settled_is_one M N m n (before ++ d ∷ after) types others t o (behind before 0) (first_in M before after d unwritten) (subst Settled (sym here) settled) ∙ here

  -- a use under the other numbering is one under this
  only : (x : Ty) → Reused kind.Data (scheme_behind N kind.Data before d) (behind before 0) L others x → x ≡ u
  only x r =
      let i = (definition_exact N kind.Data before after d unwritten o.principal L others also x).0 r in
      let a : Sub = λ k. applied i.by (o.principal.types k) in
      let one = t.principal.instance L (λ k. back (a k)) (program_moves N M (from M N m n 0) (from_faithful M N m n 0) kind.Data (before ++ d ∷ after) L a (o.principal.typing L i.by i.kinds i.met)) in
      let two = t.principal.instance L (λ k. back (others k)) (program_moves N M (from M N m n 0) (from_faithful M N m n 0) kind.Data (before ++ d ∷ after) L others also) in
      let first = behind before 0 in
      let lt = first_in M before after d unwritten in
      let same : back x ≡ back (others first) = ap back i.is ∙ one.3 first lt
      ∙ fixed_decides M before after d unwritten t.principal K types typed t.closed u alone one.0 two.0 (λ k lk f. sym (one.3 k lk) ∙ ap back (i.fixed k lk f) ∙ two.3 k lk)
      ∙ sym (two.3 first lt) in
      sym (there_and_back M N m n 0 x) ∙ ap forth same ∙ there_and_back M N m n 0 (others first) ∙ there

  used_alone : Used_alone N before d L others u
  used_alone = (subst (Reused kind.Data (scheme_behind N kind.Data before d) (behind before 0) L others) there (own_use N before after d unwritten o.principal L others also), only)

pub one_type_is_one : OneTypeIsOne
one_type_is_one M N m n before after d unwritten types others t o K L typed also u settled alone = used_alone M N m n before after d unwritten types others t o K L typed also u settled alone
