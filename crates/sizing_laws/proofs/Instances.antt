-- Two principal typings are instances of one another, so one is the other with other names for its variables.
use Rattle.std.proofs.Common.{◌≡◌, ℕ, zero, suc, ◌≤◌, ◌<◌, List, [], ◌∷◌, ◌++◌, refl, sym, ◌∙◌, ap, subst, arith}
use Rattle.std.specs.List.{All}
use mathlib.Core.Logic.{◌⊎◌, inl, inr}
use native.Mathlib.Decide.{ℕ_discrete}
use Rattle.fut_types.specs.declared.Kind.{Kind}
use Rattle.fut_types.specs.declared.Kind.TheVariants as kind
use Rattle.fut_types.specs.Types.{Ty, Var, Made, Tys, none, more, Sub, HasKind, level, rank, applied, all_applied}
use Rattle.fut_types.proofs.TyLaws.{rank_var, same_parts, same_first, same_rest}
use Rattle.fut_typing.specs.Names.{Names}
use Rattle.fut_typing.specs.Program.{Defined, program_numbers, Program_typed}
use Rattle.fut_typing.specs.Answers.{Met, Principal, Stands, Stands_in, default_at, default, Typing_is}
use Rattle.fut_typing.proofs.Members.{In}
use Rattle.typing_laws.proofs.Typings.{self_applied, variable_kind}
use Rattle.sizing_laws.specs.Renaming.{Renaming, Renamed_typing, TypingsAreOne}
use Rattle.sizing_laws.proofs.Renaming.{renaming_of, named_so, in_first, in_second, in_either}

-- ---- the variables that stand in a type

abbrev mutual
  variables : Ty → List ℕ
  variables (Var v) = v ∷ []
  variables (Made h ts) = all_variables ts

  all_variables : Tys → List ℕ
  all_variables none = []
  all_variables (more t ts) = variables t ++ all_variables ts

mutual
  listed : (v : ℕ) (t : Ty) → Stands v t → In v (variables t)
  listed v (Var w) e = inl e
  listed v (Made h ts) s = all_listed v ts s

  all_listed : (v : ℕ) (ts : Tys) → Stands_in v ts → In v (all_variables ts)
  all_listed v none s = absurd s
  all_listed v (more t ts) (inl s) = in_first v (variables t) (all_variables ts) (listed v t s)
  all_listed v (more t ts) (inr s) = in_second v (variables t) (all_variables ts) (all_listed v ts s)

mutual
  stands_so : (v : ℕ) (t : Ty) → In v (variables t) → Stands v t
  stands_so v (Var w) (inl e) = e
  stands_so v (Var w) (inr i) = absurd i
  stands_so v (Made h ts) i = all_stand_so v ts i

  all_stand_so : (v : ℕ) (ts : Tys) → In v (all_variables ts) → Stands_in v ts
  all_stand_so v none i = absurd i
  all_stand_so v (more t ts) i = elim (in_either v (variables t) (all_variables ts) i) as (λ d. Stands v t ⊎ Stands_in v ts) [ inl j ↦ inl (stands_so v t j) | inr j ↦ inr (all_stand_so v ts j) ]

-- those of the first numbers
abbrev first_variables : Sub → ℕ → List ℕ
first_variables a zero = []
first_variables a (suc count) = variables (a count) ++ first_variables a count

listed_first : (a : Sub) (count n v : ℕ) → n < count → Stands v (a n) → In v (first_variables a count)
listed_first a zero n v lt s = absurd (let z : n < 0 = lt in omega arith)
listed_first a (suc count) n v lt s = elim (ℕ_discrete n count) as (λ d. In v (variables (a count) ++ first_variables a count)) [
  | yes e ↦ in_first v (variables (a count)) (first_variables a count) (listed v (a count) (subst (λ k. Stands v (a k)) e s))
  | no ne ↦ in_second v (variables (a count)) (first_variables a count) (listed_first a count n v (omega (arith, lt, ne)) s)
]

stands_first : (a : Sub) (count v : ℕ) → In v (first_variables a count) → (n : ℕ) × (n < count) × Stands v (a n)
stands_first a zero v i = absurd i
stands_first a (suc count) v i = elim (in_either v (variables (a count)) (first_variables a count) i) as (λ d. (n : ℕ) × (n < suc count) × Stands v (a n)) [
  | inl j ↦ (count, omega arith, stands_so v (a count) j)
  | inr j ↦ let w = stands_first a count v j in let lt : w.0 < count = w.1 in (w.0, omega (arith, lt), w.2)
]

-- ---- substitutions

mutual
  unfolding applied

  alike_applied : (f g : Sub) (t : Ty) → ((v : ℕ) → Stands v t → f v ≡ g v) → applied f t ≡ applied g t
  alike_applied f g (Var v) e = e v refl
  alike_applied f g (Made h ts) e = ap (Made h) (all_alike_applied f g ts e)

  all_alike_applied : (f g : Sub) (ts : Tys) → ((v : ℕ) → Stands_in v ts → f v ≡ g v) → all_applied f ts ≡ all_applied g ts
  all_alike_applied f g none e = refl
  all_alike_applied f g (more t ts) e = λ i. more (alike_applied f g t (λ v s. e v (inl s)) i) (all_alike_applied f g ts (λ v s. e v (inr s)) i)

mutual
  unfolding applied

  agree_where : (f g : Sub) (t : Ty) → applied f t ≡ applied g t → (v : ℕ) → Stands v t → f v ≡ g v
  agree_where f g (Var w) e v s = ap f s ∙ e ∙ ap g (sym s)
  agree_where f g (Made h ts) e v s = all_agree_where f g ts (same_parts h h (all_applied f ts) (all_applied g ts) e) v s

  all_agree_where : (f g : Sub) (ts : Tys) → all_applied f ts ≡ all_applied g ts → (v : ℕ) → Stands_in v ts → f v ≡ g v
  all_agree_where f g none e v s = absurd s
  all_agree_where f g (more t ts) e v (inl s) = agree_where f g t (same_first (applied f t) (applied g t) (all_applied f ts) (all_applied g ts) e) v s
  all_agree_where f g (more t ts) e v (inr s) = all_agree_where f g ts (same_rest (applied f t) (applied g t) (all_applied f ts) (all_applied g ts) e) v s

mutual
  unfolding applied

  pub one_behind : (f g : Sub) (t : Ty) → applied f (applied g t) ≡ applied (λ v. applied f (g v)) t
  one_behind f g (Var v) = refl
  one_behind f g (Made h ts) = ap (Made h) (all_one_behind f g ts)

  all_one_behind : (f g : Sub) (ts : Tys) → all_applied f (all_applied g ts) ≡ all_applied (λ v. applied f (g v)) ts
  all_one_behind f g none = refl
  all_one_behind f g (more t ts) = λ i. more (one_behind f g t i) (all_one_behind f g ts i)

-- ---- a type that becomes a variable is one

abbrev variable_of : Ty → ℕ
variable_of (Var w) = w
variable_of (Made h ts) = 0

was_variable : (f : Sub) (t : Ty) (v : ℕ) → applied f t ≡ Var v → t ≡ Var (variable_of t)
unfolding applied
was_variable f (Var w) v e = refl
was_variable f (Made h ts) v e = absurd cc

variable_same : (v w : ℕ) → Var v ≡ Var w → v ≡ w
variable_same v w e = ap variable_of e

-- kinds of one level are one
kind_at : ℕ → Kind
kind_at zero = kind.Any
kind_at (suc zero) = kind.Data
kind_at (suc (suc zero)) = kind.Equal
kind_at (suc (suc (suc zero))) = kind.Scalar
kind_at (suc (suc (suc (suc n)))) = kind.Integer

level_kind : (k : Kind) → kind_at (level k) ≡ k
unfolding kind_at
level_kind kind.Any = refl
level_kind kind.Data = refl
level_kind kind.Equal = refl
level_kind kind.Scalar = refl
level_kind kind.Integer = refl

kinds_same : (k l : Kind) → level k ≡ level l → k ≡ l
kinds_same k l e = sym (level_kind k) ∙ ap kind_at e ∙ level_kind l

-- ---- two typings

module _ (N : Names) (ds : List Defined) where
  abbrev count : ℕ
  count = program_numbers ds

  abbrev Most_general : Type 0
  Most_general = Principal N.shapes count (Program_typed N kind.Data ds)

  -- the one is an instance of the other
  by_other : (p q : Most_general) → q.opens ≡ [] → (by : Sub) × ((v : ℕ) → HasKind q.kinds (p.kinds v) (by v)) × ((n : ℕ) → n < count → q.types n ≡ applied by (p.types n))
  by_other p q closed =
      let w = p.instance q.kinds (λ n. applied (λ v. Var v) (q.types n)) (q.typing q.kinds (λ v. Var v) (variable_kind q.kinds) (subst (All (Met N.shapes (λ v. Var v))) (sym closed) (λ i d lt. absurd (omega arith)))) in
      (w.0, w.1, λ n lt. sym (self_applied (q.types n)) ∙ w.3 n lt)

  module _ (types others : Sub) (t : Typing_is N ds types) (o : Typing_is N ds others) where
    abbrev p : Most_general
    p = t.principal

    abbrev q : Most_general
    q = o.principal

    go : (by : Sub) × ((v : ℕ) → HasKind q.kinds (p.kinds v) (by v)) × ((n : ℕ) → n < count → q.types n ≡ applied by (p.types n))
    go = by_other p q o.closed

    come : (by : Sub) × ((v : ℕ) → HasKind p.kinds (q.kinds v) (by v)) × ((n : ℕ) → n < count → p.types n ≡ applied by (q.types n))
    come = by_other q p t.closed

    abbrev name : ℕ → ℕ
    name v = variable_of (go.0 v)

    module _ (n v : ℕ) (lt : n < count) (stands : Stands v (p.types n)) where
      round : applied come.0 (go.0 v) ≡ Var v
      round = agree_where (λ w. applied come.0 (go.0 w)) (λ w. Var w) (p.types n) (sym (one_behind come.0 go.0 (p.types n)) ∙ ap (applied come.0) (sym (go.2 n lt)) ∙ sym (come.2 n lt) ∙ sym (self_applied (p.types n))) v stands

      is_named : go.0 v ≡ Var (name v)
      is_named = was_variable come.0 (go.0 v) v round

      comes_back : come.0 (name v) ≡ Var v
      unfolding applied
      comes_back = ap (applied come.0) (sym is_named) ∙ round

      kind_kept : q.kinds (name v) ≡ p.kinds v
      kind_kept =
          let up : level (p.kinds v) ≤ rank q.kinds (Var (name v)) = subst (HasKind q.kinds (p.kinds v)) is_named (go.1 v) in
          let down : level (q.kinds (name v)) ≤ rank p.kinds (Var v) = subst (HasKind p.kinds (q.kinds (name v))) comes_back (come.1 (name v)) in
          let one : rank q.kinds (Var (name v)) ≡ level (q.kinds (name v)) = rank_var q.kinds (name v) in
          let two : rank p.kinds (Var v) ≡ level (p.kinds v) = rank_var p.kinds v in
          kinds_same (q.kinds (name v)) (p.kinds v) (omega (arith, up, down, one, two))

    abbrev listing : List ℕ
    listing = first_variables p.types count

    apart : (v w : ℕ) → In v listing → In w listing → name v ≡ name w → v ≡ w
    apart v w i j e =
        let a = stands_first p.types count v i in
        let b = stands_first p.types count w j in
        variable_same v w (sym (comes_back a.0 v a.1 a.2) ∙ ap come.0 e ∙ comes_back b.0 w b.1 b.2)

    abbrev renaming : Renaming
    renaming = renaming_of name listing

    named : (n v : ℕ) → n < count → Stands v (p.types n) → renaming.to v ≡ name v
    named n v lt s = named_so name listing apart v (listed_first p.types count n v lt s)

    -- an undetermined integer type is i32 in both
    default_named : (v w : ℕ) (k : Kind) → default_at (renaming.to v) k ≡ applied (λ x. Var (renaming.to x)) (default_at v k)
    unfolding applied
    default_named v w kind.Integer = refl
    default_named v w kind.Any = refl
    default_named v w kind.Data = refl
    default_named v w kind.Equal = refl
    default_named v w kind.Scalar = refl

    one_default : (n v : ℕ) → n < count → Stands v (p.types n) → applied (default q.kinds) (go.0 v) ≡ applied (λ x. Var (renaming.to x)) (default p.kinds v)
    unfolding applied
    one_default n v lt s = ap (applied (default q.kinds)) (is_named n v lt s) ∙ ap (default_at (name v)) (kind_kept n v lt s) ∙ ap (λ w. default_at w (p.kinds v)) (sym (named n v lt s)) ∙ default_named v v (p.kinds v)

    typing_renamed : (n : ℕ) → n < count → others n ≡ applied (λ v. Var (renaming.to v)) (types n)
    typing_renamed n lt = o.is n lt ∙ ap (applied (default q.kinds)) (go.2 n lt) ∙ one_behind (default q.kinds) go.0 (p.types n)
        ∙ alike_applied (λ v. applied (default q.kinds) (go.0 v)) (λ v. applied (λ x. Var (renaming.to x)) (default p.kinds v)) (p.types n) (λ v s. one_default n v lt s)
        ∙ sym (one_behind (λ x. Var (renaming.to x)) (default p.kinds) (p.types n)) ∙ ap (applied (λ x. Var (renaming.to x))) (sym (t.is n lt))

    renamed_typing : Renamed_typing N ds types others t o
    renamed_typing = record {
      renaming = renaming;
      kinds = λ n v lt s. ap q.kinds (named n v lt s) ∙ kind_kept n v lt s;
      is = typing_renamed;
    }

pub typings_are_one : TypingsAreOne
typings_are_one N ds types others t o = renamed_typing N ds types others t o
