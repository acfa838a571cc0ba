-- Which kinds are left in a typing.
use Rattle.std.proofs.Common.{◌≡◌, ℕ, ◌≤◌, ◌<◌, List, sym, inl, inr, subst, arith}
use Rattle.fut_types.specs.declared.Kind.{Kind}
use Rattle.fut_types.specs.declared.Kind.TheVariants as kind
use Rattle.fut_types.specs.Types.{Ty, Var, Made, Tys, none, more, Sub, Kinds, level, applied, all_applied}
use Rattle.fut_typing.specs.Names.{Names}
use Rattle.fut_typing.specs.Program.{Defined, program_numbers}
use Rattle.fut_typing.specs.Answers.{IsWanted, Stands, Stands_in, Typing_is, default, default_at}
use mathlib.Core.Logic.{◌⊎◌}

-- it is wanted to know, or of a kind that has arrays
abbrev Left : Kind → Type 0
Left k = IsWanted k ⊎ (level k ≤ 1)

-- it stands in a type before defaults, and is left
abbrev Is_left : Kinds → Ty → ℕ → Type 0
Is_left K t v = Stands v t × Left (K v)

left_at : (n v : ℕ) (k : Kind) → Stands v (default_at n k) → (v ≡ n) × Left k
left_at n v kind.Any s = (s, inr (omega arith))
left_at n v kind.Data s = (s, inr (omega arith))
left_at n v kind.Equal s = (s, inl tt)
left_at n v kind.Scalar s = (s, inl tt)
left_at n v kind.Integer s = absurd s

mutual
  unfolding applied all_applied

  left_in : (K : Kinds) (t : Ty) (v : ℕ) → Stands v (applied (default K) t) → Is_left K t v
  left_in K (Var n) v s = let w = left_at n v (K n) s in (w.0, subst (λ m. Left (K m)) (sym w.0) w.1)
  left_in K (Made h ts) v s = all_left_in K ts v s

  all_left_in : (K : Kinds) (ts : Tys) (v : ℕ) → Stands_in v (all_applied (default K) ts) → Stands_in v ts × Left (K v)
  all_left_in K none v s = absurd s
  all_left_in K (more t ts) v (inl s) = let w = left_in K t v s in (inl w.0, w.1)
  all_left_in K (more t ts) v (inr s) = let w = all_left_in K ts v s in (inr w.0, w.1)

settled_kind : (k : Kind) → (IsWanted k → ⊥) → Left k → level k ≤ 1
settled_kind k h (inl w) = absurd (h w)
settled_kind k h (inr l) = l

pub may_be_arrays : (N : Names) (ds : List Defined) (types : Sub) (typing : Typing_is N ds types) (n v : ℕ) → n < program_numbers ds → Stands v (types n) → level (typing.principal.kinds v) ≤ 1
may_be_arrays N ds types typing n v l s =
    let w = left_in typing.principal.kinds (typing.principal.types n) v (subst (Stands v) (typing.is n l) s) in
    settled_kind (typing.principal.kinds v) (typing.settled n v l w.0) w.1
