-- Typings to go on with have the same types where all is settled.
use Rattle.std.proofs.Common.{◌≡◌, ℕ, ◌≤◌, ◌<◌, refl, sym, ◌∙◌, ap, subst, arith, List, []}
use Rattle.std.specs.List.{All}
use Rattle.fut_types.specs.declared.Kind.{Kind}
use Rattle.fut_types.specs.declared.Kind.TheVariants as kind
use Rattle.fut_types.specs.declared.Head.{Head}
use Rattle.fut_types.specs.declared.Head.TheVariants as head
use Rattle.fut_types.specs.Types.{Ty, Var, Made, Tys, none, more, Sub, Kinds, HasKind, level, rank, applied, all_applied}
use Rattle.fut_types.proofs.TyLaws.{same_parts, same_first, same_rest}
use Rattle.fut_typing.specs.Names.{Names}
use Rattle.fut_typing.specs.Program.{Defined, program_numbers, Program_typed}
use Rattle.fut_typing.specs.Answers.{Met, Principal, default_at, default, Typing_is}
use Rattle.typing_laws.specs.Alike.{Plain, All_plain, Settled, All_settled}
use Rattle.typing_laws.specs.NumberingClaims.{SettledIsOne}
use Rattle.typing_laws.proofs.Typings.{self_applied, variable_kind}
use Rattle.typing_laws.proofs.NumberingPrograms.{typing_is_one}

-- what is settled is without records
head_plain : (h : Head) (ts : Tys) → (All_settled ts → All_plain ts) → Settled (Made h ts) → Plain (Made h ts)
head_plain (head.Scalar x) ts all s = all s
head_plain head.Array ts all s = all s
head_plain head.Tuple ts all s = all s
head_plain (head.Record r) ts all s = s
head_plain head.Fun ts all s = all s
head_plain (head.Rigid r k) ts all s = all s
head_plain (head.Abstract r d) ts all s = all s

mutual
  settled_plain : (t : Ty) → Settled t → Plain t
  settled_plain (Var v) s = tt
  settled_plain (Made h ts) s = head_plain h ts (all_settled_plain ts) s

  all_settled_plain : (ts : Tys) → All_settled ts → All_plain ts
  all_settled_plain none s = tt
  all_settled_plain (more t ts) s = (settled_plain t s.0, all_settled_plain ts s.1)

settled_parts : (h : Head) (ts : Tys) → Settled (Made h ts) → All_settled ts
settled_parts (head.Scalar x) ts s = s
settled_parts head.Array ts s = s
settled_parts head.Tuple ts s = s
settled_parts (head.Record r) ts s = absurd s
settled_parts head.Fun ts s = s
settled_parts (head.Rigid r k) ts s = s
settled_parts (head.Abstract r d) ts s = s

-- ---- of two principal typings each is an instance of the other
module _ (K L : Kinds) (there back : Sub) (kinds : (v : ℕ) → HasKind L (K v) (there v)) where
  -- what stands for a variable is a variable
  settled_variable : (v : ℕ) (u : Ty) → HasKind L (K v) u → Var v ≡ applied back u → Settled (default_at v (K v)) → applied (default L) u ≡ default_at v (K v)
  unfolding applied rank
  settled_variable v (Made h ts) k e s = absurd cc
  settled_variable v (Var w) k e s = at (K v) (L w) k s
    where
      at : (k l : Kind) → level k ≤ level l → Settled (default_at v k) → default_at w l ≡ default_at v k
      at kind.Any l le s = absurd s
      at kind.Data l le s = absurd s
      at kind.Equal l le s = absurd s
      at kind.Scalar l le s = absurd s
      at kind.Integer kind.Any le s = absurd (omega arith)
      at kind.Integer kind.Data le s = absurd (omega arith)
      at kind.Integer kind.Equal le s = absurd (omega arith)
      at kind.Integer kind.Scalar le s = absurd (omega arith)
      at kind.Integer kind.Integer le s = refl

  mutual
    unfolding applied

    settled_same : (t : Ty) → t ≡ applied back (applied there t) → Settled (applied (default K) t) → applied (default L) (applied there t) ≡ applied (default K) t
    settled_same (Var v) e s = settled_variable v (there v) (kinds v) e s
    settled_same (Made h ts) e s = ap (Made h) (all_settled_same ts (same_parts h h ts (all_applied back (all_applied there ts)) e) (settled_parts h (all_applied (default K) ts) s))

    all_settled_same : (ts : Tys) → ts ≡ all_applied back (all_applied there ts) → All_settled (all_applied (default K) ts) → all_applied (default L) (all_applied there ts) ≡ all_applied (default K) ts
    all_settled_same none e s = refl
    all_settled_same (more t ts) e s = λ i. more (settled_same t (same_first t (applied back (applied there t)) ts (all_applied back (all_applied there ts)) e) s.0 i)
        (all_settled_same ts (same_rest t (applied back (applied there t)) ts (all_applied back (all_applied there ts)) e) s.1 i)

module _ (N : Names) (ds : List Defined) where
  own_typing : (p : Principal N.shapes (program_numbers ds) (Program_typed N kind.Data ds)) → p.opens ≡ [] → Program_typed N kind.Data ds p.kinds p.types
  own_typing p closed = subst (Program_typed N kind.Data ds p.kinds) (λ i v. self_applied (p.types v) i)
      (p.typing p.kinds (λ v. Var v) (variable_kind p.kinds) (subst (All (Met N.shapes (λ v. Var v))) (sym closed) (λ k d lt. absurd (let z : k < 0 = lt in omega arith))))

  one_settled : (types others : Sub) → Typing_is N ds types → Typing_is N ds others → (n : ℕ) → n < program_numbers ds → Settled (types n) → others n ≡ types n
  one_settled types others t o n lt s =
      let p = t.principal in
      let q = o.principal in
      let there = p.instance q.kinds q.types (own_typing q o.closed) in
      let back = q.instance p.kinds p.types (own_typing p t.closed) in
      let again : p.types n ≡ applied back.0 (applied there.0 (p.types n)) = back.3 n lt ∙ ap (applied back.0) (there.3 n lt) in
      o.is n lt ∙ ap (applied (default q.kinds)) (there.3 n lt) ∙ settled_same p.kinds q.kinds there.0 back.0 there.1 (p.types n) again (subst Settled (t.is n lt) s) ∙ sym (t.is n lt)

pub settled_is_one : SettledIsOne
settled_is_one M N m n ds types others t o v lt s =
    let w = typing_is_one M N m n ds types t in
    let same : w.0 v ≡ types v = (w.2 v).there (settled_plain (types v) s) in
    one_settled N ds w.0 others w.1 o v lt (subst Settled (sym same) s) ∙ same
