-- Whether a let and what stands behind it are a composition.
use Rattle.std.specs.Prelude.{◌≡◌, ℕ, Bool, false, nat_eq, List, [], Option, Some, None}
use Rattle.std.specs.Borrow.{Bor}
use Rattle.fut_scalar.specs.declared.place.BindId.{BindId}
use Rattle.fut_flat.specs.declared.exp.Exp.{Exp}
use Rattle.fut_flat.specs.declared.exp.Form.TheVariants as form
use Rattle.fut_flat.specs.declared.exp.Let.{Let as LetTree}
use Rattle.fut_flat.specs.declared.prim.Ref.{Ref}
use Rattle.fut_flat.specs.declared.prim.Ref.TheVariants as ref
use Rattle.fut_flat.specs.Terms.{Bound_pattern, Binding, Let}
use Rattle.fut_flat.specs.Erased.{FlatPattern, FlatTerm, term_of}
use Rattle.fut_flat.proofs.ErasedForms.{row_of}
use Rattle.fut_sizes.specs.Compositions.{composed_let, composition}
use Rattle.size_applying.specs.declared.compositions.Composition.{Composition}

-- no row of no lets
abbrev pub Bare : Exp → Type 0
Bare e = (ls : Bor (List LetTree)) (b : Bor Exp) → e.form ≡ form.Lets ls b → ls.now ≡ [] → ⊥

abbrev pub is_name : ℕ → Ref → Bool
is_name b (ref.Bound c) = nat_eq b c.0
is_name b r = false

-- the name that a pattern is
abbrev pub pattern_name : FlatPattern → Option ℕ
pattern_name (Bound_pattern b) = Some b.0
pattern_name p = None

-- the second let and the lambda behind it, and whether the left function is applied first, where an answer says this
pub data Composed (said : Option Bool) (e : FlatTerm) : Option Composition → Type 0 where
  composes : {c : Composition} → said ≡ Some c.left_first → e ≡ Let (row_of c.second.now).0 (row_of c.second.now).1 (term_of c.lambda.now) → Composed said e (Some c)
  composes_not : said ≡ None → Composed said e None

abbrev pub Composes_let : ℕ → FlatTerm → Option Composition → Type 0
Composes_let f e = Composed (composed_let f e) e

abbrev pub Composes : Binding Ref BindId → FlatTerm → Option Composition → Type 0
Composes b e = Composed (composition b e) e
