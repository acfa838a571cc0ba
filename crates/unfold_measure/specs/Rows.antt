-- Rows of lets, and assertions, which end them.
use Rattle.std.specs.Prelude.{◌≡◌, ◌<◌, ℕ, suc, length, Bool, true, false, List, map, Option, Some, None, Result}
use Rattle.std.specs.Borrow.{Bor}
use Rattle.fut_scalar.specs.declared.place.BindId.{BindId}
use Rattle.fut_scalar.specs.declared.place.Place.{Place}
use Rattle.fut_flat.specs.declared.act.Act.{Act}
use Rattle.fut_flat.specs.declared.act.Act.TheVariants as act
use Rattle.fut_flat.specs.declared.exp.Exp.{Exp}
use Rattle.fut_flat.specs.declared.exp.Let.{Let as LetTree}
use Rattle.fut_flat.specs.declared.prim.Ref.{Ref}
use Rattle.fut_flat.specs.Erased.{FlatPattern, FlatTerm, lets, parameters, pattern_of, term_of}
use Rattle.fut_flat.specs.Terms.{Assert, Binding, Let, Strict, no_term, term_and}
use Rattle.fut_flat.proofs.ErasedForms.{row_of}
use Rattle.fut_meaning.specs.Knowns.{Scope}
use Rattle.fut_meaning.specs.Walk.{is_assertion, is_let}
use Rattle.unfold_measure.specs.Answers.{Walked_to}
use Rattle.unfold_measure.specs.declared.lets.Left.{Left}
use Rattle.unfold_measure.specs.declared.stop.Stop.{Stop}
use Rattle.unfold_measure.specs.declared.walked.Walked.{Walked}

abbrev pub is_assert : Act → Bool
is_assert act.Assert = true
is_assert a = false

-- lets, and the body behind them
abbrev pub behind : List LetTree → Exp → FlatTerm
behind ls e = lets (map row_of ls) (term_of e)

-- what a let binds
abbrev pub binding_of : LetTree → Binding Ref BindId
binding_of l = record { sizes = l.sizes.now; parameters = parameters l.heads.now; is_function = l.is_function; pattern = pattern_of l.pat }

-- how many lets a term begins with
abbrev pub how_many : FlatTerm → ℕ
how_many (Let b v e) = suc (how_many e)
how_many e = 0

-- the condition of a term that is an assertion
pub data Condition (t : FlatTerm) : Option (Bor Exp) → Type 0 where
  condition : {mark : Place} {c : Bor Exp} → t ≡ Strict Assert mark (term_and (term_of c.now) no_term) → Condition t (Some c)
  no_condition : is_assertion t ≡ false → Condition t None

-- what is left of a row, of which the first let is at hand
pub data Left_of (t : FlatTerm) : Option Left → Type 0 where
  left_of : {n : Left} → is_let t ≡ true → t ≡ behind n.lets.now n.body.now → 0 < length n.lets.now → Left_of t (Some n)
  none_left : is_let t ≡ false → Left_of t None

-- the walk of an assertion with this condition, whose let has this pattern, and of what it guards
abbrev pub Guards : Scope → Scope → ℕ → ℕ → FlatPattern → FlatTerm → FlatTerm → Result Walked Stop → Type 0
Guards tops sc level spent p c e r = (b : Binding Ref BindId) (mark : Place) → b.pattern ≡ p → Walked_to tops sc level spent (Let b (Strict Assert mark (term_and c no_term)) e) r
