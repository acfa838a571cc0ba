-- An expression of a sort: what begins it, what is read of it, and what goes on with it.
use Rattle.std.proofs.Common.{◌≡◌, ℕ, suc, true, false, cond, List, length, Ok, Err, refl}
use Rattle.fut_token.specs.declared.token.Token.{Token}
use Rattle.fut_ast.specs.Behind.{begins, continues}
use Rattle.fut_ast.specs.Sorts.{Tree}
use Rattle.parse_atoms.specs.declared.tie.ExpSort.{ExpSort}
use Rattle.parse_atoms.specs.declared.tie.ExpSort.TheVariants as sort
use Rattle.parse_atoms.specs.Tie.{Answer, seen, sort_of}
use Rattle.parse_exps.specs.Steps.{Steps}
use Rattle.parse_types.specs.Found.{found_as}
use Rattle.fut_grammar.specs.declared.fault.Fault.TheVariants.{TooDeep}
use Rattle.fut_grammar.specs.declared.fault.Stop.{Stop}
use Rattle.fut_grammar.specs.declared.fault.Stop.TheVariants as stop
use Rattle.fut_grammar.specs.Phrases.{bounded, ended, phrases, read_at, step}
use Rattle.fut_grammar.specs.Reading.{Fails, Gives, Read, refuse, refuse_sort}

-- the same for every sort at once
pub every_sort : (s : ExpSort) (d : ℕ) (ts : List Token) (r : Answer) → Steps s d ts r → Gives (found_as (seen s)) r (step (phrases (read_at d)) (suc d) (sort_of s) ts)
every_sort sort.Atom d ts r h = h
every_sort sort.Unary d ts r h = h
every_sort (sort.Operands k) d ts r h = h
every_sort (sort.Operand k) d ts r h = h
every_sort sort.Right d ts r h = h
every_sort sort.Whole d ts r h = h
every_sort sort.Last d ts r h = h
every_sort sort.Inside d ts r h = h
every_sort sort.Replacing d ts r h = h

-- no form that is left out begins where an expression must
no_form : (s : ExpSort) (ts : List Token) → refuse_sort (sort_of s) ts ≡ refuse ts
unfolding refuse_sort
no_form sort.Atom ts = refl
no_form sort.Unary ts = refl
no_form (sort.Operands k) ts = refl
no_form (sort.Operand k) ts = refl
no_form sort.Right ts = refl
no_form sort.Whole ts = refl
no_form sort.Last ts = refl
no_form sort.Inside ts = refl
no_form sort.Replacing ts = refl

pub nothing_below : (s : ExpSort) (ts : List Token) → read_at 0 (sort_of s) ts ≡ cond {A = Read (Tree (sort_of s))} (begins (sort_of s) ts) (Err (TooDeep (length ts))) (Err (refuse ts))
unfolding read_at
nothing_below s ts = rw (no_form s ts) refl

module _ (s : ExpSort) (d : ℕ) (ts : List Token) where
  pub not_begun : begins (sort_of s) ts ≡ false → read_at (suc d) (sort_of s) ts ≡ Err (refuse ts)
  unfolding read_at bounded
  not_begun b = rw (b, no_form s ts) refl

  pub below_fails : (e : Stop) → begins (sort_of s) ts ≡ true → Fails e (step (phrases (read_at d)) (suc d) (sort_of s) ts) → Fails e (read_at (suc d) (sort_of s) ts)
  unfolding read_at bounded ended
  below_fails stop.Memory b h = tt
  below_fails (stop.Fault f) b h = rw (b, h) refl

  pub goes_on_behind : (y : Tree (sort_of s) × ℕ × List Token) → begins (sort_of s) ts ≡ true → step (phrases (read_at d)) (suc d) (sort_of s) ts ≡ Ok y → continues (sort_of s) y.0 y.2 ≡ true → read_at (suc d) (sort_of s) ts ≡ Err (refuse y.2)
  unfolding read_at bounded ended
  goes_on_behind y b h c = rw (b, h, c) refl

  pub read_below : (y : Tree (sort_of s) × ℕ × List Token) → begins (sort_of s) ts ≡ true → step (phrases (read_at d)) (suc d) (sort_of s) ts ≡ Ok y → continues (sort_of s) y.0 y.2 ≡ false → read_at (suc d) (sort_of s) ts ≡ Ok y
  unfolding read_at bounded ended
  read_below y b h c = rw (b, h, c) refl
