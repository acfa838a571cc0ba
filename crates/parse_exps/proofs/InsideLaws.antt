-- Any expression first in parentheses.
use Rattle.std.proofs.Common.{◌≡◌, ℕ, Bool, true, false, cond, List, Ok, Err, refl}
use Rattle.fut_token.specs.declared.token.Token.{Token}
use Rattle.fut_ast.specs.Behind.{begins}
use Rattle.fut_ast.specs.Rows.{whole}
use Rattle.fut_ast.specs.Sorts.{Sort, Tree, Ending, SourceExp, Whole}
use Rattle.parse_exps.specs.Steps.{inside_alone}
use Rattle.fut_grammar.specs.Phrases.{bounded, ended, far_at, inside_whole}
use Rattle.fut_grammar.specs.Reading.{◌>>=◌, Read, refuse_sort}

module _ (read : (n : Sort) → List Token → Read (Tree n)) (limit : ℕ) (ts : List Token) where
  pub inside_whole_as : (r : Read Ending) → begins Whole ts ≡ true → inside_whole read limit ts r ≡ inside_alone (far_at whole r)
  unfolding inside_whole bounded ended
  inside_whole_as r begun = go (begins Whole ts) (far_at whole r) begun
    where
      go : (b : Bool) (q : Read SourceExp) → b ≡ true → inside_alone (cond {A = Read SourceExp} b (q >>= λ y. Ok y) (Err (refuse_sort Whole ts))) ≡ inside_alone q
      go true (Ok y) e = refl
      go true (Err f) e = refl
      go false q e = absurd cc
