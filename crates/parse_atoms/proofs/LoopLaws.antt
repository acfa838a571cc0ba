-- How often a loop is gone through, by the tokens that stand next.
use Rattle.std.proofs.Common.{◌≡◌, Bool, true, false, cond, ◌&&◌, ◌||◌, not, List, Ok, Err, refl}
use Rattle.fut_token.specs.declared.token.Fixed.TheVariants as fixed
use Rattle.fut_token.specs.declared.token.Token.{Token}
use Rattle.fut_ast.specs.ExpRows.{count, each, while}
use Rattle.fut_ast.specs.Rows.{of_exp}
use Rattle.fut_ast.specs.Sorts.{Sort, Tree, Loop_item}
use Rattle.fut_ast.specs.Tokens.{is_word, starts, tail}
use Rattle.fut_grammar.specs.Phrases.{bounded, ended, flat_at, items, loop_item_at, phrases}
use Rattle.fut_grammar.specs.Reading.{◌>>=◌, Read, refuse, refuse_sort, row_at}
use Rattle.parse_types.proofs.ReadLaws.{same_read}

module _ (inner : (n : Sort) → List Token → Read (Tree n)) (ts : List Token) where
  pub loop_item_as : phrases inner Loop_item ts ≡ cond {A = Read (Tree Loop_item)} (starts fixed.KeyWhile ts) (row_at (items inner) (of_exp while) ts) (cond {A = Read (Tree Loop_item)} (starts fixed.KeyFor ts) (cond {A = Read (Tree Loop_item)} (is_word (tail ts) && starts fixed.Less (tail (tail ts))) (row_at (items inner) (of_exp count) ts) (row_at (items inner) (of_exp each) ts)) (Err (refuse ts)))
  unfolding phrases bounded ended flat_at loop_item_at refuse_sort
  loop_item_as =
      go (row_at (items inner) (of_exp while) ts) (row_at (items inner) (of_exp count) ts) (row_at (items inner) (of_exp each) ts) (starts fixed.KeyFor ts) (starts fixed.KeyWhile ts) (is_word (tail ts) && starts fixed.Less (tail (tail ts)))
    where
      go : (w c e : Read (Tree Loop_item)) (is_for is_while counts : Bool) → cond {A = Read (Tree Loop_item)} (is_for || is_while) (cond {A = Read (Tree Loop_item)} is_while w (cond {A = Read (Tree Loop_item)} (not counts) e c) >>= λ y. Ok y) (Err (refuse ts)) ≡ cond {A = Read (Tree Loop_item)} is_while w (cond {A = Read (Tree Loop_item)} is_for (cond {A = Read (Tree Loop_item)} counts c e) (Err (refuse ts)))
      go w c e true true counts = same_read w
      go w c e false true counts = same_read w
      go w c e true false true = same_read c
      go w c e true false false = same_read e
      go w c e false false counts = refl
