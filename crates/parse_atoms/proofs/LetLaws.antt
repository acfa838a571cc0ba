-- The kind of a let, by the tokens that stand next.
use Rattle.std.proofs.Common.{◌≡◌, Bool, true, false, cond, ◌||◌, List, Ok, Err, refl}
use Rattle.fut_token.specs.declared.token.Fixed.TheVariants as fixed
use Rattle.fut_token.specs.declared.token.Token.{Token}
use Rattle.fut_ast.specs.Behind.{begins_pat, is_function_let, is_update_let}
use Rattle.fut_ast.specs.ExpRows.{let_function, let_pattern, let_update}
use Rattle.fut_ast.specs.Rows.{of_exp}
use Rattle.fut_ast.specs.Sorts.{Sort, Tree, Let_item}
use Rattle.fut_ast.specs.Tokens.{starts}
use Rattle.fut_grammar.specs.Phrases.{bounded, ended, flat_at, items, let_at, phrases}
use Rattle.fut_grammar.specs.Reading.{◌>>=◌, Read, refuse, refuse_sort, row_at}
use Rattle.parse_types.proofs.ReadLaws.{same_read}

module _ (inner : (n : Sort) → List Token → Read (Tree n)) (ts : List Token) where
  pub let_item_as : phrases inner Let_item ts ≡ cond {A = Read (Tree Let_item)} (begins_pat ts || starts fixed.OpenBracket ts) (cond {A = Read (Tree Let_item)} (is_update_let ts) (row_at (items inner) (of_exp let_update) ts) (cond {A = Read (Tree Let_item)} (is_function_let ts) (row_at (items inner) (of_exp let_function) ts) (row_at (items inner) (of_exp let_pattern) ts))) (Err (refuse ts))
  unfolding phrases bounded ended flat_at let_at refuse_sort
  let_item_as =
      go (row_at (items inner) (of_exp let_update) ts) (row_at (items inner) (of_exp let_function) ts) (row_at (items inner) (of_exp let_pattern) ts) (begins_pat ts || starts fixed.OpenBracket ts) (is_update_let ts) (is_function_let ts)
    where
      go : (u f p : Read (Tree Let_item)) (begins updates calls : Bool) → cond {A = Read (Tree Let_item)} begins (cond {A = Read (Tree Let_item)} updates u (cond {A = Read (Tree Let_item)} calls f p) >>= λ y. Ok y) (Err (refuse ts)) ≡ cond {A = Read (Tree Let_item)} begins (cond {A = Read (Tree Let_item)} updates u (cond {A = Read (Tree Let_item)} calls f p)) (Err (refuse ts))
      go u f p true updates calls = same_read (cond {A = Read (Tree Let_item)} updates u (cond {A = Read (Tree Let_item)} calls f p))
      go u f p false updates calls = refl
