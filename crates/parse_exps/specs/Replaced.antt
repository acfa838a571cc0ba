-- What is replaced in a record, on top of which no node stands yet.
use Rattle.std.specs.Prelude.{false, List, if◌then◌else◌}
use Rattle.fut_token.specs.declared.token.Fixed.TheVariants as fixed
use Rattle.fut_token.specs.declared.token.Token.{Token}
use Rattle.fut_ast.specs.ExpRows.{ExpRow, exp_parts, exp_tree, further_replaced, last_replaced}
use Rattle.fut_ast.specs.Sorts.{Sort, Tree, Replacing}
use Rattle.fut_ast.specs.Tokens.{spot_of, starts, tail}
use Rattle.fut_grammar.specs.Reading.{Read, parts_at}

module _ (sub : (n : Sort) → List Token → Read (Tree n)) where
  abbrev pub unraised_at : ExpRow Replacing → List Token → Read (Tree Replacing)
  unraised_at r ts = parts_at sub false Replacing (exp_parts r) (exp_tree r (spot_of ts)) 0 ts

  abbrev pub replaced_at : List Token → Read (Tree Replacing)
  replaced_at ts = if starts fixed.Dot (tail ts) then unraised_at further_replaced ts else unraised_at last_replaced ts
