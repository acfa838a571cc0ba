-- Phrases that are read alike under both readers of phrases: no phrase but a node is in them.
use Rattle.std.proofs.Common.{◌≡◌, List, refl}
use Rattle.fut_token.specs.declared.token.Token.{Token}
use Rattle.fut_ast.specs.Sorts.{Sort, Tree, Size_item, Head_item, Atomic_pat, Written_item, Mod_param}
use Rattle.fut_grammar.specs.Reading.{Read, row_at, parts_at, has_at, sub_at}
use Rattle.fut_grammar.specs.Phrases.{nodes, items, phrases, flat_at, head_at}

module _ (inner : (n : Sort) → List Token → Read (Tree n)) (ts : List Token) where
  pub same_size : items inner Size_item ts ≡ phrases inner Size_item ts
  unfolding phrases items nodes flat_at row_at parts_at has_at
  same_size = refl

  pub same_head : items inner Head_item ts ≡ phrases inner Head_item ts
  unfolding phrases items nodes flat_at head_at row_at parts_at has_at
  same_head = refl

  pub same_pat : items inner Atomic_pat ts ≡ phrases inner Atomic_pat ts
  unfolding phrases items
  same_pat = refl

  pub same_written : items inner Written_item ts ≡ phrases inner Written_item ts
  unfolding phrases items nodes flat_at row_at parts_at has_at sub_at
  same_written = refl

  pub same_param : items inner Mod_param ts ≡ phrases inner Mod_param ts
  unfolding phrases items nodes flat_at row_at parts_at has_at sub_at
  same_param = refl
