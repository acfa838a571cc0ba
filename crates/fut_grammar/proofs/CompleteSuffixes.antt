-- What is spelled as a production or a suffix of a node is read so.
use Rattle.std.proofs.Common.{◌≡◌, ℕ, zero, suc, ◌+◌, ◌≤◌, ◌<◌, Bool, true, false, List, sym, subst, arith}
use Rattle.fut_token.specs.declared.token.Token.{Token}
use Rattle.fut_ast.specs.declared.node.Spot.{Spot}
use Rattle.fut_ast.specs.Tokens.{spot_of}
use Rattle.fut_ast.specs.Sorts.{Tree, is_node, Sort}
use Rattle.fut_ast.specs.Grammar.{raised, Phrase, Parts}
use Rattle.fut_ast.specs.Rows.{Suffix}
use Rattle.fut_ast.specs.Rows.{Row, parts, tree, suffix_parts, suffix_tree}
use Rattle.fut_ast.specs.Behind.{goes_on}
use Rattle.fut_grammar.specs.Reading.{Read, row_at, suffix_at}
use Rattle.fut_grammar.specs.Phrases.{once_at, again_at}
use Rattle.fut_grammar.proofs.Post.{Gets, gets, too_deep, then_gets, as_part, one_higher}
use Rattle.fut_grammar.proofs.Shorter.{parts_higher}
use Rattle.fut_grammar.proofs.CompleteParts.{all_good, row_gets, suffix_gets}
use Rattle.fut_grammar.proofs.Choices.{readable, when_false, when_true}

module _ (read : (n : Sort) → List Token → Read (Tree n)) (limit : ℕ) (given_read : (n : Sort) (p : Tree n) (h : ℕ) (ts rest : List Token) → readable n ≡ true → Phrase n p h ts rest → Gets (limit ≤ h) (read n ts) (p, h, rest)) where
  pub node_row : {n : Sort} (r : Row n) {p : Tree n} {h : ℕ} {ts rest : List Token} → all_good readable (parts r) ≡ true → Parts n (parts r) (tree r (spot_of ts)) p 0 h ts rest → Gets (limit < suc h) (row_at read r ts) (p, raised (is_node n) h, rest)
  node_row r i xs = one_higher (row_gets read limit readable given_read r i xs)

  pub node_suffix : {n m : Sort} (s : Suffix n m) (from : Spot) (a : Tree m) {p : Tree n} {g h : ℕ} {us rest : List Token} → all_good readable (suffix_parts s) ≡ true → goes_on s a us ≡ false → Parts n (suffix_parts s) (suffix_tree s from (spot_of us) a) p g h us rest → Gets (limit < suc h) (suffix_at read s limit from a g us) (p, suc h, rest)
  node_suffix s from a i q xs = suffix_gets read limit readable given_read s from a i q xs

  -- a suffix once: it stands there, or not
  pub once_there : {n m : Sort} (test : List Token → Bool) (s : Suffix n m) (from : Spot) (same : Tree m → Tree n) (a : Tree m) {p : Tree n} {g h : ℕ} {us rest : List Token} → test us ≡ true → all_good readable (suffix_parts s) ≡ true → goes_on s a us ≡ false → Parts n (suffix_parts s) (suffix_tree s from (spot_of us) a) p g h us rest → Gets (limit < suc h) (once_at read limit test s from same a g us) (p, suc h, rest)
  unfolding once_at
  once_there test s from same a {us = us} t i q xs = when_true (test us) _ t (node_suffix s from a i q xs)

  pub once_not : {high : Type 0} {n m : Sort} (test : List Token → Bool) (s : Suffix n m) (from : Spot) (same : Tree m → Tree n) (a : Tree m) (h : ℕ) (ts : List Token) → test ts ≡ false → Gets high (once_at read limit test s from same a h ts) (same a, h, ts)
  unfolding once_at
  once_not test s from same a h ts t = when_false (test ts) _ t gets

  -- suffixes in turns: each takes one turn and is higher than what stands before it, so there are enough up to the limit
  pub again_goes : {n : Sort} {j : ℕ} {w : Tree n × ℕ × List Token} (test : List Token → Bool) (choose : List Token → Suffix n n) (from : Spot) (s : Suffix n n) (a p : Tree n) (g h : ℕ) (us rest : List Token) → test us ≡ true → choose us ≡ s → all_good readable (suffix_parts s) ≡ true → goes_on s a us ≡ false → Parts n (suffix_parts s) (suffix_tree s from (spot_of us) a) p g h us rest → suc h ≤ j → ((k : ℕ) → limit ≤ k + suc h → Gets (limit < j) (again_at read limit test choose from k p (suc h) rest) w) → (k : ℕ) → limit ≤ k + g → Gets (limit < j) (again_at read limit test choose from k a g us) w
  unfolding again_at
  again_goes {n} {j} test choose from s a p g h us rest t c i q xs up more zero turns =
      let le = parts_higher xs in
      when_true (test us) _ t (when_false (goes_on (choose us) a us) _ (let P : Suffix n n → Type 0 = λ z. goes_on z a us ≡ false in subst P (sym c) q) (too_deep (omega arith)))
  again_goes {n} {j} test choose from s a p g h us rest t c i q xs up more (suc k) turns =
      let le = parts_higher xs in
      when_true (test us) _ t (then_gets _ (let P : Suffix n n → Type 0 = λ z. Gets (limit < j) (suffix_at read z limit from a g us) (p, suc h, rest) in subst P (sym c) (as_part (node_suffix s from a i q xs) up)) (more k (omega arith)))

  pub again_stops : {high : Type 0} {n : Sort} (test : List Token → Bool) (choose : List Token → Suffix n n) (from : Spot) (a : Tree n) (h : ℕ) (us : List Token) → test us ≡ false → (k : ℕ) → limit ≤ k + h → Gets high (again_at read limit test choose from k a h us) (a, h, us)
  unfolding again_at
  again_stops test choose from a h us t zero turns = when_false (test us) _ t gets
  again_stops test choose from a h us t (suc k) turns = when_false (test us) _ t gets
