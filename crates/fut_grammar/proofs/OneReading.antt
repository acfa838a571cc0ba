-- Tokens are those of one program at most, and that has one height.
use Rattle.std.proofs.Common.{◌≡◌, ℕ, suc, ◌≤◌, max, List, [], length, Result, Ok, refl, sym, ap, ◌∙◌, arith}
use Rattle.fut_token.specs.declared.token.Token.{Token}
use Rattle.fut_ast.specs.declared.module.Program.{Program}
use Rattle.fut_ast.specs.Sorts.{Tree, Dec_item}
use Rattle.fut_ast.specs.Grammar.{Spells_many, Derives, program}
use Rattle.fut_grammar.specs.declared.fault.Fault.{Fault}
use Rattle.fut_grammar.specs.Reading.{many_at}
use Rattle.fut_grammar.specs.Phrases.{nodes, read_at}
use Rattle.fut_grammar.proofs.Post.{Gets, gets, too_deep}
use Rattle.fut_grammar.proofs.CompleteParts.{many_gets}
use Rattle.fut_grammar.proofs.Choices.{node_sort}
use Rattle.fut_grammar.proofs.CompleteItems.{nodes_gets}
use Rattle.fut_grammar.proofs.CompletePhrases.{complete}

low : {A high : Type 0} {r : Result A Fault} {v : A} → (high → ⊥) → Gets high r v → r ≡ Ok v
low n gets = refl
low n (too_deep i) = absurd (n i)

-- at a depth that is enough, just these declarations are read
at_depth : (d : ℕ) {ds : List (Tree Dec_item)} {h : ℕ} {ts : List Token} → Spells_many Dec_item ds 0 h ts [] → h ≤ d → many_at (nodes (read_at d)) (length ts) Dec_item 0 ts ≡ Ok (ds, h, [])
at_depth d {ts = ts} x le = low (λ i. omega arith) (many_gets (nodes (read_at d)) (suc d) node_sort (nodes_gets (read_at d) (suc d) (complete d)) (length ts) refl x (omega arith))

same_answer : {ds es : List (Tree Dec_item)} {h k : ℕ} {ts : List Token} → Spells_many Dec_item ds 0 h ts [] → Spells_many Dec_item es 0 k ts [] → (ds ≡ es) × (h ≡ k)
same_answer {ds} {es} {h} {k} x y =
    let both = sym (at_depth (max h k) x (omega arith)) ∙ at_depth (max h k) y (omega arith) in
    let parts : (ds, h, []) ≡ (es, k, []) = cc in
    (ap (λ (z : List (Tree Dec_item) × ℕ × List Token). z.0) parts, ap (λ (z : List (Tree Dec_item) × ℕ × List Token). z.1) parts)

pub one_program : (ts : List Token) (p q : Program) (h k : ℕ) → Derives ts p h → Derives ts q k → p ≡ q
one_program ts p q h k (program x) (program y) = let same = same_answer x y in rw same.0 refl

pub one_height : (ts : List Token) (p q : Program) (h k : ℕ) → Derives ts p h → Derives ts q k → h ≡ k
one_height ts p q h k (program x) (program y) = (same_answer x y).1
