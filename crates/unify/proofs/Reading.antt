-- Reading a substitution back from a graph, one node after another.
use Rattle.std.proofs.Common.{◌≡◌, ℕ, zero, suc, ◌+◌, ◌-◌, ◌≤◌, ◌<◌, List, [], ◌∷◌, ◌++◌, length, drop, refl, sym, ◌∙◌, ap, arith, append_assoc}
use Rattle.type_graph.specs.declared.Node.{Node}
use Rattle.type_graph.specs.declared.Entry.{Entry}
use Rattle.type_graph.specs.Graph.{node_at, entry_at}
use Rattle.unify.specs.declared.Ty.{Ty as Tree}
use Rattle.unify.specs.declared.Ty.TheVariants as tree
use Rattle.unify.specs.declared.Known.{Known}
use Rattle.unify.specs.Reading.{variables, chain_of, known_of, bind_of, known_from, binds_from}

none_right : {X : Type 0} (xs ys : List X) → ys ≡ [] → xs ++ ys ≡ xs
none_right {X} xs ys e = ap (λ zs. xs ++ zs) e ∙ go xs
  where
    go : (zs : List X) → zs ++ [] ≡ zs
    go [] = refl
    go (z ∷ zs) = ap (λ l. z ∷ l) (go zs)

-- one step of a list that is made from the front
step : {X : Type 0} (xs xs' : List X) (x : X) (rest rest' all : List X) → xs' ≡ xs ++ x ∷ [] → rest ≡ x ∷ rest' → xs ++ rest ≡ all → xs' ++ rest' ≡ all
step {X} xs xs' x rest rest' all is e h = ap (λ l. l ++ rest') is ∙ append_assoc xs (x ∷ []) rest' ∙ ap (λ l. xs ++ l) (sym e) ∙ h

variables_more : (x n : ℕ) → variables x (suc n) ≡ tree.Var x ∷ variables (suc x) n
unfolding variables
variables_more x n = refl

variables_none : (x : ℕ) → variables x 0 ≡ []
unfolding variables
variables_none x = refl

pub row_init : (row : List Tree) (first count : ℕ) → row ≡ [] → row ++ variables (first + 0) (count - 0) ≡ variables first count
row_init row first count e = ap (λ r. r ++ variables (first + 0) (count - 0)) e ∙ (λ i. variables (x i) (n i))
  where
    x : first + 0 ≡ first
    x = omega arith

    n : count - 0 ≡ count
    n = omega arith

pub row_step : (row row' all : List Tree) (first count at : ℕ) → at < count → row' ≡ row ++ tree.Var (first + at) ∷ [] → row ++ variables (first + at) (count - at) ≡ all → row' ++ variables (first + (at + 1)) (count - (at + 1)) ≡ all
row_step row row' all first count at lt is h = step row row' (tree.Var (first + at)) (variables (first + at) (count - at)) (variables (first + (at + 1)) (count - (at + 1))) all is
    (ap (variables (first + at)) n ∙ variables_more (first + at) (count - (at + 1)) ∙ ap (λ x. tree.Var (first + at) ∷ variables x (count - (at + 1))) x) h
  where
    n : count - at ≡ suc (count - (at + 1))
    n = omega arith

    x : suc (first + at) ≡ first + (at + 1)
    x = omega arith

pub row_end : (row all : List Tree) (first count at : ℕ) → count ≤ at → row ++ variables (first + at) (count - at) ≡ all → row ≡ all
row_end row all first count at le h = sym (none_right row _ (ap (variables (first + at)) n ∙ variables_none (first + at))) ∙ h
  where
    n : count - at ≡ 0
    n = omega arith

chain_more : (entries : List Entry) (e n : ℕ) → chain_of entries e (suc n) ≡ ((entry_at entries e).label, tree.Var (entry_at entries e).child) ∷ chain_of entries (entry_at entries e).next n
unfolding chain_of
chain_more entries e n = refl

chain_none : (entries : List Entry) (e : ℕ) → chain_of entries e 0 ≡ []
unfolding chain_of
chain_none entries e = refl

pub chain_init : (parts : List (ℕ × Tree)) (entries : List Entry) (e n : ℕ) → parts ≡ [] → parts ++ chain_of entries e n ≡ chain_of entries e n
chain_init parts entries e n is = ap (λ p. p ++ chain_of entries e n) is

pub chain_step : (parts parts' all : List (ℕ × Tree)) (entries : List Entry) (e n : ℕ) (entry : Entry) → 0 < n → entry ≡ entry_at entries e → parts' ≡ parts ++ (entry.label, tree.Var entry.child) ∷ [] → parts ++ chain_of entries e n ≡ all → parts' ++ chain_of entries entry.next (n - 1) ≡ all
chain_step parts parts' all entries e n entry lt at is h = step parts parts' (entry.label, tree.Var entry.child) (chain_of entries e n) (chain_of entries entry.next (n - 1)) all is
    (ap (chain_of entries e) m ∙ chain_more entries e (n - 1) ∙ ap (λ (y : Entry). (y.label, tree.Var y.child) ∷ chain_of entries y.next (n - 1)) (sym at)) h
  where
    m : n ≡ suc (n - 1)
    m = omega arith

pub chain_end : (parts all : List (ℕ × Tree)) (entries : List Entry) (e n : ℕ) → n ≤ 0 → parts ++ chain_of entries e n ≡ all → parts ≡ all
chain_end parts all entries e n le h = sym (none_right parts _ (ap (chain_of entries e) z ∙ chain_none entries e)) ∙ h
  where
    z : n ≡ 0
    z = omega arith

-- nodes
drop_node : (nodes : List Node) (at : ℕ) → at < length nodes → drop at nodes ≡ node_at nodes at ∷ drop (suc at) nodes
unfolding node_at
drop_node [] at lt = absurd (omega arith)
drop_node (x ∷ xs) zero lt = refl
drop_node (x ∷ xs) (suc at) lt = drop_node xs at (omega arith)

drop_next : (nodes : List Node) (at : ℕ) → at < length nodes → drop at nodes ≡ node_at nodes at ∷ drop (at + 1) nodes
drop_next nodes at lt = drop_node nodes at lt ∙ ap (λ n. node_at nodes at ∷ drop n nodes) (let e : suc at ≡ at + 1 = omega arith in e)

drop_all : (nodes : List Node) (at : ℕ) → length nodes ≤ at → drop at nodes ≡ []
drop_all [] zero le = refl
drop_all [] (suc at) le = refl
drop_all (x ∷ xs) zero le = absurd (omega arith)
drop_all (x ∷ xs) (suc at) le = drop_all xs at (omega arith)

known_more : (entries : List Entry) (node : Node) (nodes : List Node) → known_from entries (node ∷ nodes) ≡ known_of entries node ∷ known_from entries nodes
unfolding known_from
known_more entries node nodes = refl

known_none : (entries : List Entry) → known_from entries [] ≡ []
unfolding known_from
known_none entries = refl

binds_more : (i : ℕ) (node : Node) (nodes : List Node) → binds_from i (node ∷ nodes) ≡ bind_of i node.form ++ binds_from (suc i) nodes
unfolding binds_from
binds_more i node nodes = refl

binds_none : (i : ℕ) → binds_from i [] ≡ []
unfolding binds_from
binds_none i = refl

pub known_init : (known : List Known) (entries : List Entry) (nodes : List Node) → known ≡ [] → known ++ known_from entries (drop 0 nodes) ≡ known_from entries nodes
known_init known entries nodes e = ap (λ k. k ++ known_from entries nodes) e

pub known_step : (known known' all : List Known) (entries : List Entry) (nodes : List Node) (at : ℕ) (node : Node) → at < length nodes → node ≡ node_at nodes at → known' ≡ known ++ known_of entries node ∷ [] → known ++ known_from entries (drop at nodes) ≡ all → known' ++ known_from entries (drop (at + 1) nodes) ≡ all
known_step known known' all entries nodes at node lt e is h = step known known' (known_of entries node) (known_from entries (drop at nodes)) (known_from entries (drop (at + 1) nodes)) all is
    (ap (known_from entries) (drop_next nodes at lt) ∙ known_more entries (node_at nodes at) (drop (at + 1) nodes) ∙ ap (λ n. known_of entries n ∷ known_from entries (drop (at + 1) nodes)) (sym e)) h

pub known_end : (known all : List Known) (entries : List Entry) (nodes : List Node) (at : ℕ) → length nodes ≤ at → known ++ known_from entries (drop at nodes) ≡ all → known ≡ all
known_end known all entries nodes at le h = sym (none_right known _ (ap (known_from entries) (drop_all nodes at le) ∙ known_none entries)) ∙ h

pub binds_init : (binds : List (ℕ × Tree)) (nodes : List Node) → binds ≡ [] → binds ++ binds_from 0 (drop 0 nodes) ≡ binds_from 0 nodes
binds_init binds nodes e = ap (λ b. b ++ binds_from 0 nodes) e

pub binds_step : (binds binds' all : List (ℕ × Tree)) (nodes : List Node) (at : ℕ) (node : Node) → at < length nodes → node ≡ node_at nodes at → binds' ≡ binds ++ bind_of at node.form → binds ++ binds_from at (drop at nodes) ≡ all → binds' ++ binds_from (at + 1) (drop (at + 1) nodes) ≡ all
binds_step binds binds' all nodes at node lt e is h =
    ap (λ l. l ++ binds_from (at + 1) (drop (at + 1) nodes)) is ∙ append_assoc binds (bind_of at node.form) (binds_from (at + 1) (drop (at + 1) nodes))
    ∙ ap (λ l. binds ++ l) (ap (λ (n : Node). bind_of at n.form ++ binds_from (at + 1) (drop (at + 1) nodes)) e
    ∙ ap (λ i. bind_of at (node_at nodes at).form ++ binds_from i (drop (at + 1) nodes)) (let z : at + 1 ≡ suc at = omega arith in z)
    ∙ sym (binds_more at (node_at nodes at) (drop (at + 1) nodes)) ∙ ap (binds_from at) (sym (drop_next nodes at lt))) ∙ h

pub binds_end : (binds all : List (ℕ × Tree)) (nodes : List Node) (at : ℕ) → length nodes ≤ at → binds ++ binds_from at (drop at nodes) ≡ all → binds ≡ all
binds_end binds all nodes at le h = sym (none_right binds _ (ap (binds_from at) (drop_all nodes at le) ∙ binds_none at)) ∙ h
