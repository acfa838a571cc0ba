-- From the graph to the program.
use Rattle.std.proofs.Common.{◌≡◌, ℕ, zero, suc, ◌≤◌, ◌<◌, List, [], ◌∷◌, length, refl, sym, ◌∙◌, subst, arith}
use mathlib.Core.Logic.{◌⊎◌, inl, inr}
use native.Mathlib.Decide.{ℕ_discrete}
use Rattle.std.specs.List.{Contains}
use Rattle.fut_types.specs.declared.Kind.TheVariants as kind
use Rattle.fut_types.specs.Types.{Sub, Kinds, applied}
use Rattle.fut_types.specs.Shapes.{Shapes}
use Rattle.fut_typing.specs.Program.{program_numbers, Program_typed}
use Rattle.fut_typing.specs.Answers.{Open, Principal, IsWanted, Stands, default}
use Rattle.type_graph.specs.declared.Form.{Form}
use Rattle.type_graph.specs.declared.Form.TheVariants as form
use Rattle.type_graph.specs.declared.Node.{Node}
use Rattle.type_graph.specs.declared.Entry.{Entry}
use Rattle.type_graph.specs.Graph.{free_node, node_at, Tables, Within, IsGraph}
use Rattle.type_graph.specs.Resolving.{resolved, noted}
use Rattle.type_graph.specs.Claims.{Possible}
use Rattle.type_answers.specs.Settled.{chain_opens, form_opens, opens_below}
use Rattle.type_answers.specs.Left.{Undecided, IsUndecided}
use Rattle.type_answers.specs.Programs.{Types_it, Gives_typing, Shows_ambiguous}
use Rattle.type_answers.proofs.Settled.{law}
use Rattle.type_answers.proofs.Typings.{some_types, closes}

-- the same of the same types
record As (S : Shapes) (count : ℕ) (Q : Kinds → Sub → Type 0) (ks : Kinds) (ts : Sub) (os : List Open) : Type 0 where
  principal : Principal S count Q
  kinds : principal.kinds ≡ ks
  types : principal.types ≡ ts
  opens : principal.opens ≡ os

principal_as : (S S' : Shapes) (count : ℕ) (P Q : Kinds → Sub → Type 0) → S ≡ S' → ((K : Kinds) (a : Sub) → P K a → Q K a) → ((K : Kinds) (a : Sub) → Q K a → P K a) → (p : Principal S count P) → As S' count Q p.kinds p.types p.opens
principal_as S S' count P Q e f g p = subst (λ s. As s count Q p.kinds p.types p.opens) e (record {
  principal = record {
    kinds = p.kinds;
    types = p.types;
    opens = p.opens;
    once = p.once;
    instance = λ K a q. p.instance K a (g K a q);
    typing = λ K by rs met. f K (λ n. applied by (p.types n)) (p.typing K by rs met);
  };
  kinds = refl;
  types = refl;
  opens = refl;
})

-- what is open at a node
contains_more : (x o : Open) (os : List Open) → Contains os o → Contains (x ∷ os) o
contains_more x o os h = (suc h.0, (let l : h.0 < length os = h.1 in omega arith), h.2)

chain_contains : (entry : ℕ → Entry) (s : Sub) (v e n : ℕ) (rest : List Open) (o : Open) → Contains rest o → Contains (chain_opens entry s v e n rest) o
unfolding chain_opens
chain_contains entry s v e zero rest o h = h
chain_contains entry s v e (suc n) rest o h = contains_more _ o _ (chain_contains entry s v (entry e).next n rest o h)

chain_first : (entry : ℕ → Entry) (s : Sub) (v e n : ℕ) (rest : List Open) → 0 < n → (o : Open) × Contains (chain_opens entry s v e n rest) o × (o.variable ≡ v)
unfolding chain_opens
chain_first entry s v e zero rest h = absurd (omega arith)
chain_first entry s v e (suc n) rest h = (record { variable = v; label = (entry e).label; part = s (entry e).child }, (0, omega arith, refl), refl)

form_contains : (T : Tables) (s : Sub) (i : ℕ) (f : Form) (rest : List Open) (o : Open) → Contains rest o → Contains (form_opens T s i f rest) o
form_contains T s i form.Free rest o h = h
form_contains T s i (form.Link j) rest o h = h
form_contains T s i (form.Made g x n) rest o h = h
form_contains T s i (form.Open e n) rest o h = chain_contains T.entry s i e n rest o h

opens_contain : (T : Tables) (nodes : List Node) (s : Sub) (v e n : ℕ) → (node_at nodes v).form ≡ form.Open e n → 0 < n → (m : ℕ) → v < m → (o : Open) × Contains (opens_below T nodes s m) o × (o.variable ≡ v)
unfolding opens_below
opens_contain T nodes s v e n is lt zero h = absurd (omega arith)
opens_contain T nodes s v e n is lt (suc m) h = elim (ℕ_discrete v m) as (λ d. (o : Open) × Contains (form_opens T s m (node_at nodes m).form (opens_below T nodes s m)) o × (o.variable ≡ v)) [
  | yes z ↦ let r = chain_first T.entry s v e n (opens_below T nodes s m) lt in
      (r.0, subst (λ j. Contains (form_opens T s j (node_at nodes j).form (opens_below T nodes s m)) r.0) z (subst (λ f. Contains (form_opens T s v f (opens_below T nodes s m)) r.0) (sym is) r.1), r.2)
  | no ne ↦ let r = opens_contain T nodes s v e n is lt m (grind (arith, ne)) in (r.0, form_contains T s m (node_at nodes m).form (opens_below T nodes s m) r.0 r.1, r.2)
]

-- an undecided node is one
node_past : (nodes : List Node) (v : ℕ) → length nodes ≤ v → node_at nodes v ≡ free_node
unfolding node_at
node_past [] v h = refl
node_past (x ∷ xs) zero h = absurd (omega arith)
node_past (x ∷ xs) (suc v) h = node_past xs v (omega arith)

lt_or : (m n : ℕ) → (m < n) ⊎ (n ≤ m)
lt_or zero zero = inr (omega arith)
lt_or zero (suc n) = inl (omega arith)
lt_or (suc m) zero = inr (omega arith)
lt_or (suc m) (suc n) = elim (lt_or m n) as (λ x. (suc m < suc n) ⊎ (suc n ≤ suc m)) [ inl h ↦ inl (omega arith) | inr h ↦ inr (omega arith) ]

undecided_in : (nodes : List Node) (v : ℕ) → IsUndecided nodes v → v < length nodes
undecided_in nodes v u = elim (lt_or v (length nodes)) as (λ x. v < length nodes) [ inl lt ↦ lt | inr le ↦ absurd (subst (λ (n : Node). Undecided n.kind n.form) (node_past nodes v le) u) ]

left_by : (T : Tables) (nodes : List Node) (s : Sub) (v : ℕ) → IsGraph nodes → IsUndecided nodes v → IsWanted (noted nodes v) ⊎ ((o : Open) × Contains (opens_below T nodes s (length nodes)) o × (o.variable ≡ v))
left_by T nodes s v g u = go (node_at nodes v).form refl u
  where
    go : (f : Form) → (node_at nodes v).form ≡ f → Undecided (node_at nodes v).kind f → IsWanted (noted nodes v) ⊎ ((o : Open) × Contains (opens_below T nodes s (length nodes)) o × (o.variable ≡ v))
    go form.Free e w = inl w
    go (form.Link j) e w = absurd w
    go (form.Made h x n) e w = absurd w
    go (form.Open y n) e w = let lt = undecided_in nodes v u in inr (opens_contain T nodes s v y n e (subst (Within (length nodes) v) e (g.within v lt)) (length nodes) lt)

pub types_it : Types_it
types_it N places ds T home nodes entries d x = let r = some_types T home (program_numbers ds) nodes entries d in (r.0, r.1, x.from r.0 r.1 r.2)

pub gives_typing : Gives_typing
gives_typing N ds T home nodes entries d x h =
    let c = closes T home (program_numbers ds) nodes entries d h in
    let p = principal_as T.shapes N.shapes (program_numbers ds) (λ K a. Possible T (program_numbers ds) K a nodes) (Program_typed N kind.Data ds) x.shapes x.from x.to c.principal in (
      c.depth,
      c.stable,
      record {
        principal = p.principal;
        closed = p.opens ∙ c.opens;
        settled = λ n v lt s w. c.known n v lt (subst (λ t. Stands v (t n)) p.types s) (subst (λ k. IsWanted (k v)) p.kinds w);
        is = λ n lt i. applied (default (sym (p.kinds ∙ c.kinds) i)) (sym (p.types ∙ c.types) i n);
      },
    )

pub shows_ambiguous : Shows_ambiguous
shows_ambiguous N ds T home nodes entries d x inn n v lt st u =
    let c = law T home (program_numbers ds) nodes d.plain d.graph inn d.low d.state d.settled in
    let p = principal_as T.shapes N.shapes (program_numbers ds) (λ K a. Possible T (program_numbers ds) K a nodes) (Program_typed N kind.Data ds) x.shapes x.from x.to c.principal in record {
      typable = types_it N kind.Data ds T home nodes entries d x;
      principal = p.principal;
      number = n;
      variable = v;
      within = lt;
      stands = subst (λ t. Stands v (t n)) (sym (p.types ∙ c.types)) (st T home (program_numbers ds) d.state c.depth c.stable);
      left = elim (left_by T nodes (resolved nodes c.depth) v d.graph u) as (λ y. IsWanted (p.principal.kinds v) ⊎ ((o : Open) × Contains p.principal.opens o × (o.variable ≡ v))) [
        | inl w ↦ inl (subst (λ k. IsWanted (k v)) (sym (p.kinds ∙ c.kinds)) w)
        | inr o ↦ inr (o.0, subst (λ os. Contains os o.0) (sym (p.opens ∙ c.opens)) o.1, o.2)
      ];
    }
