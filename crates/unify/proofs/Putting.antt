-- What is put in, one thing after another.
use Rattle.std.proofs.Common.{◌≡◌, ℕ, suc, ◌+◌, ◌≤◌, ◌<◌, List, [], ◌∷◌, ◌++◌, length, map, refl, sym, ◌∙◌, ap, subst, arith}
use mathlib.Core.Logic.{inl, inr}
use Rattle.fut_types.specs.declared.Head.{Head}
use Rattle.fut_types.specs.declared.shapes.ShapeTable.{ShapeTable}
use Rattle.fut_types.specs.Types.{Ty, Made, Sub, Kinds, applied, all_applied}
use Rattle.fut_types.proofs.TyLaws.{applied_var, applied_made}
use Rattle.type_graph.specs.declared.Form.TheVariants as form
use Rattle.type_graph.specs.declared.Node.{Node}
use Rattle.type_graph.specs.declared.Entry.{Entry}
use Rattle.type_graph.specs.Graph.{far, node_at, Tables, Fits, Solves, IsGraph, Each}
use Rattle.type_graph.specs.State.{State}
use Rattle.type_graph.specs.Claims.{new_node, types_of, Sound, Extends, Possible, Adds, Nowhere, Inside, Grown}
use Rattle.type_graph.proofs.Grown.{lt_or, node_old, node_new, graph_push, grown_push, solves_old, same_types, extend_one, extend_low, extend_last, joined, long_new}
use Rattle.type_graph.proofs.Adding.{Agree, bound_push, entries_more}
use Rattle.unify.specs.declared.Ty.{Ty as Tree}
use Rattle.unify.specs.declared.Ty.TheVariants as tree
use Rattle.unify.specs.Substitutions.{type_of, row_of}
use Rattle.unify.specs.Putting.{Ready, Blank, Puts, Bars, Always, Planted, Planted_all}
use Rattle.unify.proofs.Trees.{type_var, type_made, row_last, row_first}

pub extends_then : (table : ShapeTable) (n0 n1 n2 : List Node) (e0 e1 e2 : List Entry) → Extends table n0 e0 n1 e1 → Extends table n1 e1 n2 e2 → Extends table n0 e0 n2 e2
extends_then table n0 n1 n2 e0 e1 e2 x y = record { sound = y.sound; longer = (let p : length n0 ≤ length n1 = x.longer in let q : length n1 ≤ length n2 = y.longer in omega arith); told = λ T t. x.told T (y.told T t) }

pub extends_none : (table : ShapeTable) (nodes : List Node) (entries : List Entry) → Sound table nodes entries → Extends table nodes entries nodes entries
extends_none table nodes entries s = record { sound = s; longer = omega arith; told = λ T t. t }

-- what is ready speaks of no node in particular
raised : (T : Tables) (nodes : List Node) (base : ℕ) → IsGraph nodes → base ≤ length nodes → Ready T nodes → State T (λ n. far) base nodes []
raised T nodes base g le s = record {
  top = s.top;
  tops = s.tops;
  capped = s.capped;
  parts = s.parts;
  bare = s.bare;
  afar = s.afar;
  homes = λ m lt. inl (g.near (s.top m) (s.tops.below m (omega arith)));
  once = s.once;
  seated = s.seated;
}

lowered : (T : Tables) (nodes : List Node) (base : ℕ) → State T (λ n. far) base nodes [] → Ready T nodes
lowered T nodes base s = record {
  top = s.top;
  tops = s.tops;
  capped = s.capped;
  parts = s.parts;
  bare = s.bare;
  afar = s.afar;
  homes = λ m lt. absurd (omega arith);
  once = s.once;
  seated = s.seated;
}

-- what a claim asks of all nodes
itself : (T : Tables) (nodes : List Node) (K : Kinds) (a : Sub) → Solves T K a nodes → Possible T (length nodes) K a nodes
itself T nodes K a s = record { full = a; agrees = λ i lt. refl; solves = s }

pub puts_adds : (T : Tables) (nodes nodes' : List Node) (P : Kinds → Sub → Type 0) (H : (ℕ → ℕ) → Type 0) → IsGraph nodes → length nodes ≤ length nodes' → Adds T (length nodes) P H nodes nodes' → Puts T nodes P nodes'
puts_adds T nodes nodes' P H g le ad = record {
  longer = le;
  forth = λ K a s p. let q = ad.forth K a (itself T nodes K a s) p in (q.full, q.agrees, q.solves);
  back = ad.keeps;
  done = λ K a s. ad.done K a (record { full = a; agrees = λ i lt. refl; solves = s });
  ready = λ st. lowered T nodes' (length nodes) (ad.state (λ n. far) (raised T nodes (length nodes) g (omega arith) st));
}

pub bars_nowhere : (T : Tables) (nodes : List Node) (P : Kinds → Sub → Type 0) → Nowhere T (length nodes) P nodes → Bars T nodes P
bars_nowhere T nodes P nowhere pl K a s p = nowhere pl K a (itself T nodes K a s) p

pub puts_none : (T : Tables) (nodes : List Node) (P : Kinds → Sub → Type 0) → ((K : Kinds) (a : Sub) → Solves T K a nodes → P K a) → Puts T nodes P nodes
puts_none T nodes P h = record { longer = omega arith; forth = λ K a s p. (a, (λ i lt. refl), s); back = λ K a s. s; done = h; ready = λ st. st }

-- one thing, and then another
module _ (T : Tables) (n0 n1 : List Node) (P Q R : Kinds → Sub → Type 0) (first : (K : Kinds) (a : Sub) → R K a → P K a) (second : (K : Kinds) (a b : Sub) → Agree (length n0) b a → Solves T K b n1 → R K a → Q K b) where
  pub puts_then : (n2 : List Node) → ((K : Kinds) (a : Sub) → Solves T K a n1 → P K a → Q K a → R K a) → Puts T n0 P n1 → Puts T n1 Q n2 → Puts T n0 R n2
  puts_then n2 both x y = record {
    longer = let p : length n0 ≤ length n1 = x.longer in let q : length n1 ≤ length n2 = y.longer in omega arith;
    forth = λ K a s r. let f = x.forth K a s (first K a r) in let g = y.forth K f.0 f.2 (second K a f.0 f.1 f.2 r) in (g.0, (λ i lt. g.1 i (let p : length n0 ≤ length n1 = x.longer in omega arith) ∙ f.1 i lt), g.2);
    back = λ K a s. x.back K a (y.back K a s);
    done = λ K a s. let s' = y.back K a s in both K a s' (x.done K a s') (y.done K a s);
    ready = λ st. y.ready (x.ready st);
  }

  pub bars_then : Puts T n0 P n1 → Bars T n1 Q → Bars T n0 R
  bars_then x bars pl K a s r = let f = x.forth K a s (first K a r) in bars pl K f.0 f.2 (second K a f.0 f.1 f.2 r)

pub bars_first : (T : Tables) (nodes : List Node) (P R : Kinds → Sub → Type 0) → ((K : Kinds) (a : Sub) → R K a → P K a) → Bars T nodes P → Bars T nodes R
bars_first T nodes P R f bars pl K a s r = bars pl K a s (f K a r)

-- one more node, of a type that a head makes of those of others
module _ (table : ShapeTable) (nodes n1 : List Node) (entries : List Entry) (s : Sound table nodes entries) (room : length nodes < 4294967294) (is : n1 ≡ nodes ++ new_node form.Free ∷ []) where
  pub free_long : length n1 ≡ suc (length nodes)
  free_long = ap length is ∙ long_new nodes (new_node form.Free)

  pub free_sound : Sound table n1 entries
  free_sound = subst (λ ns. Sound table ns entries) (sym is) (record {
    graph = graph_push nodes form.Free s.graph (omega arith) tt tt;
    bound = bound_push table (length entries) nodes (new_node form.Free) s.bound tt;
    are = entries_more table (length nodes) _ entries (let l : length (nodes ++ new_node form.Free ∷ []) ≡ suc (length nodes) = long_new nodes (new_node form.Free) in omega arith) s.are;
  })

  pub free_extends : (n2 : List Node) (entries' : List Entry) → Extends table n1 entries n2 entries' → Extends table nodes entries n2 entries'
  free_extends n2 entries' x = record { sound = x.sound; longer = (let l : length n1 ≡ suc (length nodes) = free_long in let p : length n1 ≤ length n2 = x.longer in omega arith); told = x.told }

  module _ (T : Tables) (inn : Inside T nodes) (h : Head) (ps : List ℕ) (low : Each (λ p. p < length nodes) ps) (number : ℕ) (at : number ≡ length nodes) where
    grown : Grown T nodes n1
    grown = subst (Grown T nodes) (sym is) (grown_push T nodes form.Free s.graph inn (omega arith) tt tt tt)

    chosen : (K : Kinds) (a : Sub) → Solves T K a nodes → (b : Sub) × Agree (length nodes) b a × Solves T K b n1 × (b number ≡ Made h (types_of b ps))
    chosen K a sol =
        let t : Ty = Made h (types_of a ps) in
        let b : Sub = joined (length nodes) a (λ k. t) in
        let low_same : Agree (length nodes) b a = λ i lt. extend_low T nodes form.Free s.graph inn K a t i lt in (
          b,
          low_same,
          subst (Solves T K b) (sym is) (extend_one T nodes form.Free s.graph inn K a t sol tt),
          ap b at ∙ extend_last T nodes form.Free s.graph inn K a t ∙ ap (Made h) (same_types (length nodes) a b ps (λ i lt. sym (low_same i lt)) low),
        )

    pub planted_made : (nodes' : List Node) (H : (ℕ → ℕ) → Type 0) → length n1 ≤ length nodes' → Adds T (length n1) (λ K a. a number ≡ Made h (types_of a ps)) H n1 nodes' → Planted T nodes (λ a. Made h (types_of a ps)) number nodes'
    planted_made nodes' H le ad =
        let x = puts_adds T n1 nodes' (λ K a. a number ≡ Made h (types_of a ps)) H free_sound.graph le ad in record {
          puts = record {
            longer = let l : length n1 ≡ suc (length nodes) = free_long in omega arith;
            forth = λ K a sol u. let c = chosen K a sol in let f = x.forth K c.0 c.2 c.3 in (f.0, (λ i lt. f.1 i (let l : length n1 ≡ suc (length nodes) = free_long in omega arith) ∙ c.1 i lt), f.2);
            back = λ K a sol. solves_old T nodes n1 grown K a (x.back K a sol);
            done = λ K a sol. tt;
            ready = λ st. x.ready (grown.state (λ n. far) 0 (omega arith) st);
          };
          same = λ K a sol. x.done K a sol;
        }

    pub bars_made : Nowhere T (length n1) (λ K a. a number ≡ Made h (types_of a ps)) n1 → Bars T nodes Always
    bars_made nowhere pl K a sol u = let c = chosen K a sol in nowhere pl K c.0 (itself T n1 K c.0 c.2) c.3

pub planted_var : (T : Tables) (nodes : List Node) (t : Tree) (n : ℕ) → t ≡ tree.Var n → Planted T nodes (λ a. applied a (type_of t)) n nodes
planted_var T nodes t n e = record {
  puts = puts_none T nodes Always (λ K a s. tt);
  same = λ K a s. sym (ap (applied a) (type_var t n e) ∙ applied_var a n);
}

always_then : (T : Tables) (n0 n1 n2 : List Node) → Puts T n0 Always n1 → Puts T n1 Always n2 → Puts T n0 Always n2
always_then T n0 n1 n2 x y = puts_then T n0 n1 Always Always Always (λ K a u. tt) (λ K a b e s u. tt) n2 (λ K a s u v. tt) x y

-- a node for the whole, once its parts have theirs
pub planted_whole : (T : Tables) (n0 n1 n2 : List Node) (t : Tree) (h : Head) (ps : List Tree) (ns : List ℕ) (number : ℕ) → t ≡ tree.Made h ps → Planted_all T n0 (λ a. all_applied a (row_of (map type_of ps))) ns n1 → Planted T n1 (λ a. Made h (types_of a ns)) number n2 → Planted T n0 (λ a. applied a (type_of t)) number n2
planted_whole T n0 n1 n2 t h ps ns number e x y = record {
  puts = always_then T n0 n1 n2 x.puts y.puts;
  same = λ K a s. y.same K a s ∙ ap (Made h) (x.same K a (y.puts.back K a s)) ∙ sym (ap (applied a) (type_made t h ps e) ∙ applied_made a h (row_of (map type_of ps)));
}

pub planted_first : (T : Tables) (nodes : List Node) (ns : List ℕ) (ps : List Tree) → ns ≡ [] → ps ≡ [] → Planted_all T nodes (λ a. all_applied a (row_of (map type_of ps))) ns nodes
planted_first T nodes ns ps e f = record {
  puts = puts_none T nodes Always (λ K a s. tt);
  same = λ K a s. ap (types_of a) e ∙ row_first a ∙ sym (ap (λ qs. all_applied a (row_of (map type_of qs))) f);
}

pub planted_next : (T : Tables) (n0 n1 n2 : List Node) (ns ms : List ℕ) (n : ℕ) (ps qs : List Tree) (p : Tree) → ms ≡ ns ++ n ∷ [] → qs ≡ ps ++ p ∷ [] → Planted_all T n0 (λ a. all_applied a (row_of (map type_of ps))) ns n1 → Planted T n1 (λ a. applied a (type_of p)) n n2 → Planted_all T n0 (λ a. all_applied a (row_of (map type_of qs))) ms n2
planted_next T n0 n1 n2 ns ms n ps qs p e f x y = record {
  puts = always_then T n0 n1 n2 x.puts y.puts;
  same = λ K a s. ap (types_of a) e ∙ row_last a ns n ps p (x.same K a (y.puts.back K a s)) (y.same K a s) ∙ sym (ap (λ qs. all_applied a (row_of (map type_of qs))) f);
}

pub bars_always : (T : Tables) (n0 n1 : List Node) → Puts T n0 Always n1 → Bars T n1 Always → Bars T n0 Always
bars_always T n0 n1 x bars = bars_then T n0 n1 Always Always Always (λ K a u. tt) (λ K a b e s u. tt) x bars

-- free nodes, one after another
pub blank_none : (nodes : List Node) → nodes ≡ [] → Blank 0 nodes
blank_none nodes e = subst (Blank 0) (sym e) (record {
  graph = record { short = omega arith; within = λ i lt. absurd (omega arith); fitting = λ i lt. absurd (omega arith); near = λ i lt. absurd (omega arith) };
  long = refl;
  bound = λ table m. record { forms = λ i lt. absurd (omega arith) };
  inside = λ T i lt. absurd (omega arith);
  solves = λ T K a. record { fits = λ i lt. absurd (omega arith) };
  ready = λ T. record {
    top = λ i. i;
    tops = record { below = λ i lt. lt; roots = λ i lt. absurd (omega arith); links = λ i j lt. absurd (omega arith); selves = λ i lt r. refl };
    capped = λ i lt. absurd (omega arith);
    parts = λ i q lt. absurd (omega arith);
    bare = λ i j lt. absurd (omega arith);
    afar = λ i j lt. absurd (omega arith);
    homes = λ m lt. absurd (omega arith);
    once = λ i lt. absurd (omega arith);
    seated = λ n i lt. absurd (omega arith);
  };
})

solves_free : (T : Tables) (K : Kinds) (a : Sub) (nodes : List Node) → Solves T K a nodes → Solves T K a (nodes ++ new_node form.Free ∷ [])
solves_free T K a nodes s = record {
  fits = λ i lt. elim (lt_or i (length nodes)) as (λ d. Fits T K a (a i) (node_at (nodes ++ new_node form.Free ∷ []) i)) [
    | inl h ↦ subst (Fits T K a (a i)) (sym (node_old nodes (new_node form.Free) i h)) (s.fits i h)
    | inr h ↦ let z : length nodes ≡ i = (let l : length (nodes ++ new_node form.Free ∷ []) ≡ suc (length nodes) = long_new nodes (new_node form.Free) in omega arith) in
        subst (λ j. Fits T K a (a j) (node_at (nodes ++ new_node form.Free ∷ []) j)) z (subst (Fits T K a (a (length nodes))) (sym (node_new nodes (new_node form.Free))) (record { shows = tt; has = omega arith }))
  ];
}

pub blank_more : (count : ℕ) (nodes nodes' : List Node) → Blank count nodes → nodes' ≡ nodes ++ new_node form.Free ∷ [] → length nodes < 4294967294 → Blank (count + 1) nodes'
blank_more count nodes nodes' b is room = subst (Blank (count + 1)) (sym is) (record {
  graph = graph_push nodes form.Free b.graph (omega arith) tt tt;
  long = long_new nodes (new_node form.Free) ∙ (let e : length nodes ≡ count = b.long in omega arith);
  bound = λ table m. bound_push table m nodes (new_node form.Free) (b.bound table m) tt;
  inside = λ T. (grown_push T nodes form.Free b.graph (b.inside T) (omega arith) tt tt tt).inside;
  solves = λ T K a. solves_free T K a nodes (b.solves T K a);
  ready = λ T. (grown_push T nodes form.Free b.graph (b.inside T) (omega arith) tt tt tt).state (λ n. far) 0 (omega arith) (b.ready T);
})
