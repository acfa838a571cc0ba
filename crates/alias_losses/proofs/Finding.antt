-- An alias is found along the chain of its node.
use Rattle.std.proofs.Common.{◌≡◌, ℕ, suc, ◌-◌, ◌<◌, ◌≤◌, true, false, cond, List, ◌∷◌, length, reverse, get_or, Some, None, sym, ap, ◌∙◌, subst, arith}
use Rattle.std.proofs.lemmas.Bool.{eqb-true}
use Rattle.fut_aliases.specs.declared.aliases.Alias.{Alias}
use Rattle.fut_aliases.specs.Aliases.{is_alias}
use Rattle.fut_aliases.specs.Steps.{behind, lost_at}
use Rattle.alias_losses.specs.declared.chains.Entry.{Entry}
use Rattle.alias_losses.specs.Chains.{node_of, last, seen, Chain, Chained}
use Rattle.alias_losses.proofs.Linked.{seen_low, seen_at, seen_past, from, last_low, chain_from, from_twice, seen_from, top_node, oldest, length_oldest, oldest_all, oldest_more, from_oldest, shown, found_shown}

-- What is looked for behind the oldest k entries is among the oldest so many, of which the newest is at its node.
pub record Walk (k : ℕ) (a : Alias) (es : List Entry) (at : ℕ) : Type 0 where
  pub whole : Chain (reverse es)
  pub within : at ≤ length es
  pub same : seen k a (reverse es) ≡ seen k a (oldest at es)
  pub chain : Chain (oldest at es)
  pub top : from (node_of a) (oldest at es) ≡ oldest at es

walk_from : (k : ℕ) (a : Alias) (es : List Entry) (i : ℕ) → Chain (reverse es) → i ≤ length es → seen k a (reverse es) ≡ seen k a (oldest i es) → Chain (oldest i es) → Walk k a es (last (node_of a) (oldest i es))
walk_from k a es i w l s c = let e : from (node_of a) (oldest i es) ≡ oldest (last (node_of a) (oldest i es)) es = from_oldest (node_of a) i es l in
    record {
      whole = w;
      within = omega (arith, l, last_low (node_of a) (oldest i es), length_oldest i es l);
      same = s ∙ seen_from k a (oldest i es) ∙ ap (seen k a) e;
      chain = subst Chain e (chain_from (node_of a) (oldest i es) c);
      top = ap (from (node_of a)) (sym e) ∙ from_twice (node_of a) (oldest i es) ∙ e;
    }

pub walk_start : (k : ℕ) (a : Alias) (es : List Entry) (newest : List ℕ) (at : ℕ) → Chained es newest → at ≡ get_or newest (node_of a) 0 → Walk k a es at
unfolding Chained
walk_start k a es newest at (c, heads) e =
    subst (Walk k a es) (sym (e ∙ heads (node_of a) ∙ ap (last (node_of a)) (sym (oldest_all es))))
    (walk_from k a es (length es) c (omega arith) (ap (seen k a) (sym (oldest_all es))) (subst Chain (sym (oldest_all es)) c))

module _ (k : ℕ) (a : Alias) (es : List Entry) (at : ℕ) (w : Walk k a es at) (l : k < at) (d : Entry) where
  one_more : oldest at es ≡ get_or es (at - 1) d ∷ oldest (at - 1) es
  one_more = let e : at ≡ suc (at - 1) = omega (arith, l) in ap (λ z. oldest z es) e ∙ oldest_more (at - 1) es d (omega (arith, l, w.within))

  at_node : node_of a ≡ node_of (get_or es (at - 1) d).loss.alias
  at_node = eqb-true (node_of a) (node_of (get_or es (at - 1) d).loss.alias) (top_node (node_of a) (get_or es (at - 1) d) (oldest (at - 1) es) (ap (from (node_of a)) (sym one_more) ∙ w.top ∙ one_more))

  chained : Chain (get_or es (at - 1) d ∷ oldest (at - 1) es)
  chained = subst Chain one_more w.chain

  before_is : (get_or es (at - 1) d).before ≡ last (node_of a) (oldest (at - 1) es)
  unfolding Chain
  before_is = chained.0 ∙ ap (λ n. last n (oldest (at - 1) es)) (sym at_node)

  rest : Chain (oldest (at - 1) es)
  unfolding Chain
  rest = chained.2

  pub walk_more : false ≡ is_alias a (get_or es (at - 1) d).loss.alias → Walk k a es (get_or es (at - 1) d).before
  walk_more h = subst (Walk k a es) (sym before_is)
      (walk_from k a es (at - 1) w.whole (omega (arith, l, w.within)) (w.same ∙ ap (seen k a) one_more ∙ seen_past k a (get_or es (at - 1) d) (oldest (at - 1) es) (sym h)) rest)

  pub walk_less : (get_or es (at - 1) d).before < at
  walk_less = omega (arith, l, before_is, last_low (node_of a) (oldest (at - 1) es), length_oldest (at - 1) es (omega (arith, l, w.within)))

  pub walk_found : true ≡ is_alias a (get_or es (at - 1) d).loss.alias → Some (get_or es (at - 1) d).loss.at ≡ lost_at (behind k (shown es)) a
  walk_found h = sym (sym (found_shown k a es w.whole) ∙ w.same ∙ ap (seen k a) one_more
      ∙ seen_at k a (get_or es (at - 1) d) (oldest (at - 1) es) (omega (arith, l, length_oldest (at - 1) es (omega (arith, l, w.within))))
      ∙ ap (λ s. cond s (Some (get_or es (at - 1) d).loss.at) (seen k a (oldest (at - 1) es))) (sym h))

pub walk_within : (k : ℕ) (a : Alias) (es : List Entry) (at : ℕ) → Walk k a es at → at ≤ length es
walk_within k a es at w = w.within

pub walk_end : (k : ℕ) (a : Alias) (es : List Entry) (at : ℕ) → Walk k a es at → at ≤ k → None ≡ lost_at (behind k (shown es)) a
walk_end k a es at w l = sym (sym (found_shown k a es w.whole) ∙ w.same ∙ seen_low k a (oldest at es) (omega (arith, l, length_oldest at es w.within)))

pub ruleset finding = (walk_less, walk_within)
