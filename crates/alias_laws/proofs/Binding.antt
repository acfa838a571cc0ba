-- What patterns bind, by the checker's sets and by whole ones.
use Rattle.std.proofs.Common.{◌≡◌, ℕ, ◌≤◌, ◌<◌, ◌+◌, Bool, true, false, ◌||◌, cond, List, [], ◌∷◌, Some, ◌⊎◌, inl, inr, refl, sym, ap, subst, ◌∙◌, arith}
use Rattle.std.specs.Prelude.{nat_eq, nat_lt}
use Rattle.std.proofs.lemmas.Bool.{or_cases, eqb-true, eq-eqb}
use Rattle.fut_ast.specs.Sorts.{Text}
use Rattle.fut_scalar.specs.declared.place.BindId.{BindId}
use Rattle.fut_flat.specs.declared.prim.Ref.{Ref}
use Rattle.fut_flat.specs.Terms.{Bound_pattern, Wild_pattern, Tuple_pattern, Record_pattern, Typed_pattern, Patterns, no_pattern, pattern_and}
use Rattle.fut_flat.specs.Numbers.{pattern_numbers, all_pattern_numbers}
use Rattle.fut_flat.specs.Erased.{FlatPattern}
use Rattle.fut_types.specs.Types.{Sub}
use Rattle.fut_typing.specs.Names.{Names}
use Rattle.fut_aliases.specs.Aliases.{Set, with_alias, first_name_alone}
use Rattle.fut_aliases.specs.Stars.{written_stars}
use Rattle.fut_aliases.specs.Values.{Value, Values, named, components, nth}
use Rattle.fut_aliases.specs.Patterns.{Scope, with_value, bound, all_bound, fields_bound}
use Rattle.fut_aliases.specs.Aliases.{is_in}
use Rattle.fut_aliases.specs.declared.aliases.Alias.TheVariants.{Part, Own}
use Rattle.alias_laws.proofs.Sets.{same_itself}
use Rattle.alias_laws.proofs.Worlds.{World, standing, node, SetR, Grows, grows_not, grows_on}
use Rattle.alias_laws.proofs.Values.{ValueR, scalars, arrays, functions_are, parts_are, ValuesR, no_values, more_values, value_on, values_on, components_are, nth_is, ascribed_is, part_named_is}
use Rattle.alias_laws.proofs.Naming.{stand, with_names, names_grow, stands_all, named_is}
use Rattle.alias_laws.proofs.Stepping.{Only, only_these, only_wider, only_on, Free, free_on, free_part, avoiding, plain, avoiding_less}
use Rattle.alias_laws.proofs.Calling.{MaybeR, a_value_is, maybe_on, ScopeR}

-- a world that knows the names of a part of the text too, and the scopes behind it
pub record Binds (w : World) (lo hi : ℕ) (scope scope' : Scope) : Type 0 where
  pub world : World
  pub grows : Grows w world
  pub only : Only w world lo hi
  pub scopes : ScopeR world scope scope'

pub scope_on : {w w2 : World} {scope scope' : Scope} → Grows w w2 → ScopeR w scope scope' → ScopeR w2 scope scope'
scope_on g p b = maybe_on g (p b)

pub with_value_is : {w : World} {v v' : Value} {scope scope' : Scope} (b : ℕ) → ValueR (plain w) v v' → ScopeR w scope scope' → ScopeR w (with_value b v scope) (with_value b v' scope')
with_value_is {w} {v} {v'} {scope} {scope'} b p q c = by_name (nat_eq c b)
  where
    by_name : (x : Bool) → MaybeR w (cond x (Some v) (scope c)) (cond x (Some v') (scope' c))
    by_name true = a_value_is p
    by_name false = q c

pub names_only : (w : World) (n : ℕ) (ss : List Set) (lo hi : ℕ) → lo ≤ n → n < hi → Only w (with_names (plain w) n ss) lo hi
unfolding with_names
names_only w n ss lo hi l h = record { only = λ m k. by_place m (or_cases (nat_eq m n) (w.known m) k) }
  where
    by_place : (m : ℕ) → (nat_eq m n ≡ true) ⊎ (w.known m ≡ true) → (w.known m ≡ true) ⊎ ((lo ≤ m) × (m < hi))
    by_place m (inl e) = let z : m ≡ n = eqb-true m n e in inr (omega arith, omega arith)
    by_place m (inr e) = inl e

pub known_now : (w : World) (n : ℕ) (ss : List Set) → (with_names w n ss).known n ≡ true
unfolding with_names
known_now w n ss = ap (λ x. x || w.known n) (eq-eqb n n refl)

-- ---- what stands for the names

-- what stands for a name of a set that has nothing near is itself, or not near
stand_apart : {w0 w : World} (near : ℕ → Bool) {s s' : Set} (n i : ℕ) → Grows w0 w → SetR (avoiding w0 (λ a. near (node a))) s s' → (stand w n i s ≡ (n, i)) ⊎ (near (stand w n i s).0 ≡ false)
unfolding is_in
stand_apart near {s = []} n i g p = inl refl
stand_apart near {s = Own m ∷ s} n i g p = inl refl
stand_apart {w0} {w} near {s = Part m j c ∷ s} n i g p = by_order (nat_lt m n)
  where
    here : is_in (Part m j c) (Part m j c ∷ s) ≡ true
    here = ap (λ x. x || is_in (Part m j c) s) (same_itself (Part m j c))

    apart : near (w.first m j).0 ≡ false
    apart = ap (λ x. near x.0) (g.agrees m j (p.stood (Part m j c) here).is_known) ∙ (p.stood (standing w0 (Part m j c)) (p.stood (Part m j c) here).has).is_not

    by_order : (x : Bool) → (cond x (w.first m j) (n, i) ≡ (n, i)) ⊎ (near (cond x (w.first m j) (n, i)).0 ≡ false)
    by_order true = inr apart
    by_order false = inl refl

-- names of a part of the text, of which each stands for itself, or something for it that is not near
pub record Bound (w : World) (near : ℕ → Bool) (lo hi : ℕ) (scope scope' : Scope) : Type 0 where
  pub binds : Binds w lo hi scope scope'
  pub stems : (n i : ℕ) → binds.world.known n ≡ true → w.known n ≡ false → (binds.world.first n i ≡ (n, i)) ⊎ (near (binds.world.first n i).0 ≡ false)

-- one name at n
bind_from : {w0 w : World} (near : ℕ → Bool) {v v' : Value} {scope scope' : Scope} (parameter : Bool) (b : BindId) (n lo hi : ℕ) → lo ≤ n → n < hi → w.known n ≡ false → Grows w0 w → ValueR (avoiding w0 (λ a. near (node a))) v v' → ScopeR w scope scope'
    → Bound w near lo hi (with_value b.0 (named with_alias parameter n b 0 v) scope) (with_value b.0 (named first_name_alone parameter n b 0 v') scope')
unfolding with_names
bind_from {w0} {w} near {v} parameter b n lo hi l h u g0 p q = let w2 = with_names (plain w) n (components v) in let g : Grows (plain w) w2 = names_grow (plain w) n (components v) u in let g2 : Grows w w2 = record { knows = g.knows; agrees = g.agrees; avoids = λ a k. refl } in record {
  binds = record {
    world = w2;
    grows = g2;
    only = names_only w n (components v) lo hi l h;
    scopes = with_value_is b.0 (named_is {w = plain w} {w2 = w2} n b u g (known_now (plain w) n (components v)) (λ c. refl) parameter 0 (value_on (avoiding_less g0 (λ a k. refl)) p) (stands_all (plain w) n (components v))) (scope_on g2 q);
  };
  stems = λ m i k z. by_name m i (nat_eq m n) refl k z;
}
  where
    by_name : (m i : ℕ) (x : Bool) → nat_eq m n ≡ x → (x || w.known m) ≡ true → w.known m ≡ false → (cond x (stand (plain w) n i (nth (components v) i)) (w.first m i) ≡ (m, i)) ⊎ (near (cond x (stand (plain w) n i (nth (components v) i)) (w.first m i)).0 ≡ false)
    by_name m i false e k z = cc
    by_name m i true e k z = subst (λ y. (stand (plain w) n i (nth (components v) i) ≡ (y, i)) ⊎ (near (stand (plain w) n i (nth (components v) i)).0 ≡ false)) (sym (eqb-true m n e)) (stand_apart {w0 = w0} {w = plain w} near n i (record { knows = g0.knows; agrees = g0.agrees; avoids = λ a y. refl }) (nth_is (components_are p) i))

abbrev pub binds_not : {w : World} {scope scope' : Scope} (lo hi : ℕ) → ScopeR w scope scope' → Binds w lo hi scope scope'
binds_not {w} lo hi q = record { world = w; grows = grows_not w; only = only_these w lo hi; scopes = q }

abbrev pub binds_on : {w : World} {lo mi lo2 hi : ℕ} {scope scope' scope2 scope2' : Scope} → lo ≤ lo2 → mi ≤ hi → (b : Binds w lo mi scope scope') → Binds b.world lo2 hi scope2 scope2' → Binds w lo hi scope2 scope2'
binds_on l h b c = record { world = c.world; grows = grows_on b.grows c.grows; only = only_on l h b.only c.only; scopes = c.scopes }

abbrev pub binds_wider : {w : World} {lo hi lo2 hi2 : ℕ} {scope scope' : Scope} → lo2 ≤ lo → hi ≤ hi2 → Binds w lo hi scope scope' → Binds w lo2 hi2 scope scope'
binds_wider l h b = record { world = b.world; grows = b.grows; only = only_wider l h b.only; scopes = b.scopes }

pub plain_on : {w w2 : World} {v v' : Value} → Grows w w2 → ValueR (plain w) v v' → ValueR (plain w2) v v'
plain_on g p = value_on (avoiding_less g (λ a h. h)) p

pub plains_on : {w w2 : World} {vs vs' : Values} → Grows w w2 → ValuesR (plain w) vs vs' → ValuesR (plain w2) vs vs'
plains_on g p = values_on (avoiding_less g (λ a h. h)) p

bound_not : {w : World} {near : ℕ → Bool} {scope scope' : Scope} (lo hi : ℕ) → ScopeR w scope scope' → Bound w near lo hi scope scope'
bound_not lo hi q = record { binds = binds_not lo hi q; stems = λ n i k z. cc }

bound_wider : {w : World} {near : ℕ → Bool} {lo hi lo2 hi2 : ℕ} {scope scope' : Scope} → lo2 ≤ lo → hi ≤ hi2 → Bound w near lo hi scope scope' → Bound w near lo2 hi2 scope scope'
bound_wider l h b = record { binds = binds_wider l h b.binds; stems = b.stems }

bound_on : {w : World} {near : ℕ → Bool} {lo mi lo2 hi : ℕ} {scope scope' scope2 scope2' : Scope} → lo ≤ lo2 → mi ≤ hi → (b : Bound w near lo mi scope scope') → Bound b.binds.world near lo2 hi scope2 scope2' → Bound w near lo hi scope2 scope2'
bound_on {w} {near} l h b c = record { binds = binds_on l h b.binds c.binds; stems = λ n i k z. by_known n i (b.binds.world.known n) refl k z }
  where
    by_known : (n i : ℕ) (x : Bool) → b.binds.world.known n ≡ x → c.binds.world.known n ≡ true → w.known n ≡ false → (c.binds.world.first n i ≡ (n, i)) ⊎ (near (c.binds.world.first n i).0 ≡ false)
    by_known n i true e k z = subst (λ p. (p ≡ (n, i)) ⊎ (near p.0 ≡ false)) (sym (c.binds.grows.agrees n i e)) (b.stems n i e z)
    by_known n i false e k z = c.stems n i k e

module _ (N : Names) (types : Sub) where
  module _ (near : ℕ → Bool) where
    mutual
      unfolding bound all_bound fields_bound

      pub bound_from : {w0 w : World} {v v' : Value} {scope scope' : Scope} (parameter : Bool) (p : FlatPattern) (q : ℕ) → Grows w0 w → Free w q (q + pattern_numbers p) → ValueR (avoiding w0 (λ a. near (node a))) v v' → ScopeR w scope scope'
          → Bound w near q (q + pattern_numbers p) (bound with_alias N types parameter p q v scope) (bound first_name_alone N types parameter p q v' scope')
      bound_from {w} parameter (Bound_pattern b) q g f x s = bind_from near parameter b q q (q + 1) (omega arith) (omega arith) (f q (omega arith) (omega arith)) g x s
      bound_from parameter Wild_pattern q g f x s = bound_not q (q + 1) s
      bound_from {w = w} parameter (Tuple_pattern ps) q g f (parts_are xs) s = bound_wider (omega arith) (omega arith) (all_bound_from parameter ps (1 + q) g (free_part w (omega arith) (omega arith) f) xs s)
      bound_from parameter (Tuple_pattern ps) q g f scalars s = bound_not q _ s
      bound_from parameter (Tuple_pattern ps) q g f (arrays x) s = bound_not q _ s
      bound_from parameter (Tuple_pattern ps) q g f (functions_are x) s = bound_not q _ s
      bound_from {w = w} parameter (Record_pattern fs ps) q g f x s = bound_wider (omega arith) (omega arith) (fields_bound_from parameter fs ps (1 + q) g (free_part w (omega arith) (omega arith) f) x s)
      bound_from parameter (Typed_pattern p e) q g f x s = bound_from parameter p q g f (ascribed_is (written_stars N false e (types q)) x) s

      all_bound_from : {w0 w : World} {vs vs' : Values} {scope scope' : Scope} (parameter : Bool) (ps : Patterns Ref BindId) (q : ℕ) → Grows w0 w → Free w q (q + all_pattern_numbers ps) → ValuesR (avoiding w0 (λ a. near (node a))) vs vs' → ScopeR w scope scope'
          → Bound w near q (q + all_pattern_numbers ps) (all_bound with_alias N types parameter ps q vs scope) (all_bound first_name_alone N types parameter ps q vs' scope')
      all_bound_from parameter no_pattern q g f xs s = bound_not q _ s
      all_bound_from parameter (pattern_and p ps) q g f no_values s = bound_not q _ s
      all_bound_from {w = w} parameter (pattern_and p ps) q g f (more_values x xs) s =
          let b = bound_from parameter p q g (free_part w (omega arith) (omega arith) f) x s in
          bound_on {lo2 = q + pattern_numbers p} (omega arith) (omega arith) b (bound_wider (omega arith) (omega arith) (all_bound_from parameter ps (q + pattern_numbers p) (grows_on g b.binds.grows) (free_on b.binds.only (free_part w (omega arith) (omega arith) f)) xs b.binds.scopes))

      fields_bound_from : {w0 w : World} {v v' : Value} {scope scope' : Scope} (parameter : Bool) (fs : List Text) (ps : Patterns Ref BindId) (q : ℕ) → Grows w0 w → Free w q (q + all_pattern_numbers ps) → ValueR (avoiding w0 (λ a. near (node a))) v v' → ScopeR w scope scope'
          → Bound w near q (q + all_pattern_numbers ps) (fields_bound with_alias N types parameter fs ps q v scope) (fields_bound first_name_alone N types parameter fs ps q v' scope')
      fields_bound_from parameter [] ps q g f x s = bound_not q _ s
      fields_bound_from parameter (h ∷ fs) no_pattern q g f x s = bound_not q _ s
      fields_bound_from {w = w} parameter (h ∷ fs) (pattern_and p ps) q g f x s =
          let b = bound_from parameter p q g (free_part w (omega arith) (omega arith) f) (part_named_is N h x) s in
          bound_on {lo2 = q + pattern_numbers p} (omega arith) (omega arith) b (bound_wider (omega arith) (omega arith) (fields_bound_from parameter fs ps (q + pattern_numbers p) (grows_on g b.binds.grows) (free_on b.binds.only (free_part w (omega arith) (omega arith) f)) x b.binds.scopes))

  pub bound_is : {w : World} {v v' : Value} {scope scope' : Scope} (parameter : Bool) (p : FlatPattern) (q : ℕ) → Free w q (q + pattern_numbers p) → ValueR (plain w) v v' → ScopeR w scope scope'
      → Binds w q (q + pattern_numbers p) (bound with_alias N types parameter p q v scope) (bound first_name_alone N types parameter p q v' scope')
  bound_is {w} parameter p q f x s = (bound_from (λ n. false) {w0 = w} parameter p q (grows_not w) f x s).binds

  pub fields_bound_is : {w : World} {v v' : Value} {scope scope' : Scope} (parameter : Bool) (fs : List Text) (ps : Patterns Ref BindId) (q : ℕ) → Free w q (q + all_pattern_numbers ps) → ValueR (plain w) v v' → ScopeR w scope scope'
      → Binds w q (q + all_pattern_numbers ps) (fields_bound with_alias N types parameter fs ps q v scope) (fields_bound first_name_alone N types parameter fs ps q v' scope')
  fields_bound_is {w} parameter fs ps q f x s = (fields_bound_from (λ n. false) {w0 = w} parameter fs ps q (grows_not w) f x s).binds
