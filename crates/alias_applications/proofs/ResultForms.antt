-- What a function's body gives back, one component after another.
use Rattle.std.proofs.Common.{◌≡◌, ℕ, zero, suc, ◌+◌, ◌<◌, ◌≤◌, List, [], ◌∷◌, ◌++◌, length, get_or, take, drop, Bool, true, false, ◌||◌, ◌&&◌, cond, Option, Some, None, Result, Ok, Err, refl, sym, ap, ◌∙◌, subst, add-one, append-nil, append_assoc, arith}
use Rattle.std.specs.Prelude.{nat_eq}
use Rattle.std.specs.Borrow.{Bor}
use Rattle.std.proofs.lemmas.Bool.{eqb-true}
use Rattle.fut_types.specs.Types.{Kinds, Sub}
use Rattle.fut_typing.specs.Names.{Names}
use Rattle.fut_aliases.specs.declared.aliases.Alias.{Alias}
use Rattle.fut_aliases.specs.declared.aliases.Alias.TheVariants.{Part, Own}
use Rattle.fut_aliases.specs.declared.refusals.Broken.{Broken}
use Rattle.fut_aliases.specs.declared.refusals.Broken.TheVariants.{ResultAliases}
use Rattle.fut_aliases.specs.declared.refusals.Named.TheVariants.{ByAlias}
use Rattle.fut_aliases.specs.declared.refusals.Spot.TheVariants.{First}
use Rattle.fut_aliases.specs.Aliases.{Naming, Set, is_alias, is_before, is_in, those, union, with_alias}
use Rattle.fut_aliases.specs.Calls as definition
use Rattle.fut_aliases.specs.Calls.{Here, too_hungry, too_shared}
use Rattle.fut_aliases.specs.Looking.{give_back, shared_in_result}
use Rattle.fut_aliases.specs.Operations.{ascribe}
use Rattle.fut_aliases.specs.Stars.{Stars}
use Rattle.fut_aliases.specs.Steps.{Losses, Step, give, and_then, demand, or_else, some_alias}
use Rattle.fut_aliases.specs.Values.{Component, ascribed, starring}
use Rattle.alias_values.specs.declared.trees.ValueTree.{ValueTree}
use Rattle.alias_values.specs.Trees.{value_of}
use Rattle.alias_values.proofs.Rows.{drop_past, one_more}
use Rattle.alias_calls.specs.declared.sides.Side.{Side}
use Rattle.uniqueness.specs.Answers.{Grows, Stepped, stepped, refused, no_memory}
use Rattle.uniqueness.specs.declared.held.Stop.{Stop}
use Rattle.uniqueness.proofs.Growing.{grows_not}
use Rattle.alias_applications.specs.Rules.{component_of, components_of}
use Rattle.alias_applications.specs.Results.{body_rules, from_outside, sets_of, shared_component, shared_components}
use Rattle.alias_applications.specs.Shown.{shown_value}
use Rattle.alias_applications.proofs.StepForms.{bind_ok, bind_stop, given, reworded}

-- ---- those of a set

module _ (test : Alias → Bool) (s made : Set) (i : ℕ) (h : those test s ≡ made ++ those test (drop i s)) where
  those_at : (d : Alias) → i < length s → those test s ≡ made ++ cond (test (get_or s i d)) (get_or s i d ∷ those test (drop (i + 1) s)) (those test (drop (i + 1) s))
  unfolding those
  those_at d l = h ∙ ap (λ z. made ++ those test z) (one_more s i d l)

  pub those_kept : (d : Alias) (longer : Set) → i < length s → true ≡ test (get_or s i d) → longer ≡ made ++ get_or s i d ∷ [] → those test s ≡ longer ++ those test (drop (i + 1) s)
  those_kept d longer l t e = those_at d l ∙ ap (λ z. made ++ cond z (get_or s i d ∷ those test (drop (i + 1) s)) (those test (drop (i + 1) s))) (sym t)
      ∙ sym (append_assoc made (get_or s i d ∷ []) (those test (drop (i + 1) s))) ∙ ap (λ z. z ++ those test (drop (i + 1) s)) (sym e)

  pub those_left : (d : Alias) → i < length s → false ≡ test (get_or s i d) → those test s ≡ made ++ those test (drop (i + 1) s)
  those_left d l t = those_at d l ∙ ap (λ z. made ++ cond z (get_or s i d ∷ those test (drop (i + 1) s)) (those test (drop (i + 1) s))) (sym t)

  pub those_end : length s ≤ i → made ≡ those test s
  unfolding those
  those_end l = sym (h ∙ ap (λ z. made ++ those test z) (drop_past s i l) ∙ append-nil made)

pub those_start : (test : Alias → Bool) (s made : Set) → made ≡ [] → those test s ≡ made ++ those test (drop 0 s)
those_start test s made e = ap (λ z. z ++ those test s) (sym e)

pub ruleset those_forms = (those_start, those_kept, those_left, those_end)

-- ---- in the sets of components

and_left : (a b : Bool) → a && b ≡ true → a ≡ true
and_left true b e = refl
and_left false b e = e

and_right : (a b : Bool) → a && b ≡ true → b ≡ true
and_right true b e = e
and_right false b e = cc

same_alias : (a b c : Alias) → is_alias b c ≡ true → is_alias a b ≡ is_alias a c
same_alias (Part n i p) (Part m j q) (Part k l r) e =
    ap (λ z. nat_eq n z && nat_eq i j) (eqb-true m k (and_left (nat_eq m k) (nat_eq j l) e)) ∙ ap (λ z. nat_eq n k && nat_eq i z) (eqb-true j l (and_right (nat_eq m k) (nat_eq j l) e))
same_alias (Own n) (Part m j q) (Part k l r) e = refl
same_alias (Part n i p) (Own m) (Own k) e = refl
same_alias (Own n) (Own m) (Own k) e = ap (nat_eq n) (eqb-true m k e)
same_alias a (Part m j q) (Own k) e = cc
same_alias a (Own m) (Part k l r) e = cc

or_same : (a b : Bool) → a || b ≡ a || (a || b)
or_same true b = refl
or_same false b = refl

or_swap : (a b c : Bool) → a || (b || c) ≡ b || (a || c)
or_swap true true c = refl
or_swap true false c = refl
or_swap false b c = refl

or_further : (a b c : Bool) → (a || b) || c ≡ a || (b || c)
or_further true b c = refl
or_further false b c = refl

in_with : (a b : Alias) (s : Set) → is_in a (with_alias b s) ≡ is_alias a b || is_in a s
unfolding is_in with_alias
in_with a b [] = refl
in_with a b (c ∷ s) = by_place (is_before b c) (is_alias b c) (same_alias a b c) (in_with a b s)
  where
    by_place : (t k : Bool) → (k ≡ true → is_alias a b ≡ is_alias a c) → is_in a (with_alias b s) ≡ is_alias a b || is_in a s → is_in a (cond t (b ∷ c ∷ s) (cond k (c ∷ s) (c ∷ with_alias b s))) ≡ is_alias a b || (is_alias a c || is_in a s)
    by_place true k e rest = refl
    by_place false true e rest = or_same (is_alias a c) (is_in a s) ∙ ap (λ z. z || (is_alias a c || is_in a s)) (sym (e refl))
    by_place false false e rest = ap (λ z. is_alias a c || z) rest ∙ or_swap (is_alias a c) (is_alias a b) (is_in a s)

in_union : (a : Alias) (s t : Set) → is_in a (union s t) ≡ is_in a s || is_in a t
unfolding is_in union
in_union a [] t = refl
in_union a (b ∷ s) t = in_with a b (union s t) ∙ ap (λ z. is_alias a b || z) (in_union a s t) ∙ sym (or_further (is_alias a b) (is_in a s) (is_in a t))

in_both : (a : Alias) (cs ds : List Component) → is_in a (sets_of (cs ++ ds)) ≡ is_in a (sets_of cs) || is_in a (sets_of ds)
unfolding is_in
in_both a [] ds = refl
in_both a (c ∷ cs) ds = in_union a c.set (sets_of (cs ++ ds)) ∙ ap (λ z. is_in a c.set || z) (in_both a cs ds) ∙ sym (or_further (is_in a c.set) (is_in a (sets_of cs)) (is_in a (sets_of ds)))
    ∙ ap (λ z. z || is_in a (sets_of ds)) (sym (in_union a c.set (sets_of cs)))

pub in_first : (a : Alias) (cs ds : List Component) (b : Bool) → b ≡ is_in a (sets_of cs) → b ≡ true → true ≡ is_in a (sets_of (cs ++ ds))
in_first a cs ds b e t = sym (in_both a cs ds ∙ ap (λ z. z || is_in a (sets_of ds)) (sym e ∙ t))

pub in_second : (a : Alias) (cs ds : List Component) (b d : Bool) → b ≡ is_in a (sets_of cs) → b ≡ false → d ≡ is_in a (sets_of ds) → d ≡ is_in a (sets_of (cs ++ ds))
in_second a cs ds b d e t f = f ∙ sym (in_both a cs ds ∙ ap (λ z. z || is_in a (sets_of ds)) (sym e ∙ t))

module _ (a : Alias) (xs : List Side) (i : ℕ) (h : is_in a (sets_of (components_of xs)) ≡ is_in a (sets_of (components_of (drop i xs)))) where
  in_at : (d : Side) → i < length xs → is_in a (sets_of (components_of xs)) ≡ is_in a (get_or xs i d).set.now || is_in a (sets_of (components_of (drop (i + 1) xs)))
  in_at d l = h ∙ ap (λ z. is_in a (sets_of (components_of z))) (one_more xs i d l) ∙ in_union a (get_or xs i d).set.now (sets_of (components_of (drop (i + 1) xs)))

  pub in_more : (d : Side) → i < length xs → false ≡ is_in a (get_or xs i d).set.now → is_in a (sets_of (components_of xs)) ≡ is_in a (sets_of (components_of (drop (i + 1) xs)))
  in_more d l e = in_at d l ∙ ap (λ z. z || is_in a (sets_of (components_of (drop (i + 1) xs)))) (sym e)

  pub in_here : (d : Side) → i < length xs → true ≡ is_in a (get_or xs i d).set.now → true ≡ is_in a (sets_of (components_of xs))
  in_here d l e = sym (in_at d l ∙ ap (λ z. z || is_in a (sets_of (components_of (drop (i + 1) xs)))) (sym e))

  pub in_end : length xs ≤ i → false ≡ is_in a (sets_of (components_of xs))
  unfolding is_in
  in_end l = sym (h ∙ ap (λ z. is_in a (sets_of (components_of z))) (drop_past xs i l))

pub ruleset in_forms = (in_more, in_here, in_end)

-- ---- one component

module _ (from : ℕ) (fixed set : Set) (others : List Component) where
  pub plain_component : (b : Bool) (s : Set) → b ≡ false → s ≡ [] → s ≡ shared_component from fixed b set others
  plain_component b s e f = f ∙ sym (ap (λ z. shared_component from fixed z set others) e)

  pub starred_component : (b : Bool) (s t u : Set) → b ≡ true → s ≡ those (from_outside from fixed) set → t ≡ those (λ a. is_in a (sets_of others)) set → u ≡ union s t → u ≡ shared_component from fixed b set others
  starred_component b s t u e f g k = k ∙ ap (λ z. union z t) f ∙ ap (union (those (from_outside from fixed) set)) g ∙ sym (ap (λ z. shared_component from fixed z set others) e)

pub ruleset component_forms = (plain_component, starred_component)

-- ---- all components, from the last on

take_next : (s : List Side) (i : ℕ) (d : Side) → i < length s → take (suc i) s ≡ take i s ++ get_or s i d ∷ []
take_next [] i d l = absurd (omega (arith, l))
take_next (x ∷ s) zero d l = refl
take_next (x ∷ s) (suc i) d l = ap (λ z. x ∷ z) (take_next s i d (omega (arith, l)))

take_more : (s : List Side) (i : ℕ) (d : Side) → i < length s → take (i + 1) s ≡ take i s ++ get_or s i d ∷ []
take_more s i d l = ap (λ k. take k s) (add-one i) ∙ take_next s i d l

components_both : (xs ys : List Side) → components_of (xs ++ ys) ≡ components_of xs ++ components_of ys
components_both [] ys = refl
components_both (x ∷ xs) ys = ap (λ z. component_of x ∷ z) (components_both xs ys)

module _ (from : ℕ) (fixed : Set) (xs : List Side) where
  abbrev behind_place : ℕ → Set
  behind_place i = shared_components from fixed (components_of (take i xs)) (components_of (drop i xs))

  pub shared_start : (s : Set) → s ≡ [] → s ≡ behind_place (length xs)
  shared_start s e = e ∙ sym (ap (λ z. shared_components from fixed (components_of (take (length xs) xs)) (components_of z)) (drop_past xs (length xs) (omega arith)))

  pub shared_more : (i j : ℕ) (d : Side) (before behind : List Side) (s one longer : Set) → j + 1 ≡ i → i ≤ length xs → s ≡ behind_place i → before ≡ take j xs → behind ≡ drop (j + 1) xs
      → one ≡ shared_component from fixed (get_or xs j d).starred (get_or xs j d).set.now (components_of before ++ components_of behind) → longer ≡ union one s → longer ≡ behind_place j
  shared_more i j d before behind s one longer e l h p q o m =
      m ∙ ap (λ z. union z s) (o ∙ ap (λ z. shared_component from fixed (get_or xs j d).starred (get_or xs j d).set.now (components_of z ++ components_of behind)) p
      ∙ ap (λ z. shared_component from fixed (get_or xs j d).starred (get_or xs j d).set.now (components_of (take j xs) ++ components_of z)) q)
      ∙ ap (union (shared_component from fixed (get_or xs j d).starred (get_or xs j d).set.now (components_of (take j xs) ++ components_of (drop (j + 1) xs))))
      (h ∙ ap behind_place (sym e) ∙ ap (λ z. shared_components from fixed z (components_of (drop (j + 1) xs))) (ap components_of (take_more xs j d (omega (arith, e, l))) ∙ components_both (take j xs) (get_or xs j d ∷ [])))
      ∙ sym (ap (λ z. shared_components from fixed (components_of (take j xs)) (components_of z)) (one_more xs j d (omega (arith, e, l))))

  pub shared_end : (i : ℕ) (s : Set) → i ≤ 0 → s ≡ behind_place i → s ≡ shared_components from fixed [] (components_of xs)
  shared_end i s z h = let e : i ≡ 0 = omega (arith, z) in h ∙ ap behind_place e

pub ruleset shared_forms = (shared_start, shared_more, shared_end)

-- ---- the rules of a body

module _ (from : ℕ) (fixed : Set) (u : Stars) (a : definition.Held) where
  pub body_is : (hungry shared_rule less rest all : Option Broken) (xs : List Side) (s : Set) → hungry ≡ too_hungry u a → components_of xs ≡ starring u a.value → s ≡ shared_components from fixed [] (components_of xs) → less ≡ too_shared u a
      → shared_rule ≡ some_alias (λ n. ResultAliases n (First a.node)) s → rest ≡ or_else shared_rule less → all ≡ or_else hungry rest → all ≡ body_rules from fixed u a
  body_is hungry shared_rule less rest all xs s e x f g k m n =
      n ∙ ap (λ z. or_else z rest) e ∙ ap (or_else (too_hungry u a)) (m ∙ ap (or_else shared_rule) g
      ∙ ap (λ z. or_else z (too_shared u a)) (k ∙ ap (some_alias (λ n. ResultAliases n (First a.node))) (f ∙ ap (shared_components from fixed []) x)))

pub ruleset body_forms = (body_is)

two_demands : (asked : Bool) (r s : Option Broken) (ls : Losses) → and_then (demand asked r) (λ z. demand asked s) ls ≡ demand asked (or_else r s) ls
two_demands false r s ls = refl
two_demands true None s ls = refl
two_demands true (Some b) s ls = refl

two_demands_give : {A : Type 0} (asked : Bool) (r s : Option Broken) (next : Step A) (ls : Losses) → and_then (demand asked r) (λ z. and_then (demand asked s) (λ y. next)) ls ≡ and_then (demand asked (or_else r s)) (λ z. next) ls
two_demands_give false r s next ls = refl
two_demands_give true None s next ls = refl
two_demands_give true (Some b) s next ls = refl

module _ (naming : Naming) (N : Names) (K : Kinds) (types : Sub) (h : Here) (u : Stars) (a : definition.Held) (ls : Losses) where
  back_is : give_back naming N K types h u a ls ≡ demand h.asked (body_rules h.function_from h.fixed u a) ls
  back_is = two_demands h.asked (too_hungry u a) (or_else (some_alias (λ n. ResultAliases n (First a.node)) (shared_in_result naming N K types h [] (starring u a.value))) (too_shared u a)) ls

  pub back_done : (rule : Option Broken) (r : Result (Unit {0}) Stop) → rule ≡ body_rules h.function_from h.fixed u a → Stepped (λ (z : Unit {0}). tt) (demand h.asked rule) ls ls r → Stepped (λ (z : Unit {0}). tt) (give_back naming N K types h u a) ls ls r
  back_done rule r e m = reworded (λ (z : Unit {0}). tt) (demand h.asked rule) (give_back naming N K types h u a) ls ls r (back_is ∙ ap (λ z. demand h.asked z ls) (sym e)) m

  pub back_not : h.asked ≡ false → Stepped (λ (z : Unit {0}). tt) (give_back naming N K types h u a) ls ls (Ok tt)
  back_not e = stepped (back_is ∙ ap (λ z. demand z (body_rules h.function_from h.fixed u a) ls) e) (grows_not ls)

-- the least of a set
pub least_none : (n : ℕ) (s : Set) → length s ≡ 0 → None ≡ some_alias (λ m. ResultAliases m (First n)) s
least_none n [] e = refl
least_none n (a ∷ s) e = absurd (omega (arith, e))

pub least_some : (n : ℕ) (s : Set) (d : Alias) → 0 < length s → Some (ResultAliases (ByAlias (get_or s 0 d)) (First n)) ≡ some_alias (λ m. ResultAliases m (First n)) s
least_some n [] d l = absurd (omega (arith, l))
least_some n (a ∷ s) d l = refl

pub ruleset least_forms = (least_none, least_some)

-- ---- a written type

pub fits_not : (asked : Bool) (rule : Option Broken) (ls : Losses) → asked ≡ false → Stepped (λ (z : Unit {0}). tt) (demand asked rule) ls ls (Ok tt)
fits_not asked rule ls e = stepped (ap (λ z. demand z rule ls) e) (grows_not ls)

pub fits_as : (asked : Bool) (one other rule r s : Option Broken) (ls : Losses) (a : Result (Unit {0}) Stop) → one ≡ r → other ≡ s → rule ≡ or_else one other → Stepped (λ (z : Unit {0}). tt) (demand asked rule) ls ls a → Stepped (λ (z : Unit {0}). tt) (demand asked (or_else r s)) ls ls a
fits_as asked one other rule r s ls a e f g m = subst (λ z. Stepped (λ (y : Unit {0}). tt) (demand asked z) ls ls a) (g ∙ ap (λ z. or_else z other) e ∙ ap (or_else r) f) m

pub ruleset fit_forms = (fits_not, no_memory)

module _ (h : Here) (u : Stars) (a : definition.Held) (ls : Losses) where
  abbrev fitting : Step (Unit {0})
  fitting = demand h.asked (or_else (too_hungry u a) (too_shared u a))

  ascribed_is : ascribe h u a ls ≡ and_then fitting (λ z. give (ascribed u a.value)) ls
  ascribed_is = two_demands_give h.asked (too_hungry u a) (too_shared u a) (give (ascribed u a.value)) ls

  pub ascribed_stop : (s : Stop) → Stepped (λ (z : Unit {0}). tt) fitting ls ls (Err s) → Stepped shown_value (ascribe h u a) ls ls (Err s)
  ascribed_stop s m = reworded shown_value (and_then fitting (λ z. give (ascribed u a.value))) (ascribe h u a) ls ls (Err s) ascribed_is (bind_stop (λ (z : Unit {0}). tt) shown_value fitting (λ z. give (ascribed u a.value)) ls ls ls s m)

  pub ascribed_done : (v : Bor ValueTree) → Stepped (λ (z : Unit {0}). tt) fitting ls ls (Ok tt) → value_of v.now ≡ ascribed u a.value → Stepped shown_value (ascribe h u a) ls ls (Ok v)
  ascribed_done v m e = reworded shown_value (and_then fitting (λ z. give (ascribed u a.value))) (ascribe h u a) ls ls (Ok v) ascribed_is (bind_ok (λ (z : Unit {0}). tt) shown_value fitting (λ z. give (ascribed u a.value)) ls ls ls tt (Ok v) m (given shown_value (ascribed u a.value) v ls e))
