-- Applications by the checker's sets and by whole ones.
use Rattle.std.proofs.Common.{◌≡◌, ℕ, ◌≤◌, ◌<◌, suc, Bool, true, false, ◌||◌, ◌&&◌, cond, List, [], ◌∷◌, ◌++◌, Option, Some, None, ◌⊎◌, inl, inr, refl, sym, ap, ap₂, subst, subst₂, ◌∙◌, arith}
use Rattle.std.specs.Prelude.{nat_le, nat_eq}
use Rattle.std.proofs.lemmas.Bool.{or_cases, and_from, and_parts, eq-eqb, eqb-true}
use Rattle.fut_scalar.specs.declared.place.BindId.{BindId}
use Rattle.fut_types.specs.declared.Head.TheVariants as head
use Rattle.fut_types.specs.Types.{Ty, Var, Made, none, more, Kinds}
use Rattle.fut_aliases.specs.declared.aliases.Alias.{Alias}
use Rattle.fut_aliases.specs.declared.aliases.Alias.TheVariants.{Own}
use Rattle.fut_aliases.specs.declared.refusals.Broken.{Broken}
use Rattle.fut_aliases.specs.declared.refusals.Broken.TheVariants.{NotConsumable, Captured, Consumed, ResultAliases}
use Rattle.fut_aliases.specs.declared.refusals.Named.{Named}
use Rattle.fut_aliases.specs.declared.refusals.Named.TheVariants.{ByName}
use Rattle.fut_aliases.specs.declared.refusals.Spot.{Spot}
use Rattle.fut_aliases.specs.declared.refusals.Spot.TheVariants.{First}
use Rattle.fut_aliases.specs.Aliases.{Set, is_in, union, those, with_alias, least}
use Rattle.fut_aliases.specs.Stars.{Stars, Leaf, Arrow, Row, no_stars, consumes_more, gives_less}
use Rattle.fut_aliases.specs.Values.{Value, Values, components, all_components, all_of, aliases, Component, starring, taken, with_stars}
use Rattle.fut_aliases.specs.Steps.{Losses, lost_at, is_lost, lose_all, losses_at, Step, give, and_then, consume, demand, or_else, lost, first_loss}
use Rattle.fut_aliases.specs.Patterns.{Scope}
use Rattle.fut_aliases.specs.Calls.{Here, Held, Part, not_consumable, captured, when, too_hungry, too_shared, first_broken, settled, Given, given, stars_behind, type_behind, Side, sides, given_sides, clash, clashes, consume_given, left_by, given_to, unstarred, with_own, call_value, stars_of, use_name, call}
use Rattle.fut_aliases.proofs.Sets.{has_union}
use Rattle.alias_laws.proofs.Sets.{has_those, same_itself}
use Rattle.alias_laws.proofs.Worlds.{World, SetR, TestR, empties, unions, those_are, in_set_is, outside_is, either_is, shared_is, Grows, grows_not, set_on}
use Rattle.alias_laws.proofs.Values.{ValueR, scalars, arrays, functions_are, parts_are, ValuesR, no_values, more_values, value_on, ComponentsR, no_components, more_components, aliases_are, starring_is, taken_is, left_is, functions_same, with_stars_is}
use Rattle.alias_laws.proofs.Naming.{joined, has_with}
use Rattle.alias_laws.proofs.Losing.{LossesR, losses_on, loses_all, set_lost, all_lost, lost_same, is_lost_respects, both_or}
use Rattle.alias_laws.proofs.Since.{Since, since_grows, since_set}
use Rattle.alias_laws.proofs.Stepping.{Only, only_these, avoiding, gone, plain, avoiding_less, losses_where, since_where, AnswerR, done, HeldR, held_is, HeldsR, no_parts, more_parts, held_value, losses_same, some_same, demand_then}

pub data MaybeR (w : World) : Option Value → Option Value → Type 0 where
  no_value_is : MaybeR w None None
  a_value_is : {v v' : Value} → ValueR (plain w) v v' → MaybeR w (Some v) (Some v')

pub maybe_on : {w w2 : World} {o o' : Option Value} → Grows w w2 → MaybeR w o o' → MaybeR w2 o o'
maybe_on g no_value_is = no_value_is
maybe_on g (a_value_is p) = a_value_is (value_on (avoiding_less g (λ a h. h)) p)

abbrev pub ScopeR : World → Scope → Scope → Type 0
ScopeR w scope scope' = (b : ℕ) → MaybeR w (scope b) (scope' b)

pub data HereR (w : World) (asked : Bool) : Here → Here → Type 0 where
  here_is : {scope scope' : Scope} {fixed fixed' : Set} {l f : ℕ} → ScopeR w scope scope' → SetR (plain w) fixed fixed' → HereR w asked (record { scope = scope; fixed = fixed; loop_from = l; function_from = f; asked = asked }) (record { scope = scope'; fixed = fixed'; loop_from = l; function_from = f; asked = asked })

pub test_where : (w : World) (test : Alias → Bool) {s : Set} {t t' : Alias → Bool} → TestR (plain w) s t t' → TestR (avoiding w test) s t t'
test_where w test p = record { respects = p.respects; closed = p.closed; same = p.same }

-- ---- what may not be consumed

pub not_consumable_same : {w : World} {asked : Bool} {test : Alias → Bool} {h h' : Here} {s s' : Set} → HereR w asked h h' → SetR (avoiding w test) s s' → (p : Spot) → not_consumable h' p s' ≡ not_consumable h p s
not_consumable_same {w} {test = test} {s = s} (here_is {l = l} scope fixed) q p = some_same (λ n. NotConsumable n p) (those_are (test_where w test (either_is (in_set_is s fixed) (outside_is (plain w) s l))) q)

pub captured_same : {w : World} {asked : Bool} {test : Alias → Bool} {h h' : Here} {s s' : Set} → HereR w asked h h' → SetR (avoiding w test) s s' → (p : Spot) → captured h' p s' ≡ captured h p s
captured_same {w} {test = test} {s = s} (here_is {f = f} scope fixed) q p = some_same (λ n. Captured n p) (those_are (outside_is (avoiding w test) s f) q)

-- ---- stars of parts

pub hungry_same : {w : World} {asked : Bool} {base ls : Losses} {a a' : Held} (u : Stars) → HeldR w asked base ls a a' → too_hungry u a' ≡ too_hungry u a
hungry_same u (held_is {n} {c} before q k s) = ap (λ x. when (consumes_more u x) (NotConsumable c (First n))) (functions_same q)

pub too_shared_same : {w : World} {asked : Bool} {base ls : Losses} {a a' : Held} (u : Stars) → HeldR w asked base ls a a' → too_shared u a' ≡ too_shared u a
too_shared_same u (held_is {n} {c} {f} before q k s) = ap (λ x. when (gives_less u x) (ResultAliases f (First n))) (functions_same q)

pub stars_of_same : {w : World} {v v' : Value} → ValueR w v v' → stars_of v' ≡ stars_of v
stars_of_same scalars = refl
stars_of_same (arrays p) = refl
stars_of_same (functions_are p) = refl
stars_of_same (parts_are ps) = refl

pub data GivensR (w : World) (asked : Bool) (base ls : Losses) : List Given → List Given → Type 0 where
  no_given : GivensR w asked base ls [] []
  more_given : {a a' : Held} {u : Stars} {gs gs' : List Given} → HeldR w asked base ls a a' → GivensR w asked base ls gs gs' → GivensR w asked base ls (record { argument = a; stars = u } ∷ gs) (record { argument = a'; stars = u } ∷ gs')

pub given_are : {w : World} {asked : Bool} {base ls : Losses} {as_well as_well' : List Held} → HeldsR w asked base ls as_well as_well' → (u : Stars) → GivensR w asked base ls (given as_well u) (given as_well' u)
given_are no_parts u = no_given
given_are (more_parts p ps) (Arrow b q r) = more_given p (given_are ps r)
given_are (more_parts p ps) (Leaf b) = more_given p (given_are ps (Leaf b))
given_are (more_parts p ps) (Row us) = more_given p (given_are ps (Row us))

pub stars_behind_same : {w : World} {asked : Bool} {base ls : Losses} {as_well as_well' : List Held} → HeldsR w asked base ls as_well as_well' → (u : Stars) → stars_behind as_well' u ≡ stars_behind as_well u
stars_behind_same no_parts u = refl
stars_behind_same (more_parts p ps) (Arrow b q r) = stars_behind_same ps r
stars_behind_same (more_parts p ps) (Leaf b) = refl
stars_behind_same (more_parts p ps) (Row us) = refl

pub type_behind_same : {w : World} {asked : Bool} {base ls : Losses} {as_well as_well' : List Held} → HeldsR w asked base ls as_well as_well' → (t : Ty) → type_behind as_well' t ≡ type_behind as_well t
type_behind_same no_parts t = refl
type_behind_same (more_parts p ps) (Made head.Fun (more q (more r none))) = type_behind_same ps r
type_behind_same (more_parts p ps) (Var v) = refl
type_behind_same (more_parts p ps) (Made (head.Scalar k) ts) = refl
type_behind_same (more_parts p ps) (Made head.Array ts) = refl
type_behind_same (more_parts p ps) (Made head.Tuple ts) = refl
type_behind_same (more_parts p ps) (Made (head.Record n) ts) = refl
type_behind_same (more_parts p ps) (Made (head.Rigid n k) ts) = refl
type_behind_same (more_parts p ps) (Made (head.Abstract n b) ts) = refl
type_behind_same (more_parts p ps) (Made head.Fun none) = refl
type_behind_same (more_parts p ps) (Made head.Fun (more q none)) = refl
type_behind_same (more_parts p ps) (Made head.Fun (more q (more r (more x y)))) = refl

-- a rule that tells the same of related arguments
pub givens_same : {w : World} {asked : Bool} {base ls : Losses} {gs gs' : List Given} (rule rule' : Given → Option Broken) → ((a a' : Held) (u : Stars) → HeldR w asked base ls a a' → rule' (record { argument = a'; stars = u }) ≡ rule (record { argument = a; stars = u })) → GivensR w asked base ls gs gs' → first_broken rule' gs' ≡ first_broken rule gs
givens_same rule rule' e no_given = refl
givens_same rule rule' e (more_given {a} {a'} {u} p ps) = ap₂ or_else (e a a' u p) (givens_same rule rule' e ps)

-- ---- components that share

pub data SidesR (w : World) : List Side → List Side → Type 0 where
  no_sides : SidesR w [] []
  more_sides : {n : ℕ} {b : Bool} {s s' : Set} {cs cs' : List Side} → SetR w s s' → SidesR w cs cs' → SidesR w (record { node = n; component = record { starred = b; set = s } } ∷ cs) (record { node = n; component = record { starred = b; set = s' } } ∷ cs')

sides_together : {w : World} {cs cs' ds ds' : List Side} → SidesR w cs cs' → SidesR w ds ds' → SidesR w (cs ++ ds) (cs' ++ ds')
sides_together no_sides q = q
sides_together (more_sides p ps) q = more_sides p (sides_together ps q)

pub sides_are : {w : World} (n : ℕ) {cs cs' : List Component} → ComponentsR w cs cs' → SidesR w (sides n cs) (sides n cs')
sides_are n no_components = no_sides
sides_are n (more_components p ps) = more_sides p (sides_are n ps)

pub given_sides_are : {w : World} {asked : Bool} {base ls : Losses} {gs gs' : List Given} → GivensR w asked base ls gs gs' → SidesR (avoiding w (gone asked base)) (given_sides gs) (given_sides gs')
given_sides_are no_given = no_sides
given_sides_are (more_given {u = u} (held_is {n} before q k s) ps) = sides_together (sides_are n (starring_is u q)) (given_sides_are ps)

clash_same : {w : World} (n m : ℕ) (b c : Bool) {s s' t t' : Set} → SetR w s s' → SetR w t t' → clash (record { node = n; component = record { starred = b; set = s' } }) (record { node = m; component = record { starred = c; set = t' } }) ≡ clash (record { node = n; component = record { starred = b; set = s } }) (record { node = m; component = record { starred = c; set = t } })
clash_same n m b c p q = some_same (λ x. Consumed x (First n) (First m)) (shared_is p q)

each_clash_same : {w : World} (n : ℕ) (b : Bool) {s s' : Set} {ds ds' : List Side} → SetR w s s' → SidesR w ds ds' → first_broken (clash (record { node = n; component = record { starred = b; set = s' } })) ds' ≡ first_broken (clash (record { node = n; component = record { starred = b; set = s } })) ds
each_clash_same n b p no_sides = refl
each_clash_same n b p (more_sides {n = m} {b = c} q qs) = ap₂ or_else (clash_same n m b c p q) (each_clash_same n b p qs)

pub clashes_same : {w : World} {before before' cs cs' : List Side} → SidesR w before before' → SidesR w cs cs' → clashes before' cs' ≡ clashes before cs
clashes_same p no_sides = refl
clashes_same p (more_sides {n} {b} q qs) = ap₂ or_else (ap (λ x. cond b x None) (each_clash_same n b q (sides_together p qs))) (clashes_same (sides_together p (more_sides q no_sides)) qs)

-- ---- what a call consumes

pub set_avoids : (w : World) (asked : Bool) (base : Losses) {s s' : Set} → SetR (avoiding w (gone asked base)) s s' → asked ≡ true → (a : Alias) → is_in a s ≡ true → is_lost base a ≡ false
set_avoids w asked base p e a h = sym (ap (λ x. x && is_lost base a) e) ∙ (p.stood a h).is_not

-- the same without what is avoided
pub set_plain : (w : World) (test : Alias → Bool) {s s' : Set} → SetR (avoiding w test) s s' → SetR (plain w) s s'
set_plain w test p = set_on (avoiding_less (grows_not w) (λ a h. refl)) p

losses_plain : {w : World} {ls ls' : Losses} → LossesR (plain w) ls ls' → LossesR w ls ls'
losses_plain p = record { whole = record { closed = p.whole.closed; is_known = p.whole.is_known }; is = p.is }

since_plain : {w : World} {before ls : Losses} → Since (plain w) before ls → Since w before ls
since_plain p = record { more = p.more; is = p.is; closed = p.closed; is_known = p.is_known; is_new = p.is_new }

pub consume_is : {A : Type 0} {asked : Bool} {w : World} {lo hi : ℕ} {base ls ls' : Losses} {S : World → Losses → A → A → Type 0} {s s' : Set} (p : Spot) (next next' : Unit {0} → Step A) → SetR (avoiding w (gone asked base)) s s' → LossesR w ls ls' → (asked ≡ true → Since w base ls)
    → (LossesR w (lose_all (losses_at p s) ls) (lose_all (losses_at p s') ls') → (asked ≡ true → Since w base (lose_all (losses_at p s) ls)) → AnswerR asked w lo hi base S (next tt (lose_all (losses_at p s) ls)) (next' tt (lose_all (losses_at p s') ls')))
    → AnswerR asked w lo hi base S (and_then (consume p s) next ls) (and_then (consume p s') next' ls')
consume_is {asked = asked} {w = w} {base = base} p next next' q l t k = k (losses_plain (loses_all (set_lost p (set_plain w (gone asked base) q)) (losses_where (λ a. false) l))) (λ e. since_plain (since_set p (since_where (λ a. false) (t e)) (set_plain w (gone asked base) q) (set_avoids w asked base q e)))

pub consume_given_is : {A : Type 0} {asked : Bool} {w : World} {lo hi : ℕ} {base ls0 : Losses} {S : World → Losses → A → A → Type 0} {gs gs' : List Given} (next next' : Unit {0} → Step A) → GivensR w asked base ls0 gs gs' → (ls ls' : Losses) → LossesR w ls ls' → (asked ≡ true → Since w base ls)
    → ((ms ms' : Losses) → LossesR w ms ms' → (asked ≡ true → Since w base ms) → AnswerR asked w lo hi base S (next tt ms) (next' tt ms'))
    → AnswerR asked w lo hi base S (and_then (consume_given gs) next ls) (and_then (consume_given gs') next' ls')
consume_given_is next next' no_given ls ls' l t k = k ls ls' l t
consume_given_is next next' (more_given {u = u} {gs = gs} {gs' = gs'} (held_is {n} before q kn s) ps) ls ls' l t k = consume_is (First n) (λ z. and_then (consume_given gs) next) (λ z. and_then (consume_given gs') next') (taken_is u q) l t (λ l2 t2. consume_given_is next next' ps _ _ l2 t2 k)

-- ---- what a call gives

pub left_by_is : {w : World} {asked : Bool} {base ls : Losses} {gs gs' : List Given} → GivensR w asked base ls gs gs' → SetR (avoiding w (gone asked base)) (left_by gs) (left_by gs')
left_by_is {w} {asked} {base} no_given = empties (avoiding w (gone asked base))
left_by_is (more_given {u = u} p ps) = unions (left_is u (held_value p)) (left_by_is ps)

pub given_to_is : {w : World} {asked : Bool} {base ls : Losses} {as_well as_well' : List Held} → HeldsR w asked base ls as_well as_well' → SetR (avoiding w (gone asked base)) (given_to as_well) (given_to as_well')
given_to_is {w} {asked} {base} no_parts = empties (avoiding w (gone asked base))
given_to_is (more_parts p ps) = unions (aliases_are (held_value p)) (given_to_is ps)

unstarred_same : {w : World} {cs cs' : List Component} → ComponentsR w cs cs' → unstarred cs' ≡ unstarred cs
unstarred_same no_components = refl
unstarred_same (more_components {b} p ps) = ap (λ x. cond b x (suc x)) (unstarred_same ps)

-- ---- a call's own alias

unfoldable pub knowing : World → ℕ → World
knowing w n = record { known = λ m. nat_eq m n || w.known m; first = w.first; no_later = w.no_later; avoided = w.avoided }

pub knowing_grows : (w : World) (n : ℕ) → Grows w (knowing w n)
unfolding knowing
knowing_grows w n = record { knows = λ m h. or_true (nat_eq m n) h; agrees = λ m i h. refl; avoids = λ a h. h }
  where
    or_true : (x : Bool) {y : Bool} → y ≡ true → (x || y) ≡ true
    or_true true h = refl
    or_true false h = h

pub knowing_only : (w : World) (n lo hi : ℕ) → lo ≤ n → n < hi → Only w (knowing w n) lo hi
unfolding knowing
knowing_only w n lo hi l h = record { only = λ m k. by_place m (or_cases (nat_eq m n) (w.known m) k) }
  where
    by_place : (m : ℕ) → (nat_eq m n ≡ true) ⊎ (w.known m ≡ true) → (w.known m ≡ true) ⊎ ((lo ≤ m) × (m < hi))
    by_place m (inl e) = let z : m ≡ n = eqb-true m n e in inr (omega arith, omega arith)
    by_place m (inr e) = inl e

own_is : (w : World) (asked : Bool) (base : Losses) (n : ℕ) {s s' : Set} → gone asked base (Own n) ≡ false → SetR (avoiding w (gone asked base)) s s' → SetR (avoiding (knowing w n) (gone asked base)) (with_alias (Own n) s) (with_alias (Own n) s')
unfolding knowing
own_is w asked base n {s} {s'} v p = joined (Own n) (avoiding_less (knowing_grows w n) (λ a h. h)) p (ap (λ x. x || w.known n) (eq-eqb n n refl)) (same_itself (Own n))
    (has_with (Own n) (Own n) s ∙ ap (λ x. x || is_in (Own n) s) (same_itself (Own n)))
    (λ c h. ap (λ x. asked && x) (is_lost_respects base c (Own n) h) ∙ v)
    (sym (ap (λ x. cond x (with_alias (Own n) s') s') (same_itself (Own n))))

pub call_value_is : (w : World) (asked : Bool) (base : Losses) (K : Kinds) (n : ℕ) {s s' : Set} → gone asked base (Own n) ≡ false → SetR (avoiding w (gone asked base)) s s' → (u : Stars) (t : Ty) → ValueR (avoiding (knowing w n) (gone asked base)) (call_value K n s u t) (call_value K n s' u t)
call_value_is w asked base K n {s} {s'} v p u t = with_stars_is K (subst (λ m. SetR (avoiding (knowing w n) (gone asked base)) (with_own n (nat_le 2 (unstarred (starring u (with_stars K s u t)))) s) (with_own n (nat_le 2 m) s')) (sym (unstarred_same (starring_is u (with_stars_is K p u t)))) (by_count (nat_le 2 (unstarred (starring u (with_stars K s u t)))))) u t
  where
    by_count : (b : Bool) → SetR (avoiding (knowing w n) (gone asked base)) (with_own n b s) (with_own n b s')
    by_count true = own_is w asked base n v p
    by_count false = set_on (avoiding_less (knowing_grows w n) (λ a h. h)) p

-- ---- use of a name

pub no_loss : (ls : Losses) (name : Alias → Named) (used : Spot) (s : Set) → lost ls name used s ≡ None → (a : Alias) → is_in a s ≡ true → is_lost ls a ≡ false
unfolding lost those is_in
no_loss ls name used s h a i = by_loss (is_lost ls a) refl
  where
    nothing : (t : Set) → first_loss ls name used (least t) ≡ None → ((b : Alias) → is_in b t ≡ true → is_lost ls b ≡ true) → t ≡ []
    nothing [] h k = refl
    nothing (b ∷ t) h k = by_spot (lost_at ls b) refl (k b (ap (λ x. x || is_in b t) (same_itself b))) h
      where
        by_spot : (o : Option Spot) → lost_at ls b ≡ o → is_lost ls b ≡ true → first_loss ls name used (Some b) ≡ None → (b ∷ t) ≡ []
        by_spot None e l h = cc
        by_spot (Some p) e l h = cc

    by_loss : (x : Bool) → is_lost ls a ≡ x → x ≡ false
    by_loss false e = refl
    by_loss true e = let t : those (is_lost ls) s ≡ [] = nothing (those (is_lost ls) s) h (λ b k. (and_parts (is_in b s) (is_lost ls b) (sym (has_those (is_lost ls) (is_lost_respects ls) b s) ∙ k)).1) in
        let k : is_in a (those (is_lost ls) s) ≡ true = has_those (is_lost ls) (is_lost_respects ls) a s ∙ and_from (is_in a s) (is_lost ls a) i e in
        let z : is_in a [] ≡ true = sym (ap (is_in a) t) ∙ k in cc

pub set_new : (w : World) (new : Alias → Bool) {s s' : Set} → SetR w s s' → ((a : Alias) → is_in a s ≡ true → new a ≡ false) → SetR (avoiding w new) s s'
set_new w new p n = record { ordered = p.ordered; stood = λ a h. let k = p.stood a h in record { has = k.has; is_alone = k.is_alone; is_known = k.is_known; is_not = n a h }; is = p.is }

or_true : (x : Bool) {y : Bool} → y ≡ true → (x || y) ≡ true
or_true true h = refl
or_true false h = h

one_set : (s : Set) (a : Alias) → is_in a s ≡ true → is_in a (all_of (s ∷ [])) ≡ true
unfolding is_in
one_set s a h = has_union a s [] ∙ ap (λ x. x || false) h

front_sets : (ss ts : List Set) (a : Alias) → is_in a (all_of ss) ≡ true → is_in a (all_of (ss ++ ts)) ≡ true
unfolding is_in
front_sets [] ts a h = cc
front_sets (s ∷ ss) ts a h = has_union a s (all_of (ss ++ ts)) ∙ both_or (is_in a s) (is_in a (all_of ss)) (sym (has_union a s (all_of ss)) ∙ h) (λ k. k) (λ k. front_sets ss ts a k)

back_sets : (ss ts : List Set) (a : Alias) → is_in a (all_of ts) ≡ true → is_in a (all_of (ss ++ ts)) ≡ true
back_sets [] ts a h = h
back_sets (s ∷ ss) ts a h = has_union a s (all_of (ss ++ ts)) ∙ or_true (is_in a s) (back_sets ss ts a h)

mutual
  unfolding components all_components

  pub value_new : (w : World) (new : Alias → Bool) {v v' : Value} → ValueR w v v' → ((a : Alias) → is_in a (all_of (components v)) ≡ true → new a ≡ false) → ValueR (avoiding w new) v v'
  value_new w new scalars n = scalars
  value_new w new (arrays {s} p) n = arrays (set_new w new p (λ a h. n a (one_set s a h)))
  value_new w new (functions_are {s} p) n = functions_are (set_new w new p (λ a h. n a (one_set s a h)))
  value_new w new (parts_are ps) n = parts_are (values_new w new ps n)

  values_new : (w : World) (new : Alias → Bool) {vs vs' : Values} → ValuesR w vs vs' → ((a : Alias) → is_in a (all_of (all_components vs)) ≡ true → new a ≡ false) → ValuesR (avoiding w new) vs vs'
  values_new w new no_values n = no_values
  values_new w new (more_values {v} {v'} {vs} p ps) n = more_values (value_new w new p (λ a h. n a (front_sets (components v) (all_components vs) a h))) (values_new w new ps (λ a h. n a (back_sets (components v) (all_components vs) a h)))

-- a part: a name that is still to be used may have anything
pub data PartR (w : World) (asked : Bool) (base ls : Losses) : Part → Part → Type 0 where
  a_name : {f f' : Held} {t : Ty} (b : BindId) → HeldR w asked [] ls f f' → PartR w asked base ls (record { head = f; name = Some b; type = t; arguments = [] }) (record { head = f'; name = Some b; type = t; arguments = [] })
  a_part : {f f' : Held} {t : Ty} {as_well as_well' : List Held} → HeldR w asked base ls f f' → HeldsR w asked base ls as_well as_well' → PartR w asked base ls (record { head = f; name = None; type = t; arguments = as_well }) (record { head = f'; name = None; type = t; arguments = as_well' })

-- a part whose name is used
pub data ReadyR (w : World) (asked : Bool) (base ls : Losses) : Part → Part → Type 0 where
  is_ready : {f f' : Held} {t : Ty} {as_well as_well' : List Held} → HeldR w asked base ls f f' → HeldsR w asked base ls as_well as_well' → ReadyR w asked base ls (record { head = f; name = None; type = t; arguments = as_well }) (record { head = f'; name = None; type = t; arguments = as_well' })

-- a value made from a point on
abbrev pub ValueIs : Bool → Losses → World → Losses → Value → Value → Type 0
ValueIs asked base w ls v v' = ValueR (avoiding w (gone asked base)) v v'

pub given_value : {asked : Bool} {w : World} {lo hi : ℕ} {base ls ls' : Losses} {v v' : Value} → LossesR w ls ls' → (asked ≡ true → Since w base ls) → ValueR (avoiding w (gone asked base)) v v' → AnswerR asked w lo hi base (ValueIs asked base) (give v ls) (give v' ls')
given_value {w = w} {lo = lo} {hi = hi} l t p = done w (grows_not w) (only_these w lo hi) l t p

-- behind its use a name's value has nothing that is lost
pub use_is : {A : Type 0} (K : Kinds) {asked : Bool} {w : World} {lo hi : ℕ} {base ls ls' : Losses} {S : World → Losses → A → A → Type 0} {h h' : Here} {f f' : Held} (t : Ty) (b : BindId) (next next' : Unit {0} → Step A) → HereR w asked h h' → LossesR w ls ls' → HeldR w asked [] ls f f'
    → (HeldR w asked ls ls f f' → AnswerR asked w lo hi base S (next tt ls) (next' tt ls'))
    → AnswerR asked w lo hi base S (and_then (use_name K h (record { head = f; name = Some b; type = t; arguments = [] })) next ls) (and_then (use_name K h' (record { head = f'; name = Some b; type = t; arguments = [] })) next' ls')
use_is K {asked} {w} {ls = ls} t b next next' (here_is p q) l (held_is {n} {c} {f} {v} {v'} before x kn s) k = demand_then asked next next' (λ e. lost_same (all_lost (aliases v) (losses_where (gone asked []) l)) (aliases_are x) (λ a. ByName b) (First n))
    (λ e. k (held_is before (value_new (avoiding w (gone asked [])) (gone asked ls) x (λ a h. new a h asked e)) kn s))
  where
    new : (a : Alias) → is_in a (aliases v) ≡ true → (y : Bool) → (y ≡ true → lost ls (λ a. ByName b) (First n) (aliases v) ≡ None) → (y && is_lost ls a) ≡ false
    new a h false e = refl
    new a h true e = no_loss ls (λ a. ByName b) (First n) (aliases v) (e refl) a h

-- ---- a call

arguments : List Given → List Held
arguments [] = []
arguments (g ∷ gs) = g.argument ∷ arguments gs

arguments_are : {w : World} {asked : Bool} {base ls : Losses} {gs gs' : List Given} → GivensR w asked base ls gs gs' → HeldsR w asked base ls (arguments gs) (arguments gs')
unfolding arguments
arguments_are no_given = no_parts
arguments_are (more_given p ps) = more_parts p (arguments_are ps)

-- parts that wait, where rules are asked for
pub settled_is : {A : Type 0} {asked : Bool} {w : World} {lo hi : ℕ} {base ls ls' : Losses} {S : World → Losses → A → A → Type 0} {h h' : Here} {as_well as_well' : List Held} (next next' : Unit {0} → Step A) → HereR w asked h h' → LossesR w ls ls' → HeldsR w asked base ls as_well as_well'
    → AnswerR asked w lo hi base S (next tt ls) (next' tt ls') → AnswerR asked w lo hi base S (and_then (settled h as_well) next ls) (and_then (settled h' as_well') next' ls')
settled_is {asked = asked} {w = w} {base = base} {ls = ls} {ls' = ls'} {as_well = as_well} {as_well' = as_well'} next next' (here_is p q) l x k = demand_then asked next next' (λ e. losses_same l (subst (λ b. HeldsR w b base ls as_well as_well') e x)) (λ e. k)

taken_same : {w : World} {asked : Bool} {base ls : Losses} {h h' : Here} {a a' : Held} → HereR w asked h h' → (u : Stars) → HeldR w asked base ls a a' → not_consumable h' (First a'.node) (taken u a'.value) ≡ not_consumable h (First a.node) (taken u a.value)
taken_same {w} {asked} {base} here u (held_is {n} before q k s) = not_consumable_same {test = gone asked base} here (taken_is u q) (First n)

taken_captured_same : {w : World} {asked : Bool} {base ls : Losses} {h h' : Here} {a a' : Held} → HereR w asked h h' → (u : Stars) → HeldR w asked base ls a a' → captured h' (First a'.node) (taken u a'.value) ≡ captured h (First a.node) (taken u a.value)
taken_captured_same {w} {asked} {base} here u (held_is {n} before q k s) = captured_same {test = gone asked base} here (taken_is u q) (First n)

all_sides_are : {w : World} {asked : Bool} {base ls : Losses} {f f' : Held} {gs gs' : List Given} → HeldR w asked base ls f f' → GivensR w asked base ls gs gs' → SidesR (avoiding w (gone asked base)) (sides f.node (starring no_stars f.value) ++ given_sides gs) (sides f'.node (starring no_stars f'.value) ++ given_sides gs')
all_sides_are (held_is {n} before q k s) ps = sides_together (sides_are n (starring_is no_stars q)) (given_sides_are ps)

-- a call, from its last step on
abbrev consumed : Kinds → ℕ → Held → List Given → Stars → Ty → Step Value
consumed K n f gs r t = and_then (consume_given gs) (λ u. give (call_value K n (union (aliases f.value) (left_by gs)) r t))

abbrev given_back : Kinds → Bool → ℕ → Held → List Given → Stars → Ty → Step Value
given_back K asked n f gs r t = and_then (demand asked (first_broken (λ g. too_shared g.stars g.argument) gs)) (λ v. consumed K n f gs r t)

abbrev parted : Kinds → Bool → ℕ → Held → List Given → Stars → Ty → Step Value
parted K asked n f gs r t = and_then (demand asked (clashes [] (sides f.node (starring no_stars f.value) ++ given_sides gs))) (λ w. given_back K asked n f gs r t)

abbrev unlost : Kinds → Here → ℕ → Held → List Given → Stars → Ty → Step Value
unlost K h n f gs r t = and_then (settled h (f ∷ arguments gs)) (λ x. parted K h.asked n f gs r t)

abbrev uncaptured : Kinds → Here → ℕ → Held → List Given → Stars → Ty → Step Value
uncaptured K h n f gs r t = and_then (demand h.asked (first_broken (λ g. captured h (First g.argument.node) (taken g.stars g.argument.value)) gs)) (λ y. unlost K h n f gs r t)

call_as : (K : Kinds) (h : Here) (n : ℕ) (f : Held) (gs : List Given) (r : Stars) (t : Ty) (ls : Losses) → call K h n f gs r t ls ≡ and_then (demand h.asked (first_broken (λ g. or_else (too_hungry g.stars g.argument) (not_consumable h (First g.argument.node) (taken g.stars g.argument.value))) gs)) (λ z. uncaptured K h n f gs r t) ls
unfolding arguments
call_as K h n f gs r t ls = refl

pub call_is : (K : Kinds) {asked : Bool} {w : World} {lo hi : ℕ} {base ls ls' : Losses} {h h' : Here} {f f' : Held} {gs gs' : List Given} (n : ℕ) → lo ≤ n → n < hi → gone asked base (Own n) ≡ false → HereR w asked h h' → LossesR w ls ls' → (asked ≡ true → Since w base ls) → HeldR w asked base ls f f' → GivensR w asked base ls gs gs' → (r : Stars) (t : Ty)
    → AnswerR asked w lo hi base (ValueIs asked base) (call K h n f gs r t ls) (call K h' n f' gs' r t ls')
call_is K {asked} {w} {lo} {hi} {base} {ls} {ls'} {h} {h'} {f} {f'} {gs} {gs'} n ln nh v (here_is {scope} {scope'} {fixed} {fixed'} {l = lf} {f = ff} sc fx) l t fs ps r ty =
    subst₂ (λ x y. AnswerR asked w lo hi base (ValueIs asked base) x y) (sym (call_as K o n f gs r ty ls)) (sym (call_as K o' n f' gs' r ty ls'))
    (demand_then asked (λ z. uncaptured K o n f gs r ty) (λ z. uncaptured K o' n f' gs' r ty)
    (λ e. givens_same (λ g. or_else (too_hungry g.stars g.argument) (not_consumable o (First g.argument.node) (taken g.stars g.argument.value))) (λ g. or_else (too_hungry g.stars g.argument) (not_consumable o' (First g.argument.node) (taken g.stars g.argument.value))) (λ a a' u p. ap₂ or_else (hungry_same u p) (taken_same here u p)) ps) (λ e1.
    demand_then asked (λ z. unlost K o n f gs r ty) (λ z. unlost K o' n f' gs' r ty)
    (λ e. givens_same (λ g. captured o (First g.argument.node) (taken g.stars g.argument.value)) (λ g. captured o' (First g.argument.node) (taken g.stars g.argument.value)) (λ a a' u p. taken_captured_same here u p) ps) (λ e2.
    settled_is (λ z. parted K asked n f gs r ty) (λ z. parted K asked n f' gs' r ty) here l (more_parts fs (arguments_are ps))
    (demand_then asked (λ z. given_back K asked n f gs r ty) (λ z. given_back K asked n f' gs' r ty) (λ e. clashes_same no_sides (all_sides_are fs ps)) (λ e3.
    demand_then asked (λ z. consumed K n f gs r ty) (λ z. consumed K n f' gs' r ty) (λ e. givens_same (λ g. too_shared g.stars g.argument) (λ g. too_shared g.stars g.argument) (λ a a' u p. too_shared_same u p) ps) (λ e4.
    consume_given_is (λ z. give (call_value K n (union (aliases f.value) (left_by gs)) r ty)) (λ z. give (call_value K n (union (aliases f'.value) (left_by gs')) r ty)) ps ls ls' l t (λ ms ms' l2 t2.
    done (knowing w n) (knowing_grows w n) (knowing_only w n lo hi ln nh) (losses_on (knowing_grows w n) l2) (λ e. since_grows (knowing_grows w n) (t2 e))
    (call_value_is w asked base K n v (unions (aliases_are (held_value fs)) (left_by_is ps)) r ty))))))))
  where
    o : Here
    o = record { scope = scope; fixed = fixed; loop_from = lf; function_from = ff; asked = asked }

    o' : Here
    o' = record { scope = scope'; fixed = fixed'; loop_from = lf; function_from = ff; asked = asked }

    here : HereR w asked o o'
    here = here_is sc fx
