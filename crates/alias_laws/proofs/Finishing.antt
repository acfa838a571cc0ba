-- A term by itself: a use, a call, or a function that waits for more arguments.
use Rattle.std.proofs.Common.{◌≡◌, ℕ, ◌≤◌, ◌<◌, Bool, true, false, ◌&&◌, cond, List, [], ◌∷◌, length, Option, Some, None, refl, sym, ap, ap₂, subst, subst₂, ◌∙◌, arith}
use Rattle.fut_types.specs.Types.{Ty, Kinds, Sub}
use Rattle.fut_typing.specs.Names.{Names}
use Rattle.fut_flat.specs.Erased.{FlatTerm}
use Rattle.fut_aliases.specs.declared.aliases.Alias.TheVariants.{Own}
use Rattle.fut_aliases.specs.declared.refusals.Broken.{Broken}
use Rattle.fut_aliases.specs.declared.refusals.Broken.TheVariants.{NotConsumable}
use Rattle.fut_aliases.specs.declared.refusals.Named.{Named}
use Rattle.fut_aliases.specs.declared.refusals.Spot.TheVariants.{First}
use Rattle.fut_aliases.specs.Aliases.{union, with_alias, first_name_alone}
use Rattle.fut_aliases.specs.Stars.{Stars, Leaf, Arrow, Row}
use Rattle.fut_aliases.specs.Values.{Value, Function, aliases, Component, starring}
use Rattle.fut_aliases.specs.Steps.{Losses, is_lost, Step, give, and_then, demand, or_else}
use Rattle.fut_aliases.specs.Calls.{Here, Held, Part, too_hungry, too_shared, first_broken, settled, Given, given, stars_behind, type_behind, given_to, stars_of, starred_argument, partial, call, apply_as, finished}
use Rattle.fut_aliases.specs.Looking.{held, by_itself, whole}
use Rattle.alias_laws.proofs.Worlds.{World, unions, set_on, Grows, grows_not}
use Rattle.alias_laws.proofs.Values.{ValueR, functions_are, ComponentsR, no_components, more_components, aliases_are, starring_is}
use Rattle.alias_laws.proofs.Losing.{LossesR, kept_losses}
use Rattle.alias_laws.proofs.Since.{Since, since_now}
use Rattle.alias_laws.proofs.Stepping.{only_these, avoiding, gone, AnswerR, done, HeldR, held_is, avoiding_less, HeldsR, no_parts, more_parts, held_value, same_node, held_before, then_are, demand_then}
use Rattle.alias_laws.proofs.Calling.{maybe_on, HereR, here_is, hungry_same, too_shared_same, stars_of_same, GivensR, given_are, stars_behind_same, type_behind_same, givens_same, given_to_is, PartR, a_name, a_part, ValueIs, given_value, use_is, settled_is, call_is}

-- ---- fewer arguments than parameters

some_starred : Named → ℕ → List Component → Option Broken
some_starred f n [] = None
some_starred f n (c ∷ cs) = cond c.starred (Some (NotConsumable f (First n))) (some_starred f n cs)

starred_as : (f : Named) (g : Given) → starred_argument f g ≡ some_starred f g.argument.node (starring g.stars g.argument.value)
unfolding some_starred
starred_as f g = refl

some_starred_same : {w : World} (f : Named) (n : ℕ) {cs cs' : List Component} → ComponentsR w cs cs' → some_starred f n cs' ≡ some_starred f n cs
unfolding some_starred
some_starred_same f n no_components = refl
some_starred_same f n (more_components {b} p ps) = ap (λ x. cond b (Some (NotConsumable f (First n))) x) (some_starred_same f n ps)

starred_same : {w : World} {asked : Bool} {base ls : Losses} {a a' : Held} (f : Named) (u : Stars) → HeldR w asked base ls a a' → starred_argument f (record { argument = a'; stars = u }) ≡ starred_argument f (record { argument = a; stars = u })
starred_same {a = a} {a' = a'} f u p = starred_as f (record { argument = a'; stars = u }) ∙ (ap (λ n. some_starred f n (starring u a'.value)) (same_node p) ∙ (some_starred_same f a.node (starring_is u (held_value p)) ∙ sym (starred_as f (record { argument = a; stars = u }))))

abbrev unshared : Here → Held → List Held → Stars → Step Value
unshared h f arguments u = and_then (demand h.asked (first_broken (λ g. too_shared g.stars g.argument) (given arguments u))) (λ x. give (Function (union (aliases f.value) (given_to arguments)) (stars_behind arguments u)))

abbrev unlost : Here → Held → List Held → Stars → Step Value
unlost h f arguments u = and_then (settled h (f ∷ arguments)) (λ y. unshared h f arguments u)

partial_is : (K : Kinds) {asked : Bool} {w : World} {lo hi : ℕ} {base ls ls' : Losses} {h h' : Here} {f f' : Held} {as_well as_well' : List Held} → HereR w asked h h' → LossesR w ls ls' → (asked ≡ true → Since w base ls) → HeldR w asked base ls f f' → HeldsR w asked base ls as_well as_well'
    → AnswerR asked w lo hi base (ValueIs asked base) (partial K h f as_well ls) (partial K h' f' as_well' ls')
partial_is K {asked} {w} {lo} {hi} {base} {ls} {ls'} {h} {h'} {as_well = as_well} {as_well' = as_well'} (here_is {scope} {scope'} {fixed} {fixed'} {l = lf} {f = ff} sc fx) l t (held_is {n} {c} {f = fn} {v} {v'} before q k s) ps =
    subst (λ u. AnswerR asked w lo hi base (ValueIs asked base) (partial K o f as_well ls) (started u ls')) (sym (stars_of_same q))
    (demand_then asked (λ z. unlost o f as_well (stars_of v)) (λ z. unlost o' f' as_well' (stars_of v))
    (λ e. ap₂ or_else (givens_same (λ g. too_hungry g.stars g.argument) (λ g. too_hungry g.stars g.argument) (λ a a' u p. hungry_same u p) gs) (givens_same (starred_argument c) (starred_argument c) (λ a a' u p. starred_same c u p) gs)) (λ e1.
    settled_is (λ z. unshared o f as_well (stars_of v)) (λ z. unshared o' f' as_well' (stars_of v)) here l (more_parts fs ps)
    (demand_then asked (λ z. give (Function (union (aliases v) (given_to as_well)) (stars_behind as_well (stars_of v)))) (λ z. give (Function (union (aliases v') (given_to as_well')) (stars_behind as_well' (stars_of v))))
    (λ e. givens_same (λ g. too_shared g.stars g.argument) (λ g. too_shared g.stars g.argument) (λ a a' u p. too_shared_same u p) gs) (λ e2.
    given_value l t (subst (λ u. ValueR (avoiding w (gone asked base)) (Function (union (aliases v) (given_to as_well)) (stars_behind as_well (stars_of v))) (Function (union (aliases v') (given_to as_well')) u)) (sym (stars_behind_same ps (stars_of v))) (functions_are (unions (aliases_are q) (given_to_is ps))))))))
  where
    o : Here
    o = record { scope = scope; fixed = fixed; loop_from = lf; function_from = ff; asked = asked }

    o' : Here
    o' = record { scope = scope'; fixed = fixed'; loop_from = lf; function_from = ff; asked = asked }

    here : HereR w asked o o'
    here = here_is sc fx

    f : Held
    f = record { node = n; called = c; first_name = fn; value = v; losses = length before }

    f' : Held
    f' = record { node = n; called = c; first_name = fn; value = v'; losses = length (kept_losses w before) }

    fs : HeldR w asked base ls f f'
    fs = held_is before q k s

    gs : GivensR w asked base ls (given as_well (stars_of v)) (given as_well' (stars_of v))
    gs = given_are ps (stars_of v)

    started : Stars → Step Value
    started u = and_then (demand asked (or_else (first_broken (λ g. too_hungry g.stars g.argument) (given as_well' u)) (first_broken (starred_argument c) (given as_well' u)))) (λ z. unlost o' f' as_well' u)

-- ---- a term by itself

apply_is : (K : Kinds) {asked : Bool} {w : World} {lo hi : ℕ} {base ls ls' : Losses} {h h' : Here} {f f' : Held} {as_well as_well' : List Held} (n : ℕ) → lo ≤ n → n < hi → gone asked base (Own n) ≡ false → HereR w asked h h' → LossesR w ls ls' → (asked ≡ true → Since w base ls) → HeldR w asked base ls f f' → HeldsR w asked base ls as_well as_well' → (t : Ty) (u : Stars)
    → AnswerR asked w lo hi base (ValueIs asked base) (apply_as K h n (record { head = f; name = None; type = t; arguments = as_well }) u ls) (apply_as K h' n (record { head = f'; name = None; type = t; arguments = as_well' }) u ls')
apply_is K n ln nh v here l s fs ps t (Arrow b q r) = partial_is K here l s fs ps
apply_is K {asked} {w} {lo} {hi} {base} {ls} {ls'} {h} {h'} {f} {f'} {as_well} {as_well'} n ln nh v here l s fs ps t (Leaf b) =
    subst₂ (λ x y. AnswerR asked w lo hi base (ValueIs asked base) (call K h n f (given as_well (stars_of f.value)) (Leaf b) (type_behind as_well t) ls) (call K h' n f' (given as_well' x) (Leaf b) y ls')) (sym (stars_of_same (held_value fs))) (sym (type_behind_same ps t))
    (call_is K n ln nh v here l s fs (given_are ps (stars_of f.value)) (Leaf b) (type_behind as_well t))
apply_is K {asked} {w} {lo} {hi} {base} {ls} {ls'} {h} {h'} {f} {f'} {as_well} {as_well'} n ln nh v here l s fs ps t (Row us) =
    subst₂ (λ x y. AnswerR asked w lo hi base (ValueIs asked base) (call K h n f (given as_well (stars_of f.value)) (Row us) (type_behind as_well t) ls) (call K h' n f' (given as_well' x) (Row us) y ls')) (sym (stars_of_same (held_value fs))) (sym (type_behind_same ps t))
    (call_is K n ln nh v here l s fs (given_are ps (stars_of f.value)) (Row us) (type_behind as_well t))

pub finished_is : (K : Kinds) {asked : Bool} {w : World} {lo hi : ℕ} {base ls ls' : Losses} {h h' : Here} {p p' : Part} (n : ℕ) → lo ≤ n → n < hi → gone asked base (Own n) ≡ false → HereR w asked h h' → LossesR w ls ls' → (asked ≡ true → Since w base ls) → PartR w asked base ls p p'
    → AnswerR asked w lo hi base (ValueIs asked base) (finished K h n p ls) (finished K h' n p' ls')
finished_is K {h = h} {h' = h'} n ln nh v here l s (a_name {f} {f'} {t} b x) = use_is K t b (λ z. give f.value) (λ z. give f'.value) here l x (λ y. given_value l s (held_value (held_before s y)))
finished_is K n ln nh v here l s (a_part {t = t} fs no_parts) = given_value l s (held_value fs)
finished_is K {asked} {w} {lo} {hi} {base} {ls} {ls'} {h} {h'} n ln nh v here l s (a_part {f} {f'} {t} fs (more_parts {a} {a'} {as_well} {as_well'} p ps)) =
    subst (λ x. AnswerR asked w lo hi base (ValueIs asked base) (apply_as K h n (record { head = f; name = None; type = t; arguments = a ∷ as_well }) (stars_behind (a ∷ as_well) (stars_of f.value)) ls) (apply_as K h' n (record { head = f'; name = None; type = t; arguments = a' ∷ as_well' }) x ls'))
    (ap (stars_behind (a ∷ as_well)) (sym (stars_of_same (held_value fs))) ∙ sym (stars_behind_same (more_parts p ps) (stars_of f'.value)))
    (apply_is K n ln nh v here l s fs (more_parts p ps) t (stars_behind (a ∷ as_well) (stars_of f.value)))

abbrev pub PartIs : Bool → Losses → World → Losses → Part → Part → Type 0
PartIs asked base w ls p p' = PartR w asked base ls p p'

abbrev pub HeldIs : Bool → Losses → World → Losses → Held → Held → Type 0
HeldIs asked base w ls a a' = HeldR w asked base ls a a'

pub here_on : {w w2 : World} {asked : Bool} {h h' : Here} → Grows w w2 → HereR w asked h h' → HereR w2 asked h h'
here_on g (here_is sc fx) = here_is (λ b. maybe_on g (sc b)) (set_on (avoiding_less g (λ a h. h)) fx)

pub held_now : {w : World} {asked : Bool} {base ls ls' : Losses} {n : ℕ} {c f : Named} {v v' : Value} → LossesR w ls ls' → ValueR (avoiding w (gone asked base)) v v' → HeldR w asked base ls (record { node = n; called = c; first_name = f; value = v; losses = length ls }) (record { node = n; called = c; first_name = f; value = v'; losses = length ls' })
held_now {w} {asked} {base} {ls} {ls'} {n} {c} {f} {v} {v'} l p = subst (λ x. HeldR w asked base ls (record { node = n; called = c; first_name = f; value = v; losses = length ls }) (record { node = n; called = c; first_name = f; value = v'; losses = length x })) (sym l.is) (held_is ls p l.whole.is_known (λ e. since_now w ls))

-- a call's own alias was not lost before
pub own_new : {w : World} (asked : Bool) {ls ls' : Losses} (n : ℕ) → LossesR w ls ls' → w.known n ≡ false → gone asked ls (Own n) ≡ false
own_new {w} asked {ls} n l k = by_asked asked (is_lost ls (Own n)) refl
  where
    by_asked : (b x : Bool) → is_lost ls (Own n) ≡ x → (b && x) ≡ false
    by_asked true true e = let z : w.known n ≡ true = l.whole.is_known (Own n) e in cc
    by_asked true false e = refl
    by_asked false x e = refl

module _ (N : Names) (K : Kinds) (types : Sub) where
  pub by_itself_is : {asked : Bool} {w : World} {lo hi : ℕ} {ls ls' : Losses} {h h' : Here} (e : FlatTerm) (n : ℕ) (m m' : Step Part) → lo ≤ n → n < hi → w.known n ≡ false → HereR w asked h h' → LossesR w ls ls' → AnswerR asked w lo hi ls (PartIs asked ls) (m ls) (m' ls')
      → AnswerR asked w lo hi ls (HeldIs asked ls) (by_itself with_alias N K types e n h m ls) (by_itself first_name_alone N K types e n h' m' ls')
  by_itself_is {asked} {w} {lo} {hi} {ls} {ls'} {h} {h'} e n m m' ln nh k here l r =
      then_are hi lo (λ p. and_then (finished K h n p) (λ v. held e n v)) (λ p. and_then (finished K h' n p) (λ v. held e n v)) (omega arith) (omega arith) r (λ w2 p p' ms ms' g o l2 s q.
      then_are hi lo (λ v. held e n v) (λ v. held e n v) (omega arith) (omega arith) (finished_is K n ln nh (own_new asked n l k) (here_on g here) l2 s q) (λ w3 v v' ns ns' g3 o3 l3 s3 x.
      done w3 (grows_not w3) (only_these w3 lo hi) l3 s3 (held_now l3 x)))

  -- a value at the node of a term
  pub whole_is : {asked : Bool} {w : World} {lo hi : ℕ} {base ls ls' : Losses} {v v' : Value} (e : FlatTerm) (n : ℕ) → LossesR w ls ls' → (asked ≡ true → Since w base ls) → ValueR (avoiding w (gone asked base)) v v'
      → AnswerR asked w lo hi base (PartIs asked base) (whole with_alias N K types e n v ls) (whole first_name_alone N K types e n v' ls')
  whole_is {w = w} {lo = lo} {hi = hi} e n l s p = done w (grows_not w) (only_these w lo hi) l s (a_part (held_now l p) no_parts)
