-- Before the first turn of a loop and behind each, by the checker's sets and by whole ones.
use Rattle.std.proofs.Common.{◌≡◌, ℕ, ◌≤◌, ◌<◌, Bool, true, false, ◌||◌, cond, List, [], ◌∷◌, ◌++◌, Option, Some, None, ◌⊎◌, inl, inr, refl, sym, ap, ap₂, subst, ◌∙◌}
use Rattle.std.proofs.lemmas.Bool.{or_cases}
use Rattle.fut_aliases.specs.declared.aliases.Alias.{Alias}
use Rattle.fut_aliases.specs.declared.refusals.Broken.{Broken}
use Rattle.fut_aliases.specs.declared.refusals.Broken.TheVariants.{ResultAliases}
use Rattle.fut_aliases.specs.declared.refusals.Named.TheVariants.{ByAlias}
use Rattle.fut_aliases.specs.declared.refusals.Spot.TheVariants.{First}
use Rattle.fut_aliases.specs.Aliases.{is_alias, Set, is_in, union, those, is_outside}
use Rattle.fut_aliases.specs.Steps.{Losses, Step, and_then, losses_now, demand, or_else, some_alias}
use Rattle.fut_aliases.specs.Calls.{Here, Held, first_broken, settled}
use Rattle.fut_aliases.specs.Loops.{Carried, eaten_not_consumable, eaten_captured, firsts, shared_firsts, consume_firsts, enter, kept_names, all_sets, shared_results, given_loss, leave, results}
use Rattle.fut_aliases.proofs.Sets.{has_union}
use Rattle.alias_laws.proofs.Sets.{in_respects}
use Rattle.alias_laws.proofs.Worlds.{World, standing, alone, node, node_same, SetR, empties, unions, those_are, outside_is, shared_is, grows_not}
use Rattle.alias_laws.proofs.Values.{SetsR, no_sets, more_sets, sets_together, cond_is}
use Rattle.alias_laws.proofs.Losing.{LossesR, all_lost, lost_same}
use Rattle.alias_laws.proofs.Since.{Since}
use Rattle.alias_laws.proofs.Stepping.{only_these, avoiding, gone, plain, losses_where, gone_before, unlost, AnswerR, done, HeldR, no_parts, more_parts, some_same, demand_then, demand_told, Any}
use Rattle.alias_laws.proofs.Calling.{HereR, here_is, not_consumable_same, captured_same, settled_is, set_plain, set_new, consume_is, no_loss}
use Rattle.alias_laws.proofs.OwnNames.{Mine}
use Rattle.alias_laws.proofs.Carrying.{CarriedsR, no_carried, more_carried, carried_in}

-- ---- the first values

module _ {w : World} {asked : Bool} {test : Alias → Bool} {h h' : Here} (here : HereR w asked h h') {wo : World} {from lo hi : ℕ} where
  first_consumable_same : {cs cs' : List Carried} → CarriedsR (avoiding w test) wo from lo hi cs cs' → first_broken (eaten_not_consumable h') cs' ≡ first_broken (eaten_not_consumable h) cs
  first_consumable_same no_carried = refl
  first_consumable_same (more_carried {n = n} {e = b} m p q ps) = ap₂ or_else (ap (λ x. cond b x None) (not_consumable_same {test = test} here p (First n))) (first_consumable_same ps)

  first_captured_same : {cs cs' : List Carried} → CarriedsR (avoiding w test) wo from lo hi cs cs' → first_broken (eaten_captured h') cs' ≡ first_broken (eaten_captured h) cs
  first_captured_same no_carried = refl
  first_captured_same (more_carried {n = n} {e = b} m p q ps) = ap₂ or_else (ap (λ x. cond b x None) (captured_same {test = test} here p (First n))) (first_captured_same ps)

module _ {w wo : World} {from lo hi : ℕ} where
  carried_together : {cs cs' ds ds' : List Carried} → CarriedsR w wo from lo hi cs cs' → CarriedsR w wo from lo hi ds ds' → CarriedsR w wo from lo hi (cs ++ ds) (cs' ++ ds')
  carried_together no_carried q = q
  carried_together (more_carried m p g ps) q = more_carried m p g (carried_together ps q)

  firsts_are : {cs cs' : List Carried} → CarriedsR w wo from lo hi cs cs' → SetR w (firsts cs) (firsts cs')
  firsts_are no_carried = empties w
  firsts_are (more_carried m p q ps) = unions p (firsts_are ps)

  shared_firsts_are : {over over' : Set} → SetR w over over' → {before before' cs cs' : List Carried} → CarriedsR w wo from lo hi before before' → CarriedsR w wo from lo hi cs cs' → SetR w (shared_firsts over before cs) (shared_firsts over' before' cs')
  shared_firsts_are o b no_carried = empties w
  shared_firsts_are o b (more_carried {e = x} m p q ps) = unions (cond_is x (shared_is p (unions o (firsts_are (carried_together b ps)))) (empties w)) (shared_firsts_are o (carried_together b (more_carried m p q no_carried)) ps)

consume_firsts_is : {asked : Bool} {w wo : World} {lo hi from q r : ℕ} {base : Losses} {cs cs' : List Carried} → CarriedsR (avoiding w (gone asked base)) wo from q r cs cs' → (ls ls' : Losses) → LossesR w ls ls' → (asked ≡ true → Since w base ls)
    → AnswerR asked w lo hi base (Any {A = Unit {0}}) (consume_firsts cs ls) (consume_firsts cs' ls')
consume_firsts_is {w = w} {lo = lo} {hi = hi} no_carried ls ls' l t = done w (grows_not w) (only_these w lo hi) l t tt
consume_firsts_is (more_carried {n = n} {e = true} {cs = cs} {cs' = cs'} m p q ps) ls ls' l t = consume_is (First n) (λ z. consume_firsts cs) (λ z. consume_firsts cs') p l t (λ l2 t2. consume_firsts_is ps _ _ l2 t2)
consume_firsts_is (more_carried {e = false} m p q ps) ls ls' l t = consume_firsts_is ps ls ls' l t

-- entering a loop, from its last step on
abbrev unshared : Bool → Set → ℕ → List Carried → Step (Unit {0})
unshared asked over body cs = and_then (demand asked (some_alias (λ n. ResultAliases n (First body)) (shared_firsts over [] cs))) (λ w. consume_firsts cs)

abbrev unlost_first : Here → Held → Set → ℕ → List Carried → Step (Unit {0})
unlost_first h a over body cs = and_then (settled h (a ∷ [])) (λ x. unshared h.asked over body cs)

abbrev uncaptured : Here → Held → Set → ℕ → List Carried → Step (Unit {0})
uncaptured h a over body cs = and_then (demand h.asked (first_broken (eaten_captured h) cs)) (λ y. unlost_first h a over body cs)

pub enter_is : {asked : Bool} {w wo : World} {lo hi from q r : ℕ} {base ls ls' : Losses} {h h' : Here} {a a' : Held} {over over' : Set} {cs cs' : List Carried} (body : ℕ) → HereR w asked h h' → LossesR w ls ls' → (asked ≡ true → Since w base ls) → HeldR w asked base ls a a' → SetR (plain w) over over' → CarriedsR (avoiding w (gone asked base)) wo from q r cs cs'
    → AnswerR asked w lo hi base (Any {A = Unit {0}}) (enter h a over body cs ls) (enter h' a' over' body cs' ls')
enter_is {asked} {w} {wo} {base = base} {ls = ls} {ls' = ls'} {a = a} {a' = a'} {over = over} {over' = over'} {cs = cs} {cs' = cs'} body (here_is {scope} {scope'} {fixed} {fixed'} {l = lf} {f = ff} sc fx) l t x y ps =
    demand_then asked (λ z. uncaptured o a over body cs) (λ z. uncaptured o' a' over' body cs') (λ e. first_consumable_same {test = gone asked base} here ps) (λ e1.
    demand_then asked (λ z. unlost_first o a over body cs) (λ z. unlost_first o' a' over' body cs') (λ e. first_captured_same {test = gone asked base} here ps) (λ e2.
    settled_is (λ z. unshared asked over body cs) (λ z. unshared asked over' body cs') here l (more_parts x no_parts)
    (demand_then asked (λ z. consume_firsts cs) (λ z. consume_firsts cs') (λ e. some_same (λ n. ResultAliases n (First body)) (shared_firsts_are y no_carried (carried_in (λ s s' p. set_plain w (gone asked base) p) (λ s s' p. p) ps))) (λ e3.
    consume_firsts_is ps ls ls' l t))))
  where
    o : Here
    o = record { scope = scope; fixed = fixed; loop_from = lf; function_from = ff; asked = asked }

    o' : Here
    o' = record { scope = scope'; fixed = fixed'; loop_from = lf; function_from = ff; asked = asked }

    here : HereR w asked o o'
    here = here_is sc fx

-- ---- what the body gives

kept_same : {wf wo : World} {from lo hi : ℕ} {cs cs' : List Carried} → CarriedsR wf wo from lo hi cs cs' → kept_names cs' ≡ kept_names cs
kept_same no_carried = refl
kept_same (more_carried {o = o} {e = b} m p q ps) = ap (λ x. cond b x (union o x)) (kept_same ps)

in_mine : {lo hi : ℕ} (a : Alias) (s : Set) → Mine lo hi s → is_in a s ≡ true → (lo ≤ node a) × (node a < hi)
unfolding is_in
in_mine a [] m h = cc
in_mine {lo} {hi} a (b ∷ s) m h = by_place (is_alias a b) refl h (in_mine a s m.1)
  where
    by_place : (x : Bool) → is_alias a b ≡ x → (x || is_in a s) ≡ true → (is_in a s ≡ true → (lo ≤ node a) × (node a < hi)) → (lo ≤ node a) × (node a < hi)
    by_place true e k i = subst (λ n. (lo ≤ n) × (n < hi)) (sym (node_same a b e)) m.0
    by_place false e k i = i k

in_kept : {wf wo : World} {from lo hi : ℕ} {cs cs' : List Carried} → CarriedsR wf wo from lo hi cs cs' → (a : Alias) → is_in a (kept_names cs) ≡ true → (lo ≤ node a) × (node a < hi)
unfolding is_in
in_kept no_carried a h = cc
in_kept (more_carried {e = true} m p q ps) a h = in_kept ps a h
in_kept {lo = lo} {hi = hi} (more_carried {o = o} {e = false} {cs = cs} m p q ps) a h = by_place (or_cases (is_in a o) (is_in a (kept_names cs)) (sym (has_union a o (kept_names cs)) ∙ h)) (in_kept ps a)
  where
    by_place : (is_in a o ≡ true) ⊎ (is_in a (kept_names cs) ≡ true) → (is_in a (kept_names cs) ≡ true → (lo ≤ node a) × (node a < hi)) → (lo ≤ node a) × (node a < hi)
    by_place (inl k) i = in_mine a o m k
    by_place (inr k) i = i k

-- what stands for a name of a part of the text is itself, or outside
abbrev pub Apart : World → ℕ → ℕ → ℕ → Type 0
Apart w from lo hi = (a : Alias) → lo ≤ node a → node a < hi → w.known (node a) ≡ true → (is_outside from (standing w a) ≡ true) ⊎ (alone w a ≡ true)

outside_or_kept : {w : World} (from : ℕ) {lo hi : ℕ} {s s' : Set} (kept : Set) → Apart w from lo hi → ((a : Alias) → is_in a kept ≡ true → (lo ≤ node a) × (node a < hi)) → SetR w s s' → SetR w (those (λ a. is_outside from a || is_in a kept) s) (those (λ a. is_outside from a || is_in a kept) s')
outside_or_kept {w} from {s = s} kept apart inside p = those_are (record {
  respects = λ a b h. ap₂ (λ x y. x || y) ((outside_is w s from).respects a b h) (in_respects kept a b h);
  closed = λ a i h. closed a i (or_cases (is_outside from a) (is_in a kept) h);
  same = λ a h. refl;
}) p
  where
    or_true : (x : Bool) {y : Bool} → y ≡ true → (x || y) ≡ true
    or_true true h = refl
    or_true false h = h

    either_way : (a : Alias) → is_in a kept ≡ true → (is_outside from (standing w a) ≡ true) ⊎ (alone w a ≡ true) → (is_outside from (standing w a) || is_in (standing w a) kept) ≡ true
    either_way a k (inl e) = ap (λ x. x || is_in (standing w a) kept) e
    either_way a k (inr e) = or_true (is_outside from (standing w a)) (sym (in_respects kept a (standing w a) e) ∙ k)

    closed : (a : Alias) → is_in a s ≡ true → (is_outside from a ≡ true) ⊎ (is_in a kept ≡ true) → (is_outside from (standing w a) || is_in (standing w a) kept) ≡ true
    closed a i (inl e) = ap (λ x. x || is_in (standing w a) kept) ((outside_is w s from).closed a i e)
    closed a i (inr k) = either_way a k (apart a (inside a k).0 (inside a k).1 (p.stood a i).is_known)

all_sets_are : {w : World} {ss ss' : List Set} → SetsR w ss ss' → SetR w (all_sets ss) (all_sets ss')
all_sets_are {w} no_sets = empties w
all_sets_are (more_sets p ps) = unions p (all_sets_are ps)

module _ {w wf wo : World} {from lo hi : ℕ} (kept : Set) (apart : Apart w from lo hi) (inside : (a : Alias) → is_in a kept ≡ true → (lo ≤ node a) × (node a < hi)) where
  shared_results_are : {before before' : List Set} → SetsR w before before' → {cs cs' : List Carried} → CarriedsR wf wo from lo hi cs cs' → {gs gs' : List Set} → SetsR w gs gs' → SetR w (shared_results from kept before cs gs) (shared_results from kept before' cs' gs')
  shared_results_are b no_carried gs = empties w
  shared_results_are b (more_carried m p q ps) no_sets = empties w
  shared_results_are b (more_carried {e = x} m p q ps) (more_sets g gs) =
      unions (cond_is x (unions (outside_or_kept from kept apart inside g) (shared_is g (all_sets_are (sets_together b gs)))) (empties w)) (shared_results_are (sets_together b (more_sets g no_sets)) ps gs)

given_losses_same : {w wf : World} {from lo hi : ℕ} {ls ls' : Losses} (body : ℕ) → LossesR w ls ls' → {cs cs' : List Carried} → CarriedsR wf (plain w) from lo hi cs cs' → first_broken (given_loss ls' from body) cs' ≡ first_broken (given_loss ls from body) cs
given_losses_same body l no_carried = refl
given_losses_same {from = from} body l (more_carried {g = g} m p q ps) = ap₂ or_else (lost_same (all_lost (those (is_outside from) g) (losses_where (λ a. false) l)) q.outer ByAlias (First body)) (given_losses_same body l ps)

-- nothing that the body gives from outside is lost
abbrev pub Unlost : Bool → ℕ → ℕ → List Carried → World → Losses → Unit {0} → Unit {0} → Type 0
Unlost asked from body cs w ls u u' = asked ≡ true → first_broken (given_loss ls from body) cs ≡ None

pub leave_is : {asked : Bool} {w wf : World} {lo hi from q r : ℕ} {base ls ls' : Losses} {test : Alias → Bool} {h h' : Here} {cs cs' : List Carried} {gs gs' : List Set} (body : ℕ) → HereR w asked h h' → LossesR w ls ls' → (asked ≡ true → Since w base ls) → Apart w from q r → CarriedsR wf (plain w) from q r cs cs' → SetsR (avoiding w test) gs gs'
    → AnswerR asked w lo hi base (Unlost asked from body cs) (leave h from body cs gs ls) (leave h' from body cs' gs' ls')
leave_is {asked} {w} {from = from} {q = q} {r = r} {ls = ls} {ls' = ls'} {test = test} {cs = cs} {cs' = cs'} {gs = gs} {gs' = gs'} body (here_is sc fx) l t apart ps gives =
    demand_then asked (λ z. last cs) (λ z. last cs') (λ e. ap (λ k. some_alias (λ n. ResultAliases n (First body)) (shared_results from k [] cs' gs')) (kept_same ps) ∙ some_same (λ n. ResultAliases n (First body)) (shared_results_are {w = avoiding w test} (kept_names cs) apart (in_kept ps) no_sets ps gives)) (λ e.
    demand_told asked (λ ms. first_broken (given_loss ms from body) cs) l t (λ k. given_losses_same body l ps))
  where
    last : List Carried → Step (Unit {0})
    last ds = and_then losses_now (λ ms. demand asked (first_broken (given_loss ms from body) ds))

-- ---- what the loop gives

none_left : (o p : Option Broken) → or_else o p ≡ None → (o ≡ None) × (p ≡ None)
none_left None p h = (refl, h)
none_left (Some x) p h = cc

pub carried_new : {asked : Bool} {w wf : World} {from lo hi : ℕ} {base ls : Losses} {cs cs' : List Carried} (body : ℕ) → (asked ≡ true → Since w base ls) → (asked ≡ true → first_broken (given_loss ls from body) cs ≡ None) → CarriedsR wf (plain w) from lo hi cs cs' → CarriedsR wf (avoiding w (gone asked base)) from lo hi cs cs'
carried_new body t k no_carried = no_carried
carried_new {asked} {w} {from = from} {base = base} {ls = ls} body t k (more_carried {g = g} {cs = cs} m p q ps) = more_carried m p (record {
  outer = set_new (plain w) (gone asked base) q.outer (λ a i. gone_before t a (unlost asked ls a (λ e. no_loss ls ByAlias (First body) (those (is_outside from) g) (none_left _ (first_broken (given_loss ls from body) cs) (k e)).0 a i)));
  tells = q.tells;
}) (carried_new body t (λ e. (none_left _ (first_broken (given_loss ls from body) cs) (k e)).1) ps)

pub results_are : {w wf wo : World} {from lo hi : ℕ} {cs cs' : List Carried} → CarriedsR wf wo from lo hi cs cs' → {xs xs' gs gs' : List Set} → SetsR w xs xs' → SetsR w gs gs' → SetsR w (results cs xs gs) (results cs' xs' gs')
results_are no_carried xs gs = no_sets
results_are (more_carried m p q ps) no_sets gs = no_sets
results_are (more_carried m p q ps) (more_sets x xs) no_sets = no_sets
results_are {w} (more_carried {e = b} m p q ps) (more_sets x xs) (more_sets g gs) = more_sets (cond_is b (empties w) (unions x g)) (results_are ps xs gs)
