-- What a loop carries, and what its parameters share with over all turns, by the checker's sets and by whole ones.
use Rattle.std.proofs.Common.{◌≡◌, ℕ, zero, suc, ◌≤◌, ◌<◌, Bool, true, false, ◌||◌, ◌&&◌, cond, List, [], ◌∷◌, Option, Some, refl, sym, ap, ap₂, subst, ◌∙◌}
use Rattle.fut_aliases.specs.declared.aliases.Alias.{Alias}
use Rattle.fut_aliases.specs.declared.refusals.Spot.{Spot}
use Rattle.fut_aliases.specs.Aliases.{is_alias, Set, is_in, union, those, is_outside}
use Rattle.fut_aliases.specs.Steps.{Losses, lost_at, is_some, is_lost}
use Rattle.fut_aliases.specs.Loops.{Carried, some_lost, all_carried, of_given, one_round, no_sets, rounds, how_many_carried, over_all_turns}
use Rattle.alias_laws.proofs.Sets.{has_those}
use Rattle.alias_laws.proofs.Worlds.{World, alone, alone_respects, node, SetR, empties, unions, those_are, outside_is}
use Rattle.alias_laws.proofs.Values.{SetsR, no_sets as none_of_sets, more_sets, cond_is}
use Rattle.alias_laws.proofs.Losing.{kept_losses, lost_kept, LossesR}
use Rattle.alias_laws.proofs.OwnNames.{Mine, All_mine}

-- a set's own names
some_in : Set → Set → Bool
some_in t [] = false
some_in t (a ∷ as_well) = is_in a t || some_in t as_well

-- what the body gives for a parameter: what is outside is related, and both tell the same of the names of the loop's pattern
pub record GiveR (w : World) (from lo hi : ℕ) (g g' : Set) : Type 0 where
  pub outer : SetR w (those (is_outside from) g) (those (is_outside from) g')
  pub tells : (a : Alias) → lo ≤ node a → node a < hi → is_in a g' ≡ is_in a g

pub data GivesR (w : World) (from lo hi : ℕ) : List Set → List Set → Type 0 where
  no_gives : GivesR w from lo hi [] []
  more_gives : {g g' : Set} {gs gs' : List Set} → GiveR w from lo hi g g' → GivesR w from lo hi gs gs' → GivesR w from lo hi (g ∷ gs) (g' ∷ gs')

pub data CarriedsR (wf wo : World) (from lo hi : ℕ) : List Carried → List Carried → Type 0 where
  no_carried : CarriedsR wf wo from lo hi [] []
  more_carried : {n : ℕ} {o f f' g g' : Set} {e : Bool} {cs cs' : List Carried} → Mine lo hi o → SetR wf f f' → GiveR wo from lo hi g g' → CarriedsR wf wo from lo hi cs cs'
      → CarriedsR wf wo from lo hi (record { node = n; own = o; first = f; gives = g; is_eaten = e } ∷ cs) (record { node = n; own = o; first = f'; gives = g'; is_eaten = e } ∷ cs')

-- ---- names that stand for themselves

abbrev pub Selves : World → ℕ → ℕ → Type 0
Selves w lo hi = (a : Alias) → lo ≤ node a → node a < hi → w.known (node a) ≡ true → alone w a ≡ true

pub self_in : {w : World} {lo hi : ℕ} {g g' : Set} → Selves w lo hi → SetR w g g' → (a : Alias) → lo ≤ node a → node a < hi → is_in a g' ≡ is_in a g
self_in {w} {g = g} {g' = g'} s p a l h = ap (is_in a) p.is ∙ (has_those (alone w) (alone_respects w) a g ∙ by_place (is_in a g) refl)
  where
    by_place : (x : Bool) → is_in a g ≡ x → (x && alone w a) ≡ x
    by_place true e = s a l h (p.stood a e).is_known
    by_place false e = refl

kept_less : (w : World) (ls : Losses) (a : Alias) → is_lost ls a ≡ false → is_lost (kept_losses w ls) a ≡ false
kept_less w [] a h = refl
kept_less w (l ∷ ls) a h = by_kept (alone w l.alias) (kept_less w ls a)
  where
    not_rest : (same : Bool) → is_some (cond same (Some l.at) (lost_at ls a)) ≡ false → is_lost ls a ≡ false
    not_rest true e = cc
    not_rest false e = e

    not_first : (same : Bool) (o : Option Spot) → is_some (cond same (Some l.at) (lost_at ls a)) ≡ false → is_some o ≡ false → is_some (cond same (Some l.at) o) ≡ false
    not_first true o e k = e
    not_first false o e k = k

    by_kept : (k : Bool) → (is_lost ls a ≡ false → is_lost (kept_losses w ls) a ≡ false) → is_lost (cond k (l ∷ kept_losses w ls) (kept_losses w ls)) a ≡ false
    by_kept true i = not_first (is_alias a l.alias) (lost_at (kept_losses w ls) a) h (i (not_rest (is_alias a l.alias) h))
    by_kept false i = i (not_rest (is_alias a l.alias) h)

pub self_lost : {w : World} {lo hi : ℕ} {ls ls' : Losses} → Selves w lo hi → LossesR w ls ls' → (a : Alias) → lo ≤ node a → node a < hi → is_lost ls' a ≡ is_lost ls a
self_lost {w} {ls = ls} {ls' = ls'} s p a l h = ap (λ x. is_lost x a) p.is ∙ by_loss (is_lost ls a) refl
  where
    by_loss : (x : Bool) → is_lost ls a ≡ x → is_lost (kept_losses w ls) a ≡ is_lost ls a
    by_loss true e = ap is_some (lost_kept w ls a (s a l h (p.whole.is_known a e)))
    by_loss false e = kept_less w ls a e ∙ sym e

some_lost_same : (lo hi : ℕ) (ls ls' : Losses) → ((a : Alias) → lo ≤ node a → node a < hi → is_lost ls' a ≡ is_lost ls a) → (o : Set) → Mine lo hi o → some_lost ls' o ≡ some_lost ls o
some_lost_same lo hi ls ls' e [] m = refl
some_lost_same lo hi ls ls' e (a ∷ o) m = ap₂ (λ x y. x || y) (e a m.0.0 m.0.1) (some_lost_same lo hi ls ls' e o m.1)

some_in_same : (lo hi : ℕ) (g g' : Set) → ((a : Alias) → lo ≤ node a → node a < hi → is_in a g' ≡ is_in a g) → (o : Set) → Mine lo hi o → some_in g' o ≡ some_in g o
unfolding some_in
some_in_same lo hi g g' e [] m = refl
some_in_same lo hi g g' e (a ∷ o) m = ap₂ (λ x y. x || y) (e a m.0.0 m.0.1) (some_in_same lo hi g g' e o m.1)

-- ---- what the body gives, and what the loop carries

pub gives_are : {w : World} {lo hi : ℕ} (from : ℕ) {gs gs' : List Set} → Selves w lo hi → SetsR w gs gs' → GivesR w from lo hi gs gs'
gives_are from s none_of_sets = no_gives
gives_are {w} from s (more_sets {s = g} p ps) = more_gives (record { outer = those_are (outside_is w g from) p; tells = self_in s p }) (gives_are from s ps)

pub all_carried_are : {wf wo : World} {from lo hi : ℕ} (ls ls' : Losses) → ((a : Alias) → lo ≤ node a → node a < hi → is_lost ls' a ≡ is_lost ls a) → (ns : List ℕ) (os : List Set) → All_mine lo hi os → {fs fs' gs gs' : List Set} → SetsR wf fs fs' → GivesR wo from lo hi gs gs'
    → CarriedsR wf wo from lo hi (all_carried ls ns os fs gs) (all_carried ls' ns os fs' gs')
all_carried_are ls ls' e [] os m ps qs = no_carried
all_carried_are ls ls' e (n ∷ ns) [] m ps qs = no_carried
all_carried_are ls ls' e (n ∷ ns) (o ∷ os) m none_of_sets qs = no_carried
all_carried_are ls ls' e (n ∷ ns) (o ∷ os) m (more_sets p ps) no_gives = no_carried
all_carried_are {wf} {wo} {from} {lo} {hi} ls ls' e (n ∷ ns) (o ∷ os) m (more_sets {s = f} {s' = f'} {ss = fs} {ss' = fs'} p ps) (more_gives {g} {g'} {gs} {gs'} q qs) =
    subst (λ x. CarriedsR wf wo from lo hi (all_carried ls (n ∷ ns) (o ∷ os) (f ∷ fs) (g ∷ gs)) (record { node = n; own = o; first = f'; gives = g'; is_eaten = x } ∷ all_carried ls' ns os fs' gs')) (sym (some_lost_same lo hi ls ls' e o m.0))
    (more_carried m.0 p q (all_carried_are ls ls' e ns os m.1 ps qs))

-- in other worlds
pub carried_in : {wf wo wf2 wo2 : World} {from lo hi : ℕ} → ((s s' : Set) → SetR wf s s' → SetR wf2 s s') → ((s s' : Set) → SetR wo s s' → SetR wo2 s s') → {cs cs' : List Carried} → CarriedsR wf wo from lo hi cs cs' → CarriedsR wf2 wo2 from lo hi cs cs'
carried_in f g no_carried = no_carried
carried_in f g (more_carried m p q ps) = more_carried m (f _ _ p) (record { outer = g _ _ q.outer; tells = q.tells }) (carried_in f g ps)

-- ---- over all turns

module _ {w wf wo : World} {from lo hi : ℕ} where
  of_given_is : (s s' : Set) → ((a : Alias) → lo ≤ node a → node a < hi → is_in a s' ≡ is_in a s) → {cs cs' : List Carried} → CarriedsR wf wo from lo hi cs cs' → {xs xs' : List Set} → SetsR w xs xs' → SetR w (of_given s cs xs) (of_given s' cs' xs')
  unfolding some_in
  of_given_is s s' e no_carried ps = empties w
  of_given_is s s' e (more_carried m p q qs) none_of_sets = empties w
  of_given_is s s' e (more_carried {n = n} {o = o} {f = f} {f' = f'} {g = g} {g' = g'} {e = b} {cs = cs} {cs' = cs'} m p q qs) (more_sets {s = x} {s' = x'} {ss = xs} {ss' = xs'} y ys) =
      subst (λ z. SetR w (cond (some_in s o) (union x (of_given s cs xs)) (of_given s cs xs)) (cond z (union x' (of_given s' cs' xs')) (of_given s' cs' xs'))) (sym (some_in_same lo hi s s' e o m))
      (cond_is (some_in s o) (unions y (of_given_is s s' e qs ys)) (of_given_is s s' e qs ys))

pub how_many_same : {wf wo : World} {from lo hi : ℕ} {cs cs' : List Carried} → CarriedsR wf wo from lo hi cs cs' → how_many_carried cs' ≡ how_many_carried cs
how_many_same no_carried = refl
how_many_same (more_carried m p q ps) = ap suc (how_many_same ps)

module _ {w : World} {from lo hi : ℕ} {all all' : List Carried} (every : CarriedsR w w from lo hi all all') where
  one_round_is : {xs xs' : List Set} → SetsR w xs xs' → {cs cs' : List Carried} → CarriedsR w w from lo hi cs cs' → SetsR w (one_round from all xs cs) (one_round from all' xs' cs')
  one_round_is ps no_carried = none_of_sets
  one_round_is ps (more_carried {e = b} m p q qs) = more_sets (cond_is b (empties w) (unions p (unions q.outer (of_given_is _ _ q.tells every ps)))) (one_round_is ps qs)

  rounds_are : (k : ℕ) {xs xs' : List Set} → SetsR w xs xs' → SetsR w (rounds k from all xs) (rounds k from all' xs')
  rounds_are zero ps = ps
  rounds_are (suc k) ps = rounds_are k (one_round_is ps every)

  no_sets_are : {cs cs' : List Carried} → CarriedsR w w from lo hi cs cs' → SetsR w (no_sets cs) (no_sets cs')
  no_sets_are no_carried = none_of_sets
  no_sets_are (more_carried m p q ps) = more_sets (empties w) (no_sets_are ps)

  pub over_all_turns_are : SetsR w (over_all_turns from all) (over_all_turns from all')
  over_all_turns_are = subst (λ k. SetsR w (rounds (suc (how_many_carried all)) from all (no_sets all)) (rounds (suc k) from all' (no_sets all'))) (sym (how_many_same every)) (rounds_are (suc (how_many_carried all)) (no_sets_are every))
