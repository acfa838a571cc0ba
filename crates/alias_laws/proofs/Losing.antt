-- What was consumed, by the checker's sets and by whole ones.
use Rattle.std.proofs.Common.{◌≡◌, Bool, true, false, ◌||◌, cond, [], ◌∷◌, ◌++◌, Option, Some, None, ◌⊎◌, inl, inr, refl, sym, ap, ap₂, ◌∙◌}
use Rattle.std.proofs.lemmas.Bool.{or_cases}
use Rattle.fut_aliases.specs.Aliases.{is_alias, Set, is_in, those, least}
use Rattle.fut_aliases.specs.declared.aliases.Alias.{Alias}
use Rattle.fut_aliases.specs.Steps.{Losses, lost_at, is_some, is_lost, lose, lose_all, losses_at, consumed_at, first_loss, lost}
use Rattle.fut_aliases.specs.declared.refusals.Broken.TheVariants.{Consumed}
use Rattle.fut_aliases.specs.declared.refusals.Loss.{Loss}
use Rattle.fut_aliases.specs.declared.refusals.Named.{Named}
use Rattle.fut_aliases.specs.declared.refusals.Spot.{Spot}
use Rattle.alias_laws.proofs.Sets.{same_itself, alias_respects, same_turned, Respects}
use Rattle.alias_laws.proofs.Worlds.{World, standing, alone, node, alone_respects, SetR, TestR, those_are, least_is, least_alone, Grows, standing_on, alone_on}

-- those that the checker's sets lose
abbrev pub kept_losses : World → Losses → Losses
kept_losses w [] = []
kept_losses w (l ∷ ls) = cond (alone w l.alias) (l ∷ kept_losses w ls) (kept_losses w ls)

-- ---- what is among losses

pub lost_respects : (ls : Losses) (a b : Alias) → is_alias a b ≡ true → lost_at ls a ≡ lost_at ls b
lost_respects [] a b h = refl
lost_respects (l ∷ ls) a b h = ap₂ (λ x y. cond x (Some l.at) y) (same_turned a l.alias ∙ (alias_respects l.alias a b h ∙ same_turned l.alias b)) (lost_respects ls a b h)

pub is_lost_respects : (ls : Losses) → Respects (is_lost ls)
is_lost_respects ls a b h = ap is_some (lost_respects ls a b h)

pub lost_kept : (w : World) (ls : Losses) (a : Alias) → alone w a ≡ true → lost_at (kept_losses w ls) a ≡ lost_at ls a
lost_kept w [] a h = refl
lost_kept w (l ∷ ls) a h = by_kept (alone w l.alias) (is_alias a l.alias) refl refl (lost_kept w ls a h)
  where
    by_kept : (k same : Bool) → alone w l.alias ≡ k → is_alias a l.alias ≡ same → lost_at (kept_losses w ls) a ≡ lost_at ls a → lost_at (cond k (l ∷ kept_losses w ls) (kept_losses w ls)) a ≡ cond same (Some l.at) (lost_at ls a)
    by_kept true same p q i = ap₂ (λ x y. cond x (Some l.at) y) q i
    by_kept false false p q i = i
    by_kept false true p q i = let e : alone w a ≡ alone w l.alias = alone_respects w a l.alias q in cc

is_some_cond : (b : Bool) (p : Spot) (o : Option Spot) → is_some (cond b (Some p) o) ≡ (b || is_some o)
is_some_cond true p o = refl
is_some_cond false p o = refl

pub lost_together : (ls ms : Losses) (a : Alias) → is_lost (ls ++ ms) a ≡ (is_lost ls a || is_lost ms a)
lost_together [] ms a = refl
lost_together (l ∷ ls) ms a = is_some_cond (is_alias a l.alias) l.at (lost_at (ls ++ ms) a) ∙ (ap (λ x. is_alias a l.alias || x) (lost_together ls ms a) ∙ (grouped (is_alias a l.alias) (is_lost ls a) (is_lost ms a) ∙ ap (λ x. x || is_lost ms a) (sym (is_some_cond (is_alias a l.alias) l.at (lost_at ls a)))))
  where
    grouped : (x y z : Bool) → (x || (y || z)) ≡ ((x || y) || z)
    grouped true y z = refl
    grouped false y z = refl

pub lost_of_set : (p : Spot) (s : Set) (a : Alias) → is_lost (losses_at p s) a ≡ is_in a s
unfolding is_in
lost_of_set p [] a = refl
lost_of_set p (b ∷ s) a = is_some_cond (is_alias a b) p (lost_at (losses_at p s) a) ∙ ap (λ x. is_alias a b || x) (lost_of_set p s a)

-- ---- what is lost too is behind what was

-- those of the first that are not among the second, each once
abbrev pub added : Losses → Losses → Losses
added [] ls = []
added (l ∷ more_of) ls = cond (is_lost ls l.alias) (added more_of ls) (l ∷ added more_of (ls ++ l ∷ []))

pub lose_all_is : (more_of ls : Losses) → lose_all more_of ls ≡ (ls ++ added more_of ls)
unfolding lose_all
lose_all_is [] ls = sym (append_nil ls)
  where
    append_nil : (ls : Losses) → (ls ++ []) ≡ ls
    append_nil [] = refl
    append_nil (l ∷ ls) = ap (λ x. l ∷ x) (append_nil ls)
lose_all_is (l ∷ more_of) ls = by_loss (is_lost ls l.alias) (lose_all_is more_of ls) (lose_all_is more_of (ls ++ l ∷ []))
  where
    grouped : (ls ms ns : Losses) → ((ls ++ ms) ++ ns) ≡ (ls ++ (ms ++ ns))
    grouped [] ms ns = refl
    grouped (l ∷ ls) ms ns = ap (λ x. l ∷ x) (grouped ls ms ns)

    by_loss : (b : Bool) → lose_all more_of ls ≡ (ls ++ added more_of ls) → lose_all more_of (ls ++ l ∷ []) ≡ ((ls ++ l ∷ []) ++ added more_of (ls ++ l ∷ [])) → lose_all more_of (cond b ls (ls ++ l ∷ [])) ≡ (ls ++ cond b (added more_of ls) (l ∷ added more_of (ls ++ l ∷ [])))
    by_loss true i j = i
    by_loss false i j = j ∙ grouped ls (l ∷ []) (added more_of (ls ++ l ∷ []))

lost_of_added : (more_of ls : Losses) (a : Alias) → (is_lost ls a || is_lost (added more_of ls) a) ≡ (is_lost ls a || is_lost more_of a)
lost_of_added [] ls a = refl
lost_of_added (l ∷ more_of) ls a = by_loss (is_lost ls l.alias) refl (lost_of_added more_of ls a) (lost_of_added more_of (ls ++ l ∷ []) a)
  where
    either : (k same u m n : Bool) → ((k || (same || false)) || m) ≡ ((k || (same || false)) || n) → (k || (same || m)) ≡ (k || (same || n))
    either true same u m n h = refl
    either false true u m n h = refl
    either false false u m n h = h

    one : is_lost (l ∷ []) a ≡ (is_alias a l.alias || false)
    one = is_some_cond (is_alias a l.alias) l.at None

    here : (same : Bool) → is_alias a l.alias ≡ same → is_lost ls l.alias ≡ true → (is_lost ls a || is_lost more_of a) ≡ (is_lost ls a || (same || is_lost more_of a))
    here false p h = refl
    here true p h = or_first (is_lost ls a) (is_lost more_of a) (is_lost_respects ls a l.alias p ∙ h)
      where
        or_first : (x y : Bool) → x ≡ true → (x || y) ≡ (x || true)
        or_first true y h = refl
        or_first false y h = cc

    by_loss : (b : Bool) → is_lost ls l.alias ≡ b → (is_lost ls a || is_lost (added more_of ls) a) ≡ (is_lost ls a || is_lost more_of a)
        → (is_lost (ls ++ l ∷ []) a || is_lost (added more_of (ls ++ l ∷ [])) a) ≡ (is_lost (ls ++ l ∷ []) a || is_lost more_of a)
        → (is_lost ls a || is_lost (cond b (added more_of ls) (l ∷ added more_of (ls ++ l ∷ []))) a) ≡ (is_lost ls a || is_lost (l ∷ more_of) a)
    by_loss true h i j = i ∙ (here (is_alias a l.alias) refl h ∙ ap (λ x. is_lost ls a || x) (sym (is_some_cond (is_alias a l.alias) l.at (lost_at more_of a))))
    by_loss false h i j = ap (λ x. is_lost ls a || x) (is_some_cond (is_alias a l.alias) l.at (lost_at (added more_of (ls ++ l ∷ [])) a)) ∙ (either (is_lost ls a) (is_alias a l.alias) true (is_lost (added more_of (ls ++ l ∷ [])) a) (is_lost more_of a) (ap (λ x. x || is_lost (added more_of (ls ++ l ∷ [])) a) (sym (lost_together ls (l ∷ []) a ∙ ap (λ x. is_lost ls a || x) one)) ∙ (j ∙ ap (λ x. x || is_lost more_of a) (lost_together ls (l ∷ []) a ∙ ap (λ x. is_lost ls a || x) one))) ∙ ap (λ x. is_lost ls a || x) (sym (is_some_cond (is_alias a l.alias) l.at (lost_at more_of a))))

pub lost_of_all : (more_of ls : Losses) (a : Alias) → is_lost (lose_all more_of ls) a ≡ (is_lost ls a || is_lost more_of a)
lost_of_all more_of ls a = ap (λ x. is_lost x a) (lose_all_is more_of ls) ∙ (lost_together ls (added more_of ls) a ∙ lost_of_added more_of ls a)

-- what is added was not lost before
pub added_new : (more_of ls : Losses) (a : Alias) → is_lost (added more_of ls) a ≡ true → is_lost ls a ≡ false
added_new [] ls a h = cc
added_new (l ∷ more_of) ls a h = by_loss (is_lost ls l.alias) refl (λ k. added_new more_of ls a k) (λ k. added_new more_of (ls ++ l ∷ []) a k) h
  where
    front : (x y : Bool) → (x || y) ≡ false → x ≡ false
    front true y h = h
    front false y h = refl

    by_loss : (b : Bool) → is_lost ls l.alias ≡ b → (is_lost (added more_of ls) a ≡ true → is_lost ls a ≡ false) → (is_lost (added more_of (ls ++ l ∷ [])) a ≡ true → is_lost (ls ++ l ∷ []) a ≡ false)
        → is_lost (cond b (added more_of ls) (l ∷ added more_of (ls ++ l ∷ []))) a ≡ true → is_lost ls a ≡ false
    by_loss true p i j k = i k
    by_loss false p i j k = by_place (or_cases (is_alias a l.alias) (is_lost (added more_of (ls ++ l ∷ [])) a) (sym (is_some_cond (is_alias a l.alias) l.at (lost_at (added more_of (ls ++ l ∷ [])) a)) ∙ k))
      where
        by_place : (is_alias a l.alias ≡ true) ⊎ (is_lost (added more_of (ls ++ l ∷ [])) a ≡ true) → is_lost ls a ≡ false
        by_place (inl e) = is_lost_respects ls a l.alias e ∙ p
        by_place (inr e) = front (is_lost ls a) (is_lost (l ∷ []) a) (sym (lost_together ls (l ∷ []) a) ∙ j e)

pub added_there : (more_of ls : Losses) (a : Alias) → is_lost (added more_of ls) a ≡ true → is_lost more_of a ≡ true
added_there more_of ls a h = by_first (is_lost ls a) (added_new more_of ls a h) (lost_of_added more_of ls a) h
  where
    by_first : (x : Bool) {y z : Bool} → x ≡ false → (x || y) ≡ (x || z) → y ≡ true → z ≡ true
    by_first true p e h = cc
    by_first false p e h = sym e ∙ h

pub there_added : (more_of ls : Losses) (a : Alias) → is_lost ls a ≡ false → is_lost more_of a ≡ true → is_lost (added more_of ls) a ≡ true
there_added more_of ls a p h = by_first (is_lost ls a) p (lost_of_added more_of ls a) h
  where
    by_first : (x : Bool) {y z : Bool} → x ≡ false → (x || y) ≡ (x || z) → z ≡ true → y ≡ true
    by_first true p e h = cc
    by_first false p e h = e ∙ h

-- ---- the checker's losses

pub kept_together : (w : World) (ls ms : Losses) → kept_losses w (ls ++ ms) ≡ (kept_losses w ls ++ kept_losses w ms)
kept_together w [] ms = refl
kept_together w (l ∷ ls) ms = by_kept (alone w l.alias) (kept_together w ls ms)
  where
    by_kept : (k : Bool) → kept_losses w (ls ++ ms) ≡ (kept_losses w ls ++ kept_losses w ms) → cond k (l ∷ kept_losses w (ls ++ ms)) (kept_losses w (ls ++ ms)) ≡ (cond k (l ∷ kept_losses w ls) (kept_losses w ls) ++ kept_losses w ms)
    by_kept true i = ap (λ x. l ∷ x) i
    by_kept false i = i

kept_lose : (w : World) (l : Loss) (ls : Losses) → kept_losses w (lose l ls) ≡ cond (alone w l.alias) (lose l (kept_losses w ls)) (kept_losses w ls)
kept_lose w l ls = by_kept (alone w l.alias) (is_lost ls l.alias) refl refl
  where
    append_nil : (ls : Losses) → (ls ++ []) ≡ ls
    append_nil [] = refl
    append_nil (l ∷ ls) = ap (λ x. l ∷ x) (append_nil ls)

    by_kept : (k b : Bool) → alone w l.alias ≡ k → is_lost ls l.alias ≡ b → kept_losses w (cond b ls (ls ++ l ∷ [])) ≡ cond k (lose l (kept_losses w ls)) (kept_losses w ls)
    by_kept true true p q = sym (ap (λ x. cond x (kept_losses w ls) (kept_losses w ls ++ l ∷ [])) (ap is_some (lost_kept w ls l.alias p) ∙ q))
    by_kept true false p q = kept_together w ls (l ∷ []) ∙ (ap (λ x. kept_losses w ls ++ cond x (l ∷ []) []) p ∙ sym (ap (λ x. cond x (kept_losses w ls) (kept_losses w ls ++ l ∷ [])) (ap is_some (lost_kept w ls l.alias p) ∙ q)))
    by_kept false true p q = refl
    by_kept false false p q = kept_together w ls (l ∷ []) ∙ (ap (λ x. kept_losses w ls ++ cond x (l ∷ []) []) p ∙ append_nil (kept_losses w ls))

kept_all : (w : World) (more_of ls : Losses) → kept_losses w (lose_all more_of ls) ≡ lose_all (kept_losses w more_of) (kept_losses w ls)
unfolding lose_all
kept_all w [] ls = refl
kept_all w (l ∷ more_of) ls = kept_all w more_of (lose l ls) ∙ (ap (lose_all (kept_losses w more_of)) (kept_lose w l ls) ∙ by_kept (alone w l.alias))
  where
    by_kept : (k : Bool) → lose_all (kept_losses w more_of) (cond k (lose l (kept_losses w ls)) (kept_losses w ls)) ≡ lose_all (cond k (l ∷ kept_losses w more_of) (kept_losses w more_of)) (kept_losses w ls)
    by_kept true = refl
    by_kept false = refl

kept_of_set : (w : World) (p : Spot) (s : Set) → kept_losses w (losses_at p s) ≡ losses_at p (those (alone w) s)
unfolding those
kept_of_set w p [] = refl
kept_of_set w p (a ∷ s) = by_kept (alone w a) (kept_of_set w p s)
  where
    by_kept : (k : Bool) → kept_losses w (losses_at p s) ≡ losses_at p (those (alone w) s) → cond k (record { alias = a; at = p } ∷ kept_losses w (losses_at p s)) (kept_losses w (losses_at p s)) ≡ losses_at p (cond k (a ∷ those (alone w) s) (those (alone w) s))
    by_kept true i = ap (λ x. record { alias = a; at = p } ∷ x) i
    by_kept false i = i

-- each that was lost is known, and so is what stands for it
pub record Closed (w : World) (ls : Losses) : Type 0 where
  pub closed : (a : Alias) → is_lost ls a ≡ true → is_lost ls (standing w a) ≡ true
  pub is_known : (a : Alias) → is_lost ls a ≡ true → w.known (node a) ≡ true

pub record LossesR (w : World) (ls ls' : Losses) : Type 0 where
  pub whole : Closed w ls
  pub is : ls' ≡ kept_losses w ls

closed_on : {w w2 : World} {ls : Losses} → Grows w w2 → Closed w ls → Closed w2 ls
closed_on {w} {w2} {ls} g c = record { closed = λ a h. ap (is_lost ls) (standing_on g a (c.is_known a h)) ∙ c.closed a h; is_known = λ a h. g.knows (node a) (c.is_known a h) }

pub kept_on : {w w2 : World} → Grows w w2 → (ls : Losses) → ((a : Alias) → is_lost ls a ≡ true → w.known (node a) ≡ true) → kept_losses w2 ls ≡ kept_losses w ls
kept_on {w} {w2} g [] h = refl
kept_on {w} {w2} g (l ∷ ls) h = ap₂ (λ x y. cond x (l ∷ y) y) (alone_on g l.alias (h l.alias (is_some_cond (is_alias l.alias l.alias) l.at (lost_at ls l.alias) ∙ ap (λ x. x || is_lost ls l.alias) (same_itself l.alias)))) (kept_on g ls (λ a k. h a (is_some_cond (is_alias a l.alias) l.at (lost_at ls a) ∙ or_true (is_alias a l.alias) k)))
  where
    or_true : (x : Bool) {y : Bool} → y ≡ true → (x || y) ≡ true
    or_true true h = refl
    or_true false h = h

pub losses_on : {w w2 : World} {ls ls' : Losses} → Grows w w2 → LossesR w ls ls' → LossesR w2 ls ls'
losses_on {w} {w2} {ls} g p = record { whole = closed_on g p.whole; is = p.is ∙ sym (kept_on g ls p.whole.is_known) }

pub none_lost : (w : World) → LossesR w [] []
none_lost w = record { whole = record { closed = λ a h. cc; is_known = λ a h. cc }; is = refl }

pub both_or : (x y : Bool) {u v : Bool} → (x || y) ≡ true → (x ≡ true → u ≡ true) → (y ≡ true → v ≡ true) → (u || v) ≡ true
both_or true y {u} {v} h p q = ap (λ z. z || v) (p refl)
both_or false y {u} {v} h p q = or_true u (q h)
  where
    or_true : (x : Bool) {y : Bool} → y ≡ true → (x || y) ≡ true
    or_true true h = refl
    or_true false h = h

pub either_or : {A : Type 0} (x y : Bool) → (x || y) ≡ true → (x ≡ true → A) → (y ≡ true → A) → A
either_or true y h p q = p refl
either_or false y h p q = q h

pub loses_all : {w : World} {ms ms' ls ls' : Losses} → LossesR w ms ms' → LossesR w ls ls' → LossesR w (lose_all ms ls) (lose_all ms' ls')
loses_all {w} {ms} {ms'} {ls} {ls'} p q = record {
  whole = record {
    closed = λ a h. lost_of_all ms ls (standing w a) ∙ both_or (is_lost ls a) (is_lost ms a) (sym (lost_of_all ms ls a) ∙ h) (q.whole.closed a) (p.whole.closed a);
    is_known = λ a h. either_or (is_lost ls a) (is_lost ms a) (sym (lost_of_all ms ls a) ∙ h) (q.whole.is_known a) (p.whole.is_known a);
  };
  is = ap₂ lose_all p.is q.is ∙ sym (kept_all w ms ls);
}

pub set_lost : {w : World} {s s' : Set} (p : Spot) → SetR w s s' → LossesR w (losses_at p s) (losses_at p s')
set_lost {w} {s} {s'} p q = record {
  whole = record {
    closed = λ a h. lost_of_set p s (standing w a) ∙ (q.stood a (sym (lost_of_set p s a) ∙ h)).has;
    is_known = λ a h. (q.stood a (sym (lost_of_set p s a) ∙ h)).is_known;
  };
  is = ap (losses_at p) q.is ∙ sym (kept_of_set w p s);
}

-- ---- what is lost of a set

-- these losses and the checker's tell the same of what stands for itself, and what stands for an alias of the set that is lost is
pub record LostR (w : World) (s : Set) (ls ls' : Losses) : Type 0 where
  pub closed : (a : Alias) → is_in a s ≡ true → is_lost ls a ≡ true → is_lost ls (standing w a) ≡ true
  pub same : (a : Alias) → alone w a ≡ true → lost_at ls' a ≡ lost_at ls a

pub all_lost : {w : World} {ls ls' : Losses} (s : Set) → LossesR w ls ls' → LostR w s ls ls'
all_lost {w} {ls} s p = record { closed = λ a i h. p.whole.closed a h; same = λ a h. ap (λ x. lost_at x a) p.is ∙ lost_kept w ls a h }

lost_test : {w : World} {s : Set} {ls ls' : Losses} → LostR w s ls ls' → TestR w s (is_lost ls) (is_lost ls')
lost_test {w} {s} {ls} p = record { respects = is_lost_respects ls; closed = p.closed; same = λ a h. ap is_some (p.same a h) }

pub lost_same : {w : World} {s s' : Set} {ls ls' : Losses} → LostR w s ls ls' → SetR w s s' → (name : Alias → Named) (used : Spot) → lost ls' name used s' ≡ lost ls name used s
unfolding lost
lost_same {w} {s} {s'} {ls} {ls'} p q name used = ap (first_loss ls' name used) (least_is (those_are (lost_test p) q)) ∙ by_least (least (those (is_lost ls) s)) refl
  where
    by_least : (o : Option Alias) → least (those (is_lost ls) s) ≡ o → first_loss ls' name used o ≡ first_loss ls name used o
    by_least None h = refl
    by_least (Some a) h = ap (λ o. consumed_at (λ p. Consumed (name a) p used) o) (p.same a (least_alone (those_are (lost_test p) q) a h))
