-- What was consumed since a point: with each alias what stands for it, and nothing that was lost before.
use Rattle.std.proofs.Common.{◌≡◌, Bool, true, false, ◌||◌, [], ◌∷◌, ◌++◌, length, refl, sym, ap, ◌∙◌, append_assoc, append-nil}
use Rattle.fut_aliases.specs.Aliases.{Set, is_in}
use Rattle.fut_aliases.specs.declared.aliases.Alias.{Alias}
use Rattle.fut_aliases.specs.Steps.{Losses, lost_at, is_lost, lose_all, losses_at, behind}
use Rattle.fut_aliases.specs.declared.refusals.Spot.{Spot}
use Rattle.alias_laws.proofs.Worlds.{World, standing, node, SetR, Grows, standing_on}
use Rattle.alias_laws.proofs.Losing.{kept_losses, LossesR, LostR, lost_kept, kept_together, lost_together, lost_of_set, added, lose_all_is, added_there, there_added, added_new, both_or, either_or}

pub record Since (w : World) (before ls : Losses) : Type 0 where
  pub more : Losses
  pub is : ls ≡ (before ++ more)
  pub closed : (a : Alias) → is_lost more a ≡ true → is_lost more (standing w a) ≡ true
  pub is_known : (a : Alias) → is_lost more a ≡ true → w.known (node a) ≡ true
  pub is_new : (a : Alias) → is_lost more a ≡ true → is_lost before a ≡ false

pub since_now : (w : World) (ls : Losses) → Since w ls ls
since_now w ls = record { more = []; is = sym (append-nil ls); closed = λ a h. cc; is_known = λ a h. cc; is_new = λ a h. cc }

pub since_grows : {w w2 : World} {before ls : Losses} → Grows w w2 → Since w before ls → Since w2 before ls
since_grows {w} {w2} g p = record { more = p.more; is = p.is; closed = λ a h. ap (is_lost p.more) (standing_on g a (p.is_known a h)) ∙ p.closed a h; is_known = λ a h. g.knows (node a) (p.is_known a h); is_new = p.is_new }

or_false : (x y : Bool) → (x || y) ≡ false → x ≡ false
or_false true y h = h
or_false false y h = refl

pub since_on : {w : World} {before ls ms : Losses} → Since w before ls → Since w ls ms → Since w before ms
since_on {w} {before} {ls} {ms} p q = record {
  more = p.more ++ q.more;
  is = q.is ∙ (ap (λ x. x ++ q.more) p.is ∙ append_assoc before p.more q.more);
  closed = λ a h. lost_together p.more q.more (standing w a) ∙ both_or (is_lost p.more a) (is_lost q.more a) (sym (lost_together p.more q.more a) ∙ h) (p.closed a) (q.closed a);
  is_known = λ a h. either_or (is_lost p.more a) (is_lost q.more a) (sym (lost_together p.more q.more a) ∙ h) (p.is_known a) (q.is_known a);
  is_new = λ a h. either_or (is_lost p.more a) (is_lost q.more a) (sym (lost_together p.more q.more a) ∙ h) (p.is_new a) (λ k. or_false (is_lost before a) (is_lost p.more a) (sym (lost_together before p.more a) ∙ (ap (λ x. is_lost x a) (sym p.is) ∙ q.is_new a k)));
}

-- what was lost stays lost
pub stays_lost : {w : World} {before ls : Losses} → Since w before ls → (a : Alias) → is_lost ls a ≡ false → is_lost before a ≡ false
stays_lost {w} {before} {ls} p a h = or_false (is_lost before a) (is_lost p.more a) (sym (lost_together before p.more a) ∙ (ap (λ x. is_lost x a) (sym p.is) ∙ h))

-- these are lost too
pub record Fresh (w : World) (before more_of : Losses) (a : Alias) : Type 0 where
  pub has : is_lost more_of (standing w a) ≡ true
  pub is_new : is_lost before (standing w a) ≡ false
  pub is_known : w.known (node a) ≡ true

pub since_more : {w : World} {before ls : Losses} (more_of : Losses) → Since w before ls → ((a : Alias) → is_lost more_of a ≡ true → is_lost before a ≡ false → Fresh w before more_of a) → Since w before (lose_all more_of ls)
since_more {w} {before} {ls} ms p f = record {
  more = p.more ++ added ms ls;
  is = lose_all_is ms ls ∙ (ap (λ x. x ++ added ms ls) p.is ∙ append_assoc before p.more (added ms ls));
  closed = λ a h. lost_together p.more (added ms ls) (standing w a) ∙ either_or (is_lost p.more a) (is_lost (added ms ls) a) (sym (lost_together p.more (added ms ls) a) ∙ h)
      (λ k. ap (λ x. x || is_lost (added ms ls) (standing w a)) (p.closed a k)) (λ k. of_added a k (fresh a k));
  is_known = λ a h. either_or (is_lost p.more a) (is_lost (added ms ls) a) (sym (lost_together p.more (added ms ls) a) ∙ h) (p.is_known a) (λ k. (fresh a k).is_known);
  is_new = λ a h. either_or (is_lost p.more a) (is_lost (added ms ls) a) (sym (lost_together p.more (added ms ls) a) ∙ h) (p.is_new a) (λ k. stays_lost p a (added_new ms ls a k));
}
  where
    fresh : (a : Alias) → is_lost (added ms ls) a ≡ true → Fresh w before ms a
    fresh a k = f a (added_there ms ls a k) (stays_lost p a (added_new ms ls a k))

    or_true : (x : Bool) {y : Bool} → y ≡ true → (x || y) ≡ true
    or_true true h = refl
    or_true false h = h

    of_added : (a : Alias) → is_lost (added ms ls) a ≡ true → Fresh w before ms a → (is_lost p.more (standing w a) || is_lost (added ms ls) (standing w a)) ≡ true
    of_added a k q = by_place (is_lost p.more (standing w a)) refl
      where
        by_place : (x : Bool) → is_lost p.more (standing w a) ≡ x → (x || is_lost (added ms ls) (standing w a)) ≡ true
        by_place true e = refl
        by_place false e = there_added ms ls (standing w a) (ap (λ x. is_lost x (standing w a)) p.is ∙ (lost_together before p.more (standing w a) ∙ (ap (λ x. x || is_lost p.more (standing w a)) q.is_new ∙ e))) q.has

-- a set that has nothing of what was lost before
pub since_set : {w : World} {before ls : Losses} {s s' : Set} (p : Spot) → Since w before ls → SetR w s s' → ((a : Alias) → is_in a s ≡ true → is_lost before a ≡ false) → Since w before (lose_all (losses_at p s) ls)
since_set {w} {before} {ls} {s} p q r n = since_more (losses_at p s) q (λ a h k. let i = sym (lost_of_set p s a) ∙ h in let d = r.stood a i in record { has = lost_of_set p s (standing w a) ∙ d.has; is_new = n (standing w a) d.has; is_known = d.is_known })

-- what either of two loses
pub since_either : {w : World} {before ls ms : Losses} → Since w before ls → Since w before ms → Since w before (lose_all ms ls)
since_either {w} {before} {ls} {ms} p q = since_more ms p (λ a h k. let i = in_more a h k in record { has = there (standing w a) (q.closed a i); is_new = q.is_new (standing w a) (q.closed a i); is_known = q.is_known a i })
  where
    after : (x : Bool) {y : Bool} → x ≡ false → (x || y) ≡ true → y ≡ true
    after true e h = cc
    after false e h = h

    or_true : (x : Bool) {y : Bool} → y ≡ true → (x || y) ≡ true
    or_true true h = refl
    or_true false h = h

    in_more : (a : Alias) → is_lost ms a ≡ true → is_lost before a ≡ false → is_lost q.more a ≡ true
    in_more a h k = after (is_lost before a) k (sym (lost_together before q.more a) ∙ (ap (λ x. is_lost x a) (sym q.is) ∙ h))

    there : (a : Alias) → is_lost q.more a ≡ true → is_lost ms a ≡ true
    there a h = ap (λ x. is_lost x a) q.is ∙ (lost_together before q.more a ∙ or_true (is_lost before a) h)

-- ---- what is behind

behind_these : (ls ms : Losses) → behind (length ls) (ls ++ ms) ≡ ms
behind_these [] ms = refl
behind_these (l ∷ ls) ms = behind_these ls ms

pub behind_lost : {w : World} {before ls ls' : Losses} (s : Set) → Since w before ls → LossesR w ls ls' → LostR w s (behind (length before) ls) (behind (length (kept_losses w before)) ls')
behind_lost {w} {before} {ls} {ls'} s p q = record {
  closed = λ a i h. ap (λ x. is_lost x (standing w a)) now ∙ p.closed a (ap (λ x. is_lost x a) (sym now) ∙ h);
  same = λ a h. ap (λ x. lost_at x a) kept_now ∙ (lost_kept w p.more a h ∙ ap (λ x. lost_at x a) (sym now));
}
  where
    now : behind (length before) ls ≡ p.more
    now = ap (behind (length before)) p.is ∙ behind_these before p.more

    kept_now : behind (length (kept_losses w before)) ls' ≡ kept_losses w p.more
    kept_now = ap (behind (length (kept_losses w before))) (q.is ∙ (ap (kept_losses w) p.is ∙ kept_together w before p.more)) ∙ behind_these (kept_losses w before) (kept_losses w p.more)
