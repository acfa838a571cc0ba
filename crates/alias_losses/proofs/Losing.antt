-- Losses one after another.
use Rattle.std.proofs.Common.{◌≡◌, ℕ, zero, suc, ◌+◌, ◌<◌, ◌≤◌, List, [], ◌∷◌, ◌++◌, length, map, get_or, drop, cond, Option, Some, None, refl, sym, ap, ◌∙◌, arith, add-one, append_assoc, append-nil}
use Rattle.std.proofs.Math.Seq.{drop-cons}
use Rattle.fut_aliases.specs.declared.aliases.Alias.{Alias}
use Rattle.fut_aliases.specs.declared.refusals.Broken.TheVariants.{Consumed}
use Rattle.fut_aliases.specs.declared.refusals.Loss.{Loss}
use Rattle.fut_aliases.specs.declared.refusals.Named.{Named}
use Rattle.fut_aliases.specs.declared.refusals.Spot.{Spot}
use Rattle.fut_aliases.specs.Aliases.{Set, least, those}
use Rattle.alias_losses.specs.declared.chains.Entry.{Entry}
use Rattle.fut_aliases.specs.Steps.{Losses, behind, consumed_at, first_loss, is_lost, is_some, lose, lose_all, losses_at, lost, lost_at}

drop_past : {A : Type 0} (xs : List A) (i : ℕ) → length xs ≤ i → drop i xs ≡ []
drop_past [] zero l = refl
drop_past [] (suc i) l = refl
drop_past (x ∷ xs) zero l = absurd (omega (arith, l))
drop_past (x ∷ xs) (suc i) l = drop_past xs i (omega (arith, l))

one_more : {A : Type 0} (xs : List A) (i : ℕ) (d : A) → i < length xs → drop i xs ≡ get_or xs i d ∷ drop (i + 1) xs
one_more xs i d l = drop-cons xs i d l ∙ ap (λ j. get_or xs i d ∷ drop j xs) (sym (add-one i))

-- ---- one

pub known_lost : (l : Loss) (ls : Losses) (p : Spot) → Some p ≡ lost_at ls l.alias → ls ≡ lose l ls
known_lost l ls p h = ap (λ z. cond (is_some z) ls (ls ++ l ∷ [])) h

pub newly_lost : (l : Loss) (ls ms : Losses) → lost_at ls l.alias ≡ None → ms ≡ ls ++ l ∷ [] → ms ≡ lose l ls
newly_lost l ls ms h e = e ∙ sym (ap (λ z. cond (is_some z) ls (ls ++ l ∷ [])) h)

pub ruleset one_loss = (known_lost, newly_lost)

-- ---- many

module _ (more_of : Losses) (i : ℕ) (old ls : Losses) (h : lose_all more_of old ≡ lose_all (drop i more_of) ls) where
  pub lose_more : (d : Loss) (ms : Losses) → i < length more_of → ms ≡ lose (get_or more_of i d) ls → lose_all more_of old ≡ lose_all (drop (i + 1) more_of) ms
  unfolding lose_all
  lose_more d ms l e = h ∙ ap (λ z. lose_all z ls) (one_more more_of i d l) ∙ ap (lose_all (drop (i + 1) more_of)) (sym e)

  pub lose_end : length more_of ≤ i → ls ≡ lose_all more_of old
  unfolding lose_all
  lose_end l = sym (h ∙ ap (λ z. lose_all z ls) (drop_past more_of i l))

pub ruleset many_losses = (lose_more, lose_end)

module _ (p : Spot) (s : Set) (i : ℕ) (old ls : Losses) (h : lose_all (losses_at p s) old ≡ lose_all (losses_at p (drop i s)) ls) where
  pub consume_more : (d : Alias) (ms : Losses) → i < length s → ms ≡ lose (record { alias = get_or s i d; at = p }) ls → lose_all (losses_at p s) old ≡ lose_all (losses_at p (drop (i + 1) s)) ms
  unfolding lose_all
  consume_more d ms l e = h ∙ ap (λ z. lose_all (losses_at p z) ls) (one_more s i d l) ∙ ap (lose_all (losses_at p (drop (i + 1) s))) (sym e)

  pub consume_end : length s ≤ i → ls ≡ lose_all (losses_at p s) old
  unfolding lose_all
  consume_end l = sym (h ∙ ap (λ z. lose_all (losses_at p z) ls) (drop_past s i l))

pub ruleset all_consumed = (consume_more, consume_end)

-- ---- which is lost

module _ (ls : Losses) (name : Alias → Named) (u : Spot) (s : Set) (i : ℕ) (h : lost ls name u s ≡ lost ls name u (drop i s)) where
  lost_from : (d : Alias) (p : Option Spot) → i < length s → p ≡ lost_at ls (get_or s i d) → lost ls name u s ≡ first_loss ls name u (least (cond (is_some p) (get_or s i d ∷ those (is_lost ls) (drop (i + 1) s)) (those (is_lost ls) (drop (i + 1) s))))
  unfolding lost those
  lost_from d p l e = h ∙ ap (lost ls name u) (one_more s i d l) ∙ ap (λ z. first_loss ls name u (least (cond (is_some z) (get_or s i d ∷ those (is_lost ls) (drop (i + 1) s)) (those (is_lost ls) (drop (i + 1) s))))) (sym e)

  pub lost_more : (d : Alias) → i < length s → None ≡ lost_at ls (get_or s i d) → lost ls name u s ≡ lost ls name u (drop (i + 1) s)
  unfolding lost
  lost_more d l e = lost_from d None l e

  pub lost_here : (d : Alias) (p : Spot) (n : Named) → i < length s → Some p ≡ lost_at ls (get_or s i d) → n ≡ name (get_or s i d) → Some (Consumed n p u) ≡ lost ls name u s
  unfolding lost
  lost_here d p n l e is = ap (λ z. Some (Consumed z p u)) is ∙ sym (lost_from d (Some p) l e ∙ ap (consumed_at (λ q. Consumed (name (get_or s i d)) q u)) (sym e))

  pub lost_end : length s ≤ i → None ≡ lost ls name u s
  unfolding lost those
  lost_end l = sym (h ∙ ap (lost ls name u) (drop_past s i l))

pub ruleset least_lost = (lost_more, lost_here, lost_end)

-- ---- the last of them

abbrev shown : List Entry → Losses
shown = map (λ (e : Entry). e.loss)

behind_more : (es : List Entry) (i : ℕ) (d : Entry) → i < length es → behind i (shown es) ≡ (get_or es i d).loss ∷ behind (suc i) (shown es)
behind_more [] i d l = absurd (omega (arith, l))
behind_more (e ∷ es) zero d l = refl
behind_more (e ∷ es) (suc i) d l = behind_more es i d (omega (arith, l))

behind_past : (es : List Entry) (i : ℕ) → length es ≤ i → behind i (shown es) ≡ []
behind_past [] zero l = refl
behind_past [] (suc i) l = refl
behind_past (e ∷ es) zero l = absurd (omega (arith, l))
behind_past (e ∷ es) (suc i) l = behind_past es i (omega (arith, l))

module _ (es : List Entry) (i k : ℕ) (made : Losses) (h : made ++ behind i (shown es) ≡ behind k (shown es)) where
  pub later_more : (d : Entry) (longer : Losses) → i < length es → longer ≡ made ++ (get_or es i d).loss ∷ [] → longer ++ behind (i + 1) (shown es) ≡ behind k (shown es)
  later_more d longer l e = ap (λ z. z ++ behind (i + 1) (shown es)) e ∙ append_assoc made ((get_or es i d).loss ∷ []) (behind (i + 1) (shown es)) ∙ ap (λ j. made ++ (get_or es i d).loss ∷ behind j (shown es)) (add-one i) ∙ ap (λ z. made ++ z) (sym (behind_more es i d l)) ∙ h

  pub later_end : length es ≤ i → made ≡ behind k (shown es)
  later_end l = sym (append-nil made) ∙ ap (λ z. made ++ z) (sym (behind_past es i l)) ∙ h

pub ruleset later_losses = (later_more, later_end)
