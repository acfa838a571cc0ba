-- What both branches of an `if` consume.
use Rattle.std.proofs.Common.{◌≡◌, suc, ◌+◌, ◌≤◌, Bool, true, false, ◌&&◌, cond, nat_eq, [], ◌∷◌, ◌++◌, length, Some, refl, sym, ap, ◌∙◌, arith, append_assoc, append-nil}
use Rattle.std.proofs.lemmas.Bool.{eq-eqb}
use Rattle.fut_aliases.specs.declared.aliases.Alias.{Alias}
use Rattle.fut_aliases.specs.declared.aliases.Alias.TheVariants.{Part, Own}
use Rattle.fut_aliases.specs.declared.refusals.Loss.{Loss}
use Rattle.fut_aliases.specs.Aliases.{is_alias}
use Rattle.fut_aliases.specs.Steps.{Losses, behind, is_lost, is_some, lose, lose_all, lost_at}
use Rattle.uniqueness.specs.Answers.{Grows}

behind_grown : (ls q : Losses) → behind (length ls) (ls ++ q) ≡ q
behind_grown [] q = refl
behind_grown (l ∷ ls) q = behind_grown ls q

length_pushed : (ls : Losses) (l : Loss) → length (ls ++ l ∷ []) ≡ suc (length ls)
length_pushed [] l = refl
length_pushed (x ∷ ls) l = ap suc (length_pushed ls l)

-- ---- what was not consumed yet stands behind the others

abbrev lost_or_not : Losses → Loss → Bool → Losses
lost_or_not ls l t = cond t ls (ls ++ l ∷ [])

lose_long : (l : Loss) (ls : Losses) → length (lose l ls) ≤ suc (length ls)
lose_long l ls = by_loss (is_lost ls l.alias)
  where
    by_loss : (t : Bool) → length (lost_or_not ls l t) ≤ suc (length ls)
    by_loss true = omega arith
    by_loss false = let e : length (ls ++ l ∷ []) ≡ suc (length ls) = length_pushed ls l in omega (arith, e)

lose_all_long : (q ls : Losses) → length (lose_all q ls) ≤ length ls + length q
unfolding lose_all
lose_all_long [] ls = omega arith
lose_all_long (l ∷ q) ls = let e : length (lose_all q (lose l ls)) ≤ length (lose l ls) + length q = lose_all_long q (lose l ls) in omega (arith, e, lose_long l ls)

all_new : (q ls : Losses) → length (lose_all q ls) ≡ length ls + length q → lose_all q ls ≡ ls ++ q
unfolding lose_all
all_new [] ls e = sym (append-nil ls)
all_new (l ∷ q) ls e = by_loss (is_lost ls l.alias) e (all_new q (ls ++ l ∷ []))
  where
    by_loss : (t : Bool) → length (lose_all q (lost_or_not ls l t)) ≡ length ls + suc (length q) → (length (lose_all q (ls ++ l ∷ [])) ≡ length (ls ++ l ∷ []) + length q → lose_all q (ls ++ l ∷ []) ≡ (ls ++ l ∷ []) ++ q) → lose_all q (lost_or_not ls l t) ≡ ls ++ l ∷ q
    by_loss true f rest = let less : length (lose_all q ls) ≤ length ls + length q = lose_all_long q ls in absurd (omega (arith, f, less))
    by_loss false f rest = let e : length (ls ++ l ∷ []) ≡ suc (length ls) = length_pushed ls l in rest (omega (arith, f, e)) ∙ append_assoc ls (l ∷ []) q

-- ---- what was consumed already changes nothing

alias_self : (a : Alias) → is_alias a a ≡ true
alias_self (Part n i b) = ap (λ z. z && nat_eq i i) (eq-eqb n n refl) ∙ eq-eqb i i refl
alias_self (Own n) = eq-eqb n n refl

lost_within : (p : Losses) (l : Loss) (s : Losses) → is_lost (p ++ l ∷ s) l.alias ≡ true
lost_within [] l s = ap (λ t. is_some (cond t (Some l.at) (lost_at s l.alias))) (alias_self l.alias)
lost_within (x ∷ p) l s = by_alias (is_alias l.alias x.alias) (lost_within p l s)
  where
    by_alias : (t : Bool) → is_lost (p ++ l ∷ s) l.alias ≡ true → is_some (cond t (Some x.at) (lost_at (p ++ l ∷ s) l.alias)) ≡ true
    by_alias true rest = refl
    by_alias false rest = rest

all_known : (r p q : Losses) → lose_all r (p ++ (r ++ q)) ≡ p ++ (r ++ q)
unfolding lose_all
all_known [] p q = refl
all_known (l ∷ r) p q = let e : p ++ l ∷ (r ++ q) ≡ (p ++ l ∷ []) ++ (r ++ q) = sym (append_assoc p (l ∷ []) (r ++ q)) in
    ap (λ t. lose_all r (lost_or_not (p ++ l ∷ (r ++ q)) l t)) (lost_within p l (r ++ q)) ∙ ap (lose_all r) e ∙ all_known r (p ++ l ∷ []) q ∙ sym e

lose_both : (r s ls : Losses) → lose_all (r ++ s) ls ≡ lose_all s (lose_all r ls)
unfolding lose_all
lose_both [] s ls = refl
lose_both (l ∷ r) s ls = lose_both r s (lose l ls)

-- ---- both branches

pub joined : (ls one other first second mid new : Losses) → Grows ls one → Grows ls other → first ≡ behind (length ls) one → second ≡ behind (length ls) other → mid ≡ lose_all first ls → length mid ≡ length ls + length first → new ≡ lose_all second mid → new ≡ lose_all other one
joined ls one other first second mid new (p, e) (q, f) a b m l n =
    n ∙ ap (λ z. lose_all z mid) (b ∙ ap (behind (length ls)) f ∙ behind_grown ls q) ∙ ap (lose_all q) mid_is ∙ sym (ap (λ z. lose_all z one) f ∙ lose_both ls q one ∙ ap (lose_all q) (ap (lose_all ls) e ∙ all_known ls [] p ∙ sym e))
  where
    first_is : first ≡ p
    first_is = a ∙ ap (behind (length ls)) e ∙ behind_grown ls p

    mid_is : mid ≡ one
    mid_is = m ∙ all_new first ls (ap length (sym m) ∙ l) ∙ ap (λ z. ls ++ z) first_is ∙ sym e
