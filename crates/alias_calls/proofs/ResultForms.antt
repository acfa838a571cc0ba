-- What a call gives, by how many components have no star.
use Rattle.std.proofs.Common.{◌≡◌, ℕ, zero, suc, ◌<◌, ◌≤◌, true, false, refl, sym, ap, ◌∙◌, arith}
use Rattle.std.specs.Prelude.{nat_le}
use Rattle.std.proofs.lemmas.Bool.{le-leb}
use Rattle.fut_types.specs.Types.{Ty, Kinds}
use Rattle.fut_aliases.specs.declared.aliases.Alias.TheVariants.{Own}
use Rattle.fut_aliases.specs.Aliases.{Set, with_alias}
use Rattle.fut_aliases.specs.Stars.{Stars}
use Rattle.fut_aliases.specs.Values.{Value, starring, with_stars}
use Rattle.fut_aliases.specs.Calls.{call_value, unstarred, with_own}

few : (n : ℕ) → n < 2 → nat_le 2 n ≡ false
few zero l = refl
few (suc zero) l = refl
few (suc (suc n)) l = absurd (omega arith)

module _ (K : Kinds) (n : ℕ) (s : Set) (u : Stars) (t : Ty) (v : Value) (k : ℕ) (e : v ≡ with_stars K s u t) (c : k ≡ unstarred (starring u v)) where
  counted : unstarred (starring u (with_stars K s u t)) ≡ k
  counted = sym (c ∙ ap (λ z. unstarred (starring u z)) e)

  pub result_alone : k < 2 → v ≡ call_value K n s u t
  result_alone l = e ∙ ap (λ z. with_stars K (with_own n z s) u t) (sym (ap (nat_le 2) counted ∙ few k l))

  pub result_shared : (all : Set) (w : Value) → 2 ≤ k → all ≡ with_alias (Own n) s → w ≡ with_stars K all u t → w ≡ call_value K n s u t
  result_shared all w l a m = m ∙ ap (λ z. with_stars K z u t) a ∙ ap (λ z. with_stars K (with_own n z s) u t) (sym (ap (nat_le 2) counted ∙ le-leb 2 k l))

pub ruleset result_forms = (result_alone, result_shared)
