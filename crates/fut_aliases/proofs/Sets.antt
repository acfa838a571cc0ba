-- Sets of aliases: what a union has.
use Rattle.std.proofs.Common.{◌≡◌, Bool, true, false, ◌||◌, ◌&&◌, cond, nat_eq, [], ◌∷◌, refl, ap, ◌∙◌}
use Rattle.std.proofs.lemmas.Bool.{eqb-true}
use Rattle.fut_aliases.specs.Aliases.{is_before, is_alias, Set, is_in, with_alias, union}
use Rattle.fut_aliases.specs.declared.aliases.Alias.TheVariants.{Part, Own}
use Rattle.fut_aliases.specs.declared.aliases.Alias.{Alias}

and_left : (s t : Bool) → (s && t) ≡ true → s ≡ true
and_left true t h = refl
and_left false t h = cc

and_right : (s t : Bool) → (s && t) ≡ true → t ≡ true
and_right true t h = h
and_right false t h = cc

-- what is one alias with another is so with whatever the other is
same_alias : (c a b : Alias) → is_alias a b ≡ true → is_alias c a ≡ is_alias c b
same_alias (Part n i x) (Part m j y) (Part k l z) h = ap (λ w. nat_eq n w && nat_eq i j) (eqb-true m k (and_left (nat_eq m k) (nat_eq j l) h)) ∙ ap (λ w. nat_eq n k && nat_eq i w) (eqb-true j l (and_right (nat_eq m k) (nat_eq j l) h))
same_alias (Part n i x) (Part m j y) (Own k) h = cc
same_alias (Part n i x) (Own m) (Part k l z) h = cc
same_alias (Part n i x) (Own m) (Own k) h = refl
same_alias (Own n) (Part m j y) (Part k l z) h = refl
same_alias (Own n) (Part m j y) (Own k) h = cc
same_alias (Own n) (Own m) (Part k l z) h = cc
same_alias (Own n) (Own m) (Own k) h = ap (λ w. nat_eq n w) (eqb-true m k h)

or_twice : (e f r : Bool) → f ≡ e → (e || r) ≡ (f || (e || r))
or_twice true true r h = refl
or_twice false false r h = refl
or_twice true false r h = cc
or_twice false true r h = cc

or_turned : (e f r : Bool) → (e || (f || r)) ≡ (f || (e || r))
or_turned true true r = refl
or_turned true false r = refl
or_turned false f r = refl

or_grouped : (e s t : Bool) → (e || (s || t)) ≡ ((e || s) || t)
or_grouped true s t = refl
or_grouped false s t = refl

has_alias : (c a : Alias) (s : Set) → is_in c (with_alias a s) ≡ (is_alias c a || is_in c s)
unfolding is_in with_alias
has_alias c a [] = refl
has_alias c a (b ∷ s) = by_order (is_before a b) (is_alias a b) refl (has_alias c a s)
  where
    by_order : (before same : Bool) → is_alias a b ≡ same → is_in c (with_alias a s) ≡ (is_alias c a || is_in c s) → is_in c (cond before (a ∷ b ∷ s) (cond same (b ∷ s) (b ∷ with_alias a s))) ≡ (is_alias c a || (is_alias c b || is_in c s))
    by_order true same e i = refl
    by_order false true e i = or_twice (is_alias c b) (is_alias c a) (is_in c s) (same_alias c a b e)
    by_order false false e i = ap (λ z. is_alias c b || z) i ∙ or_turned (is_alias c b) (is_alias c a) (is_in c s)

pub has_union : (c : Alias) (s t : Set) → is_in c (union s t) ≡ (is_in c s || is_in c t)
unfolding is_in union
has_union c [] t = refl
has_union c (a ∷ s) t = has_alias c a (union s t) ∙ ap (λ z. is_alias c a || z) (has_union c s t) ∙ or_grouped (is_alias c a) (is_in c s) (is_in c t)
