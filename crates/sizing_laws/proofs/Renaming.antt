-- Other names for finitely many variables, no two of which get one name, are those of a renaming of all variables.
use Rattle.std.proofs.Common.{◌≡◌, ℕ, List, [], ◌∷◌, ◌++◌, refl, sym, ◌∙◌, ap}
use mathlib.Core.Logic.{◌⊎◌, inl, inr}
use native.Mathlib.Decide.{ℕ_discrete}
use Rattle.fut_typing.proofs.Members.{In}
use Rattle.sizing_laws.specs.Renaming.{Renaming}

-- ---- two numbers exchanged

abbrev exchanged : ℕ → ℕ → ℕ → ℕ
exchanged a b x = elim (ℕ_discrete x a) as (λ d. ℕ) [ yes e ↦ b | no ne ↦ elim (ℕ_discrete x b) as (λ d. ℕ) [ yes e ↦ a | no ne ↦ x ] ]

at_first : (a b x : ℕ) → x ≡ a → exchanged a b x ≡ b
at_first a b x e = elim (ℕ_discrete x a) as (λ d. (elim d as (λ d. ℕ) [ yes e ↦ b | no ne ↦ elim (ℕ_discrete x b) as (λ d. ℕ) [ yes e ↦ a | no ne ↦ x ] ]) ≡ b) [ yes f ↦ refl | no ne ↦ absurd (ne e) ]

at_other : (a b x : ℕ) → (x ≡ a → ⊥) → exchanged a b x ≡ (elim (ℕ_discrete x b) as (λ d. ℕ) [ yes e ↦ a | no ne ↦ x ])
at_other a b x deny = elim (ℕ_discrete x a) as (λ d. (elim d as (λ d. ℕ) [ yes e ↦ b | no ne ↦ elim (ℕ_discrete x b) as (λ d. ℕ) [ yes e ↦ a | no ne ↦ x ] ]) ≡ (elim (ℕ_discrete x b) as (λ d. ℕ) [ yes e ↦ a | no ne ↦ x ])) [ yes f ↦ absurd (deny f) | no ne ↦ refl ]

at_second : (a b x : ℕ) → x ≡ b → exchanged a b x ≡ a
at_second a b x e = elim (ℕ_discrete x a) as (λ d. exchanged a b x ≡ a) [
  | yes f ↦ at_first a b x f ∙ sym e ∙ f
  | no ne ↦ at_other a b x ne ∙ (elim (ℕ_discrete x b) as (λ d. (elim d as (λ d. ℕ) [ yes e ↦ a | no ne ↦ x ]) ≡ a) [ yes f ↦ refl | no deny ↦ absurd (deny e) ])
]

pub elsewhere : (a b x : ℕ) → (x ≡ a → ⊥) → (x ≡ b → ⊥) → exchanged a b x ≡ x
elsewhere a b x n m = at_other a b x n ∙ (elim (ℕ_discrete x b) as (λ d. (elim d as (λ d. ℕ) [ yes e ↦ a | no ne ↦ x ]) ≡ x) [ yes f ↦ absurd (m f) | no deny ↦ refl ])

pub twice : (a b x : ℕ) → exchanged a b (exchanged a b x) ≡ x
twice a b x = elim (ℕ_discrete x a) as (λ d. exchanged a b (exchanged a b x) ≡ x) [
  | yes e ↦ at_second a b (exchanged a b x) (at_first a b x e) ∙ sym e
  | no n ↦ elim (ℕ_discrete x b) as (λ d. exchanged a b (exchanged a b x) ≡ x) [
    | yes e ↦ at_first a b (exchanged a b x) (at_second a b x e) ∙ sym e
    | no m ↦ ap (exchanged a b) (elsewhere a b x n m) ∙ elsewhere a b x n m
  ]
]

-- ---- one more variable named at a time

abbrev unchanged : Renaming
unchanged = record { to = λ v. v; back = λ v. v; there = λ v. refl; again = λ v. refl }

abbrev behind_exchange : ℕ → ℕ → Renaming → Renaming
behind_exchange a b r = record {
  to = λ v. exchanged a b (r.to v);
  back = λ v. r.back (exchanged a b v);
  there = λ v. ap r.back (twice a b (r.to v)) ∙ r.there v;
  again = λ v. ap (exchanged a b) (r.again (exchanged a b v)) ∙ twice a b v;
}

abbrev pub renaming_of : (ℕ → ℕ) → List ℕ → Renaming
renaming_of f [] = unchanged
renaming_of f (x ∷ xs) = behind_exchange ((renaming_of f xs).to x) (f x) (renaming_of f xs)

-- two variables of one name are one
pub names_one : (r : Renaming) (v w : ℕ) → r.to v ≡ r.to w → v ≡ w
names_one r v w e = sym (r.there v) ∙ ap r.back e ∙ r.there w

pub named_so : (f : ℕ → ℕ) (xs : List ℕ) → ((v w : ℕ) → In v xs → In w xs → f v ≡ f w → v ≡ w) → (v : ℕ) → In v xs → (renaming_of f xs).to v ≡ f v
named_so f [] apart v h = absurd h
named_so f (x ∷ xs) apart v h = elim (ℕ_discrete v x) as (λ d. exchanged ((renaming_of f xs).to x) (f x) ((renaming_of f xs).to v) ≡ f v) [
  | yes e ↦ at_first ((renaming_of f xs).to x) (f x) ((renaming_of f xs).to v) (ap (renaming_of f xs).to e) ∙ ap f (sym e)
  | no ne ↦ let before : (renaming_of f xs).to v ≡ f v = named_so f xs (λ u w i j. apart u w (inr i) (inr j)) v (behind ne h) in
      elsewhere ((renaming_of f xs).to x) (f x) ((renaming_of f xs).to v) (λ e. ne (names_one (renaming_of f xs) v x e)) (λ e. ne (apart v x h (inl refl) (sym before ∙ e))) ∙ before
]
  where
    behind : (v ≡ x → ⊥) → In v (x ∷ xs) → In v xs
    behind ne (inl e) = absurd (ne e)
    behind ne (inr i) = i

-- ---- members of lists one behind the other

pub in_first : (v : ℕ) (xs ys : List ℕ) → In v xs → In v (xs ++ ys)
in_first v [] ys h = absurd h
in_first v (x ∷ xs) ys (inl e) = inl e
in_first v (x ∷ xs) ys (inr i) = inr (in_first v xs ys i)

pub in_second : (v : ℕ) (xs ys : List ℕ) → In v ys → In v (xs ++ ys)
in_second v [] ys h = h
in_second v (x ∷ xs) ys h = inr (in_second v xs ys h)

pub in_either : (v : ℕ) (xs ys : List ℕ) → In v (xs ++ ys) → In v xs ⊎ In v ys
in_either v [] ys h = inr h
in_either v (x ∷ xs) ys (inl e) = inl (inl e)
in_either v (x ∷ xs) ys (inr i) = elim (in_either v xs ys i) as (λ d. In v (x ∷ xs) ⊎ In v ys) [ inl j ↦ inl (inr j) | inr j ↦ inr j ]
