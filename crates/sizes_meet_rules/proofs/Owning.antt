-- The sized type that a type has by itself.
use Rattle.std.proofs.Common.{◌≡◌, ◌⊎◌, ℕ, suc, ◌+◌, ◌<◌, ◌≤◌, refl, ap, ◌∙◌, subst, arith, inl, inr}
use Rattle.fut_types.specs.declared.Head.TheVariants as head
use Rattle.fut_types.specs.Types.{Ty, Var, Made, Tys, none, more, fun_ty}
use Rattle.sized_types.specs.Sizes.{Free, Dim, Size, Sizes, erased, all_erased}
use Rattle.fut_sizes.specs.Agreeing.{of_type, of_types, in_frame, type_levels, all_type_levels}
use Rattle.fut_sizes.specs.Rules.{Each_hole, Each_holes}
use Rattle.fut_sizes.specs.Suiting.{Each, Each_all, Scoped, Of_positions}
use Rattle.sizes_meet_rules.specs.Known.{Formed, All_formed}
use Rattle.sizes_meet_rules.specs.Plain.{Formed_type, Formed_types}
use Rattle.sizes_meet_rules.proofs.Meeting.{order}

-- its levels are at the positions that the caller chooses
module _ (Q : ℕ → Type 0) where
  mutual
    unfolding of_type of_types Formed_type Formed_types Each Each_all type_levels all_type_levels

    of_type_low : (dims : ℕ → Dim) (t : Ty) (i j : ℕ) → 1 ≤ j → Formed_type t → ((m : ℕ) → m < i + type_levels t → Of_positions Q j (dims m)) → Each (Of_positions Q) j (of_type dims i t)
    of_type_low dims (Var v) i j l f h = absurd f
    of_type_low dims (Made (head.Rigid b k) ts) i j l f h = absurd f
    of_type_low dims (Made head.Array none) i j l f h = absurd f
    of_type_low dims (Made head.Array (more t none)) i j l f h = (h i (omega arith), of_type_low dims t (suc i) j l f (λ m x. h m (omega (arith, x))))
    of_type_low dims (Made head.Array (more t (more u us))) i j l f h = absurd f
    of_type_low dims (Made head.Fun none) i j l f h = absurd f
    of_type_low dims (Made head.Fun (more p none)) i j l f h = absurd f
    of_type_low dims (Made head.Fun (more p (more r none))) i j l f h = (
      of_type_low (in_frame 0) p 0 (suc j) (omega arith) f.0 (λ m x e. absurd (omega (arith, e, l))),
      of_type_low (in_frame (suc (type_levels p))) r 0 (suc j) (omega arith) f.1 (λ m x e. absurd (omega (arith, e, l))),
    )
    of_type_low dims (Made head.Fun (more p (more r (more t ts)))) i j l f h = absurd f
    of_type_low dims (Made (head.Scalar s) none) i j l f h = tt
    of_type_low dims (Made (head.Scalar s) (more t ts)) i j l f h = absurd f
    of_type_low dims (Made head.Tuple ts) i j l f h = of_types_low dims ts i j l f h
    of_type_low dims (Made (head.Record n) ts) i j l f h = of_types_low dims ts i j l f h
    of_type_low dims (Made (head.Abstract n d) ts) i j l f h = of_types_low dims ts i j l f h

    of_types_low : (dims : ℕ → Dim) (ts : Tys) (i j : ℕ) → 1 ≤ j → Formed_types ts → ((m : ℕ) → m < i + all_type_levels ts → Of_positions Q j (dims m)) → Each_all (Of_positions Q) j (of_types dims i ts)
    of_types_low dims none i j l f h = tt
    of_types_low dims (more t ts) i j l f h = (of_type_low dims t i j l f.0 (λ m x. h m (omega (arith, x))), of_types_low dims ts (type_levels t + i) j l f.1 (λ m x. h m (omega (arith, x))))

-- each level has its number
module _ (ok : ℕ → Dim → Type 0) where
  mutual
    unfolding of_type of_types Formed_type Formed_types Each Each_all type_levels all_type_levels

    level_there : (dims : ℕ → Dim) (t : Ty) (i j : ℕ) → Formed_type t → Each ok j (of_type dims i t) → (m : ℕ) → i ≤ m → m < i + type_levels t → ok j (dims m)
    level_there dims (Var v) i j f h m l l' = absurd f
    level_there dims (Made (head.Rigid b k) ts) i j f h m l l' = absurd f
    level_there dims (Made head.Array none) i j f h m l l' = absurd f
    level_there dims (Made head.Array (more t none)) i j f h m l l' = by_order (λ k. level_there dims t (suc i) j f h.1 m (omega (arith, k)) (omega (arith, l'))) (order i m)
      where
        by_order : (i < m → ok j (dims m)) → (i < m) ⊎ (m ≤ i) → ok j (dims m)
        by_order go (inl k) = go k
        by_order go (inr k) = subst (λ n. ok j (dims n)) (let z : i ≡ m = omega (arith, l, k) in z) h.0
    level_there dims (Made head.Array (more t (more u us))) i j f h m l l' = absurd f
    level_there dims (Made head.Fun ts) i j f h m l l' = absurd (omega (arith, l, l'))
    level_there dims (Made (head.Scalar s) none) i j f h m l l' = absurd (omega (arith, l, l'))
    level_there dims (Made (head.Scalar s) (more t ts)) i j f h m l l' = absurd f
    level_there dims (Made head.Tuple ts) i j f h m l l' = all_levels_there dims ts i j f h m l l'
    level_there dims (Made (head.Record n) ts) i j f h m l l' = all_levels_there dims ts i j f h m l l'
    level_there dims (Made (head.Abstract n d) ts) i j f h m l l' = all_levels_there dims ts i j f h m l l'

    all_levels_there : (dims : ℕ → Dim) (ts : Tys) (i j : ℕ) → Formed_types ts → Each_all ok j (of_types dims i ts) → (m : ℕ) → i ≤ m → m < i + all_type_levels ts → ok j (dims m)
    all_levels_there dims none i j f h m l l' = absurd (omega (arith, l, l'))
    all_levels_there dims (more t ts) i j f h m l l' = by_order (λ k. level_there dims t i j f.0 h.0 m l k) (λ k. all_levels_there dims ts (type_levels t + i) j f.1 h.1 m (omega (arith, k)) (omega (arith, l'))) (order m (i + type_levels t))
      where
        by_order : (m < i + type_levels t → ok j (dims m)) → (i + type_levels t ≤ m → ok j (dims m)) → (m < i + type_levels t) ⊎ (i + type_levels t ≤ m) → ok j (dims m)
        by_order go rest (inl k) = go k
        by_order go rest (inr k) = rest k

module _ (P : Free → Type 0) where
  pub record Owned (j : ℕ) (t : Size) (u : Ty) : Type 0 where
    pub sizes : Each (Scoped P) j t
    pub typed : erased t ≡ u
    pub formed : Formed t
    pub variables : Each_hole (λ v. ⊥) t

  record All_owned (j : ℕ) (ts : Sizes) (us : Tys) : Type 0 where
    sizes : Each_all (Scoped P) j ts
    typed : all_erased ts ≡ us
    formed : All_formed ts
    variables : Each_holes (λ v. ⊥) ts

  mutual
    unfolding of_type of_types Formed_type Formed_types Each Each_all Each_hole Each_holes Formed All_formed erased all_erased

    pub of_type_owned : (dims : ℕ → Dim) (t : Ty) (i j : ℕ) → Formed_type t → ((i : ℕ) → Scoped P j (dims i)) → Owned j (of_type dims i t) t
    of_type_owned dims (Var v) i j f h = absurd f
    of_type_owned dims (Made (head.Rigid b k) ts) i j f h = absurd f
    of_type_owned dims (Made head.Array none) i j f h = absurd f
    of_type_owned dims (Made head.Array (more t none)) i j f h = let o = of_type_owned dims t (suc i) j f h in record { sizes = (h i, o.sizes); typed = ap (λ x. Made head.Array (more x none)) o.typed; formed = o.formed; variables = o.variables }
    of_type_owned dims (Made head.Array (more t (more u us))) i j f h = absurd f
    of_type_owned dims (Made head.Fun none) i j f h = absurd f
    of_type_owned dims (Made head.Fun (more p none)) i j f h = absurd f
    of_type_owned dims (Made head.Fun (more p (more r none))) i j f h =
        let a = of_type_owned (in_frame 0) p 0 (suc j) f.0 (λ i. omega arith) in
        let b = of_type_owned (in_frame (suc (type_levels p))) r 0 (suc j) f.1 (λ i. omega arith) in
        record { sizes = (a.sizes, b.sizes); typed = ap (λ x. fun_ty x (erased (of_type (in_frame (suc (type_levels p))) 0 r))) a.typed ∙ ap (fun_ty p) b.typed; formed = (a.formed, b.formed, of_type_low (λ m. m < type_levels p) (in_frame 0) p 0 1 (omega arith) f.0 (λ m x e. omega (arith, x)), (λ n. of_type_low (λ m. m ≡ type_levels p → ⊥) (in_frame (suc (type_levels p))) r 0 1 (omega arith) f.1 (λ m x e z. omega (arith, z))), (λ m l h. level_there (Of_positions (λ k. k ≡ m → ⊥)) (in_frame 0) p 0 1 f.0 h m (omega arith) (omega (arith, l)) refl (omega arith))); variables = (a.variables, b.variables) }
    of_type_owned dims (Made head.Fun (more p (more r (more t ts)))) i j f h = absurd f
    of_type_owned dims (Made (head.Scalar s) none) i j f h = record { sizes = tt; typed = refl; formed = (tt, tt); variables = tt }
    of_type_owned dims (Made (head.Scalar s) (more t ts)) i j f h = absurd f
    of_type_owned dims (Made head.Tuple ts) i j f h = let o = of_types_owned dims ts i j f h in record { sizes = o.sizes; typed = ap (Made head.Tuple) o.typed; formed = (tt, o.formed); variables = o.variables }
    of_type_owned dims (Made (head.Record n) ts) i j f h = let o = of_types_owned dims ts i j f h in record { sizes = o.sizes; typed = ap (Made (head.Record n)) o.typed; formed = (tt, o.formed); variables = o.variables }
    of_type_owned dims (Made (head.Abstract n d) ts) i j f h = let o = of_types_owned dims ts i j f h in record { sizes = o.sizes; typed = ap (Made (head.Abstract n d)) o.typed; formed = (tt, o.formed); variables = o.variables }

    of_types_owned : (dims : ℕ → Dim) (ts : Tys) (i j : ℕ) → Formed_types ts → ((i : ℕ) → Scoped P j (dims i)) → All_owned j (of_types dims i ts) ts
    of_types_owned dims none i j f h = record { sizes = tt; typed = refl; formed = tt; variables = tt }
    of_types_owned dims (more t ts) i j f h =
        let a = of_type_owned dims t i j f.0 h in
        let b = of_types_owned dims ts (type_levels t + i) j f.1 h in
        record { sizes = (a.sizes, b.sizes); typed = ap (λ x. more x (all_erased (of_types dims (type_levels t + i) ts))) a.typed ∙ ap (more t) b.typed; formed = (a.formed, b.formed); variables = (a.variables, b.variables) }
