-- Environments and values that are the same tell the same sizes as expressions.
use Rattle.std.proofs.Common.{◌≡◌, ℕ, ◌-◌, ◌∙◌, ◌||◌, List, [], ◌∷◌, Bool, true, false, cond, Option, Some, None, refl, ap, arith}
use Rattle.fut_flat.specs.Numbers.{all_pattern_numbers}
use Rattle.sized_types.specs.Sizes.{Free, Const, Name, Own, Unknown, Slot, Dim, At, Bound, Size}
use Rattle.fut_meaning.specs.Found.{Sizing, Found, count}
use Rattle.fut_meaning.specs.Telling.{nodes_from, found}
use Rattle.fut_meaning.specs.Taken.{tells_size, takes_size, told, taken, own_size, is_outer, outer_size, on_size, size_in, passed, says}
use Rattle.fut_meaning.specs.Flats.{FlatValue, FlatEnv}
use Rattle.fut_meaning.specs.Sources.{Outside, SourceValue, SourceEnv}
use Rattle.fut_meaning.specs.Resolved.{Locals}
use Rattle.fut_meaning.specs.Sames.{Same, s_scalar, s_tuple, s_record, s_array, s_closure, s_primitive, Holds, h_base, h_bind, h_size, h_entered}
use Rattle.fut_meaning.proofs.SameNumbers.{all_pattern_numbers_same}
use Rattle.fut_meaning.proofs.SameTold.{both, nodes_same, found_same}

pub size_same : (W : Found) (t t' : Free → Bool) (p p' : Free → ℕ) → ((d : Free) → t d ≡ t' d) → ((d : Free) → p d ≡ p' d) → (x : Dim) → size_in W t p x ≡ size_in W t' p' x
size_same W t t' p p' h k (At (Const c)) = refl
size_same W t t' p p' h k (At (Name b)) = both (λ z o. cond z (count (W.size (Name b))) o) (h (Name b)) (k (Name b))
size_same W t t' p p' h k (At (Own n i)) = both (λ z o. cond z (count (W.size (Own n i))) o) (h (Own n i)) (k (Own n i))
size_same W t t' p p' h k (At (Unknown n i)) = both (λ z o. cond z (count (W.size (Unknown n i))) o) (h (Unknown n i)) (k (Unknown n i))
size_same W t t' p p' h k (At (Slot i)) = both (λ z o. cond z (count (W.size (Slot i))) o) (h (Slot i)) (k (Slot i))
size_same W t t' p p' h k (Bound j i) = refl

outer_same : (t t' u u' : Free → Bool) → ((d : Free) → t d ≡ t' d) → ((d : Free) → u d ≡ u' d) → (x : Dim) → is_outer t u x ≡ is_outer t' u' x
outer_same t t' u u' h k (At (Const c)) = refl
outer_same t t' u u' h k (At (Name b)) = both (λ y z. y || z) (h (Name b)) (k (Name b))
outer_same t t' u u' h k (At (Own n i)) = both (λ y z. y || z) (h (Own n i)) (k (Own n i))
outer_same t t' u u' h k (At (Unknown n i)) = both (λ y z. y || z) (h (Unknown n i)) (k (Unknown n i))
outer_same t t' u u' h k (At (Slot i)) = both (λ y z. y || z) (h (Slot i)) (k (Slot i))
outer_same t t' u u' h k (Bound j i) = refl

-- a size that is outside is worth the same
pub said_same : {A : Type 0} (f g : Dim → Bool) (there there' : Dim → A) (a a' : A) → ((x : Dim) → f x ≡ g x) → ((x : Dim) → there x ≡ there' x) → a ≡ a' → (o : Option Dim) → on_size (outer_size f o) there a ≡ on_size (outer_size g o) there' a'
said_same f g there there' a a' h k e None = e
said_same f g there there' a a' h k e (Some x) = ap (λ z. on_size (cond z (Some x) None) there a) (h x) ∙ by (g x)
  where
    by : (b : Bool) → on_size (cond b (Some x) None) there a ≡ on_size (cond b (Some x) None) there' a'
    by true = k x
    by false = e

module _ (Z : Sizing) where
  told_same : {zs : Option Sizing} {n : ℕ} {ls : Locals} {outside : Outside} {env : SourceEnv} {env' : FlatEnv} → Holds zs n ls outside env env' → (d : Free) → told Z env d ≡ told Z env' d
  unfolding told
  told_same (h_base b) d = refl
  told_same (h_bind a b s h) d = told_same h d
  told_same (h_size a b s h) d = told_same h d
  told_same (h_entered {q = q} {q'} {env = env} {env'} e s h) d = both (λ x o. tells_size Z x d o) e (told_same h d)

  taken_same : {zs : Option Sizing} {n : ℕ} {ls : Locals} {outside : Outside} {env : SourceEnv} {env' : FlatEnv} → Holds zs n ls outside env env' → (d : Free) → taken Z env d ≡ taken Z env' d
  unfolding taken
  taken_same (h_base b) d = refl
  taken_same (h_bind a b s h) d = taken_same h d
  taken_same (h_size a b s h) d = taken_same h d
  taken_same (h_entered {q = q} {q'} {env = env} {env'} e s h) d = both (λ x o. takes_size Z x d o) e (taken_same h d)

  mutual
    unfolding passed says

    passed_same : {zs : Option Sizing} {n : ℕ} {ls : Locals} {outside : Outside} {env : SourceEnv} {env' : FlatEnv} → Holds zs n ls outside env env' → (d : Free) → passed Z env d ≡ passed Z env' d
    passed_same (h_base b) d = refl
    passed_same (h_bind a b s h) d = passed_same h d
    passed_same (h_size a b s h) d = passed_same h d
    passed_same (h_entered {q = q} {q'} {env = env} {env'} {v} {w} e s h) d =
        ap (λ x. says Z v (Z.size_at x) (At d) (passed Z env d)) e
        ∙ says_same s (Z.size_at q') (At d) (passed Z env d) (passed Z env' d) (passed_same h d)

    says_same : {zs : Option Sizing} {v : SourceValue} {w : FlatValue} → Same zs v w → (t : Size) (x : Dim) (o o' : ℕ) → o ≡ o' → says Z v t x o ≡ says Z w t x o'
    says_same s_scalar t x o o' e = e
    says_same (s_tuple s) t x o o' e = e
    says_same (s_record s) t x o o' e = e
    says_same s_array t x o o' e = e
    says_same (s_closure {lo = lo} {lo'} {ps} {qs} {env = env} {env'} a b c u h) t x o o' e =
        ap (λ z. on_size (outer_size (is_outer (told Z env) (taken Z env)) (own_size Z t z x)) (size_in (found Z env) (told Z env) (passed Z env)) o) (nodes_same _ _ (omega (arith, c, all_pattern_numbers_same a)) a)
        ∙ said_same _ _ _ _ o o' (outer_same (told Z env) (told Z env') (taken Z env) (taken Z env') (told_same h) (taken_same h))
        (λ y. ap (λ W. size_in W (told Z env) (passed Z env) y) (found_same Z h) ∙ size_same (found Z env') (told Z env) (told Z env') (passed Z env) (passed Z env') (told_same h) (passed_same h) y) e
        (own_size Z t (nodes_from qs (lo' - all_pattern_numbers qs)) x)
    says_same (s_primitive s) t x o o' e = e

  -- a size as an expression is worth the same
  pub expression_same : {zs : Option Sizing} {n : ℕ} {ls : Locals} {outside : Outside} {env : SourceEnv} {env' : FlatEnv} → Holds zs n ls outside env env' → (x : Dim) → size_in (found Z env) (told Z env) (passed Z env) x ≡ size_in (found Z env') (told Z env') (passed Z env') x
  expression_same {env = env} {env'} h x = ap (λ W. size_in W (told Z env) (passed Z env) x) (found_same Z h) ∙ size_same (found Z env') (told Z env) (told Z env') (passed Z env) (passed Z env') (told_same h) (passed_same h) x
