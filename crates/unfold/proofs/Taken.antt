-- What blocks tell of a size as an expression is what the meaning tells.
use Rattle.std.proofs.Common.{◌≡◌, ℕ, ◌-◌, ◌||◌, List, [], ◌∷◌, Bool, true, false, cond, Option, Some, None, refl, sym, ap, ◌∙◌, subst}
use Rattle.std.specs.Prelude.{ℤ, pos}
use Rattle.fut_flat.specs.Numbers.{all_pattern_numbers}
use Rattle.fut_scalar.specs.declared.place.BindId.{BindId}
use Rattle.fut_flat.specs.declared.prim.Ref.{Ref}
use Rattle.fut_scalar.specs.declared.scalar.IntType.TheVariants.{I64}
use Rattle.fut_value.specs.Data.{Scalar_datum, Tuple_datum, Record_datum, Array_datum, Datum}
use Rattle.sized_types.specs.Sizes.{Free, Const, Name, Own, Unknown, Slot, Dim, At, Bound, Size}
use Rattle.fut_meaning.specs.Datums.{as_value}
use Rattle.fut_meaning.specs.Flats.{FlatValue, FlatEnv, size_or}
use Rattle.fut_meaning.specs.Found as meant
use Rattle.fut_meaning.specs.Found.{Sizing, count}
use Rattle.fut_meaning.specs.Operators.{integer}
use Rattle.fut_meaning.specs.Outcomes.{Out, Val}
use Rattle.fut_meaning.specs.Taken as meaning
use Rattle.fut_meaning.specs.Taken.{is_outer, on_size, outer_size, own_size, size_in, size_value, takes_size, tells_size}
use Rattle.fut_meaning.specs.Telling as meant_of
use Rattle.fut_meaning.specs.Telling.{nodes_from}
use Rattle.fut_meaning.specs.Values.{Scalar_value}
use Rattle.fut_blocks.specs.Names.{Component, Names}
use Rattle.fut_blocks.specs.Rows.{Extent, Nowhere}
use Rattle.fut_blocks.specs.Sizes.{extent_worth}
use Rattle.unfold.specs.Knowns.{Known, Scope, seeing, entered_in}
use Rattle.unfold.specs.Telling.{Found, expression, found, passed, says, size_extent, size_used, taken, told}
use Rattle.unfold.proofs.Locals.{entered_named}
use Rattle.unfold.proofs.Rows.{Counts, Finds}
use Rattle.unfold.proofs.Stands.{Stands, s_scalar, s_tuple, s_record, s_function, s_primitive, Holds, h_base, h_bind, h_entered, some_inj}
use Rattle.unfold.proofs.Told.{found_says}

module _ (d : Names Component) where
  none_counts : Counts d Nowhere 0
  none_counts = record { worth = None; is = refl; many = refl }

  cond_counts : (b b' : Bool) {e f : Extent} {n m : ℕ} → b ≡ b' → Counts d e n → Counts d f m → Counts d (cond b e f) (cond b' n m)
  cond_counts true true q h k = h
  cond_counts false false q h k = k
  cond_counts true false q h k = absurd (let z : true ≡ false = q in cc)
  cond_counts false true q h k = absurd (let z : false ≡ true = q in cc)

  module _ {W : Found} {F : meant.Found} (k : Finds d W F) (t t' : Free → Bool) (same : (x : Free) → t x ≡ t' x) (p : Free → Extent) (p' : Free → ℕ) (h : (x : Free) → Counts d (p x) (p' x)) where
    free_counts : (x : Free) → Counts d (cond (t x) (W.size x) (p x)) (cond (t' x) (count (F.size x)) (p' x))
    free_counts x = cond_counts (t x) (t' x) (same x) (record { worth = F.size x; is = (k.size x).is; many = refl }) (h x)

    size_counts : (x : Dim) → Counts d (size_extent W t p x) (size_in F t' p' x)
    size_counts (At (Const c)) = record { worth = Some (pos c); is = refl; many = refl }
    size_counts (At (Name b)) = free_counts (Name b)
    size_counts (At (Own n i)) = free_counts (Own n i)
    size_counts (At (Unknown n i)) = free_counts (Unknown n i)
    size_counts (At (Slot i)) = free_counts (Slot i)
    size_counts (Bound j i) = none_counts

  -- by the same size that is outside
  said_counts : (outer outer' : Dim → Bool) (f : Dim → Extent) (g : Dim → ℕ) {e : Extent} {n : ℕ} → ((x : Dim) → outer x ≡ outer' x) → ((x : Dim) → Counts d (f x) (g x)) → Counts d e n → (o : Option Dim) → Counts d (on_size (outer_size outer o) f e) (on_size (outer_size outer' o) g n)
  said_counts outer outer' f g q h k None = k
  said_counts outer outer' f g {e} {n} q h k (Some x) = by (outer x) (outer' x) (q x)
    where
      by : (b b' : Bool) → b ≡ b' → Counts d (on_size (cond b (Some x) None) f e) (on_size (cond b' (Some x) None) g n)
      by true true i = h x
      by false false i = k
      by true false i = absurd (let z : true ≡ false = i in cc)
      by false true i = absurd (let z : false ≡ true = i in cc)

outer_alike : (t t' u u' : Free → Bool) → ((x : Free) → t x ≡ t' x) → ((x : Free) → u x ≡ u' x) → (x : Dim) → is_outer t u x ≡ is_outer t' u' x
outer_alike t t' u u' h k (At (Const c)) = refl
outer_alike t t' u u' h k (At (Name b)) = ap (λ z. z || u (Name b)) (h (Name b)) ∙ ap (λ z. t' (Name b) || z) (k (Name b))
outer_alike t t' u u' h k (At (Own n i)) = ap (λ z. z || u (Own n i)) (h (Own n i)) ∙ ap (λ z. t' (Own n i) || z) (k (Own n i))
outer_alike t t' u u' h k (At (Unknown n i)) = ap (λ z. z || u (Unknown n i)) (h (Unknown n i)) ∙ ap (λ z. t' (Unknown n i) || z) (k (Unknown n i))
outer_alike t t' u u' h k (At (Slot i)) = ap (λ z. z || u (Slot i)) (h (Slot i)) ∙ ap (λ z. t' (Slot i) || z) (k (Slot i))
outer_alike t t' u u' h k (Bound j i) = refl

data_says : (Z : Sizing) (c : Datum) (t : Size) (x : Dim) (n : ℕ) → meaning.says Z {P = Ref} {B = BindId} {S = Unit {0}} (as_value c) t x n ≡ n
unfolding meaning.says
data_says Z (Scalar_datum s) t x n = refl
data_says Z (Tuple_datum ds) t x n = refl
data_says Z (Record_datum fs) t x n = refl
data_says Z (Array_datum row ds) t x n = refl

module _ {Z : Sizing} {d : Names Component} {n : ℕ} where
  told_says : {sc : Scope} {env : FlatEnv} → Holds (Some Z) d n sc env → (x : Free) → told Z (entered_in sc) x ≡ meaning.told Z env x
  unfolding told meaning.told
  told_says h_base x = refl
  told_says (h_bind {b = b} {s = s} {sc = sc} h hs) x = ap (λ z. told Z z x) (entered_named b s sc) ∙ told_says hs x
  told_says (h_entered {q = q} h hs) x = ap (tells_size Z q x) (told_says hs x)

  taken_says : {sc : Scope} {env : FlatEnv} → Holds (Some Z) d n sc env → (x : Free) → taken Z (entered_in sc) x ≡ meaning.taken Z env x
  unfolding taken meaning.taken
  taken_says h_base x = refl
  taken_says (h_bind {b = b} {s = s} {sc = sc} h hs) x = ap (λ z. taken Z z x) (entered_named b s sc) ∙ taken_says hs x
  taken_says (h_entered {q = q} h hs) x = ap (takes_size Z q x) (taken_says hs x)

  mutual
    unfolding passed says meaning.passed meaning.says

    passed_says : {sc : Scope} {env : FlatEnv} → Holds (Some Z) d n sc env → (x : Free) → Counts d (passed Z (entered_in sc) x) (meaning.passed Z env x)
    passed_says h_base x = none_counts d
    passed_says (h_bind {b = b} {s = s} {sc = sc} {env = env} h hs) x = subst (λ z. Counts d (passed Z z x) (meaning.passed Z env x)) (sym (entered_named b s sc)) (passed_says hs x)
    passed_says (h_entered {q = q} h hs) x = says_so h (Z.size_at q) (At x) (passed_says hs x)

    says_so : {s : Known} {v : FlatValue} → Stands (Some Z) d n s v → (t : Size) (x : Dim) {e : Extent} {m : ℕ} → Counts d e m → Counts d (says Z s t x e) (meaning.says Z v t x m)
    says_so (s_scalar {c = c} eq h) t x {e} {m} k = subst (Counts d e) (sym (ap (λ z. meaning.says Z z t x m) eq ∙ data_says Z c t x m)) k
    says_so (s_tuple h) t x k = k
    says_so (s_record h) t x k = k
    says_so (s_function {ps = ps} {lo = lo} {sc = seeing names es} {env = env} h) t x k =
        said_counts d (is_outer (told Z es) (taken Z es)) (is_outer (meaning.told Z env) (meaning.taken Z env)) (expression Z es) (size_in (meant_of.found Z env) (meaning.told Z env) (meaning.passed Z env))
        (outer_alike (told Z es) (meaning.told Z env) (taken Z es) (meaning.taken Z env) (told_says h) (taken_says h))
        (size_counts d (found_says h) (told Z es) (meaning.told Z env) (told_says h) (passed Z es) (meaning.passed Z env) (passed_says h)) k
        (own_size Z t (nodes_from ps (lo - all_pattern_numbers ps)) x)
    says_so (s_primitive h) t x k = k

  expression_says : {sc : Scope} {env : FlatEnv} → Holds (Some Z) d n sc env → (x : Dim) → Counts d (expression Z (entered_in sc) x) (size_in (meant_of.found Z env) (meaning.told Z env) (meaning.passed Z env) x)
  expression_says {sc} {env} h x = size_counts d (found_says h) (told Z (entered_in sc)) (meaning.told Z env) (told_says h) (passed Z (entered_in sc)) (meaning.passed Z env) (passed_says h) x

-- a size as an expression is worth this
pub record Size_is (sizes : Option Sizing) (d : Names Component) (env : FlatEnv) (k : ℕ) (e : Extent) (o : Out FlatValue) : Type 0 where
  pub worth : Option ℤ
  pub extent : extent_worth d e ≡ Val worth
  pub is : size_or sizes env k o ≡ Val (Scalar_value (integer I64 (pos (count worth))))

pub size_is : (sizes : Option Sizing) {d : Names Component} {n : ℕ} {sc : Scope} {env : FlatEnv} (k : ℕ) {e : Extent} (o : Out FlatValue) → Holds sizes d n sc env → size_used sizes sc k ≡ Some e → Size_is sizes d env k e o
unfolding size_value
size_is None k {e} o h q = absurd (let z : None ≡ Some e = q in cc)
size_is (Some Z) {d} {n} {sc} {env} k {e} o h q = by_number (Z.is_size k) refl q
  where
    by_number : (b : Bool) → Z.is_size k ≡ b → cond b (Some (expression Z (entered_in sc) (At (Name k)))) None ≡ Some e → Size_is (Some Z) d env k e o
    by_number true i q =
        let c = expression_says h (At (Name k)) in record {
          worth = c.worth;
          extent = subst (λ z. extent_worth d z ≡ Val c.worth) (some_inj q) c.is;
          is = ap (λ z. cond z (Val (size_value Z env k)) o) i ∙ ap (λ z. Val (Scalar_value (integer I64 (pos z)))) (sym c.many);
        }
    by_number false i q = absurd (let z : None ≡ Some e = q in cc)

-- and any other number is that of a name
pub no_size_is : (sizes : Option Sizing) (sc : Scope) (env : FlatEnv) (k : ℕ) (o : Out FlatValue) → size_used sizes sc k ≡ None → size_or sizes env k o ≡ o
no_size_is None sc env k o q = refl
no_size_is (Some Z) sc env k o q = by_number (Z.is_size k) refl q
  where
    by_number : (b : Bool) → Z.is_size k ≡ b → cond b (Some (expression Z (entered_in sc) (At (Name k)))) None ≡ None → cond (Z.is_size k) (Val (size_value Z env k)) o ≡ o
    by_number true i q = absurd (let z : Some (expression Z (entered_in sc) (At (Name k))) ≡ None = q in cc)
    by_number false i q = ap (λ z. cond z (Val (size_value Z env k)) o) i
