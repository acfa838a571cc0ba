-- What `:>` lets pass has the sizes of its type, where those that are written are constants or can be found.
use Rattle.std.specs.Prelude.{ℤ, pos, negsuc}
use Rattle.std.proofs.Common.{◌≡◌, ℕ, suc, ◌+◌, List, true, false, None, Some, refl, sym, ◌∙◌, subst, eqb-true}
use Rattle.fut_ast.specs.Sorts.{Text}
use Rattle.fut_flat.specs.Terms.{Size_term, Size_use, Size_const, Size_blank, Type_use, Array_type, Unique_type, Tuple_type, Type_terms, no_type, type_and}
use Rattle.fut_flat.specs.Erased.{FlatType}
use Rattle.fut_flat.specs.declared.prim.Ref.{Ref}
use Rattle.fut_scalar.specs.declared.place.BindId.{BindId}
use Rattle.fut_types.specs.declared.Head.TheVariants as head
use Rattle.fut_typing.specs.Names.{Names}
use Rattle.fut_value.specs.Data.{Shape, Tuple_shape, Array_shape, Shapes, no_shape, shape_and}
use Rattle.fut_flat.specs.declared.prim.Ref.TheVariants as ref
use Rattle.fut_meaning.specs.Accessors.{count_of}
use Rattle.fut_sizes.specs.Scoping.{Context}
use Rattle.fut_sizes.specs.Rules.{Size_found, Sizes_found, All_sizes_found}
use Rattle.fut_meaning.specs.Found.{Found, worth, is_integer, agrees, has_sizes, have_sizes}
use Rattle.sized_types.specs.Sizes.{Free, Name, Dim, At, is_dim, has, Size, Hole, Open, Level, Built, Fun, Sizes, no_size, size_and, levels}
use Rattle.fut_sizes.specs.WrittenSizes.{written_dim, dim_or, same_dim, with_sizes, all_with_sizes}
use Rattle.fut_sizes.specs.Suiting.{Each, Each_all, Data, All_data}
use Rattle.sized_meaning.specs.Worth.{Worth, no_frames, number}
use Rattle.sized_meaning.specs.Shapes.{Meant, Has_shape, Have_shapes}
use Rattle.sized_meaning.specs.Law.{Named_or_constant, Coerces, All_coerce}
use Rattle.sized_meaning.proofs.Named.{On_free}
use Rattle.sized_meaning.proofs.Entered.{both_true}
use Rattle.sized_meaning.proofs.Alike.{Alike, alike_hole, alike_level, alike_built, All_alike, alike_none, alike_more}

module _ (m : Worth) where
  mutual
    unfolding Data All_data

    alike_self : (t : Size) → Data t → Alike m m t t
    alike_self (Hole v) d = alike_hole
    alike_self (Open n v u) d = absurd d
    alike_self (Level x t) d = alike_level refl (alike_self t d)
    alike_self (Built h ts) d = alike_built (all_alike_self ts d)
    alike_self (Fun k p r) d = absurd d

    all_alike_self : (ts : Sizes) → All_data ts → All_alike m m ts ts
    all_alike_self no_size d = alike_none
    all_alike_self (size_and t ts) d = alike_more (alike_self t d.0) (all_alike_self ts d.1)

-- what can be found of names that a sized type has is what they are worth
abbrev pub Names_right : Context → Found → Worth → Size → Type 0
Names_right G V m t = (b : ℕ) → has (is_dim (At (Name b))) t ≡ true → G.finds (Name b) ≡ true → (z : ℤ) × (V.size (Name b) ≡ Some z) × (count_of z ≡ m (Name b))

module _ (N : Names) (τ : Meant) (fields : ℕ → List Text) (V : Found) (m : Worth) (G : Context) (In : Free → Type 0) (right : (b : ℕ) → In (Name b) → G.finds (Name b) ≡ true → (z : ℤ) × (V.size (Name b) ≡ Some z) × (count_of z ≡ m (Name b))) where
  agreed : (z : ℤ) (n : ℕ) → is_integer z n ≡ true → n ≡ count_of z
  agreed (pos k) n e = sym (eqb-true k n e)
  agreed (negsuc k) n e = absurd (let z : false ≡ true = e in cc)

  -- a size that agrees is what the size is worth
  level_is : (s : Size_term Ref BindId) (d : Dim) (n : ℕ) → Named_or_constant s → Size_found s G → On_free In (dim_or (written_dim s) d) → n ≡ number m no_frames d → agrees (worth V (dim_or (written_dim s) d)) n ≡ true → number m no_frames d ≡ number m no_frames (dim_or (written_dim s) d)
  level_is (Size_const c) d n w f k e q = sym e ∙ sym (eqb-true c n q)
  level_is (Size_blank b) d n w f k e q = refl
  level_is (Size_use (ref.Bound b)) d n w f k e q = let r = right b.0 k f in sym e ∙ agreed r.0 n (subst (λ o. agrees o n ≡ true) r.1 q) ∙ r.2
  level_is (Size_use r) d n w f k e q = absurd w

  mutual
    unfolding Each Each_all Data All_data with_sizes has_sizes have_sizes Has_shape Have_shapes

    pub coerced_alike : (i : ℕ) (e : FlatType) (t : Size) (h : Shape) → Coerces e t → Sizes_found e G → Each (λ j. On_free In) 0 (with_sizes N None same_dim i e t) → Data t → Has_shape N τ m no_frames t h → has_sizes fields V (with_sizes N None same_dim i e t) h ≡ true → Alike m m t (with_sizes N None same_dim i e t)
    coerced_alike i (Array_type s e) (Level d t) (Array_shape n row) w f o dt k q =
        let b = both_true (agrees (worth V (dim_or (written_dim s) d)) n) (has_sizes fields V (with_sizes N None same_dim (suc i) e t) row) q in
        alike_level (level_is s d n w.0 f.0 o.0 k.0 b.0) (coerced_alike (suc i) e t row w.1 f.1 o.1 dt k.1 b.1)
    coerced_alike i (Array_type s e) (Level d t) h w f o dt k q = absurd k
    coerced_alike i (Array_type s e) t h w f o dt k q = absurd w
    coerced_alike i (Unique_type e) t h w f o dt k q = coerced_alike i e t h w f o dt k q
    coerced_alike i (Tuple_type es) (Built head.Tuple ts) (Tuple_shape hs) w f o dt k q = alike_built (all_coerced_alike i es ts hs w f o dt k q)
    coerced_alike i (Tuple_type es) (Built head.Tuple ts) h w f o dt k q = absurd k
    coerced_alike i (Tuple_type es) t h w f o dt k q = absurd w
    coerced_alike i (Type_use p args) t h w f o dt k q = alike_self m t dt
    coerced_alike i e t h w f o dt k q = absurd w

    all_coerced_alike : (i : ℕ) (es : Type_terms Ref BindId) (ts : Sizes) (hs : Shapes) → All_coerce es ts → All_sizes_found es G → Each_all (λ j. On_free In) 0 (all_with_sizes N None same_dim i es ts) → All_data ts → Have_shapes N τ m no_frames ts hs → have_sizes fields V (all_with_sizes N None same_dim i es ts) hs ≡ true → All_alike m m ts (all_with_sizes N None same_dim i es ts)
    all_coerced_alike i (type_and e es) (size_and t ts) (shape_and h hs) w f o dt k q =
        let b = both_true (has_sizes fields V (with_sizes N None same_dim i e t) h) (have_sizes fields V (all_with_sizes N None same_dim (levels t + i) es ts) hs) q in
        alike_more (coerced_alike i e t h w.0 f.0 o.0 dt.0 k.0 b.0) (all_coerced_alike (levels t + i) es ts hs w.1 f.1 o.1 dt.1 k.1 b.1)
    all_coerced_alike i (type_and e es) (size_and t ts) no_shape w f o dt k q = absurd k
    all_coerced_alike i no_type no_size hs w f o dt k q = alike_none
    all_coerced_alike i no_type (size_and t ts) hs w f o dt k q = absurd w
    all_coerced_alike i (type_and e es) no_size hs w f o dt k q = absurd w
