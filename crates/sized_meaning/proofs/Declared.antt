-- A declared result has the sizes that are written, and those that are not written are met at its node.
use Rattle.std.proofs.Common.{◌≡◌, ℕ, suc, ◌+◌, true, Option, Some, None, Ok, sym, subst}
use Rattle.fut_flat.specs.Terms.{Type_use, Array_type, Unique_type, Tuple_type, Type_terms, no_type, type_and}
use Rattle.fut_flat.specs.Erased.{FlatType}
use Rattle.fut_flat.specs.declared.prim.Ref.{Ref}
use Rattle.fut_scalar.specs.declared.place.BindId.{BindId}
use Rattle.fut_typing.specs.Names.{Names}
use Rattle.sized_types.specs.Sizes.{Free, Unknown, Dim, At, Size, Level, Built, Sizes, no_size, size_and, levels}
use Rattle.fut_sizes.specs.WrittenSizes.{written_dim, has_written, dim_or, has_sizes, all_have_sizes, with_sizes, all_with_sizes}
use Rattle.fut_sizes.specs.Suiting.{Each, Each_all, Scoped, Data, All_data}
use Rattle.sized_meaning.specs.Worth.{Worth, no_frames, number}
use Rattle.sized_meaning.specs.Law.{Written_data, All_written_data}
use Rattle.sized_meaning.proofs.Suiting.{at_node}
use Rattle.sized_meaning.proofs.Alike.{Alike, alike_level, alike_built, All_alike, alike_none, alike_more}
use Rattle.sized_meaning.proofs.Branches.{Numbered, All_numbered, all_of, all_of_numbered, same_number, here, stays, all_stay}
use Rattle.sized_meaning.proofs.Elements.{then_ok, compared}

module _ (N : Names) (results : Option (ℕ → ℕ → Dim → Dim)) (In : Free → Type 0) (lo at : ℕ) (F : ℕ → ℕ) (m : Worth) (still : (d : Free) → In d → at_node lo F m d ≡ m d) where
  abbrev blank : ℕ → Dim → Dim
  blank i d = At (Unknown lo i)

  dim_number : (i : ℕ) (w : Option Dim) (d : Dim) (z : Unit {0}) → Scoped In 0 d → F i ≡ number m no_frames d → has_written at w d ≡ Ok z → number m no_frames d ≡ number (at_node lo F m) no_frames (dim_or w (At (Unknown lo i)))
  dim_number i (Some e) d z a n q = subst (λ x. number m no_frames d ≡ number (at_node lo F m) no_frames x) (sym (compared at e d z q)) (same_number In lo F m still d a)
  dim_number i None d z a n q = here In lo F m still i (number m no_frames d) n

  mutual
    unfolding Data All_data Each Each_all has_sizes with_sizes Numbered All_numbered

    declared_alike : (i : ℕ) (e : FlatType) (t : Size) (z : Unit {0}) → Written_data e → Data t → Each (Scoped In) 0 t → Numbered F m i t → has_sizes N true at e t ≡ Ok z → Alike m (at_node lo F m) t (with_sizes N results (λ i d. At (Unknown lo i)) i e t)
    declared_alike i (Array_type s e) (Level d t) z w dt a n q =
        let r = then_ok (has_written at (written_dim s) d) (λ z. has_sizes N true at e t) z q in
        alike_level (dim_number i (written_dim s) d r.0 a.0 n.0 r.1) (declared_alike (suc i) e t z w dt a.1 n.1 r.2)
    declared_alike i (Unique_type e) t z w dt a n q = declared_alike i e t z w dt a n q
    declared_alike i (Tuple_type es) (Built h ts) z w dt a n q = alike_built (all_declared_alike i es ts z w dt a n q)
    declared_alike i (Type_use p args) t z w dt a n q = stays In lo F m still t dt a
    declared_alike i (Array_type s e) t z w dt a n q = stays In lo F m still t dt a
    declared_alike i (Tuple_type es) t z w dt a n q = stays In lo F m still t dt a
    declared_alike i e t z w dt a n q = absurd w

    all_declared_alike : (i : ℕ) (es : Type_terms Ref BindId) (ts : Sizes) (z : Unit {0}) → All_written_data es → All_data ts → Each_all (Scoped In) 0 ts → All_numbered F m i ts → all_have_sizes N true at es ts ≡ Ok z → All_alike m (at_node lo F m) ts (all_with_sizes N results (λ i d. At (Unknown lo i)) i es ts)
    all_declared_alike i (type_and e es) (size_and t ts) z w dt a n q =
        let r = then_ok (has_sizes N true at e t) (λ z. all_have_sizes N true at es ts) z q in
        alike_more (declared_alike i e t r.0 w.0 dt.0 a.0 n.0 r.1) (all_declared_alike (levels t + i) es ts z w.1 dt.1 a.1 n.1 r.2)
    all_declared_alike i no_type ts z w dt a n q = all_stay In lo F m still ts dt a
    all_declared_alike i (type_and e es) no_size z w dt a n q = alike_none

pub declared_as : (N : Names) (results : Option (ℕ → ℕ → Dim → Dim)) (In : Free → Type 0) (lo at : ℕ) (m : Worth) (e : FlatType) (t : Size) (z : Unit {0}) → ((d : Free) → In d → at_node lo (all_of m t) m d ≡ m d) → Written_data e → Data t → Each (Scoped In) 0 t → has_sizes N true at e t ≡ Ok z
    → Alike m (at_node lo (all_of m t) m) t (with_sizes N results (λ i d. At (Unknown lo i)) 0 e t)
declared_as N results In lo at m e t z still w d a q = declared_alike N results In lo at (all_of m t) m still 0 e t z w d a (all_of_numbered m t) q
