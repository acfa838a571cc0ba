-- An application without arguments: nothing is opened and nothing is found.
use Rattle.std.proofs.Common.{◌≡◌, ℕ, suc, ◌-◌, ◌+◌, ◌≤◌, Bool, true, false, cond, nat_lt, refl, ap, ◌∙◌, arith}
use Rattle.fut_types.specs.Types.{Sub}
use Rattle.fut_typing.specs.Names.{Names}
use Rattle.sized_types.specs.Sizes.{Free, Const, Name, Own, Unknown, Slot, Dim, At, Bound, Size, Hole, Open, Level, Built, Fun, Sizes, no_size, size_and, replaced, all_replaced}
use Rattle.fut_sizes.specs.Matching.{nothing_found, found_size, found_dim, read, all_read, none_opened, dim_in, in_opened}
use Rattle.fut_sizes.specs.Applications.{whole, all_settled, applied, all_matched, data_met, functions_met}
use Rattle.fut_sizes.specs.Functions.{closed}
use Rattle.fut_sizes.specs.Sizing.{finished}
use Rattle.fut_sizes.specs.Steps.{State, note}

unopened_dim : (j : ℕ) (d : Dim) → dim_in none_opened j d ≡ d
unopened_dim j (At e) = refl
unopened_dim j (Bound k i) = by_depth (nat_lt k j) refl
  where
    by_depth : (b : Bool) → nat_lt k j ≡ b → dim_in none_opened j (Bound k i) ≡ Bound k i
    by_depth true e = ap (λ z. cond z (Bound k i) (Bound (j + (k - j)) i)) e
    by_depth false e = let l : j ≤ k = grind (arith, e) in ap (λ z. cond z (Bound k i) (Bound (j + (k - j)) i)) e ∙ ap (λ z. Bound z i) (omega (arith, l))

mutual
  unfolding replaced all_replaced

  unopened : (j : ℕ) (t : Size) → replaced (dim_in none_opened) j t ≡ t
  unopened j (Hole v) = refl
  unopened j (Open n v u) = refl
  unopened j (Level d t) = rw (unopened_dim j d, unopened j t) refl
  unopened j (Built h ts) = ap (Built h) (all_unopened j ts)
  unopened j (Fun k p r) = rw (unopened (suc j) p, unopened (suc j) r) refl

  all_unopened : (j : ℕ) (ts : Sizes) → all_replaced (dim_in none_opened) j ts ≡ ts
  all_unopened j no_size = refl
  all_unopened j (size_and t ts) = rw (unopened j t, all_unopened j ts) refl

nothing_size : (d : Free) → found_size nothing_found d ≡ d
nothing_size (Const c) = refl
nothing_size (Name b) = refl
nothing_size (Own n i) = refl
nothing_size (Unknown n i) = refl
nothing_size (Slot i) = refl

nothing_dim : (d : Dim) → found_dim nothing_found 0 d ≡ d
nothing_dim (At d) = ap At (nothing_size d)
nothing_dim (Bound k i) = refl

mutual
  unfolding read all_read

  unread : (t : Size) → read nothing_found t ≡ t
  unread (Hole v) = refl
  unread (Open n v u) = refl
  unread (Level d t) = rw (nothing_dim d, unread t) refl
  unread (Built h ts) = ap (Built h) (all_unread ts)
  unread (Fun k p r) = rw (unread p, unread r) refl

  all_unread : (ts : Sizes) → all_read nothing_found ts ≡ ts
  all_unread no_size = refl
  all_unread (size_and t ts) = rw (unread t, all_unread ts) refl

pub read_nothing : (t : Size) → read nothing_found (in_opened none_opened t) ≡ t
read_nothing t = ap (read nothing_found) (unopened 0 t) ∙ unread t

-- what is applied to nothing, by itself: what is still open is settled
pub whole_finished : (N : Names) (types : Sub) (n : ℕ) (t : Size) (s : State) → finished N types n (whole t) s ≡ note n (closed true (all_settled t nothing_found).maker (read (all_settled t nothing_found) t)) s
unfolding applied all_matched data_met functions_met
whole_finished N types n t s = ap (λ z. note n (closed true (all_settled z nothing_found).maker (read (all_settled z nothing_found) z)) s) (read_nothing t)
