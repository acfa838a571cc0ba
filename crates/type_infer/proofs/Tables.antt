-- Tables of which nothing is known.
use Rattle.std.proofs.Common.{◌≡◌, ℕ, zero, suc, List, [], ◌∷◌, ◌++◌, refl, arith}
use Rattle.type_graph.specs.Graph.{far}
use Rattle.type_scopes.specs.declared.names.Known.{Known}
use Rattle.type_scopes.specs.declared.names.Known.TheVariants as known
use Rattle.type_scopes.specs.declared.names.Seat.{Seat}
use Rattle.type_scopes.specs.Table.{known_at, seat_at, IsSeated}

pub nothing_none : (b : ℕ) → known_at [] b ≡ known.Nothing
unfolding known_at
nothing_none b = refl

pub nothing_more : (names : List Known) → ((b : ℕ) → known_at names b ≡ known.Nothing) → (b : ℕ) → known_at (names ++ known.Nothing ∷ []) b ≡ known.Nothing
unfolding known_at
nothing_more [] h zero = refl
nothing_more [] h (suc b) = refl
nothing_more (k ∷ names) h zero = h 0
nothing_more (k ∷ names) h (suc b) = nothing_more names (λ c. h (suc c)) b

pub no_seat_none : (n : ℕ) → IsSeated [] n → ⊥
unfolding seat_at
no_seat_none n h = absurd (omega arith)

pub no_seat_more : (seats : List Seat) (d : ℕ) → ((n : ℕ) → IsSeated seats n → ⊥) → (n : ℕ) → IsSeated (seats ++ record { node = far; depth = d } ∷ []) n → ⊥
unfolding seat_at
no_seat_more [] d h zero l = absurd (omega arith)
no_seat_more [] d h (suc n) l = absurd (omega arith)
no_seat_more (s ∷ seats) d h zero l = h 0 l
no_seat_more (s ∷ seats) d h (suc n) l = no_seat_more seats d (λ m. h (suc m)) n l
