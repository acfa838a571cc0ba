-- Type parameters: where they were met, and the types that they stand for.
use Rattle.std.proofs.Common.{◌≡◌, ◌≢◌, ℕ, ◌<◌, List, length, refl, sym, ◌∙◌, subst, arith}
use Rattle.std.proofs.lemmas.List.{get_or-set_same, get_or-set_other}
use native.Mathlib.Decide.{ℕ_discrete}
use Rattle.fut_types.specs.Types.{Ty, Sub, Kinds}
use Rattle.fut_types.specs.Shapes.{Shapes}
use Rattle.fut_typing.specs.Scopes.{Scope, with_type}
use Rattle.type_graph.specs.Graph.{far}
use Rattle.type_scopes.specs.declared.names.Known.{Known}
use Rattle.type_scopes.specs.declared.names.Known.TheVariants as known
use Rattle.type_scopes.specs.declared.names.Past.{Past}
use Rattle.type_scopes.specs.declared.names.Seat.{Seat}
use Rattle.type_scopes.specs.declared.Inference.{Inference}
use Rattle.type_scopes.specs.Table.{IsSeated, known_at, no_seat, seat_at, with_known, with_seat, seated}
use Rattle.type_scopes.specs.Scopes.{Safe, Means, Knows, Later}
use Rattle.type_scopes.proofs.Table.{known_same, known_other, long_with}
use Rattle.type_scopes.proofs.Going.{extends_none, wider_none}

pub seat_same : (seats : List Seat) (n : ℕ) (s : Seat) → n < length seats → seat_at (with_seat seats n s) n ≡ s
unfolding seat_at with_seat
seat_same seats n s h = get_or-set_same seats n s no_seat h

pub seat_other : (seats : List Seat) (n m : ℕ) (s : Seat) → m ≢ n → seat_at (with_seat seats n s) m ≡ seat_at seats m
unfolding seat_at with_seat
seat_other seats n m s h = get_or-set_other seats n m s no_seat h

-- a type parameter is met
pub later_seated : (base : ℕ) (i : Inference) (n : ℕ) (s : Seat) → Safe base i → (IsSeated i.seats n → ⊥) → Later base i (seated i n s)
later_seated base i n s safe unmet = record {
  safe = record { table = safe.table; labels = safe.labels; sound = safe.sound; inside = safe.inside; short = safe.short; stored = safe.stored };
  reads = λ N T born r. record {
    names = r.names;
    labelled = r.labelled;
    shapes = r.shapes;
    told = r.told;
    seats = λ m h. subst (λ (x : Seat). (T.seat m ≡ x.node) × (born m ≡ x.depth)) (keeps m h) (r.seats m (subst (λ (x : Seat). x.node < far) (sym (keeps m h)) h));
  };
  seats = keeps;
  keeps = λ N T born r K a so. so;
  longer = omega arith;
  store = extends_none i.store;
  names = refl;
  wider = wider_none i.table;
}
  where
    keeps : (m : ℕ) → IsSeated i.seats m → seat_at (with_seat i.seats n s) m ≡ seat_at i.seats m
    keeps m h = seat_other i.seats n m s (λ e. unmet (subst (IsSeated i.seats) e h))

types_here : (b : ℕ) (t : Ty) (scope : Scope) → (with_type b t scope).types b ≡ (λ u. u ≡ t)
types_here b t scope = elim (ℕ_discrete b b) as (λ d. (elim d as (λ d. Ty → Type 0) [ yes e ↦ λ u. u ≡ t | no ne ↦ scope.types b ]) ≡ (λ u. u ≡ t)) [ yes e ↦ refl | no ne ↦ absurd (ne refl) ]

types_other : (b : ℕ) (t : Ty) (scope : Scope) (n : ℕ) → n ≢ b → (with_type b t scope).types n ≡ scope.types n
types_other b t scope n ne = elim (ℕ_discrete n b) as (λ d. (elim d as (λ d. Ty → Type 0) [ yes e ↦ λ u. u ≡ t | no ne' ↦ scope.types n ]) ≡ scope.types n) [ yes e ↦ absurd (ne e) | no ne' ↦ refl ]

-- its name stands for the type of its node
pub knows_type : (S : Shapes) (i : Inference) (b p : ℕ) (past : List Past) (t : Ty) (scope : Scope) (K : Kinds) (full : Sub) → b < length i.names → known_at i.names b ≡ known.Nothing → full p ≡ t → Knows S i scope K full
    → Knows S (record i { names = with_known i.names b (known.Type p); past = past }) (with_type b t scope) K full
knows_type S i b p past t scope K full inn fresh is kn j lt = elim (ℕ_discrete j b) as (λ d. Means S i.store (known_at (with_known i.names b (known.Type p)) j) (scope.uses j) ((with_type b t scope).types j) K full) [
  | yes z ↦ subst (λ n. Means S i.store (known_at (with_known i.names b (known.Type p)) n) (scope.uses n) ((with_type b t scope).types n) K full) (sym z)
      (subst (λ (x : Known). Means S i.store x (scope.uses b) ((with_type b t scope).types b) K full) (sym (known_same i.names b (known.Type p) inn))
      (subst (λ (X : Ty → Type 0). Means S i.store (known.Type p) (scope.uses b) X K full) (sym (types_here b t scope)) (record {
        usable = λ u h. none u h;
        used = λ u h. absurd h;
        denoted = λ u h. h ∙ sym is;
        denotes = λ u h. h ∙ is;
      })))
  | no ne ↦ subst (λ (x : Known). Means S i.store x (scope.uses j) ((with_type b t scope).types j) K full) (sym (known_other i.names b j (known.Type p) ne))
      (subst (λ (X : Ty → Type 0). Means S i.store (known_at i.names j) (scope.uses j) X K full) (sym (types_other b t scope j ne)) (kn j (subst (λ n. j < n) (long_with i.names b (known.Type p)) lt)))
]
  where
    none : (u : Ty) → scope.uses b K full u → ⊥
    none u h = (subst (λ (x : Known). Means S i.store x (scope.uses b) (scope.types b) K full) fresh (kn b inn)).usable u h
