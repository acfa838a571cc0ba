-- Type parameters that are fixed, or are not, where a definition ends.
use Rattle.std.proofs.Common.{◌≡◌, ℕ, zero, suc, ◌+◌, ◌<◌, ◌≤◌, List, [], ◌∷◌, length, take, slice_index_or, refl, subst, arith}
use Rattle.std.specs.List.{Contains}
use Rattle.type_graph.specs.Graph.{Each, Tables}
use Rattle.type_graph.specs.State.{State}
use Rattle.type_graph.specs.Rereading.{Deeper}
use Rattle.type_scopes.specs.declared.Inference.{Inference}
use Rattle.type_scopes.specs.Table.{seat_at}
use Rattle.type_scopes.specs.Definitions.{Deep}
use Rattle.type_scopes.proofs.Rows.{each_both, each_one, take_more, take_all}

abbrev pub Deep_one : ℕ → Inference → ℕ → Type 0
Deep_one depth i n = (T : Tables) (home : ℕ → ℕ) (base : ℕ) → State T home base i.nodes [] → T.seat n ≡ (seat_at i.seats n).node → Deeper i.nodes n depth

pub deep_more : (depth : ℕ) (i : Inference) (own : List ℕ) (k d : ℕ) → k < length own → Each (Deep_one depth i) (take k own) → Deep_one depth i (slice_index_or own k d) → Each (Deep_one depth i) (take (k + 1) own)
deep_more depth i own k d lt h x = subst (λ ns. Each (Deep_one depth i) ns) (take_more own k d lt) (each_both (Deep_one depth i) (take k own) (slice_index_or own k d ∷ []) h (x, tt))

pub deep_all : (depth : ℕ) (i : Inference) (own : List ℕ) (k : ℕ) → length own ≤ k → Each (Deep_one depth i) (take k own) → Deep own depth i
deep_all depth i own k le h = record { deeper = λ T home base n c. each_one (Deep_one depth i) own n (subst (λ ns. Each (Deep_one depth i) ns) (take_all own k le) h) c T home base }

pub has_one : (own : List ℕ) (k d : ℕ) → k < length own → Contains own (slice_index_or own k d)
has_one own k d lt = (k, lt, other own k d (slice_index_or own k d) lt)
  where
    other : (xs : List ℕ) (k d e : ℕ) → k < length xs → slice_index_or xs k e ≡ slice_index_or xs k d
    other [] k d e lt = absurd (omega arith)
    other (x ∷ xs) zero d e lt = refl
    other (x ∷ xs) (suc k) d e lt = other xs k d e (omega arith)
