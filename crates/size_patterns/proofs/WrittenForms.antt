-- A pattern with a written type takes a value.
use Rattle.std.proofs.Common.{◌≡◌, ℕ, suc, List, [], ◌∷◌, length, refl, true, Result, Ok, Err, sym, ap, ◌∙◌, subst}
use Rattle.std.specs.Borrow.{Bor}
use Rattle.fut_scalar.specs.declared.place.BindId.{BindId}
use Rattle.fut_flat.specs.Erased.{FlatType}
use Rattle.fut_typing.specs.Names.{Names}
use Rattle.sized_types.specs.Sizes.{Const, Name, Own, Unknown, Slot, Dim, At, Bound, Size, Hole, Open, Level, Built, Fun, Sizes, no_size, size_and, replaced, all_replaced, renaming, renamed}
use Rattle.fut_sizes.specs.Agreeing.{Answer, then_do}
use Rattle.fut_sizes.specs.Matching as matching
use Rattle.fut_sizes.specs.Matching.{data_way, meet, none_opened, Opened}
use Rattle.fut_sizes.specs.Scopes.{as_slot}
use Rattle.fut_sizes.specs.WrittenSizes.{coerced, has_sizes}
use Rattle.size_arena.specs.declared.agreeing.SizeErr.{SizeErr}
use Rattle.size_arena.specs.declared.agreeing.SizeErr.TheVariants as size_err
use Rattle.size_arena.specs.declared.opened.Frames.TheVariants as frames
use Rattle.size_arena.specs.declared.trees.SizeTree.{SizeTree}
use Rattle.size_arena.specs.Frames.{opened_of}
use Rattle.size_arena.specs.Trees.{size_of}
use Rattle.size_arena.proofs.FrameLaws.{opened_closed}
use Rattle.size_program.specs.Answers.{Answers, answers, refuses, no_memory}
use Rattle.size_slots.specs.declared.meeting.Way as ways
use Rattle.size_slots.specs.declared.slots.Found.{Found}
use Rattle.size_slots.specs.Held.{Holds, Met, met, unmet, no_memory_met, way_of}
use Rattle.size_written.specs.Answers.{Tested}
use Rattle.size_patterns.proofs.Results.{no_err, no_ok, same_err}
use Rattle.size_patterns.specs.declared.taking.Written.{Written}
use Rattle.size_patterns.specs.Written.{Written_in, Written_so, written_taken}

abbrev pub Told : Type 0
Told = Result (Unit {0}) SizeErr

-- ---- where there is no size name, nothing becomes a slot

none_dim : (j : ℕ) (d : Dim) → renaming (as_slot []) j d ≡ d
none_dim j (At (Const c)) = refl
none_dim j (At (Name b)) = refl
none_dim j (At (Own n i)) = refl
none_dim j (At (Unknown n i)) = refl
none_dim j (At (Slot i)) = refl
none_dim j (Bound k i) = refl

mutual
  unfolding replaced all_replaced

  none_slotted : (j : ℕ) (t : Size) → replaced (renaming (as_slot [])) j t ≡ t
  none_slotted j (Hole v) = refl
  none_slotted j (Open n v u) = refl
  none_slotted j (Level d t) = rw (none_dim j d, none_slotted j t) refl
  none_slotted j (Built h ts) = ap (Built h) (all_none_slotted j ts)
  none_slotted j (Fun k p r) = rw (none_slotted (suc j) p, none_slotted (suc j) r) refl

  all_none_slotted : (j : ℕ) (ts : Sizes) → all_replaced (renaming (as_slot [])) j ts ≡ ts
  all_none_slotted j no_size = refl
  all_none_slotted j (size_and t ts) = rw (none_slotted j t, all_none_slotted j ts) refl

pub no_slots : (bs : List BindId) (t : Size) → length bs ≡ 0 → t ≡ renamed (as_slot bs) t
no_slots [] t e = sym (none_slotted 0 t)
no_slots (b ∷ bs) t e = cc

-- what is met outside of all function types
pub met_closed : (n at : ℕ) (w : ways.Way) (t u : Size) (σ : matching.Found) (f : Found) (r : Told) → way_of w ≡ data_way → Met (meet n (way_of w) at (opened_of frames.Closed) t (opened_of frames.Closed) u σ) f r → Met (meet n data_way at none_opened t none_opened u σ) f r
met_closed n at w t u σ f r is h = subst (λ z. Met z f r) (ap (λ z. meet n z at (opened_of frames.Closed) t (opened_of frames.Closed) u σ) is ∙ ap (λ (z : Opened). meet n data_way at z t z u σ) opened_closed) h

-- ---- the sizes that are written agree

module _ (N : Names) (bs : List BindId) (at : ℕ) (e : FlatType) (t : Size) (σ : matching.Found) (w : Written) (so : Written_so N bs e t w) where
  abbrev meeting : Answer matching.Found
  meeting = meet at data_way at none_opened (size_of w.slotted.now) none_opened t σ

  abbrev testing : matching.Found → Answer matching.Found
  testing found = then_do (has_sizes N true at e (size_of w.coerced.now)) (λ z. Ok found)

  written_is : written_taken N bs at e t σ ≡ then_do meeting testing
  written_is = sym (ap (λ z. then_do (meet at data_way at none_opened z none_opened t σ) testing) so.is_slotted ∙ ap (λ z. then_do (meet at data_way at none_opened (renamed (as_slot bs) (coerced N e t)) none_opened t σ) (λ found. then_do (has_sizes N true at e z) (λ u. Ok found))) so.is_coerced)

  module _ (f : Found) (k : Told) (first : Met meeting f k) where
    pub sizes_agree : (u : Unit {0}) (r : Told) → k ≡ Ok u → Tested (has_sizes N true at e (size_of w.coerced.now)) r → Met (written_taken N bs at e t σ) f r
    sizes_agree u r ok test = by_met first ok
      where
        by_test : (τ : matching.Found) → meeting ≡ Ok τ → Holds f τ → {r : Told} → Tested (has_sizes N true at e (size_of w.coerced.now)) r → Met (written_taken N bs at e t σ) f r
        by_test τ p there (answers {x = tt} q h) = met τ (written_is ∙ ap (λ z. then_do z testing) p ∙ ap (λ z. then_do z (λ u. Ok τ)) q) there
        by_test τ p there (refuses {e = y} q) = unmet (written_is ∙ ap (λ z. then_do z testing) p ∙ ap (λ z. then_do z (λ u. Ok τ)) q)
        by_test τ p there no_memory = no_memory_met

        by_met : {k : Told} → Met meeting f k → k ≡ Ok u → Met (written_taken N bs at e t σ) f r
        by_met (met τ p there) ok = by_test τ p there test
        by_met (unmet {e = y} p) ok = elim (no_err _ u ok) [ ]
        by_met no_memory_met ok = elim (no_err _ u ok) [ ]

    pub sizes_differ : (x : SizeErr) → k ≡ Err x → Met (written_taken N bs at e t σ) f (Err x)
    sizes_differ x err = by_met first err
      where
        by_met : {k : Told} → Met meeting f k → k ≡ Err x → Met (written_taken N bs at e t σ) f (Err x)
        by_met (met τ p there) err = elim (no_ok x tt err) [ ]
        by_met (unmet {e = y} p) err = subst (λ z. Met (written_taken N bs at e t σ) f z) err (unmet (written_is ∙ ap (λ z. then_do z testing) p))
        by_met no_memory_met err = subst (λ z. Met (written_taken N bs at e t σ) f z) err no_memory_met

-- ---- and the value has them

module _ (N : Names) (bs : List BindId) (at : ℕ) (e : FlatType) (t : Size) (σ : matching.Found) (f : Found) (k : Told) (first : Met (written_taken N bs at e t σ) f k) where
  pub written_gives : (made : Bor SizeTree) (u : Unit {0}) → k ≡ Ok u → size_of made.now ≡ coerced N e t → Answers (Written_in f N e t) (written_taken N bs at e t σ) (Ok made)
  written_gives made u ok is = by_met first ok
    where
      by_met : {k : Told} → Met (written_taken N bs at e t σ) f k → k ≡ Ok u → Answers (Written_in f N e t) (written_taken N bs at e t σ) (Ok made)
      by_met (met τ p there) ok = answers p (record { found = there; size = is })
      by_met (unmet {e = y} p) ok = cc
      by_met no_memory_met ok = cc

  pub written_refuses : (x : SizeErr) → k ≡ Err x → Answers (Written_in f N e t) (written_taken N bs at e t σ) (Err x)
  written_refuses x err = by_met first err
    where
      by_met : {k : Told} → Met (written_taken N bs at e t σ) f k → k ≡ Err x → Answers (Written_in f N e t) (written_taken N bs at e t σ) (Err x)
      by_met (met τ p there) err = cc
      by_met (unmet {e = y} p) err = subst (λ z. Answers (Written_in f N e t) (written_taken N bs at e t σ) (Err z)) (same_err (size_err.Refused y) x err) (refuses p)
      by_met no_memory_met err = subst (λ z. Answers (Written_in f N e t) (written_taken N bs at e t σ) (Err z)) (same_err size_err.Memory x err) no_memory
