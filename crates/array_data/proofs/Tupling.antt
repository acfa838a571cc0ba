-- Tuples and arrays of parts.
use Rattle.std.proofs.Common.{◌≡◌, ℕ, zero, suc, ◌+◌, ◌<◌, ◌≤◌, List, [], ◌∷◌, ◌++◌, map, length, get_or, take, Ok, Err, Result, false, refl, sym, ap, ◌∙◌, subst, arith, add-one, append_assoc}
use Rattle.std.proofs.lemmas.List.{append-nil, take_all}
use Rattle.fut_scalar.specs.declared.place.Place.{Place}
use Rattle.fut_value.specs.Data.{Shape, Datum, Tuple_datum, datums}
use Rattle.fut_meaning.specs.Arrays.{array}
use Rattle.array_data.specs.declared.data.Data.{Data}
use Rattle.array_data.specs.declared.data.Data.TheVariants as hold
use Rattle.array_data.specs.declared.stop.Stop.{Stop}
use Rattle.array_data.specs.declared.stop.Stop.TheVariants.{Memory}
use Rattle.array_data.specs.Answers.{Tells, no_memory_told, Copied, copied, not_copied, Added, added, not_added, All_added, all_added, not_all_added, Parted, parted, not_parted}
use Rattle.array_data.specs.Held.{held, held_all}
use Rattle.array_data.proofs.Forms.{map_push, held_length}
use Rattle.array_data.proofs.Holding.{held_tuple}
use Rattle.array_data.proofs.Jobbing.{all_there, added_told}

pub tuple_held : (m : ℕ) (ps qs : List Data) → qs ≡ ps → held (hold.Tuple m qs) ≡ Tuple_datum (datums (held_all ps))
tuple_held m ps qs e = held_tuple m qs ∙ ap (λ z. Tuple_datum (datums (held_all z))) e

pub ruleset tupled = (tuple_held)

pub parts_pushed : (d : Data) (m : ℕ) (ps : List Data) (s s' : List Datum) (r : Result (Unit {0}) Stop) → d ≡ hold.Tuple m ps → All_added (held_all ps) s s' r → Parted (held d) s s' r
parts_pushed d m ps s s' _ e (all_added q) = parted (held_all ps) (ap held e ∙ held_tuple m ps) q
parts_pushed d m ps s s' _ e not_all_added = not_parted

pub ruleset partings = (parts_pushed, not_parted)

-- ---- parts one after the other

unfoldable pub Pushed_to : List Data → ℕ → List Datum → List Datum → Type 0
Pushed_to ps i s0 s = s ≡ s0 ++ held_all (take i ps)

pub taken_more : (ps : List Data) (i : ℕ) (d : Data) → i < length ps → held_all (take (suc i) ps) ≡ held_all (take i ps) ++ held (get_or ps i d) ∷ []
unfolding held_all
taken_more [] i d l = absurd (omega arith)
taken_more (p ∷ ps) zero d l = refl
taken_more (p ∷ ps) (suc i) d l = ap (λ z. held p ∷ z) (taken_more ps i d (omega arith))

module _ (ps : List Data) (s0 : List Datum) where
  pub to_start : Pushed_to ps 0 s0 s0
  unfolding Pushed_to held_all
  to_start = sym (append-nil s0)

  pub to_added : (i : ℕ) (d c : Data) (s s' : List Datum) → i < length ps → Pushed_to ps i s0 s → Copied (get_or ps i d) (Ok c) → Added (held c) s s' (Ok tt) → Pushed_to ps (i + 1) s0 s'
  unfolding Pushed_to
  to_added i d c s s' l h (copied q) (added a) =
      a ∙ ap (λ z. z ++ held c ∷ []) h ∙ ap (λ z. (s0 ++ held_all (take i ps)) ++ z ∷ []) q ∙ append_assoc s0 (held_all (take i ps)) (held (get_or ps i d) ∷ [])
      ∙ ap (λ z. s0 ++ z) (sym (taken_more ps i d l)) ∙ ap (λ z. s0 ++ held_all (take z ps)) (sym (add-one i))

  pub to_end : (i : ℕ) (s : List Datum) → length ps ≤ i → Pushed_to ps i s0 s → All_added (held_all ps) s0 s (Ok tt)
  unfolding Pushed_to
  to_end i s l h = all_added (h ∙ ap (λ z. s0 ++ held_all z) (take_all i ps l))

pub to_pushed : (ps : List Data) (s0 : List Datum) (i : ℕ) (d c : Data) (s s' : List Data) → i < length ps → Pushed_to ps i s0 (held_all s) → Copied (get_or ps i d) (Ok c) → s' ≡ s ++ c ∷ [] → Pushed_to ps (i + 1) s0 (held_all s')
unfolding held_all
to_pushed ps s0 i d c s s' l h k e = to_added ps s0 i d c (map held s) (map held s') l h k (added (ap (map held) e ∙ map_push held s c))

pub ruleset pushing = (to_start, to_pushed, to_end, not_all_added)

pub ruleset building = (to_start, to_added, to_end, not_all_added)

pub literal : (at : Place) (h : Shape) (es ds ds' : List Datum) (r : Result Datum Stop) → ds ≡ [] → All_added es ds ds' (Ok tt) → Tells (array false at h ds') r → Tells (array false at h es) r
literal at h es ds ds' r e a t = subst (λ z. Tells (array false at h z) r) (all_there es ds ds' e a) t

pub ruleset literals = (literal, added_told, no_memory_told)
