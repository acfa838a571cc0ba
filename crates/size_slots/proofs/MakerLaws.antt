-- Numbers are made at a node.
use Rattle.std.proofs.Common.{◌≡◌, ℕ, ◌+◌, ◌<◌, ◌≤◌, List, [], ◌∷◌, ◌++◌, length, get_or, drop, cond, nat_lt, refl, sym, ap, ◌∙◌, subst, lt-ltb, le-ltb}
use Rattle.std.proofs.lemmas.List.{at_drop_more}
use Rattle.sized_types.specs.Sizes.{renamed}
use Rattle.fut_sizes.specs.Matching as matching
use Rattle.fut_sizes.specs.Matching.{found_size, made_at}
use Rattle.size_arena.proofs.Parts.{drop_past}
use Rattle.size_slots.specs.declared.slots.Found.{Found}
use Rattle.size_slots.specs.declared.slots.Maker.{Maker}
use Rattle.size_slots.specs.Held.{Fall, chosen_size, since, makers_since, maker_of, Holds}
use Rattle.size_slots.proofs.Renaming.{renamed_alike}
use Rattle.size_slots.proofs.TakeLaws.{same_found, follows_same}

one_maker : (maker : ℕ → ℕ) (ms : List Maker) (m : Maker) → makers_since maker (ms ++ m ∷ []) ≡ since (makers_since maker ms) m
one_maker maker [] m = refl
one_maker maker (x ∷ ms) m = one_maker (since maker x) ms m

abbrev by : (ℕ → ℕ) → ℕ → ℕ → ℕ → ℕ
by maker first n i = cond (nat_lt i first) (maker i) n

pub made_held : (f g : Found) (σ : matching.Found) (m : Maker) → g.slots ≡ f.slots → g.chosen ≡ f.chosen → g.next ≡ f.next → g.makers ≡ f.makers ++ m ∷ [] → m.first ≡ f.next → Holds f σ → Holds g (made_at m.node σ)
made_held f g σ m s c n k first held = record {
  fall = subst Fall (sym s) held.fall;
  sizes = follows_same f g σ (made_at m.node σ) s (λ j. refl) held.sizes;
  types = λ o w t. held.types o w t ∙ sym (renamed_alike (found_size (made_at m.node σ)) (found_size σ) (same_found σ (made_at m.node σ) (λ j. refl)) (chosen_size f.chosen o w t)) ∙ ap (λ z. renamed (found_size (made_at m.node σ)) (chosen_size z o w t)) (sym c);
  next = held.next ∙ sym n;
  makers = ap (λ (z : ℕ → ℕ). by z σ.next m.node) held.makers ∙ ap (λ (z : ℕ). by (maker_of f.makers) z m.node) (held.next ∙ sym first) ∙ sym (one_maker (λ i. 0) f.makers m) ∙ ap maker_of (sym k);
}

-- ---- the node that made a number, as the makers are gone through

abbrev pub maker_from : ℕ → ℕ → List Maker → ℕ
maker_from n i [] = n
maker_from n i (m ∷ ms) = maker_from (cond (nat_lt i m.first) n m.node) i ms

by_steps : (maker : ℕ → ℕ) (i : ℕ) (ms : List Maker) → makers_since maker ms i ≡ maker_from (maker i) i ms
by_steps maker i [] = refl
by_steps maker i (m ∷ ms) = by_steps (since maker m) i ms

pub maker_begins : (i : ℕ) (ms : List Maker) → maker_of ms i ≡ maker_from 0 i (drop 0 ms)
maker_begins i ms = by_steps (λ i. 0) i ms

module _ (i at : ℕ) (ms : List Maker) (m : Maker) (n : ℕ) (maker : ℕ) (far : maker ≡ maker_from n i (drop at ms)) (l : at < length ms) (is : m ≡ get_or ms at m) where
  one_step : maker ≡ maker_from (cond (nat_lt i m.first) n m.node) i (drop (at + 1) ms)
  one_step = far ∙ at_drop_more (maker_from n i) ms at m l ∙ ap (λ (x : Maker). maker_from (cond (nat_lt i x.first) n x.node) i (drop (at + 1) ms)) (sym is)

  pub made_before : i < m.first → maker ≡ maker_from n i (drop (at + 1) ms)
  made_before h = one_step ∙ ap (λ z. maker_from (cond z n m.node) i (drop (at + 1) ms)) (lt-ltb i m.first h)

  pub made_there : m.first ≤ i → maker ≡ maker_from m.node i (drop (at + 1) ms)
  made_there h = one_step ∙ ap (λ z. maker_from (cond z n m.node) i (drop (at + 1) ms)) (le-ltb i m.first h)

pub no_more_makers : (n i at : ℕ) (ms : List Maker) (maker : ℕ) → maker ≡ maker_from n i (drop at ms) → length ms ≤ at → n ≡ maker
no_more_makers n i at ms maker far l = sym (far ∙ ap (maker_from n i) (drop_past ms at l))

pub ruleset finds_maker = (maker_begins)
