-- A sized type that is wanted and one that is found, form by form.
use Rattle.std.proofs.Common.{◌≡◌, ℕ, ◌+◌, ◌<◌, ◌≤◌, List, length, get_or, drop, Bool, true, false, cond, Result, Ok, Err, refl, sym, ap, ◌∙◌, subst, arith}
use Rattle.std.specs.Prelude.{not, ◌&&◌, IfOk}
use Rattle.fut_types.specs.declared.Head.{Head}
use Rattle.fut_types.specs.Types.{Ty}
use Rattle.sized_types.specs.Sizes.{Dim, Variable, Size, Hole, Open, Level, Built, Fun, Sizes, size_and, has}
use Rattle.fut_sizes.specs.Agreeing.{Answer, Irregular, then_do}
use Rattle.fut_sizes.specs.Matching as matching
use Rattle.fut_sizes.specs.Matching.{Opened, is_unknown, inside, dim_in, in_opened, counted, meet_dims, read, meet_variable, turned, to_result, wanted_frame, found_frame, past_frame, left_frame, right_frame, frame_numbers, is_irregular, meet, all_meet}
use Rattle.size_arena.specs.declared.agreeing.SizeErr.{SizeErr}
use Rattle.size_arena.specs.declared.agreeing.SizeErr.TheVariants as size_err
use Rattle.size_arena.specs.declared.dims.Variable.TheVariants as variable
use Rattle.size_arena.specs.declared.trees.SizeTree.{SizeTree}
use Rattle.size_arena.specs.declared.trees.SizeTree.TheVariants as form
use Rattle.size_arena.specs.Trees.{size_of, sizes_of}
use Rattle.size_arena.proofs.Parts.{parts_at, parts_end}
use Rattle.size_slots.specs.declared.slots.Found.{Found}
use Rattle.size_slots.specs.Held.{Holds, Held, Met, unmet, no_memory_met}
use Rattle.size_arena.specs.Frames.{frame_of}
use Rattle.size_matching.specs.declared.opening.Sides.{Sides}
use Rattle.size_matching.specs.Arrows.{Opens, opens, no_memory_opens, Checks, regular, refused, no_memory_checks}
use Rattle.size_matching.proofs.CompareForms.{apart}
use Rattle.size_slots.proofs.MeetLaws.{Told}
use Rattle.size_matching.proofs.Steps.{Step, On, no_err, no_ok, then_on, stop_on}
use Rattle.size_slots.proofs.TakeLaws.{is_form, counted_held}

no_open : (x : SizeErr) (both : Sides) → Err x ≡ Ok both → ⊥
no_open x both e = cc

-- function types that could not be opened
pub arrows_memory : (w : matching.Way) (lo k l : ℕ) (r s : Size) (f g h : Found) (c : Step) (o : Result Sides SizeErr) (e : SizeErr) → o ≡ Err e → Opens w lo k l r s f g o → On f c h (Err e)
arrows_memory w lo k l r s f g h c o e is opened σ held = go opened is
  where
    go : {o : Result Sides SizeErr} → Opens w lo k l r s f g o → o ≡ Err e → Met (c σ) h (Err e)
    go (opens {both = b} x y z u n v) is = elim (no_open e b (sym is)) [ ]
    go no_memory_opens is = let q : size_err.Memory ≡ e = cc in subst (λ z. Met (c σ) h (Err z)) q no_memory_met

-- the table of function types that are opened holds a substitution as before
pub opened_held : (w : matching.Way) (lo k l : ℕ) (r s : Size) (f g : Found) (o : Result Sides SizeErr) → Held f → Opens w lo k l r s f g o → IfOk o (λ both. Held g)
opened_held w lo k l r s f g o h (opens a c e m n v) = (counted (frame_numbers k l r s) h.0, counted_held f g h.0 (frame_numbers k l r s) e m n v h.1)
opened_held w lo k l r s f g o h no_memory_opens = tt

module _ (lo : ℕ) (w : matching.Way) (at : ℕ) (φ ψ : Opened) where
  nothing : (t u : Size) → apart t u ≡ true → (σ : matching.Found) → meet lo w at φ t ψ u σ ≡ Ok σ
  unfolding meet
  nothing (Hole v) (Hole x) so σ = refl
  nothing (Hole v) (Open n x u) so σ = cc
  nothing (Hole v) (Level e u) so σ = refl
  nothing (Hole v) (Built g us) so σ = refl
  nothing (Hole v) (Fun l q s) so σ = refl
  nothing (Open n v x) u so σ = cc
  nothing (Level d t) (Hole x) so σ = refl
  nothing (Level d t) (Open n x u) so σ = cc
  nothing (Level d t) (Level e u) so σ = cc
  nothing (Level d t) (Built g us) so σ = refl
  nothing (Level d t) (Fun l q s) so σ = refl
  nothing (Built h ts) (Hole x) so σ = refl
  nothing (Built h ts) (Open n x u) so σ = cc
  nothing (Built h ts) (Level e u) so σ = refl
  nothing (Built h ts) (Built g us) so σ = cc
  nothing (Built h ts) (Fun l q s) so σ = refl
  nothing (Fun k p r) (Hole x) so σ = refl
  nothing (Fun k p r) (Open n x u) so σ = cc
  nothing (Fun k p r) (Level e u) so σ = refl
  nothing (Fun k p r) (Built g us) so σ = refl
  nothing (Fun k p r) (Fun l q s) so σ = cc

  right : (t : Size) (n : ℕ) (v : Variable) (x : Ty) → is_form t ≡ true → (σ : matching.Found) → meet lo w at φ t ψ (Open n v x) σ ≡ meet_variable (not w.left_wanted) w at (σ.type n v x) (read σ (in_opened φ t)) σ
  unfolding meet
  right (Hole y) n v x so σ = refl
  right (Open m y z) n v x so σ = cc
  right (Level d t) n v x so σ = refl
  right (Built h ts) n v x so σ = refl
  right (Fun k p r) n v x so σ = refl

  pub nothing_meets : (t u a b : Size) → t ≡ a → u ≡ b → apart a b ≡ true → (σ : matching.Found) → meet lo w at φ t ψ u σ ≡ Ok σ
  nothing_meets t u a b p q so σ = ap (λ z. meet lo w at φ z ψ u σ) p ∙ ap (λ z. meet lo w at φ a ψ z σ) q ∙ nothing a b so σ

  pub left_meets : (t u : Size) (n : ℕ) (v : Variable) (x : Ty) → t ≡ Open n v x → (σ : matching.Found) → meet lo w at φ t ψ u σ ≡ meet_variable w.left_wanted w at (read σ t) (read σ (in_opened ψ u)) σ
  unfolding meet read
  left_meets t u n v x is σ = ap (λ z. meet lo w at φ z ψ u σ) is ∙ ap (λ z. meet_variable w.left_wanted w at (read σ z) (read σ (in_opened ψ u)) σ) (sym is)

  pub right_meets : (t u a : Size) (n : ℕ) (v : Variable) (x : Ty) → t ≡ a → is_form a ≡ true → u ≡ Open n v x → (σ : matching.Found) → meet lo w at φ t ψ u σ ≡ meet_variable (not w.left_wanted) w at (read σ u) (read σ (in_opened φ t)) σ
  unfolding read
  right_meets t u a n v x p so is σ = ap (λ z. meet lo w at φ t ψ z σ) is ∙ right t n v x (ap is_form p ∙ so) σ ∙ ap (λ z. meet_variable (not w.left_wanted) w at (read σ z) (read σ (in_opened φ t)) σ) (sym is)

  pub levels_meet : (t u : Size) (d e : Dim) (r s : Size) → t ≡ Level d r → u ≡ Level e s → (σ : matching.Found) → meet lo w at φ t ψ u σ ≡ then_do (meet_dims w at (dim_in φ 0 d) (dim_in ψ 0 e) σ) (λ found. meet lo w at φ r ψ s found)
  unfolding meet
  levels_meet t u d e r s p q σ = ap (λ z. meet lo w at φ z ψ u σ) p ∙ ap (λ z. meet lo w at φ (Level d r) ψ z σ) q

  pub parts_meet : (t u : Size) (h g : Head) (ts us : Sizes) → t ≡ Built h ts → u ≡ Built g us → (σ : matching.Found) → meet lo w at φ t ψ u σ ≡ all_meet lo w at φ ts ψ us σ
  unfolding meet all_meet
  parts_meet t u h g ts us p q σ = ap (λ z. meet lo w at φ z ψ u σ) p ∙ ap (λ z. meet lo w at φ (Built h ts) ψ z σ) q

  arrows_same : (t u a b : Size) → t ≡ a → u ≡ b → (σ : matching.Found) → meet lo w at φ t ψ u σ ≡ meet lo w at φ a ψ b σ
  arrows_same t u a b p q σ = ap (λ z. meet lo w at φ z ψ u σ) p ∙ ap (λ z. meet lo w at φ a ψ z σ) q

  -- ---- functions

  -- what is left once what the functions take is matched, in the frames inside
  abbrev results_meet : Opened → Opened → Size → Size → Step
  results_meet χ ω r s σ = cond (is_irregular w (read σ (in_opened χ r)) (read σ (in_opened ω s))) (Err (Irregular at)) (meet lo (to_result w) at χ r ω s σ)

  functions : (k l : ℕ) (p r q s : Size) (σ : matching.Found) → meet lo w at φ (Fun k p r) ψ (Fun l q s) σ
      ≡ then_do (meet lo (turned w) at (inside (left_frame w lo σ.next k l s) φ) p (inside (right_frame w lo σ.next k l r) ψ) q (counted (frame_numbers k l r s) σ))
      (λ found. results_meet (inside (left_frame w lo σ.next k l s) φ) (inside (right_frame w lo σ.next k l r) ψ) r s found)
  unfolding meet
  functions k l p r q s σ = refl

  module _ (f g : Found) (k l : ℕ) (p r q s : Size) (t u : Size) (x : t ≡ Fun k p r) (y : u ≡ Fun l q s) (both : Sides) (o : Result Sides SizeErr) (ok : o ≡ Ok both) (opened : Opens w lo k l r s f g o) (χ ω : Opened) (lefts : χ ≡ inside (frame_of both.left) φ) (rights : ω ≡ inside (frame_of both.right) ψ) where
    -- what two openings say of one another
    abbrev Is_open : Type 0
    Is_open = record { left : χ ≡ inside (left_frame w lo f.next k l s) φ; right : ω ≡ inside (right_frame w lo f.next k l r) ψ; slots : g.slots ≡ f.slots; chosen : g.chosen ≡ f.chosen; next : g.next ≡ frame_numbers k l r s + f.next; makers : g.makers ≡ f.makers }

    is_open : Is_open
    is_open = go opened ok
      where
        go : {o : Result Sides SizeErr} → Opens w lo k l r s f g o → o ≡ Ok both → Is_open
        go (opens {both = b} a c e h n v) ok = let is : b ≡ both = cc in record {
          left = lefts ∙ ap (λ (z : Sides). inside (frame_of z.left) φ) (sym is) ∙ ap (λ (z : ℕ → Dim). inside z φ) a;
          right = rights ∙ ap (λ (z : Sides). inside (frame_of z.right) ψ) (sym is) ∙ ap (λ (z : ℕ → Dim). inside z ψ) c;
          slots = e;
          chosen = h;
          next = n;
          makers = v;
        }
        go no_memory_opens ok = elim (no_open _ _ ok) [ ]

    abbrev after : ℕ → Opened → Opened → matching.Found → Answer matching.Found
    after n a b σ = then_do (meet lo (turned w) at a p b q (counted (frame_numbers k l r s) σ)) (results_meet a b r s)

    functions_meet : (σ : matching.Found) → Holds f σ → meet lo w at φ t ψ u σ ≡ then_do (meet lo (turned w) at χ p ω q (counted (frame_numbers k l r s) σ)) (results_meet χ ω r s)
    functions_meet σ held = arrows_same t u (Fun k p r) (Fun l q s) x y σ ∙ functions k l p r q s σ
        ∙ ap (λ z. after z (inside (left_frame w lo z k l s) φ) (inside (right_frame w lo z k l r) ψ) σ) held.next
        ∙ ap (λ (z : Opened). after f.next z (inside (right_frame w lo f.next k l r) ψ) σ) (sym is_open.left)
        ∙ ap (λ (z : Opened). after f.next χ z σ) (sym is_open.right)

    now_holds : (σ : matching.Found) → Holds f σ → Holds g (counted (frame_numbers k l r s) σ)
    now_holds σ held = counted_held f g σ (frame_numbers k l r s) is_open.slots is_open.chosen is_open.next is_open.makers held

    pub now_held : Held f → Held g
    now_held h = (counted (frame_numbers k l r s) h.0, now_holds h.0 h.1)

    module _ (h : Found) (a : Told) (taken : On g (meet lo (turned w) at χ p ω q) h a) where
      taken_on : On f (λ σ. meet lo (turned w) at χ p ω q (counted (frame_numbers k l r s) σ)) h a
      taken_on σ held = taken (counted (frame_numbers k l r s) σ) (now_holds σ held)

      pub arrows_stop : (e : SizeErr) → a ≡ Err e → On f (meet lo w at φ t ψ u) h (Err e)
      arrows_stop e is = stop_on f h (λ σ. meet lo (turned w) at χ p ω q (counted (frame_numbers k l r s) σ)) (results_meet χ ω r s) (meet lo w at φ t ψ u) a e is taken_on functions_meet

      module _ (z : Unit {0}) (is : a ≡ Ok z) (b : Told) (checked : (σ : matching.Found) → Holds h σ → Checks at (is_irregular w (read σ (in_opened χ r)) (read σ (in_opened ω s))) b) where
        then_results : (i : Found) (c : Told) → On h (results_meet χ ω r s) i c → On f (meet lo w at φ t ψ u) i c
        then_results i c m = then_on f h i (λ σ. meet lo (turned w) at χ p ω q (counted (frame_numbers k l r s) σ)) (results_meet χ ω r s) (meet lo w at φ t ψ u) a c z is taken_on m functions_meet

        pub arrows_refused : (e : SizeErr) → b ≡ Err e → On f (meet lo w at φ t ψ u) h (Err e)
        arrows_refused e so = then_results h (Err e) (λ σ held. go σ (checked σ held) so)
          where
            go : (σ : matching.Found) {b : Told} → Checks at (is_irregular w (read σ (in_opened χ r)) (read σ (in_opened ω s))) b → b ≡ Err e → Met (results_meet χ ω r s σ) h (Err e)
            go σ (regular i) so = elim (no_ok e tt so) [ ]
            go σ (refused i) so = subst (λ z. Met (results_meet χ ω r s σ) h z) so (unmet (ap (λ z. cond z (Err (Irregular at)) (meet lo (to_result w) at χ r ω s σ)) i))
            go σ no_memory_checks so = subst (λ z. Met (results_meet χ ω r s σ) h z) so no_memory_met

        pub arrows_done : (v : Unit {0}) → b ≡ Ok v → (i : Found) (c : Told) → On h (meet lo (to_result w) at χ r ω s) i c → On f (meet lo w at φ t ψ u) i c
        arrows_done v so i c m = then_results i c (λ σ held. go σ (checked σ held) so (m σ held))
          where
            go : (σ : matching.Found) {b : Told} → Checks at (is_irregular w (read σ (in_opened χ r)) (read σ (in_opened ω s))) b → b ≡ Ok v → Met (meet lo (to_result w) at χ r ω s σ) i c → Met (results_meet χ ω r s σ) i c
            go σ (regular not_so) so n = subst (λ z. Met z i c) (sym (ap (λ z. cond z (Err (Irregular at)) (meet lo (to_result w) at χ r ω s σ)) not_so)) n
            go σ (refused not_so) so n = elim (no_err _ v so) [ ]
            go σ no_memory_checks so n = elim (no_err _ v so) [ ]

  -- ---- parts

  module _ (ts us : List SizeTree) (i : ℕ) where
    pub part_meets : (t u : SizeTree) → i < length ts → i < length us → (σ : matching.Found) → all_meet lo w at φ (sizes_of (drop i ts)) ψ (sizes_of (drop i us)) σ
        ≡ then_do (meet lo w at φ (size_of (get_or ts i t)) ψ (size_of (get_or us i u)) σ) (λ found. all_meet lo w at φ (sizes_of (drop (i + 1) ts)) ψ (sizes_of (drop (i + 1) us)) found)
    unfolding meet all_meet
    part_meets t u l k σ = ap (λ z. all_meet lo w at φ z ψ (sizes_of (drop i us)) σ) (parts_at ts i t l) ∙ ap (λ z. all_meet lo w at φ (size_and (size_of (get_or ts i t)) (sizes_of (drop (i + 1) ts))) ψ z σ) (parts_at us i u k)

    pub parts_end_left : length ts ≤ i → (σ : matching.Found) → all_meet lo w at φ (sizes_of (drop i ts)) ψ (sizes_of (drop i us)) σ ≡ Ok σ
    unfolding all_meet
    parts_end_left l σ = ap (λ z. all_meet lo w at φ z ψ (sizes_of (drop i us)) σ) (parts_end ts i l)

    pub parts_end_right : i < length ts → length us ≤ i → (σ : matching.Found) → all_meet lo w at φ (sizes_of (drop i ts)) ψ (sizes_of (drop i us)) σ ≡ Ok σ
    unfolding all_meet
    parts_end_right l k σ = ap (λ z. all_meet lo w at φ z ψ (sizes_of (drop i us)) σ) (parts_at ts i (form.Hole (variable.Inferred 0)) l) ∙ ap (λ z. all_meet lo w at φ (size_and (size_of (get_or ts i (form.Hole (variable.Inferred 0)))) (sizes_of (drop (i + 1) ts))) ψ z σ) (parts_end us i k)

-- ---- frames

module _ (lo next k l : ℕ) (r s : Size) where
  abbrev pub Behind : ℕ
  Behind = past_frame (past_frame next k r) l s

  numbers_up : Behind ≡ frame_numbers k l r s + next
  numbers_up = omega arith

  pub numbers_left : (m : ℕ) → m ≡ past_frame (past_frame next k r) l s → m ≡ frame_numbers k l r s + next
  numbers_left m e = e ∙ numbers_up

  pub numbers_right : (m : ℕ) → m ≡ past_frame (past_frame next l s) k r → m ≡ frame_numbers k l r s + next
  numbers_right m e = omega (arith, e)

-- by the same way, in the same frames
module _ (lo at : ℕ) (t u : Size) (σ : matching.Found) where
  pub meet_same : {w v : matching.Way} {φ χ ψ ω : Opened} → v ≡ w → χ ≡ φ → ω ≡ ψ → meet lo w at φ t ψ u σ ≡ meet lo v at χ t ω u σ
  meet_same {w} {v} {φ} {χ} {ψ} {ω} p q r = sym (ap (λ z. meet lo z at χ t ω u σ) p ∙ ap (λ z. meet lo w at z t ω u σ) q ∙ ap (λ z. meet lo w at φ t z u σ) r)

  pub irregular_same : (w : matching.Way) {φ χ ψ ω : Opened} → χ ≡ φ → ω ≡ ψ → is_irregular w (read σ (in_opened χ t)) (read σ (in_opened ω u)) ≡ is_irregular w (read σ (in_opened φ t)) (read σ (in_opened ψ u))
  irregular_same w {φ} {χ} {ψ} {ω} q r = ap (λ (z : Opened). is_irregular w (read σ (in_opened z t)) (read σ (in_opened ω u))) q ∙ ap (λ (z : Opened). is_irregular w (read σ (in_opened φ t)) (read σ (in_opened z u))) r

pub found_same : (lo a b c d l : ℕ) → a ≡ b → c ≡ d → found_frame lo a c l ≡ found_frame lo b d l
found_same lo a b c d l e h = ap (λ z. found_frame lo z c l) e ∙ ap (λ z. found_frame lo b z l) h

module _ (w : matching.Way) (lo next k l : ℕ) (r s : Size) (f : ℕ → Dim) where
  pub left_is_wanted : w.left_wanted ≡ true → f ≡ wanted_frame lo next k → f ≡ left_frame w lo next k l s
  left_is_wanted is e = e ∙ sym (ap (λ z. cond z (wanted_frame lo next k) (found_frame lo (past_frame next l s) (next + l) k)) is)

  pub left_is_found : w.left_wanted ≡ false → f ≡ found_frame lo (past_frame next l s) (next + l) k → f ≡ left_frame w lo next k l s
  left_is_found is e = e ∙ sym (ap (λ z. cond z (wanted_frame lo next k) (found_frame lo (past_frame next l s) (next + l) k)) is)

  pub right_is_found : w.left_wanted ≡ true → f ≡ found_frame lo (past_frame next k r) (next + k) l → f ≡ right_frame w lo next k l r
  right_is_found is e = e ∙ sym (ap (λ z. cond z (found_frame lo (past_frame next k r) (next + k) l) (wanted_frame lo next l)) is)

  pub right_is_wanted : w.left_wanted ≡ false → f ≡ wanted_frame lo next l → f ≡ right_frame w lo next k l r
  right_is_wanted is e = e ∙ sym (ap (λ z. cond z (found_frame lo (past_frame next k r) (next + k) l) (wanted_frame lo next l)) is)

pub ruleset opened_both = (found_same)

pub ruleset both_sides = (left_is_wanted, left_is_found, right_is_found, right_is_wanted, numbers_left, numbers_right)

-- ---- whether results are irregular

module _ (w : matching.Way) (r s : Size) where
  pub regular_not : w.regular ≡ false → false ≡ is_irregular w r s
  regular_not e = sym (ap (λ z. z && has is_unknown (cond w.left_wanted s r)) e)

  pub irregular_left : (t : Size) (b : Bool) → w.regular ≡ true → w.left_wanted ≡ true → t ≡ s → b ≡ has is_unknown t → b ≡ is_irregular w r s
  irregular_left t b e h is p = p ∙ ap (has is_unknown) is ∙ sym (ap (λ z. z && has is_unknown (cond w.left_wanted s r)) e ∙ ap (λ z. has is_unknown (cond z s r)) h)

  pub irregular_right : (t : Size) (b : Bool) → w.regular ≡ true → w.left_wanted ≡ false → t ≡ r → b ≡ has is_unknown t → b ≡ is_irregular w r s
  irregular_right t b e h is p = p ∙ ap (has is_unknown) is ∙ sym (ap (λ z. z && has is_unknown (cond w.left_wanted s r)) e ∙ ap (λ z. has is_unknown (cond z s r)) h)

pub ruleset irregular = (regular_not, irregular_left, irregular_right)
