-- A value of a type that suits another is of the other.
use Rattle.fut_scalar.specs.declared.place.Place.{Place}
use Rattle.sized_meaning.specs.There.{There}
use Rattle.std.proofs.Common.{◌≡◌, ◌⊎◌, ℕ, zero, suc, ◌<◌, ◌≤◌, List, [], ◌∷◌, Bool, true, false, cond, nat_eq, Ok, Err, refl, sym, ap, ◌∙◌, subst, arith, inl, inr, eqb-true, eq-eqb}
use Rattle.std.proofs.lemmas.Bool.{eqb-false, ne_eqb}
use Rattle.fut_typing.specs.Names.{Names}
use Rattle.fut_value.specs.Data.{Shape, Shapes, Named_shapes}
use Rattle.fut_meaning.specs.Flats.{FlatValue}
use Rattle.fut_meaning.specs.Found.{Sizing}
use Rattle.fut_meaning.specs.Telling.{tells}
use Rattle.fut_meaning.specs.Outcomes.{Rel}
use Rattle.sized_types.specs.Sizes.{Free, Const, Name, Own, Unknown, Slot, Dim, At, Bound, Size, Fun, Sizes, given, opened}
use Rattle.fut_sizes.specs.Agreeing.{Answer}
use Rattle.fut_sizes.specs.Suiting.{Each, Each_all, Scoped, Of_positions, Data, All_data, Free_of, Instance, Suits, suits_same, suits_parts, suits_function, All_suit, suit_none, suit_more}
use Rattle.sized_meaning.specs.Worth.{Worth, free, Frames, no_frames, push}
use Rattle.sized_meaning.specs.Shapes.{Meant, exactly, Has_shape, Have_shapes, Have_named}
use Rattle.fut_sizes.specs.Rules.{Any_free}
use Rattle.sized_meaning.specs.Fits.{FlatValues, FlatFields, Gives, word, Known_size, Known_data, Flat, All_flat, Flat_result, Known_result, Told_right, Tells_right, Fits, All_fit, Named_fit}
use Rattle.sized_meaning.specs.Claims.{calls_of, SuitingValuesFit}
use Rattle.sized_meaning.proofs.Ways.{Ways, same_ways, shape_of_head_as, first_shape_as, of_head_goes, first_value_goes, gives_as}
use Rattle.sized_meaning.proofs.Reading.{flat_result_replaced, each_as, Any_position, shape_same, shape_opened, opened_shape, told_same, told_opened, opened_told, fits_same, fits_opened, opened_fits}
use Rattle.sized_meaning.proofs.Known.{scoped_both, opened_known, opened_data, known_back, known_data_back, known_low, every_known}

the_ok : Size → Answer Size → Size
the_ok u (Ok t) = t
the_ok u (Err e) = u

pub same_ok : (t u : Size) → ◌≡◌ {A = Answer Size} (Ok t) (Ok u) → t ≡ u
unfolding the_ok
same_ok t u e = ap (the_ok t) e

-- met or chosen at a node
unfoldable pub at_node : ℕ → (ℕ → ℕ) → Worth → Worth
at_node n F m (Const c) = m (Const c)
at_node n F m (Name b) = m (Name b)
at_node n F m (Own k i) = cond (nat_eq k n) (F i) (m (Own k i))
at_node n F m (Unknown k i) = cond (nat_eq k n) (F i) (m (Unknown k i))
at_node n F m (Slot i) = m (Slot i)

pub node_else : (n : ℕ) (F : ℕ → ℕ) (m : Worth) (d : Free) → Free_of n d → at_node n F m d ≡ m d
unfolding at_node
node_else n F m (Const c) o = refl
node_else n F m (Name b) o = refl
node_else n F m (Own k i) o = ap (λ b. cond b (F i) (m (Own k i))) (ne_eqb k n o)
node_else n F m (Unknown k i) o = ap (λ b. cond b (F i) (m (Unknown k i))) (ne_eqb k n o)
node_else n F m (Slot i) o = refl

pub node_here : (n : ℕ) (F : ℕ → ℕ) (m : Worth) (i : ℕ) → at_node n F m (Unknown n i) ≡ F i
unfolding at_node
node_here n F m i = ap (λ b. cond b (F i) (m (Unknown n i))) (eq-eqb n n refl)

own_here : (n : ℕ) (F : ℕ → ℕ) (m : Worth) (i : ℕ) → at_node n F m (Own n i) ≡ F i
unfolding at_node
own_here n F m i = ap (λ b. cond b (F i) (m (Own n i))) (eq-eqb n n refl)

pub free_is : (m m' : Worth) (d : Free) → m d ≡ m' d → free m d ≡ free m' d
free_is m m' (Const c) e = refl
free_is m m' (Name b) e = e
free_is m m' (Own n i) e = e
free_is m m' (Unknown n i) e = e
free_is m m' (Slot i) e = e

pub in_order : (i k : ℕ) → (i ≡ k → ⊥) → (i < k) ⊎ (k < i)
in_order zero zero n = absurd (n refl)
in_order zero (suc k) n = inl (omega arith)
in_order (suc i) zero n = inr (omega arith)
in_order (suc i) (suc k) n = shifted (in_order i k (λ e. n (ap suc e)))
  where
    shifted : (i < k) ⊎ (k < i) → (suc i < suc k) ⊎ (suc k < suc i)
    shifted (inl l) = inl (omega (arith, l))
    shifted (inr l) = inr (omega (arith, l))

pub any_position : (In : Free → Type 0) (j : ℕ) (d : Dim) → Scoped In j d → Of_positions Any_position j d
any_position In j (At d) o = tt
any_position In j (Bound j' i) o = λ e. tt

-- ---- data that suits other data is the same but for parts that suit
mutual
  unfolding Data All_data

  pub suits_data : {t u : Size} → Suits t u → Ways (Data t) (Data u)
  suits_data suits_same = same_ways
  suits_data (suits_parts q) = all_suit_data q
  suits_data (suits_function n n' δ ρ I z a b) = same_ways

  all_suit_data : {ts us : Sizes} → All_suit ts us → Ways (All_data ts) (All_data us)
  all_suit_data suit_none = same_ways
  all_suit_data (suit_more q qs) = let a = suits_data q in let b = all_suit_data qs in ((λ h. (a.0 h.0, b.0 h.1)), (λ h. (a.1 h.0, b.1 h.1)))

module _ (N : Names) (τ : Meant) where
  mutual
    unfolding Has_shape Have_shapes Have_named

    pub suits_shape : {t u : Size} → Suits t u → (m : Worth) (φ : Frames) (h : Shape) → Ways (Has_shape N τ m φ t h) (Has_shape N τ m φ u h)
    suits_shape suits_same m φ h = same_ways
    suits_shape (suits_parts {h} {ts} {us} q) m φ x = shape_of_head_as h _ _ _ _ (λ hs. all_suit_shape q m φ hs) (λ n hs. named_suit_shape q m φ n 0 hs) x
    suits_shape (suits_function n n' δ ρ I z a b) m φ h = same_ways

    all_suit_shape : {ts us : Sizes} → All_suit ts us → (m : Worth) (φ : Frames) (hs : Shapes) → Ways (Have_shapes N τ m φ ts hs) (Have_shapes N τ m φ us hs)
    all_suit_shape suit_none m φ hs = same_ways
    all_suit_shape (suit_more q qs) m φ hs = first_shape_as _ _ _ _ (λ h. suits_shape q m φ h) (λ hs. all_suit_shape qs m φ hs) hs

    named_suit_shape : {ts us : Sizes} → All_suit ts us → (m : Worth) (φ : Frames) (n i : ℕ) (hs : Named_shapes) → Ways (Have_named N τ m φ n i ts hs) (Have_named N τ m φ n i us hs)
    named_suit_shape suit_none m φ n i hs = same_ways
    named_suit_shape (suit_more q qs) m φ n i hs = let b = named_suit_shape qs m φ n (suc i) hs in
        ((λ x. ((λ f p. let c = x.0 f p in (c.0, c.1, (suits_shape q m φ c.0).0 c.2)), b.0 x.1)), (λ x. ((λ f p. let c = x.0 f p in (c.0, c.1, (suits_shape q m φ c.0).1 c.2)), b.1 x.1)))

mutual
  unfolding Data All_data Each Each_all

  pub suits_each : (ok : ℕ → Dim → Type 0) (j : ℕ) {t u : Size} → Suits t u → Data u → Each ok j u → Each ok j t
  suits_each ok j suits_same h e = e
  suits_each ok j (suits_parts q) h e = all_suit_each ok j q h e
  suits_each ok j (suits_function n n' δ ρ I z a b) h e = absurd h

  all_suit_each : (ok : ℕ → Dim → Type 0) (j : ℕ) {ts us : Sizes} → All_suit ts us → All_data us → Each_all ok j us → Each_all ok j ts
  all_suit_each ok j suit_none h e = e
  all_suit_each ok j (suit_more q qs) h e = (suits_each ok j q h.0 e.0, all_suit_each ok j qs h.1 e.1)

mutual
  unfolding Data All_data Each Each_all

  suits_each_on : (ok : ℕ → Dim → Type 0) (j : ℕ) {t u : Size} → Suits t u → Data t → Each ok j t → Each ok j u
  suits_each_on ok j suits_same h e = e
  suits_each_on ok j (suits_parts q) h e = all_suit_each_on ok j q h e
  suits_each_on ok j (suits_function n n' δ ρ I z a b) h e = absurd h

  all_suit_each_on : (ok : ℕ → Dim → Type 0) (j : ℕ) {ts us : Sizes} → All_suit ts us → All_data ts → Each_all ok j ts → Each_all ok j us
  all_suit_each_on ok j suit_none h e = e
  all_suit_each_on ok j (suit_more q qs) h e = (suits_each_on ok j q h.0 e.0, all_suit_each_on ok j qs h.1 e.1)

-- neither the argument's value nor what is met
abbrev Good : ℕ → ℕ → Free → Type 0
Good n n' d = (i : ℕ) → (d ≡ Unknown n i → ⊥) × (d ≡ Unknown n' i → ⊥)

free_good : (n n' : ℕ) (d : Free) → Free_of n d → Free_of n' d → Good n n' d
free_good n n' d a b = λ i. ((λ e. let z : Free_of n (Unknown n i) = subst (λ x. Free_of n x) e a in z refl), (λ e. let z : Free_of n' (Unknown n' i) = subst (λ x. Free_of n' x) e b in z refl))

own_good : (n n' i : ℕ) (d : Free) → d ≡ Own n i → Good n n' d
own_good n n' i d e = λ l. ((λ f. let z : Own n i ≡ Unknown n l = sym e ∙ f in cc), (λ f. let z : Own n i ≡ Unknown n' l = sym e ∙ f in cc))

module _ (k : ℕ) (p r : Size) (k' : ℕ) (p' r' : Size) (n n' : ℕ) (δ ρ : ℕ → Free) (I : Instance k p r k' p' r' n n' δ ρ) where
  wanted_parts : Each (Scoped (Free_of n)) 1 p' × Each (Scoped (Free_of n)) 1 r'
  unfolding Each
  wanted_parts = I.wanted_new.0

  wanted_parts2 : Each (Scoped (Free_of n')) 1 p' × Each (Scoped (Free_of n')) 1 r'
  unfolding Each
  wanted_parts2 = I.wanted_new.1

  found_parts : Each (Scoped (Free_of n')) 1 p × Each (Scoped (Free_of n')) 1 r
  unfolding Each
  found_parts = I.new

  -- what is used at a choice names these sizes, and what was chosen
  module _ (In : Free → Type 0) where
    abbrev Seen : Free → Type 0
    Seen d = Good n n' d × (In d ⊎ ((i : ℕ) × (d ≡ Own n i)))

    wanted_sizes : (d : Free) → In d → Free_of n d × Free_of n' d → Seen d
    wanted_sizes d h f = (free_good n n' d f.0 f.1, inl h)

    wanted_places : (i : ℕ) → i < k' → Seen (ρ i)
    wanted_places i l = (own_good n n' i (ρ i) (I.chosen i l), inr (i, I.chosen i l))

    found_places : (i : ℕ) → Seen (δ i) → i < k
    found_places i g = ordered (nat_eq i k) refl g.0
      where
        before_or_after : (i < k) ⊎ (k < i) → Good n n' (δ i) → i < k
        before_or_after (inl l) w = l
        before_or_after (inr l) w = absurd ((w i).1 (I.met i l))

        ordered : (b : Bool) → nat_eq i k ≡ b → Good n n' (δ i) → i < k
        ordered true e w = absurd ((w k').0 (ap δ (eqb-true i k e) ∙ I.value))
        ordered false e w = before_or_after (in_order i k (eqb-false i k e)) w

    wanted_result : Known_result In (k' ∷ []) r' → Known_result Seen [] (opened ρ r')
    wanted_result h = opened_known In (λ d. Free_of n d × Free_of n' d) Seen ρ k' wanted_sizes wanted_places r' h (scoped_both (Free_of n) (Free_of n') r' 1 wanted_parts.1 wanted_parts2.1)

    wanted_parameter : Known_data In (k' ∷ []) p' → Known_data Seen [] (opened ρ p')
    wanted_parameter h = opened_data In (λ d. Free_of n d × Free_of n' d) Seen ρ k' wanted_sizes wanted_places p' h (scoped_both (Free_of n) (Free_of n') p' 1 wanted_parts.0 wanted_parts2.0)

    module _ (Other : Free → Type 0) (out : (d : Free) → Seen d → Other d → In d) where
      found_result : Each (Scoped Other) 1 r → Known_result Seen [] (opened δ r) → Known_result In (k ∷ []) r
      found_result s h = known_back In Other Seen δ k out found_places r h s

      found_parameter : Each (Scoped Other) 1 p → Known_data Seen [] (opened δ p) → Known_data In (k ∷ []) p
      found_parameter s h = known_data_back In Other Seen δ k out found_places p h s

mutual
  unfolding Flat All_flat

  suits_flat : {t u : Size} → Suits t u → Ways (Flat t) (Flat u)
  suits_flat suits_same = same_ways
  suits_flat (suits_parts q) = all_suit_flat q
  suits_flat (suits_function n n' δ ρ I z a b) = same_ways

  all_suit_flat : {ts us : Sizes} → All_suit ts us → Ways (All_flat ts) (All_flat us)
  all_suit_flat suit_none = same_ways
  all_suit_flat (suit_more q qs) = let a = suits_flat q in let b = all_suit_flat qs in ((λ h. (a.0 h.0, b.0 h.1)), (λ h. (a.1 h.0, b.1 h.1)))

pub suits_flat_result : {t u : Size} → Suits t u → Ways (Flat_result t) (Flat_result u)
unfolding Flat_result
suits_flat_result suits_same = same_ways
suits_flat_result (suits_parts q) = suits_flat (suits_parts q)
suits_flat_result (suits_function {r = r} {s = s} n n' δ ρ I z a b) = let x = flat_result_replaced (given δ) r 1 in let y = flat_result_replaced (given ρ) s 1 in let w = suits_flat_result b in ((λ h. y.1 (w.0 (x.0 h))), (λ h. x.1 (w.1 (y.0 h))))

-- what suits a type of which all is known is known too
known_suits : {t u : Size} → Suits t u → (In : Free → Type 0) → Known_result In [] u → Known_result In [] t
unfolding Known_result Flat_result Each
known_suits suits_same In x = x
known_suits (suits_parts q) In x = ((suits_data (suits_parts q)).1 x.0, suits_each (λ j d. Known_size In [] d) 0 (suits_parts q) x.0 x.1)
known_suits (suits_function {k} {l} {p} {r} {q} {s} n n' δ ρ I z a b) In x = (
  found_parameter k p r l q s n n' δ ρ I In (Free_of n) out z.0 (let y = wanted_parameter k p r l q s n n' δ ρ I In x.0 in ((suits_data a).0 y.0, suits_each_on (λ j d. Known_size (Seen k p r l q s n n' δ ρ I In) [] d) 0 a y.0 y.1)),
  found_result k p r l q s n n' δ ρ I In (Free_of n) out z.1 (known_suits b (Seen k p r l q s n n' δ ρ I In) (wanted_result k p r l q s n n' δ ρ I In x.1)),
  (suits_flat_result (suits_function n n' δ ρ I z a b)).1 x.2,
)
  where
    out : (d : Free) → Seen k p r l q s n n' δ ρ I In d → Free_of n d → In d
    out d (g, inl h) f = h
    out d (g, inr e) f = absurd (let w : Free_of n (Own n e.0) = subst (λ y. Free_of n y) e.1 f in w refl)

-- ---- what is told of a type is told of one that it suits
module _ (N : Names) (τ : Meant) where
  module _ (k : ℕ) (p r : Size) (k' : ℕ) (p' r' : Size) (n n' : ℕ) (δ ρ : ℕ → Free) (I : Instance k p r k' p' r' n n' δ ρ) (a : Suits (opened ρ p') (opened δ p)) (b : Suits (opened δ r) (opened ρ r'))
      (m : Worth) (F' : ℕ → ℕ) where
    choices : (i : ℕ) → i < k' → F' i ≡ free (at_node n F' m) (ρ i)
    choices i l = subst (λ d. F' i ≡ free (at_node n F' m) d) (sym (I.chosen i l)) (sym (own_here n F' m i))

    told_at : (tell : List Shape → Shape) (x : Shape) → Known_result Any_free (k' ∷ []) r' → (Told_right N τ (at_node n F' m) no_frames (opened δ r) (λ hs. tell (x ∷ hs)) → Told_right N τ (at_node n F' m) no_frames (opened ρ r') (λ hs. tell (x ∷ hs)))
        → ((F : ℕ → ℕ) → Has_shape N τ (at_node n F' m) (push F no_frames) p x → Told_right N τ (at_node n F' m) (push F no_frames) r (λ hs. tell (x ∷ hs))) → Has_shape N τ m (push F' no_frames) p' x → Told_right N τ m (push F' no_frames) r' (λ hs. tell (x ∷ hs))
    told_at tell x known results told hx =
        let Fd : ℕ → ℕ = λ i. free (at_node n F' m) (δ i) in
        told_same (Free_of n) (at_node n F' m) m N τ (λ d o. node_else n F' m d o) r' 1 (push F' no_frames) (push F' no_frames) (wanted_parts k p r k' p' r' n n' δ ρ I).1 (λ j i l. refl) (λ hs. tell (x ∷ hs))
        (opened_told N τ (at_node n F' m) ρ (λ i. i < k') (Free_of n) F' r' (known_low Any_free k' r' known) (wanted_parts k p r k' p' r' n n' δ ρ I).1 choices no_frames no_frames (λ hs. tell (x ∷ hs))
        (results
        (told_opened N τ (at_node n F' m) δ Any_position (Free_of n') Fd r (each_as (Scoped (Free_of n')) (Of_positions Any_position) (any_position (Free_of n')) r 1 (found_parts k p r k' p' r' n n' δ ρ I).1) (found_parts k p r k' p' r' n n' δ ρ I).1 (λ i u. refl) no_frames no_frames (λ hs. tell (x ∷ hs))
        (told Fd
        (opened_shape N τ (at_node n F' m) δ (λ i. i < k) (Free_of n') Fd p I.low (found_parts k p r k' p' r' n n' δ ρ I).0 (λ i l. refl) no_frames no_frames x
        ((suits_shape N τ a (at_node n F' m) no_frames x).0
        (shape_opened N τ (at_node n F' m) ρ (λ i. i < k') (Free_of n) F' p' I.wanted_low (wanted_parts k p r k' p' r' n n' δ ρ I).0 choices no_frames no_frames x
        (shape_same (Free_of n) m (at_node n F' m) N τ (λ d o. sym (node_else n F' m d o)) p' 1 (push F' no_frames) (push F' no_frames) (wanted_parts k p r k' p' r' n n' δ ρ I).0 (λ j i l. refl) x hx))))))))

  told_suits : {t u : Size} → Suits t u → (m : Worth) (tell : List Shape → Shape) → Known_result Any_free [] u → Told_right N τ m no_frames t tell → Told_right N τ m no_frames u tell
  unfolding Told_right Known_result
  told_suits suits_same m tell known x = x
  told_suits (suits_parts q) m tell known x = (suits_shape N τ (suits_parts q) m no_frames (tell [])).0 x
  told_suits (suits_function {k} {l} {p} {r} {q} {s} n n' δ ρ I z a b) m tell known x = λ F h hx. told_at k p r l q s n n' δ ρ I a b m F tell h known.1
      (λ y. told_suits b (at_node n F m) (λ hs. tell (h ∷ hs)) (every_known (Seen k p r l q s n n' δ ρ I Any_free) (opened ρ s) (wanted_result k p r l q s n n' δ ρ I Any_free known.1)) y)
      (λ G hp. there F G h hp) hx
    where
      there : (F : ℕ → ℕ) → Told_right N τ (at_node n F m) no_frames (Fun k p r) tell
      there F = told_same (Free_of n) m (at_node n F m) N τ (λ d o. sym (node_else n F m d o)) (Fun k p r) 0 no_frames no_frames z (λ j i l. refl) tell x

module _ (N : Names) (τ : Meant) (Z : Sizing) (is_there : Place → Bool) (calls : FlatValue → FlatValue → Rel FlatValue) where
  abbrev Takes_to : Worth → ℕ → Size → Size → FlatValue → Type 0
  Takes_to m k p r h = (F : ℕ → ℕ) (v : FlatValue) → F k ≡ word v → Fits N τ Z is_there calls m (push F no_frames) p v
      → Gives (There is_there) (λ w. (F' : ℕ → ℕ) × ((i : ℕ) → i ≤ k → F' i ≡ F i) × Fits N τ Z is_there calls m (push F' no_frames) r w) (calls h v)

  pub function_of : (m : Worth) (k : ℕ) (p r : Size) (h : FlatValue) → Fits N τ Z is_there calls m no_frames (Fun k p r) h → Tells_right N τ Z m no_frames k p r h × Takes_to m k p r h
  unfolding Fits
  function_of m k p r h fits = fits

  pub a_function : (m : Worth) (k : ℕ) (p r : Size) (h : FlatValue) → Tells_right N τ Z m no_frames k p r h → Takes_to m k p r h → Fits N τ Z is_there calls m no_frames (Fun k p r) h
  unfolding Fits
  a_function m k p r h told fits = (told, fits)

  module _ (k : ℕ) (p r : Size) (k' : ℕ) (p' r' : Size) (n n' : ℕ) (δ ρ : ℕ → Free) (I : Instance k p r k' p' r' n n' δ ρ) (a : Suits (opened ρ p') (opened δ p)) (b : Suits (opened δ r) (opened ρ r'))
      (parameters : (m : Worth) (v : FlatValue) → Fits N τ Z is_there calls m no_frames (opened ρ p') v → Fits N τ Z is_there calls m no_frames (opened δ p) v) (results : (m : Worth) (v : FlatValue) → Fits N τ Z is_there calls m no_frames (opened δ r) v → Fits N τ Z is_there calls m no_frames (opened ρ r') v)
      (m : Worth) (h : FlatValue) (there : (F' : ℕ → ℕ) → Fits N τ Z is_there calls (at_node n F' m) no_frames (Fun k p r) h) where
    chosen : (F' : ℕ → ℕ) (i : ℕ) → i < k' → F' i ≡ free (at_node n F' m) (ρ i)
    chosen F' i l = choices N τ k p r k' p' r' n n' δ ρ I a b m F' i l

    -- what it tells
    told_right : Known_result Any_free (k' ∷ []) r' → (F' : ℕ → ℕ) (x : Shape) → Has_shape N τ m (push F' no_frames) p' x → Told_right N τ m (push F' no_frames) r' (λ hs. tells Z h (x ∷ hs))
    told_right known F' x hx =
        let seen = wanted_result k p r k' p' r' n n' δ ρ I Any_free known in
        told_at N τ k p r k' p' r' n n' δ ρ I a b m F' (tells Z h) x known
        (λ y. told_suits N τ b (at_node n F' m) (λ hs. tells Z h (x ∷ hs)) (every_known (Seen k p r k' p' r' n n' δ ρ I Any_free) (opened ρ r') seen) y)
        (λ F hp. (function_of (at_node n F' m) k p r h (there F')).0.1 (found_result k p r k' p' r' n n' δ ρ I Any_free (Free_of n') (λ d q o. tt) (found_parts k p r k' p' r' n n' δ ρ I).1 (known_suits b (Seen k p r k' p' r' n n' δ ρ I Any_free) seen)) F x hp) hx

    told_there : Tells_right N τ Z m no_frames k' p' r' h
    told_there = ((function_of (at_node n (λ i. 0) m) k p r h (there (λ i. 0))).0.0, told_right)

    module _ (F' : ℕ → ℕ) (v : FlatValue) (e : F' k' ≡ word v) (argument : Fits N τ Z is_there calls m (push F' no_frames) p' v) where
      frame : ℕ → ℕ
      frame i = cond (nat_eq i k) (word v) (free (at_node n F' m) (δ i))

      frame_value : frame k ≡ word v
      unfolding frame
      frame_value = ap (λ b. cond b (word v) (free (at_node n F' m) (δ k))) (eq-eqb k k refl)

      frame_before : (i : ℕ) → i < k → frame i ≡ free (at_node n F' m) (δ i)
      unfolding frame
      frame_before i l = ap (λ b. cond b (word v) (free (at_node n F' m) (δ i))) (ne_eqb i k (λ z. omega (arith, l, z)))

      argument_there : Fits N τ Z is_there calls (at_node n F' m) (push frame no_frames) p v
      argument_there = opened_fits N τ (at_node n F' m) δ (λ i. i < k) (Free_of n') frame p I.low (found_parts k p r k' p' r' n n' δ ρ I).0 frame_before Z is_there calls no_frames no_frames v
          (parameters (at_node n F' m) v (fits_opened N τ (at_node n F' m) ρ (λ i. i < k') (Free_of n) F' p' I.wanted_low (wanted_parts k p r k' p' r' n n' δ ρ I).0 (chosen F') Z is_there calls no_frames no_frames v
          (fits_same (Free_of n) m (at_node n F' m) N τ Z is_there calls (λ d o. sym (node_else n F' m d o)) p' 1 (push F' no_frames) (push F' no_frames) (wanted_parts k p r k' p' r' n n' δ ρ I).0 (λ j i l. refl) v argument)))

      module _ (F2 : ℕ → ℕ) (agrees : (i : ℕ) → i ≤ k → F2 i ≡ frame i) (w : FlatValue) (result : Fits N τ Z is_there calls (at_node n F' m) (push F2 no_frames) r w) where
        other : Free_of n' (Unknown n k')
        other = λ z. I.two z

        own_other : (i : ℕ) → Free_of n' (Own n i)
        own_other i = λ z. I.two z

        worth_here : at_node n' F2 (at_node n F' m) (Unknown n k') ≡ F' k'
        worth_here = node_else n' F2 (at_node n F' m) (Unknown n k') other ∙ node_here n F' m k'

        positions : (i : ℕ) → Unit {0} → F2 i ≡ free (at_node n' F2 (at_node n F' m)) (δ i)
        positions i u = by_test (nat_eq i k) refl
          where
            before_or_after : (i < k) ⊎ (k < i) → F2 i ≡ free (at_node n' F2 (at_node n F' m)) (δ i)
            before_or_after (inl l) = agrees i (omega (arith, l)) ∙ frame_before i l ∙ sym (free_is (at_node n' F2 (at_node n F' m)) (at_node n F' m) (δ i) (node_else n' F2 (at_node n F' m) (δ i) (I.used i l)))
            before_or_after (inr l) = subst (λ d. F2 i ≡ free (at_node n' F2 (at_node n F' m)) d) (sym (I.met i l)) (sym (node_here n' F2 (at_node n F' m) i))

            at_value : F2 k ≡ free (at_node n' F2 (at_node n F' m)) (δ k)
            at_value = agrees k (omega arith) ∙ frame_value ∙ sym e ∙ sym worth_here ∙ sym (ap (free (at_node n' F2 (at_node n F' m))) I.value)

            by_test : (b : Bool) → nat_eq i k ≡ b → F2 i ≡ free (at_node n' F2 (at_node n F' m)) (δ i)
            by_test true q = subst (λ j. F2 j ≡ free (at_node n' F2 (at_node n F' m)) (δ j)) (sym (eqb-true i k q)) at_value
            by_test false q = before_or_after (in_order i k (eqb-false i k q))

        back_to : Fits N τ Z is_there calls m (push (λ i. free (at_node n' F2 (at_node n F' m)) (ρ i)) no_frames) r' w
        back_to = fits_same (Free_of n) (at_node n F' m) m N τ Z is_there calls (λ d o. node_else n F' m d o) r' 1 _ _ (wanted_parts k p r k' p' r' n n' δ ρ I).1 (λ j i l. refl) w
            (fits_same (Free_of n') (at_node n' F2 (at_node n F' m)) (at_node n F' m) N τ Z is_there calls (λ d o. node_else n' F2 (at_node n F' m) d o) r' 1 _ _ (wanted_parts2 k p r k' p' r' n n' δ ρ I).1 (λ j i l. refl) w
            (opened_fits N τ (at_node n' F2 (at_node n F' m)) ρ Any_position (Free_of n) (λ i. free (at_node n' F2 (at_node n F' m)) (ρ i)) r' (each_as (Scoped (Free_of n)) (Of_positions Any_position) (any_position (Free_of n)) r' 1 (wanted_parts k p r k' p' r' n n' δ ρ I).1) (wanted_parts k p r k' p' r' n n' δ ρ I).1 (λ i u. refl) Z is_there calls no_frames no_frames w
            (results (at_node n' F2 (at_node n F' m)) w
            (fits_opened N τ (at_node n' F2 (at_node n F' m)) δ Any_position (Free_of n') F2 r (each_as (Scoped (Free_of n')) (Of_positions Any_position) (any_position (Free_of n')) r 1 (found_parts k p r k' p' r' n n' δ ρ I).1) (found_parts k p r k' p' r' n n' δ ρ I).1 positions Z is_there calls no_frames no_frames w
            (fits_same (Free_of n') (at_node n F' m) (at_node n' F2 (at_node n F' m)) N τ Z is_there calls (λ d o. sym (node_else n' F2 (at_node n F' m) d o)) r 1 (push F2 no_frames) (push F2 no_frames) (found_parts k p r k' p' r' n n' δ ρ I).1 (λ j i l. refl) w result)))))

        same_choice : (i : ℕ) → i ≤ k' → free (at_node n' F2 (at_node n F' m)) (ρ i) ≡ F' i
        same_choice i l = by_test (nat_eq i k') refl
          where
            below : (i < k') ⊎ (k' < i) → free (at_node n' F2 (at_node n F' m)) (ρ i) ≡ F' i
            below (inl q) = ap (free (at_node n' F2 (at_node n F' m))) (I.chosen i q) ∙ node_else n' F2 (at_node n F' m) (Own n i) (own_other i) ∙ own_here n F' m i
            below (inr q) = absurd (omega (arith, l, q))

            by_test : (b : Bool) → nat_eq i k' ≡ b → free (at_node n' F2 (at_node n F' m)) (ρ i) ≡ F' i
            by_test true q = subst (λ j. free (at_node n' F2 (at_node n F' m)) (ρ j) ≡ F' j) (sym (eqb-true i k' q)) (ap (free (at_node n' F2 (at_node n F' m))) I.argument ∙ worth_here)
            by_test false q = below (in_order i k' (eqb-false i k' q))

      instance_gives : Gives (There is_there) (λ w. (F'' : ℕ → ℕ) × ((i : ℕ) → i ≤ k' → F'' i ≡ F' i) × Fits N τ Z is_there calls m (push F'' no_frames) r' w) (calls h v)
      instance_gives = gives_as _ _ (calls h v) ((function_of (at_node n F' m) k p r h (there F')).1 frame v frame_value argument_there) (λ w q. ((λ i. free (at_node n' q.0 (at_node n F' m)) (ρ i)), same_choice q.0 q.1 w q.2, back_to q.0 q.1 w q.2))

    pub instance_fits : Fits N τ Z is_there calls m no_frames (Fun k' p' r') h
    instance_fits = a_function m k' p' r' h told_there (λ F v e g. instance_gives F v e g)

  mutual
    unfolding Fits All_fit Named_fit

    pub suits_fits : {t u : Size} → Suits t u → (m : Worth) (v : FlatValue) → Fits N τ Z is_there calls m no_frames t v → Fits N τ Z is_there calls m no_frames u v
    suits_fits suits_same m v h = h
    suits_fits (suits_parts {h} {ts} {us} q) m v x = of_head_goes h (All_fit N τ Z is_there calls m no_frames ts) (All_fit N τ Z is_there calls m no_frames us) (λ n. Named_fit N τ Z is_there calls m no_frames n 0 ts) (λ n. Named_fit N τ Z is_there calls m no_frames n 0 us) (λ vs g. all_suit_fit q m vs g) (λ n fs g. named_suit_fit q m n 0 fs g) v x
    suits_fits (suits_function {k} {l} {p} {r} {q} {s} n n' δ ρ I z a b) m h fits = instance_fits k p r l q s n n' δ ρ I a b (λ m v x. suits_fits a m v x) (λ m v x. suits_fits b m v x) m h
        (λ F'. fits_same (Free_of n) m (at_node n F' m) N τ Z is_there calls (λ d o. sym (node_else n F' m d o)) (Fun k p r) 0 no_frames no_frames z (λ j i l. refl) h fits)

    all_suit_fit : {ts us : Sizes} → All_suit ts us → (m : Worth) (vs : FlatValues) → All_fit N τ Z is_there calls m no_frames ts vs → All_fit N τ Z is_there calls m no_frames us vs
    all_suit_fit suit_none m vs h = h
    all_suit_fit (suit_more q qs) m vs h = first_value_goes _ _ _ _ (λ v x. suits_fits q m v x) (λ vs x. all_suit_fit qs m vs x) vs h

    named_suit_fit : {ts us : Sizes} → All_suit ts us → (m : Worth) (n i : ℕ) (fs : FlatFields) → Named_fit N τ Z is_there calls m no_frames n i ts fs → Named_fit N τ Z is_there calls m no_frames n i us fs
    named_suit_fit suit_none m n i fs h = h
    named_suit_fit (suit_more q qs) m n i fs h = ((λ f p. let c = h.0 f p in (c.0, c.1, suits_fits q m c.0 c.2)), named_suit_fit qs m n (suc i) fs h.1)

pub suiting_values_fit : SuitingValuesFit
suiting_values_fit N τ Z L is_there tight budget t u m v q h = suits_fits N (exactly τ) Z is_there (calls_of L tight budget) q m v h
