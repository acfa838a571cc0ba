-- Names that get values of the stack.
use Rattle.std.proofs.Common.{◌≡◌, ℕ, zero, suc, ◌+◌, ◌-◌, ◌<◌, ◌≤◌, List, [], ◌∷◌, ◌++◌, length, get_or, take, drop, slice_get, slice_set, Some, None, Result, Ok, Err, Bool, true, false, cond, nat_eq, refl, sym, ap, ◌∙◌, subst, arith, add-one}
use Rattle.std.proofs.Math.Seq.{drop-append_seam, take-append_seam}
use Rattle.std.proofs.lemmas.Bool.{eqb-true, eqb-false}
use Rattle.std.proofs.lemmas.List.{length-append, length-drop, length-set, take_all, get_or_default}
use Rattle.fut_scalar.specs.declared.scalar.Scalar.{Scalar}
use Rattle.fut_meaning.specs.Arrays.{truth_of_datum}
use Rattle.array_data.specs.declared.data.Data.{Data}
use Rattle.array_data.specs.declared.data.Data.TheVariants as hold
use Rattle.array_data.specs.Held.{held, held_all, as_held}
use Rattle.fut_meaning.specs.Accessors.{truth_of_scalar}
use Rattle.fut_eval.proofs.Holding.{held_truth, held_length, held_set, held_get, held_append, held_take, held_drop}
use Rattle.fut_meaning.specs.Outcomes.{Val, Wrong}
use Rattle.fut_blocks.specs.Meaning.{Component, Names, look, bound, holds, the_one}
use Rattle.fut_blocks.specs.Numbered.{Upward}
use Rattle.array_data.specs.declared.stop.Stop.{Stop}
use Rattle.array_data.specs.declared.stop.Stop.TheVariants.{Stuck, Memory}
use Rattle.fut_eval.specs.Answers.{Answer, Pops_one, Tells, told, lost, no_memory_told, IfDone, done, not_done, Fit, Fitting, Stands, Kept, stored, Stored, is_stored, not_as_many, no_memory_stored, past, Bound, is_bound, no_memory_bound, unbound, Copied, copied, not_copied, Binds, Takes, named, beyond, Pops, Named}
use Rattle.fut_eval.proofs.Tells.{kept_same, stands_more}

-- ---- writes of one element

pub get_set : {A : Type 0} (t : List A) (x : ℕ) (v : A) → x < length t → slice_get (slice_set t x v) x ≡ Some v
get_set [] x v l = absurd (omega arith)
get_set (a ∷ t) zero v l = refl
get_set (a ∷ t) (suc x) v l = get_set t x v (omega arith)

pub get_apart : {A : Type 0} (t : List A) (x y : ℕ) (v : A) → (x ≡ y → ⊥) → slice_get (slice_set t x v) y ≡ slice_get t y
get_apart [] x y v h = refl
get_apart (a ∷ t) zero zero v h = absurd (h refl)
get_apart (a ∷ t) zero (suc y) v h = refl
get_apart (a ∷ t) (suc x) zero v h = refl
get_apart (a ∷ t) (suc x) (suc y) v h = get_apart t x y v (λ e. h (ap suc e))

pub upward_rises : (n : ℕ) (xs : List ℕ) (last : ℕ) → Upward n xs last → n ≤ last
upward_rises n [] last h = h
upward_rises n (x ∷ xs) last h = let k = upward_rises (suc x) xs last h.1 in omega (arith, h.0)

upward_below : (n : ℕ) (xs : List ℕ) (last i : ℕ) → Upward n xs last → i < length xs → get_or xs i 0 < last
upward_below n [] last i h l = absurd (omega arith)
upward_below n (x ∷ xs) last zero h l = let k = upward_rises (suc x) xs last h.1 in omega arith
upward_below n (x ∷ xs) last (suc i) h l = upward_below (suc x) xs last i h.1 (omega arith)

-- a new name stands
pub stands_new : (env : Names Component) (n x : ℕ) (v : Component) (t : List Component) → Stands env n t → n ≤ x → x < length t → Fitting v → Stands ((x, v) ∷ env) (suc x) (slice_set t x v)
stands_new env n x v t h l m f = record { each = λ y w. by_test y w (nat_eq x y) refl }
  where
    by_test : (y : ℕ) (w : Component) (b : Bool) → nat_eq x y ≡ b → cond b (Some v) (look env y) ≡ Some w → (y < suc x) × (slice_get (slice_set t x v) y ≡ Some w) × Fitting w
    by_test y w true q e =
        let p : x ≡ y = eqb-true x y q in
        let z : v ≡ w = cc in
        (omega arith, subst (λ k. slice_get (slice_set t x v) k ≡ Some w) p (get_set t x v m ∙ ap Some z), tt)
    by_test y w false q e =
        let p = h.each y w e in
        (omega (arith, p.0), get_apart t x y v (eqb-false x y q) ∙ p.1, p.2)

pub kept_new : (n x : ℕ) (v : Component) (t : List Component) → n ≤ x → Kept n t (slice_set t x v)
kept_new n x v t l = record { long = length-set t x v; each = λ y m. get_apart t x y v (λ e. absurd (omega arith)) }

-- ---- one value for each name

pub record All_stand (env : Names Component) (n last : ℕ) (xs : List ℕ) (vs : List Component) (t : List Component) : Type 0 where
  pub names : Names Component
  pub are_bound : bound xs vs env ≡ Some names
  pub stand : Stands names last (stored xs vs t)
  pub keep : Kept n t (stored xs vs t)

all_stand : (xs : List ℕ) (vs : List Component) (env : Names Component) (n last : ℕ) (t : List Component) → Stands env n t → Upward n xs last → last ≤ length t → Fit vs → length xs ≡ length vs → All_stand env n last xs vs t
unfolding stored
all_stand [] [] env n last t st u l f e = record { names = env; are_bound = refl; stand = stands_more env n last t u st; keep = kept_same n t }
all_stand [] (v ∷ vs) env n last t st u l f e = absurd (omega arith)
all_stand (x ∷ xs) [] env n last t st u l f e = absurd (omega arith)
all_stand (x ∷ xs) (v ∷ vs) env n last t st u l f e =
    let r = upward_rises (suc x) xs last u.1 in
    let t1 = slice_set t x v in
    let le : last ≤ length t1 = omega (arith, length-set t x v) in
    let a = all_stand xs vs ((x, v) ∷ env) (suc x) last t1 (stands_new env n x v t st u.0 (omega arith) f.0) u.1 le f.1 (omega arith) in
    let k = kept_new n x v t u.0 in
    record {
      names = a.names;
      are_bound = a.are_bound;
      stand = a.stand;
      keep = record { long = a.keep.long ∙ k.long; each = λ y m. a.keep.each y (omega (arith, u.0)) ∙ k.each y m };
    }

not_bound : (xs : List ℕ) (vs : List Component) (env : Names Component) → (length xs ≡ length vs → ⊥) → bound xs vs env ≡ None
not_bound [] [] env h = absurd (h refl)
not_bound [] (v ∷ vs) env h = refl
not_bound (x ∷ xs) [] env h = refl
not_bound (x ∷ xs) (v ∷ vs) env h = not_bound xs vs ((x, v) ∷ env) (λ e. h (ap suc e))

pub stored_bound : (xs : List ℕ) (vs : List Component) (env : Names Component) (n last : ℕ) (t t' : List Component) (r : Answer) → Stored xs vs t t' r → Stands env n t → Upward n xs last → last ≤ length t → Fit vs → Bound env n last xs vs t t' r
stored_bound xs vs env n last t t' _ (is_stored e q) st u l f =
    let a = all_stand xs vs env n last t st u l f e in
    is_bound a.names a.are_bound (subst (λ z. Stands a.names last z) (sym q) a.stand) (subst (λ z. Kept n t z) (sym q) a.keep)
stored_bound xs vs env n last t t' _ no_memory_stored st u l f = no_memory_bound
stored_bound xs vs env n last t t' _ (not_as_many h) st u l f = unbound (not_bound xs vs env h)
stored_bound xs vs env n last t t' _ (past i m g) st u l f = let b = upward_below n xs last i u m in absurd (omega arith)

-- ---- the loop that stores

unfoldable pub Stores : List ℕ → List Component → List Component → ℕ → List Component → Type 0
Stores xs vs t0 i t = t ≡ stored (take i xs) (take i vs) t0

pub store_start : (xs : List ℕ) (vs t : List Component) → Stores xs vs t 0 t
unfolding Stores stored
store_start xs vs t = refl

stored_more : (xs : List ℕ) (vs t : List Component) (i : ℕ) (d : ℕ) (e : Component) → i < length xs → length xs ≡ length vs → stored (take (suc i) xs) (take (suc i) vs) t ≡ slice_set (stored (take i xs) (take i vs) t) (get_or xs i d) (get_or vs i e)
unfolding stored
stored_more [] vs t i d e l q = absurd (omega arith)
stored_more (x ∷ xs) [] t i d e l q = absurd (omega arith)
stored_more (x ∷ xs) (v ∷ vs) t zero d e l q = refl
stored_more (x ∷ xs) (v ∷ vs) t (suc i) d e l q = stored_more xs vs (slice_set t x v) i d e (omega arith) (omega arith)

length-stored : (xs : List ℕ) (vs t : List Component) → length (stored xs vs t) ≡ length t
unfolding stored
length-stored [] vs t = refl
length-stored (x ∷ xs) [] t = refl
length-stored (x ∷ xs) (v ∷ vs) t = length-stored xs vs (slice_set t x v) ∙ length-set t x v

module _ (xs : List ℕ) (vs t0 : List Component) (i : ℕ) (t : List Component) where
  pub store_more : (d : ℕ) (e : Component) → i < length xs → length xs ≡ length vs → Stores xs vs t0 i t → Stores xs vs t0 (i + 1) (slice_set t (get_or xs i d) (get_or vs i e))
  unfolding Stores
  store_more d e l q h = ap (λ z. slice_set z (get_or xs i d) (get_or vs i e)) h ∙ sym (stored_more xs vs t0 i d e l q) ∙ ap (λ k. stored (take k xs) (take k vs) t0) (sym (add-one i))

  pub store_past : (d : ℕ) → i < length xs → length t ≤ get_or xs i d → Stores xs vs t0 i t → Stored xs vs t0 t (Err Stuck)
  unfolding Stores
  store_past d l g h =
      let e : length t ≡ length t0 = ap length h ∙ length-stored (take i xs) (take i vs) t0 in
      past i l (omega (arith, get_or_default xs i d 0 l))

  pub store_end : length xs ≤ i → length xs ≡ length vs → Stores xs vs t0 i t → Stored xs vs t0 t (Ok tt)
  unfolding Stores
  store_end l q h =
      let p : length vs ≤ i = omega arith in
      is_stored q (h ∙ ap (λ z. stored z (take i vs) t0) (take_all i xs l) ∙ ap (λ z. stored xs z t0) (take_all i vs p))

-- and the same of what code holds
module _ (xs : List ℕ) (vs : List Data) (t0 : List Component) (i : ℕ) (t : List Data) where
  pub held_more : (a c : Data) (d : ℕ) (e : Data) → i < length xs → length xs ≡ length vs → Copied (get_or vs i e) (Ok c) → a ≡ c → Stores xs (held_all vs) t0 i (held_all t) → Stores xs (held_all vs) t0 (i + 1) (held_all (slice_set t (get_or xs i d) a))
  held_more a c d e l q (copied r) y h =
      let k : length xs ≡ length (held_all vs) = q ∙ sym (held_length vs) in
      subst (λ z. Stores xs (held_all vs) t0 (i + 1) z) (sym (held_set t (get_or xs i d) a ∙ ap (slice_set (held_all t) (get_or xs i d)) (ap held y ∙ r ∙ sym (held_get vs i e))))
      (store_more xs (held_all vs) t0 i (held_all t) d (held e) l k h)

  pub held_scalar_more : (a : Data) (d : ℕ) (e : Data) (v : Scalar) → i < length xs → length xs ≡ length vs → get_or vs i e ≡ hold.Scalar v → a ≡ hold.Scalar v → Stores xs (held_all vs) t0 i (held_all t) → Stores xs (held_all vs) t0 (i + 1) (held_all (slice_set t (get_or xs i d) a))
  held_scalar_more a d e v l q r y h = held_more a (hold.Scalar v) d e l q (subst (λ z. Copied z (Ok (hold.Scalar v))) (sym r) (copied refl)) y h

  pub held_past : (d : ℕ) → i < length xs → length t ≤ get_or xs i d → Stores xs (held_all vs) t0 i (held_all t) → Stored xs (held_all vs) t0 (held_all t) (Err Stuck)
  held_past d l g h = store_past xs (held_all vs) t0 i (held_all t) d l (omega (arith, held_length t)) h

  pub held_full : (e : Data) (r : Stop) → Copied (get_or vs i e) (Err r) → Stored xs (held_all vs) t0 (held_all t) (Err r)
  held_full e _ not_copied = no_memory_stored

  pub held_end : length xs ≤ i → length xs ≡ length vs → Stores xs (held_all vs) t0 i (held_all t) → Stored xs (held_all vs) t0 (held_all t) (Ok tt)
  held_end l q h = store_end xs (held_all vs) t0 i (held_all t) l (q ∙ sym (held_length vs)) h

pub held_differs : (xs : List ℕ) (vs : List Data) (t : List Component) → (length xs ≡ length vs → ⊥) → Stored xs (held_all vs) t t (Err Stuck)
held_differs xs vs t h = not_as_many (λ e. h (e ∙ held_length vs))

pub ruleset storing = (store_start, held_more, held_scalar_more, held_past, held_full, held_end, held_differs)

-- ---- values from the stack

pub bind_short : (xs : List ℕ) (mark : ℕ) (t t' s : List Component) → length s < mark → Binds xs mark t t' s (Err Stuck)
unfolding Binds
bind_short xs mark t t' s l env n last below vs st u m q p f = let e : length s ≡ length below + length vs = ap length q ∙ length-append below vs in absurd (omega arith)

pub bind_store : (xs : List ℕ) (mark : ℕ) (t t' s : List Component) (r : Answer) → Stored xs (drop mark s) t t' r → Binds xs mark t t' s r
unfolding Binds
bind_store xs mark t t' s r h env n last below vs st u m q p f =
    let e : drop mark s ≡ vs = ap (λ z. drop z s) (sym p) ∙ ap (drop (length below)) q ∙ drop-append_seam below vs in
    stored_bound xs vs env n last t t' r (subst (λ z. Stored xs z t t' r) e h) st u m f

whole_tail : (mark : ℕ) (s : List Component) → take (length s - mark) (drop mark s) ≡ drop mark s
whole_tail mark s = take_all (length s - mark) (drop mark s) (omega (arith, length-drop mark s))

pub bind_tail : (xs : List ℕ) (mark : ℕ) (t t' s : List Component) (r : Answer) → Stored xs (take (length s - mark) (drop mark s)) t t' r → Binds xs mark t t' s r
bind_tail xs mark t t' s r h = bind_store xs mark t t' s r (subst (λ z. Stored xs z t t' r) (whole_tail mark s) h)

pub take_stop : (xs : List ℕ) (mark : ℕ) (t t' s s' : List Component) (e : Stop) → Binds xs mark t t' s (Err e) → Takes xs mark t t' s s' (Err e)
unfolding Binds Takes
take_stop xs mark t t' s s' e h env n last below vs st u m q p f = (h env n last below vs st u m q p f, not_done)

pub take_done : (xs : List ℕ) (mark : ℕ) (t t' s s' : List Component) → Binds xs mark t t' s (Ok tt) → s' ≡ take mark s → Takes xs mark t t' s s' (Ok tt)
unfolding Binds Takes
take_done xs mark t t' s s' h e env n last below vs st u m q p f =
    (h env n last below vs st u m q p f, done (e ∙ ap (λ z. take z s) (sym p) ∙ ap (take (length below)) q ∙ take-append_seam below vs))

pub held_bind_short : (xs : List ℕ) (mark : ℕ) (t : List Component) (s : List Data) → length s < mark → Binds xs mark t t (held_all s) (Err Stuck)
held_bind_short xs mark t s l = bind_short xs mark t t (held_all s) (omega (arith, held_length s))

pub held_bind_store : (xs : List ℕ) (mark : ℕ) (t t' : List Component) (s : List Data) (r : Answer) → Stored xs (held_all (drop mark s)) t t' r → Binds xs mark t t' (held_all s) r
held_bind_store xs mark t t' s r h = bind_store xs mark t t' (held_all s) r (subst (λ z. Stored xs z t t' r) (held_drop mark s) h)

pub held_bind_tail : (xs : List ℕ) (mark : ℕ) (t t' : List Component) (s : List Data) (r : Answer) → Stored xs (held_all (take (length s - mark) (drop mark s))) t t' r → Binds xs mark t t' (held_all s) r
held_bind_tail xs mark t t' s r h = held_bind_store xs mark t t' s r (subst (λ z. Stored xs (held_all z) t t' r) (take_all (length s - mark) (drop mark s) (omega (arith, length-drop mark s))) h)

pub held_take_done : (xs : List ℕ) (mark : ℕ) (t t' : List Component) (s s' : List Data) → Binds xs mark t t' (held_all s) (Ok tt) → s' ≡ take mark s → Takes xs mark t t' (held_all s) (held_all s') (Ok tt)
held_take_done xs mark t t' s s' h e = take_done xs mark t t' (held_all s) (held_all s') h (ap held_all e ∙ held_take mark s)

pub ruleset binding = (held_bind_short, held_bind_store, held_bind_tail, take_stop, held_take_done)

pub held_named : (x : ℕ) (v : Data) (t t' : List Data) → t' ≡ slice_set t x v → Named x (held v) (held_all t) (held_all t') (Ok tt)
held_named x v t t' e = named (ap held_all e ∙ held_set t x v)

pub held_beyond : (x : ℕ) (v : Data) (t t' : List Data) → length t ≤ x → Named x (held v) (held_all t) (held_all t') (Err Stuck)
held_beyond x v t t' l = beyond (omega (arith, held_length t))

pub ruleset naming = (held_named, held_beyond)

-- ---- the one value of a test

no_values : (vs : List Component) → length vs ≤ 0 → holds vs ≡ Wrong
no_values [] l = refl
no_values (v ∷ vs) l = absurd (omega arith)

many_values : (vs : List Component) → 1 < length vs → holds vs ≡ Wrong
many_values [] l = absurd (omega arith)
many_values (v ∷ []) l = absurd (omega arith)
many_values (v ∷ w ∷ vs) l = refl

pub pop_none : (mark : ℕ) (s s' : List Component) → length s ≤ mark → Pops mark s s' (Err Stuck)
unfolding Pops
pop_none mark s s' l below vs q p = let e : length s ≡ length below + length vs = ap length q ∙ length-append below vs in (lost (no_values vs (omega arith)), not_done)

pub pop_many : (mark : ℕ) (s s' : List Component) → 1 < length s - mark → Pops mark s s' (Err Stuck)
unfolding Pops
pop_many mark s s' l below vs q p = let e : length s ≡ length below + length vs = ap length q ∙ length-append below vs in (lost (many_values vs (omega arith)), not_done)

pub last_one : (xs ys : List Component) (v w : Component) → xs ++ v ∷ [] ≡ ys ++ w ∷ [] → (xs ≡ ys) × (v ≡ w)
last_one [] [] v w e = (refl, cc)
last_one [] (y ∷ ys) v w e = let l : length (([]) ++ v ∷ []) ≡ length ((y ∷ ys) ++ w ∷ []) = ap length e in absurd (omega (arith, length-append ys (w ∷ [])))
last_one (x ∷ xs) [] v w e = let l : length ((x ∷ xs) ++ v ∷ []) ≡ length (([]) ++ w ∷ []) = ap length e in absurd (omega (arith, length-append xs (v ∷ [])))
last_one (x ∷ xs) (y ∷ ys) v w e =
    let h : xs ++ v ∷ [] ≡ ys ++ w ∷ [] = cc in
    let k : x ≡ y = cc in
    let r = last_one xs ys v w h in
    (ap (λ z. z ∷ xs) k ∙ ap (λ z. y ∷ z) r.0, r.1)

if_done : {X : Type 0} (P : Type 0) (r : Result X Stop) → P → IfDone P r
if_done P (Ok x) p = done p
if_done P (Err e) p = not_done

pub pop_one : (mark : ℕ) (s s' : List Component) (v : Component) (r : Result Bool Stop) → mark < length s → length s - mark ≤ 1 → s ≡ s' ++ v ∷ [] → Tells (truth_of_datum v) r → Pops mark s s' r
unfolding Pops
pop_one mark s s' v r l m e h below vs q p = by_values vs q
  where
    as_long : (ws : List Component) → s ≡ below ++ ws → length s ≡ mark + length ws
    as_long ws q = ap length q ∙ length-append below ws ∙ ap (λ k. k + length ws) p

    by_values : (vs : List Component) → s ≡ below ++ vs → Tells (holds vs) r × IfDone (s' ≡ below) r
    by_values [] q = absurd (omega (arith, as_long [] q))
    by_values (w ∷ []) q = let k = last_one s' below v w (sym e ∙ q) in (subst (λ z. Tells (truth_of_datum z) r) k.1 h, if_done (s' ≡ below) r k.0)
    by_values (w ∷ x ∷ vs) q = absurd (omega (arith, as_long (w ∷ x ∷ vs) q))

pub held_pop_none : (mark : ℕ) (s s' : List Data) → length s ≤ mark → Pops mark (held_all s) (held_all s') (Err Stuck)
held_pop_none mark s s' l = pop_none mark (held_all s) (held_all s') (omega (arith, held_length s))

pub held_pop_many : (mark : ℕ) (s s' : List Data) → 1 < length s - mark → Pops mark (held_all s) (held_all s') (Err Stuck)
held_pop_many mark s s' l = pop_many mark (held_all s) (held_all s') (omega (arith, held_length s))

pub held_pop_one : (mark : ℕ) (s s' : List Data) (v : Scalar) (r : Result Bool Stop) → mark < length s → length s - mark ≤ 1 → s ≡ s' ++ hold.Scalar v ∷ [] → Tells (truth_of_scalar v) r → Pops mark (held_all s) (held_all s') r
held_pop_one mark s s' v r l m e h =
    pop_one mark (held_all s) (held_all s') (held (hold.Scalar v)) r (omega (arith, held_length s)) (omega (arith, held_length s)) (ap held_all e ∙ held_append s' (hold.Scalar v)) (subst (λ z. Tells z r) (held_truth v) h)

pub held_pop_other : (mark : ℕ) (s s' : List Data) → Pops mark (held_all s) (held_all s') (Err Memory)
unfolding Pops
held_pop_other mark s s' below vs q p = (no_memory_told, not_done)

pub ruleset popping = (held_pop_none, held_pop_many, held_pop_one, held_pop_other)

-- ---- the one value that a function gives

no_one : (vs : List Component) → length vs ≤ 0 → the_one vs ≡ Wrong
no_one [] l = refl
no_one (v ∷ vs) l = absurd (omega arith)

many_ones : (vs : List Component) → 1 < length vs → the_one vs ≡ Wrong
many_ones [] l = absurd (omega arith)
many_ones (v ∷ []) l = absurd (omega arith)
many_ones (v ∷ w ∷ vs) l = refl

above : (s : List Data) (below vs : List Component) → held_all s ≡ below ++ vs → length s ≡ length below + length vs
above s below vs q = sym (held_length s) ∙ ap length q ∙ length-append below vs

pub one_none : (mark : ℕ) (s s' : List Data) → length s ≤ mark → Pops_one mark (held_all s) (held_all s') (as_held (Err Stuck))
unfolding Pops_one
one_none mark s s' l below vs q p = let e = above s below vs q in (lost (no_one vs (omega (arith, e, p, l))), not_done)

pub one_many : (mark : ℕ) (s s' : List Data) → 1 < length s - mark → Pops_one mark (held_all s) (held_all s') (as_held (Err Stuck))
unfolding Pops_one
one_many mark s s' l below vs q p = let e = above s below vs q in (lost (many_ones vs (omega (arith, e, p, l))), not_done)

one_left : (s s' : List Data) (v : Data) (below vs : List Component) → s ≡ s' ++ v ∷ [] → held_all s ≡ below ++ vs → length vs ≤ 1 → 0 < length vs → Tells (the_one vs) (as_held (Ok v)) × IfDone {X = Component} (held_all s' ≡ below) (as_held (Ok v))
one_left s s' v below [] e q l m = absurd (omega arith)
one_left s s' v below (w ∷ []) e q l m =
    let k = last_one (held_all s') below (held v) w (sym (ap held_all e ∙ held_append s' v) ∙ q) in
    (told (ap Val (sym k.1)), done k.0)
one_left s s' v below (w ∷ x ∷ vs) e q l m = absurd (omega arith)

pub one_popped : (mark : ℕ) (s s' : List Data) (v : Data) → mark < length s → length s - mark ≤ 1 → s ≡ s' ++ v ∷ [] → Pops_one mark (held_all s) (held_all s') (as_held (Ok v))
unfolding Pops_one
one_popped mark s s' v l m e below vs q p = let h = above s below vs q in one_left s s' v below vs e q (omega (arith, h, p, m)) (omega (arith, h, p, l))

pub ruleset popping_one = (one_none, one_many, one_popped)
