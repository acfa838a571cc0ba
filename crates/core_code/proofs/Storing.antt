-- Names that get words of the stack.
use Rattle.std.proofs.Common.{◌≡◌, ℕ, zero, suc, ◌+◌, ◌-◌, ◌<◌, ◌≤◌, List, [], ◌∷◌, ◌++◌, length, map, get_or, take, drop, slice_get, slice_set, Some, None, Result, Ok, Err, Bool, true, false, not, cond, nat_eq, refl, sym, ap, ◌∙◌, subst, arith, add-one}
use Rattle.std.specs.Prelude.{◌==◌}
use Rattle.std.proofs.Math.Seq.{drop-append_seam, take-append_seam}
use Rattle.std.proofs.lemmas.Bool.{eqb-true, eqb-false}
use Rattle.std.proofs.lemmas.List.{length-append, length-drop, length-set, length-map, take_all, get_or_default}
use Rattle.fut_meaning.specs.Outcomes.{Val}
use Rattle.fut_blocks.specs.Meaning.{look, bound}
use Rattle.fut_blocks.specs.Numbered.{Upward}
use Rattle.core_arrays.specs.Arenas.{Array}
use Rattle.core_ir.specs.declared.block.Var.{Var}
use Rattle.core_ir.specs.Bundles.{Component, Row}
use Rattle.core_ir.specs.Meaning.{Env, number, holds}
use Rattle.core_ir.specs.Typed.{Sort, Sorts, sort_of, truth_sort, with_vars}
use Rattle.core_code.specs.Registers.{Shows, AllShow, none_shown, shown_and, Named, Stands}
use Rattle.core_code.specs.Answers.{Answer, TruthTold, truth_told, no_truth, Set, set, not_set, stored, Stored, is_stored, no_room, Taken, taken, not_taken, IfDone, done, not_done, IfTold, is_told, not_told, Binds, Takes, Pops}
use Rattle.core_code.specs.declared.stop.Stop.{Stop}
use Rattle.core_code.specs.declared.stop.Stop.TheVariants.{Memory}
use Rattle.core_code.proofs.Frames.{stands_on, stands_more, shows_on}
use Rattle.core_code.proofs.Reading.{truth_shown}

-- ---- writes of one register

pub get_set : {A : Type 0} (t : List A) (x : ℕ) (v : A) → x < length t → slice_get (slice_set t x v) x ≡ Some v
get_set [] x v l = absurd (omega arith)
get_set (a ∷ t) zero v l = refl
get_set (a ∷ t) (suc x) v l = get_set t x v (omega arith)

pub get_apart : {A : Type 0} (t : List A) (x y : ℕ) (v : A) → (x ≡ y → ⊥) → slice_get (slice_set t x v) y ≡ slice_get t y
get_apart [] x y v h = refl
get_apart (a ∷ t) zero zero v h = absurd (h refl)
get_apart (a ∷ t) zero (suc y) v h = refl
get_apart (a ∷ t) (suc x) zero v h = refl
get_apart (a ∷ t) (suc x) (suc y) v h = get_apart t x y v (λ e. h (ap suc e))

pub upward_rises : (n : ℕ) (xs : List ℕ) (last : ℕ) → Upward n xs last → n ≤ last
upward_rises n [] last h = h
upward_rises n (x ∷ xs) last h = let k = upward_rises (suc x) xs last h.1 in omega (arith, h.0)

-- a new name stands
pub stands_new : (G : Sorts) (env : Env) (n : ℕ) (rs : List Array) (t : List ℕ) (x : ℕ) (s : Sort) (c : Component) (w : ℕ) → Stands G env n rs t → n ≤ x → x < length t → Shows rs s c w → Stands ((x, s) ∷ G) ((x, c) ∷ env) (suc x) rs (slice_set t x w)
stands_new G env n rs t x s c w h l m f = record { each = λ y r. by_test y r (nat_eq x y) refl }
  where
    by_test : (y : ℕ) (r : Sort) (b : Bool) → nat_eq x y ≡ b → cond b (Some s) (look G y) ≡ Some r → Named ((x, c) ∷ env) (suc x) rs (slice_set t x w) y r
    by_test y r true q e =
        let p : x ≡ y = eqb-true x y q in
        let z : s ≡ r = cc in
        record { value = c; named = ap (λ b. cond b (Some c) (look env y)) q; below = omega arith; word = w; there = subst (λ k. slice_get (slice_set t x w) k ≡ Some w) p (get_set t x w m); shows = subst (λ k. Shows rs k c w) z f }
    by_test y r false q e =
        let p : Named env n rs t y r = h.each y r e in
        record { value = p.value; named = ap (λ b. cond b (Some c) (look env y)) q ∙ p.named; below = omega (arith, p.below); word = p.word; there = get_apart t x y w (eqb-false x y q) ∙ p.there; shows = p.shows }

pub set_done : (x w : ℕ) (t t' : List ℕ) → x < length t → t' ≡ slice_set t x w → Set x w t t' (Ok tt)
set_done x w t t' l e = set l e

pub set_none : (x w : ℕ) (t t' : List ℕ) → Set x w t t' (Err Memory)
set_none x w t t' = not_set

pub ruleset setting = (set_done, set_none)

-- ---- one word for each name

record All_stand (G : Sorts) (env : Env) (n last : ℕ) (xs : List Var) (cs : Row) (rs : List Array) (t t' : List ℕ) : Type 0 where
  names : Env
  are_bound : bound (map number xs) cs env ≡ Some names
  stand : Stands (with_vars xs G) names last rs t'
  keep : (x : ℕ) → x < n → slice_get t' x ≡ slice_get t x

all_stand : (xs : List Var) (cs : Row) (ws : List ℕ) (ss : List Sort) (G : Sorts) (env : Env) (n last : ℕ) (rs : List Array) (t : List ℕ) → Stands G env n rs t → Upward n (map number xs) last → ss ≡ map sort_of xs → AllShow rs ss cs ws → ((i : ℕ) → i < length xs → get_or (map number xs) i 0 < length t) → All_stand G env n last xs cs rs t (stored (map number xs) ws t)
unfolding stored
all_stand [] _ _ _ G env n last rs t st u q none_shown r = record { names = env; are_bound = refl; stand = stands_more G env n last rs t u st; keep = λ x l. refl }
all_stand [] _ _ _ G env n last rs t st u q (shown_and {s} {ss} h k) r = absurd (let z : s ∷ ss ≡ [] = q in cc)
all_stand (x ∷ xs) _ _ _ G env n last rs t st u q none_shown r = absurd (let z : [] ≡ sort_of x ∷ map sort_of xs = q in cc)
all_stand (x ∷ xs) _ _ _ G env n last rs t st u q (shown_and {s} {ss} {c} {cs} {w} {ws} h k) r =
    let e : s ≡ sort_of x = let z : s ∷ ss ≡ sort_of x ∷ map sort_of xs = q in cc in
    let e' : ss ≡ map sort_of xs = let z : s ∷ ss ≡ sort_of x ∷ map sort_of xs = q in cc in
    let m : x.number < length t = r 0 (omega arith) in
    let t1 : List ℕ = slice_set t x.number w in
    let st1 = stands_new G env n rs t x.number (sort_of x) c w st u.0 m (subst (λ z. Shows rs z c w) e h) in
    let r1 : (i : ℕ) → i < length xs → get_or (map number xs) i 0 < length t1 = λ i l. let y = r (suc i) (omega (arith, l)) in omega (arith, y, length-set t x.number w) in
    let a : All_stand ((x.number, sort_of x) ∷ G) ((x.number, c) ∷ env) (suc x.number) last xs cs rs t1 (stored (map number xs) ws t1) = all_stand xs cs ws ss ((x.number, sort_of x) ∷ G) ((x.number, c) ∷ env) (suc x.number) last rs t1 st1 u.1 e' k r1 in
    record {
      names = a.names;
      are_bound = a.are_bound;
      stand = a.stand;
      keep = λ y l. a.keep y (omega (arith, u.0, l)) ∙ get_apart t x.number y w (λ z. absurd (omega (arith, z, u.0, l)));
    }

-- ---- the loop that stores

unfoldable pub Stores : List Var → List ℕ → List ℕ → ℕ → List ℕ → Type 0
Stores xs ws t0 i t = (t ≡ stored (take i (map number xs)) (take i ws) t0) × ((j : ℕ) → j < i → j < length xs → get_or (map number xs) j 0 < length t0)

pub store_start : (xs : List Var) (ws t : List ℕ) → Stores xs ws t 0 t
unfolding Stores stored
store_start xs ws t = (refl, λ j l m. absurd (omega (arith, l)))

stored_more : (xs ws t : List ℕ) (i d e : ℕ) → i < length xs → length xs ≡ length ws → stored (take (suc i) xs) (take (suc i) ws) t ≡ slice_set (stored (take i xs) (take i ws) t) (get_or xs i d) (get_or ws i e)
unfolding stored
stored_more [] ws t i d e l q = absurd (omega arith)
stored_more (x ∷ xs) [] t i d e l q = absurd (omega arith)
stored_more (x ∷ xs) (w ∷ ws) t zero d e l q = refl
stored_more (x ∷ xs) (w ∷ ws) t (suc i) d e l q = stored_more xs ws (slice_set t x w) i d e (omega arith) (omega arith)

length-stored : (xs ws t : List ℕ) → length (stored xs ws t) ≡ length t
unfolding stored
length-stored [] ws t = refl
length-stored (x ∷ xs) [] t = refl
length-stored (x ∷ xs) (w ∷ ws) t = length-stored xs ws (slice_set t x w) ∙ length-set t x w

number_at : (xs : List Var) (i : ℕ) (d : Var) → i < length xs → get_or (map number xs) i (number d) ≡ number (get_or xs i d)
number_at [] i d l = absurd (omega arith)
number_at (x ∷ xs) zero d l = refl
number_at (x ∷ xs) (suc i) d l = number_at xs i d (omega arith)

module _ (xs : List Var) (ws t0 : List ℕ) (i : ℕ) (t : List ℕ) (h : Stores xs ws t0 i t) where
  pub store_more : (d : Var) (e : ℕ) (t1 : List ℕ) → i < length xs → length xs ≡ length ws → Set (number (get_or xs i d)) (get_or ws i e) t t1 (Ok tt) → Stores xs ws t0 (i + 1) t1
  unfolding Stores
  store_more d e t1 l q (set m p) =
      let long : length (map number xs) ≡ length xs = length-map xs number in
      let n : number (get_or xs i d) ≡ get_or (map number xs) i (number d) = sym (number_at xs i d l) in
      let g : length t ≡ length t0 = ap length h.0 ∙ length-stored (take i (map number xs)) (take i ws) t0 in
      let more : t1 ≡ stored (take (suc i) (map number xs)) (take (suc i) ws) t0 =
      p ∙ ap (λ z. slice_set t z (get_or ws i e)) n ∙ ap (λ z. slice_set z (get_or (map number xs) i (number d)) (get_or ws i e)) h.0
      ∙ sym (stored_more (map number xs) ws t0 i (number d) e (omega (arith, l, long)) (long ∙ q)) in
      let here : get_or (map number xs) i 0 < length t0 = subst (λ z. z < length t0) (sym n ∙ refl ∙ n ∙ get_or_default (map number xs) i (number d) 0 (omega (arith, l, long))) (omega (arith, m, g)) in
      subst (λ k. (t1 ≡ stored (take k (map number xs)) (take k ws) t0) × ((j : ℕ) → j < k → j < length xs → get_or (map number xs) j 0 < length t0)) (sym (add-one i))
      (more, λ j a b. by_index j a b (nat_eq j i) refl here)
    where
      by_index : (j : ℕ) → j < suc i → j < length xs → (b : Bool) → nat_eq j i ≡ b → get_or (map number xs) i 0 < length t0 → get_or (map number xs) j 0 < length t0
      by_index j a b true r here = subst (λ z. get_or (map number xs) z 0 < length t0) (sym (eqb-true j i r)) here
      by_index j a b false r here = let k = eqb-false j i r in h.1 j (omega (arith, a, k)) b

  pub store_end : length xs ≤ i → length xs ≡ length ws → Stored xs ws t0 t (Ok tt)
  unfolding Stores
  store_end l q =
      let long : length (map number xs) ≡ length xs = length-map xs number in
      is_stored q (h.0 ∙ ap (λ z. stored z (take i ws) t0) (take_all i (map number xs) (omega (arith, l, long))) ∙ ap (λ z. stored (map number xs) z t0) (take_all i ws (omega (arith, l, q)))) (λ j m. h.1 j (omega (arith, l, m)) m)

pub not_stored : (xs : List Var) (ws t t' : List ℕ) (e : Stop) → e ≡ Memory → Stored xs ws t t' (Err e)
not_stored xs ws t t' e q = subst (λ z. Stored xs ws t t' (Err z)) (sym q) no_room

pub ruleset storing = (store_start, store_more, store_end, not_stored)

-- ---- words from the stack

pub unbound : (xs : List Var) (mark : ℕ) (t t' s : List ℕ) → Binds xs mark t t' s (Err Memory)
unfolding Binds
unbound xs mark t t' s G env n last rs below ws cs st u q p f = not_taken

pub bind_store : (xs : List Var) (mark : ℕ) (t t' s : List ℕ) (r : Answer) → Stored xs (drop mark s) t t' r → Binds xs mark t t' s r
unfolding Binds
bind_store xs mark t t' s _ (is_stored e q m) G env n last rs below ws cs st u k p f =
    let d : drop mark s ≡ ws = ap (λ z. drop z s) (sym p) ∙ ap (drop (length below)) k ∙ drop-append_seam below ws in
    let a : All_stand G env n last xs cs rs t (stored (map number xs) ws t) = all_stand xs cs ws (map sort_of xs) G env n last rs t st u refl f m in
    let v : stored (map number xs) ws t ≡ t' = ap (λ z. stored (map number xs) z t) (sym d) ∙ sym q in
    taken a.are_bound (subst (λ z. Stands (with_vars xs G) a.names last rs z) v a.stand) (λ x l. ap (λ z. slice_get z x) (sym v) ∙ a.keep x l)
bind_store xs mark t t' s _ no_room G env n last rs below ws cs st u k p f = not_taken

whole_tail : (mark : ℕ) (s : List ℕ) → take (length s - mark) (drop mark s) ≡ drop mark s
whole_tail mark s = take_all (length s - mark) (drop mark s) (omega (arith, length-drop mark s))

pub bind_tail : (xs : List Var) (mark : ℕ) (t t' s : List ℕ) (r : Answer) → Stored xs (take (length s - mark) (drop mark s)) t t' r → Binds xs mark t t' s r
bind_tail xs mark t t' s r h = bind_store xs mark t t' s r (subst (λ z. Stored xs z t t' r) (whole_tail mark s) h)

pub take_stop : (xs : List Var) (mark : ℕ) (t t' s s' : List ℕ) → Takes xs mark t t' s s' (Err Memory)
unfolding Takes
take_stop xs mark t t' s s' G env n last rs below ws cs st u q p f = (not_taken, not_done)

pub take_failed : (xs : List Var) (mark : ℕ) (t t' s s' : List ℕ) (e : Stop) → Binds xs mark t t' s (Err e) → Takes xs mark t t' s s' (Err e)
unfolding Binds Takes
take_failed xs mark t t' s s' e h G env n last rs below ws cs st u q p f = (h G env n last rs below ws cs st u q p f, not_done)

pub take_done : (xs : List Var) (mark : ℕ) (t t' s s' : List ℕ) → Binds xs mark t t' s (Ok tt) → s' ≡ take mark s → Takes xs mark t t' s s' (Ok tt)
unfolding Binds Takes
take_done xs mark t t' s s' h e G env n last rs below ws cs st u q p f =
    (h G env n last rs below ws cs st u q p f, done (e ∙ ap (λ z. take z s) (sym p) ∙ ap (take (length below)) q ∙ take-append_seam below ws))

pub ruleset binding = (unbound, bind_store, bind_tail, take_failed, take_done)

-- ---- the one word of a test

pub unpopped : (mark : ℕ) (s s' : List ℕ) → Pops mark s s' (Err Memory)
unfolding Pops
unpopped mark s s' rs below ws cs q p f = (no_truth, not_told)

last_one : (xs ys : List ℕ) (v w : ℕ) → xs ++ v ∷ [] ≡ ys ++ w ∷ [] → (xs ≡ ys) × (v ≡ w)
last_one [] [] v w e = (refl, cc)
last_one [] (y ∷ ys) v w e = let l : length (([]) ++ v ∷ []) ≡ length ((y ∷ ys) ++ w ∷ []) = ap length e in absurd (omega (arith, length-append ys (w ∷ [])))
last_one (x ∷ xs) [] v w e = let l : length ((x ∷ xs) ++ v ∷ []) ≡ length (([]) ++ w ∷ []) = ap length e in absurd (omega (arith, length-append xs (v ∷ [])))
last_one (x ∷ xs) (y ∷ ys) v w e =
    let h : xs ++ v ∷ [] ≡ ys ++ w ∷ [] = cc in
    let k : x ≡ y = cc in
    let r = last_one xs ys v w h in
    (ap (λ z. z ∷ xs) k ∙ ap (λ z. y ∷ z) r.0, r.1)

pub pop_one : (mark : ℕ) (s s' : List ℕ) (v : ℕ) (b : Bool) → s ≡ s' ++ v ∷ [] → b ≡ not (v == 0) → Pops mark s s' (Ok b)
unfolding Pops
pop_one mark s s' v b e h rs below _ _ q p (shown_and {c = c} {w = w} x none_shown) =
    let k = last_one s' below v w (sym e ∙ q) in
    (truth_told (truth_shown rs c w b x (h ∙ ap (λ z. not (z == 0)) k.1)), is_told k.0)

pub ruleset popping = (unpopped, pop_one)
