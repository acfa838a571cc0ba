-- Each way to put parts together keeps that one relation covers another.
use Rattle.std.proofs.Common.{◌≡◌, ℕ, zero, suc, ◌+◌, ◌≤◌, ◌++◌, List, [], ◌∷◌, Bool, true, false, refl, sym, ap, ◌∙◌, subst, arith, length}
use Rattle.std.proofs.lemmas.List.{length-append}
use Rattle.fut_scalar.specs.declared.report.Report.{Report}
use Rattle.fut_meaning.specs.Outcomes.{Out, Val, Fail, Wrong, Rel, Exactly, exact, the, Then, goes_on, stops, sticks, Both, both, stops_left, stops_right, sticks_left, sticks_right, choose, each_of, turns, while_turns, Tree, element, neutral, node, elements, neutrals, tree_gives, IsTight, Bracket, bracket}
use Rattle.fut_meaning.specs.Jobs.{all_of, Is_one_of, Some_of, some_of}
use mathlib.Core.Logic.{inl, inr}
use Rattle.fut_meaning.specs.Sames.{All_same, all_none, all_more, Same_out, same_value, same_report, same_wrong}
use Rattle.steps_simulate.specs.Covers.{Covered, covered, Covers}
use Rattle.steps_simulate.proofs.Alike.{Alike, alike_value}

the_goes : {A A' : Type 0} {r : A → A' → Type 0} {o : Out A} {o' : Out A'} {n k : ℕ} → n ≤ k → Same_out r o o' → (p : Out A) (g : ℕ) → Exactly n o p g → Covered r (Exactly k o') p g
the_goes {o' = o'} {k = k} le s _ _ exact = covered o' k exact le s

pub covers_exact : {A A' : Type 0} {r : A → A' → Type 0} {o : Out A} {o' : Out A'} {n : ℕ} → Same_out r o o' → Covers r (Exactly n o) (Exactly n o')
covers_exact s = record { each = the_goes (omega arith) s }

-- an outcome that counts less
pub covers_more_words : {A A' : Type 0} {r : A → A' → Type 0} {o : Out A} {o' : Out A'} {n k : ℕ} → n ≤ k → Same_out r o o' → Covers r (Exactly n o) (Exactly k o')
covers_more_words le s = record { each = the_goes le s }

module _ {A A' B B' : Type 0} {r : A → A' → Type 0} {q : B → B' → Type 0} {m : Rel A} {m' : Rel A'} {k : A → Rel B} {k' : A' → Rel B'} where
  then_goes : ((o : Out A) (g : ℕ) → m o g → Covered r m' o g) → ((a : A) (a' : A') → r a a' → (o : Out B) (g : ℕ) → k a o g → Covered q (k' a') o g) → (o : Out B) (g : ℕ) → Then m k o g → Covered q (Then m' k') o g
  then_goes h l _ _ (goes_on {a = a} {o = o} {f = e} {g} x y) = value_case (h (Val a) e x)
    where
      rest_case : (a' : A') (f : ℕ) → m' (Val a') f → e ≤ f → Covered q (k' a') o g → Covered q (Then m' k') o (e + g)
      rest_case a' f z le (covered o' f' w le' s) = covered o' (f + f') (goes_on z w) (omega (arith, le, le')) s

      value_case : Covered r m' (Val a) e → Covered q (Then m' k') o (e + g)
      value_case (covered _ f z le (same_value {a' = a'} s)) = rest_case a' f z le (l a a' s o g y)
  then_goes h l _ _ (stops {r = w} {f = e} x) = stop_case (h (Fail w) e x)
    where
      stop_case : Covered r m' (Fail w) e → Covered q (Then m' k') (Fail w) e
      stop_case (covered _ f z le same_report) = covered (Fail w) f (stops z) le same_report
  then_goes h l _ _ (sticks {f = e} x) = stuck_case (h Wrong e x)
    where
      stuck_case : Covered r m' Wrong e → Covered q (Then m' k') Wrong e
      stuck_case (covered _ f z le same_wrong) = covered Wrong f (sticks z) le same_wrong

pub covers_then : {A A' B B' : Type 0} {r : A → A' → Type 0} {q : B → B' → Type 0} {m : Rel A} {m' : Rel A'} {k : A → Rel B} {k' : A' → Rel B'} → Covers r m m' → ((a : A) (a' : A') → r a a' → Covers q (k a) (k' a')) → Covers q (Then m k) (Then m' k')
covers_then h l = record { each = then_goes h.each (λ a a' s. (l a a' s).each) }

module _ {A A' B B' C C' : Type 0} {r : A → A' → Type 0} {q : B → B' → Type 0} {p : C → C' → Type 0} {m : Rel A} {m' : Rel A'} {n : Rel B} {n' : Rel B'} {k : A → B → Rel C} {k' : A' → B' → Rel C'} where
  both_goes : ((o : Out A) (g : ℕ) → m o g → Covered r m' o g) → ((o : Out B) (g : ℕ) → n o g → Covered q n' o g) → ((a : A) (a' : A') (b : B) (b' : B') → r a a' → q b b' → (o : Out C) (g : ℕ) → k a b o g → Covered p (k' a' b') o g) → (o : Out C) (g : ℕ) → Both m n k o g → Covered p (Both m' n' k') o g
  both_goes h i l _ _ (both {a = a} {b = b} {o = o} {f = e} {g = f} {h = g} x y z) = left_case (h (Val a) e x)
    where
      rest_case : (a' : A') (b' : B') (j c : ℕ) → m' (Val a') j → n' (Val b') c → e ≤ j → f ≤ c → Covered p (k' a' b') o g → Covered p (Both m' n' k') o (e + f + g)
      rest_case a' b' j c u v le le' (covered o' f' w le'' s) = covered o' (j + c + f') (both u v w) (omega (arith, le, le', le'')) s

      right_case : (a' : A') (j : ℕ) → m' (Val a') j → e ≤ j → r a a' → Covered q n' (Val b) f → Covered p (Both m' n' k') o (e + f + g)
      right_case a' j u le s (covered _ c v le' (same_value {a' = b'} t)) = rest_case a' b' j c u v le le' (l a a' b b' s t o g z)

      left_case : Covered r m' (Val a) e → Covered p (Both m' n' k') o (e + f + g)
      left_case (covered _ j u le (same_value {a' = a'} s)) = right_case a' j u le s (i (Val b) f y)
  both_goes h i l _ _ (stops_left {r = w} {f = e} x) = stop_case (h (Fail w) e x)
    where
      stop_case : Covered r m' (Fail w) e → Covered p (Both m' n' k') (Fail w) e
      stop_case (covered _ f z le same_report) = covered (Fail w) f (stops_left z) le same_report
  both_goes h i l _ _ (stops_right {r = w} {f = e} x) = stop_case (i (Fail w) e x)
    where
      stop_case : Covered q n' (Fail w) e → Covered p (Both m' n' k') (Fail w) e
      stop_case (covered _ f z le same_report) = covered (Fail w) f (stops_right z) le same_report
  both_goes h i l _ _ (sticks_left {f = e} x) = stuck_case (h Wrong e x)
    where
      stuck_case : Covered r m' Wrong e → Covered p (Both m' n' k') Wrong e
      stuck_case (covered _ f z le same_wrong) = covered Wrong f (sticks_left z) le same_wrong
  both_goes h i l _ _ (sticks_right {f = e} x) = stuck_case (i Wrong e x)
    where
      stuck_case : Covered q n' Wrong e → Covered p (Both m' n' k') Wrong e
      stuck_case (covered _ f z le same_wrong) = covered Wrong f (sticks_right z) le same_wrong

pub covers_choose : {A A' : Type 0} {r : A → A' → Type 0} (x x' : Bool) → x ≡ x' → {m n : Rel A} {m' n' : Rel A'} → Covers r m m' → Covers r n n' → Covers r (choose x m n) (choose x' m' n')
covers_choose true true e h i = h
covers_choose false false e h i = i
covers_choose true false e h i = absurd (let z : true ≡ false = e in cc)
covers_choose false true e h i = absurd (let z : false ≡ true = e in cc)

pub covers_each : {A A' B B' : Type 0} {r : A → A' → Type 0} {q : B → B' → Type 0} {g : A → Rel B} {g' : A' → Rel B'} {xs : List A} {xs' : List A'} → ((a : A) (a' : A') → r a a' → Covers q (g a) (g' a')) → All_same r xs xs' → Covers (All_same q) (each_of g xs) (each_of g' xs')
covers_each h all_none = covers_exact (same_value all_none)
covers_each h (all_more {x} {x'} s t) = covers_then (h x x' s) (λ y y' w. covers_then (covers_each h t) (λ ys ys' ws. covers_exact (same_value (all_more w ws))))

pub covers_turns : {A A' B B' : Type 0} {r : A → A' → Type 0} {q : B → B' → Type 0} {g : A → B → Rel B} {g' : A' → B' → Rel B'} {xs : List A} {xs' : List A'} → ((a : A) (a' : A') (b : B) (b' : B') → r a a' → q b b' → Covers q (g a b) (g' a' b')) → All_same r xs xs' → (b : B) (b' : B') → q b b' → Covers q (turns g xs b) (turns g' xs' b')
covers_turns h all_none b b' w = covers_exact (same_value w)
covers_turns h (all_more {x} {x'} s t) b b' w = covers_then (h x x' b b' s w) (λ c c' u. covers_turns h t c c' u)

pub covers_while : {B B' : Type 0} {q : B → B' → Type 0} (budget : ℕ) (k : Report) {test : B → Rel Bool} {test' : B' → Rel Bool} {body : B → Rel B} {body' : B' → Rel B'} → ((b : B) (b' : B') → q b b' → Covers ◌≡◌ (test b) (test' b')) → ((b : B) (b' : B') → q b b' → Covers q (body b) (body' b')) → (b : B) (b' : B') → q b b' → Covers q (while_turns budget k test body b) (while_turns budget k test' body' b')
covers_while zero k ht hb b b' w = covers_then (ht b b' w) (λ x x' e. covers_choose x x' e (covers_exact same_report) (covers_exact (same_value w)))
covers_while (suc budget) k ht hb b b' w =
    covers_then (ht b b' w) (λ x x' e. covers_choose x x' e (covers_then (hb b b' w) (λ c c' u. covers_while budget k ht hb c c' u)) (covers_exact (same_value w)))

-- ---- trees

-- trees of one form
pub data Tree_same {A A' : Type 0} (r : A → A' → Type 0) : Tree A → Tree A' → Type 0 where
  same_element : {a : A} {a' : A'} → r a a' → Tree_same r (element a) (element a')
  same_neutral : Tree_same r neutral neutral
  same_node : {s t : Tree A} {s' t' : Tree A'} → Tree_same r s s' → Tree_same r t t' → Tree_same r (node s t) (node s' t')

neutrals_same : {A A' : Type 0} {r : A → A' → Type 0} {t : Tree A} {t' : Tree A'} → Tree_same r t t' → neutrals t ≡ neutrals t'
neutrals_same (same_element s) = refl
neutrals_same same_neutral = refl
neutrals_same (same_node {s} {t} {s'} {t'} p q) = ap (λ z. z + neutrals t) (neutrals_same p) ∙ ap (λ z. neutrals s' + z) (neutrals_same q)

count_same : {A A' : Type 0} {r : A → A' → Type 0} {t : Tree A} {t' : Tree A'} → Tree_same r t t' → length (elements t) ≡ length (elements t')
count_same (same_element s) = refl
count_same same_neutral = refl
count_same (same_node {s} {t} {s'} {t'} p q) = length-append (elements s) (elements t) ∙ ap (λ z. z + length (elements t)) (count_same p) ∙ ap (λ z. length (elements s') + z) (count_same q) ∙ sym (length-append (elements s') (elements t'))

tight_same : {A A' : Type 0} {r : A → A' → Type 0} (tight : Bool) {t : Tree A} {t' : Tree A'} → Tree_same r t t' → IsTight tight t → IsTight tight t'
tight_same false p h = tt
tight_same true p h = omega (arith, h, neutrals_same p, count_same p)

pub record Has_tree {A A' : Type 0} (r : A → A' → Type 0) (t : Tree A) (xs' : List A') : Type 0 where
  pub tree : Tree A'
  pub same : Tree_same r t tree
  pub are : elements tree ≡ xs'

record Parts {A A' : Type 0} (r : A → A' → Type 0) (xs ys : List A) (zs : List A') : Type 0 where
  first : List A'
  second : List A'
  are : first ++ second ≡ zs
  left : All_same r xs first
  right : All_same r ys second

parted : {A A' : Type 0} {r : A → A' → Type 0} (xs ys : List A) {zs : List A'} → All_same r (xs ++ ys) zs → Parts r xs ys zs
parted [] ys {zs} a = record { first = []; second = zs; are = refl; left = all_none; right = a }
parted (x ∷ xs) ys (all_more {x' = z} h a) = let p = parted xs ys a in record { first = z ∷ p.first; second = p.second; are = ap (λ w. z ∷ w) p.are; left = all_more h p.left; right = p.right }

single : {A A' : Type 0} {r : A → A' → Type 0} {a : A} {xs' : List A'} → All_same r (a ∷ []) xs' → Has_tree r (element a) xs'
single (all_more {x' = b} h all_none) = record { tree = element b; same = same_element h; are = refl }

none : {A A' : Type 0} {r : A → A' → Type 0} {xs' : List A'} → All_same r [] xs' → Has_tree r neutral xs'
none all_none = record { tree = neutral; same = same_neutral; are = refl }

pub related_tree : {A A' : Type 0} {r : A → A' → Type 0} (t : Tree A) {xs' : List A'} → All_same r (elements t) xs' → Has_tree r t xs'
related_tree (element a) h = single h
related_tree neutral h = none h
related_tree (node s t) h =
    let p = parted (elements s) (elements t) h in
    let a = related_tree s p.left in
    let b = related_tree t p.right in
    record { tree = node a.tree b.tree; same = same_node a.same b.same; are = ap (λ z. z ++ elements b.tree) a.are ∙ ap (λ z. p.first ++ z) b.are ∙ p.are }

module _ {A A' : Type 0} (r : A → A' → Type 0) (op : A → A → Rel A) (op' : A' → A' → Rel A') (ne : A) (ne' : A') (n : r ne ne') (h : (a : A) (a' : A') (b : A) (b' : A') → r a a' → r b b' → (o : Out A) (g : ℕ) → op a b o g → Covered r (op' a' b') o g) where
  tree_goes : {t : Tree A} {t' : Tree A'} → Tree_same r t t' → (o : Out A) (g : ℕ) → tree_gives op ne t o g → Covered r (tree_gives op' ne' t') o g
  tree_goes (same_element {a} s) _ _ exact = covered (Val _) 0 exact (omega arith) (same_value s)
  tree_goes same_neutral _ _ exact = covered (Val ne') 0 exact (omega arith) (same_value n)
  tree_goes (same_node p q) o g x = both_goes (tree_goes p) (tree_goes q) h o g x

  bracketed : (tight : Bool) (xs' : List A') (t' : Tree A') → elements t' ≡ xs' → IsTight tight t' → (o : Out A) (g : ℕ) → Covered r (tree_gives op' ne' t') o g → Covered r (Bracket tight op' ne' xs') o g
  bracketed tight xs' t' q k o g (covered o' f' y le w) = covered o' f' (bracket t' q k y) le w

  found : (tight : Bool) (t : Tree A) {xs' : List A'} → Has_tree r t xs' → IsTight tight t → (o : Out A) (g : ℕ) → tree_gives op ne t o g → Covered r (Bracket tight op' ne' xs') o g
  found tight t {xs'} b k o g x = bracketed tight xs' b.tree b.are (tight_same tight b.same k) o g (tree_goes b.same o g x)

  bracket_goes : (tight : Bool) {xs : List A} {xs' : List A'} → All_same r xs xs' → (o : Out A) (g : ℕ) → Bracket tight op ne xs o g → Covered r (Bracket tight op' ne' xs') o g
  bracket_goes tight {xs' = xs'} a _ _ (bracket {o} {f} t e k x) = found tight t (related_tree t (subst (λ z. All_same r z xs') (sym e) a)) k o f x

pub covers_bracket : {A A' : Type 0} {r : A → A' → Type 0} {op : A → A → Rel A} {op' : A' → A' → Rel A'} {ne : A} {ne' : A'} {xs : List A} {xs' : List A'} (tight : Bool) → r ne ne' → ((a : A) (a' : A') (b : A) (b' : A') → r a a' → r b b' → Covers r (op a b) (op' a' b')) → All_same r xs xs' → Covers r (Bracket tight op ne xs) (Bracket tight op' ne' xs')
covers_bracket {r = r} {op} {op'} {ne} {ne'} tight n h a = record { each = bracket_goes r op op' ne ne' n (λ a a' b b' s t. (h a a' b b' s t).each) tight a }

-- ---- relations that allow the same

pub covers_left : {A A' : Type 0} {r : A → A' → Type 0} {m n : Rel A} {m' : Rel A'} → Alike m n → Covers r m m' → Covers r n m'
covers_left a s = record { each = λ o g x. s.each o g (a.from o g x) }

moved : {A A' : Type 0} {r : A → A' → Type 0} {m' n' : Rel A'} {o : Out A} {g : ℕ} → Alike m' n' → Covered r m' o g → Covered r n' o g
moved a (covered o' f x le s) = covered o' f (a.to o' f x) le s

pub covers_right : {A A' : Type 0} {r : A → A' → Type 0} {m : Rel A} {m' n' : Rel A'} → Alike m' n' → Covers r m m' → Covers r m n'
covers_right a s = record { each = λ o g x. moved a (s.each o g x) }

module _ {A A' : Type 0} {r q : A → A' → Type 0} (more : (a : A) (a' : A') → r a a' → q a a') where
  more_same : {o : Out A} {o' : Out A'} → Same_out r o o' → Same_out q o o'
  more_same (same_value {a} {a'} s) = same_value (more a a' s)
  more_same same_report = same_report
  more_same same_wrong = same_wrong

  more_covered : {m' : Rel A'} {o : Out A} {g : ℕ} → Covered r m' o g → Covered q m' o g
  more_covered (covered o' f x le s) = covered o' f x le (more_same s)

  pub covers_also : {m : Rel A} {m' : Rel A'} → Covers r m m' → Covers q m m'
  covers_also s = record { each = λ o g x. more_covered (s.each o g x) }

pub covers_known_left : {A B B' : Type 0} {q : B → B' → Type 0} (o : Out A) (a : A) (k : A → Rel B) (m' : Rel B') → o ≡ Val a → Covers q (k a) m' → Covers q (Then (the o) k) m'
covers_known_left {q = q} o a k m' e s = subst (λ z. Covers q (Then (the z) k) m') (sym e) (covers_left (record { to = (alike_value a k).from; from = (alike_value a k).to }) s)

pub covers_known_right : {A' B B' : Type 0} {q : B → B' → Type 0} (o : Out A') (a : A') (k : A' → Rel B') (m : Rel B) → o ≡ Val a → Covers q m (k a) → Covers q m (Then (the o) k)
covers_known_right {q = q} o a k m e s = subst (λ z. Covers q m (Then (the z) k)) (sym e) (covers_right (record { to = (alike_value a k).from; from = (alike_value a k).to }) s)

-- ---- parts in any order, and a choice

pub covers_all : {A A' B B' : Type 0} {r : A → A' → Type 0} {q : B → B' → Type 0} {g : A → Rel B} {g' : A' → Rel B'} {xs : List A} {xs' : List A'} → ((a : A) (a' : A') → r a a' → Covers q (g a) (g' a')) → All_same r xs xs' → Covers (All_same q) (all_of g xs) (all_of g' xs')
covers_all h all_none = covers_exact (same_value all_none)
covers_all h (all_more {x} {x'} s t) = record { each = both_goes (h x x' s).each (covers_all h t).each (λ y y' ys ys' w ws. (covers_exact (same_value (all_more w ws))).each) }

data Chosen_like {A A' : Type 0} (r : A → A' → Type 0) (a : A) (xs' : List A') : Type 0 where
  chosen_like : (a' : A') → Is_one_of xs' a' → r a a' → Chosen_like r a xs'

one_more : {A A' : Type 0} {r : A → A' → Type 0} {a : A} {x' : A'} {xs' : List A'} → Chosen_like r a xs' → Chosen_like r a (x' ∷ xs')
one_more (chosen_like a' i s) = chosen_like a' (inr i) s

like_one : {A A' : Type 0} {r : A → A' → Type 0} {xs : List A} {xs' : List A'} (a : A) → All_same r xs xs' → Is_one_of xs a → Chosen_like r a xs'
like_one a all_none i = absurd i
like_one {r = r} a (all_more {x} {x'} s t) (inl e) = chosen_like x' (inl refl) (subst (λ z. r z x') e s)
like_one a (all_more s t) (inr i) = one_more (like_one a t i)

some_goes : {A A' : Type 0} {r : A → A' → Type 0} {xs : List A} {xs' : List A'} → All_same r xs xs' → (o : Out A) (g : ℕ) → Some_of xs o g → Covered r (Some_of xs') o g
some_goes {r = r} {xs' = xs'} t _ _ (some_of {x} i) = on (like_one x t i)
  where
    on : Chosen_like r x xs' → Covered r (Some_of xs') (Val x) 0
    on (chosen_like a' j s) = covered (Val a') 0 (some_of j) (omega arith) (same_value s)

-- one of some elements
pub covers_some : {A A' : Type 0} {r : A → A' → Type 0} {xs : List A} {xs' : List A'} → All_same r xs xs' → Covers r (Some_of xs) (Some_of xs')
covers_some t = record { each = some_goes t }

-- ---- behind a report, and behind what goes wrong

pub covers_report : {A A' B B' : Type 0} {q : B → B' → Type 0} (w : Report) (k : A → Rel B) (k' : A' → Rel B') → Covers q (Then (the (Fail w)) k) (Then (the (Fail w)) k')
covers_report w k k' = covers_then {r = λ a a'. ⊥} (covers_exact same_report) (λ a a' x. absurd x)

pub covers_wrong : {A A' B B' : Type 0} {q : B → B' → Type 0} (k : A → Rel B) (k' : A' → Rel B') → Covers q (Then (the Wrong) k) (Then (the Wrong) k')
covers_wrong k k' = covers_then {r = λ a a'. ⊥} (covers_exact same_wrong) (λ a a' x. absurd x)

report_goes : {A' B B' : Type 0} {q : B → B' → Type 0} (w : Report) (k' : A' → Rel B') (o : Out B) (g : ℕ) → Exactly 0 (Fail w) o g → Covered q (Then (the (Fail w)) k') o g
report_goes w k' _ _ exact = covered (Fail w) 0 (stops exact) (omega arith) same_report

pub report_covers : {A' B B' : Type 0} {q : B → B' → Type 0} (w : Report) (k' : A' → Rel B') → Covers q (the (Fail w)) (Then (the (Fail w)) k')
report_covers w k' = record { each = report_goes w k' }

wrong_goes : {A' B B' : Type 0} {q : B → B' → Type 0} (k' : A' → Rel B') (o : Out B) (g : ℕ) → Exactly 0 Wrong o g → Covered q (Then (the Wrong) k') o g
wrong_goes k' _ _ exact = covered Wrong 0 (sticks exact) (omega arith) same_wrong

pub wrong_covers : {A' B B' : Type 0} {q : B → B' → Type 0} (k' : A' → Rel B') → Covers q (the Wrong) (Then (the Wrong) k')
wrong_covers k' = record { each = wrong_goes k' }
