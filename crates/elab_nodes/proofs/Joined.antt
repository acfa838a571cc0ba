-- What is made of two answers, or of more.
use Rattle.std.proofs.Common.{◌≡◌, sym, ◌∙◌, ap, subst, Result, Ok, Err, IfOk, IfErr}
use Rattle.elab_scopes.specs.declared.refusal.Stop.{Stop}
use Rattle.elab_scopes.specs.declared.refusal.Stop.TheVariants as stop
use Rattle.elab_nodes.specs.Built.{Built0, built0, no_memory0, Built1, built1, no_memory1, Built2, built2, first_of_two, second_of_two, no_memory2, Built3, built3, first_of_three, second_of_three, third_of_three, no_memory3, Built4, built4, first_of_four, second_of_four, third_of_four, fourth_of_four, no_memory4}

pub ended : {A : Type 0} {P : A → Type 0} (r : Result A Stop) → IfOk r P → IfErr r (λ e. e ≡ stop.Memory) → Built0 P r
ended (Ok x) p m = built0 p
ended {P = P} (Err e) p m = subst (λ f. Built0 P (Err f)) (sym m) no_memory0

pub given : {A E : Type 0} {P : A → E → Type 0} {a : A} {r : Result E Stop} → Built1 P (Ok a) r → Built0 (P a) r
given (built1 p) = built0 p
given no_memory1 = no_memory0

pub built0_as : {E : Type 0} {S T : E → Type 0} {r : Result E Stop} → ((z : E) → S z → T z) → Built0 S r → Built0 T r
built0_as k (built0 s) = built0 (k _ s)
built0_as k no_memory0 = no_memory0

pub one_then : {A E : Type 0} {S : E → Type 0} {T : A → E → Type 0} {a : A} {r : Result E Stop} → ((z : E) → S z → T a z) → Built0 S r → Built1 T (Ok a) r
one_then k (built0 s) = built1 (k _ s)
one_then k no_memory0 = no_memory1

-- two parts as a pair
abbrev pub Paired : {A B : Type 0} → Result A Stop → Result B Stop → Result (A × B) Stop → Type 0
Paired a b c = Built2 (λ x y z. z ≡ (x, y)) a b c

module _ {A B E : Type 0} {T : A → B → E → Type 0} where
  pub two_then : {S : E → Type 0} {a : Result A Stop} {b : Result B Stop} {p : A × B} {r : Result E Stop} → Paired a b (Ok p) → ((z : E) → S z → T p.0 p.1 z) → Built0 S r → Built2 T a b r
  two_then (built2 is) k (built0 {c = z} s) = built2 (subst (λ (w : A × B). T w.0 w.1 z) is (k z s))
  two_then (built2 is) k no_memory0 = no_memory2

  pub two_stop : {a : Result A Stop} {b : Result B Stop} {e : Stop} → Paired a b (Err e) → Built2 T a b (Err e)
  two_stop first_of_two = first_of_two
  two_stop second_of_two = second_of_two
  two_stop no_memory2 = no_memory2

-- a part, and two as a pair
module _ {A B C E : Type 0} {T : A → B → C → E → Type 0} where
  pub three_then : {S : E → Type 0} {a : Result A Stop} {b : Result B Stop} {c : Result C Stop} {d : Result (B × C) Stop} {p : A × (B × C)} {r : Result E Stop}
      → Paired a d (Ok p) → Paired b c d → ((z : E) → S z → T p.0 p.1.0 p.1.1 z) → Built0 S r → Built3 T a b c r
  three_then (built2 {a = x} is) (built2 js) k (built0 {c = z} s) = built3 (subst (λ (w : A × (B × C)). T w.0 w.1.0 w.1.1 z) (is ∙ ap (λ q. (x, q)) js) (k z s))
  three_then is js k no_memory0 = no_memory3

  pub three_stop : {a : Result A Stop} {b : Result B Stop} {c : Result C Stop} {d : Result (B × C) Stop} {e : Stop} → Paired a d (Err e) → Paired b c d → Built3 T a b c (Err e)
  three_stop first_of_two js = first_of_three
  three_stop second_of_two first_of_two = second_of_three
  three_stop second_of_two second_of_two = third_of_three
  three_stop second_of_two no_memory2 = no_memory3
  three_stop no_memory2 js = no_memory3

-- a part, and then two
pub and_two : {A B C D : Type 0} {T : A → B → C → D → Type 0} {x : A} {b : Result B Stop} {c : Result C Stop} {r : Result D Stop} → Built2 (T x) b c r → Built3 T (Ok x) b c r
and_two (built2 t) = built3 t
and_two first_of_two = second_of_three
and_two second_of_two = third_of_three
and_two no_memory2 = no_memory3

-- two pairs
module _ {A B C D E : Type 0} {T : A → B → C → D → E → Type 0} where
  pub four_then : {a : Result A Stop} {b : Result B Stop} {c : Result C Stop} {d : Result D Stop} {p : A × B} {q : C × D} {r : Result E Stop}
      → Paired a b (Ok p) → Paired c d (Ok q) → Built0 (T p.0 p.1 q.0 q.1) r → Built4 T a b c d r
  four_then {q = q} (built2 {a = x} {b = y} is) (built2 js) (built0 {c = z} t) = built4 (subst (λ (w : C × D). T x y w.0 w.1 z) js (subst (λ (w : A × B). T w.0 w.1 q.0 q.1 z) is t))
  four_then (built2 is) (built2 js) no_memory0 = no_memory4

  pub first_pair_stop : {a : Result A Stop} {b : Result B Stop} {c : Result C Stop} {d : Result D Stop} {e : Stop} → Paired a b (Err e) → Built4 T a b c d (Err e)
  first_pair_stop first_of_two = first_of_four
  first_pair_stop second_of_two = second_of_four
  first_pair_stop no_memory2 = no_memory4

  pub second_pair_stop : {a : Result A Stop} {b : Result B Stop} {c : Result C Stop} {d : Result D Stop} {p : A × B} {e : Stop} → Paired a b (Ok p) → Paired c d (Err e) → Built4 T a b c d (Err e)
  second_pair_stop (built2 is) first_of_two = third_of_four
  second_pair_stop (built2 is) second_of_two = fourth_of_four
  second_pair_stop (built2 is) no_memory2 = no_memory4
