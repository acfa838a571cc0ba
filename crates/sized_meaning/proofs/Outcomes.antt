-- What is allowed has a property: each way to put parts together keeps it.
use Rattle.std.proofs.Common.{◌≡◌, ℕ, refl, subst}
use Rattle.fut_scalar.specs.declared.report.Report.{Report}
use Rattle.fut_meaning.specs.Outcomes.{Out, Val, Fail, Wrong, Rel, Exactly, exact, Then, goes_on, stops, sticks, Both, both, stops_left, stops_right, sticks_left, sticks_right}
use Rattle.sized_meaning.specs.Fits.{Out_fits, Gives}

pub gives_exact : (quiet : Report → Type 0) {A : Type 0} (P : A → Type 0) (n : ℕ) (o : Out A) → Out_fits quiet P o → Gives quiet P (Exactly n o)
gives_exact quiet P n o h _ _ exact = h

module _ {quiet : Report → Type 0} {A B : Type 0} (P : A → Type 0) (Q : B → Type 0) (m : Rel A) (k : A → Rel B) (h : Gives quiet P m) (l : (a : A) → P a → Gives quiet Q (k a)) where
  pub gives_then : Gives quiet Q (Then m k)
  gives_then _ _ (goes_on {a} {o} {f} {g} x y) = l a (h (Val a) f x) o g y
  gives_then _ _ (stops {r} {f} x) = h (Fail r) f x
  gives_then _ _ (sticks {f} x) = tt

pub gives_both : {quiet : Report → Type 0} {A B C : Type 0} (P : A → Type 0) (Q : B → Type 0) (R : C → Type 0) (m : Rel A) (m' : Rel B) (k : A → B → Rel C) → Gives quiet P m → Gives quiet Q m' → ((a : A) (b : B) → P a → Q b → Gives quiet R (k a b)) → Gives quiet R (Both m m' k)
gives_both P Q R m m' k first second go _ _ (both {a} {b} {o} {f} {g} {h} x y z) = go a b (first (Val a) f x) (second (Val b) g y) o h z
gives_both P Q R m m' k h g go _ _ (stops_left {r} {f} x) = h (Fail r) f x
gives_both P Q R m m' k h g go _ _ (stops_right {r} {f} x) = g (Fail r) f x
gives_both P Q R m m' k h g go _ _ (sticks_left x) = tt
gives_both P Q R m m' k h g go _ _ (sticks_right x) = tt

-- a property that holds of what is given in each of many ways, where each report is quiet
out_all : (quiet : Report → Type 0) {A X : Type 0} (P : X → A → Type 0) (o : Out A) → Out_fits quiet (λ a. Unit {0}) o → ((x : X) → Out_fits quiet (P x) o) → Out_fits quiet (λ a. (x : X) → P x a) o
out_all quiet P (Val a) q h = λ y. h y
out_all quiet P (Fail r) q h = q
out_all quiet P Wrong q h = tt

pub gives_all : {quiet : Report → Type 0} {A X : Type 0} (P : X → A → Type 0) (m : Rel A) → Gives quiet (λ a. Unit {0}) m → ((x : X) → Gives quiet (P x) m) → Gives quiet (λ a. (x : X) → P x a) m
gives_all {quiet = quiet} P m q h o f y = out_all quiet P o (q o f y) (λ z. h z o f y)

-- and where a report is quiet in each of them
out_each : (quiet : Report → Type 0) {A X : Type 0} (P : X → A → Type 0) (o : Out A) → ((x : X) → Out_fits quiet (P x) o) → Out_fits (λ r. X → quiet r) (λ a. (x : X) → P x a) o
out_each quiet P (Val a) h = λ y. h y
out_each quiet P (Fail r) h = λ y. h y
out_each quiet P Wrong h = tt

pub gives_each_way : {quiet : Report → Type 0} {A X : Type 0} (P : X → A → Type 0) (m : Rel A) → ((x : X) → Gives quiet (P x) m) → Gives (λ r. X → quiet r) (λ a. (x : X) → P x a) m
gives_each_way {quiet = quiet} P m h o f y = out_each quiet P o (λ z. h z o f y)

-- one that is quiet in another way
pub out_quiet : (quiet other : Report → Type 0) {A : Type 0} (P Q : A → Type 0) (o : Out A) → ((r : Report) → quiet r → other r) → ((a : A) → P a → Q a) → Out_fits quiet P o → Out_fits other Q o
out_quiet quiet other P Q (Val a) turn go h = go a h
out_quiet quiet other P Q (Fail r) turn go h = turn r h
out_quiet quiet other P Q Wrong turn go h = tt

pub gives_quiet : {quiet other : Report → Type 0} {A : Type 0} (P Q : A → Type 0) (m : Rel A) → ((r : Report) → quiet r → other r) → Gives quiet P m → ((a : A) → P a → Q a) → Gives other Q m
gives_quiet {quiet = quiet} {other = other} P Q m turn h go o f x = out_quiet quiet other P Q o turn go (h o f x)

-- what is shown of an outcome by what it is
pub out_of : (quiet : Report → Type 0) {A : Type 0} (P : A → Type 0) (o : Out A) → Out_fits quiet (λ a. Unit {0}) o → ((a : A) → o ≡ Val a → P a) → Out_fits quiet P o
out_of quiet P (Val a) q go = go a refl
out_of quiet P (Fail r) q go = q
out_of quiet P Wrong q go = tt

out_more : (quiet : Report → Type 0) {A : Type 0} (P Q : A → Type 0) (o : Out A) → Out_fits quiet P o → ((a : A) → o ≡ Val a → Q a) → Out_fits quiet (λ a. P a × Q a) o
out_more quiet P Q (Val a) h go = (h, go a refl)
out_more quiet P Q (Fail r) h go = h
out_more quiet P Q Wrong h go = tt

pub gives_more : {quiet : Report → Type 0} {A : Type 0} (P Q : A → Type 0) (m : Rel A) → Gives quiet P m → ((a : A) (f : ℕ) → m (Val a) f → Q a) → Gives quiet (λ a. P a × Q a) m
gives_more {quiet = quiet} P Q m h go o f x = out_more quiet P Q o (h o f x) (λ a e. go a f (subst (λ z. m z f) e x))

pub is_exactly : {A : Type 0} (n : ℕ) (o o' : Out A) (f : ℕ) → Exactly n o o' f → o ≡ o'
is_exactly n o _ _ exact = refl
