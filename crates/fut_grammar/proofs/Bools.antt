-- Lemmas on "and", "or" and "not" of Booleans.
use Rattle.std.proofs.Common.{◌≡◌, Bool, true, false, ◌||◌, ◌&&◌, not, refl}

pub and_left : (a b : Bool) → (a && b) ≡ true → a ≡ true
and_left true b e = refl
and_left false b e = absurd cc

pub and_right : (a b : Bool) → (a && b) ≡ true → b ≡ true
and_right true b e = e
and_right false b e = absurd cc

pub and_drop : (a b : Bool) → (a && b) ≡ false → a ≡ true → b ≡ false
and_drop true b e f = e
and_drop false b e f = absurd cc

pub and_false_left : (a b : Bool) → a ≡ false → (a && b) ≡ false
and_false_left true b e = absurd cc
and_false_left false b e = refl

pub and_false_right : (a b : Bool) → b ≡ false → (a && b) ≡ false
and_false_right true b e = e
and_false_right false b e = refl

pub or_left : (a b : Bool) → a ≡ true → (a || b) ≡ true
or_left true b e = refl
or_left false b e = absurd cc

pub or_right : (a b : Bool) → b ≡ true → (a || b) ≡ true
or_right true b e = refl
or_right false b e = e

pub or_false_left : (a b : Bool) → (a || b) ≡ false → a ≡ false
or_false_left true b e = absurd cc
or_false_left false b e = refl

pub or_false_right : (a b : Bool) → (a || b) ≡ false → b ≡ false
or_false_right true b e = absurd cc
or_false_right false b e = e

pub or_cases : {C : Type 0} (a b : Bool) → (a || b) ≡ true → (a ≡ true → C) → (b ≡ true → C) → C
or_cases true b e k l = k refl
or_cases false b e k l = l e

pub drop_left : (a b : Bool) → (a || b) ≡ true → a ≡ false → b ≡ true
drop_left true b e f = absurd cc
drop_left false b e f = e

pub drop_right : (a b : Bool) → (a || b) ≡ true → b ≡ false → a ≡ true
drop_right true b e f = refl
drop_right false b e f = absurd cc

pub not_true : (b : Bool) → not b ≡ true → b ≡ false
not_true true e = absurd cc
not_true false e = refl
