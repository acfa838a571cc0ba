-- The parts of a tuple are named by their positions, written as numbers.
use Rattle.std.proofs.Common.{◌≡◌, ◌≢◌, cond, ℕ, zero, suc, ◌+◌, ◌*◌, ◌-◌, ◌≤◌, ◌<◌, refl, sym, ap, ◌∙◌, subst, arith, List, [], ◌∷◌, Option, Some, None, Bool}
use Rattle.std.specs.Prelude.{decimal}
use Rattle.std.specs.Int.{IsInRange}
use Rattle.std.specs.Str.Parse.{digits_value}
use Rattle.std.proofs.lemmas.Str.Parse.{IsDigitsTest, FoldsDigits, IsNumeralModel, numerals_by_fold}
use Rattle.std.proofs.lemmas.Fmt.{decimal-digits_value, decimal_is_IsNumeral}
use Rattle.std.specs.Str.{bytes_eq}
use Rattle.fut_ast.specs.Sorts.{Text}
use Rattle.fut_types.specs.declared.Head.TheVariants as head
use Rattle.fut_types.specs.Types.{Ty, Made, Tys, none, more}
use Rattle.fut_types.specs.Shapes.{place, part_at, part_named, HasPart}
use Rattle.fut_typing.specs.Names.{Names, AreNames, Digits, Spells, count}
use Rattle.fut_meaning.specs.Found.{Told}
use Rattle.fut_meaning.specs.Values.{no_value, value_and}
use Rattle.fut_meaning.specs.Accessors.{or_wrong, part_from}
use Rattle.fut_meaning.specs.Claims.{HasOut}
use Rattle.fut_meaning.specs.Flats.{FlatTops, FlatMode}
use Rattle.type_soundness.specs.Fits.{FlatValues, Fits, All_fit, widest}
use Rattle.type_soundness.proofs.Ordering.{eq_here, eq_other}

Are_digits : List ℕ → Type 0
Are_digits [] = Unit {0}
Are_digits (c ∷ cs) = IsInRange 48 57 c × Are_digits cs

value_after : ℕ → List ℕ → ℕ
value_after n [] = n
value_after n (c ∷ cs) = value_after (n * 10 + (c - 48)) cs

are_test : IsDigitsTest Are_digits
unfolding Are_digits
are_test = record { empty = tt; parts = λ c cs h. h; more = λ c cs h k. (h, k) }

are_folds : FoldsDigits value_after
unfolding value_after
are_folds = record { empty = λ n. refl; more = λ n c cs h. refl }

model : IsNumeralModel Are_digits (value_after 0)
model = numerals_by_fold Are_digits are_test value_after are_folds

digits_are : (before : ℕ) (cs : List ℕ) (n : ℕ) → Digits before cs n → Are_digits cs × (value_after before cs ≡ n)
unfolding Are_digits value_after
digits_are before [] n h = (tt, h)
digits_are before (c ∷ cs) n h =
    let le : h.0 ≤ 9 = h.1 in
    let e : c ≡ 48 + h.0 = h.2 in
    let r = digits_are (10 * before + h.0) cs n h.3 in
    ((((omega arith), (omega arith)), r.0), ap (λ m. value_after m cs) (let z : before * 10 + (c - 48) ≡ 10 * before + h.0 = omega arith in z) ∙ r.1)

pub spelled : (s : Text) (n : ℕ) → Spells s n → n < widest → decimal n ≡ s
unfolding Are_digits
spelled [] n h lt = absurd h
spelled (c ∷ []) n h lt = let r = digits_are 0 (c ∷ []) n h in
    ap decimal (sym r.1) ∙ decimal-digits_value model (c ∷ []) r.0 (omega arith) (λ e. refl) (subst (λ m. m < widest) (sym r.1) lt)
spelled (c ∷ d ∷ cs) n h lt = let r = digits_are 0 (c ∷ d ∷ cs) n h.1 in
    ap decimal (sym r.1) ∙ decimal-digits_value model (c ∷ d ∷ cs) r.0 (omega arith) (λ e. absurd (h.0 e)) (subst (λ m. m < widest) (sym r.1) lt)

pub one_number : (m n : ℕ) → m < widest → n < widest → decimal m ≡ decimal n → m ≡ n
one_number m n p q e = sym (decimal_is_IsNumeral m p).1 ∙ ap (digits_value 10) e ∙ (decimal_is_IsNumeral n q).1

pub part_low : (ts : Tys) (i : ℕ) (u : Ty) → part_at (Some i) ts ≡ Some u → i < count ts
unfolding part_at
part_low none i u e = absurd (let z : None ≡ Some u = e in cc)
part_low (more t ts) zero u e = omega arith
part_low (more t ts) (suc i) u e = let r = part_low ts i u e in omega arith

-- a name that is no number names no part of a tuple
pub no_number : (N : Names) → AreNames N → (f : Text) (t : Ty) (ts : Tys) → ((n : ℕ) → Spells f n → ⊥) → part_at (N.shapes.position (N.label f)) ts ≡ Some t → ⊥
unfolding part_at
no_number N are f t ts lacks h = known (N.shapes.position (N.label f)) refl h
  where
    known : (o : Option ℕ) → N.shapes.position (N.label f) ≡ o → part_at o ts ≡ Some t → ⊥
    known None is e = let z : None ≡ Some t = e in cc
    known (Some i) is e = lacks i ((are.position f i).0 is)

module _ (N : Names) (T : Told) (M : FlatMode) (budget : ℕ) (total : Bool) (tops : FlatTops) where
  part_found : (ts : Tys) (vs : FlatValues) (i k : ℕ) (f : Text) (u : Ty) → part_at (Some i) ts ≡ Some u → All_fit N T M budget total ts tops vs → decimal (k + i) ≡ f → k + count ts ≤ widest → HasOut (Fits N T M budget total u tops) (or_wrong (part_from k f vs))
  unfolding All_fit part_at
  part_found none vs i k f u e h d le = absurd (let z : None ≡ Some u = e in cc)
  part_found (more t ts) no_value i k f u e h d le = absurd h
  part_found (more t ts) (value_and v vs) zero k f u e h d le =
      let same : t ≡ u = cc in
      let here : decimal k ≡ f = ap decimal (let w : k ≡ k + 0 = omega arith in w) ∙ d in
      subst (λ b. HasOut (Fits N T M budget total u tops) (or_wrong (cond b (Some v) (part_from (suc k) f vs)))) (sym (ap (λ g. bytes_eq g f) here ∙ eq_here f)) (subst (λ x. Fits N T M budget total x tops v) same h.0)
  part_found (more t ts) (value_and v vs) (suc i) k f u e h d le =
      let some : i < count ts = part_low ts i u e in
      let z : k + (1 + count ts) ≤ widest = le in
      let ne : decimal k ≢ f = λ same. let q : k ≡ k + suc i = one_number k (k + suc i) (omega arith) (omega arith) (same ∙ sym d) in omega arith in
      subst (λ b. HasOut (Fits N T M budget total u tops) (or_wrong (cond b (Some v) (part_from (suc k) f vs)))) (sym (eq_other (decimal k) f ne))
      (part_found ts vs i (suc k) f u e h.1 (ap decimal (let w : suc k + i ≡ k + suc i = omega arith in w) ∙ d) (omega arith))

  -- the part of a tuple that a label names
  pub part_fits : AreNames N → (f : Text) (ts : Tys) (u : Ty) (vs : FlatValues) → HasPart N.shapes (N.label f) (Made head.Tuple ts) u → count ts < widest → All_fit N T M budget total ts tops vs → HasOut (Fits N T M budget total u tops) (or_wrong (part_from 0 f vs))
  unfolding part_named place part_at
  part_fits are f ts u vs h lt k = known (N.shapes.position (N.label f)) refl h
    where
      known : (o : Option ℕ) → N.shapes.position (N.label f) ≡ o → part_at o ts ≡ Some u → HasOut (Fits N T M budget total u tops) (or_wrong (part_from 0 f vs))
      known None is e = absurd (let z : None ≡ Some u = e in cc)
      known (Some i) is e = let some : i < count ts = part_low ts i u e in part_found ts vs i 0 f u e k (ap decimal (let w : 0 + i ≡ i = omega arith in w) ∙ spelled f i ((are.position f i).0 is) (omega arith)) (omega arith)
