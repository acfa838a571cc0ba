-- The parts of a record in the order of its labels.
use Rattle.std.proofs.Common.{◌≡◌, ℕ, zero, suc, ◌+◌, ◌≤◌, ◌<◌, Bool, true, false, cond, nat_eq, List, [], ◌∷◌, ◌++◌, map, length, get_or, drop, Option, Some, None, refl, sym, ap, ◌∙◌, arith, add-one}
use Rattle.std.specs.Borrow.{Bor}
use Rattle.std.proofs.Math.Seq.{drop-cons}
use Rattle.fut_ast.specs.Sorts.{Text}
use Rattle.fut_flat.specs.Erased.{texts}
use Rattle.fut_types.specs.declared.Head.{Head}
use Rattle.fut_types.specs.declared.Head.TheVariants as head
use Rattle.fut_types.specs.Types.{Ty, Var, Made, Tys}
use Rattle.fut_typing.specs.Names.{Names}
use Rattle.sized_types.specs.Sizes.{Built, Sizes, no_size, size_and}
use Rattle.fut_sizes.specs.Operations.{in_order, labelled, many, record_of}
use Rattle.record_places.specs.Places.{written_at, written_places}
use Rattle.record_places.proofs.PlaceForms.{written_shift}
use Rattle.size_arena.specs.declared.trees.SizeTree.{SizeTree}
use Rattle.size_arena.specs.declared.types.TypeTree.{TypeTree}
use Rattle.size_arena.specs.declared.types.TypeTree.TheVariants as type
use Rattle.size_arena.specs.Trees.{size_of, sizes, sizes_of, type_of, tys_of}
use Rattle.size_arena.proofs.Forms.{type_made, type_var}
use Rattle.size_arena.proofs.Parts.{before, before_more, before_none, drop_past}
use Rattle.size_operations.specs.Records.{at_place, chosen, record_number}
use Rattle.size_operations.proofs.ArrayForms.{many_is}

-- ---- by their places or by their labels

at_written : (N : Names) (l : ℕ) (fs : List Text) (ts rest : Sizes) → length fs ≡ many ts → at_place (written_at N fs 0 l) ts rest ≡ labelled N l fs ts rest
at_written N l [] no_size rest e = refl
at_written N l [] (size_and t ts) rest e = absurd (omega (arith, e))
at_written N l (f ∷ fs) no_size rest e = absurd (omega (arith, e))
at_written N l (f ∷ fs) (size_and t ts) rest e = by_test (at_written N l fs ts rest (omega (arith, e))) (nat_eq (N.label f) l)
  where
    by_test : at_place (written_at N fs 0 l) ts rest ≡ labelled N l fs ts rest → (b : Bool) → at_place (cond b 0 (written_at N fs 1 l)) (size_and t ts) rest ≡ cond b (size_and t rest) (labelled N l fs ts rest)
    by_test behind true = refl
    by_test behind false = ap (λ z. at_place z (size_and t ts) rest) (written_shift N fs 0 l) ∙ behind

chosen_is : (N : Names) (ls : List ℕ) (fs : List Text) (ts : Sizes) → length fs ≡ many ts → chosen ts (map (written_at N fs 0) ls) ≡ in_order N ls fs ts
chosen_is N [] fs ts e = refl
chosen_is N (l ∷ ls) fs ts e = at_written N l fs ts (chosen ts (map (written_at N fs 0) ls)) e ∙ ap (labelled N l fs ts) (chosen_is N ls fs ts e)

record_is : (N : Names) (fs : List Text) (t : Ty) (ts : Sizes) (n : ℕ) → Some n ≡ record_number t → Built (head.Record n) (in_order N (N.shapes.fields n) fs ts) ≡ record_of N fs t ts
record_is N fs (Var v) ts n e = cc
record_is N fs (Made (head.Record m) us) ts n e = ap (λ k. Built (head.Record k) (in_order N (N.shapes.fields k) fs ts)) (some_same n m e)
  where
    some_same : (i j : ℕ) → Some i ≡ Some j → i ≡ j
    some_same i j q = cc
record_is N fs (Made (head.Scalar s) us) ts n e = cc
record_is N fs (Made head.Array us) ts n e = cc
record_is N fs (Made head.Tuple us) ts n e = cc
record_is N fs (Made head.Fun us) ts n e = cc
record_is N fs (Made (head.Rigid m k) us) ts n e = cc
record_is N fs (Made (head.Abstract m d) us) ts n e = cc

record_not : (N : Names) (fs : List Text) (t : Ty) (ts : Sizes) → None ≡ record_number t → Built head.Tuple ts ≡ record_of N fs t ts
record_not N fs (Var v) ts e = refl
record_not N fs (Made (head.Record m) us) ts e = cc
record_not N fs (Made (head.Scalar s) us) ts e = refl
record_not N fs (Made head.Array us) ts e = refl
record_not N fs (Made head.Tuple us) ts e = refl
record_not N fs (Made head.Fun us) ts e = refl
record_not N fs (Made (head.Rigid m k) us) ts e = refl
record_not N fs (Made (head.Abstract m d) us) ts e = refl

module _ (N : Names) (fs : List (Bor Text)) (ss : List SizeTree) (t u : Ty) (same : t ≡ u) (o : Option ℕ) (h : o ≡ record_number t) where
  pub recorded : (n : ℕ) (places : List ℕ) (parts : List SizeTree) → o ≡ Some n → length fs ≡ length ss → places ≡ written_places N n (texts fs) 0 → sizes_of parts ≡ chosen (sizes_of ss) places → record_of N (texts fs) u (sizes_of ss) ≡ Built (head.Record n) (sizes_of parts)
  recorded n places parts is l p c = sym (ap (Built (head.Record n)) (c ∙ ap (chosen (sizes_of ss)) p ∙ chosen_is N (N.shapes.fields n) (texts fs) (sizes_of ss) (texts_long fs ∙ l ∙ sym (many_is ss)))
      ∙ record_is N (texts fs) t (sizes_of ss) n (sym is ∙ h) ∙ ap (λ z. record_of N (texts fs) z (sizes_of ss)) same)
    where
      texts_long : (gs : List (Bor Text)) → length (texts gs) ≡ length gs
      texts_long [] = refl
      texts_long (g ∷ gs) = ap suc (texts_long gs)

  pub recorded_not : o ≡ None → record_of N (texts fs) u (sizes_of ss) ≡ Built head.Tuple (sizes_of ss)
  recorded_not is = sym (record_not N (texts fs) t (sizes_of ss) (sym is ∙ h) ∙ ap (λ z. record_of N (texts fs) z (sizes_of ss)) same)

-- ---- the parts that are chosen, one after another

at_here : (ss : List SizeTree) (p : ℕ) (s : SizeTree) (rest : Sizes) → p < length ss → at_place p (sizes_of ss) rest ≡ size_and (size_of (get_or ss p s)) rest
unfolding sizes_of sizes
at_here [] p s rest l = absurd (omega (arith, l))
at_here (x ∷ ss) zero s rest l = refl
at_here (x ∷ ss) (suc p) s rest l = at_here ss p s rest (omega (arith, l))

at_past : (ss : List SizeTree) (p : ℕ) (rest : Sizes) → length ss ≤ p → at_place p (sizes_of ss) rest ≡ rest
unfolding sizes_of sizes
at_past [] p rest l = refl
at_past (x ∷ ss) zero rest l = absurd (omega (arith, l))
at_past (x ∷ ss) (suc p) rest l = at_past ss p rest (omega (arith, l))

module _ (ss : List SizeTree) (ps : List ℕ) (i : ℕ) (made : List SizeTree) (h : chosen (sizes_of ss) ps ≡ before made (chosen (sizes_of ss) (drop i ps))) where
  one_more : (d : ℕ) → i < length ps → chosen (sizes_of ss) ps ≡ before made (at_place (get_or ps i d) (sizes_of ss) (chosen (sizes_of ss) (drop (i + 1) ps)))
  one_more d l = h ∙ ap (λ z. before made (chosen (sizes_of ss) z)) (drop-cons ps i d l ∙ ap (λ j. get_or ps i d ∷ drop j ps) (sym (add-one i)))

  pub chosen_more : (d : ℕ) (s : SizeTree) (longer : List SizeTree) → i < length ps → get_or ps i d < length ss → longer ≡ made ++ get_or ss (get_or ps i d) s ∷ [] → chosen (sizes_of ss) ps ≡ before longer (chosen (sizes_of ss) (drop (i + 1) ps))
  chosen_more d s longer l k e = one_more d l ∙ ap (before made) (at_here ss (get_or ps i d) s (chosen (sizes_of ss) (drop (i + 1) ps)) k)
      ∙ sym (before_more made (get_or ss (get_or ps i d) s) (chosen (sizes_of ss) (drop (i + 1) ps))) ∙ ap (λ z. before z (chosen (sizes_of ss) (drop (i + 1) ps))) (sym e)

  pub chosen_same : (d : ℕ) → i < length ps → length ss ≤ get_or ps i d → chosen (sizes_of ss) ps ≡ before made (chosen (sizes_of ss) (drop (i + 1) ps))
  chosen_same d l k = one_more d l ∙ ap (before made) (at_past ss (get_or ps i d) (chosen (sizes_of ss) (drop (i + 1) ps)) k)

  pub chosen_end : length ps ≤ i → sizes_of made ≡ chosen (sizes_of ss) ps
  chosen_end l = sym (h ∙ ap (λ z. before made (chosen (sizes_of ss) z)) (drop_past ps i l) ∙ before_none made)

pub ruleset choosing = (chosen_more, chosen_same, chosen_end)

-- ---- the number of a record

module _ (ty : TypeTree) (o : Option ℕ) where
  pub number_made : (height : ℕ) (h : Head) (ts : Bor (List TypeTree)) → ty ≡ type.Made height h ts → ((us : Tys) → o ≡ record_number (Made h us)) → o ≡ record_number (type_of ty)
  number_made height h ts i n = n (tys_of ts.now) ∙ ap record_number (sym (ap type_of i ∙ type_made height h ts))

  pub number_var : (v : ℕ) → ty ≡ type.Var v → o ≡ None → o ≡ record_number (type_of ty)
  number_var v i n = n ∙ ap record_number (sym (ap type_of i ∙ type_var v))

pub ruleset numbers_of = (number_var)
