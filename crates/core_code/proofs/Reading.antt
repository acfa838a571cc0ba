-- Words of operands.
use Rattle.std.proofs.Common.{◌≡◌, ℕ, zero, suc, ◌+◌, ◌<◌, ◌≤◌, ◌^◌, List, [], ◌∷◌, ◌++◌, map, length, get_or, drop, slice_get, Some, None, Ok, Err, Result, Bool, true, false, not, refl, sym, ap, ◌∙◌, subst, arith, add-one, append_assoc}
use Rattle.std.specs.Prelude.{◌==◌}
use Rattle.std.proofs.Math.Nat.{mod-lt}
use Rattle.std.proofs.lemmas.Nat.{pow_pos}
use Rattle.std.proofs.Math.Seq.{drop-cons}
use Rattle.std.proofs.lemmas.List.{append-nil}
use Rattle.std.proofs.lemmas.Option.{slice_get-get_or}
use Rattle.fut_scalar.specs.Integers.{integer_of, width_of, FitsType}
use Rattle.fut_scalar.specs.declared.report.Report.{Report}
use Rattle.fut_scalar.specs.declared.scalar.IntType.{IntType}
use Rattle.fut_scalar.specs.declared.scalar.Scalar.{Scalar}
use Rattle.fut_scalar.specs.declared.scalar.Scalar.TheVariants as scalar
use Rattle.fut_scalar.specs.declared.scalar.ScalarType.{ScalarType}
use Rattle.fut_scalar.specs.declared.scalar.ScalarType.TheVariants as sort
use Rattle.fut_arithmetic.specs.Types.{type_of, IsOf}
use Rattle.fut_arithmetic.specs.Words.{word_of}
use Rattle.fut_meaning.specs.Accessors.{or_wrong, truth_of_scalar, turns_of_scalar, count_of}
use Rattle.fut_meaning.specs.Outcomes.{Out, Val, Fail, Wrong, and_then}
use Rattle.fut_meaning.specs.Sames.{All_same, all_none, all_more}
use Rattle.fut_blocks.specs.Meaning.{fitted, look}
use Rattle.core_arrays.specs.Arenas.{Array}
use Rattle.core_ir.specs.declared.block.Var.{Var}
use Rattle.core_ir.specs.declared.block.Atom.{Atom}
use Rattle.core_ir.specs.declared.block.Atom.TheVariants as atom
use Rattle.core_ir.specs.Arrays.{scalar_in}
use Rattle.core_ir.specs.Bundles.{Component, One, Row}
use Rattle.core_ir.specs.Meaning.{Env, value_of, values_of, scalar_at, truth_at}
use Rattle.core_ir.specs.Typed.{Sort, Sorts, sort_of, scalar_sort, truth_sort, Atom_is, Atoms_are}
use Rattle.core_code.specs.Registers.{elem_of, ShowsScalar, Shows, AllShow, none_shown, shown_and, Named, Stands}
use Rattle.core_code.specs.Answers.{Read, read, no_memory_read, Reads, ReadAll, read_all, no_memory_read_all, Reads_all, TruthTold, truth_told, no_truth, Truth_reads, TurnsTold, turns_told, no_turns, Turns_read, Pushed, pushed, not_pushed}
use Rattle.core_code.specs.declared.stop.Stop.{Stop}
use Rattle.core_code.specs.declared.stop.Stop.TheVariants.{Memory}

-- ---- one operand

some_same : {A : Type 0} (o : _) (a b : A) → o ≡ Some a → o ≡ Some b → a ≡ b
some_same o a b e f = let h : Some a ≡ Some b = sym e ∙ f in cc

pub read_var : (t : List ℕ) (u : Atom) (x : Var) (w d : ℕ) → u ≡ atom.Var x → x.number < length t → w ≡ get_or t x.number d → Reads t u (Ok w)
unfolding Reads
read_var t u x w d q l f G env n rs s st k =
    let e : slice_get t x.number ≡ Some w = slice_get-get_or t x.number d l ∙ ap Some (sym f) in
    let h : Atom_is G (atom.Var x) s = subst (λ z. Atom_is G z s) q k in
    let p : Named env n rs t x.number s = st.each x.number s h.0 in
    subst (λ z. Read (value_of env z) rs s (Ok w)) (sym q)
    (read (ap or_wrong p.named) (subst (Shows rs s p.value) (some_same (slice_get t x.number) p.word w p.there e) p.shows))

fitted_is : (c : Scalar) → IsOf (type_of c) (fitted c)
fitted_is (scalar.Int t n) = (refl, mod-lt n (pow_pos (width_of t)))
fitted_is (scalar.Bool b) = (refl, tt)

pub read_constant : (t : List ℕ) (u : Atom) (c : Scalar) (w : ℕ) → u ≡ atom.Constant c → w ≡ word_of (fitted c) → Reads t u (Ok w)
unfolding Reads
read_constant t u c w q e G env n rs s st k =
    let h : scalar_sort (type_of c) ≡ s = subst (λ z. Atom_is G z s) q k in
    let z : ShowsScalar (type_of c) (One (fitted c)) w = record { scalar = fitted c; is = refl; typed = fitted_is c; word = e } in
    subst (λ y. Read (value_of env y) rs s (Ok w)) (sym q) (read refl (subst (λ y. Shows rs y (One (fitted c)) w) h z))

pub unread : (t : List ℕ) (u : Atom) → Reads t u (Err Memory)
unfolding Reads
unread t u G env n rs s st k = no_memory_read

pub ruleset readings = (read_var, read_constant, unread)

pub elem_is : (G : Sorts) (u : Atom) (s : Sort) → Atom_is G u s → elem_of u ≡ s.0
elem_is G (atom.Var x) s h = ap (λ (z : Sort). z.0) h.1
elem_is G (atom.Constant c) s h = ap (λ (z : Sort). z.0) h

-- ---- several operands

pub data Half (G : Sorts) (env : Env) (rs : List Array) (us rest : List Atom) (ss : List Sort) (stack stack' : List ℕ) : Type 0 where
  half : (before after : List Sort) (cs : Row) (ws : List ℕ) → ss ≡ before ++ after → AllShow rs before cs ws → Atoms_are G rest after → stack' ≡ stack ++ ws → values_of env us ≡ and_then (values_of env rest) (λ ds. Val (cs ++ ds)) → Half G env rs us rest ss stack stack'

unfoldable pub Half_read : List ℕ → List Atom → ℕ → List ℕ → List ℕ → Type 0
Half_read t us i stack stack' = (G : Sorts) (env : Env) (n : ℕ) (rs : List Array) (ss : List Sort) → Stands G env n rs t → Atoms_are G us ss → Half G env rs us (drop i us) ss stack stack'

nothing_before : (o : Out Row) → o ≡ and_then o (λ ds. Val ([] ++ ds))
nothing_before (Val cs) = refl
nothing_before (Fail r) = refl
nothing_before Wrong = refl

pub half_start : (t : List ℕ) (us : List Atom) (stack : List ℕ) → Half_read t us 0 stack stack
unfolding Half_read
half_start t us stack G env n rs ss st a = half [] ss [] [] refl none_shown a (sym (append-nil stack)) (nothing_before (values_of env us))

one_more : (o : Out Component) (p : Out Row) (c : Component) (cs : Row) → o ≡ Val c → and_then (and_then o (λ c. and_then p (λ ds. Val (c ∷ ds)))) (λ ds. Val (cs ++ ds)) ≡ and_then p (λ ds. Val ((cs ++ c ∷ []) ++ ds))
one_more o p c cs e = ap (λ z. and_then (and_then z (λ c. and_then p (λ ds. Val (c ∷ ds)))) (λ ds. Val (cs ++ ds))) e ∙ rest p
  where
    rest : (p : Out Row) → and_then (and_then p (λ ds. Val (c ∷ ds))) (λ ds. Val (cs ++ ds)) ≡ and_then p (λ ds. Val ((cs ++ c ∷ []) ++ ds))
    rest (Val ds) = ap Val (sym (append_assoc cs (c ∷ []) ds))
    rest (Fail r) = refl
    rest Wrong = refl

pub show_append : (rs : List Array) (ss : List Sort) (cs : Row) (ws : List ℕ) (rr : List Sort) (ds : Row) (vs : List ℕ) → AllShow rs ss cs ws → AllShow rs rr ds vs → AllShow rs (ss ++ rr) (cs ++ ds) (ws ++ vs)
show_append rs _ _ _ rr ds vs none_shown k = k
show_append rs _ _ _ rr ds vs (shown_and {ss = ss} {cs = cs} {ws = ws} h hs) k = shown_and h (show_append rs ss cs ws rr ds vs hs k)

module _ (t : List ℕ) (us : List Atom) (i : ℕ) (d : Atom) (s0 s1 : List ℕ) (l : i < length us) (h : Half_read t us i s0 s1) where
  pub half_stop : Reads_all t us s0 s1 (Err Memory)
  unfolding Reads_all
  half_stop G env n rs ss st a = no_memory_read_all

  pub half_more : (w : ℕ) (s2 : List ℕ) → Reads t (get_or us i d) (Ok w) → Pushed w s1 s2 (Ok tt) → Half_read t us (i + 1) s0 s2
  unfolding Half_read Reads
  half_more w s2 k (pushed p) G env n rs ss st a = subst (λ z. Half G env rs us (drop z us) ss s0 s2) (sym (add-one i)) (by_half (h G env n rs ss st a))
    where
      next : drop i us ≡ get_or us i d ∷ drop (suc i) us
      next = drop-cons us i d l

      by_read : (before after : List Sort) (s : Sort) (cs : Row) (ws : List ℕ) → ss ≡ before ++ s ∷ after → AllShow rs before cs ws → Atoms_are G (drop (suc i) us) after → s1 ≡ s0 ++ ws → values_of env us ≡ and_then (values_of env (get_or us i d ∷ drop (suc i) us)) (λ ds. Val (cs ++ ds)) → Read (value_of env (get_or us i d)) rs s (Ok w) → Half G env rs us (drop (suc i) us) ss s0 s2
      by_read before after s cs ws q sh b e v (read {c} r x) =
          half (before ++ s ∷ []) after (cs ++ c ∷ []) (ws ++ w ∷ []) (q ∙ sym (append_assoc before (s ∷ []) after)) (show_append rs before cs ws (s ∷ []) (c ∷ []) (w ∷ []) sh (shown_and x none_shown)) b
          (p ∙ ap (λ z. z ++ w ∷ []) e ∙ append_assoc s0 ws (w ∷ [])) (v ∙ one_more (value_of env (get_or us i d)) (values_of env (drop (suc i) us)) c cs r)

      by_sorts : (before after : List Sort) (cs : Row) (ws : List ℕ) → ss ≡ before ++ after → AllShow rs before cs ws → Atoms_are G (get_or us i d ∷ drop (suc i) us) after → s1 ≡ s0 ++ ws → values_of env us ≡ and_then (values_of env (get_or us i d ∷ drop (suc i) us)) (λ ds. Val (cs ++ ds)) → Half G env rs us (drop (suc i) us) ss s0 s2
      by_sorts before _ cs ws q sh (all_more {x' = s} {xs' = after} x b) e v = by_read before after s cs ws q sh b e v (k G env n rs s st x)

      by_half : Half G env rs us (drop i us) ss s0 s1 → Half G env rs us (drop (suc i) us) ss s0 s2
      by_half (half before after cs ws q sh b e v) =
          by_sorts before after cs ws q sh (subst (λ z. Atoms_are G z after) next b) e (v ∙ ap (λ z. and_then (values_of env z) (λ ds. Val (cs ++ ds))) next)

drop_past : {A : Type 0} (xs : List A) (n : ℕ) → length xs ≤ n → drop n xs ≡ []
drop_past [] zero l = refl
drop_past [] (suc n) l = refl
drop_past (x ∷ xs) zero l = absurd (omega arith)
drop_past (x ∷ xs) (suc n) l = drop_past xs n (omega arith)

pub half_end : (t : List ℕ) (us : List Atom) (i : ℕ) (s0 s1 : List ℕ) → length us ≤ i → Half_read t us i s0 s1 → Reads_all t us s0 s1 (Ok tt)
unfolding Half_read Reads_all
half_end t us i s0 s1 l h G env n rs ss st a = by_half (h G env n rs ss st a)
  where
    by_none : (before after : List Sort) (cs : Row) (ws : List ℕ) → ss ≡ before ++ after → AllShow rs before cs ws → Atoms_are G [] after → s1 ≡ s0 ++ ws → values_of env us ≡ Val (cs ++ []) → ReadAll (values_of env us) rs ss s0 s1 (Ok tt)
    by_none before _ cs ws q sh all_none e v = read_all (v ∙ ap Val (append-nil cs)) (subst (λ z. AllShow rs z cs ws) (sym (q ∙ append-nil before)) sh) e

    by_half : Half G env rs us (drop i us) ss s0 s1 → ReadAll (values_of env us) rs ss s0 s1 (Ok tt)
    by_half (half before after cs ws q sh b e v) =
        by_none before after cs ws q sh (subst (λ z. Atoms_are G z after) (drop_past us i l) b) e (v ∙ ap (λ z. and_then (values_of env z) (λ ds. Val (cs ++ ds))) (drop_past us i l))

pub unread_all : (t : List ℕ) (us : List Atom) (s0 s1 : List ℕ) (e : Stop) → e ≡ Memory → Reads_all t us s0 s1 (Err e)
unfolding Reads_all
unread_all t us s0 s1 e q G env n rs ss st a = subst (λ z. ReadAll (values_of env us) rs ss s0 s1 (Err z)) (sym q) no_memory_read_all

pub push_done : (w : ℕ) (s s' : List ℕ) → s' ≡ s ++ w ∷ [] → Pushed w s s' (Ok tt)
push_done w s s' e = pushed e

pub push_full : (w : ℕ) (s s' : List ℕ) → Pushed w s s' (Err Memory)
push_full w s s' = not_pushed

pub ruleset pushes = (push_done, push_full)

pub ruleset lists = (half_start, unread_all, half_more, half_end)

-- ---- what a word says

truth_word : (c : Component) (w : ℕ) (b : Bool) → ShowsScalar sort.Bool c w → b ≡ not (w == 0) → and_then (scalar_in c) truth_of_scalar ≡ Val b
truth_word c w b h e = ap (λ z. and_then (scalar_in z) truth_of_scalar) h.is ∙ by_scalar h.scalar h.typed h.word
  where
    by_scalar : (s : Scalar) → IsOf sort.Bool s → w ≡ word_of s → truth_of_scalar s ≡ Val b
    by_scalar (scalar.Bool true) i q = ap Val (sym (e ∙ ap (λ z. not (z == 0)) q))
    by_scalar (scalar.Bool false) i q = ap Val (sym (e ∙ ap (λ z. not (z == 0)) q))
    by_scalar (scalar.Int t n) i q = let z : sort.Int t ≡ sort.Bool = i.0 in cc

pub truth_shown : (rs : List Array) (c : Component) (w : ℕ) (b : Bool) → Shows rs truth_sort c w → b ≡ not (w == 0) → and_then (scalar_in c) truth_of_scalar ≡ Val b
truth_shown rs c w b h e = truth_word c w b h e

pub truth_read : (t : List ℕ) (u : Atom) (w : ℕ) (b : Bool) → Reads t u (Ok w) → b ≡ not (w == 0) → Truth_reads t u (Ok b)
unfolding Reads Truth_reads
truth_read t u w b h e G env n rs st k = by_read (h G env n rs truth_sort st k)
  where
    by_read : Read (value_of env u) rs truth_sort (Ok w) → TruthTold (truth_at env u) (Ok b)
    by_read (read {c} q x) = truth_told (ap (λ z. and_then (and_then z scalar_in) truth_of_scalar) q ∙ truth_word c w b x e)

pub truth_unread : (t : List ℕ) (u : Atom) (e : Stop) → e ≡ Memory → Truth_reads t u (Err e)
unfolding Truth_reads
truth_unread t u e q G env n rs st k = subst (λ z. TruthTold (truth_at env u) (Err z)) (sym q) no_truth

pub ruleset truths = (truth_read, truth_unread)

turns_word : (t : IntType) (c : Component) (w k : ℕ) → ShowsScalar (sort.Int t) c w → k ≡ count_of (integer_of t w) → and_then (scalar_in c) turns_of_scalar ≡ Val (t, k)
turns_word t c w k h e = ap (λ z. and_then (scalar_in z) turns_of_scalar) h.is ∙ by_scalar h.scalar h.typed h.word
  where
    by_scalar : (s : Scalar) → IsOf (sort.Int t) s → w ≡ word_of s → turns_of_scalar s ≡ Val (t, k)
    by_scalar (scalar.Int u n) i q =
        let z : u ≡ t = let y : sort.Int u ≡ sort.Int t = i.0 in cc in
        ap (λ z. Val (z, count_of (integer_of z n))) z ∙ ap (λ z. Val (t, count_of (integer_of t z))) (sym q) ∙ ap (λ z. Val (t, z)) (sym e)
    by_scalar (scalar.Bool b) i q = let z : sort.Bool ≡ sort.Int t = i.0 in cc

pub turns_are_read : (t : List ℕ) (ty : IntType) (u : Atom) (w k : ℕ) → Reads t u (Ok w) → k ≡ count_of (integer_of ty w) → k < 2 ^ width_of ty → Turns_read t ty u (Ok k)
unfolding Reads Turns_read
turns_are_read t ty u w k h e l G env n rs st q = by_read (h G env n rs (sort.Int ty, 0) st q)
  where
    by_read : Read (value_of env u) rs (sort.Int ty, 0) (Ok w) → TurnsTold ty (and_then (scalar_at env u) turns_of_scalar) (Ok k)
    by_read (read {c} q x) = turns_told (ap (λ z. and_then (and_then z scalar_in) turns_of_scalar) q ∙ turns_word ty c w k x e) l

pub turns_unread : (t : List ℕ) (ty : IntType) (u : Atom) (e : Stop) → e ≡ Memory → Turns_read t ty u (Err e)
unfolding Turns_read
turns_unread t ty u e q G env n rs st k = subst (λ z. TurnsTold ty (and_then (scalar_at env u) turns_of_scalar) (Err z)) (sym q) no_turns

pub ruleset turns = (turns_are_read, turns_unread)
