-- New arrays without a function.
use Rattle.std.proofs.Common.{◌≡◌, ℕ, zero, suc, ◌+◌, ◌-◌, ◌*◌, ◌<◌, ◌≤◌, ◌^◌, min, List, [], ◌∷◌, ◌++◌, map, length, slice_get, Bor, Ok, Err, false, nat_le, refl, sym, ap, ◌∙◌, subst, arith, add-one}
use Rattle.std.proofs.Math.Nat.{mod-eq_of_lt}
use Rattle.fut_scalar.specs.declared.place.Place.{Place}
use Rattle.fut_scalar.specs.declared.report.FailKind.TheVariants as kind
use Rattle.fut_scalar.specs.declared.scalar.IntType.TheVariants.{I64}
use Rattle.fut_scalar.specs.declared.scalar.ScalarType.TheVariants as sort
use Rattle.fut_arithmetic.specs.Words.{scalar_of_word}
use Rattle.fut_value.specs.Leaves.{extent}
use Rattle.fut_meaning.specs.Arrays.{checked, most_words}
use Rattle.fut_meaning.specs.Meaning.{counts}
use Rattle.fut_meaning.specs.Operations.{report}
use Rattle.fut_meaning.specs.Outcomes.{Out, Val, Fail, Wrong, and_then, exact, gives, the, Then, goes_on, stops}
use Rattle.fut_meaning.specs.Sames.{all_none, all_more}
use Rattle.core_arrays.specs.Arenas.{Array, Arena, array, with_array}
use Rattle.core_ir.specs.declared.block.Atom.{Atom}
use Rattle.core_ir.specs.declared.block.Making.{Making}
use Rattle.core_ir.specs.declared.block.Making.TheVariants as make
use Rattle.core_ir.specs.Arrays.{sized_by, flat, numbers_below, i64, all_told, replicated, done, fresh_words}
use Rattle.core_ir.specs.Bundles.{Component, Many, Row, weight_of, within_weight, glued, array_words}
use Rattle.core_ir.specs.Meaning.{Env, value_of, values_of, groups_of, collected, act_means}
use Rattle.core_ir.specs.Plain.{Action, Do, Iota, Empty, Literal, Replicate, Copy, group, making_form}
use Rattle.core_ir.specs.Typed.{Sort, lifted, Groups_are, and_more, Deed_gives, iota_gives, empty_gives, literal_gives, replicate_gives, copy_gives, deed_gives}
use Rattle.core_code.specs.Registers.{State, ShowsArray, AllShow, none_shown, shown_and}
use Rattle.core_code.specs.Answers.{Answer, ReadAll, read_all, no_memory_read_all, Reads_all, Pushed, pushed, Runs, ran, failed, no_memory}
use Rattle.core_code.specs.Answers as answer
use Rattle.core_code.specs.Runs.{act_runs, Act_runs}
use Rattle.core_code.specs.declared.stop.Stop.{Stop}
use Rattle.core_code.specs.declared.stop.Stop.TheVariants.{Failed, Memory}
use Rattle.core_code.proofs.Frames.{the_is}
use Rattle.core_steps.specs.Deeds.{Iota_told, Literal_told}
use Rattle.core_steps.specs.Empties.{None_told}
use Rattle.core_steps.specs.Repeating.{Replicate_told}
use Rattle.core_steps.specs.Gluing.{Made, GluedTold, glued_told, glue_failed, no_glue}
use Rattle.core_steps.specs.Rows.{CountTold, count_told, count_failed, no_count}
use Rattle.core_steps.specs.Sources.{Size_asked}
use Rattle.core_steps.proofs.Glueing.{test_yes, test_no}
use Rattle.core_steps.proofs.Operands.{get_behind, get_front}
use Rattle.core_steps.proofs.Sourcing.{sized_then}

-- ---- numbers

counts_more : (n k : ℕ) → counts (suc n) k ≡ counts n k ++ (k + n) ∷ []
counts_more zero k = let e : k ≡ k + 0 = omega arith in ap (λ z. z ∷ []) e
counts_more (suc n) k = let e : suc k + n ≡ k + suc n = omega arith in ap (λ z. k ∷ z) (counts_more n (suc k)) ∙ ap (λ z. k ∷ (counts n (suc k) ++ z ∷ [])) e

pub numbers_more : (i : ℕ) (xs ys : List ℕ) → xs ≡ counts i 0 → ys ≡ xs ++ i ∷ [] → ys ≡ counts (i + 1) 0
numbers_more i xs ys e f =
    let z : i ≡ 0 + i = omega arith in
    f ∙ ap (λ z. z ++ i ∷ []) e ∙ ap (λ z. counts i 0 ++ z ∷ []) z ∙ sym (counts_more i 0) ∙ ap (λ z. counts z 0) (sym (add-one i))

pub ruleset numbers = (numbers_more)

number_words : (n k : ℕ) → n + k ≤ 2 ^ 64 → map (scalar_of_word (sort.Int I64)) (counts n k) ≡ map i64 (counts n k)
number_words zero k l = refl
number_words (suc n) k l = ap (λ z. z ∷ map (scalar_of_word (sort.Int I64)) (counts n (suc k))) (ap i64 (mod-eq_of_lt (omega (arith, l)))) ∙ ap (λ z. i64 k ∷ z) (number_words n (suc k) (omega (arith, l)))

counts_many : (n k : ℕ) → length (counts n k) ≡ n
counts_many zero k = refl
counts_many (suc n) k = ap suc (counts_many n (suc k))

flat_weight : (n : ℕ) → weight_of ((n ∷ []) ∷ []) ≡ n
flat_weight n = let a : n * 1 ≡ n = omega arith in let b : 1 * n ≡ n = omega arith in omega (arith, a, b)

module _ (u : Atom) (at : Place) (S S' : State) where
  iota : ℕ → Out Row
  iota n = flat at n (numbers_below n)

  pub iota_stop : (e : Stop) → Size_asked S.words u at (Err e) → Iota_told u at S S' (Err e)
  unfolding Size_asked Iota_told
  iota_stop e h G env n s st i a = by_told (h G env n S.arena.arrays s st i a)
    where
      by_told : {e : Stop} → CountTold (and_then (value_of env u) (λ c. sized_by at c Val)) (Err e) → GluedTold (and_then (value_of env u) (λ c. sized_by at c (λ n. flat at n (numbers_below n)))) ((sort.Int I64, 1) ∷ []) S.stack S S' (Err e)
      by_told (count_failed q) = glue_failed (sized_then at (value_of env u) (λ n. flat at n (numbers_below n)) ∙ ap (λ z. and_then z (λ n. flat at n (numbers_below n))) q)
      by_told no_count = no_glue

  pub iota_memory : (e : Stop) → e ≡ Memory → Iota_told u at S S' (Err e)
  unfolding Iota_told
  iota_memory e q G env n s st i a = subst (λ z. GluedTold (and_then (value_of env u) (λ c. sized_by at c (λ n. flat at n (numbers_below n)))) ((sort.Int I64, 1) ∷ []) S.stack S S' (Err z)) (sym q) no_glue

  module _ (count : ℕ) (h : Size_asked S.words u at (Ok count)) where
    by_size : (r : Answer) → GluedTold (flat at count (numbers_below count)) ((sort.Int I64, 1) ∷ []) S.stack S S' r → Iota_told u at S S' r
    unfolding Size_asked Iota_told
    by_size r k G env n s st i a = by_told count refl (h G env n S.arena.arrays s st i a)
      where
        by_told : (c : ℕ) → c ≡ count → CountTold (and_then (value_of env u) (λ c. sized_by at c Val)) (Ok c) → GluedTold (and_then (value_of env u) (λ c. sized_by at c (λ n. flat at n (numbers_below n)))) ((sort.Int I64, 1) ∷ []) S.stack S S' r
        by_told c e (count_told q) =
            subst (λ z. GluedTold z ((sort.Int I64, 1) ∷ []) S.stack S S' r)
            (sym (sized_then at (value_of env u) (λ n. flat at n (numbers_below n)) ∙ ap (λ z. and_then z (λ n. flat at n (numbers_below n))) q ∙ ap (λ z. flat at z (numbers_below z)) e)) k

    pub iota_large : (e : Stop) → 33554432 < count → e ≡ Failed (report kind.TooLarge at) → Iota_told u at S S' (Err e)
    unfolding within_weight
    iota_large e l q =
        by_size (Err e) (subst (λ z. GluedTold (flat at count (numbers_below count)) ((sort.Int I64, 1) ∷ []) S.stack S S' (Err z)) (sym q)
        (glue_failed (ap (λ z. checked z kind.TooLarge at (Val (Many (count ∷ []) (numbers_below count) ∷ []))) (ap (λ z. nat_le z most_words) (flat_weight count) ∙ test_no count most_words l))))

    pub iota_ok : (cells sizes : List ℕ) (number : ℕ) (r : Answer) → count ≤ 33554432 → cells ≡ counts count 0 → sizes ≡ count ∷ [] → number ≡ length S.arena.arrays → S'.arena ≡ with_array S.arena sizes cells → Pushed number S.stack S'.stack r → Iota_told u at S S' r
    unfolding within_weight
    iota_ok cells sizes number r l e f n p k = by_size r (by_push k)
      where
        made : Array
        made = array sizes cells

        many : length cells ≡ count
        many = ap length e ∙ counts_many count 0

        shown : ShowsArray S'.arena.arrays (sort.Int I64) 1 (Many (count ∷ []) (numbers_below count)) number
        shown = record {
          array = made;
          there = ap (λ (z : Arena). slice_get z.arrays number) p ∙ ap (slice_get (S.arena.arrays ++ made ∷ [])) n ∙ get_behind S.arena.arrays made;
          is = ap (λ z. Many z (numbers_below count)) (sym f) ∙ ap (Many sizes) (sym (ap (map (scalar_of_word (sort.Int I64))) e ∙ number_words count 0 (omega (arith, l))));
          deep = ap length f;
          full = let z : count * 1 ≡ count = omega arith in many ∙ sym (ap extent f ∙ z);
        }

        grown : Made S.arena S'.arena (array_words (Many (count ∷ []) (numbers_below count) ∷ []))
        grown = record { arrays = λ i a z. ap (λ (y : Arena). slice_get y.arrays i) p ∙ get_front S.arena.arrays (made ∷ []) i a z; handed = let c : S'.arena.handed ≡ min (S.arena.handed + length cells) (2 ^ 64 - 1) = ap (λ (z : Arena). z.handed) p in omega (arith, c, many) }

        by_push : {r : Answer} → Pushed number S.stack S'.stack r → GluedTold (flat at count (numbers_below count)) ((sort.Int I64, 1) ∷ []) S.stack S S' r
        by_push (pushed y) =
            glued_told (Many (count ∷ []) (numbers_below count) ∷ []) (number ∷ []) (ap (λ z. checked z kind.TooLarge at (Val (Many (count ∷ []) (numbers_below count) ∷ []))) (ap (λ z. nat_le z most_words) (flat_weight count) ∙ test_yes count most_words l))
            (shown_and shown none_shown) y grown
        by_push answer.not_pushed = no_glue

pub ruleset iotas = (iota_memory, iota_large)

-- ---- as steps

-- new arrays for what a deed comes to
pub made_runs : (o : Out Row) (out : List Sort) (n : ℕ) (S S' : State) (r : Answer) → S'.words ≡ S.words → GluedTold o out S.stack S S' r → Runs (Then (the o) (λ cs. gives (array_words cs) cs)) out n S S' r
made_runs o out n S S' _ w (glued_told cs ws e sh q m) =
    ran cs ws (0 + array_words cs) q sh (record { words = λ x l. ap (λ t. slice_get t x) w; arrays = m.arrays; handed = omega (arith, m.handed) }) (goes_on (the_is o (Val cs) e) exact)
made_runs o out n S S' _ w (glue_failed {r} e) = failed 0 (stops (the_is o (Fail r) e))
made_runs o out n S S' _ w no_glue = no_memory

pub act_memory : (budget : ℕ) (a : Action) (S S' : State) (e : Stop) → e ≡ Memory → Act_runs budget a S S' (Err e)
unfolding Act_runs
act_memory budget a S S' e q G env ss n last st g na = subst (λ z. Runs (act_runs budget a env) ss n S S' (Err z)) (sym q) no_memory

iota_groups : (at : Place) (env : Env) (u : Atom) → and_then (groups_of env ((u ∷ []) ∷ [])) (done false Iota at) ≡ and_then (value_of env u) (λ c. sized_by at c (λ n. flat at n (numbers_below n)))
unfolding done
iota_groups at env u = by_value (value_of env u)
  where
    by_value : (o : Out Component) → and_then (and_then (and_then o (λ c. and_then (Val []) (λ cs. Val (c ∷ cs)))) (λ cs. and_then (Val []) (λ css. Val (cs ∷ css)))) (done false Iota at) ≡ and_then o (λ c. sized_by at c (λ n. flat at n (numbers_below n)))
    by_value (Val c) = refl
    by_value (Fail r) = refl
    by_value Wrong = refl

pub iota_act : (budget : ℕ) (u : Atom) (at : Place) (S S' : State) (r : Answer) → S'.words ≡ S.words → Iota_told u at S S' r → Act_runs budget (Do Iota at ((u ∷ []) ∷ [])) S S' r
unfolding Iota_told Act_runs act_means
iota_act budget u at S S' r w h G env ss n last st (deed_gives g d) nb = by_groups ss g d
  where
    by_groups : {sss : List (List Sort)} (ss : List Sort) → Groups_are G ((u ∷ []) ∷ []) sss → Deed_gives Iota sss ss → Runs (Then (the (and_then (groups_of env ((u ∷ []) ∷ [])) (done false Iota at))) (λ cs. gives (fresh_words Iota cs) cs)) ss n S S' r
    by_groups _ (all_more (all_more {x' = s} a all_none) all_none) (iota_gives i) =
        subst (λ z. Runs (Then (the z) (λ cs. gives (array_words cs) cs)) ((sort.Int I64, 1) ∷ []) n S S' r) (sym (iota_groups at env u))
        (made_runs (and_then (value_of env u) (λ c. sized_by at c (λ n. flat at n (numbers_below n)))) ((sort.Int I64, 1) ∷ []) n S S' r w (h G env n s st i a))

pub making_iota : (budget : ℕ) (m : Making) (u : Atom) (at : Place) (S S' : State) (r : Answer) → m ≡ make.Iota u → S'.words ≡ S.words → Iota_told u at S S' r → Act_runs budget (making_form m at) S S' r
unfolding making_form
making_iota budget m u at S S' r e w h = subst (λ z. Act_runs budget z S S' r) (sym (ap (λ z. making_form z at) e)) (iota_act budget u at S S' r w h)

empty_groups : (at : Place) (env : Env) (uss : List (List Atom)) → and_then (groups_of env uss) (done false Empty at) ≡ collected false at env uss []
unfolding done
empty_groups at env uss = by_groups (groups_of env uss)
  where
    by_groups : (o : Out (List Row)) → and_then o (done false Empty at) ≡ and_then o (λ css. and_then (all_told css) (λ ds. glued false at ds []))
    by_groups (Val css) = refl
    by_groups (Fail r) = refl
    by_groups Wrong = refl

pub empty_act : (budget : ℕ) (uss : List (List Atom)) (at : Place) (S S' : State) (r : Answer) → S'.words ≡ S.words → None_told uss at S S' r → Act_runs budget (Do Empty at uss) S S' r
unfolding None_told Act_runs act_means
empty_act budget uss at S S' r w h G env ss n last st (deed_gives {sss = sss} g (empty_gives {row = row} t b)) nb =
    subst (λ z. Runs (Then (the z) (λ cs. gives (array_words cs) cs)) ss n S S' r) (sym (empty_groups at env uss)) (made_runs (collected false at env uss []) ss n S S' r w (h G env n sss row ss st g t b))

pub making_empty : (budget : ℕ) (m : Making) (sizes : Bor (List (Bor (List Atom)))) (at : Place) (S S' : State) (r : Answer) → m ≡ make.Empty sizes → S'.words ≡ S.words → None_told (map group sizes.now) at S S' r → Act_runs budget (making_form m at) S S' r
unfolding making_form
making_empty budget m sizes at S S' r e w h = subst (λ z. Act_runs budget z S S' r) (sym (ap (λ z. making_form z at) e)) (empty_act budget (map group sizes.now) at S S' r w h)

literal_groups : (at : Place) (env : Env) (uss : List (List Atom)) → and_then (groups_of env uss) (done false Literal at) ≡ and_then (groups_of env uss) (glued false at [])
unfolding done
literal_groups at env uss = by_groups (groups_of env uss)
  where
    by_groups : (o : Out (List Row)) → and_then o (done false Literal at) ≡ and_then o (glued false at [])
    by_groups (Val css) = refl
    by_groups (Fail r) = refl
    by_groups Wrong = refl

pub literal_act : (budget : ℕ) (uss : List (List Atom)) (at : Place) (S S' : State) (r : Answer) → S'.words ≡ S.words → Literal_told uss at S S' r → Act_runs budget (Do Literal at uss) S S' r
unfolding Literal_told Act_runs act_means
literal_act budget uss at S S' r w h G env ss n last st (deed_gives g (literal_gives {row = row} {rows = rows} i b)) nb =
    subst (λ z. Runs (Then (the z) (λ cs. gives (array_words cs) cs)) ss n S S' r) (sym (literal_groups at env uss))
    (made_runs (and_then (groups_of env uss) (glued false at [])) ss n S S' r w (h G env n row ss (row ∷ rows) st g (and_more i) b))

pub making_literal : (budget : ℕ) (m : Making) (rows : Bor (List (Bor (List Atom)))) (at : Place) (S S' : State) (r : Answer) → m ≡ make.Literal rows → S'.words ≡ S.words → Literal_told (map group rows.now) at S S' r → Act_runs budget (making_form m at) S S' r
unfolding making_form
making_literal budget m rows at S S' r e w h = subst (λ z. Act_runs budget z S S' r) (sym (ap (λ z. making_form z at) e)) (literal_act budget (map group rows.now) at S S' r w h)

replicate_groups : (at : Place) (env : Env) (u : Atom) (us : List Atom) → and_then (groups_of env ((u ∷ []) ∷ us ∷ [])) (done false Replicate at) ≡ and_then (value_of env u) (λ c. and_then (values_of env us) (λ row. replicated false at c row))
unfolding done
replicate_groups at env u us = by_values (value_of env u) (values_of env us)
  where
    by_values : (o : Out Component) (p : Out Row) → and_then (and_then (and_then o (λ c. and_then (Val []) (λ cs. Val (c ∷ cs)))) (λ cs. and_then (and_then p (λ ds. and_then (Val []) (λ css. Val (ds ∷ css)))) (λ css. Val (cs ∷ css)))) (done false Replicate at) ≡ and_then o (λ c. and_then p (λ row. replicated false at c row))
    by_values (Val c) (Val row) = refl
    by_values (Val c) (Fail r) = refl
    by_values (Val c) Wrong = refl
    by_values (Fail r) p = refl
    by_values Wrong p = refl

pub replicate_act : (budget : ℕ) (u : Atom) (us : List Atom) (at : Place) (S S' : State) (r : Answer) → S'.words ≡ S.words → Replicate_told u us at S S' r → Act_runs budget (Do Replicate at ((u ∷ []) ∷ us ∷ [])) S S' r
unfolding Replicate_told Act_runs act_means
replicate_act budget u us at S S' r w h G env ss n last st (deed_gives g d) nb = by_groups ss g d
  where
    by_groups : {sss : List (List Sort)} (ss : List Sort) → Groups_are G ((u ∷ []) ∷ us ∷ []) sss → Deed_gives Replicate sss ss → Runs (Then (the (and_then (groups_of env ((u ∷ []) ∷ us ∷ [])) (done false Replicate at))) (λ cs. gives (fresh_words Replicate cs) cs)) ss n S S' r
    by_groups ss (all_more (all_more {x' = s} a all_none) (all_more {x' = row} b all_none)) (replicate_gives i d) =
        subst (λ z. Runs (Then (the z) (λ cs. gives (array_words cs) cs)) ss n S S' r) (sym (replicate_groups at env u us))
        (made_runs (and_then (value_of env u) (λ c. and_then (values_of env us) (λ row. replicated false at c row))) ss n S S' r w (h G env n s row ss st i a b d))

pub making_replicate : (budget : ℕ) (m : Making) (u : Atom) (us : Bor (List Atom)) (at : Place) (S S' : State) (r : Answer) → m ≡ make.Replicate u us → S'.words ≡ S.words → Replicate_told u us.now at S S' r → Act_runs budget (making_form m at) S S' r
unfolding making_form
making_replicate budget m u us at S S' r e w h = subst (λ z. Act_runs budget z S S' r) (sym (ap (λ z. making_form z at) e)) (replicate_act budget u us.now at S S' r w h)

-- operands as they are
shared_runs : (o : Out Row) (f : Row → ℕ) (ss : List Sort) (n : ℕ) (S S' : State) (r : Answer) → S'.words ≡ S.words → S'.arena ≡ S.arena → ReadAll o S.arena.arrays ss S.stack S'.stack r → Runs (Then (the o) (λ cs. gives (f cs) cs)) ss n S S' r
shared_runs o f ss n S S' _ w a (read_all {cs} {ws} e sh q) =
    ran cs ws (0 + f cs) q (subst (λ (z : Arena). AllShow z.arrays ss cs ws) (sym a) sh)
    (record { words = λ x l. ap (λ t. slice_get t x) w; arrays = λ i b z. ap (λ (y : Arena). slice_get y.arrays i) a ∙ z; handed = let c : S'.arena.handed ≡ S.arena.handed = ap (λ (z : Arena). z.handed) a in omega (arith, c) })
    (goes_on (the_is o (Val cs) e) exact)
shared_runs o f ss n S S' _ w a no_memory_read_all = no_memory

copy_groups : (at : Place) (env : Env) (us : List Atom) → and_then (groups_of env (us ∷ [])) (done false Copy at) ≡ values_of env us
unfolding done
copy_groups at env us = by_values (values_of env us)
  where
    by_values : (o : Out Row) → and_then (and_then o (λ cs. and_then (Val []) (λ css. Val (cs ∷ css)))) (done false Copy at) ≡ o
    by_values (Val cs) = refl
    by_values (Fail r) = refl
    by_values Wrong = refl

pub copy_act : (budget : ℕ) (us : List Atom) (at : Place) (S S' : State) (r : Answer) → S'.words ≡ S.words → S'.arena ≡ S.arena → Reads_all S.words us S.stack S'.stack r → Act_runs budget (Do Copy at (us ∷ [])) S S' r
unfolding Reads_all Act_runs act_means
copy_act budget us at S S' r w a h G env ss n last st (deed_gives g d) nb = by_groups ss g d
  where
    by_groups : {sss : List (List Sort)} (ss : List Sort) → Groups_are G (us ∷ []) sss → Deed_gives Copy sss ss → Runs (Then (the (and_then (groups_of env (us ∷ [])) (done false Copy at))) (λ cs. gives (fresh_words Copy cs) cs)) ss n S S' r
    by_groups _ (all_more x all_none) (copy_gives s ss) =
        subst (λ z. Runs (Then (the z) (λ cs. gives (fresh_words Copy cs) cs)) (lifted (s ∷ ss)) n S S' r) (sym (copy_groups at env us))
        (shared_runs (values_of env us) (fresh_words Copy) (lifted (s ∷ ss)) n S S' r w a (h G env n S.arena.arrays (lifted (s ∷ ss)) st x))

pub making_copy : (budget : ℕ) (m : Making) (us : Bor (List Atom)) (at : Place) (S S' : State) (r : Answer) → m ≡ make.Copy us → S'.words ≡ S.words → S'.arena ≡ S.arena → Reads_all S.words us.now S.stack S'.stack r → Act_runs budget (making_form m at) S S' r
unfolding making_form
making_copy budget m us at S S' r e w a h = subst (λ z. Act_runs budget z S S' r) (sym (ap (λ z. making_form z at) e)) (copy_act budget us.now at S S' r w a h)

pub ruleset makings = (act_memory, making_iota, making_empty, making_literal, making_replicate)
