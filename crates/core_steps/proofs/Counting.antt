-- How many rows arrays have.
use Rattle.std.proofs.Common.{◌≡◌, ℕ, suc, ◌+◌, ◌<◌, ◌≤◌, List, [], ◌∷◌, map, length, get_or, drop, Ok, Err, Result, Bool, true, false, nat_eq, refl, sym, ap, ◌∙◌, subst, arith, add-one}
use Rattle.std.proofs.Math.Seq.{drop-cons}
use Rattle.std.proofs.lemmas.Bool.{eq-eqb, eqb-true}
use Rattle.fut_scalar.specs.declared.place.Place.{Place}
use Rattle.fut_scalar.specs.declared.report.FailKind.TheVariants as kind
use Rattle.fut_scalar.specs.declared.report.Report.{Report}
use Rattle.fut_arithmetic.specs.Words.{scalar_of_word}
use Rattle.fut_meaning.specs.Arrays.{fitting}
use Rattle.fut_meaning.specs.Outcomes.{Val, Fail, and_then}
use Rattle.fut_meaning.specs.Sames.{all_more}
use Rattle.core_arrays.specs.Arenas.{Array}
use Rattle.core_ir.specs.declared.block.Atom.{Atom}
use Rattle.core_ir.specs.Bundles.{Component, Many, Row, rows_in, as_long, size_of}
use Rattle.core_ir.specs.Meaning.{Env, value_of, values_of}
use Rattle.core_ir.specs.Typed.{Sort, Sorts, lifted, Atom_is, Atoms_are}
use Rattle.core_code.specs.Registers.{ShowsArray, Stands}
use Rattle.core_code.specs.Answers.{FirstTold, first_told, no_first, First_size, Read, read, Reads}
use Rattle.core_code.specs.declared.stop.Stop.{Stop}
use Rattle.core_code.specs.declared.stop.Stop.TheVariants.{Failed, Memory}
use Rattle.core_steps.specs.Rows.{CountTold, count_told, count_failed, no_count, Long_read, Count_read}
use Rattle.core_steps.proofs.Operands.{First_value, first_value, values_none, values_drop, atoms_drop, lifted_drop, next_of, drop_past, sorts_many}

-- ---- of one array

pub long_ok : (t : List ℕ) (rs : List Array) (u : Atom) (at : ℕ) (r : Result ℕ Stop) → Reads t u (Ok at) → First_size rs at r → Long_read t rs u r
unfolding Reads First_size Long_read
long_ok t rs u at r h k G env n rank ty st a = by_read (h G env n rs (ty, suc rank) st a)
  where
    by_first : {r : Result ℕ Stop} (c : Component) (x : ShowsArray rs ty (suc rank) c at) → value_of env u ≡ Val c → FirstTold x.array.sizes r → CountTold (and_then (value_of env u) rows_in) r
    by_first c x e (first_told {n = m} {ds = ds} q l) = count_told (ap (λ z. and_then z rows_in) (e ∙ ap Val x.is) ∙ ap (λ z. rows_in (Many z (map (scalar_of_word ty) x.array.words))) q)
    by_first c x e no_first = no_count

    by_read : Read (value_of env u) rs (ty, suc rank) (Ok at) → CountTold (and_then (value_of env u) rows_in) r
    by_read (read {c} e x) = by_first c x e (k x.array x.there)

pub long_stop : (t : List ℕ) (rs : List Array) (u : Atom) (e : Stop) → e ≡ Memory → Long_read t rs u (Err e)
unfolding Long_read
long_stop t rs u e q G env n rank ty st a = subst (λ z. CountTold (and_then (value_of env u) rows_in) (Err z)) (sym q) no_count

pub ruleset lengths = (long_ok, long_stop)

-- ---- of several

-- some of them have as many, and what the others come to, all may
unfoldable pub Counts : List ℕ → List Array → List Atom → Place → ℕ → ℕ → Type 0
Counts t rs us at count j =
    (G : Sorts) (env : Env) (n : ℕ) (ss : List Sort) (cs : Row) → Stands G env n rs t → Atoms_are G us (lifted ss) → values_of env us ≡ Val cs
    → size_of false at cs ≡ as_long false at count (drop j cs)

-- operand j of some, and its component
pub record Operand_at (G : Sorts) (env : Env) (us : List Atom) (ss : List Sort) (cs : Row) (j : ℕ) (u : Atom) : Type 0 where
  pub sort : Sort
  pub component : Component
  pub sorts : drop j ss ≡ sort ∷ drop (suc j) ss
  pub components : drop j cs ≡ component ∷ drop (suc j) cs
  pub is : Atom_is G u (sort.0, suc sort.1)
  pub value : value_of env u ≡ Val component

pub operand_at : (G : Sorts) (env : Env) (us : List Atom) (ss : List Sort) (cs : Row) (j : ℕ) (d : Atom) → j < length us → Atoms_are G us (lifted ss) → values_of env us ≡ Val cs → Operand_at G env us ss cs j (get_or us j d)
operand_at G env us ss cs j d l a v = by_sorts (drop j ss) refl (subst (λ z. Atoms_are G z (lifted (drop j ss))) (drop-cons us j d l) (subst (Atoms_are G (drop j us)) (lifted_drop j ss) (atoms_drop G j us (lifted ss) a)))
  where
    f : First_value env (get_or us j d) (drop (suc j) us) (drop j cs)
    f = first_value env (get_or us j d) (drop (suc j) us) (drop j cs) (ap (values_of env) (sym (drop-cons us j d l)) ∙ values_drop env j us cs v)

    by_sorts : (rest : List Sort) → drop j ss ≡ rest → Atoms_are G (get_or us j d ∷ drop (suc j) us) (lifted rest) → Operand_at G env us ss cs j (get_or us j d)
    by_sorts [] q b = let k : length (get_or us j d ∷ drop (suc j) us) ≡ 0 = sorts_many G (get_or us j d ∷ drop (suc j) us) [] b in absurd (omega (arith, k))
    by_sorts (s ∷ rest) q (all_more x b) =
        record {
          sort = s;
          component = f.first;
          sorts = q ∙ ap (λ z. s ∷ z) (sym (next_of j ss s rest q).left);
          components = f.whole ∙ ap (λ z. f.first ∷ z) (sym (next_of j cs f.first f.rest f.whole).left);
          is = x;
          value = f.value;
        }

module _ (t : List ℕ) (rs : List Array) (us : List Atom) (at : Place) where
  pub count_start : (d : Atom) (count : ℕ) → 0 < length us → Long_read t rs (get_or us 0 d) (Ok count) → Counts t rs us at count 0
  unfolding Long_read Counts
  count_start d count l h G env n ss cs st a v =
      let o = operand_at G env us ss cs 0 d l a v in by_count o.component o.sort o.components o.value (h G env n o.sort.1 o.sort.0 st o.is)
    where
      by_count : (c : Component) (s : Sort) → cs ≡ c ∷ drop 1 cs → value_of env (get_or us 0 d) ≡ Val c → CountTold (and_then (value_of env (get_or us 0 d)) rows_in) (Ok count) → size_of false at cs ≡ as_long false at count cs
      by_count c s q e (count_told p) =
          let r : rows_in c ≡ Val count = ap (λ z. and_then z rows_in) (sym e) ∙ p in
          ap (size_of false at) q ∙ ap (λ z. and_then z (λ n. as_long false at n (drop 1 cs))) r
          ∙ sym (ap (as_long false at count) q ∙ ap (λ z. and_then z (λ m. fitting false (nat_eq m count) at (as_long false at count (drop 1 cs)))) r ∙ ap (λ z. fitting false z at (as_long false at count (drop 1 cs))) (eq-eqb count count refl))

  module _ (count j : ℕ) (d : Atom) (l : j < length us) (h : Counts t rs us at count j) where
    one : (G : Sorts) (env : Env) (n : ℕ) (ss : List Sort) (cs : Row) (m : ℕ) → Stands G env n rs t → Atoms_are G us (lifted ss) → values_of env us ≡ Val cs → Long_read t rs (get_or us j d) (Ok m) → size_of false at cs ≡ fitting false (nat_eq m count) at (as_long false at count (drop (suc j) cs))
    unfolding Long_read Counts
    one G env n ss cs m st a v k = by_count (operand_at G env us ss cs j d l a v)
      where
        by_told : (c : Component) → drop j cs ≡ c ∷ drop (suc j) cs → value_of env (get_or us j d) ≡ Val c → CountTold (and_then (value_of env (get_or us j d)) rows_in) (Ok m) → size_of false at cs ≡ fitting false (nat_eq m count) at (as_long false at count (drop (suc j) cs))
        by_told c q e (count_told p) =
            h G env n ss cs st a v ∙ ap (as_long false at count) q ∙ ap (λ z. and_then z (λ m. fitting false (nat_eq m count) at (as_long false at count (drop (suc j) cs)))) (ap (λ z. and_then z rows_in) (sym e) ∙ p)

        by_count : Operand_at G env us ss cs j (get_or us j d) → size_of false at cs ≡ fitting false (nat_eq m count) at (as_long false at count (drop (suc j) cs))
        by_count o = by_told o.component o.components o.value (k G env n o.sort.1 o.sort.0 st o.is)

    pub count_more : (m : ℕ) → m ≡ count → Long_read t rs (get_or us j d) (Ok m) → Counts t rs us at count (j + 1)
    unfolding Counts
    count_more m q k G env n ss cs st a v =
        one G env n ss cs m st a v k ∙ ap (λ z. fitting false z at (as_long false at count (drop (suc j) cs))) (ap (λ z. nat_eq z count) q ∙ eq-eqb count count refl) ∙ ap (λ z. as_long false at count (drop z cs)) (sym (add-one j))

    pub count_misfit : (m : ℕ) (r : Report) → (m ≡ count → ⊥) → r ≡ record { kind = kind.Size; place = at } → Long_read t rs (get_or us j d) (Ok m) → Count_read t rs us at (Err (Failed r))
    unfolding Count_read
    count_misfit m r ne e k G env n ss cs st a v =
        count_failed (one G env n ss cs m st a v k ∙ ap (λ z. fitting false z at (as_long false at count (drop (suc j) cs))) (apart m count ne) ∙ ap Fail (sym e))
      where
        apart : (m n : ℕ) → (m ≡ n → ⊥) → nat_eq m n ≡ false
        apart m n ne = by_test (nat_eq m n) refl
          where
            by_test : (b : Bool) → nat_eq m n ≡ b → nat_eq m n ≡ false
            by_test true q = absurd (ne (eqb-true m n q))
            by_test false q = q

  pub count_end : (count j : ℕ) → length us ≤ j → Counts t rs us at count j → Count_read t rs us at (Ok count)
  unfolding Counts Count_read
  count_end count j l h G env n ss cs st a v =
      let none : drop j cs ≡ [] = values_none env (drop j cs) (ap (values_of env) (sym (drop_past us j l)) ∙ values_drop env j us cs v) in
      count_told (h G env n ss cs st a v ∙ ap (as_long false at count) none)

  pub count_stop : (e : Stop) → e ≡ Memory → Count_read t rs us at (Err e)
  unfolding Count_read
  count_stop e q G env n ss cs st a v = subst (λ z. CountTold (size_of false at cs) (Err z)) (sym q) no_count

pub ruleset counting = (count_start, count_more, count_misfit, count_end, count_stop)
