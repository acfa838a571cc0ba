-- Arrays of rows that are given one by one.
use Rattle.std.proofs.Common.{◌≡◌, ℕ, zero, suc, ◌+◌, ◌<◌, ◌≤◌, List, [], ◌∷◌, ◌++◌, map, length, drop, get_or, Bor, Ok, Err, false, refl, sym, ap, ◌∙◌, subst, arith, add-one, append_assoc}
use Rattle.std.proofs.Math.ListN.{get_or-map}
use Rattle.std.proofs.Math.Seq.{drop-cons}
use Rattle.std.proofs.lemmas.List.{append-nil, length-append, length-map}
use Rattle.fut_scalar.specs.declared.place.Place.{Place}
use Rattle.fut_meaning.specs.Outcomes.{Val, and_then}
use Rattle.fut_meaning.specs.Sames.{all_none, all_more}
use Rattle.core_arrays.specs.Arenas.{Array}
use Rattle.core_ir.specs.declared.block.Atom.{Atom}
use Rattle.core_ir.specs.Bundles.{Row, glued}
use Rattle.core_ir.specs.Meaning.{Env, values_of, groups_of}
use Rattle.core_ir.specs.Plain.{group}
use Rattle.core_ir.specs.Typed.{Sort, Sorts, Bundled, Each_is, and_more, Atoms_are, Groups_are}
use Rattle.core_code.specs.Registers.{State, state, elem_of, rank_of, AllShow, Stands}
use Rattle.core_code.specs.Answers.{Answer, ReadAll, read_all, Reads_all}
use Rattle.core_code.specs.declared.stop.Stop.{Stop}
use Rattle.core_code.specs.declared.stop.Stop.TheVariants.{Memory}
use Rattle.core_code.proofs.Reading.{elem_is}
use Rattle.core_steps.specs.Deeds.{RowsRead, rows_read, no_rows_read, Rows_read, Literal_told}
use Rattle.core_steps.specs.Gluing.{sort_at, sorts_at, RowsShow, no_rows_shown, row_shown_and, GluedTold, glued_told, glue_failed, no_glue, Glued_told}
use Rattle.core_steps.proofs.Operands.{drop_past, none_before, one_behind}
use Rattle.core_steps.proofs.Taking.{rank_is}

-- ---- the sorts of operands

pub results_sorts : (G : Sorts) (us : List Atom) (ss : List Sort) → Atoms_are G us ss → sorts_at us ≡ ss
results_sorts G _ _ all_none = refl
results_sorts G _ _ (all_more {x = u} {x' = s} {xs = us} {xs' = ss} x a) = ap (λ z. z ∷ sorts_at us) (by_sort s (elem_is G u s x) (rank_is G u s x)) ∙ ap (λ z. s ∷ z) (results_sorts G us ss a)
  where
    by_sort : (s : Sort) → elem_of u ≡ s.0 → rank_of u ≡ s.1 → sort_at u ≡ s
    by_sort s e f = ap (λ z. (z, rank_of u)) e ∙ ap (λ z. (s.0, z)) f

pub rows_append : (rs : List Array) (ss : List Sort) (rows : List Row) (ws : List ℕ) (row : Row) (vs : List ℕ) → RowsShow rs ss rows ws → AllShow rs ss row vs → RowsShow rs ss (rows ++ row ∷ []) (ws ++ vs)
rows_append rs ss _ _ row vs no_rows_shown x = subst (RowsShow rs ss (row ∷ [])) (append-nil vs) (row_shown_and x no_rows_shown)
rows_append rs ss _ _ row vs (row_shown_and {row = r} {rows = rows} {ws = ws} {vs = us} y sh) x =
    subst (RowsShow rs ss (r ∷ (rows ++ row ∷ []))) (sym (append_assoc ws us vs)) (row_shown_and y (rows_append rs ss rows us row vs sh x))

-- ---- rows one after the other

rows_cons : (env : Env) (us : List Atom) (uss : List (List Atom)) (cs : Row) → values_of env us ≡ Val cs → groups_of env (us ∷ uss) ≡ and_then (groups_of env uss) (λ css. Val (cs ∷ css))
rows_cons env us uss cs e = ap (λ z. and_then z (λ cs. and_then (groups_of env uss) (λ css. Val (cs ∷ css)))) e

each_at : (G : Sorts) (uss : List (List Atom)) (sss : List (List Sort)) (row : List Sort) (j : ℕ) (d : List Atom) → j < length uss → Groups_are G uss sss → Each_is row sss → Atoms_are G (get_or uss j d) row
each_at G _ _ row j d l all_none k = absurd (omega (arith, l))
each_at G _ _ row zero d l (all_more x g) (and_more k) = x
each_at G _ _ row (suc j) d l (all_more {xs = uss} {xs' = sss} x g) (and_more k) = each_at G uss sss row j d (omega (arith, l)) g k

-- the rows so far, and those of the rest
pub record Rows_so (env : Env) (uss : List (List Atom)) (rs : List Array) (row : List Sort) (j : ℕ) (stack stack' : List ℕ) : Type 0 where
  pub rows : List Row
  pub ws : List ℕ
  pub shown : RowsShow rs row rows ws
  pub behind : stack' ≡ stack ++ ws
  pub many : length rows + length (drop j uss) ≡ length uss
  pub whole : groups_of env uss ≡ and_then (groups_of env (drop j uss)) (λ css. Val (rows ++ css))

unfoldable pub Rows_go : List ℕ → List (List Atom) → ℕ → List ℕ → List ℕ → Type 0
Rows_go t uss j stack stack' = (G : Sorts) (env : Env) (n : ℕ) (rs : List Array) (row : List Sort) (sss : List (List Sort)) → Stands G env n rs t → Groups_are G uss sss → Each_is row sss → Rows_so env uss rs row j stack stack'

module _ (t : List ℕ) (given : List (Bor (List Atom))) (s0 : List ℕ) where
  abbrev uss : List (List Atom)
  uss = map group given

  pub rows_start : Rows_go t uss 0 s0 s0
  unfolding Rows_go
  rows_start G env n rs row sss st g k = record { rows = []; ws = []; shown = no_rows_shown; behind = sym (append-nil s0); many = omega arith; whole = none_before (groups_of env uss) }

  pub rows_more : (j : ℕ) (d : Bor (List Atom)) (s1 s2 : List ℕ) → j < length given → Rows_go t uss j s0 s1 → Reads_all t (get_or given j d).now s1 s2 (Ok tt) → Rows_go t uss (j + 1) s0 s2
  unfolding Rows_go Reads_all
  rows_more j d s1 s2 l h k G env n rs row sss st g i =
      subst (λ z. Rows_so env uss rs row z s0 s2) (sym (add-one j))
      (by_read (h G env n rs row sss st g i)
      (subst (λ z. ReadAll (values_of env z) rs row s1 s2 (Ok tt)) (sym same) (k G env n rs row st (subst (λ z. Atoms_are G z row) same (each_at G uss sss row j d.now (omega (arith, l, length-map given group)) g i)))))
    where
      us : List Atom
      us = get_or uss j d.now

      same : us ≡ (get_or given j d).now
      same = get_or-map group given j d

      next : drop j uss ≡ us ∷ drop (suc j) uss
      next = drop-cons uss j d.now (omega (arith, l, length-map given group))

      by_read : Rows_so env uss rs row j s0 s1 → ReadAll (values_of env us) rs row s1 s2 (Ok tt) → Rows_so env uss rs row (suc j) s0 s2
      by_read so (read_all {cs} {ws} e sh q) = record {
        rows = so.rows ++ cs ∷ [];
        ws = so.ws ++ ws;
        shown = rows_append rs row so.rows so.ws cs ws so.shown sh;
        behind = q ∙ ap (λ z. z ++ ws) so.behind ∙ append_assoc s0 so.ws ws;
        many = let y : length (drop j uss) ≡ suc (length (drop (suc j) uss)) = ap length next in omega (arith, so.many, y, length-append so.rows (cs ∷ []));
        whole = so.whole ∙ ap (λ z. and_then (groups_of env z) (λ css. Val (so.rows ++ css))) next ∙ ap (λ z. and_then z (λ css. Val (so.rows ++ css))) (rows_cons env us (drop (suc j) uss) cs e)
            ∙ one_behind (groups_of env (drop (suc j) uss)) so.rows cs;
      }

  pub rows_end : (j : ℕ) (s1 : List ℕ) → length given ≤ j → Rows_go t uss j s0 s1 → Rows_read t uss s0 s1 (Ok tt)
  unfolding Rows_go Rows_read
  rows_end j s1 l h G env n rs row sss st g i =
      let so = h G env n rs row sss st g i in
      let none : drop j uss ≡ [] = drop_past uss j (omega (arith, l, length-map given group)) in
      let long : length (drop j uss) ≡ 0 = ap length none in
      rows_read so.rows so.ws (so.whole ∙ ap (λ z. and_then (groups_of env z) (λ css. Val (so.rows ++ css))) none ∙ ap Val (append-nil so.rows)) so.shown (omega (arith, so.many, long)) so.behind

  pub rows_stop : (s1 : List ℕ) (e : Stop) → e ≡ Memory → Rows_read t uss s0 s1 (Err e)
  unfolding Rows_read
  rows_stop s1 e q G env n rs row sss st g i = subst (λ z. RowsRead (groups_of env uss) rs row (length uss) s0 s1 (Err z)) (sym q) no_rows_read

pub ruleset readings = (rows_start, rows_more, rows_end, rows_stop)

-- ---- and put into arrays

positive : (n : ℕ) → (n ≡ 0 → ⊥) → 0 < n
positive zero ne = absurd (ne refl)
positive (suc n) ne = omega arith

module _ (given : List (Bor (List Atom))) (at : Place) (S S' : State) where
  abbrev groups : List (List Atom)
  groups = map group given

  pub literal_memory : (e : Stop) → e ≡ Memory → Literal_told groups at S S' (Err e)
  unfolding Literal_told
  literal_memory e q G env n row out sss st g i b = subst (λ z. GluedTold (and_then (groups_of env groups) (glued false at [])) out S.stack S S' (Err z)) (sym q) no_glue

  pub literal_ok : (d : Bor (List Atom)) (s1 : List ℕ) (count mark : ℕ) (r : Answer) → (length given ≡ 0 → ⊥) → count ≡ length given → mark ≡ length S.stack → Rows_read S.words groups S.stack s1 (Ok tt) → Glued_told (get_or given 0 d).now count mark at (state S.arena S.words s1) S' r → Literal_told groups at S S' r
  unfolding Rows_read Glued_told Literal_told
  literal_ok d s1 count mark r ne c m h k G env n row out sss st g i b = by_read (h G env n S.arena.arrays row sss st g i)
    where
      us : List Atom
      us = (get_or given 0 d).now

      many : length groups ≡ length given
      many = length-map given group

      sorts : sorts_at us ≡ row
      sorts = results_sorts G us row (subst (λ z. Atoms_are G z row) (get_or-map group given 0 d) (each_at G groups sss row 0 d.now (omega (arith, positive (length given) ne, many)) g i))

      by_glue : {r : Answer} (rows : List Row) → groups_of env groups ≡ Val rows → GluedTold (glued false at [] rows) out S.stack (state S.arena S.words s1) S' r → GluedTold (and_then (groups_of env groups) (glued false at [])) out S.stack S S' r
      by_glue rows e (glued_told cs ws f sh q y) = glued_told cs ws (ap (λ z. and_then z (glued false at [])) e ∙ f) sh q (record { arrays = y.arrays; handed = y.handed })
      by_glue rows e (glue_failed f) = glue_failed (ap (λ z. and_then z (glued false at [])) e ∙ f)
      by_glue rows e no_glue = no_glue

      by_rows : (rows : List Row) (ws : List ℕ) → groups_of env groups ≡ Val rows → RowsShow S.arena.arrays row rows ws → length rows ≡ length groups → s1 ≡ S.stack ++ ws → GluedTold (and_then (groups_of env groups) (glued false at [])) out S.stack S S' r
      by_rows [] ws e sh l q = absurd (ne (omega (arith, l, many)))
      by_rows (x ∷ rows) ws e sh l q =
          by_glue (x ∷ rows) e
          (k x rows S.stack ws [] out q (sym m) (subst (λ z. RowsShow S.arena.arrays z (x ∷ rows) ws) (sym sorts) sh) (l ∙ many ∙ sym c) (subst (λ z. Bundled z out) (sym sorts) b))

      by_read : RowsRead (groups_of env groups) S.arena.arrays row (length groups) S.stack s1 (Ok tt) → GluedTold (and_then (groups_of env groups) (glued false at [])) out S.stack S S' r
      by_read (rows_read rows ws e sh l q) = by_rows rows ws e sh l q

pub ruleset literals = (literal_memory)
