-- A node is noted, and levels are dropped.
use Rattle.std.proofs.Common.{◌≡◌, ℕ, ◌<◌, Bool, true, false, cond, nat_eq, List, [], ◌++◌, length, get_or, set, Option, Some, None, Result, Ok, Err, refl, sym, ap, ◌∙◌, eq-eqb}
use Rattle.std.proofs.lemmas.Bool.{eqb-true}
use Rattle.std.proofs.lemmas.List.{get_or-set_same, get_or-set_other}
use Rattle.std.specs.Borrow.{Bor}
use Rattle.sized_types.specs.Sizes.{Inferred, Size, Hole}
use Rattle.fut_sizes.specs.Steps.{State, at_node, drop, note}
use Rattle.size_arena.specs.declared.agreeing.SizeErr.TheVariants as size_err
use Rattle.size_arena.specs.declared.trees.SizeTree.{SizeTree}
use Rattle.size_arena.specs.Trees.{size_of}
use Rattle.size_program.specs.declared.tables.Tables.{Tables}
use Rattle.size_program.specs.Tables.{noted, levels_or_none, Stands}
use Rattle.size_program.specs.Answers.{runs, Steps}
use Rattle.size_program.proofs.StepLaws.{out_of_memory}

-- what is set is found again, and all else is as it was
module _ {A B : Type 0} (seen : ℕ → Option A → B) (items : List (Option A)) (before : ℕ → B) (n : ℕ) (x : A) (l : n < length items) (h : (m : ℕ) → before m ≡ seen m (get_or items m None)) where
  node_set : (b : B) → b ≡ seen n (Some x) → (m : ℕ) → at_node n b before m ≡ seen m (get_or (set items n (Some x)) m None)
  node_set b e m = by_test (nat_eq n m) refl
    where
      by_test : (t : Bool) → nat_eq n m ≡ t → cond (nat_eq n m) b (before m) ≡ seen m (get_or (set items n (Some x)) m None)
      by_test true q =
          ap (λ t. cond t b (before m)) q ∙ e
          ∙ sym (ap (λ z. seen z (get_or (set items n (Some x)) z None)) (sym (eqb-true n m q)) ∙ ap (seen n) (get_or-set_same items n (Some x) None l))
      by_test false q = ap (λ t. cond t b (before m)) q ∙ h m ∙ sym (ap (seen m) (get_or-set_other items n m (Some x) None apart))
        where
          apart : m ≡ n → ⊥
          apart z = let y = eq-eqb n m (sym z) in cc

abbrev the_levels : ℕ → Option (Bor (List ℕ)) → List ℕ
the_levels n = levels_or_none

pub note_done : (t : Tables) (n : ℕ) (x : Bor SizeTree) (nodes : List (Option (Bor SizeTree))) (u : Unit {0}) → n < length t.nodes → nodes ≡ set t.nodes n (Some x) → Steps (λ (u : Unit {0}) (y : Size). y ≡ size_of x.now) (note n (size_of x.now)) t (record { nodes = nodes; dropped = t.dropped }) (Ok u)
note_done t n x nodes u l e = record {
  steps = λ s stands.
      runs (record { nodes = at_node n (size_of x.now) s.nodes; dropped = s.dropped }) refl refl
      (record { nodes = λ m. node_set noted t.nodes s.nodes n x l stands.nodes (size_of x.now) refl m ∙ ap (λ z. noted m (get_or z m None)) (sym e); dropped = stands.dropped });
}

pub drop_done : (t : Tables) (n : ℕ) (levels : List ℕ) (all : Bor (List ℕ)) (dropped : List (Option (Bor (List ℕ)))) (u : Unit {0}) → n < length t.dropped → dropped ≡ set t.dropped n (Some all) → ((s : State) → Stands t s → all.now ≡ s.dropped n ++ levels) → Steps (λ (u : Unit {0}) (y : Unit {0}). y ≡ u) (drop n levels) t (record { nodes = t.nodes; dropped = dropped }) (Ok u)
drop_done t n levels all dropped u l e h = record {
  steps = λ s stands.
      runs (record { nodes = s.nodes; dropped = at_node n (s.dropped n ++ levels) s.dropped }) refl refl
      (record { nodes = stands.nodes; dropped = λ m. node_set the_levels t.dropped s.dropped n all l stands.dropped (s.dropped n ++ levels) (sym (h s stands)) m ∙ ap (λ z. levels_or_none (get_or z m None)) (sym e) });
}

pub ruleset notes = (note_done, out_of_memory)

pub ruleset more_drops = (drop_done, out_of_memory)

-- ---- what is read

module _ (t : Tables) (n : ℕ) (s : State) (stands : Stands t s) where
  pub node_there : (x : Bor SizeTree) → get_or t.nodes n None ≡ Some x → size_of x.now ≡ s.nodes n
  node_there x e = sym (stands.nodes n ∙ ap (noted n) e)

  pub node_nothing : get_or t.nodes n None ≡ None → Hole (Inferred n) ≡ s.nodes n
  node_nothing e = sym (stands.nodes n ∙ ap (noted n) e)

  pub levels_there : (x : Bor (List ℕ)) → get_or t.dropped n None ≡ Some x → x.now ≡ s.dropped n
  levels_there x e = sym (stands.dropped n ∙ ap levels_or_none e)

  pub levels_nothing : get_or t.dropped n None ≡ None → [] ≡ s.dropped n
  levels_nothing e = sym (stands.dropped n ∙ ap levels_or_none e)

pub ruleset nodes = (node_there, node_nothing)

pub ruleset drops = (levels_there, levels_nothing)
