-- A program and the blocks to which it unfolds have the same outcomes.
use Rattle.std.proofs.Common.{◌≡◌, ℕ, ◌≤◌, ◌++◌, List, [], ◌∷◌, Bool, true, false, cond, refl, sym, ap, subst, arith, Option}
use Rattle.fut_scalar.specs.declared.place.BindId.{BindId}
use Rattle.fut_flat.specs.declared.prim.Ref.{Ref}
use Rattle.fut_meaning.specs.Accessors.{or_wrong}
use Rattle.fut_meaning.specs.Flats.{FlatValue, FlatTop, FlatTops, flat_names}
use Rattle.fut_meaning.specs.Found.{Told, Sizing}
use Rattle.fut_meaning.specs.Meaning.{plain}
use Rattle.fut_meaning.specs.Outcomes.{Rel, choose}
use Rattle.fut_meaning.specs.Programs.{Seen, below_names, name_node, top, evaluated}
use Rattle.fut_meaning.specs.Programs as programs
use Rattle.fut_meaning.specs.Telling as meant_of
use Rattle.fut_meaning.specs.Sames.{all_none, all_more, Sim}
use Rattle.fut_meaning.specs.Values as values
use Rattle.fut_meaning.specs.Values.{Values}
use Rattle.fut_meaning.proofs.Sims.{go_back, go_forth}
use Rattle.fut_blocks.specs.declared.block.Program.{Program}
use Rattle.fut_blocks.specs.Meaning.{Component, Names, bound, body_means}
use Rattle.fut_blocks.specs.Programs.{Program_means}
use Rattle.unfold.specs.Claims.{AddsNoOutcome, LosesNoOutcome}
use Rattle.unfold.specs.Knowns.{Known, Scope, Tops}
use Rattle.unfold.specs.Programs.{seeing, Definitions_unfold, d_none, d_reached, d_other, Program_unfolds}
use Rattle.unfold.specs.Shapes.{Shape, Shapes, All_split, Is_value}
use Rattle.unfold.specs.Telling.{is_function, enter}
use Rattle.unfold.specs.Unfolding.{Bindings}
use Rattle.unfold.proofs.Alike.{known_left, known_right}
use Rattle.unfold.proofs.Components.{scatter_all, all_length, binds_names}
use Rattle.unfold.proofs.Patterns.{listed_stand}
use Rattle.unfold.proofs.Runs.{Gives, run, none_sim, seq_sim, body_sim}
use Rattle.unfold.proofs.Simulation.{unfolds_grow, unfold_sim, applied_sim}
use Rattle.unfold.proofs.Told.{function_is}
use Rattle.unfold.proofs.Stands.{Stands, Holds, h_base, h_entered, holds_on, Tops_stand, tops_on, list_on, top_found}

module _ {told : Told} where
  pub definitions_grow : {entry : ℕ} {seen : Scope} {tops end : Tops} {ds : List FlatTop} {n m : ℕ} {bs : Bindings} → Definitions_unfold told entry seen tops ds n bs end m → n ≤ m
  definitions_grow d_none = omega arith
  definitions_grow (d_reached q p r) = omega (arith, unfolds_grow p, definitions_grow r)
  definitions_grow (d_other q r) = definitions_grow r

abbrev FlatSeen : Type 0
FlatSeen = Seen Ref BindId (Unit {0})

-- what the definitions begin with stands, with one more
seeing_holds : {sizes : Option Sizing} {d : Names Component} {n : ℕ} {s : Known} {sc : Scope} (q : ℕ) (v : FlatValue) (seen : FlatSeen) → Stands sizes d n s v → Holds sizes d n sc (below_names seen tt) → Holds sizes d n (seeing sizes q s sc) (below_names (programs.seeing q v seen) tt)
seeing_holds {sizes} {d} {n} {s} {sc} q v seen h hs = on (is_function s) (meant_of.is_function v) (function_is h)
  where
    on : (b c : Bool) → b ≡ c → Holds sizes d n (cond b sc (enter sizes q s sc)) (below_names (cond c seen ((q, v) ∷ seen)) tt)
    on true true e = hs
    on true false e = absurd cc
    on false true e = absurd cc
    on false false e = h_entered h hs

abbrev All_tops : Option Sizing → Tops → ℕ → Names Component → FlatTops → Type 0
All_tops sizes tops n e tops' = Tops_stand sizes e n tops tops'

module _ (told : Told) (tight : Bool) (budget entry : ℕ) (dir : Bool) where
  chosen : {d : Names Component} {n m : ℕ} {end : Tops} (bs : Bindings) (z y : Bool) (P Q : Rel FlatTops) → z ≡ y → Sim (Gives d n (All_tops told.sizes end m)) (run tight budget bs d) (choose y P Q) dir → Sim (Gives d n (All_tops told.sizes end m)) (run tight budget bs d) (choose z P Q) dir
  chosen {d} {n} {m} {end} bs z y P Q e s = subst (λ x. Sim (Gives d n (All_tops told.sizes end m)) (run tight budget bs d) (choose x P Q) dir) (sym e) s

  definitions_sim : {n m : ℕ} {seen : Scope} {tops end : Tops} {ds : List FlatTop} {bs : Bindings} → Definitions_unfold told entry seen tops ds n bs end m → {d : Names Component} {tops' : FlatTops} (seen' : FlatSeen) → Holds told.sizes d n seen (below_names seen' tt) → Tops_stand told.sizes d n tops tops' → Sim (Gives d n (All_tops told.sizes end m)) (run tight budget bs d) (evaluated (flat_names told) (plain tight) budget entry ds seen' tops') dir
  unfolding flat_names
  definitions_sim d_none {tops' = tops'} seen' hs ts = none_sim tight budget dir tops' refl ts
  definitions_sim {tops = tops} (d_reached {d = t} {bs = bs} {cs} q p r) {tops' = tops'} seen' hs ts =
      chosen _ _ true _ _ q
      (seq_sim tight budget dir bs cs (unfolds_grow p) (unfold_sim told tight budget tops tops' dir p ts hs)
      (λ e v x k. definitions_sim r (programs.seeing (name_node t) v seen') (seeing_holds (name_node t) v seen' k (holds_on x (unfolds_grow p) hs)) (all_more (record { number = refl; stands = k }) (tops_on x (unfolds_grow p) ts))))
  definitions_sim (d_other q r) seen' hs ts = chosen _ _ false _ _ q (definitions_sim r seen' hs ts)

  pub program_sim : {ds : List FlatTop} {hs : Shapes} {h : Shape} {p : Program} {vs : Values Ref BindId (Unit {0})} {cs : List Component} → Program_unfolds told ds entry hs h p → All_split hs vs cs [] → Sim (Is_value h) (Program_means tight budget p cs) (programs.Program_means (flat_names told) (plain tight) budget ds entry (values.listed vs)) dir
  unfolding Program_means
  program_sim {ds} {h = h} {p} {vs} {cs} u split =
      let b = binds_names 0 p.params.now u.first cs [] u.rising (all_length u.parameters split refl) in
      let a = scatter_all u.parameters split b.have in
      known_left dir (or_wrong (bound p.params.now cs [])) b.env _ _ (ap or_wrong b.is)
      (subst (λ z. Sim (Is_value h) (body_means tight budget z b.env) (programs.Program_means (flat_names told) (plain tight) budget ds entry (values.listed vs)) dir) (sym u.body)
      (body_sim tight budget dir (u.defined ++ u.applied)
      (seq_sim tight budget dir u.defined u.applied (definitions_grow u.definitions) (definitions_sim u.definitions [] h_base all_none)
      (λ e tops' x ts.
      let f = top_found e u.behind entry u.function ts u.entry_known in
      known_right dir (top tops' entry) f.value _ _ f.is (applied_sim told tight budget u.tops tops' dir u.application ts f.stands (list_on x (definitions_grow u.definitions) (listed_stand a.stand)))))
      u.laid))

pub adds_no_outcome : AddsNoOutcome
adds_no_outcome tight told budget ds entry hs h p u vs cs split o f x = go_forth (program_sim told tight budget entry.0 false u split) o f x

pub loses_no_outcome : LosesNoOutcome
loses_no_outcome tight told budget ds entry hs h p u vs cs split o f x = go_back (program_sim told tight budget entry.0 true u split) o f x
