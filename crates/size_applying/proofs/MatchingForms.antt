-- Arguments that are matched, one after another.
use Rattle.std.proofs.Common.{◌≡◌, ℕ, suc, ◌+◌, ◌<◌, ◌≤◌, List, [], ◌∷◌, length, get_or, drop, Bool, true, false, cond, Option, Ok, Err, refl, sym, ap, ◌∙◌, subst, add-one}
use Rattle.std.specs.Borrow.{Bor}
use Rattle.fut_types.specs.Types.{Sub}
use Rattle.fut_typing.specs.Names.{Names}
use Rattle.sized_types.specs.Sizes.{Size}
use Rattle.fut_sizes.specs.Agreeing.{Answer, then_do}
use Rattle.fut_sizes.specs.Applications.{Argument, Early, Late, Wanting, data_met, is_function}
use Rattle.fut_sizes.specs.Matching as matching
use Rattle.fut_sizes.specs.Matching.{Opened, made_at, none_opened, meet, data_way, function_way, in_opened, read}
use Rattle.size_arena.specs.declared.agreeing.SizeErr.{SizeErr}
use Rattle.size_arena.specs.declared.dims.Free as frees
use Rattle.size_arena.specs.declared.trees.SizeTree.{SizeTree}
use Rattle.size_arena.specs.Trees.{size_of}
use Rattle.size_program.specs.declared.maps.NumberMap.{NumberMap}
use Rattle.fut_flat.specs.declared.exp.Exp.{Exp}
use Rattle.size_slots.specs.declared.slots.Found.{Found}
use Rattle.size_slots.specs.Held.{Holds, Met}
use Rattle.size_slots.proofs.MeetLaws.{Told}
use Rattle.size_matching.proofs.Steps.{On, same_on, Reached, reach_start, reach_more, reach_stop, reach_end}
use Rattle.size_applying.specs.declared.arguments.Argument.TheVariants as argument
use Rattle.size_applying.specs.declared.arguments.Wanting as wantings
use Rattle.size_applying.specs.Wanted.{value_of, Is_argument, is_early, is_late, Wants, All_want, datum_met, function_met}
use Rattle.size_applying.proofs.EachLaws.{each_at, each_end, At_place}

by_argument : (m : ℕ) (a : Argument) (φ : Opened) (t : Size) (ws : List Wanting) (σ : matching.Found) → data_met (record { node = m; argument = a; opened = φ; wanted = t } ∷ ws) σ ≡ then_do (datum_met (record { node = m; argument = a; opened = φ; wanted = t }) σ) (λ found. data_met ws found)
unfolding data_met
by_argument m (Early at value named u) φ t ws σ = refl
by_argument m (Late at f) φ t ws σ = refl

data_none : (σ : matching.Found) → data_met [] σ ≡ Ok σ
unfolding data_met
data_none σ = refl

-- the arguments from one on are left
abbrev pub So_met : Found → List wantings.Wanting → Found → ℕ → Type 0
So_met f cs g i = (N : Names) (types : Sub) (ws : List Wanting) → All_want N types cs ws → Reached f (data_met ws) g (data_met (drop i ws))

pub met_start : (f : Found) (cs : List wantings.Wanting) → So_met f cs f 0
met_start f cs N types ws all = reach_start f (data_met ws)

module _ (f g : Found) (cs : List wantings.Wanting) (i : ℕ) (far : So_met f cs g i) where
  module _ (c : wantings.Wanting) (h : Found) (k : Told) (l : i < length cs) (m : (N : Names) (types : Sub) (w : Wanting) → Wants N types (get_or cs i c) w → On g (datum_met w) h k) where
    one_more : (N : Names) (types : Sub) (ws : List Wanting) (at : At_place (Wants N types) cs ws i c) (τ : matching.Found) → data_met (drop i ws) τ ≡ then_do (datum_met at.one τ) (data_met (drop (i + 1) ws))
    one_more N types ws at τ = ap (λ z. data_met z τ) at.behind ∙ by_argument at.one.node at.one.argument at.one.opened at.one.wanted (drop (suc i) ws) τ ∙ ap (λ z. then_do (datum_met at.one τ) (data_met (drop z ws))) (sym (add-one i))

    pub met_more : (x : Unit {0}) → k ≡ Ok x → So_met f cs h (i + 1)
    met_more x is N types ws all = let at : At_place (Wants N types) cs ws i c = each_at (Wants N types) all i l c in
        reach_more f g h (data_met ws) (data_met (drop i ws)) (far N types ws all) (datum_met at.one) (data_met (drop (i + 1) ws)) k x is (m N types at.one at.related) (one_more N types ws at)

    pub met_stop : (x : SizeErr) → k ≡ Err x → (N : Names) (types : Sub) (ws : List Wanting) → All_want N types cs ws → On f (data_met ws) h (Err x)
    met_stop x is N types ws all = let at : At_place (Wants N types) cs ws i c = each_at (Wants N types) all i l c in
        reach_stop f g h (data_met ws) (data_met (drop i ws)) (far N types ws all) (datum_met at.one) (data_met (drop (i + 1) ws)) k x is (m N types at.one at.related) (one_more N types ws at)

  pub met_end : length cs ≤ i → (N : Names) (types : Sub) (ws : List Wanting) → All_want N types cs ws → On f (data_met ws) g (Ok tt)
  met_end l N types ws all = reach_end f g g (data_met ws) (data_met (drop i ws)) (far N types ws all) (λ τ. ap (λ z. data_met z τ) (each_end (Wants N types) all i l) ∙ data_none τ)

-- what is wanted, as it stands in an argument's frames
pub wanted_same : (n : ℕ) (m : matching.Way) (at : ℕ) (u : Size) {φ χ ψ : Opened} {t s : Size} → φ ≡ χ → t ≡ s → ψ ≡ none_opened → (σ : matching.Found) → meet n m at χ s none_opened u σ ≡ meet n m at φ t ψ u σ
wanted_same n m at u {φ} {χ} {ψ} {t} {s} p q r σ = sym (ap (λ (z : Opened). meet n m at z t ψ u σ) p ∙ ap (λ z. meet n m at χ z ψ u σ) q ∙ ap (λ (z : Opened). meet n m at χ s z u σ) r)

-- what is matched once it is made at a node
pub made_on : (f g h : Found) (n : ℕ) (a c : matching.Found → Answer matching.Found) (r : Told) → ((σ : matching.Found) → Holds f σ → Holds g (made_at n σ)) → On g a h r → ((σ : matching.Found) → c σ ≡ a (made_at n σ)) → On f c h r
made_on f g h n a c r made meets same σ held = subst (λ z. Met z h r) (sym (same σ)) (meets (made_at n σ) (made σ held))

-- ---- one argument

module _ (N : Names) (types : Sub) where
  as_early : (n : ℕ) (value : Option frees.Free) (named : Bool) (t : Bor SizeTree) {b : Argument} → Is_argument N types (argument.Early n value named t) b → b ≡ Early n (value_of value) named (size_of t.now)
  as_early n value named t is_early = refl

  module _ (regular : Bool) (f g : Found) (c : wantings.Wanting) (r : Told) (w : Wanting) (wants : Wants N types c w) where
    module _ (at : ℕ) (value : Option frees.Free) (named : Bool) (t : Bor SizeTree) (is : c.argument ≡ argument.Early at value named t) where
      argument_is : w.argument ≡ Early at (value_of value) named (size_of t.now)
      argument_is = as_early at value named t (subst (λ z. Is_argument N types z w.argument) is wants.argument)

      datum_is : (σ : matching.Found) → datum_met w σ ≡ cond (is_function (size_of t.now)) (Ok σ) (meet w.node data_way at w.opened w.wanted none_opened (size_of t.now) (made_at w.node σ))
      datum_is σ = ap (λ z. datum_met (record { node = w.node; argument = z; opened = w.opened; wanted = w.wanted }) σ) argument_is

      function_is : (σ : matching.Found) → function_met regular w σ ≡ cond (is_function (size_of t.now)) (meet w.node (function_way regular) at w.opened w.wanted none_opened (size_of t.now) (made_at w.node σ)) (Ok σ)
      function_is σ = ap (λ z. function_met regular (record { node = w.node; argument = z; opened = w.opened; wanted = w.wanted }) σ) argument_is

      pub datum_later : true ≡ is_function (size_of t.now) → On f (datum_met w) f (Ok tt)
      datum_later e = same_on f (datum_met w) (λ σ. datum_is σ ∙ ap (λ z. cond z (Ok σ) (meet w.node data_way at w.opened w.wanted none_opened (size_of t.now) (made_at w.node σ))) (sym e))

      pub function_later : false ≡ is_function (size_of t.now) → On f (function_met regular w) f (Ok tt)
      function_later e = same_on f (function_met regular w) (λ σ. function_is σ ∙ ap (λ z. cond z (meet w.node (function_way regular) at w.opened w.wanted none_opened (size_of t.now) (made_at w.node σ)) (Ok σ)) (sym e))

    datum_late : (e : Bor Exp) (m : ℕ) (names : Bor NumberMap) {b : Argument} → Is_argument N types (argument.Late e m names) b → (φ : Opened) (t : Size) (σ : matching.Found) → datum_met (record { node = w.node; argument = b; opened = φ; wanted = t }) σ ≡ Ok σ
    datum_late e m names (is_late waits) φ t σ = refl

    pub datum_waits : (e : Bor Exp) (m : ℕ) (names : Bor NumberMap) → c.argument ≡ argument.Late e m names → On f (datum_met w) f (Ok tt)
    datum_waits e m names is = same_on f (datum_met w) (datum_late e m names (subst (λ z. Is_argument N types z w.argument) is wants.argument) w.opened w.wanted)

    function_late : (e : Bor Exp) (m : ℕ) (names : Bor NumberMap) {b : Argument} → Is_argument N types (argument.Late e m names) b → (φ : Opened) (t : Size) (σ : matching.Found) → function_met regular (record { node = w.node; argument = b; opened = φ; wanted = t }) σ ≡ Ok σ
    function_late e m names (is_late waits) φ t σ = refl

    pub function_waits : (e : Bor Exp) (m : ℕ) (names : Bor NumberMap) → c.argument ≡ argument.Late e m names → On f (function_met regular w) f (Ok tt)
    function_waits e m names is = same_on f (function_met regular w) (function_late e m names (subst (λ z. Is_argument N types z w.argument) is wants.argument) w.opened w.wanted)
